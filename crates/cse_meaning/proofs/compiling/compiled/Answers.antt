use Rattle.std.proofs.Common.{◌∙◌, ap, subst}
use Rattle.cse_dict.specs.Dictionary.{DictionaryText, shape_of}
use Rattle.cse_dict.specs.Sound.{IsSound as IsSoundDictionary}
use Rattle.cse_logic_tree.specs.Typed.{tree}
use Rattle.cse_types.specs.Answer.{checked}
use Rattle.cse_meaning.specs.Given.{ShapeFits}
use Rattle.cse_meaning.proofs.Promises.{reasons_alone, no_room, within_limits, long_at_cost}
use Rattle.cse_meaning.proofs.compiling.compiled.Goals as goal

pub returns-clause-others : goal.returns-clause-others
returns-clause-others c =
    let sound = subst (λ (d : DictionaryText). IsSoundDictionary d) c.dictionary-dictionary.ensures c.shape-sound.ensures.sound in
    reasons_alone (checked c.args.typed.now) sound c.args.typed.now.is_checked _ _ _ c.dictionary-dictionary.ensures (c.records.ensures ∙ c.order.ensures) (ap tree c.tree.ensures)
    c.program_of.result c.program_of.ensures.others

pub returns-clause-cost : goal.returns-clause-cost
returns-clause-cost c =
    let sound = subst (λ (d : DictionaryText). IsSoundDictionary d) c.dictionary-dictionary.ensures c.shape-sound.ensures.sound in
    long_at_cost (checked c.args.typed.now) sound c.args.typed.now.is_checked _ _ _ c.dictionary-dictionary.ensures (c.records.ensures ∙ c.order.ensures) (ap tree c.tree.ensures)
    c.program_of.result c.program_of.ensures.cost

pub returns-clause-room : goal.returns-clause-room
returns-clause-room c =
    let sound = subst (λ (d : DictionaryText). IsSoundDictionary d) c.dictionary-dictionary.ensures c.shape-sound.ensures.sound in
    no_room (checked c.args.typed.now) sound c.args.typed.now.is_checked _ _ _ c.dictionary-dictionary.ensures (c.records.ensures ∙ c.order.ensures) (ap tree c.tree.ensures)
    c.program_of.result c.program_of.ensures.room

pub returns-clause-within : goal.returns-clause-within
returns-clause-within c =
    let sound = subst (λ (d : DictionaryText). IsSoundDictionary d) c.dictionary-dictionary.ensures c.shape-sound.ensures.sound in
    let shape = subst ShapeFits (c.shape-sound.ensures.shape ∙ ap shape_of c.dictionary-dictionary.ensures) c.read_shape.ensures in
    within_limits (checked c.args.typed.now) sound c.args.typed.now.is_checked _ _ _ c.dictionary-dictionary.ensures (c.records.ensures ∙ c.order.ensures) (ap tree c.tree.ensures)
    c.program_of.result shape c.program_of.ensures.room
