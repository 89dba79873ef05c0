use Rattle.std.proofs.Common.{◌≡◌, ◌∙◌, ap, map}
use Rattle.std.specs.Prelude.{nat_eq, position}
use Rattle.cse_value.specs.declared.shape.SetShape.{SetShape}
use Rattle.cse_dict.specs.Dictionary.{SetText}
use Rattle.cse_logic_faults.proofs.set.place_of_set.Goals as goal
use Rattle.cse_logic_names.proofs.Sets.{first_set_is}

pub returns-clause-place : goal.returns-clause-place
returns-clause-place c =
    let d = c.args.dictionary.now in
    let sets : c.deref.result.now ≡ map (λ (s : SetText). s.shape) d.sets = c.deref.ensures.value ∙ ap (λ s. s.sets) c.shape.ensures.shape in
    c.place_among.ensures.place ∙ ap (position (λ (x : SetShape). nat_eq x.item c.args.item)) sets ∙ first_set_is d c.args.item
