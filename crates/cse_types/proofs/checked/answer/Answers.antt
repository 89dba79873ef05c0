use Rattle.std.proofs.Common.{ap, ◌∙◌, sym, subst, option_map}
use Rattle.cse_syntax_tree.specs.Tree as syntax
use Rattle.cse_logic_tree.specs.Typed as typed
use Rattle.cse_types.specs.Checked.{Checked}
use Rattle.cse_types.specs.JudgeTree.{typed_of}
use Rattle.cse_logic_names.specs.Walk.{is_there}
use Rattle.cse_logic_names.specs.WellTyped.{IsTypedAs}
use Rattle.cse_types.proofs.JudgedTrees.{typed_right, typed_only}
use Rattle.cse_types.proofs.CheckLaws.{same_tree, no_tree, checked_so}
use Rattle.cse_types.proofs.checked.answer.Goals as goal

pub told-requires : goal.told-requires
told-requires c = ap is_there (sym c.requires.found ∙ ap (option_map typed.tree) c.in-None.is)

pub returns-in-None-clause-only : goal.returns-in-None-clause-only
returns-in-None-clause-only c = λ t h.
    let d = c.args.dictionary.now in
    let m = c.args.messages.now in
    let x = syntax.tree c.args.source.now.tree in
    absurd (no_tree (typed_of d m x) t (sym c.requires.found ∙ ap (option_map typed.tree) c.in-None.is) (typed_only d m x t h))

pub made_for-requires : goal.made_for-requires
made_for-requires c =
    let d = c.args.dictionary.now in
    let m = c.args.messages.now in
    let x = syntax.tree c.args.source.now.tree in
    let is = sym c.requires.found ∙ ap (option_map typed.tree) c.in-Some.is in
    checked_so d m c.args.order.now x _ (typed.tree c.in-Some.tree) (typed_right d m x (typed.tree c.in-Some.tree) is) c.args.source.now.is_source c.requires.order c.requires.utf8 c.requires.texts

pub returns-in-Some-clause-sound : goal.returns-in-Some-clause-sound
returns-in-Some-clause-sound c =
    let d = c.args.dictionary.now in
    let m = c.args.messages.now in
    let x = syntax.tree c.args.source.now.tree in
    let is = sym c.requires.found ∙ ap (option_map typed.tree) c.in-Some.is in
    subst (λ (y : Checked). IsTypedAs d m x y.tree) (sym c.made_for.ensures) (typed_right d m x (typed.tree c.in-Some.tree) is)

pub returns-in-Some-clause-only : goal.returns-in-Some-clause-only
returns-in-Some-clause-only c = λ t h.
    let d = c.args.dictionary.now in
    let m = c.args.messages.now in
    let x = syntax.tree c.args.source.now.tree in
    let is = sym c.requires.found ∙ ap (option_map typed.tree) c.in-Some.is in
    ap (λ (y : Checked). y.tree) c.made_for.ensures ∙ same_tree (typed.tree c.in-Some.tree) t (typed_of d m x) (sym is) (typed_only d m x t h)
