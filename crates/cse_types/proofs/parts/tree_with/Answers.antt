use Rattle.std.proofs.Common.{◌≡◌, Option, IfOk, ap, subst}
use Rattle.std.specs.Prelude.{option_map}
use Rattle.cse_syntax_tree.specs.Tree as syntax
use Rattle.cse_logic_tree.specs.Typed as typed
use Rattle.cse_types.specs.TreeOver.{parts_judged, with_entries}
use Rattle.cse_logic_names.specs.Scope.{Scope}
use Rattle.cse_logic_names.specs.WellTyped.{tree_messages}
use Rattle.cse_types.proofs.parts.tree_with.Goals as goal

pub returns-in-Ok : goal.returns-in-Ok
returns-in-Ok c =
    let x = syntax.tree c.args.tree.now in
    subst (λ (o : Option typed.Tree). IfOk c.tree_in.result (λ r. option_map typed.tree r ≡ o))
    (ap (λ (s : Scope). option_map (with_entries c.args.messages.now (tree_messages x)) (parts_judged s x)) c.in-Ok.ensures) c.tree_in.ensures
