use Rattle.std.proofs.Common.{◌≡◌, Option, IfOk, ap, ◌∙◌, subst}
use Rattle.std.specs.Prelude.{option_map}
use Rattle.cse_syntax_tree.specs.Tree as syntax
use Rattle.cse_logic_tree.specs.Typed as typed
use Rattle.cse_types.specs.TreeOver.{with_entries}
use Rattle.cse_types.specs.Entries.{are_said}
use Rattle.cse_types.specs.Parts.{parts_tree}
use Rattle.cse_logic_names.specs.WellTyped.{tree_messages}
use Rattle.cse_types.proofs.parts.tree_in.Goals as goal

pub tree_of-requires : goal.tree_of-requires
tree_of-requires c = ap are_said c.in-Ok.ensures.told ∙ c.requires

pub returns : goal.returns
returns c =
    let m = c.args.messages.now in
    let x = syntax.tree c.args.tree.now in
    subst (λ (o : Option typed.Tree). IfOk c.tree_of.result (λ r. option_map typed.tree r ≡ o))
    (ap (λ ms. option_map (with_entries m ms) (option_map parts_tree c.in-Ok.parts)) c.in-Ok.ensures.told
    ∙ ap (option_map (with_entries m (tree_messages x))) c.in-Ok.ensures.value) c.tree_of.ensures
