use Rattle.std.proofs.Common.{◌≡◌, Option, subst}
use Rattle.std.specs.Prelude.{IfOk, option_map}
use Rattle.cse_syntax_tree.specs.Tree as syntax
use Rattle.cse_logic_tree.specs.Typed as typed
use Rattle.cse_types.proofs.PartLaws.{sound_value, unsound_value}
use Rattle.cse_types.proofs.parts.judged.Goals as goal

pub returns-then-is_sound : goal.returns-then-is_sound
returns-then-is_sound c =
    let d = c.args.dictionary.now in
    let m = c.args.messages.now in
    let x = syntax.tree c.args.tree.now in
    subst (λ (o : Option typed.Tree). IfOk c.tree_with.result (λ r. option_map typed.tree r ≡ o))
    (sound_value d m x c.in_ok-table.table c.in_ok-are_apart.are_apart c.both_hold-is_sound.result c.in_ok-table.ensures c.in_ok-are_apart.ensures c.both_hold-is_sound.ensures c.if-is_sound.true) c.tree_with.ensures

pub returns-else-is_sound : goal.returns-else-is_sound
returns-else-is_sound c =
    let d = c.args.dictionary.now in
    let m = c.args.messages.now in
    let x = syntax.tree c.args.tree.now in
    unsound_value d m x c.in_ok-table.table c.in_ok-are_apart.are_apart c.both_hold-is_sound.result c.in_ok-table.ensures c.in_ok-are_apart.ensures c.both_hold-is_sound.ensures c.if-is_sound.false
