use Rattle.std.proofs.Common.{◌≡◌, ◌++◌, map, drop}
use Rattle.cse_image_parts.specs.Pieces.{kinds_left}
use Rattle.cse_image_parts.specs.Placeholders.{message_kinds}
use Rattle.cse_syntax_tree.specs.Tree.{expr, exprs}
use Rattle.cse_logic_faults.specs.FaultsOfStatements.{arguments_faults}
use Rattle.cse_logic_faults.proofs.message.arguments.Given as goal

abbrev pub invariant-all : goal.invariant-all
invariant-all l =
    l.found ++ arguments_faults l.counts l.scope (kinds_left l.kinds) (exprs (map expr (drop l.x-index l.values.items)))
    ≡ l.initial.found ++ arguments_faults l.counts l.scope (message_kinds l.text) (exprs (map expr l.values.items))
