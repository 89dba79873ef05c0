use Rattle.std.proofs.Common.{◌≡◌, map, drop}
use Rattle.cse_image_parts.specs.Pieces.{kinds_left}
use Rattle.cse_image_parts.specs.Placeholders.{message_kinds}
use Rattle.cse_syntax_tree.specs.Tree.{expr, exprs}
use Rattle.cse_logic_tree.specs.Typed.{argument}
use Rattle.cse_logic_expressions.specs.JudgeStatement.{judge_arguments}
use Rattle.cse_logic_names.specs.Walk.{so_far}
use Rattle.cse_logic_expressions.proofs.errmsg.arguments.Given as goal

abbrev pub invariant-all : goal.invariant-all
invariant-all l = so_far l.is_sound (map argument l.found.items) (judge_arguments l.scope (kinds_left l.kinds) (exprs (map expr (drop l.x-index l.values.items)))) ≡ judge_arguments l.scope (message_kinds l.text) (exprs (map expr l.values.items))
