-- Words for the clauses: what was made of statements, if they are sound, and a message as it was parsed.
use Rattle.std.specs.Prelude.{Bool, List, map, Option}
use Rattle.std.specs.Global.{Vec}
use Rattle.std.specs.Option.{option_map}
use Rattle.cse_syntax_tree.specs.declared.tree.Expression as parsedexpression
use Rattle.cse_syntax_tree.specs.declared.tree.Message as parsedmessage
use Rattle.cse_syntax_tree.specs.Tree as syntax
use Rattle.cse_logic_tree.specs.declared.tree.Arm as rustarm
use Rattle.cse_logic_tree.specs.declared.tree.Statement as ruststatement
use Rattle.cse_logic_tree.specs.Typed as typed

abbrev pub block_made : Option (Vec ruststatement.Statement) → Option typed.Statements
block_made made = option_map (λ v. typed.block v.items) made

abbrev pub arms_made : Option (Vec rustarm.Arm) → Option (List (typed.Number × typed.Statements))
arms_made made = option_map (λ v. map typed.arm_tree v.items) made

-- a message with its values
abbrev pub said : parsedmessage.Message → List parsedexpression.Expression → Bool → syntax.Stmt
said message values is_summary = syntax.ErrMsg (syntax.message message) (syntax.exprs (map syntax.expr values)) is_summary
