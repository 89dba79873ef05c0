use Rattle.std.proofs.Common.{subst, Some}
use Rattle.cse_syntax_tree.proofs.Rows.{indexed_is}
use Rattle.cse_syntax_tree.specs.Tree.{Expr, expr}
use Rattle.cse_syntax.specs.Reading.{Reads}
use Rattle.cse_syntax.proofs.parser.Parser.indexed.Goals as goal

pub returns : goal.returns
returns c = subst (λ (t : Expr). Reads expr (λ ws. Some (t, ws)) c.expression_of.result c.args.self.now.rest.now c.args.self.now.rest.now) (indexed_is c.args.name c.args.arguments) c.expression_of.ensures
