use Rattle.std.proofs.Common.{subst, Some}
use Rattle.cse_syntax_tree.proofs.Rows.{for_is}
use Rattle.cse_syntax_tree.specs.Tree.{Stmt, stmt}
use Rattle.cse_syntax.specs.Reading.{Reads}
use Rattle.cse_syntax.proofs.parser.Parser.for_node.Goals as goal

pub returns : goal.returns
returns c = subst (λ (t : Stmt). Reads stmt (λ ws. Some (t, ws)) c.statement_of.result c.args.self.now.rest.now c.args.self.now.rest.now) (for_is c.args.variable c.args.record_name c.args.body) c.statement_of.ensures
