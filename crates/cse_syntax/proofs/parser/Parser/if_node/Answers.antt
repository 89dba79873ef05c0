use Rattle.std.proofs.Common.{subst, Some}
use Rattle.cse_syntax_tree.proofs.Rows.{if_is}
use Rattle.cse_syntax_tree.specs.Tree.{Stmt, stmt}
use Rattle.cse_syntax.specs.Reading.{Reads}
use Rattle.cse_syntax.proofs.parser.Parser.if_node.Goals as goal

pub returns : goal.returns
returns c = subst (λ (t : Stmt). Reads stmt (λ ws. Some (t, ws)) c.statement_of.result c.args.self.now.rest.now c.args.self.now.rest.now) (if_is c.args.first c.args.others c.args.otherwise) c.statement_of.ensures
