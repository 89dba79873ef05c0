use Rattle.std.proofs.Common.{subst}
use Rattle.cse_syntax_tree.proofs.Rows.{chain_is}
use Rattle.cse_syntax_tree.specs.Tree.{Expr, expr}
use Rattle.cse_syntax.specs.Reading.{Makes}
use Rattle.cse_syntax.proofs.expression.chain_of.Goals as goal

pub returns : goal.returns
returns c = subst (λ (t : Expr). Makes expr c.made.result t) (chain_is c.args.first c.args.rest) c.made.ensures
