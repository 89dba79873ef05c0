use Rattle.std.proofs.Common.{sym, arith}
use Rattle.cse_logic_tree.specs.Typed.{number}
use Rattle.cse_logic_expressions.proofs.Subscripts.{sole_else}
use Rattle.cse_logic_expressions.proofs.item.only_one.Goals as goal

pub returns-then-len-ne1 : goal.returns-then-len-ne1
returns-then-len-ne1 c = sym (sole_else number c.args.subscripts.items (λ e. omega (arith, e, c.len.ensures, c.if-len-ne1.true)))
