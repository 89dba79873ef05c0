use Rattle.std.proofs.Common.{arith}
use Rattle.std.proofs.lemmas.Bool.{leb-true}
use Rattle.cse_office.proofs.AlikeLaws.{beside_past}
use Rattle.cse_office.proofs.alike.have_none_beside.Goals as goal

pub returns-clause-before : goal.returns-clause-before
returns-clause-before c e = beside_past c.args.before.bytes.now c.args.before.beside.now c.args.before.first (omega arith)

pub returns-clause-after : goal.returns-clause-after
returns-clause-after c e = beside_past c.args.after.bytes.now c.args.after.beside.now c.args.after.first (omega (arith, leb-true))
