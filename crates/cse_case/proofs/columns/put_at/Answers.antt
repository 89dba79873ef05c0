use Rattle.std.proofs.Common.{arith}
use Rattle.cse_case.proofs.BytesLaws.{set_beyond, set_plain}
use Rattle.cse_case.proofs.columns.put_at.Goals as goal

pub returns-then-code-lt128-clause-columns : goal.returns-then-code-lt128-clause-columns
returns-then-code-lt128-clause-columns c = set_plain c.args.bytes.now c.args.beside.now c.args.i c.args.column c.if-code-lt128.true

pub returns-else-code-lt128-clause-columns : goal.returns-else-code-lt128-clause-columns
returns-else-code-lt128-clause-columns c = set_beyond c.args.bytes.now c.args.beside.now c.args.i c.args.column (c.requires.beside (omega (arith, c.if-code-lt128.false)))
