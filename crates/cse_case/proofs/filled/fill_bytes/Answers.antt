use Rattle.std.proofs.lemmas.List.{take_all}
use Rattle.std.proofs.Common.{arith, ap, length, take, ◌∙◌}
use Rattle.cse_case.proofs.filled.fill_bytes.Goals as goal

pub returns-else-len-clause-same : goal.returns-else-len-clause-same
returns-else-len-clause-same c = take_all (length c.args.bytes.now.items) c.args.bytes.now.items (omega arith)

pub returns-else-len-clause-wide : goal.returns-else-len-clause-wide
returns-else-len-clause-wide c = omega arith

pub returns-else-len-clause-room : goal.returns-else-len-clause-room
returns-else-len-clause-room c = omega (arith, c.if-len.false, c.len.ensures, c.args.bytes.now.ok.0)

pub returns-else-len-clause-least : goal.returns-else-len-clause-least
returns-else-len-clause-least c = omega arith
