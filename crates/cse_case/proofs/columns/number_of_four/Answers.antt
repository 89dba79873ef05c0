use Rattle.std.proofs.lemmas.Nat.{le_bytes_4}
use Rattle.std.proofs.Common.{arith}
use Rattle.cse_case.proofs.columns.number_of_four.Goals as goal

pub returns : goal.returns
returns c = le_bytes_4 c.args.bytes.now c.from_le_bytes.result c.requires (λ i. omega (arith, c.type_inv.bytes i)) c.from_le_bytes.ensures
