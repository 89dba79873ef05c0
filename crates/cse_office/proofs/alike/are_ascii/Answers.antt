use Rattle.std.proofs.Common.{◌≡◌, get_or, inl, inr, arith}
use Rattle.std.proofs.lemmas.Bool.{cases_lt}
use Rattle.std.proofs.lemmas.Nat.{le_or_l, le_or_r}
use Rattle.cse_office.proofs.alike.are_ascii.Goals as goal

pub bytes-preserved : goal.bytes-preserved
bytes-preserved c k h =
    let i = c.bytes.i in
    let byte = get_or c.args.bytes.now i 0 in
    elim (cases_lt k i) [
      | inl below ↦ let before = c.bytes.invariant k below in omega (arith, le_or_l c.bytes.bits byte)
      | inr above ↦ let last : k ≡ i = omega arith in rw last (le_or_r c.bytes.bits byte)
    ]
