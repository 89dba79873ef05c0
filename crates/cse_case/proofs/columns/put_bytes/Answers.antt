use Rattle.std.proofs.Common.{◌≡◌, get_or, inl, inr, ◌∙◌, arith}
use Rattle.std.proofs.lemmas.Bool.{cases_lt, ltb-false}
use Rattle.std.proofs.lemmas.List.{ext_get_or, get_or-set_other, get_or-set_same}
use Rattle.std.proofs.lemmas.Nat.{le_or_l, le_or_r, or_lt}
use Rattle.cse_case.proofs.columns.put_bytes.Goals as goal

pub bytes-preserved : goal.bytes-preserved
bytes-preserved c =
    let bytes = c.args.bytes.now in
    let characters = c.bytes.characters in
    let i = c.bytes.i in
    let byte = get_or bytes i 0 in
    record {
      same = λ k h. elim (cases_lt k i) [
        | inl below ↦ get_or-set_other characters i k byte 0 (λ e. absurd (omega arith)) ∙ c.bytes.invariant.same k below
        | inr above ↦ let last : k ≡ i = omega arith in rw last (get_or-set_same characters i byte 0 (omega (arith, c.requires, c.bytes-test.true, c.bytes.auto.characters)))
      ];
      low = λ k h. elim (cases_lt k i) [
        | inl below ↦ let before = c.bytes.invariant.low k below in omega (arith, le_or_l c.bytes.bits byte)
        | inr above ↦ let last : k ≡ i = omega arith in rw last (le_or_r c.bytes.bits byte)
      ];
      beyond = λ ascii. or_lt 7 c.bytes.bits byte (c.bytes.invariant.beyond (λ k below. ascii k (omega arith))) (ascii i (omega arith));
    }

pub returns-clause-characters : goal.returns-clause-characters
returns-clause-characters c = ext_get_or 0 _ _ (omega arith) (λ k h. c.bytes.invariant.same k (omega arith))

pub returns-clause-beyond : goal.returns-clause-beyond
returns-clause-beyond c above ascii = omega (arith, ltb-false c.bytes.bits 128 above, c.bytes.invariant.beyond (λ k _. ascii k))
