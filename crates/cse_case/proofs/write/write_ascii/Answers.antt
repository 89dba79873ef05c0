use Rattle.std.proofs.Common.{◌≡◌, ◌<◌, ◌≤◌, ℕ, length, get_or, refl, subst, arith}
use Rattle.std.proofs.lemmas.Bool.{ltb-true}
use Rattle.cse_lemmas.proofs.Numbers.{bit_or_bounds_more}
use Rattle.cse_case.specs.Bytes.{beside_lent}
use Rattle.cse_case.proofs.BytesLaws.{length-columns_by}
use Rattle.cse_case.proofs.WriteLaws.{bytes_more, own_bytes}
use Rattle.cse_case.proofs.write.write_ascii.Goals as goal

pub bounds-bytes-i : goal.bounds-bytes-i
bounds-bytes-i c = omega (arith, c.requires, c.columns-test.true, c.columns.auto.bytes, length-columns_by c.args.columns.bytes.now (beside_lent c.args.columns))

pub columns-preserved : goal.columns-preserved
columns-preserved c =
    let ascii = c.args.columns.bytes.now in
    record {
      same = bytes_more ascii c.columns.bytes c.columns.i (bounds-bytes-i c) c.columns.invariant.same;
      low = bit_or_bounds_more ascii c.columns.i c.columns.bits (get_or ascii c.columns.i 0) refl c.columns.invariant.low;
    }

pub returns : goal.returns
returns c = λ low.
    let ascii = c.args.columns.bytes.now in
    let beside = (beside_lent c.args.columns) in
    let all : c.columns.i ≡ length ascii = omega arith in
    own_bytes ascii beside c.columns.bytes c.columns.bits (omega (arith, c.requires, c.columns.auto.bytes, length-columns_by ascii beside))
    (subst (λ n. (k : ℕ) → k < n → get_or c.columns.bytes k 0 ≡ get_or ascii k 0) all c.columns.invariant.same)
    (subst (λ n. (k : ℕ) → k < n → get_or ascii k 0 ≤ c.columns.bits) all c.columns.invariant.low) (ltb-true c.columns.bits 128 low)
