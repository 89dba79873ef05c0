-- Laws of numbers.
use Rattle.std.proofs.Common.{◌≡◌, zero, suc, ◌%◌, ◌^◌, true, false, ℤ, pos, negsuc, ap, ◌∙◌, arith, FitsSigned, w64}
use Rattle.std.proofs.lemmas.Int.{ints}
use Rattle.std.specs.Prelude.{nat_lt, ◌==◌, if◌then◌else◌}
use lib.Signed.{le_z, lt_z}
use Rattle.std.proofs.Math.Nat.{mod-eq_of_lt}
use Rattle.cse_value.specs.Number.{cut, remainder_of}
use Rattle.cse_value.specs.declared.number.Num.TheVariants.{Whole, Undef}

-- a number that is not below 0 but below the divisor is its own remainder
pub below_divisor : (x y : ℤ) → FitsSigned w64 x → le_z (pos 0) x ≡ true → lt_z x y ≡ true → remainder_of (Whole x) (Whole y) ≡ Whole x
below_divisor (pos n) (pos zero) fits least low = absurd (omega (arith, ints, low))
below_divisor (pos n) (pos (suc m)) fits least low =
    let same : n % suc m ≡ n = mod-eq_of_lt (omega (arith, ints, low)) in
    let fitting : nat_lt n (2 ^ 63) ≡ true = grind (arith, fits) in
    let some : (suc m == 0) ≡ false = grind arith in
    ap (λ b. if b then Undef else cut (pos (n % suc m))) some ∙ ap (λ k. cut (pos k)) same ∙ ap (λ b. if b then Whole (pos n) else Undef) fitting
below_divisor (pos n) (negsuc m) fits least low = absurd (omega (arith, ints, low))
below_divisor (negsuc n) y fits least low = absurd (omega (arith, ints, least))
