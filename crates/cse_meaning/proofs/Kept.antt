-- 64 bits hold the turns of each `do` of a source.
use Rattle.std.proofs.Common.{◌≡◌, ℕ, zero, suc, ◌/◌, ◌≤◌, ℤ, pos, negsuc, Bool, true, false, List, refl, sym, ap, ◌∙◌, subst, arith, le_trans, div-mul-le_self, div-le_self}
use Rattle.std.specs.Prelude.{◌^◌, ◌+ℤ◌, ◌-ℤ◌, ◌≤ℤ◌, neg_ℤ, int_div, ◌==◌}
use Rattle.std.proofs.lemmas.Int.{ints}
use Rattle.std.proofs.lemmas.Bool.{lt-ltb, eqb-true}
use Rattle.std.proofs.lemmas.Nat.{le-div}
use Rattle.cse_value.specs.declared.number.Num.TheVariants.{Whole}
use Rattle.cse_value.specs.declared.shape.RecordShape.{RecordShape}
use Rattle.cse_value.specs.Number.{fits_i64, is_zero}
use Rattle.cse_value.specs.Occurrences.{most_occurrences}
use Rattle.cse_syntax_tree.specs.declared.tree.Count.TheVariants as counts
use Rattle.cse_logic_tree.specs.Typed.{Limit, Fixed, Counted, Counting}
use Rattle.cse_compile.specs.Statements as emit
use Rattle.cse_compile.specs.Statements.{as_limit, least, greatest}
use Rattle.cse_meaning.specs.Statements.{no_less, turns}
use Rattle.cse_meaning.specs.Plain.{MayBe, KeepsTurns}
use Rattle.cse_meaning.proofs.Turns.{uncut}

-- ---- numbers

-- below so many on both sides
pub record IsNear (m : ℕ) (z : ℤ) : Type 0 where
  pub above : neg_ℤ (pos m) ≤ℤ z
  pub below : z ≤ℤ pos m

near_fits : (z : ℤ) → IsNear 4000000000 z → fits_i64 z ≡ true
near_fits (pos n) h = let b = h.below in lt-ltb n (2 ^ 63) (omega (arith, ints))
near_fits (negsuc n) h = let a = h.above in lt-ltb n (2 ^ 63) (omega (arith, ints))

div_more : (n m k : ℕ) → 1 ≤ k → n ≤ m → n / k ≤ m / k
div_more n m k some h = le-div (n / k) m k (omega (arith, some)) (le_trans (div-mul-le_self n k) h)

none_below : (m : ℕ) → no_less (neg_ℤ (pos m)) ≡ 0
none_below zero = refl
none_below (suc m) = refl

few : (z y : ℤ) (k : ℕ) → 1 ≤ k → z ≤ℤ y → IsNear 4000000000 y → no_less (int_div z (pos k)) ≤ as_limit (Whole (int_div y (pos k)))
few (negsuc i) y k some le near = let e = none_below (suc i / k) in omega (arith, e)
few (pos n) (pos m) k some le near =
    let b = near.below in
    let more = div_more n m k some (omega (arith, ints)) in
    let less = div-le_self m k in
    omega (arith, ints)
few (pos n) (negsuc m) k some le near = absurd (let z : ⊥ = omega (arith, ints) in z)

not_zero : (k : ℕ) → 1 ≤ k → is_zero (pos k) ≡ false
not_zero k some = by (k == 0) refl
  where
    by : (b : Bool) → (k == 0) ≡ b → b ≡ false
    by false e = refl
    by true e = let z = eqb-true k 0 e in absurd (let w : ⊥ = omega (arith, some, z) in w)

near_quotient : (z : ℤ) (k : ℕ) → IsNear 4000000000 z → IsNear 4000000000 (int_div z (pos k))
near_quotient (pos n) k h = let b = h.below in let less = div-le_self n k in record { above = omega (arith, ints); below = omega (arith, ints) }
near_quotient (negsuc n) k h = let a = h.above in let less = div-le_self (suc n) k in record { above = omega (arith, ints); below = omega (arith, ints) }

-- ---- turns

module _ (a b : ℤ) (k : ℕ) (some : 1 ≤ k) (small : k ≤ 999) (na : IsNear 999999999 a) (nb : IsNear 999999999 b) where
  abbrev span : ℤ
  span = (b -ℤ a) +ℤ pos k

  near_between : IsNear 4000000000 (b -ℤ a)
  near_between = let p = na.above in let q = na.below in let r = nb.above in let s = nb.below in record { above = omega (arith, ints); below = omega (arith, ints) }

  near_span : IsNear 4000000000 span
  near_span = let p = na.above in let q = na.below in let r = nb.above in let s = nb.below in record { above = omega (arith, ints); below = omega (arith, ints) }

  between_fits : fits_i64 (b -ℤ a) ≡ true
  between_fits = near_fits (b -ℤ a) near_between

  span_fits : fits_i64 span ≡ true
  span_fits = near_fits span near_span

  quotient_fits : fits_i64 (int_div span (pos k)) ≡ true
  quotient_fits = near_fits (int_div span (pos k)) (near_quotient span k near_span)

  -- nothing is cut
  reckoned : emit.turns a b (pos k) ≡ Whole (int_div span (pos k))
  reckoned = uncut a b (pos k) between_fits span_fits (not_zero k some) quotient_fits

-- between other limits there are no more turns than between the least and the greatest
few_turns : (a b least greatest : ℤ) (k : ℕ) → 1 ≤ k → k ≤ 999 → IsNear 999999999 least → IsNear 999999999 greatest → least ≤ℤ a → b ≤ℤ greatest → turns a b (pos k) ≤ as_limit (emit.turns least greatest (pos k))
few_turns a b least greatest k some small nl ng low high =
    subst (λ n. turns a b (pos k) ≤ as_limit n) (sym (reckoned least greatest k some small nl ng))
    (few ((b -ℤ a) +ℤ pos k) ((greatest -ℤ least) +ℤ pos k) k some (omega (arith, ints)) (near_span least greatest k some small nl ng))

-- ---- limits

module _ (rs : List RecordShape) (most : (of : ℕ) → most_occurrences rs of ≤ 9999) where
  abbrev pub IsNearLimit : Limit → Type 0
  IsNearLimit (Fixed x) = IsNear 999999999 x.value
  IsNearLimit (Counted count name of) = Unit {0}

  record IsBetween (l : Limit) (a : ℤ) : Type 0 where
    low : least rs l ≤ℤ a
    high : a ≤ℤ greatest rs l
    near : IsNear 999999999 a
    near_low : IsNear 999999999 (least rs l)
    near_high : IsNear 999999999 (greatest rs l)

  between : (l : Limit) (a : ℤ) → IsNearLimit l → MayBe rs l a → IsBetween l a
  between (Fixed x) a near is = record {
    low = omega (arith, ints, is);
    high = omega (arith, ints, is);
    near = subst (IsNear 999999999) (sym is) near;
    near_low = near;
    near_high = near;
  }
  between (Counted counts.MaxOcc name of) a near is =
      let m = most of in
      let small : IsNear 999999999 (pos (most_occurrences rs of)) = record { above = omega (arith, ints); below = omega (arith, ints) } in
      record { low = omega (arith, ints, is); high = omega (arith, ints, is); near = subst (IsNear 999999999) (sym is) small; near_low = small; near_high = small }
  between (Counted counts.TotOcc name of) a near is =
      let m = most of in
      let e = is.1 in
      let le = is.2 in
      record {
        low = omega (arith, ints, e);
        high = omega (arith, ints, e, le);
        near = record { above = omega (arith, ints, e); below = omega (arith, ints, e, le) };
        near_low = record { above = omega (arith, ints); below = omega (arith, ints) };
        near_high = record { above = omega (arith, ints); below = omega (arith, ints) };
      }

  -- limits of nine digits and a step of three, as the grammar has them
  pub keeps : (x : Counting) (k : ℕ) → x.step ≡ pos k → 1 ≤ k → k ≤ 999 → IsNearLimit x.start → IsNearLimit x.stop → KeepsTurns rs x
  keeps x k step some small start stop a b first last =
      let p = between x.start a start first in
      let q = between x.stop b stop last in
      record {
        between = between_fits a b k some small p.near q.near;
        more = subst (λ s. fits_i64 ((b -ℤ a) +ℤ s) ≡ true) (sym step) (span_fits a b k some small p.near q.near);
        some = subst (λ s. is_zero s ≡ false) (sym step) (not_zero k some);
        parts = subst (λ s. fits_i64 (int_div ((b -ℤ a) +ℤ s) s) ≡ true) (sym step) (quotient_fits a b k some small p.near q.near);
        few = subst (λ s. turns a b s ≤ as_limit (emit.turns (least rs x.start) (greatest rs x.stop) s)) (sym step)
            (few_turns a b (least rs x.start) (greatest rs x.stop) k some small p.near_low q.near_high p.low q.high);
      }
