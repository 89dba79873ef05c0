-- The size that digits write, and the rows of sets.
use Rattle.std.proofs.Common.{◌≡◌, ◌≤◌, ◌<◌, ℕ, Bool, true, false, List, Option, Some, None, refl, sym, ap, ◌∙◌, arith}
use Rattle.std.specs.Prelude.{◌&&◌, nat_le, if◌then◌else◌}
use Rattle.std.proofs.lemmas.Bool.{leb-true, leb-false, le-leb, false≢true, and_parts}
use Rattle.std.proofs.Common.{◌⊎◌, inl, inr, ⊎_elim}
use Rattle.cse_syntax_tree.specs.Leaf.{is_within, is_digits, number_of, MOST}
use Rattle.cse_logic_names.specs.WellTyped.{size_in, size_fit}

size_is : (most : ℕ) (digits : List ℕ) → size_in most digits ≡ (if is_digits digits && (nat_le 1 (number_of digits) && nat_le (number_of digits) most) then Some (number_of digits) else None)
unfolding size_in is_within
size_is most digits = refl

within_is : (digits : List ℕ) → is_within 0 MOST digits ≡ (is_digits digits && (nat_le 0 (number_of digits) && nat_le (number_of digits) MOST))
unfolding is_within
within_is digits = refl

pub size_there : (most : ℕ) (digits : List ℕ) → is_within 0 MOST digits ≡ true → size_fit most (number_of digits) ≡ size_in most digits
size_there most digits h =
    let e = (and_parts (is_digits digits) (nat_le 0 (number_of digits) && nat_le (number_of digits) MOST) (sym (within_is digits) ∙ h)).0 in
    sym (size_is most digits ∙ ap (λ b. if b && (nat_le 1 (number_of digits) && nat_le (number_of digits) most) then Some (number_of digits) else None) e)

no_size : (n : ℕ) (a b c : Bool) → (b ≡ false) ⊎ (c ≡ false) → None ≡ (if b && (a && c) then Some n else None)
no_size n a b c h = by a b c h
  where
    by : (a b c : Bool) → (b ≡ false) ⊎ (c ≡ false) → None ≡ (if b && (a && c) then Some n else None)
    by a false c h = refl
    by false true c h = refl
    by true true false h = refl
    by true true true h = ⊎_elim (λ e. absurd (false_is e)) (λ e. absurd (false_is e)) h
      where
        false_is : true ≡ false → ⊥
        false_is e = false≢true (sym e)

pub size_none : (most : ℕ) (digits : List ℕ) → most ≤ 65535 → is_within 0 MOST digits ≡ false → None ≡ size_in most digits
size_none most digits le h =
    no_size (number_of digits) (nat_le 1 (number_of digits)) (is_digits digits) (nat_le (number_of digits) most) (one (is_digits digits) (nat_le (number_of digits) most) refl refl)
    ∙ sym (size_is most digits)
  where
    one : (b c : Bool) → is_digits digits ≡ b → nat_le (number_of digits) most ≡ c → (b ≡ false) ⊎ (c ≡ false)
    one false c e f = inl refl
    one true false e f = inr refl
    one true true e f =
        let small = leb-true (number_of digits) most f in
        let zero_is : nat_le 0 (number_of digits) ≡ true = le-leb 0 (number_of digits) (omega arith) in
        let whole = ap (λ b. b && (nat_le 0 (number_of digits) && nat_le (number_of digits) MOST)) e ∙ ap (λ b. b && nat_le (number_of digits) MOST) zero_is in
        let large = leb-false (number_of digits) MOST (sym whole ∙ sym (within_is digits) ∙ h) in
        absurd (omega (arith, small, large, le))
