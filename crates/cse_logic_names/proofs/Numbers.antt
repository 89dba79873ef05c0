-- The numbers of messages, as digits write them.
use Rattle.std.specs.Prelude.{false, nat_le, true, Bool, ◌&&◌, if◌then◌else◌}
use Rattle.std.proofs.Common.{◌≡◌, ℕ, arith, refl, ap, sym, ◌∙◌, List, Some, None}
use Rattle.std.proofs.lemmas.Bool.Decides.{nat_tests}
use Rattle.cse_lemmas.proofs.Booleans.{and-false}
use Rattle.cse_syntax_tree.specs.Leaf.{MOST, is_within, is_digits, number_of}
use Rattle.cse_logic_names.specs.WellTyped.{message_number}

past_range : (n : ℕ) → nat_le n MOST ≡ false → nat_le n 999999999 ≡ false
past_range n h = grind (arith, nat_tests, h)

zero_le : (n : ℕ) → nat_le 0 n ≡ true
zero_le n = grind (arith, nat_tests)

not_within : (b : Bool) (n : ℕ) → (b && (nat_le 0 n && nat_le n MOST)) ≡ false → (b && (nat_le 1 n && nat_le n 999999999)) ≡ false
not_within false n h = refl
not_within true n h = ap (λ v. nat_le 1 n && v) (past_range n (sym (ap (λ v. v && nat_le n MOST) (zero_le n)) ∙ h)) ∙ and-false (nat_le 1 n)

pub no_number_is : (d : List ℕ) → is_within 0 MOST d ≡ false → None ≡ message_number d
unfolding is_within
no_number_is d h = sym (ap (λ b. if b then Some (number_of d) else None) (not_within (is_digits d) (number_of d) h))
