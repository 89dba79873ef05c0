-- The number that digits write.
use Rattle.std.proofs.Common.{◌≡◌, ℕ, suc, ◌+◌, ◌-◌, ◌*◌, ◌≤◌, ◌<◌, List, [], ◌∷◌, length, drop, get_or, sym, ap, ◌∙◌, arith, drop-cons, true, ◌&&◌}
use Rattle.std.specs.Prelude.{nat_le}
use Rattle.std.proofs.lemmas.Bool.{and_parts, leb-true}
use Rattle.cse_syntax_tree.specs.Leaf.{number_from, is_within, is_digits, number_of}

at_least : (n : ℕ) (ds : List ℕ) → n ≤ number_from n ds
at_least n [] = omega arith
at_least n (d ∷ ds) = omega (arith, at_least (10 * n + (d - 48)) ds)

-- one more digit makes it too large
pub too_large : (most n i : ℕ) (ds : List ℕ) → number_from n (drop i ds) ≡ number_from 0 ds → i < length ds → most < 10 * n + (get_or ds i 0 - 48) → most < number_from 0 ds
too_large most n i ds e lt h =
    let cut : drop i ds ≡ get_or ds i 0 ∷ drop (suc i) ds = drop-cons ds i 0 lt in
    let one : number_from (10 * n + (get_or ds i 0 - 48)) (drop (suc i) ds) ≡ number_from 0 ds = ap (number_from n) (sym cut) ∙ e in
    omega (arith, one, at_least (10 * n + (get_or ds i 0 - 48)) (drop (suc i) ds))

pub number_within : (least most : ℕ) (digits : List ℕ) → is_within least most digits ≡ true → (least ≤ number_of digits) × (number_of digits ≤ most)
unfolding is_within
number_within least most digits h =
    let p = and_parts (is_digits digits) (nat_le least (number_of digits) && nat_le (number_of digits) most) h in
    let q = and_parts (nat_le least (number_of digits)) (nat_le (number_of digits) most) p.1 in
    (leb-true least (number_of digits) q.0, leb-true (number_of digits) most q.1)
