-- How long names and lists of dimensions are.
use Rattle.std.proofs.Common.{◌≡◌, ℕ, ◌<◌, ◌≤◌, true, ◌&&◌, leb, List, length, arith}
use Rattle.std.specs.List.{list_all}
use Rattle.std.specs.Prelude.{slice_index}
use Rattle.std.proofs.lemmas.Bool.{leb-true, and_parts}
use Rattle.cse_image_parts.specs.Texts.{is_upper, is_name_char, is_name}
use Rattle.cse_image_parts.specs.Fields.{is_dimension_count}

pub some_rank : (n : ℕ) → is_dimension_count n ≡ true → 0 < n
some_rank n e = let p : (leb 1 n ≡ true) × (leb n 3 ≡ true) = and_parts _ _ e in omega (arith, leb-true 1 n p.0)

pub small_rank : (n : ℕ) → is_dimension_count n ≡ true → n < 256
small_rank n e = let p : (leb 1 n ≡ true) × (leb n 3 ≡ true) = and_parts _ _ e in omega (arith, leb-true n 3 p.1)

pub name_size : (name : List ℕ) → is_name name ≡ true → length name ≤ 32
unfolding is_name
name_size name e = let p : (_ ≡ true) × (leb (length name) 32 ≡ true) = and_parts (is_upper (slice_index name 0) && list_all is_name_char name) _ e in omega (arith, leb-true (length name) 32 p.1)
