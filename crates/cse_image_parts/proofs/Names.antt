-- The bytes of a name are ASCII.
use Rattle.std.proofs.Common.{◌≡◌, ℕ, zero, suc, ◌<◌, true, ◌&&◌, leb, List, [], ◌∷◌, length, slice_index, arith}
use Rattle.std.specs.List.{list_all}
use Rattle.std.specs.Str.{IsAscii, IsUtf8}
use Rattle.std.proofs.lemmas.Str.{IsUtf8-from_ascii}
use Rattle.std.proofs.lemmas.Bool.{and_parts}
use Rattle.std.proofs.lemmas.Bool.Decides.{nat_tests}
use Rattle.cse_image_parts.specs.Texts.{is_upper, is_name_char, is_name}

small_char : (c : ℕ) → is_name_char c ≡ true → c < 128
small_char c e = grind (arith, nat_tests)

all_small : (cs : List ℕ) → list_all is_name_char cs ≡ true → IsAscii cs
all_small [] e i = omega arith
all_small (c ∷ cs) e zero = small_char c (and_parts (is_name_char c) (list_all is_name_char cs) e).0
all_small (c ∷ cs) e (suc i) = all_small cs (and_parts (is_name_char c) (list_all is_name_char cs) e).1 i

pub name_is_text : (name : List ℕ) → is_name name ≡ true → IsUtf8 name
unfolding is_name
name_is_text name e =
    let p = and_parts (is_upper (slice_index name 0) && list_all is_name_char name) (leb (length name) 32) e in
    let q = and_parts (is_upper (slice_index name 0)) (list_all is_name_char name) p.0 in
    IsUtf8-from_ascii name (all_small name q.1)
