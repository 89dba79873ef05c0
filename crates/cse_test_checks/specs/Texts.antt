-- Worked rows of texts: how they compare, and the columns that they are written into.
use Rattle.std.specs.Prelude.{ℕ, Bool, true, false, List, [], ◌∷◌, map, codes}
use Rattle.cse_value.specs.Texts.{holds_of_order, text_order}
use Rattle.cse_value.specs.Field.{put_text}
use Rattle.cse_test_checks.specs.Rows.{Gives}
use Rattle.cse_test_checks.specs.Numbers.{relations}

abbrev pub all_of : List ℕ × List ℕ → List Bool
all_of p = map (λ rel. holds_of_order rel (text_order p.0 p.1)) relations

-- U+00E9 and U+FF15
abbrev pub beyond_ascii : List ℕ
beyond_ascii = 233 ∷ 65301 ∷ []

abbrev pub compared : List ((List ℕ × List ℕ) × List Bool)
compared =
    ((codes "AB", codes "AB  "), true ∷ false ∷ false ∷ true ∷ false ∷ true ∷ [])
    ∷ ((codes "", codes " "), true ∷ false ∷ false ∷ true ∷ false ∷ true ∷ [])
    ∷ ((codes "AB", codes "ABC"), false ∷ true ∷ true ∷ true ∷ false ∷ false ∷ [])
    -- U+001F comes before a blank
    ∷ ((codes "AB", 65 ∷ 66 ∷ 31 ∷ []), false ∷ true ∷ false ∷ false ∷ true ∷ true ∷ [])
    ∷ ((codes "z", 233 ∷ []), false ∷ true ∷ true ∷ true ∷ false ∷ false ∷ [])
    ∷ ((codes "b", codes "abc"), false ∷ true ∷ false ∷ false ∷ true ∷ true ∷ []) ∷ []

abbrev pub put_in : ℕ × List ℕ → List ℕ
put_in p = put_text p.0 p.1

abbrev pub texts_put : List ((ℕ × List ℕ) × List ℕ)
texts_put =
    ((3, codes "ABCD"), codes "ABC") ∷ ((3, codes "A"), codes "A  ") ∷ ((2, codes ""), codes "  ") ∷ ((0, codes "AB"), codes "")
    ∷ ((3, beyond_ascii), 233 ∷ 65301 ∷ 32 ∷ []) ∷ []

pub record TextsAreWorked : Type 0 where
  pub relations_are : Gives all_of compared
  pub are_put : Gives put_in texts_put
