-- Worked rows of whole numbers, as a value of a dictionary spells them.
use Rattle.std.specs.Prelude.{ℕ, ℤ, pos, neg_ℤ, Bool, true, false, List, [], ◌∷◌, codes, Option, Some, None}
use Rattle.cse_sections.specs.Number.{whole_of, fits_columns}
use Rattle.cse_test_checks.specs.Rows.{Gives}

abbrev pub spelled : List (List ℕ × Option ℤ)
spelled =
    (codes "-9223372036854775808", Some (neg_ℤ (pos 9223372036854775808))) ∷ (codes "-9223372036854775809", None) ∷ (codes "9223372036854775807", Some (pos 9223372036854775807))
    ∷ (codes "9223372036854775808", None) ∷ (codes "99999999999999999999999", None) ∷ (codes "-", None) ∷ (codes "+1", None) ∷ (codes "-007", Some (neg_ℤ (pos 7))) ∷ []

abbrev pub of_three_columns : List (ℤ × Bool)
of_three_columns = (pos 999, true) ∷ (pos 1000, false) ∷ (neg_ℤ (pos 99), true) ∷ (neg_ℤ (pos 100), false) ∷ []

pub record SpelledAreWorked : Type 0 where
  pub numbers_are : Gives whole_of spelled
  pub columns_are : Gives (fits_columns 3) of_three_columns
