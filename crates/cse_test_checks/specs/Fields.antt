-- Worked rows of the columns that numbers are read from and written into.
use Rattle.std.specs.Prelude.{ℕ, ℤ, pos, neg_ℤ, Bool, true, false, List, [], ◌∷◌, codes, Option, Some, None}
use Rattle.cse_value.specs.Field.{field, put}
use Rattle.cse_value.specs.declared.number.Num.{Num}
use Rattle.cse_value.specs.declared.number.Num.TheVariants.{NotAppl, Missing, Undef}
use Rattle.cse_test_checks.specs.Rows.{Gives}
use Rattle.cse_test_checks.specs.Numbers.{whole, minus, greatest, least}

abbrev pub code : ℕ → Option ℤ
code n = Some (pos n)

-- the value of columns where 999 stands for `missing`
abbrev pub read : List ℕ → Num
read columns = field columns (code 999)

abbrev pub numbers_read : List (List ℕ × Num)
numbers_read =
    (codes "", NotAppl) ∷ (codes "   ", NotAppl) ∷ (codes "7", whole 7) ∷ (codes " 35", whole 35) ∷ (codes "35 ", whole 35) ∷ (codes "  35  ", whole 35)
    ∷ (codes "007", whole 7) ∷ (codes " -5", minus 5) ∷ (codes "-05", minus 5) ∷ (codes "-0 ", whole 0) ∷ (codes "999", Missing) ∷ (codes "00999", Missing)
    ∷ (codes "-999", minus 999) ∷ (codes "1 2", Undef) ∷ (codes "- 5", Undef) ∷ (codes "-", Undef) ∷ (codes "--5", Undef) ∷ (codes "5-", Undef) ∷ (codes "+5", Undef)
    -- U+FF15, U+00A0 and a tab
    ∷ (65301 ∷ [], Undef) ∷ (160 ∷ codes "5", Undef) ∷ (9 ∷ codes "5", Undef)
    ∷ (codes "1.5", Undef) ∷ (codes "/", Undef) ∷ (codes ":", Undef) ∷ (codes "***", Undef)
    ∷ (codes "9223372036854775807", greatest) ∷ (codes "9223372036854775808", Undef) ∷ (codes "-9223372036854775808", least) ∷ (codes "-9223372036854775809", Undef)
    ∷ (codes "18446744073709551617", Undef) ∷ (codes "00000000000000000000000012", whole 12) ∷ []

-- a value, with zeros or not, and the code of `missing`
pub record Written : Type 0 where
  pub value : Num
  pub fill : Bool
  pub missing : Option ℤ

abbrev pub written : Num → Bool → Option ℤ → Written
written value fill missing = record { value = value; fill = fill; missing = missing }

-- the columns after a write into so many
abbrev pub put_in : ℕ × Written → List ℕ
put_in p = put p.0 p.1.value p.1.fill p.1.missing

abbrev pub numbers_put : List ((ℕ × Written) × List ℕ)
numbers_put =
    ((3, written (minus 5) false None), codes " -5") ∷ ((3, written (minus 5) true None), codes "-05") ∷ ((3, written (whole 35) false None), codes " 35")
    ∷ ((3, written (whole 35) true None), codes "035") ∷ ((3, written (whole 0) true None), codes "000") ∷ ((3, written (minus 99) true None), codes "-99")
    ∷ ((3, written (whole 1000) false None), codes "***") ∷ ((3, written (whole 1000) true None), codes "***") ∷ ((3, written (minus 100) true None), codes "***")
    ∷ ((3, written least false None), codes "***") ∷ ((3, written NotAppl true (code 999)), codes "   ") ∷ ((3, written Missing false (code 999)), codes "999")
    ∷ ((3, written Missing true (Some (neg_ℤ (pos 9)))), codes "-09") ∷ ((3, written Missing false (code 9)), codes "  9") ∷ ((3, written Missing false (code 1000)), codes "***")
    ∷ ((3, written Missing false None), codes "***") ∷ ((3, written Undef false (code 999)), codes "***")
    ∷ ((20, written least true None), codes "-9223372036854775808") ∷ ((21, written least true None), codes "-09223372036854775808")
    ∷ ((0, written (whole 7) false None), codes "") ∷ ((0, written Undef false None), codes "") ∷ []

pub record FieldsAreWorked : Type 0 where
  pub are_read : Gives read numbers_read
  pub without_code : Gives (λ columns. field columns None) ((codes "999", whole 999) ∷ [])
  pub are_put : Gives put_in numbers_put
