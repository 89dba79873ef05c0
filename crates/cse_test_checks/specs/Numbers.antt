-- Worked rows of numbers: what they come to, how they compare, and how they are shown.
use Rattle.std.specs.Prelude.{ℕ, pos, neg_ℤ, Bool, true, false, List, [], ◌∷◌, map, codes}
use Rattle.cse_value.specs.Number.{sum_of, difference_of, product_of, quotient_of, remainder_of, negative_of, holds, is_condition}
use Rattle.cse_value.specs.Field.{shown}
use Rattle.cse_value.specs.declared.number.Num.{Num}
use Rattle.cse_value.specs.declared.number.Num.TheVariants.{Whole, NotAppl, Missing, Undef}
use Rattle.cse_value.specs.declared.number.Rel.{Rel}
use Rattle.cse_value.specs.declared.number.Rel.TheVariants.{Equal, NotEqual, Less, AtMost, Greater, AtLeast}
use Rattle.cse_test_checks.specs.Rows.{Gives}

abbrev pub whole : ℕ → Num
whole n = Whole (pos n)

abbrev pub minus : ℕ → Num
minus n = Whole (neg_ℤ (pos n))

-- the greatest and the least number of 64 bits
abbrev pub greatest : Num
greatest = whole 9223372036854775807

abbrev pub least : Num
least = minus 9223372036854775808

-- an operation on two numbers, as one on a pair
abbrev pub paired : (Num → Num → Num) → Num × Num → Num
paired f p = f p.0 p.1

abbrev pub sums : List ((Num × Num) × Num)
sums = ((greatest, whole 1), Undef) ∷ ((whole 2, whole 3), whole 5) ∷ []

abbrev pub differences : List ((Num × Num) × Num)
differences = ((whole 2, whole 3), minus 1) ∷ ((least, whole 1), Undef) ∷ []

abbrev pub products : List ((Num × Num) × Num)
products = ((minus 4, whole 3), minus 12) ∷ ((greatest, whole 2), Undef) ∷ []

abbrev pub quotients : List ((Num × Num) × Num)
quotients = ((minus 7, whole 2), minus 3) ∷ ((whole 7, minus 2), minus 3) ∷ ((whole 7, whole 0), Undef) ∷ ((least, minus 1), Undef) ∷ []

abbrev pub remainders : List ((Num × Num) × Num)
remainders = ((whole 7, whole 0), Undef) ∷ ((minus 7, whole 2), minus 1) ∷ ((least, minus 1), whole 0) ∷ ((whole 7, minus 2), whole 1) ∷ []

abbrev pub negatives : List (Num × Num)
negatives = (least, Undef) ∷ (greatest, minus 9223372036854775807) ∷ []

-- what the operations make of a special value and this one, on the sides where the special value stands
abbrev pub made_with : Num × Num → List Num
made_with p = sum_of p.0 p.1 ∷ difference_of p.0 p.1 ∷ product_of p.1 p.0 ∷ quotient_of p.1 p.0 ∷ remainder_of p.0 p.1 ∷ negative_of p.0 ∷ []

abbrev pub nothing_made : List Num
nothing_made = Undef ∷ Undef ∷ Undef ∷ Undef ∷ Undef ∷ Undef ∷ []

abbrev pub specials : List ((Num × Num) × List Num)
specials =
    ((NotAppl, whole 1), nothing_made) ∷ ((NotAppl, NotAppl), nothing_made)
    ∷ ((Missing, whole 1), nothing_made) ∷ ((Missing, Missing), nothing_made) ∷ ((Missing, NotAppl), nothing_made)
    ∷ ((Undef, whole 1), nothing_made) ∷ ((Undef, Undef), nothing_made) ∷ ((Undef, NotAppl), nothing_made) ∷ []

abbrev pub conditions : List (Num × Bool)
conditions = (whole 1, true) ∷ (minus 1, true) ∷ (whole 0, false) ∷ (NotAppl, false) ∷ (Missing, false) ∷ (Undef, false) ∷ []

-- =, <>, <, <=, > and >=
abbrev pub relations : List Rel
relations = Equal ∷ NotEqual ∷ Less ∷ AtMost ∷ Greater ∷ AtLeast ∷ []

abbrev pub all_of : Num × Num → List Bool
all_of p = map (λ rel. holds rel p.0 p.1) relations

abbrev pub compared : List ((Num × Num) × List Bool)
compared =
    ((whole 2, whole 3), false ∷ true ∷ true ∷ true ∷ false ∷ false ∷ [])
    ∷ ((whole 3, whole 3), true ∷ false ∷ false ∷ true ∷ false ∷ true ∷ [])
    ∷ ((whole 3, minus 3), false ∷ true ∷ false ∷ false ∷ true ∷ true ∷ [])
    ∷ ((NotAppl, NotAppl), true ∷ false ∷ false ∷ false ∷ false ∷ false ∷ [])
    ∷ ((NotAppl, Missing), false ∷ true ∷ false ∷ false ∷ false ∷ false ∷ [])
    ∷ ((whole 0, Undef), false ∷ true ∷ false ∷ false ∷ false ∷ false ∷ []) ∷ []

abbrev pub texts : List (Num × List ℕ)
texts = (minus 3, codes "-3") ∷ (least, codes "-9223372036854775808") ∷ (NotAppl, codes "NOTAPPL") ∷ (Missing, codes "MISSING") ∷ (Undef, codes "DEFAULT") ∷ []

pub record NumbersAreWorked : Type 0 where
  pub sums_are : Gives (paired sum_of) sums
  pub differences_are : Gives (paired difference_of) differences
  pub products_are : Gives (paired product_of) products
  pub quotients_are : Gives (paired quotient_of) quotients
  pub remainders_are : Gives (paired remainder_of) remainders
  pub negatives_are : Gives negative_of negatives
  pub specials_make_none : Gives made_with specials
  pub conditions_are : Gives is_condition conditions
  pub relations_are : Gives all_of compared
  pub texts_are : Gives shown texts
