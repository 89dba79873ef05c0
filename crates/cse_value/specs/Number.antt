-- Arithmetic on whole numbers without limit, cut to 64 bits at the end, and on the special values.
use Rattle.std.specs.Prelude.{◌^◌, Bool, true, false, not, nat_lt, ◌==◌, ℤ, pos, negsuc, ◌+ℤ◌, ◌-ℤ◌, ◌*ℤ◌, neg_ℤ, int_div, int_rem, if◌then◌else◌}
use Rattle.std.specs.Ordering.{int_eq}
use Rattle.std.specs.Prelude.{int_lt}
use Rattle.cse_value.specs.declared.number.Num.{Num}
use Rattle.cse_value.specs.declared.number.Num.TheVariants.{Whole, NotAppl, Missing, Undef}
use Rattle.cse_value.specs.declared.number.Rel.{Rel}
use Rattle.cse_value.specs.declared.number.Rel.TheVariants.{Equal, NotEqual, Less, AtMost, Greater, AtLeast}

-- 64 bits hold the number
abbrev pub fits_i64 : ℤ → Bool
fits_i64 (pos n) = nat_lt n (2 ^ 63)
fits_i64 (negsuc n) = nat_lt n (2 ^ 63)

-- the number, if 64 bits hold it
abbrev pub cut : ℤ → Num
cut z = if fits_i64 z then Whole z else Undef

abbrev pub is_zero : ℤ → Bool
is_zero (pos n) = n == 0
is_zero (negsuc n) = false

-- an operation on two whole numbers; a special operand gives Undef
abbrev pub of_wholes : (ℤ → ℤ → Num) → Num → Num → Num
of_wholes f (Whole x) (Whole y) = f x y
of_wholes f (Whole x) NotAppl = Undef
of_wholes f (Whole x) Missing = Undef
of_wholes f (Whole x) Undef = Undef
of_wholes f NotAppl y = Undef
of_wholes f Missing y = Undef
of_wholes f Undef y = Undef

abbrev pub sum_of : Num → Num → Num
sum_of = of_wholes (λ x y. cut (x +ℤ y))

abbrev pub difference_of : Num → Num → Num
difference_of = of_wholes (λ x y. cut (x -ℤ y))

abbrev pub product_of : Num → Num → Num
product_of = of_wholes (λ x y. cut (x *ℤ y))

-- the quotient that is truncated toward zero
abbrev pub quotient_of : Num → Num → Num
quotient_of = of_wholes (λ x y. if is_zero y then Undef else cut (int_div x y))

-- x less y times that quotient
abbrev pub remainder_of : Num → Num → Num
remainder_of = of_wholes (λ x y. if is_zero y then Undef else cut (int_rem x y))

abbrev pub negative_of : Num → Num
negative_of (Whole x) = cut (neg_ℤ x)
negative_of NotAppl = Undef
negative_of Missing = Undef
negative_of Undef = Undef

-- the same value
abbrev pub is_same : Num → Num → Bool
is_same (Whole x) (Whole y) = int_eq x y
is_same NotAppl NotAppl = true
is_same Missing Missing = true
is_same Undef Undef = true
is_same (Whole x) NotAppl = false
is_same (Whole x) Missing = false
is_same (Whole x) Undef = false
is_same NotAppl (Whole y) = false
is_same NotAppl Missing = false
is_same NotAppl Undef = false
is_same Missing (Whole y) = false
is_same Missing NotAppl = false
is_same Missing Undef = false
is_same Undef (Whole y) = false
is_same Undef NotAppl = false
is_same Undef Missing = false

-- an order of whole numbers, which fails with a special operand
abbrev pub if_wholes : (ℤ → ℤ → Bool) → Num → Num → Bool
if_wholes f (Whole x) (Whole y) = f x y
if_wholes f (Whole x) NotAppl = false
if_wholes f (Whole x) Missing = false
if_wholes f (Whole x) Undef = false
if_wholes f NotAppl y = false
if_wholes f Missing y = false
if_wholes f Undef y = false

-- the relation holds of two numbers
abbrev pub holds : Rel → Num → Num → Bool
holds Equal x y = is_same x y
holds NotEqual x y = not (is_same x y)
holds Less x y = if_wholes (λ a b. int_lt a b) x y
holds AtMost x y = if_wholes (λ a b. not (int_lt b a)) x y
holds Greater x y = if_wholes (λ a b. int_lt b a) x y
holds AtLeast x y = if_wholes (λ a b. not (int_lt a b)) x y

-- A condition holds for a whole number other than 0.
abbrev pub is_condition : Num → Bool
is_condition (Whole x) = not (is_zero x)
is_condition NotAppl = false
is_condition Missing = false
is_condition Undef = false
