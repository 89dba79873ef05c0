-- Relations of texts, the shorter padded with blanks, by scalar values.
use Rattle.std.specs.Prelude.{ℕ, ◌-◌, max, Bool, not, List, ◌++◌, length, replicate}
use Rattle.std.specs.declared.cmp.Ordering.{Ordering}
use Rattle.std.specs.Ordering.{nat_cmp, is_eq, is_lt, is_gt}
use Rattle.std.specs.Cmp.Lexicographic.{slice_cmp}
use Rattle.cse_value.specs.declared.number.Rel.{Rel}
use Rattle.cse_value.specs.declared.number.Rel.TheVariants.{Equal, NotEqual, Less, AtMost, Greater, AtLeast}

abbrev pub blanks : ℕ → List ℕ
blanks n = replicate n 32

-- a text, padded with blanks to so many characters
abbrev pub padded : ℕ → List ℕ → List ℕ
padded n text = text ++ blanks (n - length text)

-- the first characters that differ decide, the shorter text padded with blanks
unfoldable pub text_order : List ℕ → List ℕ → Ordering
text_order x y = slice_cmp nat_cmp (padded (max (length x) (length y)) x) (padded (max (length x) (length y)) y)

-- the relation holds of values that stand in this order
abbrev pub holds_of_order : Rel → Ordering → Bool
holds_of_order Equal order = is_eq order
holds_of_order NotEqual order = not (is_eq order)
holds_of_order Less order = is_lt order
holds_of_order AtMost order = not (is_gt order)
holds_of_order Greater order = is_gt order
holds_of_order AtLeast order = not (is_lt order)
