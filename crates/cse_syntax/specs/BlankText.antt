-- Blanks and comments in the terms of the language: comments in braces nest; one behind `//` goes to the end of its line.
use Rattle.std.specs.Prelude.{◌≡◌, ℕ, Bool, true, false, not, ◌==◌, List, [], ◌∷◌, ◌++◌, Some}
use Rattle.std.specs.List.{list_all}
use Rattle.cse_syntax.specs.declared.lexer.Gap.TheVariants as g
use Rattle.cse_syntax.specs.Text.{is_blank, skip}

-- what stands behind a `{`, up to its own `}`
pub data Inside : Type 0 where
  close : Inside
  byte : (b : ℕ) (others : Inside) → Inside
  nested : (comment others : Inside) → Inside

pub data Blanks : Type 0 where
  nothing : Blanks
  blank : (b : ℕ) (others : Blanks) → Blanks
  braces : (comment : Inside) (others : Blanks) → Blanks
  line : (bytes : List ℕ) (others : Blanks) → Blanks
  last_line : (bytes : List ℕ) → Blanks

abbrev pub spell_inside : Inside → List ℕ → List ℕ
spell_inside close rest = 125 ∷ rest
spell_inside (byte b others) rest = b ∷ spell_inside others rest
spell_inside (nested comment others) rest = 123 ∷ spell_inside comment (spell_inside others rest)

abbrev pub spell_blanks : Blanks → List ℕ
spell_blanks nothing = []
spell_blanks (blank b others) = b ∷ spell_blanks others
spell_blanks (braces comment others) = 123 ∷ spell_inside comment (spell_blanks others)
spell_blanks (line bytes others) = 47 ∷ 47 ∷ bytes ++ 10 ∷ spell_blanks others
spell_blanks (last_line bytes) = 47 ∷ 47 ∷ bytes

abbrev pub in_line : ℕ → Bool
in_line b = not (b == 10)

abbrev pub IsInside : Inside → Type 0
IsInside close = Unit {0}
IsInside (byte b others) = ((b == 123) ≡ false) × ((b == 125) ≡ false) × IsInside others
IsInside (nested comment others) = IsInside comment × IsInside others

abbrev pub AreBlanks : Blanks → Type 0
AreBlanks nothing = Unit {0}
AreBlanks (blank b others) = (is_blank b ≡ true) × AreBlanks others
AreBlanks (braces comment others) = IsInside comment × AreBlanks others
AreBlanks (line bytes others) = (list_all in_line bytes ≡ true) × AreBlanks others
AreBlanks (last_line bytes) = list_all in_line bytes ≡ true

-- Text that is skipped is blanks and comments.
abbrev pub AreSkipped : Type 0
AreSkipped = (gap : List ℕ) → skip g.Between gap ≡ Some [] → (x : Blanks) × AreBlanks x × (gap ≡ spell_blanks x)
