-- Files that may be named.
use Rattle.std.specs.Prelude.{◌≡◌, ℕ, List, [], Option, None, Some}

-- a file that was opened is the one that is named
abbrev pub IsNamed : Option (List ℕ) → Option (List ℕ) → Type 0
IsNamed named None = Unit {0}
IsNamed named (Some path) = named ≡ Some path

-- a text, which is empty where there is none
abbrev pub text_or_none : Option (List ℕ) → List ℕ
text_or_none None = []
text_or_none (Some text) = text
