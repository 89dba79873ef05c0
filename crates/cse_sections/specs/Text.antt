-- Blanks and letter case of a text, as bytes. A blank is U+0020 alone.
use Rattle.std.specs.Prelude.{ℕ, Bool, map, List, [], ◌∷◌, ◌==◌, if◌then◌else◌, reverse, nat_eq}
use Rattle.std.specs.Char.{to_ascii_lowercase}
use Rattle.std.specs.Str.{chars, is_utf8}
use lib.Pointwise.{pointwise}

-- the text without the blanks in front
abbrev pub without_blanks : List ℕ → List ℕ
without_blanks [] = []
without_blanks (b ∷ bs) = if b == 32 then without_blanks bs else b ∷ bs

-- the text without the blanks at both ends
unfoldable pub trimmed : List ℕ → List ℕ
trimmed text = reverse (without_blanks (reverse (without_blanks text)))

-- the same text, but for the case of ASCII letters
unfoldable pub is_same : List ℕ → List ℕ → Bool
is_same a b = pointwise nat_eq (map to_ascii_lowercase a) (map to_ascii_lowercase b)

-- the characters of a text in UTF-8; other bytes have none
unfoldable pub characters : List ℕ → List ℕ
characters bytes = if is_utf8 bytes then chars bytes else []
