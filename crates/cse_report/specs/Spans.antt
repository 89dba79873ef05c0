-- Texts that stand in a list of bytes, each between two places.
use Rattle.std.specs.Prelude.{◌≡◌, ℕ, ◌+◌, ◌≤◌, List, length, map, slice_range}
use Rattle.std.specs.List.{AllByRecursion}
use Rattle.std.specs.Str.{IsUtf8}
use Rattle.cse_report.specs.declared.spans.TextSpan.{TextSpan}

abbrev pub text_at : List ℕ → TextSpan → List ℕ
text_at bytes s = slice_range bytes s.start s.end

abbrev pub texts_at : List ℕ → List TextSpan → List (List ℕ)
texts_at bytes spans = map (text_at bytes) spans

-- a text stands there
pub record IsText (bytes : List ℕ) (s : TextSpan) : Type 0 where
  pub ordered : s.start ≤ s.end
  pub inside : s.end ≤ length bytes
  pub utf8 : IsUtf8 (text_at bytes s)

abbrev pub AreTexts : List ℕ → List TextSpan → Type 0
AreTexts bytes spans = AllByRecursion (IsText bytes) spans

-- the same place after so many bytes more
abbrev pub moved : ℕ → TextSpan → TextSpan
moved n s = record { start = n + s.start; end = n + s.end }

-- a count for each message, and the texts of those held
pub record Keeps (messages counts : ℕ) (lines : List ℕ) (spans : List TextSpan) : Type 0 where
  pub same : counts ≡ messages
  pub texts : AreTexts lines spans
