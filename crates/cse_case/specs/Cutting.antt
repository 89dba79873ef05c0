-- The first line of some bytes.
use Rattle.std.specs.Prelude.{◌≡◌, ◌<◌, ◌≤◌, ℕ, Bool, false, nat_lt, List, ◌∷◌, ◌++◌, ◌==◌, length, slice_index, take, drop}
use Rattle.cse_case.specs.Line.{lines_in, text_of}
use Rattle.cse_case.specs.Runs.{MayFollow}

-- no byte is a line feed
abbrev pub HasNoFeed : List ℕ → Type 0
HasNoFeed bytes = (k : ℕ) → k < length bytes → (slice_index bytes k == 10) ≡ false

-- the line is the first one of the bytes, and it stays so whatever may follow, unless it is too long
pub record IsFirstLine (front ended : Bool) (bytes line : List ℕ) : Type 0 where
  pub some : 0 < length line
  pub fits : length line ≤ length bytes
  pub part : line ≡ take (length line) bytes
  pub reaches : (n : ℕ) → n ≤ length bytes → HasNoFeed (take n bytes) → n ≤ length line
  pub lines : lines_in front ended bytes ≡ (front, line) ∷ lines_in false ended (drop (length line) bytes)
  pub goes_on : nat_lt 262144 (length (text_of (front, line))) ≡ false → (later : Bool) (more : List ℕ) → MayFollow ended later more
      → lines_in front later (bytes ++ more) ≡ (front, line) ∷ lines_in false later (drop (length line) bytes ++ more)
