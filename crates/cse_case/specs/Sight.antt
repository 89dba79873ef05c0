-- Seen and unseen lines of a case: each line is either an occurrence of its record, or unseen.
use Rattle.std.specs.Prelude.{◌≡◌, ◌<◌, ◌⊎◌, ◌↔◌, ℕ, ◌+◌, true, length, slice_get, Some}
use Rattle.cse_dict.specs.declared.lookup.Unseen.{Unseen}
use Rattle.cse_case.specs.Run.{line_at}
use Rattle.cse_case.specs.Seen.{is_case}
use Rattle.cse_case.specs.Case.{CaseText, IsOccurrence, place_of, records_of, types_of, unseen_lines}

-- the line at this place, from 0, is an occurrence
pub record IsSeenAt (c : CaseText) (place : ℕ) : Type 0 where
  pub number : ℕ
  pub occurrence : ℕ
  pub there : IsOccurrence c number occurrence
  pub is : place_of c number occurrence ≡ place

-- the line at this place is one of the unseen lines, by its number in the file
pub record IsUnseenAt (c : CaseText) (place : ℕ) : Type 0 where
  pub why : Unseen
  pub at : ℕ
  pub is : slice_get (unseen_lines c) at ≡ Some (c.run.first_line + place, why)

-- Each line is seen or unseen, and none is both. A line is one occurrence at most, and one of the record that its type names. A run is a case where it
-- has an occurrence.
pub record SeenOrUnseen (c : CaseText) : Type 0 where
  pub each : (place : ℕ) → place < length c.run.lines → IsSeenAt c place ⊎ IsUnseenAt c place
  pub apart : (place : ℕ) → IsSeenAt c place → IsUnseenAt c place → ⊥
  pub seen_within : (place : ℕ) → IsSeenAt c place → place < length c.run.lines
  pub unseen_within : (place : ℕ) → IsUnseenAt c place → place < length c.run.lines
  pub own : (r o : ℕ) → IsOccurrence c r o → (line_at c.run (place_of c r o)).record_number ≡ Some r
  pub once : (r o r' o' : ℕ) → IsOccurrence c r o → IsOccurrence c r' o' → place_of c r o ≡ place_of c r' o' → (r ≡ r') × (o ≡ o')
  pub some : is_case (records_of c) (types_of c.run.lines) ≡ true ↔ (place : ℕ) × IsSeenAt c place
