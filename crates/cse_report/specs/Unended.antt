-- A listing that has not ended: what was written of it, and what is held.
use Rattle.std.specs.Prelude.{◌≡◌, ℕ, List, [], ◌++◌}
use Rattle.cse_image_parts.specs.Image.{MessageLists}
use Rattle.cse_report.specs.Listing.{Report, first_line, lines_from}
use Rattle.cse_report.specs.Held.{Step, after_steps, unwritten, reports_in}

-- the listing of all that was reported, without its summary
abbrev pub unended : List MessageLists → List Report → List ℕ
unended messages reports = first_line ++ lines_from messages [] reports

-- Wherever flushes fall, what one device was given and what is held make up the listing so far.
abbrev pub GivesTheLinesSoFar : Type 0
GivesTheLinesSoFar = (messages : List MessageLists) (steps : List Step)
    → (after_steps (unwritten messages) steps).written ++ (after_steps (unwritten messages) steps).held.lines ≡ unended messages (reports_in steps)

-- the bytes begin so
pub record Begins (front bytes : List ℕ) : Type 0 where
  pub rest : List ℕ
  pub is : bytes ≡ front ++ rest

-- What was listed stays in front of what is listed later.
abbrev pub GrowsAtItsEnd : Type 0
GrowsAtItsEnd = (messages : List MessageLists) (heading : List ℕ) (reports later : List Report)
    → Begins (lines_from messages heading reports) (lines_from messages heading (reports ++ later))
