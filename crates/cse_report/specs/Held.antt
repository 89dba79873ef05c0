-- A listing that is written as it grows: the lines that are held, and those that a device has.
use Rattle.std.specs.Prelude.{◌≡◌, ℕ, List, [], ◌∷◌, ◌++◌, length, replicate, slice_set, slice_index, if◌then◌else◌}
use Rattle.cse_image_parts.specs.Image.{MessageLists}
use Rattle.cse_report.specs.Counts.{one_more}
use Rattle.cse_report.specs.Listing.{Report, BeginsRun, BeginsCase, LeavesUnseen, Gives, first_line, lines_of, heading_after, is_listed, given_text, summary, listing}

-- the messages that can be given and how often each was, the heading that waits, the lines held, and the
-- texts of the messages among them
pub record Held : Type 0 where
  pub messages : List MessageLists
  pub counts : List ℕ
  pub heading : List ℕ
  pub lines : List ℕ
  pub texts : List (List ℕ)

-- nothing was reported
abbrev pub begun : List MessageLists → Held
begun messages = record { messages = messages; counts = replicate (length messages) 0; heading = []; lines = first_line; texts = [] }

-- ---- a report more

abbrev pub counts_after : List ℕ → Report → List ℕ
counts_after counts BeginsRun = counts
counts_after counts (BeginsCase ids) = counts
counts_after counts (LeavesUnseen number what) = counts
counts_after counts (Gives i args) = slice_set counts i (one_more (slice_index counts i))

abbrev pub texts_of : List MessageLists → Report → List (List ℕ)
texts_of messages BeginsRun = []
texts_of messages (BeginsCase ids) = []
texts_of messages (LeavesUnseen number what) = []
texts_of messages (Gives i args) = if is_listed messages i then given_text messages i args ∷ [] else []

abbrev pub reported : Held → Report → Held
reported h r = record {
  messages = h.messages;
  counts = counts_after h.counts r;
  heading = heading_after h.messages h.heading r;
  lines = h.lines ++ lines_of h.messages h.heading r;
  texts = h.texts ++ texts_of h.messages r;
}

-- ---- lines handed to a device

-- the lines held were written, and none are held
abbrev pub flushed : Held → Held
flushed h = record { messages = h.messages; counts = h.counts; heading = h.heading; lines = []; texts = [] }

-- the end of the listing: the lines held, and the summary
abbrev pub ending : Held → ℕ → ℕ → ℕ → List ℕ
ending h cases lines unseen = h.lines ++ summary h.messages h.counts cases lines unseen

-- ---- a whole run

pub data Step : Type 0 where
  Lists : Report → Step
  Flushes : Step

-- what one device was given so far, and what is held
pub record Progress : Type 0 where
  pub written : List ℕ
  pub held : Held

abbrev pub stepped : Progress → Step → Progress
stepped p (Lists r) = record { written = p.written; held = reported p.held r }
stepped p Flushes = record { written = p.written ++ p.held.lines; held = flushed p.held }

-- what was reported among the steps
abbrev pub reports_in : List Step → List Report
reports_in [] = []
reports_in (Lists r ∷ steps) = r ∷ reports_in steps
reports_in (Flushes ∷ steps) = reports_in steps

abbrev pub after_steps : Progress → List Step → Progress
after_steps p [] = p
after_steps p (s ∷ steps) = after_steps (stepped p s) steps

abbrev pub unwritten : List MessageLists → Progress
unwritten messages = record { written = []; held = begun messages }

-- what a device is given over all steps and at the end
abbrev pub given_in_all : Progress → ℕ → ℕ → ℕ → List ℕ
given_in_all p cases lines unseen = p.written ++ ending p.held cases lines unseen

-- Wherever flushes fall, one device is given the listing of all that was reported.
abbrev pub GivesTheListing : Type 0
GivesTheListing = (messages : List MessageLists) (steps : List Step) (cases lines unseen : ℕ)
    → given_in_all (after_steps (unwritten messages) steps) cases lines unseen ≡ listing messages (reports_in steps) cases lines unseen
