-- How far a run is, before its outputs are closed.
use Rattle.std.specs.Prelude.{◌≡◌, ◌≢◌, ◌≤◌, ◌<◌, ◌^◌, ◌⊎◌, ℕ, Bool, true, false, List, [], ◌++◌, length, replicate, None}
use Rattle.cse_value.specs.Device.{Consumes, IsAtEnd, Given, FailsOnce, IsUnfailing}
use Rattle.cse_case.specs.Line.{FileLine}
use Rattle.cse_case.specs.Runs.{given_runs, fault_in}
use Rattle.cse_case.specs.Reader.{ReaderText, held_of}
use Rattle.cse_dict.specs.Dictionary.{item_names}
use Rattle.cse_decks.specs.Store.{Kept}
use Rattle.cse_decks.specs.Deck.{deck_text}
use Rattle.cse_value.specs.Gathering.{Going, Gathering}
use Rattle.cse_report.specs.Held.{begun as no_reports, ending}
use Rattle.cse_report.specs.Frequency.{frequencies_text}
use Rattle.cse_report.specs.Unended.{Begins}
use Rattle.cse_report.specs.declared.reports.Reports.{Reports}
use Rattle.cse_verify.specs.Verified.{VerifiedProgram}
use Rattle.cse_batch_parts.specs.declared.totals.Totals.{Totals}
use Rattle.cse_batch_parts.specs.declared.totals.RunFault.{RunFault}
use Rattle.cse_batch_parts.specs.Totals.{totals_of}
use Rattle.cse_batch_parts.specs.DataFaults.{BreaksOff, IsDataFault}
use Rattle.cse_batch_parts.specs.Batch.{after_runs, batch, begun}
use Rattle.cse_batch_parts.specs.Edits.{Keeps}

-- a reader of files of the program's dictionary that has read nothing
pub record IsUnread (v : VerifiedProgram) (r : ReaderText) : Type 0 where
  pub dictionary : r.dictionary ≡ v.dictionary
  pub sound : r.error ≡ None
  pub nothing_held : held_of r ≡ []
  pub unended : r.ended ≡ false
  pub unread : r.reads ≡ 0
  pub front : r.lines ≡ 0

-- nothing was reported
pub record IsUnreported (v : VerifiedProgram) (reports : Reports) : Type 0 where
  pub listing : reports.listing ≡ no_reports v.image.lists.messages
  pub frequencies : reports.frequencies ≡ replicate (length v.image.lists.items) []

-- nothing was put before an output
pub record IsFresh (waiting : List ℕ) (gave_up : Bool) : Type 0 where
  pub nothing_waits : waiting ≡ []
  pub going : gave_up ≡ false

-- where an output stood, whether it had failed, and how far it is
pub record Device : Type 0 where
  pub start : List ℕ
  pub sound : Bool
  pub going : Going

abbrev pub device : List ℕ → Bool → Going → Device
device start sound going = record { start = start; sound = sound; going = going }

-- these bytes were put
abbrev pub Has : Device → List ℕ → Type 0
Has o text = Gathering o.start o.sound o.going text

-- All was read, no line of it is faulty, and the run is as far as the batch over it is after its last run of lines.
pub record CasesRan (v : VerifiedProgram) (first : Kept) (before after : Given) (store : Kept) (reports : Reports) (out listing : Device) (totals : Totals) : Type 0 where
  pub bytes : List ℕ
  pub reads : Consumes before after bytes
  pub unfailing : IsUnfailing before after
  pub end : IsAtEnd after
  pub sound : fault_in v.dictionary true true bytes ≡ None
  pub totals_are : totals ≡ totals_of v.dictionary (given_runs v.dictionary true true bytes)
  pub keeps : Keeps v (after_runs v (begun v first) (given_runs v.dictionary true true bytes)) store reports listing.start listing.sound listing.going
  pub written : Has out (after_runs v (begun v first) (given_runs v.dictionary true true bytes)).out

-- It was stopped: the lines of some runs were put, and fronts of the texts of the batch over what was read, and all of them after a fault of the data, and after 70.
pub record Halts (v : VerifiedProgram) (first : Kept) (before after : Given) (out listing : Device) (fault : RunFault) : Type 0 where
  pub bytes : List ℕ
  pub ended : Bool
  pub reads : Consumes before after bytes
  pub end : ended ≡ true → IsAtEnd after
  pub runs : List (List FileLine)
  pub more : List (List FileLine)
  pub given_are : given_runs v.dictionary true ended bytes ≡ runs ++ more
  pub written : List ℕ
  pub written_is : written ≡ (after_runs v (begun v first) runs).out
  pub listed : List ℕ
  pub has_written : Has out written
  pub has_listed : Has listing listed
  pub out_front : Begins written (batch v first bytes ended).out
  pub listing_front : Begins listed (batch v first bytes ended).listing
  pub out_whole : fault.number < 71 → written ≡ (batch v first bytes ended).out
  pub listing_whole : fault.number < 71 → listed ≡ (batch v first bytes ended).listing
  pub faulty : fault.number < 70 → IsDataFault v.dictionary ended bytes fault
  pub needed : fault.number ≡ 70 → BreaksOff v.dictionary ended bytes
  pub unfailing : fault.number ≢ 70 → IsUnfailing before after
  pub reading : fault.number ≡ 70 → FailsOnce before after ⊎ (2 ^ 40 ≤ length bytes)
  pub writing : fault.number ≡ 71 → (out.going.gave_up ≡ true) ⊎ (listing.going.gave_up ≡ true)
  pub other : 70 ≤ fault.number → (fault.number ≡ 70) ⊎ ((fault.number ≡ 71) ⊎ (fault.number ≡ 90))
  pub no_line : 70 ≤ fault.number → fault.line ≡ 0

-- All ran: the written lines are those of the batch over what was read, and what is listed, counted and kept makes up its other texts.
pub record Ran (v : VerifiedProgram) (first : Kept) (before after : Given) (store : Kept) (reports : Reports) (out listing : Device) (totals : Totals) : Type 0 where
  pub bytes : List ℕ
  pub reads : Consumes before after bytes
  pub unfailing : IsUnfailing before after
  pub end : IsAtEnd after
  pub sound : fault_in v.dictionary true true bytes ≡ None
  pub totals_are : totals ≡ (batch v first bytes true).totals
  pub written : Has out (batch v first bytes true).out
  pub listed : List ℕ
  pub has_listed : Has listing listed
  pub listing_is : listed ++ ending reports.listing totals.cases totals.lines totals.unseen ≡ (batch v first bytes true).listing
  pub frequencies_are : frequencies_text (item_names v.dictionary) reports.frequencies ≡ (batch v first bytes true).frequencies
  pub decks_are : deck_text v.image store ≡ (batch v first bytes true).decks
