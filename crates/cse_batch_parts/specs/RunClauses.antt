-- What a run answers, by the batch over the bytes that it read.
use Rattle.std.specs.Prelude.{◌≡◌, ◌≢◌, ◌≤◌, ◌<◌, ◌^◌, ◌⊎◌, ℕ, Bool, true, false, List, ◌++◌, length, None}
use Rattle.cse_value.specs.Device.{Consumes, Appends, IsAtEnd, Given, FailsOnce, IsUnfailing}
use Rattle.cse_value.specs.Writing.{AppendsFront}
use Rattle.cse_case.specs.Line.{FileLine}
use Rattle.cse_case.specs.Runs.{given_runs, fault_in}
use Rattle.cse_verify.specs.Verified.{VerifiedProgram}
use Rattle.cse_decks.specs.Store.{Kept}
use Rattle.cse_batch_parts.specs.declared.totals.Totals.{Totals}
use Rattle.cse_batch_parts.specs.declared.totals.RunFault.{RunFault}
use Rattle.cse_batch_parts.specs.DataFaults.{BreaksOff, IsDataFault}
use Rattle.cse_batch_parts.specs.Batch.{Batch, after_runs, batch, begun}

-- the bytes that the four outputs took
pub record Contents : Type 0 where
  pub out : List ℕ
  pub listing : List ℕ
  pub frequencies : List ℕ
  pub decks : List ℕ

abbrev pub contents : List ℕ → List ℕ → List ℕ → List ℕ → Contents
contents out listing frequencies decks = record { out = out; listing = listing; frequencies = frequencies; decks = decks }

-- whether they have failed
pub record Failures : Type 0 where
  pub out : Bool
  pub listing : Bool
  pub frequencies : Bool
  pub decks : Bool

abbrev pub failures : Bool → Bool → Bool → Bool → Failures
failures out listing frequencies decks = record { out = out; listing = listing; frequencies = frequencies; decks = decks }

-- one of them has
abbrev pub HasFailure : Failures → Type 0
HasFailure f = (f.out ≡ true) ⊎ ((f.listing ≡ true) ⊎ ((f.frequencies ≡ true) ⊎ (f.decks ≡ true)))

-- the outputs were given the texts of a batch
pub record GivesTexts (old new : Contents) (b : Batch) : Type 0 where
  pub out : Appends old.out new.out b.out
  pub listing : Appends old.listing new.listing b.listing
  pub frequencies : Appends old.frequencies new.frequencies b.frequencies
  pub decks : Appends old.decks new.decks b.decks

-- each output was given a front of its text
pub record GivesFronts (old new : Contents) (b : Batch) : Type 0 where
  pub out : AppendsFront old.out new.out b.out
  pub listing : AppendsFront old.listing new.listing b.listing
  pub frequencies : AppendsFront old.frequencies new.frequencies b.frequencies
  pub decks : AppendsFront old.decks new.decks b.decks

-- The input was read to its end, no read of it failed, and no line of it is faulty. The outputs were given the texts of the batch over what was read and
-- nothing else, and the totals are its totals.
pub record RunsWhole (v : VerifiedProgram) (store : Kept) (before after : Given) (old new : Contents) (totals : Totals) : Type 0 where
  pub bytes : List ℕ
  pub reads : Consumes before after bytes
  pub unfailing : IsUnfailing before after
  pub end : IsAtEnd after
  pub sound : fault_in v.dictionary true true bytes ≡ None
  pub texts : GivesTexts old new (batch v store bytes true)
  pub totals_are : totals ≡ (batch v store bytes true).totals

-- The lines of whole runs were written, as their events leave them.
pub record WritesRuns (v : VerifiedProgram) (store : Kept) (bytes : List ℕ) (ended : Bool) (old new : List ℕ) : Type 0 where
  pub runs : List (List FileLine)
  pub more : List (List FileLine)
  pub given_are : given_runs v.dictionary true ended bytes ≡ runs ++ more
  pub appends : Appends old new (after_runs v (begun v store) runs).out

-- Each output was given a front of its text in the batch over what was read. The mark says whether the end of the input was read. A fault below 70 is that
-- of the first faulty line. 70 comes only where what was read breaks off without a faulty line, and one read failed or 2^40 bytes were read; beside another
-- fault no read failed. Up to 70 the written lines and the listing are whole, each unless its output has failed; and after any fault whole runs were written,
-- unless that output has failed. 71 comes only where an output has failed, and the only other fault is 90. From 70 on there is no line.
pub record RunStops (v : VerifiedProgram) (store : Kept) (before after : Given) (old new : Contents) (failed : Failures) (fault : RunFault) : Type 0 where
  pub bytes : List ℕ
  pub ended : Bool
  pub reads : Consumes before after bytes
  pub end : ended ≡ true → IsAtEnd after
  pub fronts : GivesFronts old new (batch v store bytes ended)
  pub faulty : fault.number < 70 → IsDataFault v.dictionary ended bytes fault
  pub needed : fault.number ≡ 70 → BreaksOff v.dictionary ended bytes
  pub out_whole : fault.number < 71 → failed.out ≡ false → Appends old.out new.out (batch v store bytes ended).out
  pub listing_whole : fault.number < 71 → failed.listing ≡ false → Appends old.listing new.listing (batch v store bytes ended).listing
  pub out_runs : failed.out ≡ false → WritesRuns v store bytes ended old.out new.out
  pub unfailing : fault.number ≢ 70 → IsUnfailing before after
  pub reading : fault.number ≡ 70 → FailsOnce before after ⊎ (2 ^ 40 ≤ length bytes)
  pub writing : fault.number ≡ 71 → HasFailure failed
  pub other : 70 ≤ fault.number → (fault.number ≡ 70) ⊎ ((fault.number ≡ 71) ⊎ (fault.number ≡ 90))
  pub no_line : 70 ≤ fault.number → fault.line ≡ 0
