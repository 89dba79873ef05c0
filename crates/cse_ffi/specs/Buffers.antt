-- What C finds behind a call: the number that it answers, and what stands in its buffers and places.
use Rattle.std.specs.Prelude.{◌≡◌, ◌⊎◌, ◌&&◌, ◌++◌, ℕ, Bool, List, length, drop, nat_le, if◌then◌else◌}
use Rattle.cse_value.specs.Device.{Given}
use Rattle.cse_batch_parts.specs.declared.totals.Totals.{Totals}
use Rattle.cse_batch_parts.specs.RunClauses.{Contents, Failures, contents}
use Rattle.cse_ffi.specs.declared.fault.CsbFault.{CsbFault}
use Rattle.cse_ffi.specs.declared.fault.CsbCounts.{CsbCounts}
use Rattle.cse_ffi.specs.declared.fault.CsbTotals.{CsbTotals}
use Rattle.cse_ffi.specs.Fault.{counts_of, status_of, totals_of}
use Rattle.cse_ffi.specs.Calls.{IsImageFault, IsImageOf, IsNoImage, MayRun, RunsData, RunsImage, StopsData, StopsImage, empty, unread}

-- ---- buffers

abbrev pub has_room : List ℕ → List ℕ → Bool
has_room bytes old = nat_le (length bytes) (length old)

-- bytes at the front of a buffer that has room for all of them; else the buffer as it was
abbrev pub put_in : List ℕ → List ℕ → List ℕ
put_in bytes old = if has_room bytes old then bytes ++ drop (length bytes) old else old

-- the buffers of a run's outputs
pub record Buffers : Type 0 where
  pub out : List ℕ
  pub listing : List ℕ
  pub frequencies : List ℕ
  pub decks : List ℕ

abbrev pub buffers : List ℕ → List ℕ → List ℕ → List ℕ → Buffers
buffers out listing frequencies decks = record { out = out; listing = listing; frequencies = frequencies; decks = decks }

-- ---- an image

-- there is one: its length is told, and it is put where it fits
pub record FindsBytes (text logic messages order old new : List ℕ) (told : ℕ) (number : ℕ) : Type 0 where
  pub bytes : List ℕ
  pub is : IsImageOf text logic messages order bytes
  pub length_is : told ≡ length bytes
  pub put : new ≡ put_in bytes old
  pub number_is : number ≡ status_of (has_room bytes old)

abbrev pub FindsImage : List ℕ → List ℕ → List ℕ → List ℕ → List ℕ → List ℕ → ℕ → ℕ → CsbFault → CsbFault → ℕ → Type 0
FindsImage text logic messages order old new length_old length_new fault_old fault_new number =
    ((fault_new ≡ fault_old) × FindsBytes text logic messages order old new length_new number)
    ⊎ ((new ≡ old) × (length_new ≡ length_old) × IsNoImage text logic messages order fault_new × (number ≡ fault_new.number))

-- ---- bounds

abbrev pub FindsBounds : List ℕ → List ℕ → ℕ → ℕ → ℕ → ℕ → CsbFault → CsbFault → ℕ → Type 0
FindsBounds text image case_old case_new run_old run_new fault_old fault_new number =
    ((fault_new ≡ fault_old) × MayRun text image case_new run_new × (number ≡ 0))
    ⊎ ((case_new ≡ case_old) × (run_new ≡ run_old) × IsImageFault text image fault_new × (number ≡ fault_new.number))

-- ---- runs

-- a whole run: its totals are told, and each of its texts is put where it fits
pub record FindsRun (text image decks data_ : List ℕ) (old new : Buffers) (told : CsbTotals) (number : ℕ) : Type 0 where
  pub totals : Totals
  pub out : List ℕ
  pub listing : List ℕ
  pub frequencies : List ℕ
  pub saved : List ℕ
  pub runs : RunsData text image decks data_ totals (contents out listing frequencies saved)
  pub totals_are : told ≡ totals_of totals out listing frequencies saved
  pub out_put : new.out ≡ put_in out old.out
  pub listing_put : new.listing ≡ put_in listing old.listing
  pub frequencies_put : new.frequencies ≡ put_in frequencies old.frequencies
  pub saved_put : new.decks ≡ put_in saved old.decks
  pub number_is : number ≡ status_of (has_room out old.out && (has_room listing old.listing && (has_room frequencies old.frequencies && has_room saved old.decks)))

abbrev pub FindsTexts : List ℕ → List ℕ → List ℕ → List ℕ → Buffers → Buffers → CsbTotals → CsbTotals → CsbFault → CsbFault → ℕ → Type 0
FindsTexts text image decks data_ old new totals_old totals_new fault_old fault_new number =
    ((fault_new ≡ fault_old) × FindsRun text image decks data_ old new totals_new number)
    ⊎ ((new ≡ old) × (totals_new ≡ totals_old) × StopsData text image decks data_ fault_new × (number ≡ fault_new.number))

-- ---- runs over descriptors

-- The descriptors gave and took some bytes: a whole run over the former, to the latter.
pub record RanOver (text image decks : List ℕ) (told : CsbCounts) : Type 0 where
  pub after : Given
  pub took : Contents
  pub totals : Totals
  pub runs : RunsImage text image decks unread after empty took totals
  pub counts_are : told ≡ counts_of totals

pub record StoppedOver (text image decks : List ℕ) (f : CsbFault) : Type 0 where
  pub after : Given
  pub took : Contents
  pub failed : Failures
  pub stops : StopsImage text image decks unread after empty took failed f

abbrev pub FindsCounts : List ℕ → List ℕ → List ℕ → CsbCounts → CsbCounts → CsbFault → CsbFault → ℕ → Type 0
FindsCounts text image decks counts_old counts_new fault_old fault_new number =
    ((fault_new ≡ fault_old) × RanOver text image decks counts_new × (number ≡ 0))
    ⊎ ((counts_new ≡ counts_old) × StoppedOver text image decks fault_new × (number ≡ fault_new.number))
