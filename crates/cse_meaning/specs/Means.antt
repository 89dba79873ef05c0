-- A program does what the logic means.
use Rattle.std.specs.Prelude.{◌≡◌, ℕ, ◌<◌, length, Option, None}
use Rattle.cse_case.specs.Case.{CaseText}
use Rattle.cse_decks.specs.Store.{Kept}
use Rattle.cse_image_parts.specs.declared.entries.EventCode.{EventCode}
use Rattle.cse_image_parts.specs.declared.entries.EventCode.TheVariants as codes
use Rattle.cse_dict.specs.Dictionary.{DictionaryText}
use Rattle.cse_code_typing.specs.Handlers.{routine_of}
use Rattle.cse_verify.specs.CaseEvents.{Moment}
use Rattle.cse_verify.specs.Verified.{VerifiedProgram}
use Rattle.cse_logic_tree.specs.Typed.{Tree}
use Rattle.cse_steps.specs.State.{World, nothing_told}
use Rattle.cse_steps.specs.Run.{Ends}
use Rattle.cse_steps.specs.Fits.{FitsFirst}
use Rattle.cse_meaning.specs.Meaning.{meaning}

-- before an event nothing is told of it
abbrev pub begins : Option CaseText → Kept → World
begins case store = record { case = case; store = store; told = nothing_told }

-- the event is of a record or an item of the dictionary, where it is of one
abbrev pub IsEventOf : DictionaryText → EventCode → ℕ → Type 0
IsEventOf d codes.ApplicationPreproc index = index ≡ 0
IsEventOf d codes.ApplicationPostproc index = index ≡ 0
IsEventOf d codes.LevelPreproc index = index ≡ 0
IsEventOf d codes.LevelPostproc index = index ≡ 0
IsEventOf d codes.RecordPreproc index = index < length d.records
IsEventOf d codes.RecordPostproc index = index < length d.records
IsEventOf d codes.ItemPreproc index = index < length d.items
IsEventOf d codes.ItemPostproc index = index < length d.items

-- the event runs to its end in so many steps, and leaves this
abbrev pub RunsTo : VerifiedProgram → Moment → Option CaseText → Kept → World → Type 0
RunsTo v m case store w = (n : ℕ) × Ends v m case store n w.case w.store w.told

-- Each event of the dictionary, on whatever case and store fit, runs to its end and leaves what the logic means; one for
-- which the program has no routine means nothing.
pub record Means (v : VerifiedProgram) (t : Tree) : Type 0 where
  pub runs : (m : Moment) (case : Option CaseText) (store : Kept) → IsEventOf v.dictionary m.event.code m.event.index → FitsFirst v m case store → RunsTo v m case store (meaning v.dictionary t m (begins case store))
  pub idle : (m : Moment) (w : World) → IsEventOf v.dictionary m.event.code m.event.index → routine_of v.image.lists.events m.event ≡ None → meaning v.dictionary t m w ≡ w

-- and an event leaves nothing else
abbrev pub MeaningIsTheOutcome : Type 0
MeaningIsTheOutcome =
    (v : VerifiedProgram) (t : Tree) (m : Moment) (case : Option CaseText) (store : Kept) (n : ℕ) (w : World) → Means v t
    → IsEventOf v.dictionary m.event.code m.event.index → FitsFirst v m case store → Ends v m case store n w.case w.store w.told
    → w ≡ meaning v.dictionary t m (begins case store)
