-- A program of version 1 and its upgrade run the same.
use Rattle.std.specs.Prelude.{◌≡◌, ℕ, ◌↔◌, Option}
use Rattle.cse_image_parts.specs.declared.version.Version.TheVariants as versions
use Rattle.cse_image_parts.specs.Image.{Image}
use Rattle.cse_image_parts.specs.Upgrade.{upgrade, as_it_stands}
use Rattle.cse_image.specs.Spelling.{FitsIn}
use Rattle.cse_dict.specs.Dictionary.{DictionaryText}
use Rattle.cse_case.specs.Case.{CaseText}
use Rattle.cse_decks.specs.Store.{Kept}
use Rattle.cse_verify.specs.CaseEvents.{Moment}
use Rattle.cse_verify.specs.Verified.{VerifiedProgram}
use Rattle.cse_steps.specs.State.{Told, State}
use Rattle.cse_steps.specs.Step.{step}
use Rattle.cse_steps.specs.Run.{run, first, Ends}

-- what a program of version 1 means, for a dictionary: its code as it stands
abbrev pub meant : DictionaryText → Image → VerifiedProgram
meant d x = record { dictionary = d; image = as_it_stands x }

-- its upgrade
abbrev pub upgraded : DictionaryText → Image → VerifiedProgram
upgraded d x = record { dictionary = d; image = upgrade x }

-- Two programs begin each event in the same state, and lead from any state by so many steps to the same
-- state, or to none. So an event ends after as many steps with the same case, store and reports.
pub record RunTheSame (v w : VerifiedProgram) : Type 0 where
  pub firsts : (m : Moment) (case : Option CaseText) (store : Kept) → first v m case store ≡ first w m case store
  pub steps : (s : State) → step v s ≡ step w s
  pub runs : (n : ℕ) (s : State) → run v n s ≡ run w n s
  pub ends : (m : Moment) (case : Option CaseText) (store : Kept) (n : ℕ) (case' : Option CaseText) (store' : Kept) (told : Told) → Ends v m case store n case' store' told ↔ Ends w m case store n case' store' told

-- the upgrade of a program that fits version 1, and that program as it stands, with whatever dictionary
abbrev pub UpgradeRunsTheSame : Type 0
UpgradeRunsTheSame = (d : DictionaryText) (x : Image) → FitsIn versions.One x → RunTheSame (upgraded d x) (meant d x)
