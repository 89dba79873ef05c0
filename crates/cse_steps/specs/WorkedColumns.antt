-- Worked rows: a small program that writes an item, and the columns that it writes.
use Rattle.std.specs.Prelude.{◌≡◌, ℕ, pos, false, List, [], ◌∷◌, length, map, Option, Some, None, option_map, IfSome}
use Rattle.cse_value.specs.declared.shape.ItemKind.TheVariants as kinds
use Rattle.cse_image_parts.specs.declared.entries.Ambient.TheVariants as ambients
use Rattle.cse_image_parts.specs.declared.entries.EventCode.TheVariants.{LevelPreproc}
use Rattle.cse_image_parts.specs.declared.entries.Gift.TheVariants as gifts
use Rattle.cse_image_parts.specs.declared.instruction.Instr.{Instr}
use Rattle.cse_image_parts.specs.declared.instruction.Op.TheVariants as ops
use Rattle.cse_dict.specs.Dictionary.{DictionaryText}
use Rattle.cse_case.specs.Columns.{LineText, no_line}
use Rattle.cse_case.specs.Case.{CaseText}
use Rattle.cse_verify.specs.CaseEvents.{moment}
use Rattle.cse_verify.specs.Verified.{VerifiedProgram}
use Rattle.cse_steps.specs.State.{State}
use Rattle.cse_steps.specs.Run.{first, run}
use Rattle.cse_steps.specs.Columns.{WritesColumn}
use Rattle.cse_steps.specs.Worked.{persons, instr}

-- persons whose age stands in the columns 2 and 3, counted from 1
abbrev pub aged_persons : DictionaryText
aged_persons = record persons {
  items = record { name = []; shape = record { owner = 0; kind = kinds.Number; len = 2; start = 2 }; zero_fill = false; code = None } ∷ [];
}

-- 135
abbrev pub person : LineText
person = record no_line { columns = 49 ∷ 51 ∷ 53 ∷ []; len = 3; record_number = Some 0 }

abbrev pub two_persons : CaseText
two_persons = record { dictionary = aged_persons; ids = []; run = record { lines = person ∷ person ∷ []; marked = false; first_line = 1 } }

-- the age of the second person becomes blank
abbrev pub blanks_age : List Instr
blanks_age =
    instr ops.Number 0 0 0 ∷ instr ops.Occurrence 0 0 4 ∷ instr ops.Special 0 0 0 ∷ instr ops.StoreNumber 0 0 0 ∷ instr ops.Return 0 0 0 ∷ []

abbrev pub blanking : VerifiedProgram
blanking = record {
  dictionary = aged_persons;
  image = record {
    lists = record {
      records = record { max_records = 30; record_len = 12 } ∷ [];
      items = record { owner = 0; kind = kinds.Number; len = 2; start = 2 } ∷ [];
      sets = [];
      order = 0 ∷ [];
      constants = pos 2 ∷ [];
      limits = [];
      texts = [];
      globals = [];
      arrays = [];
      messages = [];
      routines = record { ambient = ambients.Case; gives = gifts.Nothing; parameters = 0; locals = []; instructions = length blanks_age } ∷ [];
      events = record { code = LevelPreproc; index = 0; routine = 0 } ∷ [];
    };
    code = blanks_age;
  };
}

-- its state after so many steps
abbrev pub blanked_after : ℕ → Option State
blanked_after steps = run blanking steps (first blanking (moment LevelPreproc 0 0) (Some two_persons) (record { globals = []; arrays = [] }))

abbrev pub columns_in : Option CaseText → List (List ℕ)
columns_in None = []
columns_in (Some t) = map (λ l. l.columns) t.run.lines

-- the columns of the lines of its case
abbrev pub columns_after : ℕ → Option (List (List ℕ))
columns_after steps = option_map (λ s. columns_in s.world.case) (blanked_after steps)

-- its fourth step writes this column of the line at this place
abbrev pub FourthWrites : ℕ → ℕ → Type 0
FourthWrites place column = IfSome (blanked_after 3) (λ s. WritesColumn blanking s place column)

pub record AreWritten : Type 0 where
  pub before : columns_after 3 ≡ Some ((49 ∷ 51 ∷ 53 ∷ []) ∷ (49 ∷ 51 ∷ 53 ∷ []) ∷ [])
  pub after : columns_after 4 ≡ Some ((49 ∷ 51 ∷ 53 ∷ []) ∷ (49 ∷ 32 ∷ 32 ∷ []) ∷ [])
  pub first_column : FourthWrites 1 1
  pub last_column : FourthWrites 1 2
  pub not_type : FourthWrites 1 0 → ⊥
  pub not_other_line : FourthWrites 0 1 → ⊥
