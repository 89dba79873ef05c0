-- Worked rows: small programs, and the states that they come to.
use Rattle.std.specs.Prelude.{◌≡◌, ℕ, ℤ, pos, Bool, true, false, List, [], ◌∷◌, length, map, replicate, Option, Some, None, option_map}
use Rattle.std.specs.Option.{option_map_or}
use Rattle.cse_image_parts.specs.declared.entries.Ambient.TheVariants as ambients
use Rattle.cse_image_parts.specs.declared.entries.EventCode.TheVariants.{LevelPreproc}
use Rattle.cse_image_parts.specs.declared.entries.Gift.TheVariants as gifts
use Rattle.cse_image_parts.specs.declared.entries.Local.{Local}
use Rattle.cse_image_parts.specs.declared.entries.LocalKind.TheVariants as locals
use Rattle.cse_image_parts.specs.declared.instruction.Instr.{Instr}
use Rattle.cse_image_parts.specs.declared.instruction.Op.{Op}
use Rattle.cse_image_parts.specs.declared.instruction.Op.TheVariants as ops
use Rattle.cse_dict.specs.Dictionary.{DictionaryText}
use Rattle.cse_case.specs.Columns.{no_line}
use Rattle.cse_case.specs.Case.{CaseText}
use Rattle.cse_verify.specs.Verified.{VerifiedProgram}
use Rattle.cse_steps.specs.Cell.{Cell, Index, Occurrence, Words}
use Rattle.cse_steps.specs.State.{Open, Call, State}
use Rattle.cse_steps.specs.Operands.{arguments_taken}
use Rattle.cse_steps.specs.Step.{current}
use Rattle.cse_verify.specs.CaseEvents.{moment}
use Rattle.cse_steps.specs.Run.{first, run}
use Rattle.cse_steps.specs.Events.{Outcome, both}

-- a dictionary with one record, of which a case has at most 30
abbrev pub persons : DictionaryText
persons = record {
  name = [];
  level_name = [];
  type_columns = record { start = 1; len = 1 };
  records = record { name = []; record_type = []; shape = record { max_records = 30; record_len = 12 } } ∷ [];
  items = [];
  sets = [];
}

-- a case of so many persons
abbrev pub case_of : ℕ → CaseText
case_of n = record { dictionary = persons; ids = []; run = record { lines = replicate n (record no_line { record_number = Some 0 }); marked = false; first_line = 1 } }

abbrev pub instr : Op → ℕ → ℕ → ℕ → Instr
instr op a b c = record { op = op; a = a; b = b; c = c }

-- a program of one routine, for the preproc of the level
abbrev pub program : List ℤ → List Instr → VerifiedProgram
program constants code = record {
  dictionary = persons;
  image = record {
    lists = record {
      records = record { max_records = 30; record_len = 12 } ∷ [];
      items = [];
      sets = [];
      order = 0 ∷ [];
      constants = constants;
      limits = 10 ∷ [];
      texts = [];
      globals = [];
      arrays = [];
      messages = [];
      routines = record { ambient = ambients.Case; gives = gifts.Nothing; parameters = 0; locals = []; instructions = length code } ∷ [];
      events = record { code = LevelPreproc; index = 0; routine = 0 } ∷ [];
    };
    code = code;
  };
}

-- the state after so many steps of it, for a case of so many persons
abbrev pub state_after : ℕ → List ℤ → List Instr → ℕ → Option State
state_after steps constants code people =
    run (program constants code) steps (first (program constants code) (moment LevelPreproc 0 0) (Some (case_of people)) (record { globals = []; arrays = [] }))

abbrev pub has_ended : List Call → Bool
has_ended [] = true
has_ended (c ∷ below) = false

-- it has so many steps, and no more
abbrev pub ends_after : ℕ → List ℤ → List Instr → ℕ → Bool
ends_after steps constants code people = option_map_or (λ s. has_ended s.calls) (state_after steps constants code people) false

-- where its calls stand after so many steps, and what lies on their stacks
abbrev pub places_after : ℕ → List ℤ → List Instr → ℕ → Option (List (ℕ × List Cell))
places_after steps constants code people = option_map (λ s. map (λ c. (c.place, c.cells)) s.calls) (state_after steps constants code people)

-- two loops: each person, and in it ten turns that a break ends where there are more than two persons
abbrev pub loops : List Instr
loops =
    instr ops.LoopOccurrences 0 0 9 ∷ instr ops.Number 0 0 0 ∷ instr ops.LoopCount 0 0 8 ∷ instr ops.TotalOccurrences 0 0 0 ∷ instr ops.Number 0 0 1 ∷ instr ops.Compare 4 0 0
    ∷ instr ops.JumpUnless 0 0 8 ∷ instr ops.Break 0 0 8 ∷ instr ops.End 0 0 2 ∷ instr ops.End 0 0 0 ∷ instr ops.Return 0 0 0 ∷ []

-- an index of size 10, or to the last place
abbrev pub index_of_ten : List Instr
index_of_ten = instr ops.Number 0 0 0 ∷ instr ops.Index 0 10 3 ∷ instr ops.Pop 2 0 0 ∷ instr ops.Return 0 0 0 ∷ []

-- an occurrence of a record, or to the last place
abbrev pub occurrence_of : ℕ → List Instr
occurrence_of a = instr ops.Number 0 0 0 ∷ instr ops.Occurrence a 0 3 ∷ instr ops.Pop 2 0 0 ∷ instr ops.Return 0 0 0 ∷ []

-- a return within a loop
abbrev pub returns_within : List Instr
returns_within = instr ops.Number 0 0 0 ∷ instr ops.LoopCount 0 0 3 ∷ instr ops.Return 0 0 0 ∷ instr ops.End 0 0 1 ∷ instr ops.Return 0 0 0 ∷ []

-- a loop that counts within one over occurrences, the second of them
abbrev pub inner_count : List Open
inner_count = record { opener = 2; left = 4; over = None } ∷ record { opener = 0; left = 1; over = Some (0, 2) } ∷ []

-- a text parameter of three characters
abbrev pub short_text : List Local
short_text = record { kind = locals.Text; owner = 0; length = 3 } ∷ []

-- what an event leaves that has given a message without arguments
abbrev pub left_with : ℕ → ℕ → Outcome
left_with steps message = record { steps = steps; case = None; store = record { globals = []; arrays = [] }; told = record { given = (message, []) ∷ []; imputed = [] } }

pub record AreWorked : Type 0 where
  pub three_persons : ends_after 26 (pos 10 ∷ pos 2 ∷ []) loops 3 ≡ true
  pub two_persons : ends_after 108 (pos 10 ∷ pos 2 ∷ []) loops 2 ≡ true
  pub index_is_there : places_after 2 (pos 10 ∷ []) index_of_ten 1 ≡ Some ((2, Index 10 10 ∷ []) ∷ [])
  pub index_is_not : places_after 2 (pos 11 ∷ []) index_of_ten 1 ≡ Some ((3, []) ∷ [])
  pub occurrence_is_there : places_after 2 (pos 1 ∷ []) (occurrence_of 0) 1 ≡ Some ((2, Occurrence 1 0 ∷ []) ∷ [])
  pub occurrence_is_not : places_after 2 (pos 2 ∷ []) (occurrence_of 0) 1 ≡ Some ((3, []) ∷ [])
  pub record_is_not : places_after 2 (pos 1 ∷ []) (occurrence_of 1) 1 ≡ None
  pub return_ends_brackets : ends_after 3 (pos 10 ∷ []) returns_within 1 ≡ true
  pub outer_occurrence : current 0 inner_count ≡ Some 2
  pub text_is_cut : arguments_taken short_text (Words (65 ∷ 66 ∷ 67 ∷ 68 ∷ []) ∷ []) ≡ Some (Words (65 ∷ 66 ∷ 67 ∷ []) ∷ [], [])
  pub text_is_padded : arguments_taken short_text (Words (65 ∷ []) ∷ []) ≡ Some (Words (65 ∷ 32 ∷ 32 ∷ []) ∷ [], [])
  pub steps_are_added : (both (left_with 2 7) (left_with 3 1)).steps ≡ 5
  pub reports_in_order : map (λ g. g.0) (both (left_with 2 7) (left_with 3 1)).told.given ≡ 7 ∷ 1 ∷ []
