-- A worked row: a batch with a program that writes an item, over lines of which two are unseen.
use Rattle.std.specs.Prelude.{◌≡◌, pos, true, false, List, [], ◌∷◌, ◌++◌, codes, length, None}
use Rattle.cse_value.specs.declared.shape.ItemKind.TheVariants.{Number}
use Rattle.cse_value.specs.declared.shape.ItemShape.{ItemShape}
use Rattle.cse_image_parts.specs.declared.entries.Ambient.TheVariants as ambients
use Rattle.cse_image_parts.specs.declared.entries.EventCode.TheVariants.{LevelPreproc}
use Rattle.cse_image_parts.specs.declared.entries.Gift.TheVariants as gifts
use Rattle.cse_image_parts.specs.declared.instruction.Instr.{Instr}
use Rattle.cse_image_parts.specs.declared.instruction.Op.TheVariants as ops
use Rattle.cse_dict.specs.Dictionary.{DictionaryText}
use Rattle.cse_value.specs.Gathering.{line}
use Rattle.cse_verify.specs.Verified.{VerifiedProgram}
use Rattle.cse_steps.specs.Worked.{instr}
use Rattle.cse_batch_parts.specs.Batch.{batch}
use Rattle.cse_batch_parts.specs.Worked.{empty_program, four_lines, household, nothing_kept, persons}

-- the age of a person, in the columns 8 and 9
abbrev pub age : ItemShape
age = record { owner = 0; kind = Number; len = 2; start = 8 }

abbrev pub aged_persons : DictionaryText
aged_persons = record persons { items = record { name = codes "HH"; shape = household; zero_fill = true; code = None } ∷ record { name = codes "AGE"; shape = age; zero_fill = false; code = None } ∷ [] }

-- the age of the second person becomes blank
abbrev pub blanks_age : List Instr
blanks_age =
    instr ops.Number 0 0 0 ∷ instr ops.Occurrence 0 0 4 ∷ instr ops.Special 0 0 0 ∷ instr ops.StoreNumber 0 0 1 ∷ instr ops.Return 0 0 0 ∷ []

abbrev pub blanking : VerifiedProgram
blanking = record {
  dictionary = aged_persons;
  image = record {
    lists = record empty_program.image.lists {
      items = household ∷ age ∷ [];
      constants = pos 2 ∷ [];
      routines = record { ambient = ambients.Case; gives = gifts.Nothing; parameters = 0; locals = []; instructions = length blanks_age } ∷ [];
      events = record { code = LevelPreproc; index = 0; routine = 0 } ∷ [];
    };
    code = blanks_age;
  };
}

-- of the four lines the second alone changes, in these two columns
abbrev pub IsBlanked : Type 0
IsBlanked = (batch blanking nothing_kept four_lines true).out ≡ line (codes "P00111 35") ++ line (codes "P00121   ") ++ line (codes "X001") ++ line (codes "P00131  5")
