-- Instructions that lie in bytes, eight bytes each.
use Rattle.std.specs.Prelude.{◌≡◌, ◌/◌, ℕ, List, [], map, length, Result, Ok, Err}
use Rattle.std.specs.List.{flat_map, AllByRecursion}
use Rattle.cse_image_parts.specs.declared.fault.FieldFault.{FieldFault}
use Rattle.cse_image_parts.specs.Reader.{each}
use Rattle.cse_image_parts.specs.declared.instruction.Instr.{Instr}
use Rattle.cse_image_parts.specs.declared.version.Version.{Version}
use Rattle.cse_image_parts.specs.declared.version.Version.TheVariants as versions
use Rattle.cse_image_parts.specs.Upgrade.{upgrade_instr}
use Rattle.cse_image.specs.Reading.{instr_at}
use Rattle.cse_image.specs.Spelling.{instr, InstrFits}

abbrev pub value_of : Result (List Instr × List ℕ) FieldFault → List Instr
value_of (Ok x) = x.0
value_of (Err f) = []

-- the instructions that the bytes are
unfoldable pub code_in : Version → List ℕ → List Instr
code_in version bytes = value_of (each (instr_at version) (length bytes / 8) bytes)

-- The bytes are the spelling of these instructions.
pub record IsCodeOf (version : Version) (xs : List Instr) (bytes : List ℕ) : Type 0 where
  pub fit : AllByRecursion (InstrFits version) xs
  pub bytes_are : bytes ≡ flat_map instr xs

-- the instructions that they stand for
abbrev pub program_instr : Version → Instr → Instr
program_instr versions.One x = upgrade_instr x
program_instr versions.Two x = x

abbrev pub program_code : Version → List Instr → List Instr
program_code versions.One xs = map upgrade_instr xs
program_code versions.Two xs = xs
