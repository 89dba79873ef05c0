-- What files gave that may be named.
use Rattle.std.specs.Prelude.{ℕ, List, Option, None, Some, option_map}
use Rattle.cse_value.specs.Device.{IsAtEnd}
use Rattle.cse_files.specs.declared.whole.WholeFile.{WholeFile}
use Rattle.cse_command_parts.specs.Named.{text_or_none}
use Rattle.cse_command_parts.specs.Told.{Told}

-- what a file gave, to its end; nothing, where it is not named
abbrev pub text_given : {F : Type 0} → Told F → Option (WholeFile F) → List ℕ
text_given t file = text_or_none (option_map (λ f. (t.given f.input.device).bytes) file)

abbrev pub EndsWhereNamed : {F : Type 0} → Told F → Option (WholeFile F) → Type 0
EndsWhereNamed t None = Unit {0}
EndsWhereNamed t (Some f) = IsAtEnd (t.given f.input.device)
