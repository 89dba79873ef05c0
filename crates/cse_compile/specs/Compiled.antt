-- Which sources are sound, and what stands against their programs.
use Rattle.std.specs.Prelude.{◌≡◌, ℕ, List}
use Rattle.cse_value.specs.Shape.{ShapeLists}
use Rattle.cse_image_parts.specs.Image.{Image}
use Rattle.cse_image.specs.Spelling.{Fits}
use Rattle.cse_dict.specs.Dictionary.{DictionaryText, shape_of}
use Rattle.cse_code_typing.specs.Typed.{IsTyped}
use Rattle.cse_verify.specs.Bounded.{IsBounded}
use Rattle.cse_logic_tree.specs.Typed.{Tree}
use Rattle.cse_compile.specs.declared.error.CompileError.{CompileError}
use Rattle.cse_compile.specs.Fault.{IsReason}
use Rattle.cse_compile.specs.Program.{IsProgramOf}

-- a program of the source that has a spelling is typed, so that its steps alone may stand against it
abbrev pub IsSound : DictionaryText → List ℕ → Tree → Type 0
IsSound d named t = (x : Image) → IsProgramOf d named t x → Fits x → IsTyped (shape_of d) x

-- no program of the source has a spelling: one of its tables, or its code, is beyond a limit of the format
abbrev pub HasNoRoom : DictionaryText → List ℕ → Tree → Type 0
HasNoRoom d named t = (x : Image) → IsProgramOf d named t x → Fits x → ⊥

-- a program of the source that has a spelling passes the limit on steps
abbrev pub MayTakeLong : DictionaryText → List ℕ → Tree → Type 0
MayTakeLong d named t = (x : Image) × IsProgramOf d named t x × Fits x × (IsBounded x → ⊥)

-- Where the image is typed if it has a spelling, it is refused by 64, 67 or 90, by 67 only where it has a spelling and isn't bounded.
abbrev pub IsRefused : ShapeLists → Image → CompileError → Type 0
IsRefused s x e = (Fits x → IsTyped s x) → IsReason e × (e.number ≡ 67 → Fits x × (IsBounded x → ⊥))
