-- The program of a sound source means what the source means.
use Rattle.std.specs.Prelude.{◌≡◌, ℕ, List}
use Rattle.cse_syntax_tree.specs.Tree as syntax
use Rattle.cse_syntax_tree.specs.Word.{Word}
use Rattle.cse_verify.specs.Verified.{VerifiedProgram}
use Rattle.cse_logic_tree.specs.Typed.{Tree}
use Rattle.cse_logic_names.specs.MessageFile.{MessageText}
use Rattle.cse_meaning.specs.Checked.{IsCompiled}
use Rattle.cse_steps.specs.Fits.{IsVerified}
use Rattle.cse_steps.specs.Laws.{EventsEnd}
use Rattle.cse_meaning.specs.Means.{Means}

-- Whatever sound source such a program is compiled from, it does what that means.
abbrev pub CompiledCodeMeans : VerifiedProgram → Type 0
CompiledCodeMeans v =
    (messages : List MessageText) (named : List ℕ) (source : syntax.Tree) (words : List Word) (t : Tree)
    → IsCompiled v.dictionary messages named source words t v.image → Means v t

-- ---- of a dictionary and an image alone, without a value that `verify` gave

-- Where the image has a spelling and is typed for the sound dictionary and bounded, each event runs to its end within its bound.
abbrev pub ProgramsEnd : Type 0
ProgramsEnd = (v : VerifiedProgram) → IsVerified v → EventsEnd v

-- and does what the source means that it is compiled from.
abbrev pub ProgramsMean : Type 0
ProgramsMean = (v : VerifiedProgram) → IsVerified v → CompiledCodeMeans v

-- Nothing is left open by a meaning: what merely is so is so.
abbrev pub MeansAlone : Type 0
MeansAlone = (v : VerifiedProgram) (t : Tree) → IsVerified v → ∥ Means v t ∥₁ → Means v t
