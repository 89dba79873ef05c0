-- The rules of jumps and brackets of a whole program.
use Rattle.std.specs.Prelude.{◌≡◌, ℕ, ◌<◌, length}
use Rattle.cse_image_parts.specs.Image.{Image}
use Rattle.cse_code_typing.specs.declared.refusal.Refusal.{Refusal}
use Rattle.cse_code_typing.specs.Skeleton.{skeleton_of}
use Rattle.cse_code_typing.specs.Bracket.{KeepsRules, BreaksFirst}

-- each routine keeps the rules
abbrev pub AllKeepRules : Image → Type 0
AllKeepRules x = (r : ℕ) → r < length x.lists.routines → KeepsRules (skeleton_of x r)

-- the least routine that breaks a rule, and its least place
pub record BreaksRulesAt (x : Image) (routine place : ℕ) : Type 0 where
  pub within : routine < length x.lists.routines
  pub at : BreaksFirst (skeleton_of x routine) place
  pub before : (r : ℕ) → r < routine → KeepsRules (skeleton_of x r)

-- 65, at that place
pub record FailsJumps (x : Image) (e : Refusal) : Type 0 where
  pub number : e.number ≡ 65
  pub breaks : BreaksRulesAt x e.routine e.at
