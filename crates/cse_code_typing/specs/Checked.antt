-- What the check of one routine finds: the rules of brackets first, then the pass over its places.
use Rattle.std.specs.Prelude.{◌≡◌, ℕ, List, ◌⊎◌}
use Rattle.cse_image_parts.specs.declared.instruction.Instr.{Instr}
use Rattle.cse_code_typing.specs.declared.refusal.Refusal.{Refusal}
use Rattle.cse_code_typing.specs.Skeleton.{skeleton}
use Rattle.cse_code_typing.specs.Bracket.{KeepsRules, BreaksFirst}
use Rattle.cse_code_typing.specs.Signature.{Scene}
use Rattle.cse_code_typing.specs.Rule.{rule}
use Rattle.cse_code_typing.specs.Typing.{IsTypedCode}
use Rattle.cse_code_typing.specs.Calls.{AllMayStand}
use Rattle.cse_code_typing.specs.Judged.{StopsAtInstr, StopsAtStack}

-- nothing is wrong with routine r
pub record IsSound (s : Scene) (r : ℕ) (code : List Instr) : Type 0 where
  pub brackets : KeepsRules (skeleton s.lists code)
  pub calls : AllMayStand s.lists.routines r s.routine.ambient code
  pub typing : IsTypedCode (rule s code) code

-- 65: a place of routine r breaks a rule of jumps or brackets
pub record FailsRules (s : Scene) (r : ℕ) (code : List Instr) (e : Refusal) : Type 0 where
  pub number : e.number ≡ 65
  pub routine : e.routine ≡ r
  pub at : BreaksFirst (skeleton s.lists code) e.at

-- 69: an instruction may not stand in routine r
pub record FailsCalls (s : Scene) (r : ℕ) (code : List Instr) (e : Refusal) : Type 0 where
  pub number : e.number ≡ 69
  pub routine : e.routine ≡ r
  pub brackets : KeepsRules (skeleton s.lists code)
  pub at : StopsAtInstr s r code e.at

-- 66: no stack fits a place of routine r
pub record FailsTyping (s : Scene) (r : ℕ) (code : List Instr) (e : Refusal) : Type 0 where
  pub number : e.number ≡ 66
  pub routine : e.routine ≡ r
  pub brackets : KeepsRules (skeleton s.lists code)
  pub at : StopsAtStack s r code e.at

abbrev pub Fails : Scene → ℕ → List Instr → Refusal → Type 0
Fails s r code e = FailsRules s r code e ⊎ (FailsCalls s r code e ⊎ FailsTyping s r code e)
