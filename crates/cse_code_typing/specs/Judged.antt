-- What a pass over a routine finds.
use Rattle.std.specs.Prelude.{◌≡◌, ◌+◌, ℕ, false, List, Option, None, Some, Result, Ok, Err, slice_get}
use Rattle.cse_image_parts.specs.declared.instruction.Instr.{Instr}
use Rattle.cse_code_typing.specs.declared.walk.WalkFault.{WalkFault}
use Rattle.cse_code_typing.specs.declared.walk.WalkFault.TheVariants.{MayNotStand, NoStack}
use Rattle.cse_code_typing.specs.Signature.{Scene}
use Rattle.cse_code_typing.specs.Rule.{rule}
use Rattle.cse_code_typing.specs.Typing.{HasTypingBelow, IsTypedCode, HasNoStackAt}
use Rattle.cse_code_typing.specs.declared.depth.Depth.{Depth}
use Rattle.cse_code_typing.specs.Calls.{may_stand, MayStandBelow, AllMayStand}

-- in routine r: the least place whose instruction may not stand there, the places before it having a typing
pub record StopsAtInstr (s : Scene) (r : ℕ) (code : List Instr) (p : ℕ) : Type 0 where
  pub instr : Instr
  pub there : slice_get code p ≡ Some instr
  pub fails : may_stand s.lists.routines r s.routine.ambient instr ≡ false
  pub calls : MayStandBelow s.lists.routines r s.routine.ambient code p
  pub typing : HasTypingBelow (rule s code) code p

-- the least place for which there is no typing
pub record StopsAtStack (s : Scene) (r : ℕ) (code : List Instr) (p : ℕ) : Type 0 where
  pub calls : MayStandBelow s.lists.routines r s.routine.ambient code (p + 1)
  pub at : HasNoStackAt (rule s code) code p

abbrev pub Judges : Scene → ℕ → List Instr → Option WalkFault → Type 0
Judges s r code None = AllMayStand s.lists.routines r s.routine.ambient code × IsTypedCode (rule s code) code
Judges s r code (Some (MayNotStand p)) = StopsAtInstr s r code p
Judges s r code (Some (NoStack p)) = StopsAtStack s r code p

-- the fault, where there is no depth
abbrev pub fault_in : Result Depth WalkFault → Option WalkFault
fault_in (Ok d) = None
fault_in (Err f) = Some f
