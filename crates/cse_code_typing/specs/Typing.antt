-- A typing: one abstract stack for each place of a routine.
use Rattle.std.specs.Prelude.{◌≡◌, ℕ, ◌+◌, ◌<◌, List, [], ◌∷◌, length, Some, slice_get, ◌⊎◌}
use Rattle.cse_image_parts.specs.declared.instruction.Instr.{Instr}
use Rattle.cse_code_typing.specs.declared.kind.Kind.{Kind}
use Rattle.cse_code_typing.specs.Rule.{Edge, Rule}

-- a stack for each place
abbrev pub Stacks : Type 0
Stacks = ℕ → List Kind

-- these stacks stand at the places below n
abbrev pub AgreesBelow : ℕ → Stacks → List Edge → Type 0
AgreesBelow n t [] = Unit {0}
AgreesBelow n t (e ∷ es) = (e.0 < n → t e.0 ≡ e.1) × AgreesBelow n t es

-- one of the edges leads to the place
abbrev pub LeadsTo : ℕ → List Edge → Type 0
LeadsTo k [] = ⊥
LeadsTo k (e ∷ es) = (e.0 ≡ k) ⊎ LeadsTo k es

-- an instruction has a rule for its stack, and the places below n to which it leads have the rule's
pub record FollowsRule (rule : Rule) (n : ℕ) (t : Stacks) (q : ℕ) (i : Instr) : Type 0 where
  pub edges : List Edge
  pub ruled : rule q i (t q) ≡ Some edges
  pub agrees : AgreesBelow n t edges

-- some instruction at a place smaller than k leads to k
pub record IsLedTo (rule : Rule) (code : List Instr) (t : Stacks) (k : ℕ) : Type 0 where
  pub from : ℕ
  pub instr : Instr
  pub edges : List Edge
  pub there : slice_get code from ≡ Some instr
  pub smaller : from < k
  pub ruled : rule from instr (t from) ≡ Some edges
  pub leads : LeadsTo k edges

-- A typing of the places below n: each instruction there follows its rule, and place 0 and each place
-- to which no smaller place leads have the empty stack. What stands at later places is no matter.
pub record IsTypingBelow (rule : Rule) (code : List Instr) (n : ℕ) (t : Stacks) : Type 0 where
  pub follows : (q : ℕ) (i : Instr) → q < n → slice_get code q ≡ Some i → FollowsRule rule n t q i
  pub others : (k : ℕ) → k < n → (IsLedTo rule code t k → ⊥) → t k ≡ []

-- the places below n have a typing
abbrev pub HasTypingBelow : Rule → List Instr → ℕ → Type 0
HasTypingBelow rule code n = (t : Stacks) × IsTypingBelow rule code n t

-- a routine has a typing: one of all its places
abbrev pub IsTypedCode : Rule → List Instr → Type 0
IsTypedCode rule code = HasTypingBelow rule code (length code)

-- the least place p for which the places below have a typing, and those up to p have none
pub record HasNoStackAt (rule : Rule) (code : List Instr) (p : ℕ) : Type 0 where
  pub within : p < length code
  pub before : HasTypingBelow rule code p
  pub none : HasTypingBelow rule code (p + 1) → ⊥
