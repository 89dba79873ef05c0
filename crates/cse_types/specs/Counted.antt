-- Where the arrays and the ended functions of a scope are sound, and counted as they are declared.
use Rattle.std.specs.Prelude.{◌≡◌, ℕ, List, length, slice_get, Option, Some, None}
use Rattle.cse_logic_tree.specs.Typed.{Dimension}
use Rattle.cse_logic_names.specs.Scope.{Scope, Facts}
use Rattle.cse_logic_faults.specs.Faults.{Counts}

-- an array has as many dimensions as it is declared with
abbrev pub ArrayIsCounted : Option (Option (List Dimension)) → Option ℕ → Type 0
ArrayIsCounted None declared = declared ≡ None
ArrayIsCounted (Some None) declared = ⊥
ArrayIsCounted (Some (Some ds)) declared = declared ≡ Some (length ds)

-- a function that has ended has as many parameters as it is declared with
abbrev pub FunctionIsCounted : Option (Option Facts) → Option ℕ → Type 0
FunctionIsCounted None declared = Unit {0}
FunctionIsCounted (Some None) declared = ⊥
FunctionIsCounted (Some (Some f)) declared = declared ≡ Some f.parameters

pub record IsCounted (c : Counts) (s : Scope) : Type 0 where
  pub arrays : (a : ℕ) → ArrayIsCounted (slice_get s.arrays a) (slice_get c.dimensions a)
  pub functions : (k : ℕ) → FunctionIsCounted (slice_get s.functions k) (slice_get c.parameters k)
