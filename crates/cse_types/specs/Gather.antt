-- What is known of a function is gathered from what its statements use, one use after the other.
use Rattle.std.specs.Prelude.{ℕ, Bool, true, false, ◌||◌, List, [], ◌∷◌, slice_get, Option}
use Rattle.cse_types.specs.declared.facts.Gathered.{Gathered}
use Rattle.cse_logic_names.specs.Scope.{Facts}
use Rattle.cse_logic_tree.specs.Typed.{Statements}
use Rattle.cse_logic_names.specs.Uses.{Use, TheCase, Calls, Assigns, uses_block, facts_need, facts_assign, needs_case, assigned_after, with_global, with_globals}

-- what is known after a call of this function
abbrev pub with_call : Gathered → Option (Option Facts) → Gathered
with_call g called = record { needs_case = g.needs_case || facts_need called; assigned = with_globals g.assigned (facts_assign called) }

abbrev pub with_use : List (Option Facts) → Gathered → Use → Gathered
with_use functions g TheCase = record { needs_case = true; assigned = g.assigned }
with_use functions g (Calls f) = with_call g (slice_get functions f)
with_use functions g (Assigns x) = record { needs_case = g.needs_case; assigned = with_global g.assigned x }

unfoldable pub gather : List (Option Facts) → Gathered → List Use → Gathered
gather functions g [] = g
gather functions g (u ∷ us) = gather functions (with_use functions g u) us

-- what is known of a function of so many parameters
abbrev pub facts_from : List (Option Facts) → ℕ → Statements → Facts
facts_from functions parameters body = record {
  parameters = parameters;
  needs_case = needs_case functions (uses_block body);
  assigned = assigned_after functions [] (uses_block body);
}
