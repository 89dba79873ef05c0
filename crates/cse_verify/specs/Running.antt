-- What the passes keep at hand, as functions of lists.
use Rattle.std.specs.Prelude.{ℕ, ◌*◌, List, [], ◌∷◌, slice_index}
use Rattle.std.specs.List.{sum_by}
use Rattle.cse_image_parts.specs.declared.entries.EventEntry.{EventEntry}
use Rattle.cse_image_parts.specs.Image.{Lists}
use Rattle.cse_code_typing.specs.declared.control.Control.{Control}
use Rattle.cse_code_typing.specs.Bracket.{around}
use Rattle.cse_verify.specs.Weight.{product}
use Rattle.cse_verify.specs.EventBound.{times_in_case, times_in_run}

-- the weight of a place with these brackets around it, and under it those of their openers, the innermost first
abbrev pub weights_in : List Control → List ℕ → List ℕ
weights_in code [] = 1 ∷ []
weights_in code (s ∷ ss) = product code (s ∷ ss) ∷ weights_in code ss

abbrev pub weights_at : List Control → ℕ → List ℕ
weights_at code p = weights_in code (around code p)

-- the steps of a case's events, by a table of the routines' bounds
abbrev pub case_sum : Lists → List ℕ → ℕ
case_sum x bounds = sum_by (λ e. times_in_case x e.code e.index * slice_index bounds e.routine) x.events

-- those of the application's events
abbrev pub run_sum : List EventEntry → List ℕ → ℕ
run_sum events bounds = sum_by (λ e. times_in_run e.code * slice_index bounds e.routine) events
