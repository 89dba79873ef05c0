-- What the events of a batch come to, one after the other.
use Rattle.std.specs.Prelude.{◌≡◌, ℕ, zero, suc, ◌+◌, List, [], ◌∷◌, ◌++◌, length, if◌then◌else◌, Some}
use Rattle.std.specs.Option.{option_map_or}
use Rattle.cse_case.specs.Case.{CaseText, places_of, records_of, types_of}
use Rattle.cse_case.specs.Seen.{is_case}
use Rattle.cse_verify.specs.CaseEvents.{Moment, case_events, event_bound}
use Rattle.cse_verify.specs.Verified.{VerifiedProgram}
use Rattle.cse_decks.specs.Store.{Kept}
use Rattle.cse_steps.specs.State.{Told, World, State, nothing_told}
use Rattle.cse_steps.specs.Step.{step}
use Rattle.cse_steps.specs.Run.{first}

-- The state in which the steps that follow end, if they are at most so many. An event of a verified program
-- ends within its bound, so that as many steps as the bound cut nothing off.
unfoldable pub final : VerifiedProgram → ℕ → State → State
final v zero s = s
final v (suc n) s = option_map_or (final v n) (step v s) s

-- how many steps that are
unfoldable pub steps_from : VerifiedProgram → ℕ → State → ℕ
steps_from v zero s = 0
steps_from v (suc n) s = option_map_or (λ after. 1 + steps_from v n after) (step v s) 0

-- the state in which an event ends, and the steps that it takes
abbrev pub end_of : VerifiedProgram → World → Moment → State
end_of v w m = final v (event_bound v.image m.event) (first v m w.case w.store)

abbrev pub steps_of : VerifiedProgram → World → Moment → ℕ
steps_of v w m = steps_from v (event_bound v.image m.event) (first v m w.case w.store)

-- what was told, and then more
abbrev pub told_more : Told → Told → Told
told_more a b = record { given = a.given ++ b.given; imputed = a.imputed ++ b.imputed }

-- after an event, which begins with the results of the one before
abbrev pub after_moment : VerifiedProgram → World → Moment → World
after_moment v w m = let end = (end_of v w m).world in record { case = end.case; store = end.store; told = told_more w.told end.told }

-- after events, one after the other
abbrev pub after_moments : VerifiedProgram → World → List Moment → World
after_moments v w [] = w
after_moments v w (m ∷ ms) = after_moments v (after_moment v w m) ms

-- the steps that they take together
abbrev pub all_steps : VerifiedProgram → World → List Moment → ℕ
all_steps v w [] = 0
all_steps v w (m ∷ ms) = steps_of v w m + all_steps v (after_moment v w m) ms

-- each of them runs to its end
abbrev pub AllEnd : VerifiedProgram → World → List Moment → Type 0
AllEnd v w [] = Unit {0}
AllEnd v w (m ∷ ms) = ((end_of v w m).calls ≡ []) × AllEnd v (after_moment v w m) ms

-- ---- a case

-- the events of a run of lines, in order; none, where it has no seen line
abbrev pub events_of : VerifiedProgram → CaseText → List Moment
events_of v t = if is_case (records_of t) (types_of t.run.lines) then case_events v.image (λ r. length (places_of t r)) else []

-- before its events
abbrev pub unedited : Kept → CaseText → World
unedited store t = record { case = Some t; store = store; told = nothing_told }

-- after its events: the case, what is kept, and what was told
unfoldable pub edited : VerifiedProgram → Kept → CaseText → World
edited v store t = after_moments v (unedited store t) (events_of v t)
