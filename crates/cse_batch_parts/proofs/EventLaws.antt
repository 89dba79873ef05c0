-- Events of a batch run to their ends.
use Rattle.std.proofs.Common.{◌≡◌, ℕ, zero, suc, ◌+◌, ◌≤◌, [], Option, Some, None, refl, sym, ap, ◌∙◌, arith}
use Rattle.std.specs.Prelude.{option_and_then}
use Rattle.std.specs.Option.{option_map_or}
use Rattle.std.proofs.lemmas.Option.{same_Some}
use Rattle.cse_verify.specs.Verified.{VerifiedProgram}
use Rattle.cse_steps.specs.State.{State}
use Rattle.cse_steps.specs.Step.{step, step_of}
use Rattle.cse_steps.specs.Run.{run, first}
use Rattle.cse_steps.proofs.WholeRuns.{composed}
use Rattle.cse_batch_parts.specs.Events.{final, steps_from}
use Rattle.cse_batch_parts.specs.Laws.{EndsAreFinal}

-- an ended state has no step
no_step : (v : VerifiedProgram) (s : State) → s.calls ≡ [] → step v s ≡ None
no_step v s e = ap (λ calls. step_of v calls s.world) e

pub stays : (v : VerifiedProgram) (k : ℕ) (s : State) → s.calls ≡ [] → final v k s ≡ s
unfolding final
stays v zero s e = refl
stays v (suc k) s e = ap (λ o. option_map_or (final v k) o s) (no_step v s e)

takes_none : (v : VerifiedProgram) (k : ℕ) (s : State) → s.calls ≡ [] → steps_from v k s ≡ 0
unfolding steps_from
takes_none v zero s e = refl
takes_none v (suc k) s e = ap (λ o. option_map_or (λ after. 1 + steps_from v k after) o 0) (no_step v s e)

-- the first step of a run, and the others
first_step : (v : VerifiedProgram) (n : ℕ) (s t : State) → run v (suc n) s ≡ Some t → option_and_then (run v n) (step v s) ≡ Some t
unfolding run
first_step v n s t e =
    let same : 1 + n ≡ suc n = omega arith in
    sym (composed v 1 n s) ∙ (ap (λ k. run v k s) same ∙ e)

-- a run to an ended state leads to the final state, and takes that many steps
pub ended_is_final : (v : VerifiedProgram) (n k : ℕ) (s t : State) → run v n s ≡ Some t → t.calls ≡ [] → n ≤ k → final v k s ≡ t
unfolding run final
ended_is_final v zero k s t e ends low = let same : s ≡ t = same_Some _ _ e in ap (final v k) same ∙ stays v k t ends
ended_is_final v (suc n) zero s t e ends low = absurd (omega arith)
ended_is_final v (suc n) (suc k) s t e ends low = by (λ u h. ended_is_final v n k u t h ends (omega arith)) (step v s) refl
  where
    by : ((u : State) → run v n u ≡ Some t → final v k u ≡ t) → (o : Option State) → step v s ≡ o → final v (suc k) s ≡ t
    by later None none = let never : None ≡ Some t = ap (option_and_then (run v n)) (sym none) ∙ first_step v n s t e in cc
    by later (Some u) is = ap (λ o. option_map_or (final v k) o s) is ∙ later u (ap (option_and_then (run v n)) (sym is) ∙ first_step v n s t e)

pub ended_takes : (v : VerifiedProgram) (n k : ℕ) (s t : State) → run v n s ≡ Some t → t.calls ≡ [] → n ≤ k → steps_from v k s ≡ n
unfolding run steps_from
ended_takes v zero k s t e ends low = let same : s ≡ t = same_Some _ _ e in ap (steps_from v k) same ∙ takes_none v k t ends
ended_takes v (suc n) zero s t e ends low = absurd (omega arith)
ended_takes v (suc n) (suc k) s t e ends low = by (λ u h. ended_takes v n k u t h ends (omega arith)) (step v s) refl
  where
    by : ((u : State) → run v n u ≡ Some t → steps_from v k u ≡ n) → (o : Option State) → step v s ≡ o → steps_from v (suc k) s ≡ suc n
    by later None none = let never : None ≡ Some t = ap (option_and_then (run v n)) (sym none) ∙ first_step v n s t e in cc
    by later (Some u) is =
        let rest : steps_from v k u ≡ n = later u (ap (option_and_then (run v n)) (sym is) ∙ first_step v n s t e) in
        let all : steps_from v (suc k) s ≡ 1 + steps_from v k u = ap (λ o. option_map_or (λ after. 1 + steps_from v k after) o 0) is in
        omega (arith, rest, all)

pub ends_are_final : EndsAreFinal
ends_are_final v w m n case store told e =
    let is = ended_is_final v n _ (first v m w.case w.store) e.state e.runs e.ended e.within in
    record {
      ended = ap (λ s. s.calls) is ∙ e.ended;
      world = ap (λ s. s.world) is ∙ e.world;
      steps = ended_takes v n _ (first v m w.case w.store) e.state e.runs e.ended e.within;
    }
