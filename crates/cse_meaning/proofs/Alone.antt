-- Events of a dictionary and an image, without a value that `verify` gave.
use Rattle.std.proofs.Common.{◌≡◌, ℕ, [], Option, Some, ap, ◌∙◌}
use Rattle.std.proofs.Math.Logic.{∥∥₁_elim, ∥∥₁_map}
use Rattle.std.proofs.Props.{props}
use Rattle.cse_case.specs.Case.{CaseText}
use Rattle.cse_decks.specs.Store.{Kept}
use Rattle.cse_verify.specs.CaseEvents.{Moment}
use Rattle.cse_verify.specs.Calls.{MayWalk}
use Rattle.cse_verify.proofs.FitLaws.{may_walk}
use Rattle.cse_verify.proofs.BoundWalkLaws.{walk_falls, entry_rest}
use Rattle.cse_dict.specs.Dictionary.{shape_of}
use Rattle.cse_verify.specs.Verified.{VerifiedProgram}
use Rattle.cse_verify.proofs.ChainLaws.{chain_keeps}
use Rattle.cse_steps.specs.Run.{first, run}
use Rattle.cse_steps.specs.State.{World, State}
use Rattle.cse_steps.proofs.Ends.{events_end, all_keep_rules, all_call_smaller}
use Rattle.cse_steps.proofs.Outcomes.{end_once}
use Rattle.cse_meaning.specs.Meaning.{meaning}
use Rattle.cse_meaning.specs.Means.{RunsTo, begins}
use Rattle.cse_meaning.specs.Meant.{ProgramsEnd, ProgramsMean, MeansAlone}
use Rattle.cse_meaning.proofs.ProgramWhole.{compiled_code_means}

pub programs_end : ProgramsEnd
programs_end v is =
    let walks : MayWalk v.image = may_walk v.image is.fits (all_keep_rules v is.may_run) (all_call_smaller v is.may_run) in
    events_end v is (walk_falls v.image walks) (entry_rest v.image walks) (λ calls d chain depth. chain_keeps (shape_of v.dictionary) v.image d calls is.may_run.typed depth chain)

pub programs_mean : ProgramsMean
programs_mean v is = compiled_code_means v is.may_run (programs_end v is)

-- ---- what merely is so

-- two worlds are the same in one way at most
world_set : IsSet World
world_set = hlevel props

same_world : (w u : World) → ∥ w ≡ u ∥₁ → w ≡ u
same_world w u h = ∥∥₁_elim h (world_set w u) (λ e. e)

-- so many steps lead to an ended state
record EndsAt (v : VerifiedProgram) (m : Moment) (case : Option CaseText) (store : Kept) (n : ℕ) (s : State) : Type 0 where
  runs : run v n (first v m case store) ≡ Some s
  ended : s.calls ≡ []

-- which is the one that it ends in
left_is : (v : VerifiedProgram) (m : Moment) (case : Option CaseText) (store : Kept) (n : ℕ) (s : State) (w : World) → EndsAt v m case store n s → RunsTo v m case store w → s.world ≡ w
left_is v m case store n s w at runs =
    let once = end_once v (first v m case store) s runs.1.state n runs.0 at.runs at.ended runs.1.runs runs.1.ended in
    ap (λ (s : State). s.world) once.state ∙ runs.1.world

pub means_alone : MeansAlone
means_alone v t is h = record {
  runs = λ m case store there fit.
      let e = programs_end v is m case store fit in
      let w = meaning v.dictionary t m (begins case store) in
      (e.steps, record { state = e.state; runs = e.runs; ended = e.ended; world = same_world e.state.world w (∥∥₁_map h (λ k. left_is v m case store e.steps e.state w (record { runs = e.runs; ended = e.ended }) (k.runs m case store there fit))); within = e.within });
  idle = λ m w there none. same_world (meaning v.dictionary t m w) w (∥∥₁_map h (λ k. k.idle m w there none));
}
