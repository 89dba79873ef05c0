-- An event of a verified program runs to its end, within its bound.
use Rattle.std.proofs.Common.{◌≡◌, ℕ, zero, suc, ◌+◌, ◌<◌, ◌≤◌, List, [], ◌∷◌, Option, Some, None, refl, sym, ap, ◌∙◌, subst, arith}
use Rattle.std.specs.Prelude.{slice_get, option_and_then, is_some}
use Rattle.std.specs.Option.{option_map_or}
use Rattle.std.proofs.lemmas.List.{length-map}
use Rattle.std.proofs.lemmas.Option.{slice_get_within}
use Rattle.cse_lemmas.proofs.Lists.{slice_get_some}
use Rattle.cse_image_parts.specs.Image.{RoutineLists}
use Rattle.cse_case.specs.Case.{CaseText}
use Rattle.cse_decks.specs.Store.{Kept}
use Rattle.cse_code_typing.specs.Code.{code_of}
use Rattle.cse_code_typing.specs.Handlers.{routine_of}
use Rattle.cse_code_typing.specs.Skeleton.{control, skeleton_of, most_occurrences}
use Rattle.cse_code_typing.proofs.Around.{around_start}
use Rattle.cse_verify.specs.Bound.{bound}
use Rattle.cse_verify.specs.CaseEvents.{Moment, case_events, events_bound, KeepsMost}
use Rattle.cse_verify.specs.Walk.{begun}
use Rattle.cse_verify.specs.Rest.{rest}
use Rattle.cse_verify.specs.Calls.{AreCalls, RestFalls, RestIsBound, AllKeepRules, AllCallSmaller}
use Rattle.cse_verify.specs.EventBound.{case_bound}
use Rattle.cse_dict.specs.Dictionary.{shape_of}
use Rattle.cse_value.specs.Shape.{ShapeLists}
use Rattle.cse_verify.proofs.CallLaws.{calls_below}
use Rattle.cse_verify.specs.declared.depth.Depth.{Depth}
use Rattle.cse_verify.specs.Chain.{Calling, IsChain, KeepsToDepth}
use Rattle.cse_verify.specs.Depths.{IsDepthOf}
use Rattle.cse_steps.proofs.Depths.{keeps}
use Rattle.cse_verify.specs.Verified.{VerifiedProgram, MayRun}
use Rattle.cse_steps.specs.State.{Call, State}
use Rattle.cse_steps.specs.Step.{step, new_call}
use Rattle.cse_steps.specs.Run.{run, first, first_calls, event_arguments}
use Rattle.cse_steps.specs.Fits.{IsVerified, FitsState, FitsFirst, occurrences_in}
use Rattle.cse_steps.specs.Walks.{standings}
use Rattle.cse_steps.specs.Laws.{EndsWithin, EventsEnd, CaseKeepsToBound}
use Rattle.cse_steps.proofs.Calls.{has_code}
use Rattle.cse_steps.proofs.Safety.{safe}
use Rattle.cse_steps.proofs.WholeRuns.{composed, first_is_fit, events_go_well}

-- chains of calls keep to the depth
abbrev pub KeepsChains : VerifiedProgram → Type 0
KeepsChains v = (calls : List Calling) (d : Depth) → IsChain (shape_of v.dictionary) v.image calls → IsDepthOf (shape_of v.dictionary) v.image d → KeepsToDepth v.image calls d

-- a run to an ended state, in at most so many steps
pub record EndsFrom (v : VerifiedProgram) (s : State) (most : ℕ) : Type 0 where
  pub steps : ℕ
  pub state : State
  pub runs : run v steps s ≡ Some state
  pub ended : state.calls ≡ []
  pub within : steps ≤ most

one_step : (v : VerifiedProgram) (s after : State) → step v s ≡ Some after → run v 1 s ≡ Some after
unfolding run
one_step v s after e = e

no_steps : (v : VerifiedProgram) (s : State) → run v 0 s ≡ Some s
unfolding run
no_steps v s = refl

module _ (v : VerifiedProgram) (sound : IsVerified v) (falls : RestFalls v.image) (begins : RestIsBound v.image) (case : Option CaseText) (r : ℕ) where
  goes : (fuel : ℕ) (s : State) (calls : List Call) → s.calls ≡ calls → FitsState v case s → AreCalls v.image r (standings s.calls) → rest v.image (standings s.calls) ≤ fuel → EndsFrom v s (rest v.image (standings s.calls))
  goes fuel s [] e f a low = record { steps = 0; state = s; runs = no_steps v s; ended = e; within = omega arith }
  goes zero s (c ∷ below) e f a low =
      let g = safe v sound case s f (λ h. let p : c ∷ below ≡ [] = sym e ∙ h in cc) in
      let w = falls r g.walks.0 (standings s.calls) (standings g.after.calls) a g.walks.1 in
      absurd (let less = w.1 in omega arith)
  goes (suc fuel) s (c ∷ below) e f a low =
      let g = safe v sound case s f (λ h. let p : c ∷ below ≡ [] = sym e ∙ h in cc) in
      let w = falls r g.walks.0 (standings s.calls) (standings g.after.calls) a g.walks.1 in
      let less : rest v.image (standings g.after.calls) < rest v.image (standings s.calls) = w.1 in
      let t = goes fuel g.after g.after.calls refl g.fits w.0 (omega arith) in
      record {
        steps = 1 + t.steps;
        state = t.state;
        runs = composed v 1 t.steps s ∙ (ap (option_and_then (run v t.steps)) (one_step v s g.after g.is) ∙ t.runs);
        ended = t.ended;
        within = (let m = t.within in omega arith);
      }

  -- the first call of a routine
  begun_calls : (y : RoutineLists) → slice_get v.image.lists.routines r ≡ Some y → AreCalls v.image r (begun r ∷ [])
  begun_calls y there =
      let low = has_code v r y sound there in
      let e = length-map (code_of v.image r) (control v.image.lists) in
      (record { routine = slice_get_within v.image.lists.routines r y there; place = omega arith; opens = sym (around_start (skeleton_of v.image r)) }, refl, tt)

  pub routine_ends : (y : RoutineLists) (s : State) → slice_get v.image.lists.routines r ≡ Some y → standings s.calls ≡ begun r ∷ [] → FitsState v case s → EndsFrom v s (bound v.image r)
  routine_ends y s there is f =
      let a = subst (AreCalls v.image r) (sym is) (begun_calls y there) in
      let b : rest v.image (standings s.calls) ≡ bound v.image r = ap (rest v.image) is ∙ begins r (slice_get_within v.image.lists.routines r y there) in
      subst (EndsFrom v s) b (goes (rest v.image (standings s.calls)) s s.calls refl f a (omega arith))

module _ (v : VerifiedProgram) (sound : IsVerified v) (falls : RestFalls v.image) (begins : RestIsBound v.image) (depth_law : KeepsChains v) (m : Moment) (case : Option CaseText) (store : Kept) (fit : FitsFirst v m case store) where
  abbrev start : State
  start = first v m case store

  calls_are : (o : Option ℕ) → routine_of v.image.lists.events m.event ≡ o → start.calls ≡ first_calls v.image m.occurrence o
  unfolding first
  calls_are o e = ap (first_calls v.image m.occurrence) e

  ended_at_once : (most : ℕ) → start.calls ≡ [] → EndsFrom v start most
  ended_at_once most e = record { steps = 0; state = start; runs = no_steps v start; ended = e; within = omega arith }

  by_routine : (o : Option ℕ) → routine_of v.image.lists.events m.event ≡ o → EndsFrom v start (option_map_or (bound v.image) o 0)
  by_routine None e = ended_at_once 0 (calls_are None e)
  by_routine (Some r) e = by_lists (slice_get v.image.lists.routines r) refl
    where
      by_lists : (y : Option RoutineLists) → slice_get v.image.lists.routines r ≡ y → EndsFrom v start (bound v.image r)
      by_lists None there =
          ended_at_once (bound v.image r) (calls_are (Some r) e ∙ ap (λ z. option_map_or (λ (y : RoutineLists). new_call r y (event_arguments y m.occurrence) ∷ []) z []) there)
      by_lists (Some y) there =
          routine_ends v sound falls begins case r y start there
          (ap standings (calls_are (Some r) e ∙ ap (λ z. option_map_or (λ (y : RoutineLists). new_call r y (event_arguments y m.occurrence) ∷ []) z []) there))
          (first_is_fit v sound m case store fit)

  pub event_ends : EndsWithin v m case store
  event_ends =
      let t = by_routine (routine_of v.image.lists.events m.event) refl in
      record {
        steps = t.steps;
        state = t.state;
        runs = t.runs;
        ended = t.ended;
        within = t.within;
        each = λ k u e. events_go_well v sound m case store k u fit e;
        depth = λ k u d e is_depth. keeps v sound (occurrences_in case) (is_some case) u d (events_go_well v sound m case store k u fit e).fits.calls (λ calls is. depth_law calls d is is_depth);
      }

pub all_keep_rules : (v : VerifiedProgram) → MayRun v → AllKeepRules v.image
all_keep_rules v may r low =
    let y = slice_get_some v.image.lists.routines r low in
    (may.typed.routines r y.0 low y.1).brackets

pub all_call_smaller : (v : VerifiedProgram) → MayRun v → AllCallSmaller v.image
all_call_smaller v may r low =
    let y = slice_get_some v.image.lists.routines r low in
    calls_below v.image.lists v.image.lists.routines r y.0.ambient (code_of v.image r) (may.typed.routines r y.0 low y.1).calls

pub case_keeps : (v : VerifiedProgram) → MayRun v → ((occurrences : ℕ → ℕ) → KeepsMost v.image occurrences → events_bound v.image (case_events v.image occurrences) ≤ case_bound v.image) → CaseKeepsToBound v
case_keeps v may within t fit same =
    let records : (shape_of t.dictionary).records ≡ v.image.lists.records = ap (λ e. (shape_of e).records) same ∙ ap (λ (s : ShapeLists). s.records) may.typed.shape in
    within (occurrences_in (Some t)) (λ r. subst (λ rs. occurrences_in (Some t) r ≤ most_occurrences rs r) records (fit.occurrences r))

pub events_end : (v : VerifiedProgram) → IsVerified v → RestFalls v.image → RestIsBound v.image → KeepsChains v → EventsEnd v
events_end v sound falls begins depth_law m case store f = event_ends v sound falls begins depth_law m case store f
