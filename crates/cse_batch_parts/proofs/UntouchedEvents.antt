-- What the events of a run of lines leave of it, and that none of their steps writes into an unseen line.
use Rattle.std.proofs.Common.{◌≡◌, ℕ, ◌<◌, ◌≤◌, Bool, true, false, cond, List, [], ◌∷◌, ◌++◌, length, Option, Some, None, refl, sym, ap, ◌∙◌, subst}
use Rattle.cse_case.specs.Case.{CaseText, place_of, places_of, records_of, types_of}
use Rattle.cse_case.specs.Seen.{is_case}
use Rattle.cse_case.specs.Sight.{IsSeenAt, IsUnseenAt}
use Rattle.cse_case.proofs.SightLaws.{seen-or-unseen}
use Rattle.cse_image_parts.specs.Image.{Image}
use Rattle.cse_verify.specs.CaseEvents.{Moment, case_events}
use Rattle.cse_decks.specs.Store.{Kept, StoreFits}
use Rattle.cse_verify.specs.Verified.{VerifiedProgram}
use Rattle.cse_steps.specs.State.{World, world_of}
use Rattle.cse_steps.specs.Run.{first}
use Rattle.cse_steps.specs.Fits.{FitsWorld, IsThere, occurrences_in}
use Rattle.cse_steps.specs.Laws.{EventsEnd, FirstFits}
use Rattle.cse_steps.specs.Columns.{CaseStays, ColumnsStay, EventColumnsStay, IsWritten, LinesStay}
use Rattle.cse_steps.specs.Events.{AllEndIn, CaseColumnsStay, CasesEnd, EndsIn, IsWrittenIn, MayBegin, Outcome}
use Rattle.cse_steps.proofs.Columns.{case_same}
use Rattle.cse_batch_parts.specs.Events.{after_moment, after_moments, edited, unedited}
use Rattle.cse_batch_parts.specs.Untouched.{IsTouched}
use Rattle.cse_batch_parts.proofs.EndLaws.{AllThere, case_there, fits_first_world, fits_moment, fits_then}
use Rattle.cse_batch_parts.proofs.EventLaws.{ends_are_final}

-- the laws of steps that the promise rests on
pub record StepLaws (v : VerifiedProgram) : Type 0 where
  pub events_end : EventsEnd v
  pub first_fits : FirstFits v
  pub columns_stay : ColumnsStay v
  pub event_columns_stay : EventColumnsStay v
  pub cases_end : CasesEnd v
  pub case_columns_stay : CaseColumnsStay v

-- ---- the occurrences stay where they are

-- a case has its occurrences at the places of another
record HasPlacesOf (t c : CaseText) : Type 0 where
  places : (r : ℕ) → places_of c r ≡ places_of t r
  place : (r o : ℕ) → place_of c r o ≡ place_of t r o

abbrev PlacesStay : CaseText → Option CaseText → Type 0
PlacesStay t None = ⊥
PlacesStay t (Some c) = HasPlacesOf t c

places_then : (W : ℕ → ℕ → Type 0) (t : CaseText) (a b : Option CaseText) → PlacesStay t a → CaseStays W a b → PlacesStay t b
places_then W t None b p s = absurd p
places_then W t (Some a) None p s = absurd s
places_then W t (Some a) (Some b) p s = record { places = λ r. s.same.places r ∙ p.places r; place = λ r o. s.same.place r o ∙ p.place r o }

there_before : (x : Image) (n : ℕ → ℕ) (before : List Moment) (m : Moment) (behind : List Moment) → AllThere x n (before ++ m ∷ behind)
    → AllThere x n before × IsThere x n m.event.code m.event.index m.occurrence
there_before x n [] m behind h = (tt, h.0)
there_before x n (k ∷ before) m behind h = let rest = there_before x n before m behind h.1 in ((h.0, rest.0), rest.1)

module _ (v : VerifiedProgram) (laws : StepLaws v) (t : CaseText) where
  abbrev Fits : Option CaseText → Kept → Type 0
  Fits case store = FitsWorld v (Some t) (world_of case store)

  abbrev There : List Moment → Type 0
  There = AllThere v.image (occurrences_in (Some t))

  -- what events leave fits, and has its occurrences at the places of the case
  record Leaves (o : Outcome) : Type 0 where
    fits : Fits o.case o.store
    places : PlacesStay t o.case

  event_leaves : (m : Moment) (case : Option CaseText) (store : Kept) (a : Outcome) → Fits case store → IsThere v.image (occurrences_in (Some t)) m.event.code m.event.index m.occurrence → PlacesStay t case
      → EndsIn v m case store a → Leaves a
  event_leaves m case store a f there p e =
      let fit = fits_moment v (Some t) (world_of case store) m refl f there in
      let good = (laws.events_end m case store fit).each a.steps e.state e.runs in
      let world : FitsWorld v case (record { case = a.case; store = a.store; told = a.told }) = subst (FitsWorld v case) e.world good.fits.world in
      let kept : FitsWorld v case (world_of a.case a.store) = record { present = world.present; occurrences = world.occurrences; case_fits = world.case_fits; dictionary = world.dictionary; store = world.store } in
      record {
        fits = fits_then v (Some t) (world_of case store) (world_of a.case a.store) f kept;
        places = places_then (IsWritten v a.steps (first v m case store)) t case a.case p (laws.event_columns_stay m case store a.steps a.case a.store a.told fit e);
      }

  events_leave : (ms : List Moment) (case : Option CaseText) (store : Kept) (o : Outcome) → Fits case store → There ms → PlacesStay t case → AllEndIn v ms case store o → Leaves o
  events_leave [] case store o f there p e = subst Leaves (sym e) (record { fits = f; places = p })
  events_leave (m ∷ ms) case store o f there p e =
      let one = event_leaves m case store e.0 f there.0 p e.2 in
      let rest = events_leave ms e.0.case e.0.store e.1 one.fits there.1 one.places e.3 in
      subst Leaves (sym e.4) (record { fits = rest.fits; places = rest.places })

  -- a line that a step of the events writes into is an occurrence of the case
  pub written_is_seen : (ms : List Moment) (store : Kept) (place column : ℕ) → Fits (Some t) store → There ms → IsWrittenIn v ms (Some t) store place column → IsSeenAt t place
  unfolding first
  written_is_seen ms store place column f there w =
      let parts = there_before v.image (occurrences_in (Some t)) w.before w.event w.behind (subst There w.among there) in
      let left = events_leave w.before (Some t) store w.left f parts.0 (record { places = λ r. refl; place = λ r o. refl }) w.comes in
      let fit = fits_moment v (Some t) (world_of w.left.case w.left.store) w.event refl left.fits parts.1 in
      let begins = first v w.event w.left.case w.left.store in
      let x = w.written in
      let stays = laws.columns_stay w.left.case x.after begins x.state (laws.first_fits w.event w.left.case w.left.store fit) x.comes in
      let places = places_then (IsWritten v x.after begins) t w.left.case x.state.world.case left.places stays in
      let y = x.writes in
      let here : HasPlacesOf t y.case = subst (PlacesStay t) y.case_is places in
      record {
        number = y.item.owner;
        occurrence = y.occurrence;
        there = subst (λ (ps : List ℕ). (0 < y.occurrence) × (y.occurrence ≤ length ps)) (here.places y.item.owner) y.there;
        is = sym (here.place y.item.owner y.occurrence) ∙ sym y.line;
      }

-- ---- what events leave is what a batch goes on from

record GoesOnFrom (v : VerifiedProgram) (w : World) (ms : List Moment) (o : Outcome) : Type 0 where
  case : (after_moments v w ms).case ≡ o.case
  store : (after_moments v w ms).store ≡ o.store

after_is : (v : VerifiedProgram) (ms : List Moment) (w : World) (o : Outcome) → AllEndIn v ms w.case w.store o → GoesOnFrom v w ms o
after_is v [] w o e = record { case = sym (ap (λ (x : Outcome). x.case) e); store = sym (ap (λ (x : Outcome). x.store) e) }
after_is v (m ∷ ms) w o e =
    let a = e.0 in
    let b = e.1 in
    let end = ends_are_final v w m a.steps a.case a.store a.told e.2 in
    let case_is : a.case ≡ (after_moment v w m).case = sym (ap (λ (x : World). x.case) end.world) in
    let store_is : a.store ≡ (after_moment v w m).store = sym (ap (λ (x : World). x.store) end.world) in
    let next : AllEndIn v ms (after_moment v w m).case (after_moment v w m).store b =
    subst (λ (s : Kept). AllEndIn v ms (after_moment v w m).case s b) store_is (subst (λ (c : Option CaseText). AllEndIn v ms c a.store b) case_is e.3) in
    let rest = after_is v ms (after_moment v w m) b next in
    record { case = rest.case ∙ sym (ap (λ (x : Outcome). x.case) e.4); store = rest.store ∙ sym (ap (λ (x : Outcome). x.store) e.4) }

-- ---- a run of lines

-- after these events: the store fits, and of the lines all stays but columns that a step of the events wrote, of a seen line
record LeavesLines (v : VerifiedProgram) (store : Kept) (t : CaseText) (ms : List Moment) : Type 0 where
  case : CaseText
  is : (after_moments v (unedited store t) ms).case ≡ Some case
  store_fits : StoreFits v.image (after_moments v (unedited store t) ms).store
  lines : LinesStay (IsWrittenIn v ms (Some t) store) t case
  seen : (place column : ℕ) → IsWrittenIn v ms (Some t) store place column → IsSeenAt t place

no_event : (before : List Moment) (m : Moment) (behind : List Moment) → [] ≡ before ++ m ∷ behind → ⊥
no_event [] m behind e = cc
no_event (k ∷ before) m behind e = cc

pub record IsEdited (v : VerifiedProgram) (store : Kept) (t : CaseText) : Type 0 where
  pub case : CaseText
  pub is : (edited v store t).case ≡ Some case
  pub store_fits : StoreFits v.image (edited v store t).store
  pub lines : LinesStay (IsTouched v store t) t case
  pub unseen : (place column : ℕ) → IsUnseenAt t place → IsTouched v store t place column → ⊥
  pub no_case : is_case (records_of t) (types_of t.run.lines) ≡ false → case ≡ t

module _ (v : VerifiedProgram) (laws : StepLaws v) (t : CaseText) (store : Kept) (may : MayBegin v t store) where
  abbrev events : Bool → List Moment
  events b = cond b (case_events v.image (occurrences_in (Some t))) []

  fits_now : FitsWorld v (Some t) (world_of (Some t) store)
  fits_now = fits_first_world v (Some t) store may.fits may.dictionary may.store_fits (world_of (Some t) store) refl refl

  leaves : (b : Bool) → LeavesLines v store t (events b)
  leaves true =
      let ends = laws.cases_end t store may in
      let left = laws.case_columns_stay t store ends.outcome may ends.ends in
      let same = after_is v (case_events v.image (occurrences_in (Some t))) (unedited store t) ends.outcome ends.ends in
      record {
        case = left.case;
        is = same.case ∙ left.is;
        store_fits = subst (StoreFits v.image) (sym same.store) left.fits.store_fits;
        lines = left.lines;
        seen = λ place column w. written_is_seen v laws t (case_events v.image (occurrences_in (Some t))) store place column fits_now (case_there v.image (occurrences_in (Some t))) w;
      }
  leaves false = record {
    case = t;
    is = refl;
    store_fits = may.store_fits;
    lines = case_same (IsWrittenIn v [] (Some t) store) (Some t) (Some t) refl;
    seen = λ place column w. absurd (no_event w.before w.event w.behind w.among);
  }

  leaves_case : (b : Bool) → b ≡ false → (leaves b).case ≡ t
  unfolding leaves
  leaves_case true e = cc
  leaves_case false e = refl

  pub is_edited : IsEdited v store t
  unfolding edited
  is_edited =
      let left = leaves (is_case (records_of t) (types_of t.run.lines)) in
      record {
        case = left.case;
        is = left.is;
        store_fits = left.store_fits;
        lines = left.lines;
        unseen = λ place column u w. (seen-or-unseen t).apart place (left.seen place column w) u;
        no_case = leaves_case (is_case (records_of t) (types_of t.run.lines));
      }
