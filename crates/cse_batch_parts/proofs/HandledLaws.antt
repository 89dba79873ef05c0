-- Events that the program has no routine for change nothing, and so the others count alone.
use Rattle.std.proofs.Common.{◌≡◌, ℕ, zero, suc, ◌≤◌, Bool, true, false, cond, eqb, List, [], ◌∷◌, ◌++◌, Option, Some, None, refl, sym, ap, ◌∙◌, subst, arith}
use Rattle.std.specs.Prelude.{filter, is_some, length, nat_lt}
use Rattle.std.specs.List.{cons_option, filter_map}
use Rattle.std.specs.Option.{option_map}
use Rattle.std.proofs.lemmas.Bool.{ltb-false, or_parts}
use Rattle.std.proofs.lemmas.List.{nil_from_length}
use Rattle.std.proofs.lemmas.Option.{none-some, same_Some}
use Rattle.cse_value.specs.declared.shape.ItemShape.{ItemShape}
use Rattle.cse_image_parts.specs.declared.entries.Event.{Event}
use Rattle.cse_image_parts.specs.declared.entries.EventCode.TheVariants as codes
use Rattle.cse_image_parts.specs.Image.{Image}
use Rattle.cse_case.specs.Case.{CaseText}
use Rattle.cse_decks.specs.Store.{Kept}
use Rattle.cse_code_typing.specs.Handlers.{routine_of}
use Rattle.cse_verify.specs.CaseEvents.{Moment, moment, event, event_bound, item_events, occurrence_events, record_events, records_events}
use Rattle.cse_verify.specs.Verified.{VerifiedProgram}
use Rattle.cse_steps.specs.State.{State}
use Rattle.cse_steps.specs.Run.{first, first_calls}
use Rattle.cse_steps.specs.declared.handled.Handled.{Handled}
use Rattle.cse_steps.specs.Handled.{AllHandled, events_of, handled_by, with_routine}
use Rattle.cse_steps.specs.Results.{in_occurrence}
use Rattle.cse_batch_parts.specs.Handled.{events_of_items, handled_items, has_routine, is_handled}
use Rattle.cse_batch_parts.specs.Scene.{Scene, scene_after, scene_after_all, told_to}
use Rattle.cse_batch_parts.proofs.EventLaws.{stays}
use Rattle.cse_batch_parts.proofs.EndLaws.{AllThere, all_items_there}
use Rattle.cse_batch_parts.proofs.SceneLaws.{scene_later}

-- ---- one event

no_routine : (e : Event) (r : Option ℕ) → is_some (option_map (with_routine e) r) ≡ false → r ≡ None
no_routine e None is = refl
no_routine e (Some n) is = cc

-- one that has none is not handled, and one that is has this routine
pub not_handled : (x : Image) (e : Event) → handled_by x e ≡ None → has_routine x e ≡ false
not_handled x e is = ap (λ (o : Option Handled). is_some o) is

pub routine_is : (x : Image) (e : Event) (h : Handled) → handled_by x e ≡ Some h → routine_of x.lists.events e ≡ Some h.routine
routine_is x e h is = by (routine_of x.lists.events e) is
  where
    by : (o : Option ℕ) → option_map (with_routine e) o ≡ Some h → o ≡ Some h.routine
    by None is = absurd (none-some h is)
    by (Some r) is = ap (λ (h : Handled). Some h.routine) (same_Some (with_routine e r) h is)

calls_none : (v : VerifiedProgram) (m : Moment) (case : Option CaseText) (store : Kept) → routine_of v.image.lists.events m.event ≡ None → (first v m case store).calls ≡ []
unfolding first
calls_none v m case store none = ap (first_calls v.image m.occurrence) none

nothing_first : (v : VerifiedProgram) (m : Moment) (s : Scene) → told_to s (first v m s.case s.store).world ≡ s
unfolding first
nothing_first v m s = refl

pub scene_unhandled : (v : VerifiedProgram) (s : Scene) (m : Moment) → has_routine v.image m.event ≡ false → scene_after v s m ≡ s
unfolding scene_after
scene_unhandled v s m is =
    let calls = calls_none v m s.case s.store (no_routine m.event (routine_of v.image.lists.events m.event) is) in
    ap (λ (t : State). told_to s t.world) (stays v (event_bound v.image m.event) (first v m s.case s.store) calls) ∙ nothing_first v m s

-- ---- the events of items, in an occurrence

only_handled : (v : VerifiedProgram) (o : ℕ) (es : List Event) (s : Scene) → scene_after_all v s (in_occurrence o (filter (has_routine v.image) es)) ≡ scene_after_all v s (in_occurrence o es)
only_handled v o [] s = refl
only_handled v o (e ∷ es) s = by (λ (t : Scene). only_handled v o es t) (has_routine v.image e) refl
  where
    by : ((t : Scene) → scene_after_all v t (in_occurrence o (filter (has_routine v.image) es)) ≡ scene_after_all v t (in_occurrence o es)) → (b : Bool) → has_routine v.image e ≡ b
        → scene_after_all v s (in_occurrence o (cond b (e ∷ filter (has_routine v.image) es) (filter (has_routine v.image) es))) ≡ scene_after_all v s (in_occurrence o (e ∷ es))
    by others true is = others (scene_after v s (record { event = e; occurrence = o }))
    by others false is = others s ∙ ap (λ (t : Scene). scene_after_all v t (in_occurrence o es)) (sym (scene_unhandled v s (record { event = e; occurrence = o }) is))

pair_in : (o k : ℕ) (b : Bool) (es : List Event) (ms : List Moment) → in_occurrence o es ≡ ms
    → in_occurrence o (cond b (event codes.ItemPreproc k ∷ event codes.ItemPostproc k ∷ []) [] ++ es) ≡ cond b (moment codes.ItemPreproc k o ∷ moment codes.ItemPostproc k o ∷ []) [] ++ ms
pair_in o k true es ms is = ap (λ (l : List Moment). moment codes.ItemPreproc k o ∷ moment codes.ItemPostproc k o ∷ l) is
pair_in o k false es ms is = is

items_in : (r o k : ℕ) (items : List ItemShape) → in_occurrence o (events_of_items r k items) ≡ item_events r o k items
items_in r o k [] = refl
items_in r o k (item ∷ items) = pair_in o k (eqb item.owner r) (events_of_items r (suc k) items) (item_events r o (suc k) items) (items_in r o (suc k) items)

-- with their routines they are those that have one, and these are the program's
handled_events : (x : Image) (es : List Event) → events_of (filter_map (handled_by x) es) ≡ filter (has_routine x) es
handled_events x [] = refl
handled_events x (e ∷ es) = by (handled_events x es) (routine_of x.lists.events e)
  where
    by : events_of (filter_map (handled_by x) es) ≡ filter (has_routine x) es → (o : Option ℕ)
        → events_of (cons_option (option_map (with_routine e) o) (filter_map (handled_by x) es)) ≡ cond (is_some (option_map (with_routine e) o)) (e ∷ filter (has_routine x) es) (filter (has_routine x) es)
    by others None = others
    by others (Some r) = ap (λ (l : List Event). e ∷ l) others

all_handled_of : (x : Image) (es : List Event) → AllHandled x (filter_map (handled_by x) es)
all_handled_of x [] = tt
all_handled_of x (e ∷ es) = by (all_handled_of x es) (routine_of x.lists.events e) refl
  where
    by : AllHandled x (filter_map (handled_by x) es) → (o : Option ℕ) → routine_of x.lists.events e ≡ o → AllHandled x (cons_option (option_map (with_routine e) o) (filter_map (handled_by x) es))
    by others None none = others
    by others (Some r) some = (some, others)

pub all_handled : (x : Image) (r : ℕ) (hs : List Handled) → hs ≡ handled_items x r → AllHandled x hs
all_handled x r hs is = subst (λ (l : List Handled). AllHandled x l) (sym is) (all_handled_of x (events_of_items r 0 x.lists.items))

-- the handled ones leave what all of them leave
pub items_scene : (v : VerifiedProgram) (r o : ℕ) (s : Scene) (hs : List Handled) → hs ≡ handled_items v.image r → scene_after_all v s (in_occurrence o (events_of hs)) ≡ scene_after_all v s (item_events r o 0 v.image.lists.items)
items_scene v r o s hs is =
    ap (λ (l : List Handled). scene_after_all v s (in_occurrence o (events_of l))) is
    ∙ (ap (λ (l : List Event). scene_after_all v s (in_occurrence o l)) (handled_events v.image (events_of_items r 0 v.image.lists.items))
    ∙ (only_handled v o (events_of_items r 0 v.image.lists.items) s ∙ ap (scene_after_all v s) (items_in r o 0 v.image.lists.items)))

-- where none is handled, occurrences change nothing
pub occurrences_stay : (v : VerifiedProgram) (r o n : ℕ) (s : Scene) → [] ≡ handled_items v.image r → scene_after_all v s (occurrence_events r v.image.lists.items o n) ≡ s
occurrences_stay v r o zero s none = refl
occurrences_stay v r o (suc n) s none =
    let one = sym (items_scene v r o s [] none) in
    scene_later v s (item_events r o 0 v.image.lists.items) (occurrence_events r v.image.lists.items (suc o) n)
    ∙ (ap (λ (t : Scene). scene_after_all v t (occurrence_events r v.image.lists.items (suc o) n)) one ∙ occurrences_stay v r (suc o) n s none)

-- ---- the events of records

-- where none of a record's is handled, they change nothing
record_stays : (v : VerifiedProgram) (r n : ℕ) (s : Scene) → is_handled v.image r ≡ false → scene_after_all v s (record_events v.image.lists.items r n) ≡ s
record_stays v r n s none =
    let parts = or_parts _ (has_routine v.image (event codes.RecordPostproc r)) none in
    let inner = or_parts (has_routine v.image (event codes.RecordPreproc r)) (nat_lt 0 (length (handled_items v.image r))) parts.0 in
    let empty : [] ≡ handled_items v.image r = sym (nil_from_length (handled_items v.image r) (omega (arith, ltb-false 0 (length (handled_items v.image r)) inner.1))) in
    let later = occurrence_events r v.image.lists.items 1 n in
    let last = moment codes.RecordPostproc r 0 in
    ap (λ (t : Scene). scene_after_all v t (later ++ last ∷ [])) (scene_unhandled v s (moment codes.RecordPreproc r 0) inner.0)
    ∙ (scene_later v s later (last ∷ []) ∙ (ap (λ (t : Scene). scene_after v t last) (occurrences_stay v r 1 n s empty) ∙ scene_unhandled v s last parts.1))

-- so the records that have any count alone
pub only_records : (v : VerifiedProgram) (n : ℕ → ℕ) (rs : List ℕ) (s : Scene)
    → scene_after_all v s (records_events v.image.lists.items n (filter (is_handled v.image) rs)) ≡ scene_after_all v s (records_events v.image.lists.items n rs)
only_records v n [] s = refl
only_records v n (r ∷ rs) s = by (λ (t : Scene). only_records v n rs t) (is_handled v.image r) refl
  where
    own : List Moment
    own = record_events v.image.lists.items r (n r)

    by : ((t : Scene) → scene_after_all v t (records_events v.image.lists.items n (filter (is_handled v.image) rs)) ≡ scene_after_all v t (records_events v.image.lists.items n rs)) → (b : Bool) → is_handled v.image r ≡ b
        → scene_after_all v s (records_events v.image.lists.items n (cond b (r ∷ filter (is_handled v.image) rs) (filter (is_handled v.image) rs))) ≡ scene_after_all v s (records_events v.image.lists.items n (r ∷ rs))
    by others true is =
        scene_later v s own (records_events v.image.lists.items n (filter (is_handled v.image) rs))
        ∙ (others (scene_after_all v s own) ∙ sym (scene_later v s own (records_events v.image.lists.items n rs)))
    by others false is =
        others s
        ∙ (ap (λ (t : Scene). scene_after_all v t (records_events v.image.lists.items n rs)) (sym (record_stays v r (n r) s is)) ∙ sym (scene_later v s own (records_events v.image.lists.items n rs)))

-- ---- their occurrence is there

module _ (x : Image) (n : ℕ → ℕ) (o : ℕ) where
  kept : (p : Event → Bool) (es : List Event) → AllThere x n (in_occurrence o es) → AllThere x n (in_occurrence o (filter p es))
  kept p [] there = tt
  kept p (e ∷ es) there = by (kept p es there.1) (p e)
    where
      by : AllThere x n (in_occurrence o (filter p es)) → (b : Bool) → AllThere x n (in_occurrence o (cond b (e ∷ filter p es) (filter p es)))
      by others true = (there.0, others)
      by others false = others

  pub items_there : (r : ℕ) (hs : List Handled) → hs ≡ handled_items x r → 1 ≤ o → o ≤ n r → AllThere x n (in_occurrence o (events_of hs))
  items_there r hs is low high =
      let all = subst (AllThere x n) (sym (items_in r o 0 x.lists.items)) (all_items_there x n r o low high) in
      let some = kept (has_routine x) (events_of_items r 0 x.lists.items) all in
      subst (λ (l : List Handled). AllThere x n (in_occurrence o (events_of l))) (sym is)
      (subst (λ (l : List Event). AllThere x n (in_occurrence o l)) (sym (handled_events x (events_of_items r 0 x.lists.items))) some)
