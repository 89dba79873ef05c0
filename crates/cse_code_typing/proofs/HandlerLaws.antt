-- The entry of an event, where entries ascend.
use Rattle.std.proofs.Common.{◌≡◌, ℕ, zero, suc, ◌+◌, ◌*◌, ◌-◌, ◌<◌, ◌≤◌, ◌^◌, Bool, true, false, cond, eqb, ltb, List, [], ◌∷◌, length, take, get_or, Option, Some, None, refl, sym, ap, ◌∙◌, subst, ⊎_elim, arith, add-one}
use Rattle.std.specs.Prelude.{slice_get, find, option_map, IsTrue, ◌&&◌}
use Rattle.std.specs.List.{list_all}
use Rattle.std.proofs.lemmas.Bool.{cases_lt, cases_order, cases_Bool, false≢true, eqb-true, ltb-true, eq-eqb, and_parts, and_from, or_cases}
use Rattle.std.proofs.lemmas.List.{length-take}
use Rattle.std.proofs.lemmas.Option.{same_Some, slice_get_within, get_or_from_slice_get}
use Rattle.cse_lemmas.proofs.Lists.{slice_get-take}
use Rattle.cse_value.specs.Shape.{ShapeLists}
use Rattle.cse_image_parts.specs.declared.entries.Event.{Event}
use Rattle.cse_image_parts.specs.declared.entries.EventCode.{EventCode}
use Rattle.cse_image_parts.specs.declared.entries.EventEntry.{EventEntry}
use Rattle.cse_image_parts.specs.Codes.{event_code, event_code_of}
use Rattle.cse_image_parts.specs.Fields.{last_event, is_after}
use Rattle.cse_image_parts.specs.Image.{Image, Lists, RoutineLists}
use Rattle.cse_image_parts.proofs.CodeLaws.{event_code_is_one}
use Rattle.cse_image_parts.specs.Reader.{AllAfter}
use Rattle.cse_image_parts.proofs.Places.{at_place_plain}
use Rattle.cse_image.specs.Spelling.{Fits, EventFits}
use Rattle.cse_code_typing.specs.Order.{handles, is_handled_by, fits_event}
use Rattle.cse_code_typing.specs.Typed.{IsTyped}
use Rattle.cse_code_typing.specs.Handlers.{is_of, routine_of, event_order, IsHandler}

abbrev pub order_at : EventEntry → ℕ
order_at x = event_order x.code x.index

-- each entry stands after those before it
pub record Ascends (events : List EventEntry) : Type 0 where
  pub rises : (j k : ℕ) (a b : EventEntry) → slice_get events j ≡ Some a → slice_get events k ≡ Some b → j < k → order_at a < order_at b

-- ---- the entries of a program ascend

after_order : (a b : EventEntry) → a.index < 2 ^ 16 → IsTrue (is_after (Some a) b.code b.index) → order_at a < order_at b
after_order a b small after =
    ⊎_elim
    (λ (less : ltb (event_code a.code) (event_code b.code) ≡ true). let lt : event_code a.code < event_code b.code = ltb-true (event_code a.code) (event_code b.code) less in omega arith)
    (λ (same : (eqb (event_code a.code) (event_code b.code) && ltb a.index b.index) ≡ true).
    let p = and_parts (eqb (event_code a.code) (event_code b.code)) (ltb a.index b.index) same in
    let e : event_code a.code ≡ event_code b.code = eqb-true (event_code a.code) (event_code b.code) p.0 in
    let lt : a.index < b.index = ltb-true a.index b.index p.1 in
    omega arith)
    (or_cases (ltb (event_code a.code) (event_code b.code)) (eqb (event_code a.code) (event_code b.code) && ltb a.index b.index) after)

-- what the format says of the entry at a place
fits_at : (events : List EventEntry) (k : ℕ) (b : EventEntry) → AllAfter (λ before. EventFits (last_event before)) [] events → slice_get events k ≡ Some b → EventFits (last_event (take k events)) b
fits_at events k b all at =
    subst (EventFits (last_event (take k events))) (get_or_from_slice_get events k b b at)
    (at_place_plain (λ before. EventFits (last_event before)) events all k b (slice_get_within events k b at))

next_rises : (events : List EventEntry) (k : ℕ) (a b : EventEntry) → AllAfter (λ before. EventFits (last_event before)) [] events → slice_get events k ≡ Some a → slice_get events (suc k) ≡ Some b → order_at a < order_at b
next_rises events k a b all here next =
    let lt = slice_get_within events (suc k) b next in
    let size : length (take (suc k) events) - 1 ≡ k = let l = length-take (suc k) events in omega arith in
    let last : last_event (take (suc k) events) ≡ Some a = ap (slice_get (take (suc k) events)) size ∙ slice_get-take (suc k) events k (omega arith) ∙ here in
    let f = fits_at events (suc k) b all next in
    after_order a b (fits_at events k a all here).index (subst (λ o. IsTrue (is_after o b.code b.index)) last f.after)

there : (events : List EventEntry) (k : ℕ) → k < length events → (a : EventEntry) × (slice_get events k ≡ Some a)
there [] k lt = absurd (omega arith)
there (x ∷ xs) zero lt = (x, refl)
there (x ∷ xs) (suc k) lt = there xs k (omega arith)

all_rise : (events : List EventEntry) → AllAfter (λ before. EventFits (last_event before)) [] events → (k j : ℕ) (a b : EventEntry) → slice_get events j ≡ Some a → slice_get events k ≡ Some b → j < k → order_at a < order_at b
all_rise events all zero j a b here later lt = absurd (omega arith)
all_rise events all (suc k) j a b here later lt =
    let within = slice_get_within events (suc k) b later in
    let m = there events k (omega arith) in
    let step = next_rises events k m.0 b all m.1 later in
    ⊎_elim
    (λ (l : j < k). let ih = all_rise events all k j a m.0 here m.1 l in omega arith)
    (λ (l : k ≤ j).
    let same : k ≡ j = omega arith in
    let one : m.0 ≡ a = same_Some m.0 a (sym m.1 ∙ ap (slice_get events) same ∙ here) in
    subst (λ (x : EventEntry). order_at x < order_at b) one step)
    (cases_lt j k)

pub events_ascend : (x : Image) (events : List EventEntry) → Fits x → events ≡ x.lists.events → Ascends events
events_ascend x events fits is =
    subst Ascends (sym is) (record { rises = λ j k. all_rise x.lists.events fits.lists.events.each k j })

-- ---- halves

-- the entries before the place from are those before the order, and the others are not
pub record Halved (events : List EventEntry) (order from to : ℕ) : Type 0 where
  pub below : (k : ℕ) (a : EventEntry) → slice_get events k ≡ Some a → k < from → order_at a < order
  pub above : (k : ℕ) (a : EventEntry) → slice_get events k ≡ Some a → to ≤ k → order ≤ order_at a
  pub within : from ≤ to
  pub there : to ≤ length events

pub halved_start : (events : List EventEntry) (order from to : ℕ) → from ≡ 0 → to ≡ length events → Halved events order from to
halved_start events order from to first last = record {
  below = λ k a at lt. absurd (omega arith);
  above = λ k a at le. let lt = slice_get_within events k a at in absurd (omega arith);
  within = omega arith;
  there = omega arith;
}

pub halved_at : (events : List EventEntry) (order place : ℕ) {wanted : ℕ} → order ≡ wanted
    → ((k : ℕ) (a : EventEntry) → slice_get events k ≡ Some a → k < place → order_at a < order) → ((k : ℕ) (a : EventEntry) → slice_get events k ≡ Some a → place ≤ k → order ≤ order_at a)
    → place ≤ length events → Halved events wanted place place
halved_at events order place is before after inside = subst (λ (n : ℕ). Halved events n place place) is (record {
  below = before;
  above = after;
  within = omega arith;
  there = inside;
})

pub upper_half : (events : List EventEntry) (order from to middle next : ℕ) (m : EventEntry) → Ascends events → Halved events order from to → slice_get events middle ≡ Some m → middle < to → order_at m < order → next ≡ middle + 1 → Halved events order next to
upper_half events order from to middle next m up h at lt before is = record {
  below = λ k a there small.
      ⊎_elim (λ (l : k < middle). let r = up.rises k middle a m there at l in omega arith)
      (λ (l : middle ≤ k).
      let same : middle ≡ k = omega arith in
      let one : m ≡ a = same_Some m a (sym at ∙ ap (slice_get events) same ∙ there) in
      subst (λ (x : EventEntry). order_at x < order) one before)
      (cases_lt k middle);
  above = h.above;
  within = omega arith;
  there = h.there;
}

pub lower_half : (events : List EventEntry) (order from to middle : ℕ) (m : EventEntry) → Ascends events → Halved events order from to → slice_get events middle ≡ Some m → from ≤ middle → order ≤ order_at m → Halved events order from middle
lower_half events order from to middle m up h at le later =
    let within = slice_get_within events middle m at in
    record {
      below = h.below;
      above = λ k a there small.
          ⊎_elim (λ (l : middle < k). let r = up.rises middle k m a at there l in omega arith)
          (λ (l : k ≤ middle).
          let same : middle ≡ k = omega arith in
          let one : m ≡ a = same_Some m a (sym at ∙ ap (slice_get events) same ∙ there) in
          subst (λ (x : EventEntry). order ≤ order_at x) one later)
          (cases_lt middle k);
      within = le;
      there = omega arith;
    }

-- ---- the entry that is found

find_none : (test : EventEntry → Bool) (events : List EventEntry) → ((k : ℕ) (a : EventEntry) → slice_get events k ≡ Some a → test a ≡ false) → find test events ≡ None
find_none test [] fails = refl
find_none test (x ∷ xs) fails =
    ap (λ b. cond b (Some x) (find test xs)) (fails 0 x refl) ∙ find_none test xs (λ k a at. fails (suc k) a at)

find_first : (test : EventEntry → Bool) (events : List EventEntry) (n : ℕ) (entry : EventEntry) → slice_get events n ≡ Some entry → test entry ≡ true → ((k : ℕ) (a : EventEntry) → slice_get events k ≡ Some a → k < n → test a ≡ false) → find test events ≡ Some entry
find_first test [] n entry at holds fails = cc
find_first test (x ∷ xs) zero entry at holds fails =
    let same : x ≡ entry = cc in
    ap (λ b. cond b (Some x) (find test xs)) (ap test same ∙ holds) ∙ ap Some same
find_first test (x ∷ xs) (suc n) entry at holds fails =
    ap (λ b. cond b (Some x) (find test xs)) (fails 0 x refl (omega arith)) ∙ find_first test xs n entry at holds (λ k a there lt. fails (suc k) a there (omega arith))

-- entries of another order are of other events
other_order : (e : Event) (a : EventEntry) → (order_at a ≡ event_order e.code e.index → ⊥) → is_of e a ≡ false
other_order e a ne =
    ⊎_elim
    (λ (holds : is_of e a ≡ true).
    let p = and_parts (eqb (event_code a.code) (event_code e.code)) (eqb a.index e.index) holds in
    let c : event_code a.code ≡ event_code e.code = eqb-true (event_code a.code) (event_code e.code) p.0 in
    let i : a.index ≡ e.index = eqb-true a.index e.index p.1 in
    absurd (ne (omega arith)))
    (λ fails. fails)
    (cases_Bool (is_of e a))

pub found_at : (events : List EventEntry) (e : Event) (n to : ℕ) (entry : EventEntry) (r : ℕ) → Halved events (event_order e.code e.index) n to → slice_get events n ≡ Some entry → is_of e entry ≡ true → r ≡ entry.routine → Some r ≡ routine_of events e
found_at events e n to entry r h at holds is =
    ap Some is ∙ sym (ap (option_map (λ (x : EventEntry). x.routine)) (find_first (is_of e) events n entry at holds (λ k a there lt. let b = h.below k a there lt in other_order e a (λ same. omega arith))))

pub not_there : (events : List EventEntry) (e : Event) (n to : ℕ) → Ascends events → Halved events (event_order e.code e.index) n to → to ≤ n → ((entry : EventEntry) → slice_get events n ≡ Some entry → is_of e entry ≡ false) → None ≡ routine_of events e
not_there events e n to up h end fails =
    sym (ap (option_map (λ (x : EventEntry). x.routine)) (find_none (is_of e) events each))
  where
    each : (k : ℕ) (a : EventEntry) → slice_get events k ≡ Some a → is_of e a ≡ false
    each k a at =
        ⊎_elim
        (λ (same : k ≡ n). fails a (ap (slice_get events) (sym same) ∙ at))
        (λ differ. ⊎_elim
        (λ (lt : k < n). let b = h.below k a at lt in other_order e a (λ same. omega arith))
        (λ (gt : n < k).
        let within = slice_get_within events k a at in
        let m = there events n (omega arith) in
        let first = h.above n m.0 m.1 end in
        let rise = up.rises n k m.0 a m.1 at gt in
        other_order e a (λ same. omega arith))
        differ)
        (cases_order k n)

-- ---- the routine is one that handles the event

found_is : (test : EventEntry → Bool) (fit : EventEntry → Bool) (events : List EventEntry) (r : ℕ) → list_all fit events ≡ true → option_map (λ (x : EventEntry). x.routine) (find test events) ≡ Some r → (x : EventEntry) × (test x ≡ true) × (fit x ≡ true) × (x.routine ≡ r)
found_is test fit [] r all h = cc
found_is test fit (x ∷ xs) r all h =
    let p = and_parts (fit x) (list_all fit xs) all in
    ⊎_elim
    (λ (holds : test x ≡ true).
    let told : Some x.routine ≡ Some r = sym (ap (λ b. option_map (λ (y : EventEntry). y.routine) (cond b (Some x) (find test xs))) holds) ∙ h in
    (x, holds, p.0, same_Some x.routine r told))
    (λ (fails : test x ≡ false).
    found_is test fit xs r p.1 (sym (ap (λ b. option_map (λ (y : EventEntry). y.routine) (cond b (Some x) (find test xs))) fails) ∙ h))
    (cases_Bool (test x))

pub one_code : (a b : EventCode) → event_code a ≡ event_code b → a ≡ b
one_code a b same = same_Some a b (sym (event_code_is_one a).there ∙ ap event_code_of same ∙ (event_code_is_one b).there)

handled : (s : ShapeLists) (x : Image) (e : Event) (r : ℕ) (entry : EventEntry) (o : Option RoutineLists) → slice_get x.lists.routines r ≡ o → entry.code ≡ e.code → entry.index ≡ e.index → is_handled_by s entry o ≡ true → IsHandler s x e r
handled s x e r entry None at code index h = absurd (false≢true h)
handled s x e r entry (Some y) at code index h = record {
  routine = y;
  there = at;
  handles = ap (λ c. handles s c e.index y) (sym code) ∙ ap (λ i. handles s entry.code i y) (sym index) ∙ h;
}

pub handlers_run : (s : ShapeLists) (x : Image) (e : Event) (r : ℕ) → IsTyped s x → routine_of x.lists.events e ≡ Some r → IsHandler s x e r
handlers_run s x e r typed found =
    let f = found_is (is_of e) (fits_event s x.lists) x.lists.events r typed.events found in
    let p = and_parts _ _ f.1 in
    handled s x e r f.0 (slice_get x.lists.routines r) refl (one_code f.0.code e.code (eqb-true _ _ p.0)) (eqb-true _ _ p.1)
    (ap (λ k. is_handled_by s f.0 (slice_get x.lists.routines k)) (sym f.3) ∙ f.2)
