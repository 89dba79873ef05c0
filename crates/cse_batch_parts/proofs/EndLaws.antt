-- All events of a batch run to their ends, within the bounds.
use Rattle.std.proofs.Common.{◌≡◌, ℕ, zero, suc, ◌+◌, ◌*◌, ◌≤◌, Bool, true, false, ◌&&◌, eqb, cond, List, [], ◌∷◌, ◌++◌, Option, Some, None, refl, sym, ap, ◌∙◌, subst, arith}
use Rattle.std.specs.Prelude.{slice_get, sum_by, is_some, find, option_map, IfSome}
use Rattle.std.specs.Option.{option_map_or}
use Rattle.std.proofs.lemmas.Bool.{eqb-true, false≢true}
use Rattle.std.proofs.lemmas.List.Sums.{sum_by-cons}
use Rattle.std.proofs.lemmas.Option.{same_Some}
use Rattle.cse_value.specs.declared.shape.ItemShape.{ItemShape}
use Rattle.cse_image_parts.specs.declared.entries.EventCode.{EventCode}
use Rattle.cse_image_parts.specs.declared.entries.EventCode.TheVariants as codes
use Rattle.cse_image_parts.specs.declared.entries.EventEntry.{EventEntry}
use Rattle.cse_image_parts.specs.Codes.{event_code}
use Rattle.cse_image_parts.specs.Image.{Image}
use Rattle.cse_case.specs.Case.{CaseText, records_of, types_of}
use Rattle.cse_case.specs.Seen.{is_case}
use Rattle.cse_case.specs.Fit.{IsFit}
use Rattle.cse_code_typing.specs.Handlers.{is_of, routine_of}
use Rattle.cse_verify.specs.Bound.{bound}
use Rattle.cse_verify.specs.CaseEvents.{Moment, moment, event, item_events, occurrence_events, record_events, records_events, case_events, event_bound, events_bound}
use Rattle.cse_verify.specs.EventBound.{case_bound, times_in_run}
use Rattle.cse_decks.specs.Store.{Kept, StoreFits}
use Rattle.cse_verify.specs.Verified.{VerifiedProgram}
use Rattle.cse_steps.specs.State.{State, World}
use Rattle.cse_steps.specs.Run.{first}
use Rattle.cse_steps.specs.Fits.{FitsFirst, FitsWorld, IsThere, is_of_run, occurrences_in}
use Rattle.cse_steps.specs.Laws.{CaseKeepsToBound, EventsEnd}
use Rattle.cse_steps.proofs.Events.{still_there}
use Rattle.cse_batch_parts.specs.Events.{AllEnd, after_moment, all_steps, end_of, steps_of, unedited}
use Rattle.cse_batch_parts.specs.Batch.{without_case}
use Rattle.cse_batch_parts.specs.Laws.{ApplicationsEnd, CasesEnd}
use Rattle.cse_batch_parts.proofs.EventLaws.{ended_is_final, ended_takes}

-- ---- the occurrence of each event is there

abbrev pub AllThere : Image → (ℕ → ℕ) → List Moment → Type 0
AllThere x n [] = Unit {0}
AllThere x n (m ∷ ms) = IsThere x n m.event.code m.event.index m.occurrence × AllThere x n ms

there_both : (x : Image) (n : ℕ → ℕ) (ms others : List Moment) → AllThere x n ms → AllThere x n others → AllThere x n (ms ++ others)
there_both x n [] others a b = b
there_both x n (m ∷ ms) others a b = (a.0, there_both x n ms others a.1 b)

module _ (x : Image) (n : ℕ → ℕ) (r o : ℕ) (low : 1 ≤ o) (high : o ≤ n r) where
  -- an item of the record
  pub item_there : (k : ℕ) (item : ItemShape) → slice_get x.lists.items k ≡ Some item → item.owner ≡ r → (found : ItemShape) → slice_get x.lists.items k ≡ Some found → (1 ≤ o) × (o ≤ n found.owner)
  item_there k item is own found at =
      let same : found ≡ item = same_Some _ _ (sym at ∙ is) in
      (low, subst (λ q. o ≤ n q) (sym (ap (λ (i : ItemShape). i.owner) same ∙ own)) high)

  pair_there : (k : ℕ) (item : ItemShape) → slice_get x.lists.items k ≡ Some item → (b : Bool) → eqb item.owner r ≡ b
      → AllThere x n (cond b (moment codes.ItemPreproc k o ∷ moment codes.ItemPostproc k o ∷ []) [])
  pair_there k item is true own = let g = item_there k item is (eqb-true item.owner r own) in (g, (g, tt))
  pair_there k item is false own = tt

  items_there : (k : ℕ) (items : List ItemShape) → ((j : ℕ) → slice_get x.lists.items (k + j) ≡ slice_get items j) → AllThere x n (item_events r o k items)
  items_there k [] at = tt
  items_there k (item ∷ items) at =
      let here : k + 0 ≡ k = omega arith in
      there_both x n (cond (eqb item.owner r) (moment codes.ItemPreproc k o ∷ moment codes.ItemPostproc k o ∷ []) []) (item_events r o (suc k) items)
      (pair_there k item (ap (slice_get x.lists.items) (sym here) ∙ at 0) (eqb item.owner r) refl)
      (items_there (suc k) items (λ j. let next : suc k + j ≡ k + suc j = omega arith in ap (slice_get x.lists.items) next ∙ at (suc j)))

  pub all_items_there : AllThere x n (item_events r o 0 x.lists.items)
  all_items_there = items_there 0 x.lists.items (λ j. let same : 0 + j ≡ j = omega arith in ap (slice_get x.lists.items) same)

occurrences_there : (x : Image) (n : ℕ → ℕ) (r o c : ℕ) → 1 ≤ o → o + c ≤ n r + 1 → AllThere x n (occurrence_events r x.lists.items o c)
occurrences_there x n r o zero low high = tt
occurrences_there x n r o (suc c) low high =
    there_both x n (item_events r o 0 x.lists.items) (occurrence_events r x.lists.items (suc o) c) (all_items_there x n r o low (omega arith)) (occurrences_there x n r (suc o) c (omega arith) (omega arith))

record_there : (x : Image) (n : ℕ → ℕ) (r : ℕ) → AllThere x n (record_events x.lists.items r (n r))
record_there x n r = (tt, there_both x n (occurrence_events r x.lists.items 1 (n r)) (moment codes.RecordPostproc r 0 ∷ []) (occurrences_there x n r 1 (n r) (omega arith) (omega arith)) (tt, tt))

records_there : (x : Image) (n : ℕ → ℕ) (rs : List ℕ) → AllThere x n (records_events x.lists.items n rs)
records_there x n [] = tt
records_there x n (r ∷ rs) = there_both x n (record_events x.lists.items r (n r)) (records_events x.lists.items n rs) (record_there x n r) (records_there x n rs)

pub case_there : (x : Image) (n : ℕ → ℕ) → AllThere x n (case_events x n)
case_there x n = (tt, there_both x n (records_events x.lists.items n x.lists.order) (moment codes.LevelPostproc 0 0 ∷ []) (records_there x n x.lists.order) (tt, tt))

-- ---- what fits goes on to fit

-- before any event
pub fits_first_world : (v : VerifiedProgram) (case : Option CaseText) (store : Kept) → IfSome case IsFit → IfSome case (λ t. t.dictionary ≡ v.dictionary) → StoreFits v.image store
    → (w : World) → w.case ≡ case → w.store ≡ store → FitsWorld v case w
fits_first_world v case store fit same kept w is is' = record {
  present = ap is_some is;
  occurrences = λ r. ap (λ c. occurrences_in c r) is;
  case_fits = subst (λ (c : Option CaseText). IfSome c IsFit) (sym is) fit;
  dictionary = subst (λ (c : Option CaseText). IfSome c (λ t. t.dictionary ≡ v.dictionary)) (sym is) same;
  store = subst (StoreFits v.image) (sym is') kept;
}

pub fits_then : (v : VerifiedProgram) (case : Option CaseText) (w u : World) → FitsWorld v case w → FitsWorld v w.case u → FitsWorld v case u
fits_then v case w u a b = record {
  present = b.present ∙ a.present;
  occurrences = λ r. b.occurrences r ∙ a.occurrences r;
  case_fits = b.case_fits;
  dictionary = b.dictionary;
  store = b.store;
}

-- an event of the case may begin
pub fits_moment : (v : VerifiedProgram) (case : Option CaseText) (w : World) (m : Moment) → is_some case ≡ true → FitsWorld v case w → IsThere v.image (occurrences_in case) m.event.code m.event.index m.occurrence
    → FitsFirst v m w.case w.store
fits_moment v case w m some f there = record {
  present = λ e. f.present ∙ some;
  there = still_there v.image (occurrences_in case) (occurrences_in w.case) f.occurrences m.event.code m.event.index m.occurrence there;
  case_fits = f.case_fits;
  dictionary = f.dictionary;
  store_fits = f.store;
}

-- it ends, and what it leaves fits
pub record EndsWell (v : VerifiedProgram) (w : World) (m : Moment) : Type 0 where
  pub ended : (end_of v w m).calls ≡ []
  pub fits : FitsWorld v w.case (end_of v w m).world
  pub within : steps_of v w m ≤ event_bound v.image m.event

pub ends_well : (v : VerifiedProgram) → EventsEnd v → (w : World) (m : Moment) → FitsFirst v m w.case w.store → EndsWell v w m
ends_well v law w m f =
    let e = law m w.case w.store f in
    let is = ended_is_final v e.steps (event_bound v.image m.event) (first v m w.case w.store) e.state e.runs e.ended e.within in
    let takes = ended_takes v e.steps (event_bound v.image m.event) (first v m w.case w.store) e.state e.runs e.ended e.within in
    let good = e.each e.steps e.state e.runs in
    record {
      ended = ap (λ s. s.calls) is ∙ e.ended;
      fits = subst (λ (s : State). FitsWorld v w.case s.world) (sym is) good.fits.world;
      within = (let low = e.within in omega (arith, takes));
    }

-- what was told before doesn't count
pub fits_told : (v : VerifiedProgram) (case : Option CaseText) (w : World) (m : Moment) → FitsWorld v case (end_of v w m).world → FitsWorld v case (after_moment v w m)
fits_told v case w m f = record { present = f.present; occurrences = f.occurrences; case_fits = f.case_fits; dictionary = f.dictionary; store = f.store }

all_end : (v : VerifiedProgram) → EventsEnd v → (case : Option CaseText) → is_some case ≡ true → (w : World) (ms : List Moment) → FitsWorld v case w → AllThere v.image (occurrences_in case) ms
    → AllEnd v w ms × (all_steps v w ms ≤ events_bound v.image ms)
all_end v law case some w [] f there = (tt, omega arith)
all_end v law case some w (m ∷ ms) f there =
    let e = ends_well v law w m (fits_moment v case w m some f there.0) in
    let later = all_end v law case some (after_moment v w m) ms (fits_told v case w m (fits_then v case w (end_of v w m).world f e.fits)) there.1 in
    let bound_is = sum_by-cons (λ (k : Moment). event_bound v.image k.event) m ms in
    ((e.ended, later.0), (let here = e.within in let rest = later.1 in omega (arith, bound_is)))

pub cases_end : (v : VerifiedProgram) → EventsEnd v → CaseKeepsToBound v → CasesEnd v
cases_end v law keeps store t store_fits fit same =
    let g = by (is_case (records_of t) (types_of t.run.lines)) in
    record { all_end = g.0; within = g.1 }
  where
    fits : FitsWorld v (Some t) (unedited store t)
    fits = fits_first_world v (Some t) store fit same store_fits (unedited store t) refl refl

    by : (b : Bool) → AllEnd v (unedited store t) (cond b (case_events v.image (occurrences_in (Some t))) []) × (all_steps v (unedited store t) (cond b (case_events v.image (occurrences_in (Some t))) []) ≤ case_bound v.image)
    by true =
        let g = all_end v law (Some t) refl (unedited store t) (case_events v.image (occurrences_in (Some t))) fits (case_there v.image (occurrences_in (Some t))) in
        let high = keeps t fit same in
        (g.0, (let low = g.1 in omega arith))
    by false = (tt, omega arith)

-- ---- the application

abbrev found : Image → EventCode → List EventEntry → ℕ
found x code entries = option_map_or (bound x) (routine_of entries (event code 0)) 0

abbrev in_run : Image → EventEntry → ℕ
in_run x e = times_in_run e.code * bound x e.routine

-- an entry is that of one of the application's two events, or of none
one_of : (code : EventCode) (b : Bool) (n pre post : ℕ) → cond (eqb (event_code code) 0 && b) n pre + cond (eqb (event_code code) 1 && b) n post ≤ times_in_run code * n + (pre + post)
one_of codes.ApplicationPreproc true n pre post = omega arith
one_of codes.ApplicationPreproc false n pre post = omega arith
one_of codes.ApplicationPostproc true n pre post = omega arith
one_of codes.ApplicationPostproc false n pre post = omega arith
one_of codes.LevelPreproc b n pre post = omega arith
one_of codes.LevelPostproc b n pre post = omega arith
one_of codes.RecordPreproc b n pre post = omega arith
one_of codes.RecordPostproc b n pre post = omega arith
one_of codes.ItemPreproc b n pre post = omega arith
one_of codes.ItemPostproc b n pre post = omega arith

found_by : (x : Image) (e : EventEntry) (o : Option EventEntry) (b : Bool) → option_map_or (bound x) (option_map (λ (y : EventEntry). y.routine) (cond b (Some e) o)) 0 ≡ cond b (bound x e.routine) (option_map_or (bound x) (option_map (λ (y : EventEntry). y.routine) o) 0)
found_by x e o true = refl
found_by x e o false = refl

run_within : (x : Image) (entries : List EventEntry) → found x codes.ApplicationPreproc entries + found x codes.ApplicationPostproc entries ≤ sum_by (in_run x) entries
run_within x [] = omega arith
run_within x (e ∷ es) =
    let later = run_within x es in
    let all = sum_by-cons (in_run x) e es in
    let here = one_of e.code (eqb e.index 0) (bound x e.routine) (found x codes.ApplicationPreproc es) (found x codes.ApplicationPostproc es) in
    let first = found_by x e (find (is_of (event codes.ApplicationPreproc 0)) es) (is_of (event codes.ApplicationPreproc 0) e) in
    let last = found_by x e (find (is_of (event codes.ApplicationPostproc 0)) es) (is_of (event codes.ApplicationPostproc 0) e) in
    omega arith

-- an event of the application may begin
pub fits_application : (v : VerifiedProgram) (code : EventCode) (store : Kept) → is_of_run code ≡ true → IsThere v.image (λ r. 0) code 0 0 → StoreFits v.image store → FitsFirst v (moment code 0 0) None store
fits_application v code store runs there fit = record { present = λ e. absurd (false≢true (sym e ∙ runs)); there = there; case_fits = tt; dictionary = tt; store_fits = fit }

pub applications_end : (v : VerifiedProgram) → EventsEnd v → ApplicationsEnd v
applications_end v law a b fit fit' =
    let first = ends_well v law (without_case a) (moment codes.ApplicationPreproc 0 0) (fits_application v codes.ApplicationPreproc a refl tt fit) in
    let last = ends_well v law (without_case b) (moment codes.ApplicationPostproc 0 0) (fits_application v codes.ApplicationPostproc b refl tt fit') in
    record { preproc = first.ended; postproc = last.ended; within = (let high = run_within v.image v.image.lists.events in let one = first.within in let two = last.within in omega arith) }
