-- What events change, one after the other.
use Rattle.std.proofs.Common.{◌≡◌, ℕ, suc, ◌+◌, ◌-◌, ◌<◌, true, drop, map, arith, List, [], ◌∷◌, ◌++◌, Option, Some, refl, sym, ap, ◌∙◌, subst}
use Rattle.std.specs.Prelude.{is_some}
use Rattle.std.proofs.lemmas.List.{map-append}
use Rattle.cse_image_parts.specs.declared.entries.Event.{Event}
use Rattle.cse_value.specs.declared.shape.ItemShape.{ItemShape}
use Rattle.cse_case.specs.Case.{CaseText}
use Rattle.cse_verify.specs.CaseEvents.{Moment, item_events, occurrence_events, record_events, records_events}
use Rattle.cse_decks.specs.Store.{Kept}
use Rattle.cse_report.specs.Held.{Held}
use Rattle.cse_report.specs.Listing.{Gives}
use Rattle.cse_report.specs.AllReported.{all_reported}
use Rattle.cse_report.specs.Frequency.{Table, all_imputed}
use Rattle.cse_report.specs.declared.reports.Reports.{Reports}
use Rattle.cse_report.proofs.ToldLaws.{imputes_all, all_later}
use Rattle.cse_verify.specs.Verified.{VerifiedProgram}
use Rattle.cse_steps.specs.State.{World, world_of}
use Rattle.cse_steps.specs.Fits.{FitsFirst, FitsWorld, IsThere, occurrences_in}
use Rattle.cse_steps.specs.Laws.{EventsEnd}
use Rattle.cse_steps.proofs.Events.{still_there}
use Rattle.cse_steps.specs.Results.{AllFitFirst, AllRunTo, RunsTo}
use Rattle.cse_batch_parts.specs.Events.{after_moment, after_moments, end_of, told_more}
use Rattle.cse_batch_parts.specs.Batch.{reports_of}
use Rattle.cse_batch_parts.specs.declared.handled.HandledRecord.{HandledRecord}
use Rattle.cse_batch_parts.specs.Handled.{number_of}
use Rattle.cse_batch_parts.specs.Scene.{GoesOn, Scene, scene, scene_after, scene_after_all, told_to}
use Rattle.cse_batch_parts.proofs.EventLaws.{ends_are_final}
use Rattle.cse_batch_parts.proofs.EndLaws.{AllThere, fits_moment, fits_then}

-- ---- one event

same_scene : (case : Option CaseText) (store : Kept) (h h' : Held) (t t' : List Table) → h ≡ h' → t ≡ t'
    → (let s : Scene = record { case = case; store = store; listing = h; frequencies = t } in s) ≡ record { case = case; store = store; listing = h'; frequencies = t' }
same_scene case store h h' t t' e f =
    ap (λ (x : Held). record { case = case; store = store; listing = x; frequencies = t }) e ∙ ap (λ (x : List Table). record { case = case; store = store; listing = h'; frequencies = x }) f

-- an event that ran to its end leaves what the definition says
pub ran_scene : (v : VerifiedProgram) (m : Moment) (case case' : Option CaseText) (store store' : Kept) (n : ℕ) (old new : Reports) → RunsTo v m case store old n case' store' new
    → scene case' store' new ≡ scene_after v (scene case store old) m
unfolding scene_after
ran_scene v m case case' store store' n old new r =
    let e = ends_are_final v (world_of case store) m n case' store' r.told r.ends in
    same_scene case' store' new.listing (all_reported old.listing (reports_of r.told)) new.frequencies (all_imputed old.frequencies r.told.imputed) r.tells.listing r.tells.frequencies
    ∙ ap (told_to (scene case store old)) (sym e.world)

-- and what it leaves fits
pub ran_fits : (v : VerifiedProgram) (m : Moment) (case case' : Option CaseText) (store store' : Kept) (n : ℕ) (old new : Reports) → EventsEnd v → FitsFirst v m case store → RunsTo v m case store old n case' store' new
    → FitsWorld v case (world_of case' store')
ran_fits v m case case' store store' n old new law fit r =
    let e = r.ends in
    let good = (law m case store fit).each n e.state e.runs in
    let f = subst (FitsWorld v case) e.world good.fits.world in
    record { present = f.present; occurrences = f.occurrences; case_fits = f.case_fits; dictionary = f.dictionary; store = f.store }

-- ---- events one after the other

pub scene_later : (v : VerifiedProgram) (s : Scene) (ms later : List Moment) → scene_after_all v s (ms ++ later) ≡ scene_after_all v (scene_after_all v s ms) later
scene_later v s [] later = refl
scene_later v s (m ∷ ms) later = scene_later v (scene_after v s m) ms later

-- what was told in two parts
told_twice : (s : Scene) (w u : World) → told_to (told_to s w) u ≡ told_to s (record { case = u.case; store = u.store; told = told_more w.told u.told })
told_twice s w u =
    same_scene u.case u.store _ _ _ _
    (sym (ap (all_reported s.listing) (map-append (λ (g : ℕ × _). Gives g.0 g.1) w.told.given u.told.given) ∙ all_later s.listing (reports_of w.told) (reports_of u.told)))
    (sym (imputes_all s.frequencies w.told.imputed u.told.imputed))

one_more : (v : VerifiedProgram) (s : Scene) (w : World) (m : Moment) → scene_after v (told_to s w) m ≡ told_to s (after_moment v w m)
unfolding scene_after
one_more v s w m = told_twice s w (end_of v w m).world

all_told : (v : VerifiedProgram) (s : Scene) (w : World) (ms : List Moment) → scene_after_all v (told_to s w) ms ≡ told_to s (after_moments v w ms)
all_told v s w [] = refl
all_told v s w (m ∷ ms) = ap (λ (x : Scene). scene_after_all v x ms) (one_more v s w m) ∙ all_told v s (after_moment v w m) ms

-- all of it is what was told from the start
pub scene_is_told : (v : VerifiedProgram) (s : Scene) (ms : List Moment) → scene_after_all v s ms ≡ told_to s (after_moments v (world_of s.case s.store) ms)
scene_is_told v s ms = all_told v s (world_of s.case s.store) ms

-- ---- the occurrence of an event is there

-- in a case that goes on from one in which it was there
pub there_now : (v : VerifiedProgram) (before now : CaseText) (store : Kept) → GoesOn v before now store → (e is : Event) → e ≡ is → (o : ℕ) → IsThere v.image (occurrences_in (Some before)) is.code is.index o
    → IsThere v.image (occurrences_in (Some now)) e.code e.index o
there_now v before now store f e is same o h =
    still_there v.image (occurrences_in (Some before)) (occurrences_in (Some now)) f.occurrences e.code e.index o (subst (λ (x : Event). IsThere v.image (occurrences_in (Some before)) x.code x.index o) (sym same) h)

-- the same of a case that goes on further
pub goes_further : (v : VerifiedProgram) (before mid now : CaseText) (store store' : Kept) → GoesOn v before mid store → GoesOn v mid now store' → GoesOn v before now store'
goes_further v before mid now store store' a b = fits_then v (Some before) (world_of (Some mid) store) (world_of (Some now) store') a b

-- what goes on goes on from itself
pub goes_from : (v : VerifiedProgram) (before now : CaseText) (store : Kept) → GoesOn v before now store → GoesOn v now now store
goes_from v before now store f = record { present = refl; occurrences = λ r. refl; case_fits = f.case_fits; dictionary = f.dictionary; store = f.store }

-- ---- events that all ran to their ends

-- each of them may begin
pub all_fit : (v : VerifiedProgram) (case : Option CaseText) (w : World) (ms : List Moment) → is_some case ≡ true → FitsWorld v case w → AllThere v.image (occurrences_in case) ms → AllFitFirst v ms w.case w.store
all_fit v case w [] some f there = tt
all_fit v case w (m ∷ ms) some f there = (fits_moment v case w m some f there.0, all_fit v case w ms some f there.1)

-- they leave what the definition says
pub all_ran_scene : (v : VerifiedProgram) (ms : List Moment) (case case' : Option CaseText) (store store' : Kept) (old new : Reports) → AllRunTo v ms case store old case' store' new
    → scene case' store' new ≡ scene_after_all v (scene case store old) ms
all_ran_scene v [] case case' store store' old new r =
    ap (λ (c : Option CaseText). scene c store' new) r.0 ∙ (ap (λ (k : Kept). scene case k new) r.1 ∙ ap (scene case store) r.2)
all_ran_scene v (m ∷ ms) case case' store store' old new r =
    all_ran_scene v ms r.1 case' r.2 store' r.3 new r.5 ∙ ap (λ (s : Scene). scene_after_all v s ms) (ran_scene v m case r.1 store r.2 r.0 old r.3 r.4)

-- and what they leave fits
pub all_ran_fits : (v : VerifiedProgram) → EventsEnd v → (before : CaseText) (ms : List Moment) (case case' : Option CaseText) (store store' : Kept) (old new : Reports) → FitsWorld v (Some before) (world_of case store)
    → AllThere v.image (occurrences_in (Some before)) ms → AllRunTo v ms case store old case' store' new → FitsWorld v (Some before) (world_of case' store')
all_ran_fits v law before [] case case' store store' old new f there r =
    subst (λ (c : Option CaseText). FitsWorld v (Some before) (world_of c store')) (sym r.0) (subst (λ (k : Kept). FitsWorld v (Some before) (world_of case k)) (sym r.1) f)
all_ran_fits v law before (m ∷ ms) case case' store store' old new f there r =
    let fit = fits_moment v (Some before) (world_of case store) m refl f there.0 in
    let one = ran_fits v m case r.1 store r.2 r.0 old r.3 law fit r.4 in
    all_ran_fits v law before ms r.1 case' r.2 store' r.3 new (fits_then v (Some before) (world_of case store) (world_of r.1 r.2) f one) there.1 r.5

-- ---- loops over events

-- two events around others
pub scene_around : (v : VerifiedProgram) (s s1 s2 s3 : Scene) (first last is is' : Event) (inner inner' : List Moment) → first ≡ is → last ≡ is' → inner ≡ inner'
    → s1 ≡ scene_after v s (record { event = first; occurrence = 0 }) → s2 ≡ scene_after_all v s1 inner → s3 ≡ scene_after v s2 (record { event = last; occurrence = 0 })
    → s3 ≡ scene_after_all v s (record { event = is; occurrence = 0 } ∷ inner' ++ record { event = is'; occurrence = 0 } ∷ [])
scene_around v s s1 s2 s3 first last is is' inner inner' e e' f a b c =
    let m : Event → Moment = λ x. record { event = x; occurrence = 0 } in
    let one : s1 ≡ scene_after v s (m is) = a ∙ ap (λ (x : Event). scene_after v s (m x)) e in
    let two : s2 ≡ scene_after_all v (scene_after v s (m is)) inner' = b ∙ (ap (λ (x : Scene). scene_after_all v x inner) one ∙ ap (scene_after_all v (scene_after v s (m is))) f) in
    c ∙ (ap (λ (x : Event). scene_after v s2 (m x)) e' ∙ (ap (λ (x : Scene). scene_after v x (m is')) two ∙ sym (scene_later v (scene_after v s (m is)) inner' (m is' ∷ []))))

-- an occurrence more
pub occurrences_next : (v : VerifiedProgram) (s s' : Scene) (r : ℕ) (items : List ItemShape) (k count : ℕ) → k < count → s' ≡ scene_after_all v s (item_events r (k + 1) 0 items)
    → scene_after_all v s' (occurrence_events r items (k + 1 + 1) (count - (k + 1))) ≡ scene_after_all v s (occurrence_events r items (k + 1) (count - k))
occurrences_next v s s' r items k count low e =
    let left : suc (count - (k + 1)) ≡ count - k = omega arith in
    let next : k + 1 + 1 ≡ suc (k + 1) = omega arith in
    let rest = occurrence_events r items (suc (k + 1)) (count - (k + 1)) in
    ap (λ (o : ℕ). scene_after_all v s' (occurrence_events r items o (count - (k + 1)))) next
    ∙ (ap (λ (x : Scene). scene_after_all v x rest) e
    ∙ (sym (scene_later v s (item_events r (k + 1) 0 items) rest)
    ∙ ap (λ (n : ℕ). scene_after_all v s (occurrence_events r items (k + 1) n)) left))

-- a record more
pub records_next : (v : VerifiedProgram) (s s' : Scene) (items : List ItemShape) (n : ℕ → ℕ) (rs : List HandledRecord) (k : ℕ) (h : HandledRecord) → drop k rs ≡ h ∷ drop (k + 1) rs → s' ≡ scene_after_all v s (record_events items h.number (n h.number))
    → scene_after_all v s' (records_events items n (map number_of (drop (k + 1) rs))) ≡ scene_after_all v s (records_events items n (map number_of (drop k rs)))
records_next v s s' items n rs k h split e =
    let rest = records_events items n (map number_of (drop (k + 1) rs)) in
    ap (λ (x : Scene). scene_after_all v x rest) e
    ∙ (sym (scene_later v s (record_events items h.number (n h.number)) rest) ∙ ap (λ (l : List HandledRecord). scene_after_all v s (records_events items n (map number_of l))) (sym split))

-- records with as many occurrences
pub records_same : (items : List ItemShape) (n n' : ℕ → ℕ) → ((r : ℕ) → n r ≡ n' r) → (rs : List ℕ) → records_events items n rs ≡ records_events items n' rs
records_same items n n' same [] = refl
records_same items n n' same (r ∷ rs) =
    ap (λ (c : ℕ). record_events items r c ++ records_events items n rs) (same r) ∙ ap (λ (l : List Moment). record_events items r (n' r) ++ l) (records_same items n n' same rs)
