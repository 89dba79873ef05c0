-- What the spelling of a program says: each routine has an instruction, and the application has two events
-- at most. The crates above cite may_walk.
use Rattle.std.proofs.Common.{◌≡◌, ℕ, ◌+◌, ◌-◌, ◌*◌, ◌<◌, ◌≤◌, ◌&&◌, eqb, ltb, leb, List, [], ◌∷◌, ◌++◌, length, Option, Some, None, refl, ap, subst, inl, inr, ⊎_elim, arith}
use Rattle.std.specs.Prelude.{slice_get, IsTrue, sum_by, ◌⊎◌}
use Rattle.std.proofs.Math.Nat.{mul-le-mul_left, mul-le-mul_right}
use Rattle.std.specs.List.{list_all}
use Rattle.std.proofs.lemmas.Bool.{and_parts, leb-true, ltb-true, eqb-true, or_cases, false≢true}
use Rattle.std.proofs.lemmas.List.{length-map}
use Rattle.std.proofs.lemmas.List.Sums.{sum_by-cons}
use Rattle.cse_lemmas.proofs.Lists.{slice_get_some}
use Rattle.cse_value.specs.Shape.{ShapeLists}
use Rattle.cse_image_parts.specs.declared.instruction.Instr.{Instr}
use Rattle.cse_image_parts.specs.declared.entries.EventCode.{EventCode}
use Rattle.cse_image_parts.specs.declared.entries.EventCode.TheVariants as codes
use Rattle.cse_image_parts.specs.declared.entries.EventEntry.{EventEntry}
use Rattle.cse_image_parts.specs.Codes.{event_code}
use Rattle.cse_image_parts.specs.declared.version.Version.TheVariants as versions
use Rattle.cse_image_parts.specs.Fields.{instructions_in, last_event, is_after}
use Rattle.cse_image_parts.specs.Image.{Image, RoutineLists}
use Rattle.cse_image_parts.proofs.EventLaws.{last_is}
use Rattle.cse_image_parts.specs.Reader.{AllAfter}
use Rattle.cse_image_parts.proofs.Algebra.{after_at}
use Rattle.cse_image.specs.Spelling.{RoutineFits, EventFits, Fits}
use Rattle.cse_code_typing.specs.Code.{start_of, part, code_of}
use Rattle.cse_code_typing.specs.Shapes.{shape_of}
use Rattle.cse_code_typing.specs.Skeleton.{control, skeleton_of}
use Rattle.cse_code_typing.specs.Order.{handles, is_handled_by, fits_event, all_events_fit}
use Rattle.cse_code_typing.proofs.CodeLaws.{code_of_is, length-part, lies_within}
use Rattle.cse_verify.specs.Limit.{step_limit}
use Rattle.cse_verify.specs.Bound.{bound, AreBoundedBelow}
use Rattle.cse_verify.specs.EventBound.{times_in_run, run_bound}
use Rattle.cse_verify.specs.Calls.{AllKeepRules, AllCallSmaller, MayWalk}
use Rattle.cse_verify.proofs.EventLaws.{bound_small}

-- ---- each routine has an instruction

has_code : (x : Image) → Fits x → (r : ℕ) (y : RoutineLists) → slice_get x.lists.routines r ≡ Some y → 0 < length (skeleton_of x r)
has_code x fits r y there =
    let room = after_at (λ before. RoutineFits versions.Two (instructions_in before)) [] x.lists.routines r y fits.lists.routines.each there in
    let some : 1 ≤ y.instructions = leb-true 1 y.instructions (and_parts (leb 1 y.instructions) _ room.1.room).0 in
    let size : length (part (start_of x.lists.routines r) y.instructions x.code) ≡ y.instructions =
    length-part (start_of x.lists.routines r) y.instructions x.code (lies_within x r (start_of x.lists.routines r) y fits.count there refl)
    in
    let mapped : length (skeleton_of x r) ≡ length (code_of x r) = length-map (code_of x r) (control x.lists) in
    let is = ap (λ (l : List Instr). length l) (code_of_is x r y there) in
    omega arith

pub may_walk : (x : Image) → Fits x → AllKeepRules x → AllCallSmaller x → MayWalk x
may_walk x fits rules smaller = record {
  rules = rules;
  smaller = smaller;
  some = λ r lt. let here = slice_get_some x.lists.routines r lt in has_code x fits r here.0 here.1;
}

-- ---- the application has two events at most

-- an event of the application has the index 0
first_index : (s : ShapeLists) (code : EventCode) (index : ℕ) (y : RoutineLists) → IsTrue (handles s code index y) → times_in_run code ≡ 1 → index ≡ 0
first_index s codes.ApplicationPreproc index y h run = eqb-true index 0 (and_parts (eqb index 0) _ h).0
first_index s codes.ApplicationPostproc index y h run = eqb-true index 0 (and_parts (eqb index 0) _ h).0
first_index s codes.LevelPreproc index y h run = absurd (omega arith)
first_index s codes.LevelPostproc index y h run = absurd (omega arith)
first_index s codes.RecordPreproc index y h run = absurd (omega arith)
first_index s codes.RecordPostproc index y h run = absurd (omega arith)
first_index s codes.ItemPreproc index y h run = absurd (omega arith)
first_index s codes.ItemPostproc index y h run = absurd (omega arith)

handled_first : (s : ShapeLists) (e : EventEntry) (o : Option RoutineLists) → IsTrue (is_handled_by s e o) → times_in_run e.code ≡ 1 → e.index ≡ 0
handled_first s e None h run = absurd (false≢true h)
handled_first s e (Some y) h run = first_index s e.code e.index y h run

-- how many events of the application may come yet
abbrev yet : Option EventEntry → ℕ
yet None = 2
yet (Some e) = 1 - event_code e.code

by_code : (code : EventCode) → times_in_run code + (1 - event_code code) ≤ 2 - event_code code
by_code codes.ApplicationPreproc = omega arith
by_code codes.ApplicationPostproc = omega arith
by_code codes.LevelPreproc = omega arith
by_code codes.LevelPostproc = omega arith
by_code codes.RecordPreproc = omega arith
by_code codes.RecordPostproc = omega arith
by_code codes.ItemPreproc = omega arith
by_code codes.ItemPostproc = omega arith

by_kind : (code : EventCode) → (times_in_run code ≡ 1) ⊎ (times_in_run code + (1 - event_code code) ≡ 0)
by_kind codes.ApplicationPreproc = inl refl
by_kind codes.ApplicationPostproc = inl refl
by_kind codes.LevelPreproc = inr refl
by_kind codes.LevelPostproc = inr refl
by_kind codes.RecordPreproc = inr refl
by_kind codes.RecordPostproc = inr refl
by_kind codes.ItemPreproc = inr refl
by_kind codes.ItemPostproc = inr refl

spends : (last : Option EventEntry) (e : EventEntry) → IsTrue (is_after last e.code e.index) → (times_in_run e.code ≡ 1 → e.index ≡ 0) → times_in_run e.code + yet (Some e) ≤ yet last
spends None e after first = let few = by_code e.code in omega arith
spends (Some f) e after first =
    ⊎_elim
    (λ (run : times_in_run e.code ≡ 1).
    let zero_is = first run in
    let few = by_code e.code in
    ⊎_elim
    (λ (a : IsTrue (ltb (event_code f.code) (event_code e.code))). let lt = ltb-true (event_code f.code) (event_code e.code) a in omega arith)
    (λ (b : IsTrue (eqb (event_code f.code) (event_code e.code) && ltb f.index e.index)).
    let lt = ltb-true f.index e.index (and_parts (eqb (event_code f.code) (event_code e.code)) (ltb f.index e.index) b).1 in
    omega arith)
    (or_cases (ltb (event_code f.code) (event_code e.code)) (eqb (event_code f.code) (event_code e.code) && ltb f.index e.index) after))
    (λ (none : times_in_run e.code + (1 - event_code e.code) ≡ 0). omega arith)
    (by_kind e.code)

module _ (x : Image) (bounded : AreBoundedBelow x (length x.lists.routines)) (s : ShapeLists) where
  abbrev run_of : EventEntry → ℕ
  run_of e = times_in_run e.code * bound x e.routine

  few_of : (n : ℕ) (e : EventEntry) → n * bound x e.routine ≤ n * step_limit
  few_of n e = mul-le-mul_left n (bound_small x bounded e.routine)

  run_few : (before events : List EventEntry) (last : Option EventEntry) → last_event before ≡ last → AllAfter (λ before. EventFits (last_event before)) before events → IsTrue (list_all (fits_event s x.lists) events) → sum_by run_of events ≤ yet last * step_limit
  run_few before [] last is all fit = omega arith
  run_few before (e ∷ es) last is all fit =
      let parts = and_parts (fits_event s x.lists e) (list_all (fits_event s x.lists) es) fit in
      let after : IsTrue (is_after last e.code e.index) = subst (λ o. IsTrue (is_after o e.code e.index)) is all.0.after in
      let room = spends last e after (handled_first s e (slice_get x.lists.routines e.routine) parts.0) in
      let ih = run_few (before ++ e ∷ []) es (Some e) (last_is before e) all.1 parts.1 in
      let more = sum_by-cons run_of e es in
      let few = few_of (times_in_run e.code) e in
      let all_room = mul-le-mul_right step_limit room in
      omega arith

pub run_small : (x : Image) → Fits x → AreBoundedBelow x (length x.lists.routines) → IsTrue (all_events_fit (shape_of x) x.lists) → run_bound x ≤ 2 * step_limit
run_small x fits bounded fit = run_few x bounded (shape_of x) [] x.lists.events None refl fits.lists.events.each fit
