-- The events of a case take at most the steps of the case's bound.
use Rattle.std.proofs.Common.{◌≡◌, ℕ, zero, suc, ◌+◌, ◌*◌, ◌<◌, ◌≤◌, Bool, true, false, ◌&&◌, cond, eqb, ltb, List, [], ◌∷◌, Option, Some, None, refl, sym, ap, ◌∙◌, ⊎_elim, arith}
use Rattle.std.specs.Prelude.{slice_get, sum_by, count_by, find, option_map}
use Rattle.std.specs.Option.{option_map_or}
use Rattle.std.proofs.Math.Nat.{mul-le-mul_left, mul-le-mul_right}
use Rattle.std.proofs.lemmas.Bool.{cases_eq, eq-eqb, ne_eqb}
use Rattle.std.proofs.lemmas.List.Sums.{sum_by-cons, sum_by-append}
use Rattle.cse_lemmas.proofs.Booleans.{cond-le-one}
use Rattle.cse_lemmas.proofs.Lists.{sum_by_same}
use Rattle.cse_value.specs.declared.shape.ItemShape.{ItemShape}
use Rattle.cse_image_parts.specs.declared.entries.Event.{Event}
use Rattle.cse_image_parts.specs.declared.entries.EventCode.{EventCode}
use Rattle.cse_image_parts.specs.declared.entries.EventCode.TheVariants as codes
use Rattle.cse_image_parts.specs.declared.entries.EventEntry.{EventEntry}
use Rattle.cse_image_parts.specs.Image.{Image}
use Rattle.cse_code_typing.specs.Handlers.{is_of, routine_of}
use Rattle.cse_code_typing.specs.Skeleton.{most_occurrences}
use Rattle.cse_code_typing.specs.Order.{NamesEachOnce}
use Rattle.cse_verify.specs.Bound.{bound}
use Rattle.cse_verify.specs.EventBound.{times_in_case, case_bound}
use Rattle.cse_verify.specs.CaseEvents.{event, Moment, moment, item_events, occurrence_events, record_events, records_events, case_events, KeepsMost, events_bound, KeepsTimes}

abbrev one : Bool → ℕ
one b = cond b 1 0

one_small : (b : Bool) → one b ≤ 1
one_small true = omega arith
one_small false = omega arith

one_and : (a b : Bool) → one (a && b) ≡ one a * one b
one_and true true = refl
one_and true false = refl
one_and false true = refl
one_and false false = refl

one_same : (a b : ℕ) → one (eqb a b) ≡ one (eqb b a)
one_same a b =
    ⊎_elim
    (λ (e : a ≡ b). ap one (eq-eqb a b e ∙ sym (eq-eqb b a (sym e))))
    (λ (ne : a ≡ b → ⊥). ap one (ne_eqb a b ne ∙ sym (ne_eqb b a (λ e. ne (sym e)))))
    (cases_eq a b)

-- ---- events of which none comes too often

module _ (x : Image) where
  abbrev found_in : List EventEntry → Event → ℕ
  found_in entries e = option_map_or (bound x) (routine_of entries e) 0

  found_first : (y : EventEntry) (ys : List EventEntry) (e : Event) (b : Bool) → option_map_or (bound x) (option_map (λ (entry : EventEntry). entry.routine) (cond b (Some y) (find (is_of e) ys))) 0 ≤ one b * bound x y.routine + found_in ys e
  found_first y ys e true = omega arith
  found_first y ys e false = omega arith

  abbrev found_at : List EventEntry → Moment → ℕ
  found_at entries m = found_in entries m.event

  split : (y : EventEntry) (ys : List EventEntry) (events : List Moment) → sum_by (found_at (y ∷ ys)) events ≤ count_by (λ m. is_of m.event y) events * bound x y.routine + sum_by (found_at ys) events
  split y ys [] = omega arith
  split y ys (m ∷ ms) =
      let a = sum_by-cons (found_at (y ∷ ys)) m ms in
      let b = sum_by-cons (found_at ys) m ms in
      let c = ap (λ n. n * bound x y.routine) (sum_by-cons (λ m. one (is_of m.event y)) m ms) in
      let here = found_first y ys m.event (is_of m.event y) in
      let rest = split y ys ms in
      omega arith

  none_found : (events : List Moment) → sum_by (found_at []) events ≡ 0
  none_found [] = refl
  none_found (m ∷ ms) = let a = sum_by-cons (found_at []) m ms in let rest = none_found ms in omega arith

  within : (entries : List EventEntry) (events : List Moment) → KeepsTimes x events → sum_by (found_at entries) events ≤ sum_by (λ y. times_in_case x.lists y.code y.index * bound x y.routine) entries
  within [] events few = let none = none_found events in omega arith
  within (y ∷ ys) events few =
      let a = sum_by-cons (λ y. times_in_case x.lists y.code y.index * bound x y.routine) y ys in
      let b = split y ys events in
      let c = mul-le-mul_right (bound x y.routine) (few y) in
      let rest = within ys events few in
      omega arith

  pub listed_within : (events : List Moment) → KeepsTimes x events → events_bound x events ≤ case_bound x
  listed_within events few = within x.lists.events events few

-- ---- how often a kind of event comes in a case

abbrev owned : ℕ → Option ItemShape → ℕ
owned r None = 0
owned r (Some item) = one (eqb item.owner r)

module _ (p : Event → Bool) (i : ℕ) (rp rq ip iq : Bool)
    (is_rp : (k : ℕ) → p (event codes.RecordPreproc k) ≡ (rp && eqb i k)) (is_rq : (k : ℕ) → p (event codes.RecordPostproc k) ≡ (rq && eqb i k))
    (is_ip : (k : ℕ) → p (event codes.ItemPreproc k) ≡ (ip && eqb i k)) (is_iq : (k : ℕ) → p (event codes.ItemPostproc k) ≡ (iq && eqb i k)) where
  abbrev count : List Moment → ℕ
  count events = sum_by (λ m. one (p m.event)) events

  head_by : (k o : ℕ) (b : Bool) → count (cond b (moment codes.ItemPreproc k o ∷ moment codes.ItemPostproc k o ∷ []) []) ≡ one b * ((one ip + one iq) * one (eqb i k))
  head_by k o true =
      let a = ap one (is_ip k) ∙ one_and ip (eqb i k) in
      let b = ap one (is_iq k) ∙ one_and iq (eqb i k) in
      omega arith
  head_by k o false = omega arith

  item_more : (r o k : ℕ) (item : ItemShape) (items : List ItemShape) → count (item_events r o k (item ∷ items)) ≡ one (eqb item.owner r) * ((one ip + one iq) * one (eqb i k)) + count (item_events r o (suc k) items)
  item_more r o k item items =
      sum_by-append (λ m. one (p m.event)) (cond (eqb item.owner r) (moment codes.ItemPreproc k o ∷ moment codes.ItemPostproc k o ∷ []) []) (item_events r o (suc k) items)
      ∙ ap (λ n. n + count (item_events r o (suc k) items)) (head_by k o (eqb item.owner r))

  items_none : (r o k : ℕ) (items : List ItemShape) → i < k → count (item_events r o k items) ≡ 0
  items_none r o k [] lt = refl
  items_none r o k (item ∷ items) lt =
      let more = item_more r o k item items in
      let zero_here = ap (λ b. one (eqb item.owner r) * ((one ip + one iq) * one b)) (ne_eqb i k (λ e. omega arith)) in
      let rest = items_none r o (suc k) items (omega arith) in
      omega arith

  items_at : (r o k j : ℕ) (items : List ItemShape) → i ≡ k + j → count (item_events r o k items) ≤ (one ip + one iq) * owned r (slice_get items j)
  items_at r o k j [] e = omega arith
  items_at r o k zero (item ∷ items) e =
      let more = item_more r o k item items in
      let here = ap (λ b. one (eqb item.owner r) * ((one ip + one iq) * one b)) (eq-eqb i k (omega arith)) in
      let rest = items_none r o (suc k) items (omega arith) in
      omega arith
  items_at r o k (suc j) (item ∷ items) e =
      let more = item_more r o k item items in
      let zero_here = ap (λ b. one (eqb item.owner r) * ((one ip + one iq) * one b)) (ne_eqb i k (λ w. omega arith)) in
      let rest = items_at r o (suc k) j items (omega arith) in
      omega arith

  occurrences_at : (r o n : ℕ) (items : List ItemShape) → count (occurrence_events r items o n) ≤ n * ((one ip + one iq) * owned r (slice_get items i))
  occurrences_at r o zero items = omega arith
  occurrences_at r o (suc n) items =
      let more = sum_by-append (λ m. one (p m.event)) (item_events r o 0 items) (occurrence_events r items (suc o) n) in
      let here = items_at r o 0 i items (omega arith) in
      let rest = occurrences_at r (suc o) n items in
      omega arith

  record_at : (r n : ℕ) (items : List ItemShape) → count (record_events items r n) ≤ (one rp + one rq) * one (eqb i r) + (one ip + one iq) * (n * owned r (slice_get items i))
  record_at r n items =
      let a = sum_by-append (λ m. one (p m.event)) (moment codes.RecordPreproc r 0 ∷ occurrence_events r items 1 n) (moment codes.RecordPostproc r 0 ∷ []) in
      let b = sum_by-cons (λ m. one (p m.event)) (moment codes.RecordPreproc r 0) (occurrence_events r items 1 n) in
      let first = ap one (is_rp r) ∙ one_and rp (eqb i r) in
      let last = ap one (is_rq r) ∙ one_and rq (eqb i r) in
      let each = occurrences_at r 1 n items in
      omega arith

  records_at : (items : List ItemShape) (occurrences : ℕ → ℕ) (order : List ℕ) → count (records_events items occurrences order)
      ≤ (one rp + one rq) * sum_by (λ r. one (eqb i r)) order + (one ip + one iq) * sum_by (λ r. occurrences r * owned r (slice_get items i)) order
  records_at items occurrences [] = omega arith
  records_at items occurrences (r ∷ rs) =
      let a = sum_by-append (λ m. one (p m.event)) (record_events items r (occurrences r)) (records_events items occurrences rs) in
      let b = ap (λ n. (one rp + one rq) * n) (sum_by-cons (λ r. one (eqb i r)) r rs) in
      let c = ap (λ n. (one ip + one iq) * n) (sum_by-cons (λ r. occurrences r * owned r (slice_get items i)) r rs) in
      let here = record_at r (occurrences r) items in
      let rest = records_at items occurrences rs in
      omega arith

  pub case_at : (x : Image) (occurrences : ℕ → ℕ) → count (case_events x occurrences)
      ≤ one (p (event codes.LevelPreproc 0)) + one (p (event codes.LevelPostproc 0))
      + ((one rp + one rq) * sum_by (λ r. one (eqb i r)) x.lists.order + (one ip + one iq) * sum_by (λ r. occurrences r * owned r (slice_get x.lists.items i)) x.lists.order)
  case_at x occurrences =
      let records = records_events x.lists.items occurrences x.lists.order in
      let a = sum_by-append (λ m. one (p m.event)) (moment codes.LevelPreproc 0 0 ∷ records) (moment codes.LevelPostproc 0 0 ∷ []) in
      let b = sum_by-cons (λ m. one (p m.event)) (moment codes.LevelPreproc 0 0) records in
      let rest = records_at x.lists.items occurrences x.lists.order in
      omega arith

-- ---- by the order, each record's events come once

module _ (n : ℕ) (order : List ℕ) (each : NamesEachOnce n order) where
  named_once : (k : ℕ) → sum_by (λ r. one (eqb k r)) order ≤ 1
  named_once k =
      let a = sum_by_same (λ r. one (eqb k r)) (λ r. one (eqb r k)) (λ r. one_same k r) order in
      let b = each k in
      let c = cond-le-one (ltb k n) in
      omega arith

  owner_times : (occurrences : ℕ → ℕ) (owner r : ℕ) → occurrences r * one (eqb owner r) ≡ occurrences owner * one (eqb owner r)
  owner_times occurrences owner r =
      ⊎_elim
      (λ (e : owner ≡ r). ap (λ k. occurrences k * one (eqb owner r)) (sym e))
      (λ (ne : owner ≡ r → ⊥). let none = ap one (ne_eqb owner r ne) in let a = ap (λ m. occurrences r * m) none in let b = ap (λ m. occurrences owner * m) none in omega arith)
      (cases_eq owner r)

  times_sum : (m owner : ℕ) (rs : List ℕ) → sum_by (λ r. m * one (eqb owner r)) rs ≡ m * sum_by (λ r. one (eqb owner r)) rs
  times_sum m owner [] = omega arith
  times_sum m owner (r ∷ rs) =
      let a = sum_by-cons (λ r. m * one (eqb owner r)) r rs in
      let b = ap (λ k. m * k) (sum_by-cons (λ r. one (eqb owner r)) r rs) in
      let rest = times_sum m owner rs in
      omega arith

  none_owned : (occurrences : ℕ → ℕ) (rs : List ℕ) → sum_by (λ r. occurrences r * owned r None) rs ≡ 0
  none_owned occurrences [] = refl
  none_owned occurrences (r ∷ rs) =
      let a = sum_by-cons (λ r. occurrences r * owned r None) r rs in
      let rest = none_owned occurrences rs in
      omega arith

  owned_most : (x : Image) (occurrences : ℕ → ℕ) → KeepsMost x occurrences → (o : Option ItemShape) → sum_by (λ r. occurrences r * owned r o) order ≤ option_map_or (λ item. most_occurrences x.lists.records item.owner) o 0
  owned_most x occurrences keeps None = let none = none_owned occurrences order in omega arith
  owned_most x occurrences keeps (Some item) =
      let a = sum_by_same (λ r. occurrences r * one (eqb item.owner r)) (λ r. occurrences item.owner * one (eqb item.owner r)) (λ r. owner_times occurrences item.owner r) order in
      let b = times_sum (occurrences item.owner) item.owner order in
      let c = mul-le-mul_left (occurrences item.owner) (named_once item.owner) in
      let d = keeps item.owner in
      omega arith

module _ (x : Image) (n : ℕ) (each : NamesEachOnce n x.lists.order) (occurrences : ℕ → ℕ) (keeps : KeepsMost x occurrences) where
  abbrev p : EventCode → ℕ → ℕ → Event → Bool
  p code i routine e = is_of e (record { code = code; index = i; routine = routine })

  by_code : (code : EventCode) (i routine : ℕ) → sum_by (λ m. one (p code i routine m.event)) (case_events x occurrences) ≤ times_in_case x.lists code i
  by_code codes.ApplicationPreproc i routine =
      let all = case_at (p codes.ApplicationPreproc i routine) i false false false false (λ k. refl) (λ k. refl) (λ k. refl) (λ k. refl) x occurrences in omega arith
  by_code codes.ApplicationPostproc i routine =
      let all = case_at (p codes.ApplicationPostproc i routine) i false false false false (λ k. refl) (λ k. refl) (λ k. refl) (λ k. refl) x occurrences in omega arith
  by_code codes.LevelPreproc i routine =
      let all = case_at (p codes.LevelPreproc i routine) i false false false false (λ k. refl) (λ k. refl) (λ k. refl) (λ k. refl) x occurrences in
      let few = one_small (eqb i 0) in omega arith
  by_code codes.LevelPostproc i routine =
      let all = case_at (p codes.LevelPostproc i routine) i false false false false (λ k. refl) (λ k. refl) (λ k. refl) (λ k. refl) x occurrences in
      let few = one_small (eqb i 0) in omega arith
  by_code codes.RecordPreproc i routine =
      let all = case_at (p codes.RecordPreproc i routine) i true false false false (λ k. refl) (λ k. refl) (λ k. refl) (λ k. refl) x occurrences in
      let once = named_once n x.lists.order each i in omega arith
  by_code codes.RecordPostproc i routine =
      let all = case_at (p codes.RecordPostproc i routine) i false true false false (λ k. refl) (λ k. refl) (λ k. refl) (λ k. refl) x occurrences in
      let once = named_once n x.lists.order each i in omega arith
  by_code codes.ItemPreproc i routine =
      let all = case_at (p codes.ItemPreproc i routine) i false false true false (λ k. refl) (λ k. refl) (λ k. refl) (λ k. refl) x occurrences in
      let most = owned_most n x.lists.order each x occurrences keeps (slice_get x.lists.items i) in omega arith
  by_code codes.ItemPostproc i routine =
      let all = case_at (p codes.ItemPostproc i routine) i false false false true (λ k. refl) (λ k. refl) (λ k. refl) (λ k. refl) x occurrences in
      let most = owned_most n x.lists.order each x occurrences keeps (slice_get x.lists.items i) in omega arith

  pub case_keeps : KeepsTimes x (case_events x occurrences)
  case_keeps entry = by_code entry.code entry.index entry.routine

-- the law
pub case_within : (x : Image) (n : ℕ) → NamesEachOnce n x.lists.order → (occurrences : ℕ → ℕ) → KeepsMost x occurrences → events_bound x (case_events x occurrences) ≤ case_bound x
case_within x n each occurrences keeps = listed_within x (case_events x occurrences) (case_keeps x n each occurrences keeps)
