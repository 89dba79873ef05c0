-- The events of a source ascend.
use Rattle.std.proofs.Common.{◌≡◌, ◌≤◌, ◌<◌, ◌^◌, ◌⊎◌, inl, inr, ℕ, zero, suc, ◌+◌, ◌*◌, true, ◌||◌, ◌&&◌, List, [], ◌∷◌, ◌++◌, length, Option, Some, None, refl, sym, ap, subst, ◌∙◌, arith, length-append}
use Rattle.std.specs.Prelude.{nat_lt, ◌==◌}
use Rattle.std.specs.List.{AllByRecursion, flat_map, range_with_len}
use Rattle.std.proofs.lemmas.Bool.{lt-ltb, eq-eqb, or_right}
use Rattle.cse_image_parts.specs.declared.entries.EventCode.{EventCode}
use Rattle.cse_image_parts.specs.declared.entries.EventCode.TheVariants as codes
use Rattle.cse_image_parts.specs.declared.entries.EventEntry.{EventEntry}
use Rattle.cse_image_parts.specs.Codes.{event_code}
use Rattle.cse_image_parts.specs.Fields.{last_event, is_after}
use Rattle.cse_image_parts.proofs.EventLaws.{last_is}
use Rattle.cse_image_parts.specs.Reader.{AllAfter}
use Rattle.cse_image.specs.Spelling.{EventFits}
use Rattle.cse_compile.specs.Events.{Table, routine_at, entry_of, entry_at, entries_below, entries_in}

-- ---- entries in order

-- the event's place in the order, after the last one
record Follows (last : Option EventEntry) (e : EventEntry) : Type 0 where
  index : e.index < 2 ^ 16
  after : is_after last e.code e.index ≡ true

abbrev Ascends : Option EventEntry → List EventEntry → Type 0
Ascends last [] = Unit {0}
Ascends last (e ∷ es) = Follows last e × Ascends (Some e) es

abbrev ends : Option EventEntry → List EventEntry → Option EventEntry
ends last [] = last
ends last (e ∷ es) = ends (Some e) es

both_ascend : (last : Option EventEntry) (xs ys : List EventEntry) → Ascends last xs → Ascends (ends last xs) ys → Ascends last (xs ++ ys)
both_ascend last [] ys f g = g
both_ascend last (x ∷ xs) ys f g = (f.0, both_ascend (Some x) xs ys f.1 g)

ends_both : (last : Option EventEntry) (xs ys : List EventEntry) → ends last (xs ++ ys) ≡ ends (ends last xs) ys
ends_both last [] ys = refl
ends_both last (x ∷ xs) ys = ends_both (Some x) xs ys

-- the last event comes before each of this code from an index on
abbrev IsPast : Option EventEntry → EventCode → ℕ → Type 0
IsPast None code index = Unit {0}
IsPast (Some e) code index = (event_code e.code < event_code code) ⊎ ((event_code e.code ≡ event_code code) × (e.index < index))

comes_after : (last : Option EventEntry) (code : EventCode) (index : ℕ) → IsPast last code index → is_after last code index ≡ true
comes_after None code index h = refl
comes_after (Some e) code index (inl lt) = ap (λ b. b || ((event_code e.code == event_code code) && nat_lt e.index index)) (lt-ltb (event_code e.code) (event_code code) lt)
comes_after (Some e) code index (inr h) =
    or_right (nat_lt (event_code e.code) (event_code code)) _
    (ap (λ b. b && nat_lt e.index index) (eq-eqb (event_code e.code) (event_code code) h.0) ∙ lt-ltb e.index index h.1)

past_more : (last : Option EventEntry) (code : EventCode) (m n : ℕ) → m ≤ n → IsPast last code m → IsPast last code n
past_more None code m n le h = tt
past_more (Some e) code m n le (inl lt) = inl lt
past_more (Some e) code m n le (inr h) = let lt = h.1 in inr (h.0, omega (arith, lt, le))

past_next : (last : Option EventEntry) (a b : EventCode) (n : ℕ) → event_code a < event_code b → IsPast last a n → IsPast last b 0
past_next None a b n lt h = tt
past_next (Some e) a b n lt (inl k) = inl (omega (arith, lt, k))
past_next (Some e) a b n lt (inr h) = let same = h.0 in inl (omega (arith, lt, same))

-- these ascend behind the last one, and end before the index
record IsPart (last : Option EventEntry) (xs : List EventEntry) (code : EventCode) (index : ℕ) : Type 0 where
  ascends : Ascends last xs
  past : IsPast (ends last xs) code index

module _ (table : Table) where
  one_part : (last : Option EventEntry) (code : EventCode) (k : ℕ) → k < 2 ^ 16 → IsPast last code k → IsPart last (entry_at table code k) code (k + 1)
  one_part last code k small past = by (routine_at table code k)
    where
      by : (o : Option ℕ) → IsPart last (entry_of code k o) code (k + 1)
      by None = record { ascends = tt; past = past_more last code k (k + 1) (omega arith) past }
      by (Some r) = record { ascends = (record { index = small; after = comes_after last code k past }, tt); past = inr (refl, omega arith) }

  two_parts : (last : Option EventEntry) (xs ys : List EventEntry) (a b : EventCode) (m n : ℕ) → IsPart last xs a m → IsPart (ends last xs) ys b n → IsPart last (xs ++ ys) b n
  two_parts last xs ys a b m n f g = record { ascends = both_ascend last xs ys f.ascends g.ascends; past = subst (λ o. IsPast o b n) (sym (ends_both last xs ys)) g.past }

  code_part : (last : Option EventEntry) (code : EventCode) (from n : ℕ) → from + n ≤ 2 ^ 16 → IsPast last code from → IsPart last (flat_map (entry_at table code) (range_with_len from n)) code (from + n)
  code_part last code from zero le past = record { ascends = tt; past = past_more last code from (from + 0) (omega arith) past }
  code_part last code from (suc n) le past =
      let a = one_part last code from (omega (arith, le)) past in
      let b = code_part (ends last (entry_at table code from)) code (from + 1) n (omega (arith, le)) a.past in
      let e : from + 1 + n ≡ from + suc n = omega arith in
      subst (λ k. IsPart last (flat_map (entry_at table code) (range_with_len from (suc n))) code k) e (two_parts last (entry_at table code from) (flat_map (entry_at table code) (range_with_len (from + 1) n)) code code (from + 1) (from + 1 + n) a b)

  -- with those of the next code behind them
  next_part : (xs : List EventEntry) (a b : EventCode) (m n : ℕ) → event_code a < event_code b → n ≤ 2 ^ 16 → IsPart None xs a m → IsPart None (xs ++ entries_below table b n) b n
  next_part xs a b m n lt le h =
      let k : 0 + n ≡ n = omega arith in
      subst (λ i. IsPart None (xs ++ entries_below table b n) b i) k
      (two_parts None xs (entries_below table b n) a b m (0 + n) h (code_part (ends None xs) b 0 n (omega (arith, le)) (past_next (ends None xs) a b m lt h.past)))

  all_parts : (records items : ℕ) → records ≤ 2 ^ 16 → items ≤ 2 ^ 16 → IsPart None (entries_in table records items) codes.ItemPostproc items
  unfolding entries_in
  all_parts records items r i =
      let a = code_part None codes.ApplicationPreproc 0 1 (omega arith) tt in
      let b = next_part _ codes.ApplicationPreproc codes.ApplicationPostproc (0 + 1) 1 (omega arith) (omega arith) a in
      let c = next_part _ codes.ApplicationPostproc codes.LevelPreproc 1 1 (omega arith) (omega arith) b in
      let d = next_part _ codes.LevelPreproc codes.LevelPostproc 1 1 (omega arith) (omega arith) c in
      let e = next_part _ codes.LevelPostproc codes.RecordPreproc 1 records (omega arith) r d in
      let f = next_part _ codes.RecordPreproc codes.RecordPostproc records records (omega arith) r e in
      let g = next_part _ codes.RecordPostproc codes.ItemPreproc records items (omega arith) i f in
      next_part _ codes.ItemPreproc codes.ItemPostproc items items (omega arith) i g

  -- ---- how many

  one_few : (code : EventCode) (k : ℕ) → length (entry_at table code k) ≤ 1
  one_few code k = by (routine_at table code k)
    where
      by : (o : Option ℕ) → length (entry_of code k o) ≤ 1
      by None = omega arith
      by (Some r) = omega arith

  code_few : (code : EventCode) (from n : ℕ) → length (flat_map (entry_at table code) (range_with_len from n)) ≤ n
  code_few code from zero = omega arith
  code_few code from (suc n) =
      let e = length-append (entry_at table code from) (flat_map (entry_at table code) (range_with_len (from + 1) n)) in
      let a = one_few code from in
      let ih = code_few code (from + 1) n in
      omega (arith, e, a, ih)

  more_few : (xs : List EventEntry) (m n : ℕ) (code : EventCode) → length xs ≤ m → length (xs ++ entries_below table code n) ≤ m + n
  more_few xs m n code le = let e = length-append xs (entries_below table code n) in let a = code_few code 0 n in omega (arith, e, a, le)

  pub events_few : (records items : ℕ) → length (entries_in table records items) ≤ 4 + 2 * records + 2 * items
  unfolding entries_in
  events_few records items =
      let a = code_few codes.ApplicationPreproc 0 1 in
      let b = more_few _ 1 1 codes.ApplicationPostproc a in
      let c = more_few _ (1 + 1) 1 codes.LevelPreproc b in
      let d = more_few _ (1 + 1 + 1) 1 codes.LevelPostproc c in
      let e = more_few _ (1 + 1 + 1 + 1) records codes.RecordPreproc d in
      let f = more_few _ (1 + 1 + 1 + 1 + records) records codes.RecordPostproc e in
      let g = more_few _ (1 + 1 + 1 + 1 + records + records) items codes.ItemPreproc f in
      let h = more_few _ (1 + 1 + 1 + 1 + records + records + items) items codes.ItemPostproc g in
      omega (arith, h)

-- ---- as a section has them

section : (before es : List EventEntry) (last : Option EventEntry) → last_event before ≡ last → Ascends last es → AllByRecursion (λ (e : EventEntry). e.routine < 2 ^ 32) es → AllAfter (λ before. EventFits (last_event before)) before es
section before [] last is h k = tt
section before (e ∷ es) last is h k =
    (record { index = h.0.index; after = ap (λ o. is_after o e.code e.index) is ∙ h.0.after; routine = k.0 }, section (before ++ e ∷ []) es (Some e) (last_is before e) h.1 k.1)

pub events_fit : (table : Table) (records items : ℕ) → records ≤ 2 ^ 16 → items ≤ 2 ^ 16 → AllByRecursion (λ (e : EventEntry). e.routine < 2 ^ 32) (entries_in table records items) → AllAfter (λ before. EventFits (last_event before)) [] (entries_in table records items)
events_fit table records items r i h = section [] (entries_in table records items) None refl (all_parts table records items r i).ascends h
