-- Where there is no fault, records, items and sets keep to their limits.
use Rattle.std.proofs.Common.{◌≡◌, ◌≤◌, ◌<◌, ◌+◌, ℕ, Bool, true, false, List, [], ◌∷◌, length, refl, arith, Option, length-append}
use Rattle.std.specs.Prelude.{nat_le, if◌then◌else◌}
use Rattle.std.specs.Str.{is_utf8}
use Rattle.std.proofs.lemmas.Bool.{leb-false}
use Rattle.cse_sections.specs.Sections.{SectionText, sections_of}
use Rattle.cse_dict.specs.Keys.{kind_of}
use Rattle.cse_dict.specs.Types.{type_len_of}
use Rattle.cse_dict.specs.Context.{context_after, context_by_kind, covered_by}
use Rattle.cse_dict.specs.Faults.{fault_if, faults_at, faults_behind, faults_by_first, faults_by_kind, faults_from, faults_of, item_faults, item_head_faults, item_limit_faults, read_part, record_faults, record_head_faults, rest_faults, seen_after, seen_first, set_faults, set_head_faults}
use Rattle.cse_dict.specs.Reading.{text_faults}
use Rattle.cse_dict.specs.Dictionary.{IsSmall, dictionary_of, item_by_kind, item_in, items_from, record_by_kind, record_in, records_of, set_by_kind, set_in, sets_from}
use Rattle.cse_dict.specs.declared.keys.Kind.{Kind}
use Rattle.cse_dict.specs.declared.keys.Kind.TheVariants.{Dictionary, Level, IdItems, Record, Item, ValueSet, Other}
use Rattle.cse_dict.specs.declared.field.Columns.{Columns}
use Rattle.cse_dict.specs.declared.seen.Seen.{Seen}
use Rattle.cse_dict.proofs.ReadLaws.{append_none, no_fault}

-- a count below its limit
below_limit : (limit n line number : ℕ) → fault_if (nat_le limit n) line number ≡ [] → n < limit
below_limit limit n line number h = leb-false limit n (no_fault (nat_le limit n) line number h)

-- a count and what is behind a section
abbrev Keeps : ℕ → ℕ → ℕ → ℕ → Type 0
Keeps limit before more after = (after ≤ limit) × (before + more ≤ after)

module _ (covered : List Columns) (len : Option ℕ) (seen : Seen) (s : SectionText) where
  pub record_below : record_faults len seen s ≡ [] → seen.context.records < 200
  unfolding record_faults record_head_faults
  record_below h = below_limit 200 _ _ _ ((append_none _ _ ((append_none _ _ ((append_none _ _ ((append_none _ _ h).0)).0)).0)).0)

  item_below : item_faults covered seen s ≡ [] → seen.context.items < 10000
  unfolding item_faults item_head_faults item_limit_faults
  item_below h = below_limit 10000 _ _ _ ((append_none _ _ ((append_none _ _ ((append_none _ _ ((append_none _ _ ((append_none _ _ h).0)).0)).0)).0)).0)

  set_below : set_faults seen s ≡ [] → seen.context.sets < 10000
  unfolding set_faults set_head_faults
  set_below h = below_limit 10000 _ _ _ ((append_none _ _ ((append_none _ _ ((append_none _ _ h).0)).0)).1)

  records_step : (k : Kind) (len' : Option ℕ) → faults_by_kind k covered len seen s ≡ [] → seen.context.records ≤ 200
      → Keeps 200 seen.context.records (length (record_by_kind k len' s)) (context_by_kind k seen.context s).records
  records_step Record len' h small = let below = record_below h in (omega arith, omega arith)
  records_step Dictionary len' h small = (small, omega arith)
  records_step Level len' h small = (small, omega arith)
  records_step IdItems len' h small = (small, omega arith)
  records_step Item len' h small = (small, omega arith)
  records_step ValueSet len' h small = (small, omega arith)
  records_step Other len' h small = (small, omega arith)

  items_step : (k : Kind) → faults_by_kind k covered len seen s ≡ [] → seen.context.items ≤ 10000
      → Keeps 10000 seen.context.items (length (item_by_kind k covered seen.context s)) (context_by_kind k seen.context s).items
  items_step Item h small = let below = item_below h in (omega arith, omega arith)
  items_step Record h small = (small, omega arith)
  items_step Dictionary h small = (small, omega arith)
  items_step Level h small = (small, omega arith)
  items_step IdItems h small = (small, omega arith)
  items_step ValueSet h small = (small, omega arith)
  items_step Other h small = (small, omega arith)

  sets_step : (k : Kind) → faults_by_kind k covered len seen s ≡ [] → seen.context.sets ≤ 10000
      → Keeps 10000 seen.context.sets (length (set_by_kind k seen.context s)) (context_by_kind k seen.context s).sets
  sets_step ValueSet h small = let below = set_below h in (omega arith, omega arith)
  sets_step Item h small = (small, omega arith)
  sets_step Record h small = (small, omega arith)
  sets_step Dictionary h small = (small, omega arith)
  sets_step Level h small = (small, omega arith)
  sets_step IdItems h small = (small, omega arith)
  sets_step Other h small = (small, omega arith)

  records_at : (len' : Option ℕ) → faults_at covered len seen s ≡ [] → seen.context.records ≤ 200
      → Keeps 200 seen.context.records (length (record_in len' s)) (seen_after len seen s).context.records
  unfolding faults_at record_in seen_after context_after
  records_at len' h small = records_step (kind_of s.heading) len' h small

  items_at : faults_at covered len seen s ≡ [] → seen.context.items ≤ 10000
      → Keeps 10000 seen.context.items (length (item_in covered seen.context s)) (seen_after len seen s).context.items
  unfolding faults_at item_in seen_after context_after
  items_at h small = items_step (kind_of s.heading) h small

  sets_at : faults_at covered len seen s ≡ [] → seen.context.sets ≤ 10000
      → Keeps 10000 seen.context.sets (length (set_in seen.context s)) (seen_after len seen s).context.sets
  unfolding faults_at set_in seen_after context_after
  sets_at h small = sets_step (kind_of s.heading) h small

  context_along : (seen_after len seen s).context ≡ context_after seen.context s
  unfolding seen_after
  context_along = refl

module _ (covered : List Columns) (len : Option ℕ) where
  records_small : (ss : List SectionText) (len' : Option ℕ) (seen : Seen) → faults_from covered len seen ss ≡ [] → seen.context.records ≤ 200
      → seen.context.records + length (records_of len' ss) ≤ 200
  records_small [] len' seen h small = omega arith
  records_small (s ∷ ss) len' seen h small =
      let parts = append_none (faults_at covered len seen s) (faults_from covered len (seen_after len seen s) ss) h in
      let here = records_at covered len seen s len' parts.0 small in
      let rest = records_small ss len' (seen_after len seen s) parts.1 here.0 in
      omega (arith, here.1, rest, length-append (record_in len' s) (records_of len' ss))

  items_small : (ss : List SectionText) (seen : Seen) → faults_from covered len seen ss ≡ [] → seen.context.items ≤ 10000
      → seen.context.items + length (items_from covered seen.context ss) ≤ 10000
  items_small [] seen h small = omega arith
  items_small (s ∷ ss) seen h small =
      let parts = append_none (faults_at covered len seen s) (faults_from covered len (seen_after len seen s) ss) h in
      let here = items_at covered len seen s parts.0 small in
      let behind = items_small ss (seen_after len seen s) parts.1 here.0 in
      let rest = rw (context_along covered len seen s) at behind in
      let last = rw (context_along covered len seen s) at here.1 in
      omega (arith, last, rest, length-append (item_in covered seen.context s) (items_from covered (context_after seen.context s) ss))

  sets_small : (ss : List SectionText) (seen : Seen) → faults_from covered len seen ss ≡ [] → seen.context.sets ≤ 10000
      → seen.context.sets + length (sets_from seen.context ss) ≤ 10000
  sets_small [] seen h small = omega arith
  sets_small (s ∷ ss) seen h small =
      let parts = append_none (faults_at covered len seen s) (faults_from covered len (seen_after len seen s) ss) h in
      let here = sets_at covered len seen s parts.0 small in
      let behind = sets_small ss (seen_after len seen s) parts.1 here.0 in
      let rest = rw (context_along covered len seen s) at behind in
      let last = rw (context_along covered len seen s) at here.1 in
      omega (arith, last, rest, length-append (set_in seen.context s) (sets_from (context_after seen.context s) ss))

pub rest_none : (first : SectionText) (rest : List SectionText) → faults_behind first rest ≡ [] → rest_faults first (read_part rest) ≡ []
unfolding faults_behind
rest_none first rest h = (append_none _ _ ((append_none _ _ ((append_none _ _ h).1)).0)).1

first_small : (k : Kind) (first : SectionText) (rest : List SectionText) → faults_by_first k first rest ≡ [] → IsSmall (dictionary_of (first ∷ rest))
unfolding dictionary_of rest_faults
first_small Dictionary first rest h =
    let none = rest_none first rest h in
    let covered = covered_by first (read_part rest) in
    let len = type_len_of first in record {
      records = omega (arith, records_small covered len (read_part rest) len (seen_first first) none (omega arith));
      items = omega (arith, items_small covered len (read_part rest) (seen_first first) none (omega arith));
      sets = omega (arith, sets_small covered len (read_part rest) (seen_first first) none (omega arith));
    }
first_small Level first rest h = cc
first_small IdItems first rest h = cc
first_small Record first rest h = cc
first_small Item first rest h = cc
first_small ValueSet first rest h = cc
first_small Other first rest h = cc

pub IsSmall-sections : (sections : List SectionText) → faults_of sections ≡ [] → IsSmall (dictionary_of sections)
unfolding faults_of dictionary_of
IsSmall-sections [] h = cc
IsSmall-sections (first ∷ rest) h = first_small (kind_of first.heading) first rest h

-- without sections there is a fault
pub faults_of-none : (sections : List SectionText) → faults_of sections ≡ [] → length sections < 1 → ⊥
unfolding faults_of
faults_of-none [] h short = cc
faults_of-none (s ∷ ss) h short = absurd (omega (arith, short))

-- the sections of a text without a fault have none
pub sections_sound : (bytes : List ℕ) → text_faults bytes ≡ [] → faults_of (sections_of bytes) ≡ []
unfolding text_faults
sections_sound bytes h = by (is_utf8 bytes) h
  where
    by : (v : Bool) → (if v then faults_of (sections_of bytes) else record { number = 10; line = 0 } ∷ []) ≡ [] → faults_of (sections_of bytes) ≡ []
    by true h = h
    by false h = cc
