-- Laws of counts whose occurrences are counted record by record.
use Rattle.std.proofs.Common.{◌≡◌, ℕ, zero, suc, ◌+◌, ◌<◌, ◌≤◌, Bool, true, false, List, [], ◌∷◌, length, get_or, replicate, take, refl, ap, sym, ◌∙◌, arith, eq-eqb, ne_eqb, if◌then◌else◌, inl, inr}
use Rattle.std.specs.Prelude.{◌==◌}
use Rattle.std.proofs.lemmas.Bool.{cases_lt, eqb-true, eqb-false}
use Rattle.std.proofs.lemmas.List.{get_or_past, length-replicate}
use Rattle.cse_case.specs.Columns.{LineText}
use Rattle.cse_value.specs.declared.shape.ItemShape.{ItemShape}
use Rattle.cse_value.specs.declared.shape.RecordShape.{RecordShape}
use Rattle.cse_value.specs.Occurrences.{most_occurrences}
use Rattle.cse_case.specs.Field.{item_at}
use Rattle.cse_case.specs.Seen.{occurrence_places, places_from as own_places}
use Rattle.cse_case.proofs.SeenLaws.{most_past}
use Rattle.cse_office.specs.declared.count.Count.{Count}
use Rattle.cse_office.specs.Changes.{AreChanges, AreFew, AreSeen, count_in, counts_so_far, no_count, owner_places, places_from, plus, seen_of, times_of, types_of}
use Rattle.cse_office.proofs.AlikeLaws.{id_places}

-- ---- lines of a record

pub seen_is : (records : List RecordShape) (number most : ℕ) (lines : List LineText) → most ≡ most_occurrences records number → length (take most (own_places 0 number (types_of lines))) ≡ seen_of records number lines
unfolding occurrence_places
seen_is records number most lines is = ap (λ n. length (take n (own_places 0 number (types_of lines)))) is

seen_past : (records : List RecordShape) (number : ℕ) (lines : List LineText) → length records ≤ number → seen_of records number lines ≡ 0
seen_past records number lines past = sym (seen_is records number 0 lines (sym (most_past records number past)))

-- ---- counts so far

pub so_far_len : (seen : List ℕ) (lines : ℕ) (items : List ItemShape) (counts : List Count) → length counts ≡ length items → length (counts_so_far seen lines items counts) ≡ length items
unfolding counts_so_far
so_far_len seen lines [] counts len = refl
so_far_len seen lines (item ∷ items) [] len = absurd (omega (arith, len))
so_far_len seen lines (item ∷ items) (count ∷ counts) len = ap suc (so_far_len seen lines items counts (omega (arith, len)))

pub so_far_at : (seen : List ℕ) (lines : ℕ) (items : List ItemShape) (counts : List Count) (n : ℕ) → length counts ≡ length items → n < length items
    → get_or (counts_so_far seen lines items counts) n no_count ≡ record { occurrences = times_of seen lines (item_at items n).owner; changed = (get_or counts n no_count).changed }
unfolding counts_so_far
so_far_at seen lines [] counts n len low = absurd (omega (arith, low))
so_far_at seen lines (item ∷ items) [] n len low = absurd (omega (arith, len))
so_far_at seen lines (item ∷ items) (count ∷ counts) zero len low = refl
so_far_at seen lines (item ∷ items) (count ∷ counts) (suc n) len low = so_far_at seen lines items counts n (omega (arith, len)) (omega (arith, low))

-- what was put of the items that a dictionary has
pub put_is : (items items' : List ItemShape) (seen seen' : List ℕ) (lines : ℕ) (counts counts' new : List Count) → items' ≡ items → seen' ≡ seen → counts' ≡ counts → (n : ℕ) → n < length items
    → (n < length items' → get_or new n no_count ≡ record { occurrences = times_of seen' lines (item_at items' n).owner; changed = (get_or counts' n no_count).changed })
    → get_or new n no_count ≡ record { occurrences = times_of seen lines (item_at items n).owner; changed = (get_or counts n no_count).changed }
put_is items items' seen seen' lines counts counts' new same_items same_seen same_counts n low said =
    said (omega (arith, low, ap length same_items))
    ∙ (ap (λ l. record { occurrences = times_of seen' lines (item_at l n).owner; changed = (get_or counts' n no_count).changed }) same_items
    ∙ (ap (λ s. record { occurrences = times_of s lines (item_at items n).owner; changed = (get_or counts' n no_count).changed }) same_seen
    ∙ ap (λ l. record { occurrences = times_of seen lines (item_at items n).owner; changed = (get_or l n no_count).changed }) same_counts))

no_number : (n k : ℕ) → ◌≡◌ {A = ℕ} (get_or (replicate n 0) k 0) 0
no_number zero k = refl
no_number (suc n) zero = refl
no_number (suc n) (suc k) = no_number n k

no_times : (n owner : ℕ) → ◌≡◌ {A = ℕ} (times_of (replicate n 0) 0 owner) 0
no_times n owner = by (owner == 255) refl
  where
    by : (t : Bool) → (owner == 255) ≡ t → ◌≡◌ {A = ℕ} (if t then 0 else get_or (replicate n 0) owner 0) 0
    by true e = refl
    by false e = no_number n owner

-- nothing was counted
pub so_far_none : (n : ℕ) (items : List ItemShape) → counts_so_far (replicate n 0) 0 items (replicate (length items) no_count) ≡ replicate (length items) no_count
unfolding counts_so_far
so_far_none n [] = refl
so_far_none n (item ∷ items) =
    ap (λ m. record { occurrences = m; changed = 0 } ∷ counts_so_far (replicate n 0) 0 items (replicate (length items) no_count)) (no_times n item.owner)
    ∙ ap (λ l. no_count ∷ l) (so_far_none n items)

pub none_few : (n m : ℕ) → AreFew (replicate n 0) (replicate m no_count) 0
none_few n m = record { seen_few = λ k. omega (arith, no_number n k); changed_few = λ k. omega (arith, ap (λ (x : Count). x.changed) (none_at m k)) }
  where
    none_at : (m k : ℕ) → get_or (replicate m no_count) k no_count ≡ no_count
    none_at zero k = refl
    none_at (suc m) zero = refl
    none_at (suc m) (suc k) = none_at m k

-- ---- a run more

occurrences_are : (records : List RecordShape) (item : ItemShape) (a b : List LineText) → (count_in records item a b).occurrences ≡ length (owner_places records item.owner (types_of a))
unfolding count_in
occurrences_are records item a b = refl

times_more : (records : List RecordShape) (owner lines : ℕ) (seen seen' : List ℕ) (a : List LineText) → length seen ≡ length records → length seen' ≡ length seen → AreSeen records a seen seen'
    → times_of seen' (lines + length a) owner ≡ times_of seen lines owner + length (owner_places records owner (types_of a))
times_more records owner lines seen seen' a len len' are = by (owner == 255) refl
  where
    here : (owner ≡ 255 → ⊥) → get_or seen' owner 0 ≡ get_or seen owner 0 + seen_of records owner a
    here other = elim (cases_lt owner (length records)) [
      | inl low ↦ are owner low
      | inr past ↦ omega (arith, get_or_past seen' owner 0 (omega (arith, past, len, len')), get_or_past seen owner 0 (omega (arith, past, len)), seen_past records owner a past)
    ]

    by : (t : Bool) → (owner == 255) ≡ t → times_of seen' (lines + length a) owner ≡ times_of seen lines owner + length (owner_places records owner (types_of a))
    by true e =
        let id : owner ≡ 255 = eqb-true owner 255 e in
        ap (λ t. if t then lines + length a else get_or seen' owner 0) e
        ∙ (ap (λ n. lines + n) (sym (id_places records owner a id)) ∙ ap (λ n. n + length (owner_places records owner (types_of a))) (sym (ap (λ t. if t then lines else get_or seen owner 0) e)))
    by false e =
        let other = eqb-false owner 255 e in
        let places : length (owner_places records owner (types_of a)) ≡ seen_of records owner a = ap (λ t. length (if t then places_from 0 (types_of a) else occurrence_places records owner (types_of a))) e in
        let first : times_of seen' (lines + length a) owner ≡ get_or seen' owner 0 = ap (λ t. if t then lines + length a else get_or seen' owner 0) e in
        let second : times_of seen lines owner ≡ get_or seen owner 0 = ap (λ t. if t then lines else get_or seen owner 0) e in
        omega (arith, first, second, places, here other)

-- the counts of two runs more
pub so_far_more : (records : List RecordShape) (items : List ItemShape) (a b : List LineText) (lines : ℕ) (seen seen' : List ℕ) (counts counts' : List Count)
    → length seen ≡ length records → length seen' ≡ length seen → length counts ≡ length items → length counts' ≡ length counts → AreSeen records a seen seen' → AreChanges records items a b counts counts'
    → (n : ℕ) → n < length items → get_or (counts_so_far seen' (lines + length a) items counts') n no_count ≡ plus (get_or (counts_so_far seen lines items counts) n no_count) (count_in records (item_at items n) a b)
so_far_more records items a b lines seen seen' counts counts' len len' size size' seen_are changes n low =
    let item = item_at items n in
    let count = count_in records item a b in
    let times = times_more records item.owner lines seen seen' a len len' seen_are ∙ ap (λ m. times_of seen lines item.owner + m) (sym (occurrences_are records item a b)) in
    so_far_at seen' (lines + length a) items counts' n (size' ∙ size) low
    ∙ (ap (λ m. record { occurrences = m; changed = (get_or counts' n no_count).changed }) times
    ∙ (ap (λ m. record { occurrences = times_of seen lines item.owner + count.occurrences; changed = m }) (changes n low)
    ∙ ap (λ x. plus x count) (sym (so_far_at seen lines items counts n size low))))
