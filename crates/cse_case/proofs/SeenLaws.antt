-- Laws of seen and unseen lines, and of the table of occurrences.
use Rattle.std.proofs.Common.{◌≡◌, ℕ, zero, suc, ◌+◌, ◌<◌, ◌≤◌, min, Bool, true, false, cond, List, [], ◌∷◌, ◌++◌, length, take, drop, get_or, replicate, Option, None, Some, refl, ap, sym, ◌∙◌, inl, inr, arith, zero-add, add_assoc, add-one, add-zero, take-append-drop, map}
use Rattle.std.specs.Prelude.{slice_set, slice_index, count_by, if◌then◌else◌}
use Rattle.std.proofs.lemmas.List.{get_or-map, length-map, get_or-drop, get_or-take, length-drop, take_min}
use Rattle.std.proofs.Math.Seq.{drop-cons}
use Rattle.cse_case.specs.declared.line.Line.{Line}
use Rattle.std.proofs.lemmas.List.{take_more, get_or-set_same, get_or-set_other, take-append-le, length-take-le, length-take, get_or-replicate, length-replicate}
use Rattle.std.proofs.Math.ListN.{length-set}
use Rattle.std.proofs.lemmas.List.Sums.{sum_by-append, sum_by-cons}
use Rattle.std.proofs.lemmas.Option.{slice_get-get_or, slice_get_past}
use Rattle.std.proofs.lemmas.Bool.{cases_eq, cases_lt, ne_eqb, eq-eqb, lt-ltb, le-ltb}
use Rattle.std.specs.Option.{option_map_or}
use Rattle.cse_value.specs.declared.shape.RecordShape.{RecordShape}
use Rattle.cse_dict.specs.declared.lookup.Unseen.TheVariants.{Extra}
use Rattle.cse_case.specs.declared.seen.OccurrenceSpan.{OccurrenceSpan}
use Rattle.cse_value.specs.Occurrences.{most_occurrences}
use Rattle.cse_case.specs.Seen.{is_of, places_from, occurrence_places, unseen_after, unseen_from, onto_unseen}
use Rattle.cse_case.specs.Table.{AreCounts, AreSpans, IsTable, first_at, type_at, types_in}

-- one line more is counted
pub count_by-more : (p : Option ℕ → Bool) (xs : List (Option ℕ)) (y : Option ℕ) → count_by p (xs ++ y ∷ []) ≡ count_by p xs + cond (p y) 1 0
count_by-more p xs y = sum_by-append (λ x. cond (p x) 1 0) xs (y ∷ []) ∙ ap (λ n. count_by p xs + n) (zero-add (cond (p y) 1 0))

-- a line that isn't the record's isn't counted
pub not_counted : (q : ℕ) (xs : List (Option ℕ)) (y : Option ℕ) → is_of q y ≡ false → count_by (is_of q) (xs ++ y ∷ []) ≡ count_by (is_of q) xs
not_counted q xs y h = count_by-more (is_of q) xs y ∙ rw h (add-zero (count_by (is_of q) xs))

-- a line that is the record's is
pub counted : (q : ℕ) (xs : List (Option ℕ)) (y : Option ℕ) → is_of q y ≡ true → count_by (is_of q) (xs ++ y ∷ []) ≡ count_by (is_of q) xs + 1
counted q xs y h = count_by-more (is_of q) xs y ∙ rw h refl

pub most_at : (records : List RecordShape) (r : ℕ) (d : RecordShape) → r < length records → most_occurrences records r ≡ (get_or records r d).max_records
most_at records r d h = ap (λ (o : Option RecordShape). option_map_or (λ x. x.max_records) o 0) (slice_get-get_or records r d h)

pub most_past : (records : List RecordShape) (r : ℕ) → length records ≤ r → most_occurrences records r ≡ 0
most_past records r h = ap (λ (o : Option RecordShape). option_map_or (λ x. x.max_records) o 0) (slice_get_past records r h)

other : (q r : ℕ) → (q ≡ r → ⊥) → is_of q (Some r) ≡ false
other q r h = ne_eqb r q (λ e. h (sym e))

pub is_of_own : (r : ℕ) → is_of r (Some r) ≡ true
is_of_own r = eq-eqb r r refl

-- an occurrence more
pub AreCounts-seen : (records : List RecordShape) (before : List (Option ℕ)) (counts : List ℕ) (r : ℕ) → AreCounts records before counts → r < length records
    → get_or counts r 0 < most_occurrences records r → AreCounts records (before ++ Some r ∷ []) (slice_set counts r (get_or counts r 0 + 1))
AreCounts-seen records before counts r are there room = record {
  size = length-set counts r (get_or counts r 0 + 1) ∙ are.size;
  each = λ q h. elim (cases_eq q r) [
    | inl e ↦
        let one : count_by (is_of q) (before ++ Some r ∷ []) ≡ count_by (is_of q) before + 1 = counted q before (Some r) (rw e (is_of_own r)) in
        let had : get_or counts r 0 ≡ min (count_by (is_of q) before) (most_occurrences records q) = rw (← e) (are.each q h) in
        let room' : get_or counts r 0 < most_occurrences records q = rw e room in
        let set : get_or (slice_set counts r (get_or counts r 0 + 1)) q 0 ≡ get_or counts r 0 + 1 = rw e (get_or-set_same counts r (get_or counts r 0 + 1) 0 (omega (arith, are.size))) in
        set ∙ (let n : get_or counts r 0 + 1 ≡ min (count_by (is_of q) before + 1) (most_occurrences records q) = omega arith in n ∙ ap (λ k. min k (most_occurrences records q)) (sym one))
    | inr n ↦ get_or-set_other counts r q (get_or counts r 0 + 1) 0 n ∙ (are.each q h ∙ ap (λ k. min k (most_occurrences records q)) (sym (not_counted q before (Some r) (other q r n))))
  ];
}

-- a line that is no occurrence changes no count
pub AreCounts-extra : (records : List RecordShape) (before : List (Option ℕ)) (counts : List ℕ) (r : ℕ) → AreCounts records before counts
    → (r < length records → most_occurrences records r ≤ get_or counts r 0) → AreCounts records (before ++ Some r ∷ []) counts
AreCounts-extra records before counts r are full = record {
  size = are.size;
  each = λ q h. elim (cases_eq q r) [
    | inl e ↦
        let one : count_by (is_of q) (before ++ Some r ∷ []) ≡ count_by (is_of q) before + 1 = counted q before (Some r) (rw e (is_of_own r)) in
        let had : get_or counts q 0 ≡ min (count_by (is_of q) before) (most_occurrences records q) = are.each q h in
        let full' : most_occurrences records q ≤ get_or counts q 0 = rw e (full (rw (← e) h)) in
        (let n : get_or counts q 0 ≡ min (count_by (is_of q) before + 1) (most_occurrences records q) = omega arith in n ∙ ap (λ k. min k (most_occurrences records q)) (sym one))
    | inr n ↦ are.each q h ∙ ap (λ k. min k (most_occurrences records q)) (sym (not_counted q before (Some r) (other q r n)))
  ];
}

-- nor does a line of no record
pub AreCounts-unknown : (records : List RecordShape) (before : List (Option ℕ)) (counts : List ℕ) → AreCounts records before counts → AreCounts records (before ++ None ∷ []) counts
AreCounts-unknown records before counts are = record {
  size = are.size;
  each = λ q h. are.each q h ∙ ap (λ k. min k (most_occurrences records q)) (sym (not_counted q before None refl));
}

-- a line is seen where its record has room
pub seen_if_room : (records : List RecordShape) (before : List (Option ℕ)) (counts : List ℕ) (r : ℕ) → AreCounts records before counts → r < length records
    → get_or counts r 0 < most_occurrences records r → unseen_after records before (Some r) ≡ None
seen_if_room records before counts r are there room =
    let had : get_or counts r 0 ≡ min (count_by (is_of r) before) (most_occurrences records r) = are.each r there in
    let below : count_by (is_of r) before < most_occurrences records r = omega arith in
    rw (lt-ltb (count_by (is_of r) before) (most_occurrences records r) below) refl

pub extra_if_full : (records : List RecordShape) (before : List (Option ℕ)) (counts : List ℕ) (r : ℕ) → AreCounts records before counts
    → (r < length records → most_occurrences records r ≤ get_or counts r 0) → unseen_after records before (Some r) ≡ Some Extra
extra_if_full records before counts r are full =
    let above : most_occurrences records r ≤ count_by (is_of r) before = elim (cases_lt r (length records)) [
      | inl there ↦
          let had : get_or counts r 0 ≡ min (count_by (is_of r) before) (most_occurrences records r) = are.each r there in
          let most = full there in
          omega arith
      | inr past ↦ let none = most_past records r past in omega arith
    ] in
    rw (le-ltb (count_by (is_of r) before) (most_occurrences records r) above) refl

-- none is counted of no lines
pub AreCounts-none : (records : List RecordShape) (n : ℕ) → n ≡ length records → AreCounts records [] (replicate n 0)
AreCounts-none records n e = record {
  size = length-replicate n 0 ∙ e;
  each = λ r h. get_or-replicate n r 0 0 (rw e h) ∙ (let none : 0 ≡ min 0 (most_occurrences records r) = omega arith in none);
}

-- places of lines that follow others
pub places_from-append : (n r : ℕ) (xs ys : List (Option ℕ)) → places_from n r (xs ++ ys) ≡ places_from n r xs ++ places_from (n + length xs) r ys
places_from-append n r [] ys = ap (λ k. places_from k r ys) (sym (add-zero n))
places_from-append n r (x ∷ xs) ys =
    let rest : places_from (n + 1) r (xs ++ ys) ≡ places_from (n + 1) r xs ++ places_from (n + suc (length xs)) r ys =
    places_from-append (n + 1) r xs ys ∙ ap (λ k. places_from (n + 1) r xs ++ places_from k r ys) (omega arith) in
    onto _ _ _ (is_of r x) rest
  where
    onto : (a b c : List ℕ) (t : Bool) → a ≡ b ++ c → cond t (n ∷ a) a ≡ cond t (n ∷ b) b ++ c
    onto a b c true e = ap (λ l. n ∷ l) e
    onto a b c false e = e

pub length-places_from : (n r : ℕ) (xs : List (Option ℕ)) → length (places_from n r xs) ≡ count_by (is_of r) xs
length-places_from n r [] = refl
length-places_from n r (x ∷ xs) = onto (is_of r x) (length-places_from (n + 1) r xs) ∙ sym (sum_by-cons (λ y. cond (is_of r y) 1 0) x xs)
  where
    onto : (t : Bool) → length (places_from (n + 1) r xs) ≡ count_by (is_of r) xs → length (cond t (n ∷ places_from (n + 1) r xs) (places_from (n + 1) r xs)) ≡ cond t 1 0 + count_by (is_of r) xs
    onto true e = omega (arith, e)
    onto false e = e ∙ sym (zero-add (count_by (is_of r) xs))

-- the record of the line at a place
pub type_is : (lines : List Line) (k : ℕ) (d : Line) → k < length lines → get_or (types_in lines) k None ≡ (get_or lines k d).record_number
type_is lines k d h = get_or-map (λ x. x.record_number) lines k d None h

pub take-more : (lines : List Line) (k : ℕ) → k < length lines → take (k + 1) (types_in lines) ≡ take k (types_in lines) ++ type_at lines k ∷ []
take-more lines k h = take_more (types_in lines) k None (rw (length-map lines (λ x. x.record_number)) h)

pub take-types : (lines : List Line) (k : ℕ) (d : Line) → k < length lines → take (k + 1) (types_in lines) ≡ take k (types_in lines) ++ (get_or lines k d).record_number ∷ []
take-types lines k d h =
    take_more (types_in lines) k None (rw (length-map lines (λ x. x.record_number)) h) ∙ ap (λ t. take k (types_in lines) ++ t ∷ []) (type_is lines k d h)

-- the unseen lines from a place on
pub unseen_from-next : (records : List RecordShape) (number : ℕ) (lines : List Line) (k : ℕ) (d : Line) → k < length lines
    → unseen_from records (number + k) (take k (types_in lines)) (drop k (types_in lines))
    ≡ onto_unseen (number + k) (unseen_after records (take k (types_in lines)) (get_or lines k d).record_number)
    (unseen_from records (number + (k + 1)) (take (k + 1) (types_in lines)) (drop (k + 1) (types_in lines)))
unseen_from-next records number lines k d h =
    let types = types_in lines in
    let y = (get_or lines k d).record_number in
    let within : k < length types = rw (length-map lines (λ x. x.record_number)) h in
    let cut : drop k types ≡ y ∷ drop (k + 1) types = drop-cons types k None within ∙ (ap (λ t. t ∷ drop (suc k) types) (type_is lines k d h) ∙ ap (λ n. y ∷ drop n types) (sym (add-one k))) in
    ap (unseen_from records (number + k) (take k types)) cut
    ∙ (ap (λ b. onto_unseen (number + k) (unseen_after records (take k types) y) (unseen_from records (number + k + 1) b (drop (k + 1) types))) (sym (take-types lines k d h))
    ∙ ap (λ n. onto_unseen (number + k) (unseen_after records (take k types) y) (unseen_from records n (take (k + 1) types) (drop (k + 1) types))) (add_assoc number k 1))

-- the places of a record's lines up to a place
pub places_from-next : (r : ℕ) (lines : List Line) (k : ℕ) (d : Line) → k < length lines
    → places_from 0 r (take (k + 1) (types_in lines)) ≡ places_from 0 r (take k (types_in lines)) ++ (if is_of r (get_or lines k d).record_number then k ∷ [] else [])
places_from-next r lines k d h =
    let types = types_in lines in
    let y = (get_or lines k d).record_number in
    let within : k ≤ length types = rw (length-map lines (λ x. x.record_number)) (omega arith) in
    let len : 0 + length (take k types) ≡ k = zero-add (length (take k types)) ∙ length-take-le k types within in
    ap (places_from 0 r) (take-types lines k d h)
    ∙ (places_from-append 0 r (take k types) (y ∷ []) ∙ ap (λ n. places_from 0 r (take k types) ++ places_from n r (y ∷ [])) len)

-- all that are wanted stand among those so far
pub enough : (r count k : ℕ) (types : List (Option ℕ)) → count ≤ length (take count (places_from 0 r (take k types)))
    → take count (places_from 0 r types) ≡ take count (places_from 0 r (take k types))
enough r count k types h =
    let first = places_from 0 r (take k types) in
    let whole : places_from 0 r types ≡ first ++ places_from (0 + length (take k types)) r (drop k types) =
    ap (places_from 0 r) (sym (take-append-drop k types)) ∙ places_from-append 0 r (take k types) (drop k types) in
    let long : count ≤ length first = omega (arith, length-take count first) in
    ap (take count) whole ∙ take-append-le count first (places_from (0 + length (take k types)) r (drop k types)) long

-- what was counted is there
pub counts_there : (records : List RecordShape) (lines : List (Option ℕ)) (counts : List ℕ) → AreCounts records lines counts → (r : ℕ) → r < length counts
    → slice_index counts r ≤ length (places_from 0 r lines)
counts_there records lines counts are r h =
    let had : slice_index counts r ≡ min (count_by (is_of r) lines) (most_occurrences records r) = are.each r (rw (← are.size) h) in
    omega (arith, length-places_from 0 r lines)

-- spans of what was counted are the table
pub IsTable-spans : (records : List RecordShape) (lines : List Line) (counts firsts : List ℕ) (spans : List OccurrenceSpan) → AreCounts records (types_in lines) counts → length spans ≡ length counts
    → AreSpans lines counts firsts spans → IsTable records lines firsts spans
unfolding occurrence_places
IsTable-spans records lines counts firsts spans are size here = record {
  size = size ∙ are.size;
  firsts_are = λ r span h e.
      let found = here r span h e in
      let there : r < length records = omega (arith, size, are.size) in
      let all = places_from 0 r (types_in lines) in
      let count : span.count ≡ min (most_occurrences records r) (length all) = omega (arith, found.1, are.each r there, length-places_from 0 r (types_in lines)) in
      found.0.firsts_are ∙ ap (map (first_at lines)) (ap (λ n. take n all) count ∙ take_min (most_occurrences records r) all);
  fits = λ r span h e. (here r span h e).0.fits;
}

-- how many occurrences a record has
pub count_is : (records : List RecordShape) (lines : List Line) (firsts : List ℕ) (spans : List OccurrenceSpan) (r : ℕ) (span : OccurrenceSpan) → IsTable records lines firsts spans → r < length spans
    → span ≡ get_or spans r span → span.count ≡ length (occurrence_places records r (types_in lines))
count_is records lines firsts spans r span t h e =
    let fits = t.fits r span h e in
    let len : length (take span.count (drop span.start firsts)) ≡ span.count = length-take-le span.count (drop span.start firsts) (omega (arith, length-drop span.start firsts)) in
    sym len ∙ (ap length (t.firsts_are r span h e) ∙ length-map (occurrence_places records r (types_in lines)) (first_at lines))

-- where an occurrence begins
pub first_is : (records : List RecordShape) (lines : List Line) (firsts : List ℕ) (spans : List OccurrenceSpan) (r o : ℕ) (span : OccurrenceSpan) → IsTable records lines firsts spans → r < length spans
    → span ≡ get_or spans r span → o < span.count → get_or firsts (span.start + o) 0 ≡ first_at lines (slice_index (occurrence_places records r (types_in lines)) o)
first_is records lines firsts spans r o span t h e below =
    let places = occurrence_places records r (types_in lines) in
    let within : o < length places = omega (arith, count_is records lines firsts spans r span t h e) in
    sym (get_or-drop span.start firsts o 0) ∙ (sym (get_or-take span.count (drop span.start firsts) o 0 below) ∙ (ap (λ l. get_or l o 0) (t.firsts_are r span h e)
    ∙ get_or-map (first_at lines) places o 0 0 within))

-- each place is one of a line
places_below : (n r k : ℕ) (lines : List (Option ℕ)) → k < length (places_from n r lines) → get_or (places_from n r lines) k 0 < n + length lines
places_below n r k [] h = absurd (omega arith)
places_below n r k (x ∷ xs) h = at (λ j. places_below (n + 1) r j xs) (is_of r x) k h
  where
    at : ((j : ℕ) → j < length (places_from (n + 1) r xs) → get_or (places_from (n + 1) r xs) j 0 < n + 1 + length xs) → (t : Bool) (k : ℕ) → k < length (cond t (n ∷ places_from (n + 1) r xs) (places_from (n + 1) r xs)) → get_or (cond t (n ∷ places_from (n + 1) r xs) (places_from (n + 1) r xs)) k 0 < n + suc (length xs)
    at rest true zero h = omega arith
    at rest true (suc k) h = omega (arith, rest k (omega arith))
    at rest false k h = omega (arith, rest k h)

pub place_below : (records : List RecordShape) (lines : List (Option ℕ)) (r o : ℕ) → o < length (occurrence_places records r lines) → slice_index (occurrence_places records r lines) o < length lines
unfolding occurrence_places
place_below records lines r o h =
    let most = most_occurrences records r in
    let all = places_from 0 r lines in
    let short = length-take most all in
    let low : o < most = omega arith in
    let below : get_or all o 0 < 0 + length lines = places_below 0 r o lines (omega arith) in
    rw (get_or-take most all o 0 low) (omega arith)
