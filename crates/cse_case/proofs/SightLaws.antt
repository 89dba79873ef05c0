-- Laws of seen and unseen lines: where the occurrences of a record stand, and which lines are unseen. Proofs of crates above cite the public ones.
use Rattle.std.proofs.Common.{◌≡◌, ℕ, zero, suc, ◌+◌, ◌-◌, ◌<◌, Bool, true, false, cond, List, [], ◌∷◌, ◌++◌, length, take, drop, get_or, Option, None, Some, refl, ap, sym, ◌∙◌, inl, inr, arith, add-zero, append-nil, append_assoc, take-append-drop, length-append, subst}
use Rattle.std.specs.Prelude.{◌⊎◌, count_by, slice_get}
use Rattle.std.specs.Option.{option_map_or}
use Rattle.std.proofs.lemmas.List.{get_or-map, length-map, get_or-take, length-take, length-take-le}
use Rattle.std.proofs.lemmas.List.Sums.{sum_by-cons}
use Rattle.std.proofs.lemmas.Bool.{cases_lt, eqb-true, false≢true, le-ltb, lt-ltb, ltb-true}
use Rattle.std.proofs.Math.Seq.{drop-cons, get_or-append_seam}
use Rattle.std.proofs.lemmas.Option.{same_Some}
use Rattle.cse_value.specs.declared.shape.RecordShape.{RecordShape}
use Rattle.cse_value.specs.Occurrences.{most_occurrences}
use Rattle.cse_dict.specs.declared.lookup.Unseen.{Unseen}
use Rattle.cse_dict.specs.declared.lookup.Unseen.TheVariants.{Extra}
use Rattle.cse_case.specs.Columns.{LineText, no_line}
use Rattle.cse_case.specs.Run.{line_at}
use Rattle.cse_case.specs.Seen.{is_of, is_case, occurrence_places, onto_unseen, places_from, unseen_after, unseen_from, unseen_of}
use Rattle.cse_case.specs.Case.{CaseText, IsOccurrence, place_of, places_of, records_of, types_of}
use Rattle.cse_case.specs.Sight.{IsSeenAt, IsUnseenAt, SeenOrUnseen}
use Rattle.cse_case.proofs.SeenLaws.{length-places_from, most_past, places_from-append, is_of_own}
use Rattle.cse_case.proofs.CaseLaws.{unseen_from_below}

-- the line of a record's place, the first line standing at place n: so many lines of the record stand before it
pub record StandsAt (places : List ℕ) (n r k : ℕ) (lines : List (Option ℕ)) : Type 0 where
  pub at : ℕ
  pub place : get_or places k 0 ≡ n + at
  pub below : at < length lines
  pub own : is_of r (get_or lines at None) ≡ true
  pub count : count_by (is_of r) (take at lines) ≡ k

count-cons : (r : ℕ) (x : Option ℕ) (xs : List (Option ℕ)) → count_by (is_of r) (x ∷ xs) ≡ cond (is_of r x) 1 0 + count_by (is_of r) xs
count-cons r x xs = sum_by-cons (λ y. cond (is_of r y) 1 0) x xs

pub stands_at : (n r k : ℕ) (lines : List (Option ℕ)) → k < length (places_from n r lines) → StandsAt (places_from n r lines) n r k lines
stands_at n r k [] h = absurd (omega arith)
stands_at n r k (x ∷ xs) h = by_line (λ j. stands_at (n + 1) r j xs) (is_of r x) refl k h
  where
    by_line : ((j : ℕ) → j < length (places_from (n + 1) r xs) → StandsAt (places_from (n + 1) r xs) (n + 1) r j xs) → (t : Bool) → is_of r x ≡ t → (k : ℕ)
        → k < length (cond t (n ∷ places_from (n + 1) r xs) (places_from (n + 1) r xs)) → StandsAt (cond t (n ∷ places_from (n + 1) r xs) (places_from (n + 1) r xs)) n r k (x ∷ xs)
    by_line rest true e zero h = record { at = 0; place = sym (add-zero n); below = omega arith; own = e; count = refl }
    by_line rest true e (suc k) h =
        let a = rest k (omega arith) in
        let one : cond {A = ℕ} (is_of r x) 1 0 ≡ 1 = ap (λ t. cond {A = ℕ} t 1 0) e in
        record {
          at = suc a.at;
          place = omega (arith, a.place);
          below = omega (arith, a.below);
          own = a.own;
          count = omega (arith, count-cons r x (take a.at xs), a.count);
        }
    by_line rest false e k h =
        let a = rest k h in
        let none : cond {A = ℕ} (is_of r x) 1 0 ≡ 0 = ap (λ t. cond {A = ℕ} t 1 0) e in
        record {
          at = suc a.at;
          place = omega (arith, a.place);
          below = omega (arith, a.below);
          own = a.own;
          count = omega (arith, count-cons r x (take a.at xs), a.count);
        }

-- a line of the record has its place, behind those of the lines before it
pub place_there : (r j : ℕ) (lines : List (Option ℕ)) → j < length lines → is_of r (get_or lines j None) ≡ true
    → (count_by (is_of r) (take j lines) < length (places_from 0 r lines)) × (get_or (places_from 0 r lines) (count_by (is_of r) (take j lines)) 0 ≡ j)
place_there r j lines h own =
    let first = places_from 0 r (take j lines) in
    let m = 0 + length (take j lines) in
    let rest = drop (suc j) lines in
    let cut : drop j lines ≡ get_or lines j None ∷ rest = drop-cons lines j None h in
    let whole : places_from 0 r lines ≡ first ++ m ∷ places_from (m + 1) r rest =
    ap (places_from 0 r) (sym (take-append-drop j lines)) ∙ (places_from-append 0 r (take j lines) (drop j lines)
    ∙ (ap (λ l. first ++ places_from m r l) cut ∙ ap (λ t. first ++ cond t (m ∷ places_from (m + 1) r rest) (places_from (m + 1) r rest)) own)) in
    let count : length first ≡ count_by (is_of r) (take j lines) = length-places_from 0 r (take j lines) in
    let size : length (places_from 0 r lines) ≡ length first + suc (length (places_from (m + 1) r rest)) = ap length whole ∙ length-append first (m ∷ places_from (m + 1) r rest) in
    let here : m ≡ j = omega (arith, length-take-le j lines (omega arith)) in (
      omega arith,
      ap (λ k. get_or (places_from 0 r lines) k 0) (sym count) ∙ (ap (λ l. get_or l (length first) 0) whole ∙ (get_or-append_seam first m (places_from (m + 1) r rest) 0 ∙ here)),
    )

-- a line is one of a record by its type alone
pub is_of_is : (r : ℕ) (t : Option ℕ) → is_of r t ≡ true → t ≡ Some r
is_of_is r None e = absurd (false≢true e)
is_of_is r (Some n) e = ap Some (eqb-true n r e)

-- a line that isn't unseen is one of a record that has room for it
seen_of : (records : List RecordShape) (before : List (Option ℕ)) (t : Option ℕ) → unseen_after records before t ≡ None
    → (r : ℕ) × (t ≡ Some r) × (count_by (is_of r) before < most_occurrences records r)
seen_of records before None e = cc
seen_of records before (Some r) e = elim (cases_lt (count_by (is_of r) before) (most_occurrences records r)) [
  | inl low ↦ (r, refl, low)
  | inr high ↦
      let extra : unseen_after records before (Some r) ≡ Some Extra = ap (λ b. cond b None (Some Extra)) (le-ltb (count_by (is_of r) before) (most_occurrences records r) high) in
      cc
]

has_room : (records : List RecordShape) (before : List (Option ℕ)) (r : ℕ) → count_by (is_of r) before < most_occurrences records r → unseen_after records before (Some r) ≡ None
has_room records before r low = ap (λ b. cond b None (Some Extra)) (lt-ltb (count_by (is_of r) before) (most_occurrences records r) low)

-- an unseen line is among the unseen ones
behind : (n k : ℕ) (o : Option Unseen) (rest : List (ℕ × Unseen)) (x : ℕ × Unseen) → slice_get rest k ≡ Some x → (j : ℕ) × (slice_get (onto_unseen n o rest) j ≡ Some x)
behind n k None rest x e = (k, e)
behind n k (Some w) rest x e = (suc k, e)

pub unseen_there : (records : List RecordShape) (n : ℕ) (before lines : List (Option ℕ)) (j : ℕ) (why : Unseen) → j < length lines
    → unseen_after records (before ++ take j lines) (get_or lines j None) ≡ Some why → (k : ℕ) × (slice_get (unseen_from records n before lines) k ≡ Some (n + j, why))
unseen_there records n before [] j why h e = absurd (omega arith)
unseen_there records n before (x ∷ xs) zero why h e =
    let now : unseen_after records before x ≡ Some why = ap (λ b. unseen_after records b x) (sym (append-nil before)) ∙ e in
    (0, ap (λ o. slice_get (onto_unseen n o (unseen_from records (n + 1) (before ++ x ∷ []) xs)) 0) now ∙ ap (λ m. Some (m, why)) (sym (add-zero n)))
unseen_there records n before (x ∷ xs) (suc j) why h e =
    let on : unseen_after records ((before ++ x ∷ []) ++ take j xs) (get_or xs j None) ≡ Some why = ap (λ b. unseen_after records b (get_or xs j None)) (append_assoc before (x ∷ []) (take j xs)) ∙ e in
    let rest = unseen_there records (n + 1) (before ++ x ∷ []) xs j why (omega arith) on in
    let same : n + 1 + j ≡ n + suc j = omega arith in
    behind n (rest.0) (unseen_after records before x) (unseen_from records (n + 1) (before ++ x ∷ []) xs) (n + suc j, why) (rest.1 ∙ ap (λ m. Some (m, why)) same)

-- and what is among them is an unseen line
pub record IsUnseenFrom (records : List RecordShape) (n : ℕ) (before lines : List (Option ℕ)) (number : ℕ) (why : Unseen) : Type 0 where
  pub at : ℕ
  pub number_is : number ≡ n + at
  pub below : at < length lines
  pub is : unseen_after records (before ++ take at lines) (get_or lines at None) ≡ Some why

pub unseen_is : (records : List RecordShape) (n : ℕ) (before lines : List (Option ℕ)) (k number : ℕ) (why : Unseen) → slice_get (unseen_from records n before lines) k ≡ Some (number, why)
    → IsUnseenFrom records n before lines number why
unseen_is records n before [] k number why e = cc
unseen_is records n before (x ∷ xs) k number why e = by_line (λ i. unseen_is records (n + 1) (before ++ x ∷ []) xs i number why) (unseen_after records before x) refl k e
  where
    later : IsUnseenFrom records (n + 1) (before ++ x ∷ []) xs number why → IsUnseenFrom records n before (x ∷ xs) number why
    later u = record {
      at = suc u.at;
      number_is = omega (arith, u.number_is);
      below = omega (arith, u.below);
      is = ap (λ b. unseen_after records b (get_or xs u.at None)) (sym (append_assoc before (x ∷ []) (take u.at xs))) ∙ u.is;
    }

    by_line : ((i : ℕ) → slice_get (unseen_from records (n + 1) (before ++ x ∷ []) xs) i ≡ Some (number, why) → IsUnseenFrom records (n + 1) (before ++ x ∷ []) xs number why)
        → (o : Option Unseen) → unseen_after records before x ≡ o → (k : ℕ) → slice_get (onto_unseen n o (unseen_from records (n + 1) (before ++ x ∷ []) xs)) k ≡ Some (number, why)
        → IsUnseenFrom records n before (x ∷ xs) number why
    by_line rest None f k e = later (rest k e)
    by_line rest (Some w) f zero e =
        let first : n ≡ number = ap (λ (o : Option (ℕ × Unseen)). option_map_or (λ y. y.0) o 0) e in
        let own : w ≡ why = ap (λ (o : Option (ℕ × Unseen)). option_map_or (λ y. y.1) o w) e in
        record {
          at = 0;
          number_is = omega (arith, first);
          below = omega arith;
          is = ap (λ b. unseen_after records b x) (append-nil before) ∙ (f ∙ ap Some own);
        }
    by_line rest (Some w) f (suc k) e = later (rest k e)

-- fewer lines are unseen than there are where one is seen, and only there
some_seen : (records : List RecordShape) (n : ℕ) (before lines : List (Option ℕ)) → length (unseen_from records n before lines) < length lines
    → (j : ℕ) × (j < length lines) × (unseen_after records (before ++ take j lines) (get_or lines j None) ≡ None)
some_seen records n before [] h = absurd (omega arith)
some_seen records n before (x ∷ xs) h = by_line (some_seen records (n + 1) (before ++ x ∷ []) xs) (unseen_after records before x) refl h
  where
    by_line : (length (unseen_from records (n + 1) (before ++ x ∷ []) xs) < length xs
        → (j : ℕ) × (j < length xs) × (unseen_after records ((before ++ x ∷ []) ++ take j xs) (get_or xs j None) ≡ None))
        → (o : Option Unseen) → unseen_after records before x ≡ o → length (onto_unseen n o (unseen_from records (n + 1) (before ++ x ∷ []) xs)) < suc (length xs)
        → (j : ℕ) × (j < length (x ∷ xs)) × (unseen_after records (before ++ take j (x ∷ xs)) (get_or (x ∷ xs) j None) ≡ None)
    by_line rest None f h = (0, omega arith, ap (λ b. unseen_after records b x) (append-nil before) ∙ f)
    by_line rest (Some w) f h =
        let later = rest (omega arith) in
        (suc (later.0), omega (arith, later.1), ap (λ b. unseen_after records b (get_or xs (later.0) None)) (sym (append_assoc before (x ∷ []) (take (later.0) xs))) ∙ later.2)

seen_some : (records : List RecordShape) (n : ℕ) (before lines : List (Option ℕ)) (j : ℕ) → j < length lines → unseen_after records (before ++ take j lines) (get_or lines j None) ≡ None
    → length (unseen_from records n before lines) < length lines
seen_some records n before [] j h e = absurd (omega arith)
seen_some records n before (x ∷ xs) zero h e =
    let now : unseen_after records before x ≡ None = ap (λ b. unseen_after records b x) (sym (append-nil before)) ∙ e in
    let size : length (unseen_from records n before (x ∷ xs)) ≡ length (unseen_from records (n + 1) (before ++ x ∷ []) xs) = ap (λ o. length (onto_unseen n o (unseen_from records (n + 1) (before ++ x ∷ []) xs))) now in
    omega (arith, unseen_from_below records (n + 1) (before ++ x ∷ []) xs)
seen_some records n before (x ∷ xs) (suc j) h e =
    let on : unseen_after records ((before ++ x ∷ []) ++ take j xs) (get_or xs j None) ≡ None = ap (λ b. unseen_after records b (get_or xs j None)) (append_assoc before (x ∷ []) (take j xs)) ∙ e in
    one_more (unseen_after records before x) (seen_some records (n + 1) (before ++ x ∷ []) xs j (omega arith) on)
  where
    one_more : (o : Option Unseen) → length (unseen_from records (n + 1) (before ++ x ∷ []) xs) < length xs → length (onto_unseen n o (unseen_from records (n + 1) (before ++ x ∷ []) xs)) < suc (length xs)
    one_more None low = omega arith
    one_more (Some w) low = omega arith

-- an occurrence's record is there
pub occurrence_there : (c : CaseText) (r o : ℕ) → IsOccurrence c r o → r < length (records_of c)
unfolding places_of occurrence_places
occurrence_there c r o is = elim (cases_lt r (length (records_of c))) [
  | inl low ↦ low
  | inr high ↦ absurd (omega (arith, most_past (records_of c) r high, length-take (most_occurrences (records_of c) r) (places_from 0 r (types_of c.run.lines)), is.0, is.1))
]

-- where an occurrence stands among the lines of its case
pub record HasPlace (c : CaseText) (r o : ℕ) : Type 0 where
  pub below : place_of c r o < length c.run.lines
  pub own : get_or (types_of c.run.lines) (place_of c r o) None ≡ Some r
  pub count : count_by (is_of r) (take (place_of c r o) (types_of c.run.lines)) ≡ o - 1
  pub room : o - 1 < most_occurrences (records_of c) r

pub has_place : (c : CaseText) (r o : ℕ) → IsOccurrence c r o → HasPlace c r o
unfolding places_of place_of occurrence_places
has_place c r o is =
    let types = types_of c.run.lines in
    let most = most_occurrences (records_of c) r in
    let all = places_from 0 r types in
    let short = length-take most all in
    let low : o - 1 < length all = omega (arith, is.0, is.1) in
    let room : o - 1 < most = omega (arith, is.0, is.1) in
    let s = stands_at 0 r (o - 1) types low in
    let at : get_or (take most all) (o - 1) 0 ≡ s.at = get_or-take most all (o - 1) 0 room ∙ (s.place ∙ (let z : 0 + s.at ≡ s.at = omega arith in z)) in
    record {
      below = omega (arith, s.below, at, length-map c.run.lines (λ (l : LineText). l.record_number));
      own = ap (λ p. get_or types p None) at ∙ is_of_is r (get_or types s.at None) s.own;
      count = ap (λ p. count_by (is_of r) (take p types)) at ∙ s.count;
      room = room;
    }

-- a line of a record with room for it is an occurrence
pub seen_at : (c : CaseText) (place r : ℕ) → place < length c.run.lines → get_or (types_of c.run.lines) place None ≡ Some r
    → count_by (is_of r) (take place (types_of c.run.lines)) < most_occurrences (records_of c) r → IsSeenAt c place
unfolding places_of place_of occurrence_places
seen_at c place r h own room =
    let types = types_of c.run.lines in
    let most = most_occurrences (records_of c) r in
    let all = places_from 0 r types in
    let k = count_by (is_of r) (take place types) in
    let found = place_there r place types (omega (arith, length-map c.run.lines (λ (l : LineText). l.record_number))) (ap (is_of r) own ∙ is_of_own r) in
    let low : k < length all = found.0 in
    let back : k + 1 - 1 ≡ k = omega arith in
    record {
      number = r;
      occurrence = k + 1;
      there = (omega arith, omega (arith, length-take most all));
      is = ap (λ j. get_or (take most all) j 0) back ∙ (get_or-take most all k 0 room ∙ found.1);
    }

own-of : (c : CaseText) (place : ℕ) → place < length c.run.lines → get_or (types_of c.run.lines) place None ≡ (line_at c.run place).record_number
own-of c place h = get_or-map (λ (l : LineText). l.record_number) c.run.lines place no_line None h

-- the record of an occurrence's line
pub occurrence_own : (c : CaseText) (r o : ℕ) → IsOccurrence c r o → (line_at c.run (place_of c r o)).record_number ≡ Some r
occurrence_own c r o is = let h = has_place c r o is in sym (own-of c (place_of c r o) h.below) ∙ h.own

-- a line is one occurrence at most
pub occurrence_once : (c : CaseText) (r o r' o' : ℕ) → IsOccurrence c r o → IsOccurrence c r' o' → place_of c r o ≡ place_of c r' o' → (r ≡ r') × (o ≡ o')
occurrence_once c r o r' o' is is' e =
    let types = types_of c.run.lines in
    let h = has_place c r o is in
    let h' = has_place c r' o' is' in
    let same : r ≡ r' = same_Some r r' (sym h.own ∙ (ap (λ p. get_or types p None) e ∙ h'.own)) in
    let count : o - 1 ≡ o' - 1 = sym h.count ∙ (ap (λ p. count_by (is_of r) (take p types)) e ∙ (ap (λ q. count_by (is_of q) (take (place_of c r' o') types)) same ∙ h'.count)) in
    (same, omega (arith, is.0, is'.0))

-- seen and unseen by the count of the lines before
sight : (c : CaseText) (place : ℕ) → place < length c.run.lines → (o : Option Unseen) → unseen_after (records_of c) (take place (types_of c.run.lines)) (get_or (types_of c.run.lines) place None) ≡ o
    → IsSeenAt c place ⊎ IsUnseenAt c place
unfolding unseen_of
sight c place h None e =
    let s = seen_of (records_of c) (take place (types_of c.run.lines)) (get_or (types_of c.run.lines) place None) e in
    inl (seen_at c place (s.0) h (s.1) (s.2))
sight c place h (Some why) e =
    let u = unseen_there (records_of c) c.run.first_line [] (types_of c.run.lines) place why (omega (arith, length-map c.run.lines (λ (l : LineText). l.record_number))) e in
    inr (record { why = why; at = u.0; is = u.1 })

seen_after : (c : CaseText) (place : ℕ) → IsSeenAt c place → unseen_after (records_of c) (take place (types_of c.run.lines)) (get_or (types_of c.run.lines) place None) ≡ None
seen_after c place s =
    let types = types_of c.run.lines in
    let h = has_place c s.number s.occurrence s.there in
    let own : get_or types place None ≡ Some s.number = ap (λ p. get_or types p None) (sym s.is) ∙ h.own in
    let count : count_by (is_of s.number) (take place types) ≡ s.occurrence - 1 = ap (λ p. count_by (is_of s.number) (take p types)) (sym s.is) ∙ h.count in
    ap (unseen_after (records_of c) (take place types)) own ∙ has_room (records_of c) (take place types) s.number (omega (arith, h.room))

-- an unseen line, by its place
unseen_at : (c : CaseText) (place : ℕ) → (u : IsUnseenAt c place)
    → (place < length c.run.lines) × (unseen_after (records_of c) (take place (types_of c.run.lines)) (get_or (types_of c.run.lines) place None) ≡ Some u.why)
unfolding unseen_of
unseen_at c place u =
    let types = types_of c.run.lines in
    let f = unseen_is (records_of c) c.run.first_line [] types u.at (c.run.first_line + place) u.why u.is in
    let here : f.at ≡ place = omega (arith, f.number_is) in (
      omega (arith, f.below, length-map c.run.lines (λ (l : LineText). l.record_number)),
      ap (λ p. unseen_after (records_of c) (take p types) (get_or types p None)) (sym here) ∙ f.is,
    )

case_some : (c : CaseText) → is_case (records_of c) (types_of c.run.lines) ≡ true → (place : ℕ) × IsSeenAt c place
unfolding is_case unseen_of
case_some c e =
    let types = types_of c.run.lines in
    let s = some_seen (records_of c) 1 [] types (ltb-true (length (unseen_from (records_of c) 1 [] types)) (length types) e) in
    let low : s.0 < length c.run.lines = omega (arith, s.1, length-map c.run.lines (λ (l : LineText). l.record_number)) in
    let r = seen_of (records_of c) (take (s.0) types) (get_or types (s.0) None) (s.2) in
    (s.0, seen_at c (s.0) (r.0) low (r.1) (r.2))

some_case : (c : CaseText) (place : ℕ) → IsSeenAt c place → is_case (records_of c) (types_of c.run.lines) ≡ true
unfolding is_case unseen_of
some_case c place s =
    let types = types_of c.run.lines in
    let low : place < length types = omega (arith, (has_place c s.number s.occurrence s.there).below, s.is, length-map c.run.lines (λ (l : LineText). l.record_number)) in
    lt-ltb (length (unseen_from (records_of c) 1 [] types)) (length types) (seen_some (records_of c) 1 [] types place low (seen_after c place s))

pub seen-or-unseen : (c : CaseText) → SeenOrUnseen c
seen-or-unseen c = record {
  each = λ place h. sight c place h (unseen_after (records_of c) (take place (types_of c.run.lines)) (get_or (types_of c.run.lines) place None)) refl;
  apart = λ place s u.
      let seen = seen_after c place s in
      let unseen = (unseen_at c place u).1 in
      cc;
  seen_within = λ place s. subst (λ p. p < length c.run.lines) s.is (has_place c s.number s.occurrence s.there).below;
  unseen_within = λ place u. (unseen_at c place u).0;
  own = λ r o is. occurrence_own c r o is;
  once = λ r o r' o' is is' e. occurrence_once c r o r' o' is is' e;
  some = (case_some c, λ w. some_case c (w.0) (w.1));
}
