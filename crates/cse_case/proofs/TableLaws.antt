-- Laws of the table of occurrences that is filled line by line.
use Rattle.std.proofs.Common.{◌≡◌, ℕ, zero, suc, ◌+◌, ◌<◌, ◌≤◌, min, List, [], ◌∷◌, ◌++◌, length, take, drop, get_or, set, replicate, None, Some, refl, ap, sym, ◌∙◌, inl, inr, arith, map, length-append, subst}
use Rattle.std.specs.Prelude.{count_by, slice_set}
use Rattle.std.proofs.lemmas.Bool.{cases_eq, cases_lt, eq-eqb}
use Rattle.std.proofs.lemmas.List.{get_or-map, length-map, length-drop, take_all, take_more, take-append-le, drop-append-le, get_or-set_same, get_or-set_other, get_or-replicate, length-replicate, map-append, map-set, set-set}
use Rattle.std.proofs.Math.ListN.{length-set}
use Rattle.cse_value.specs.declared.shape.RecordShape.{RecordShape}
use Rattle.cse_value.specs.Occurrences.{most_occurrences}
use Rattle.cse_dict.specs.declared.lookup.Unseen.TheVariants.{Extra}
use Rattle.cse_case.specs.declared.line.Line.{Line}
use Rattle.cse_case.specs.declared.seen.OccurrenceSpan.{OccurrenceSpan}
use Rattle.cse_case.specs.Seen.{is_of, onto_unseen, places_from, unseen_after, unseen_from}
use Rattle.cse_case.specs.Table.{AreCounts, AreSeen, IsSpan, IsTable, first_at, type_at, types_in}
use Rattle.cse_case.specs.Found.{AreFound, IsLonger}
use Rattle.cse_case.proofs.SeenLaws.{AreCounts-extra, AreCounts-none, AreCounts-seen, AreCounts-unknown, IsTable-spans, extra_if_full, seen_if_room, take-more, type_is, unseen_from-next}
use Rattle.cse_case.proofs.SightLaws.{place_there}
use Rattle.cse_case.proofs.FitLaws.{no_place}

abbrev counts_in : List OccurrenceSpan → List ℕ
counts_in spans = map (λ s. s.count) spans

-- the count of a span
pub count_at : (spans : List OccurrenceSpan) (r : ℕ) (span : OccurrenceSpan) → r < length spans → span ≡ get_or spans r span → get_or (map (λ s. s.count) spans) r 0 ≡ span.count
count_at spans r span h e = get_or-map (λ s. s.count) spans r span 0 h ∙ ap (λ (s : OccurrenceSpan). s.count) (sym e)

-- a span that is read twice is one
pub span_same : (spans : List OccurrenceSpan) (r : ℕ) (a b : OccurrenceSpan) → r < length spans → a ≡ get_or spans r a → b ≡ get_or spans r b → a ≡ b
span_same [] r a b h e f = absurd (omega arith)
span_same (s ∷ ss) zero a b h e f = e ∙ sym f
span_same (s ∷ ss) (suc r) a b h e f = span_same ss r a b (omega arith) e f

-- a span holds what it held after another line was added
IsSpan-more : (lines : List Line) (firsts : List ℕ) (r first : ℕ) (span : OccurrenceSpan) → IsSpan lines firsts r span → IsSpan lines (firsts ++ first ∷ []) r span
IsSpan-more lines firsts r first span is =
    let rest = drop span.start firsts in
    let cut : drop span.start (firsts ++ first ∷ []) ≡ rest ++ first ∷ [] = drop-append-le span.start firsts (first ∷ []) (omega (arith, is.fits)) in
    record {
      firsts_are = ap (take span.count) cut ∙ (take-append-le span.count rest (first ∷ []) (omega (arith, is.fits, length-drop span.start firsts)) ∙ is.firsts_are);
      fits = omega (arith, is.fits, length-append firsts (first ∷ []));
    }

-- what a span at the end of the list holds
held : (lines : List Line) (firsts : List ℕ) (r : ℕ) (span longer : OccurrenceSpan) → IsSpan lines firsts r span → longer.start + span.count ≡ length firsts → (0 < span.count → longer.start ≡ span.start)
    → drop longer.start firsts ≡ map (first_at lines) (take span.count (places_from 0 r (types_in lines)))
held lines firsts r span longer is end same =
    let len : length (drop longer.start firsts) ≡ span.count = omega (arith, length-drop longer.start firsts) in
    let all : take span.count (drop longer.start firsts) ≡ drop longer.start firsts = take_all span.count (drop longer.start firsts) (omega arith) in
    elim (cases_lt 0 span.count) [
      | inl some ↦ sym all ∙ (ap (λ n. take span.count (drop n firsts)) (same some) ∙ is.firsts_are)
      | inr none ↦
          let zero_is : span.count ≡ 0 = omega arith in
          sym all ∙ (ap (λ n. take n (drop longer.start firsts)) zero_is ∙ ap (λ n. map (first_at lines) (take n (places_from 0 r (types_in lines)))) (sym zero_is))
    ]

-- where the line at a place begins
pub first_here : (lines : List Line) (place : ℕ) (d : Line) → place < length lines → first_at lines place ≡ (get_or lines place d).first
first_here lines place d h = get_or-map (λ l. l.first) lines place d 0 h

-- and what the longer span holds
longer_holds : (lines : List Line) (firsts new : List ℕ) (r place : ℕ) (span longer : OccurrenceSpan) → place < length lines → type_at lines place ≡ Some r
    → span.count ≡ count_by (is_of r) (take place (types_in lines)) → IsSpan lines firsts r span → IsLonger span (first_at lines place) firsts new longer → IsSpan lines new r longer
longer_holds lines firsts new r place span longer h own count is more =
    let types = types_in lines in
    let all = places_from 0 r types in
    let first = first_at lines place in
    let within : place < length types = omega (arith, length-map lines (λ l. l.record_number)) in
    let there = place_there r place types within (ap (is_of r) own ∙ eq-eqb r r refl) in
    let low : span.count < length all = omega (arith, there.0) in
    let at : get_or all span.count 0 ≡ place = ap (λ k. get_or all k 0) count ∙ there.1 in
    let had = held lines firsts r span longer is more.start more.same in
    let cut : drop longer.start new ≡ drop longer.start firsts ++ first ∷ [] = ap (drop longer.start) more.items ∙ drop-append-le longer.start firsts (first ∷ []) (omega (arith, more.start)) in
    let len : length (drop longer.start new) ≡ span.count + 1 = ap length cut ∙ omega (arith, length-append (drop longer.start firsts) (first ∷ []), length-drop longer.start firsts, more.start) in
    let next : take longer.count all ≡ take span.count all ++ place ∷ [] = ap (λ n. take n all) more.count ∙ (take_more all span.count 0 low ∙ ap (λ p. take span.count all ++ p ∷ []) at) in
    record {
      firsts_are =
          take_all longer.count (drop longer.start new) (omega (arith, more.count)) ∙ (cut ∙ (ap (λ l. l ++ first ∷ []) had
          ∙ (sym (map-append (first_at lines) (take span.count all) (place ∷ [])) ∙ ap (map (first_at lines)) (sym next))));
      fits = omega (arith, more.count, more.start, ap length more.items, length-append firsts (first ∷ []));
    }

-- a line that is an occurrence, and is added
pub AreSeen-occurrence : (records : List RecordShape) (lines : List Line) (place : ℕ) (firsts new : List ℕ) (spans : List OccurrenceSpan) (r : ℕ) (span longer : OccurrenceSpan) → place < length lines
    → AreSeen records lines place firsts spans → type_at lines place ≡ Some r → r < length records → r < length spans → span ≡ get_or spans r span → span.count < most_occurrences records r
    → IsLonger span (first_at lines place) firsts new longer → AreSeen records lines (place + 1) new (set spans r longer)
AreSeen-occurrence records lines place firsts new spans r span longer h are own there low e room more =
    let before = take place (types_in lines) in
    let count : get_or (counts_in spans) r 0 ≡ span.count = count_at spans r span low e in
    let each : get_or (counts_in spans) r 0 ≡ min (count_by (is_of r) before) (most_occurrences records r) = are.counts.each r there in
    let seen = AreCounts-seen records before (counts_in spans) r are.counts there (omega arith) in
    let counts : map (λ s. s.count) (set spans r longer) ≡ slice_set (counts_in spans) r (get_or (counts_in spans) r 0 + 1) =
    map-set (λ s. s.count) spans r longer ∙ ap (slice_set (counts_in spans) r) (more.count ∙ ap (λ n. n + 1) (sym count)) in
    let types : take (place + 1) (types_in lines) ≡ before ++ Some r ∷ [] = take-more lines place h ∙ ap (λ t. before ++ t ∷ []) own in
    record {
      counts = subst (λ ts. AreCounts records ts (map (λ s. s.count) (set spans r longer))) (sym types) (subst (λ cs. AreCounts records (before ++ Some r ∷ []) cs) (sym counts) seen);
      spans_are = λ q other within is. elim (cases_eq q r) [
        | inl same ↦
            let longer_is : other ≡ longer = is ∙ (ap (λ k. get_or (set spans r longer) k other) same ∙ get_or-set_same spans r longer other low) in
            subst (λ k. IsSpan lines new k other) (sym same) (subst (λ (s : OccurrenceSpan). IsSpan lines new r s) (sym longer_is)
            (longer_holds lines firsts new r place span longer h own (omega arith) (are.spans_are r span low e) more))
        | inr differs ↦
            let within' : q < length spans = omega (arith, length-set spans r longer) in
            let other_is : other ≡ get_or spans q other = is ∙ get_or-set_other spans r q longer other differs in
            subst (λ fs. IsSpan lines fs q other) (sym more.items) (IsSpan-more lines firsts q (first_at lines place) other (are.spans_are q other within' other_is))
      ];
    }

-- a line of no record
pub AreSeen-unknown : (records : List RecordShape) (lines : List Line) (place : ℕ) (firsts : List ℕ) (spans : List OccurrenceSpan) → place < length lines → AreSeen records lines place firsts spans
    → type_at lines place ≡ None → AreSeen records lines (place + 1) firsts spans
AreSeen-unknown records lines place firsts spans h are own =
    let types : take (place + 1) (types_in lines) ≡ take place (types_in lines) ++ None ∷ [] = take-more lines place h ∙ ap (λ t. take place (types_in lines) ++ t ∷ []) own in
    record {
      counts = subst (λ ts. AreCounts records ts (map (λ s. s.count) spans)) (sym types) (AreCounts-unknown records (take place (types_in lines)) (map (λ s. s.count) spans) are.counts);
      spans_are = are.spans_are;
    }

-- a line past the most of its record
pub AreSeen-extra : (records : List RecordShape) (lines : List Line) (place : ℕ) (firsts : List ℕ) (spans : List OccurrenceSpan) (r : ℕ) → place < length lines → AreSeen records lines place firsts spans
    → type_at lines place ≡ Some r → (r < length records → most_occurrences records r ≤ get_or (map (λ s. s.count) spans) r 0) → AreSeen records lines (place + 1) firsts spans
AreSeen-extra records lines place firsts spans r h are own full =
    let types : take (place + 1) (types_in lines) ≡ take place (types_in lines) ++ Some r ∷ [] = take-more lines place h ∙ ap (λ t. take place (types_in lines) ++ t ∷ []) own in
    record {
      counts = subst (λ ts. AreCounts records ts (map (λ s. s.count) spans)) (sym types) (AreCounts-extra records (take place (types_in lines)) (map (λ s. s.count) spans) r are.counts full);
      spans_are = are.spans_are;
    }

pub seen_here : (records : List RecordShape) (lines : List Line) (place : ℕ) (firsts : List ℕ) (spans : List OccurrenceSpan) (r : ℕ) (span : OccurrenceSpan) → AreSeen records lines place firsts spans
    → type_at lines place ≡ Some r → r < length records → r < length spans → span ≡ get_or spans r span → span.count < most_occurrences records r
    → unseen_after records (take place (types_in lines)) (type_at lines place) ≡ None
seen_here records lines place firsts spans r span are own there low e room =
    let count : get_or (counts_in spans) r 0 ≡ span.count = count_at spans r span low e in
    ap (unseen_after records (take place (types_in lines))) own ∙ seen_if_room records (take place (types_in lines)) (counts_in spans) r are.counts there (omega arith)

pub extra_here : (records : List RecordShape) (lines : List Line) (place : ℕ) (firsts : List ℕ) (spans : List OccurrenceSpan) (r : ℕ) → AreSeen records lines place firsts spans
    → type_at lines place ≡ Some r → (r < length records → most_occurrences records r ≤ get_or (map (λ s. s.count) spans) r 0)
    → unseen_after records (take place (types_in lines)) (type_at lines place) ≡ Some Extra
extra_here records lines place firsts spans r are own full =
    ap (unseen_after records (take place (types_in lines))) own ∙ extra_if_full records (take place (types_in lines)) (map (λ s. s.count) spans) r are.counts full

-- ---- lines of a record that follow one another

-- no line
pub AreFound-none : (records : List RecordShape) (lines : List Line) (place : ℕ) (firsts : List ℕ) (spans : List OccurrenceSpan) → AreSeen records lines place firsts spans → AreFound records lines place place firsts spans
AreFound-none records lines place firsts spans are = record { far = omega arith; seen = are; none = λ n. refl }

-- an occurrence is no unseen line
passed : (records : List RecordShape) (lines : List Line) (place : ℕ) (n : ℕ) → place < length lines → unseen_after records (take place (types_in lines)) (type_at lines place) ≡ None
    → unseen_from records (n + place) (take place (types_in lines)) (drop place (types_in lines)) ≡ unseen_from records (n + (place + 1)) (take (place + 1) (types_in lines)) (drop (place + 1) (types_in lines))
passed records lines place n h seen =
    let rest = unseen_from records (n + (place + 1)) (take (place + 1) (types_in lines)) (drop (place + 1) (types_in lines)) in
    unseen_from-next records n lines place no_place h
    ∙ ap (λ o. onto_unseen (n + place) o rest) (ap (unseen_after records (take place (types_in lines))) (sym (type_is lines place no_place h)) ∙ seen)

-- an occurrence more
pub AreFound-one : (records : List RecordShape) (lines : List Line) (from place : ℕ) (firsts new : List ℕ) (spans : List OccurrenceSpan) (r : ℕ) (span longer : OccurrenceSpan) → place < length lines
    → AreFound records lines from place firsts spans → type_at lines place ≡ Some r → r < length records → r < length spans → span ≡ get_or spans r span → span.count < most_occurrences records r
    → IsLonger span (first_at lines place) firsts new longer → AreFound records lines from (place + 1) new (set spans r longer)
AreFound-one records lines from place firsts new spans r span longer h found own there low e room more = record {
  far = omega (arith, found.far);
  seen = AreSeen-occurrence records lines place firsts new spans r span longer h found.seen own there low e room more;
  none = λ n. found.none n ∙ passed records lines place n h (seen_here records lines place firsts spans r span found.seen own there low e room);
}

-- the same where the span was put in place before
pub AreFound-further : (records : List RecordShape) (lines : List Line) (from place : ℕ) (firsts new : List ℕ) (spans : List OccurrenceSpan) (r : ℕ) (span longer : OccurrenceSpan) → place < length lines
    → AreFound records lines from place firsts (slice_set spans r span) → type_at lines place ≡ Some r → r < length records → r < length spans → span.count < most_occurrences records r
    → IsLonger span (first_at lines place) firsts new longer → AreFound records lines from (place + 1) new (slice_set spans r longer)
AreFound-further records lines from place firsts new spans r span longer h found own there low room more =
    subst (AreFound records lines from (place + 1) new) (set-set spans r span longer)
    (AreFound-one records lines from place firsts new (set spans r span) r span longer h found own there (omega (arith, length-set spans r span)) (sym (get_or-set_same spans r span span low)) room more)

-- lines that follow others
pub AreFound-then : (records : List RecordShape) (lines : List Line) (from place next : ℕ) (firsts new : List ℕ) (spans later : List OccurrenceSpan) → AreFound records lines from place firsts spans
    → AreFound records lines place next new later → AreFound records lines from next new later
AreFound-then records lines from place next firsts new spans later a b = record { far = omega (arith, a.far, b.far); seen = b.seen; none = λ n. a.none n ∙ b.none n }

-- before the first line
pub AreSeen-none : (records : List RecordShape) (lines : List Line) (n : ℕ) → n ≡ length records → AreSeen records lines 0 [] (replicate n (record { start = 0; count = 0 }))
AreSeen-none records lines n e =
    let none : OccurrenceSpan = record { start = 0; count = 0 } in
    record {
      counts = subst (AreCounts records []) (sym (map-replicate n)) (AreCounts-none records n e);
      spans_are = λ r span h is.
          let empty : span ≡ none = is ∙ get_or-replicate n r none span (omega (arith, length-replicate n none)) in
          subst (λ (s : OccurrenceSpan). IsSpan lines [] r s) (sym empty) (record { firsts_are = refl; fits = omega arith });
    }
  where
    map-replicate : (n : ℕ) → map (λ (s : OccurrenceSpan). s.count) (replicate n (record { start = 0; count = 0 })) ≡ replicate n 0
    map-replicate zero = refl
    map-replicate (suc n) = ap (λ l. 0 ∷ l) (map-replicate n)

-- behind the last line
pub IsTable-seen : (records : List RecordShape) (lines : List Line) (firsts : List ℕ) (spans : List OccurrenceSpan) (n : ℕ) → length lines ≤ n → AreSeen records lines n firsts spans → IsTable records lines firsts spans
IsTable-seen records lines firsts spans n end are =
    let all : take n (types_in lines) ≡ types_in lines = take_all n (types_in lines) (omega (arith, length-map lines (λ l. l.record_number))) in
    IsTable-spans records lines (map (λ s. s.count) spans) firsts spans (subst (λ ts. AreCounts records ts (map (λ s. s.count) spans)) all are.counts) (sym (length-map spans (λ s. s.count)))
    (λ r span h e. (are.spans_are r span h e, sym (count_at spans r span h e)))
