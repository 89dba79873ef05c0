use Rattle.std.proofs.Common.{◌≡◌, ℕ, ◌+◌, ◌<◌, ◌≤◌, List, [], ◌∷◌, ◌++◌, length, map, take, drop, ap, inl, inr, refl, subst, sym, ◌∙◌, arith, length-append, length-drop}
use Rattle.std.specs.Prelude.{slice_index, slice_index_or}
use Rattle.std.proofs.lemmas.Bool.{cases_lt}
use Rattle.std.proofs.lemmas.List.{drop-append-le, drop_at, get_or_append_left, get_or_push, length-map, length-take, take-append-le, take_all}
use Rattle.cse_case.specs.declared.line.Line.{Line}
use Rattle.cse_case.specs.declared.seen.OccurrenceSpan.{OccurrenceSpan}
use Rattle.cse_case.specs.Seen.{places_from}
use Rattle.cse_case.specs.Table.{AreSpans, IsSpan, first_at, types_in}
use Rattle.cse_case.proofs.seen.place_lines.Goals as goal

-- a span holds what it held after others were added
behind : (lines : List Line) (firsts more : List ℕ) (r : ℕ) (span : OccurrenceSpan) → IsSpan lines firsts r span → IsSpan lines (firsts ++ more) r span
behind lines firsts more r span is = record {
  firsts_are =
      ap (take span.count) (drop-append-le span.start firsts more (omega (arith, is.fits)))
      ∙ take-append-le span.count (drop span.start firsts) more (omega (arith, is.fits, length-drop span.start firsts)) ∙ is.firsts_are;
  fits = omega (arith, is.fits, length-append firsts more);
}

-- the span of the next record
last : (lines : List Line) (firsts : List ℕ) (r count : ℕ) (span : OccurrenceSpan) → count ≤ length (places_from 0 r (types_in lines)) → span.start ≡ length firsts → span.count ≡ count
    → IsSpan lines (firsts ++ map (first_at lines) (take count (places_from 0 r (types_in lines)))) r span
last lines firsts r count span enough start many =
    let more = map (first_at lines) (take count (places_from 0 r (types_in lines))) in
    let len : length more ≡ count = length-map (take count (places_from 0 r (types_in lines))) (first_at lines) ∙ (let e : length (take count (places_from 0 r (types_in lines))) ≡ count = omega (arith, length-take count (places_from 0 r (types_in lines))) in e) in
    record {
      firsts_are = ap (take span.count) (drop_at firsts more span.start (sym start)) ∙ take_all span.count more (omega arith) ∙ ap (λ (n : ℕ). map (first_at lines) (take n (places_from 0 r (types_in lines)))) (sym many);
      fits = omega (arith, length-append firsts more);
    }

one_more : (lines : List Line) (counts firsts new : List ℕ) (spans after : List OccurrenceSpan) (r count : ℕ) (span : OccurrenceSpan) → length spans ≡ r → count ≡ slice_index counts r
    → count ≤ length (places_from 0 r (types_in lines)) → span.start ≡ length firsts → span.count ≡ count → AreSpans lines counts firsts spans
    → new ≡ firsts ++ map (first_at lines) (take count (places_from 0 r (types_in lines))) → after ≡ spans ++ span ∷ [] → AreSpans lines counts new after
one_more lines counts firsts new spans after r count span size is enough start many are put pushed =
    let more = map (first_at lines) (take count (places_from 0 r (types_in lines))) in
    let all : AreSpans lines counts (firsts ++ more) (spans ++ span ∷ []) = λ q s within there. elim (cases_lt q (length spans)) [
      | inl low ↦
          let old = are q s low (there ∙ get_or_append_left spans (span ∷ []) s q low) in
          (behind lines firsts more q s old.0, old.1)
      | inr high ↦
          let here : q ≡ r = omega (arith, within, length-append spans (span ∷ [])) in
          let same : s ≡ span = there ∙ get_or_push spans span s q (size ∙ sym here) in (
            subst (λ (k : ℕ). IsSpan lines (firsts ++ more) k s) (sym here) (subst (λ (x : OccurrenceSpan). IsSpan lines (firsts ++ more) r x) (sym same) (last lines firsts r count span enough start many)),
            ap (λ (x : OccurrenceSpan). x.count) same ∙ many ∙ is ∙ ap (slice_index counts) (sym here),
          )
    ] in
    subst (λ (l : List ℕ). AreSpans lines counts l after) (sym put) (subst (λ (l : List OccurrenceSpan). AreSpans lines counts (firsts ++ more) l) (sym pushed) all)

pub records-preserved : goal.records-preserved
records-preserved c =
    let i = c.records.invariant in
    let number = c.records.number in
    let count = slice_index c.args.counts.now number in
    let size : length c.records.spans.items ≡ number = sym c.records.spans.ok.0 ∙ i.size in
    let start : c.len-start.result ≡ length c.records.firsts.items = c.len-start.ensures ∙ c.records.firsts.ok.0 in
    let span : OccurrenceSpan = record { start = c.len-start.result; count = count } in
    record {
      size = omega (arith, c.in_ok-push.ensures.len, i.size);
      spans = one_more c.args.lines.now c.args.counts.now c.records.firsts.items c.place_record.new.firsts.items c.records.spans.items c.push.new.self.items number count span
          size refl (c.requires number c.records-test.true) start refl i.spans c.in_ok-place_record.ensures c.in_ok-push.ensures.items;
    }
