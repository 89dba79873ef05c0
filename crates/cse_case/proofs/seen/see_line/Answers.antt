use Rattle.std.proofs.Common.{subst, sym, ◌≡◌, ◌<◌, ◌≤◌, ◌+◌, length, map, take, get_or, None, Some, ap, ◌∙◌, ◌∷◌, [], arith, length-append}
use Rattle.cse_value.specs.declared.shape.RecordShape.{RecordShape}
use Rattle.cse_value.specs.Occurrences.{most_occurrences}
use Rattle.cse_case.specs.declared.line.Line.{Line}
use Rattle.cse_case.specs.declared.seen.OccurrenceSpan.{OccurrenceSpan}
use Rattle.cse_case.specs.declared.line.Ending.TheVariants.{FileEnd}
use Rattle.std.proofs.lemmas.List.{length-map}
use Rattle.cse_case.specs.Seen.{unseen_after}
use Rattle.cse_case.specs.Table.{first_at, type_at, types_in}
use Rattle.cse_case.specs.Found.{IsLonger}
use Rattle.cse_case.proofs.SeenLaws.{most_at, type_is}
use Rattle.cse_case.proofs.TableLaws.{AreFound-none, AreFound-one, AreFound-then, AreSeen-extra, AreSeen-unknown, count_at, extra_here, first_here, span_same}
use Rattle.cse_case.proofs.seen.see_line.Goals as goal

abbrev no_line : Line
no_line = record { first = 0; width = 0; len = 0; ending = FileEnd; record_number = None }

abbrev no_record : RecordShape
no_record = record { max_records = 0; record_len = 0 }

pub returns-in_default : goal.returns-in_default
returns-in_default c =
    let own : type_at c.args.lines.now c.args.place ≡ None = type_is c.args.lines.now c.args.place no_line c.requires.place ∙ c.in_default.is in (
      ap (unseen_after c.args.records.now (take c.args.place (types_in c.args.lines.now))) own,
      AreSeen-unknown c.args.records.now c.args.lines.now c.args.place c.args.firsts.now.items c.args.spans.now.items c.requires.place c.requires.seen own,
    )

pub returns-then-span-most : goal.returns-then-span-most
returns-then-span-most c =
    let records = c.args.records.now in
    let lines = c.args.lines.now in
    let place = c.args.place in
    let firsts = c.args.firsts.now.items in
    let spans = c.args.spans.now.items in
    let r = c.in-Some.number in
    let span = c.index_mut-own.result.now in
    let own : type_at lines place ≡ Some r = type_is lines place no_line c.requires.place ∙ c.in-Some.is in
    let low : r < length spans = omega (arith, c.if-record-records.true, c.requires.seen.counts.size, length-map spans (λ s. s.count)) in
    let same = span_same spans r c.index-span.result.now span low c.index-span.ensures c.index_mut-own.ensures.value in
    let most : c.index-span.result.now.count < most_occurrences records r = rw (most_at records r no_record c.if-record-records.true) c.if-span-most.true in
    let room : span.count < most_occurrences records r = subst (λ (s : OccurrenceSpan). s.count < most_occurrences records r) same most in
    let longer = c.in_ok-add_occurrence.ensures c.if-not-branch.false in
    let more : IsLonger span (first_at lines place) firsts c.add_occurrence.new.firsts.items c.add_occurrence.new.span = rw (first_here lines place no_line c.requires.place) longer in
    let one = AreFound-one records lines place place firsts c.add_occurrence.new.firsts.items spans r span c.add_occurrence.new.span c.requires.place
    (AreFound-none records lines place firsts spans c.requires.seen) own c.if-record-records.true low c.index_mut-own.ensures.value room more in
    let others = c.in_ok-next.ensures.goes records spans c.if-record-records.true (sym (most_at records r no_record c.if-record-records.true)) low one.seen in (
      omega (arith, others.far),
      AreFound-then records lines place (place + 1) c.in_ok-next.next c.add_occurrence.new.firsts.items c.add_following.new.firsts.items _ _ one others,
    )

pub returns-else-span-most : goal.returns-else-span-most
returns-else-span-most c =
    let records = c.args.records.now in
    let lines = c.args.lines.now in
    let place = c.args.place in
    let firsts = c.args.firsts.now.items in
    let spans = c.args.spans.now.items in
    let r = c.in-Some.number in
    let span = c.index-span.result.now in
    let own : type_at lines place ≡ Some r = type_is lines place no_line c.requires.place ∙ c.in-Some.is in
    let low : r < length spans = omega (arith, c.if-record-records.true, c.requires.seen.counts.size, length-map spans (λ s. s.count)) in
    let most : most_occurrences records r ≤ span.count = rw (most_at records r no_record c.if-record-records.true) c.if-span-most.false in
    let full : r < length records → most_occurrences records r ≤ get_or (map (λ s. s.count) spans) r 0 = λ _. rw (count_at spans r span low c.index-span.ensures) most in
    (extra_here records lines place firsts spans r c.requires.seen own full, AreSeen-extra records lines place firsts spans r c.requires.place c.requires.seen own full)

pub returns-else-record-records : goal.returns-else-record-records
returns-else-record-records c =
    let records = c.args.records.now in
    let lines = c.args.lines.now in
    let place = c.args.place in
    let firsts = c.args.firsts.now.items in
    let spans = c.args.spans.now.items in
    let r = c.in-Some.number in
    let own : type_at lines place ≡ Some r = type_is lines place no_line c.requires.place ∙ c.in-Some.is in
    let full : r < length records → most_occurrences records r ≤ get_or (map (λ s. s.count) spans) r 0 = λ low. absurd (omega (arith, c.if-record-records.false)) in
    (extra_here records lines place firsts spans r c.requires.seen own full, AreSeen-extra records lines place firsts spans r c.requires.place c.requires.seen own full)

pub index-span-requires : goal.index-span-requires
index-span-requires c = omega (arith, c.args.spans.now.ok.0, c.if-record-records.true, c.requires.seen.counts.size, length-map c.args.spans.now.items (λ s. s.count))

pub index_mut-own-requires : goal.index_mut-own-requires
index_mut-own-requires c = omega (arith, c.args.spans.now.ok.0, c.if-record-records.true, c.requires.seen.counts.size, length-map c.args.spans.now.items (λ s. s.count))

pub add_occurrence-requires-clause-few : goal.add_occurrence-requires-clause-few
add_occurrence-requires-clause-few c =
    let spans = c.args.spans.now.items in
    let low : c.in-Some.number < length spans = omega (arith, c.if-record-records.true, c.requires.seen.counts.size, length-map spans (λ s. s.count)) in
    let same = span_same spans c.in-Some.number c.index-span.result.now c.index_mut-own.result.now low c.index-span.ensures c.index_mut-own.ensures.value in
    omega (arith, ap (λ (s : OccurrenceSpan). s.count) same, c.if-span-most.true, c.if-record-records.element_fits)

pub add_occurrence-requires-clause-fits : goal.add_occurrence-requires-clause-fits
add_occurrence-requires-clause-fits c =
    let low : c.in-Some.number < length c.args.spans.now.items = omega (arith, c.if-record-records.true, c.requires.seen.counts.size, length-map c.args.spans.now.items (λ s. s.count)) in
    (c.requires.seen.spans_are c.in-Some.number c.index_mut-own.result.now low c.index_mut-own.ensures.value).fits

pub add_following-requires : goal.add_following-requires
add_following-requires c =
    let longer = c.in_ok-add_occurrence.ensures c.if-not-branch.false in
    record { fits = omega (arith, longer.start, longer.count, ap length longer.items, length-append c.args.firsts.now.items ((get_or c.args.lines.now c.args.place no_line).first ∷ [])) }
