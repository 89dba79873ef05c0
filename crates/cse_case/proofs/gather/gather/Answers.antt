use Rattle.std.proofs.Common.{◌≡◌, ◌+◌, ap, sym, subst, arith, length, [], refl}
use Rattle.cse_case.specs.Decoding.{line_with}
use Rattle.cse_case.specs.Line.{lines_in}
use Rattle.cse_case.specs.Taking.{GoesOn, EndsRun, GivesFirst, Gathers, IsLast, Refuses, RefusesAt, Takes}
use Rattle.cse_case.specs.Run.{run_of}
use Rattle.cse_case.proofs.DecodeLaws.{IfFault-more}
use Rattle.cse_case.proofs.GatherLaws.{Gathers-more, Gathers-none, Gathers-trans, GivesFirst-found, RefusesAt-found, first_at, front_at, length-done, wide_line}
use Rattle.cse_case.proofs.LastLaws.{last_line}
use Rattle.cse_case.proofs.TakeLaws.{EndsRun-last}
use Rattle.cse_case.proofs.WrittenLaws.{line-bytes}
use Rattle.cse_case.proofs.gather.gather.Goals as goal

pub lines-init : goal.lines-init
lines-init c = Gathers-none _ _ _ _ _ c.requires.gathered

pub take_line-requires-clause-width : goal.take_line-requires-clause-width
take_line-requires-clause-width c =
    let d = c.args.dictionary.now in
    let known = (Gathers-trans d c.args.first c.args.ended c.args.run.now c.args.buffer.now c.lines.run c.lines.buffer c.take_alike.new.run c.take_alike.new.buffer c.lines.invariant
    (c.in-Ok.ensures.more d c.args.first c.args.ended (sym (ap (λ l. l.least_width) c.requires.layout)) c.lines.invariant.gathered)) in
    wide_line c.args.dictionary.now c.args.first c.args.ended c.take_alike.new.run.first_line c.take_alike.new.run c.take_alike.new.buffer known.gathered

pub take_line-requires-clause-last : goal.take_line-requires-clause-last
take_line-requires-clause-last c =
    let d = c.args.dictionary.now in
    let known = (Gathers-trans d c.args.first c.args.ended c.args.run.now c.args.buffer.now c.lines.run c.lines.buffer c.take_alike.new.run c.take_alike.new.buffer c.lines.invariant
    (c.in-Ok.ensures.more d c.args.first c.args.ended (sym (ap (λ l. l.least_width) c.requires.layout)) c.lines.invariant.gathered)) in
    last_line c.args.dictionary.now c.args.first c.args.ended c.take_alike.new.run.first_line c.take_alike.new.run c.take_alike.new.buffer known.gathered

pub returns-in-Err-clause-err : goal.returns-in-Err-clause-err
returns-in-Err-clause-err c =
    let d = c.args.dictionary.now in
    let b = c.is_front-front.result in
    let known = (Gathers-trans d c.args.first c.args.ended c.args.run.now c.args.buffer.now c.lines.run c.lines.buffer c.take_alike.new.run c.take_alike.new.buffer c.lines.invariant
    (c.in-Ok.ensures.more d c.args.first c.args.ended (sym (ap (λ l. l.least_width) c.requires.layout)) c.lines.invariant.gathered)) in
    let at = front_at d c.args.first c.args.ended c.take_alike.new.run.first_line c.take_alike.new.run c.take_alike.new.buffer known.gathered b c.is_front-front.ensures in
    let first = first_at b b c.args.ended c.as_slice.result.now c.take_alike.new.buffer c.in-Some.line.now refl c.as_slice.ensures c.in-Some.ensures.some in
    IfFault-more (Refuses d (b, c.in-Some.line.now) c.take_alike.new.run c.take_line.new.run)
    (RefusesAt d c.args.first c.args.ended c.args.run.now c.args.buffer.now c.take_line.new.run) c.in-Err.stop
    (RefusesAt-found d c.args.first c.args.ended c.args.run.now c.args.buffer.now c.take_alike.new.run c.take_line.new.run c.take_alike.new.buffer c.in-Some.line.now known b at first)
    c.in-Err.ensures.err

pub end_run-requires-clause-fits : goal.end_run-requires-clause-fits
end_run-requires-clause-fits c =
    let d = c.args.dictionary.now in
    let b = c.is_front-front.result in
    let last : IsLast d (b, c.in-Some.line.now) c.take_alike.new.run c.take_line.new.run c.take_line.new.columns c.in-Ok-Some.head =
    subst (Takes d (b, c.in-Some.line.now) c.take_alike.new.run c.take_line.new.run c.take_line.new.columns) c.in-Ok-Some.field-0-is c.in-Ok-Some.ensures.ok in
    last.decoded.fits

pub end_run-requires-clause-bytes : goal.end_run-requires-clause-bytes
end_run-requires-clause-bytes c =
    let d = c.args.dictionary.now in
    let b = c.is_front-front.result in
    let head = c.in-Ok-Some.head in
    let last : IsLast d (b, c.in-Some.line.now) c.take_alike.new.run c.take_line.new.run c.take_line.new.columns head =
    subst (Takes d (b, c.in-Some.line.now) c.take_alike.new.run c.take_line.new.run c.take_line.new.columns) c.in-Ok-Some.field-0-is c.in-Ok-Some.ensures.ok in
    line-bytes d (b, c.in-Some.line.now) c.take_line.new.columns head last.decoded

pub end_run-requires-clause-number : goal.end_run-requires-clause-number
end_run-requires-clause-number c =
    let d = c.args.dictionary.now in
    let b = c.is_front-front.result in
    let known = (Gathers-trans d c.args.first c.args.ended c.args.run.now c.args.buffer.now c.lines.run c.lines.buffer c.take_alike.new.run c.take_alike.new.buffer c.lines.invariant
    (c.in-Ok.ensures.more d c.args.first c.args.ended (sym (ap (λ l. l.least_width) c.requires.layout)) c.lines.invariant.gathered)) in
    let last : IsLast d (b, c.in-Some.line.now) c.take_alike.new.run c.take_line.new.run c.take_line.new.columns c.in-Ok-Some.head =
    subst (Takes d (b, c.in-Some.line.now) c.take_alike.new.run c.take_line.new.run c.take_line.new.columns) c.in-Ok-Some.field-0-is c.in-Ok-Some.ensures.ok in
    rw last.same (omega (arith, known.first_line, known.fewer, c.requires.number))

pub returns-in-Ok-Some-clause-ok : goal.returns-in-Ok-Some-clause-ok
returns-in-Ok-Some-clause-ok c =
    let d = c.args.dictionary.now in
    let b = c.is_front-front.result in
    let known = (Gathers-trans d c.args.first c.args.ended c.args.run.now c.args.buffer.now c.lines.run c.lines.buffer c.take_alike.new.run c.take_alike.new.buffer c.lines.invariant
    (c.in-Ok.ensures.more d c.args.first c.args.ended (sym (ap (λ l. l.least_width) c.requires.layout)) c.lines.invariant.gathered)) in
    let at = front_at d c.args.first c.args.ended c.take_alike.new.run.first_line c.take_alike.new.run c.take_alike.new.buffer known.gathered b c.is_front-front.ensures in
    let first = first_at b b c.args.ended c.as_slice.result.now c.take_alike.new.buffer c.in-Some.line.now refl c.as_slice.ensures c.in-Some.ensures.some in
    let last : IsLast d (b, c.in-Some.line.now) c.take_alike.new.run c.take_line.new.run c.take_line.new.columns c.in-Ok-Some.head =
    subst (Takes d (b, c.in-Some.line.now) c.take_alike.new.run c.take_line.new.run c.take_line.new.columns) c.in-Ok-Some.field-0-is c.in-Ok-Some.ensures.ok in
    let next : c.end_run.new.run ≡ run_of (c.take_line.new.run.first_line + length c.take_line.new.run.lines) c.in-Ok-Some.head.marked (line_with c.take_line.new.columns c.in-Ok-Some.head) =
    c.in-Ok-end_run.ensures.next in
    let ends : EndsRun d (b, c.in-Some.line.now) c.take_alike.new.run c.end_run.new.run c.in-Ok-end_run.given =
    EndsRun-last d (b, c.in-Some.line.now) c.take_alike.new.run c.take_line.new.run c.end_run.new.run c.in-Ok-end_run.given c.take_line.new.columns c.in-Ok-Some.head last c.in-Ok-end_run.ensures.given next in
    subst (λ rest. GivesFirst d c.args.first c.args.ended c.args.run.now c.args.buffer.now c.end_run.new.run rest c.in-Ok-end_run.given) (sym c.drop_front-in-Ok-Some.ensures)
    (GivesFirst-found d c.args.first c.args.ended c.args.run.now c.args.buffer.now c.take_alike.new.run c.end_run.new.run c.take_alike.new.buffer c.in-Some.line.now known b at first c.in-Ok-end_run.given ends)

pub lines-preserved : goal.lines-preserved
lines-preserved c =
    let d = c.args.dictionary.now in
    let b = c.is_front-front.result in
    let known = (Gathers-trans d c.args.first c.args.ended c.args.run.now c.args.buffer.now c.lines.run c.lines.buffer c.take_alike.new.run c.take_alike.new.buffer c.lines.invariant
    (c.in-Ok.ensures.more d c.args.first c.args.ended (sym (ap (λ l. l.least_width) c.requires.layout)) c.lines.invariant.gathered)) in
    let at = front_at d c.args.first c.args.ended c.take_alike.new.run.first_line c.take_alike.new.run c.take_alike.new.buffer known.gathered b c.is_front-front.ensures in
    let first = first_at b b c.args.ended c.as_slice.result.now c.take_alike.new.buffer c.in-Some.line.now refl c.as_slice.ensures c.in-Some.ensures.some in
    let on : GoesOn d (b, c.in-Some.line.now) c.take_alike.new.run c.take_line.new.run =
    subst (Takes d (b, c.in-Some.line.now) c.take_alike.new.run c.take_line.new.run c.take_line.new.columns) c.in-Ok-None.field-0-is c.in-Ok-None.ensures.ok in
    subst (Gathers d c.args.first c.args.ended c.args.run.now c.args.buffer.now c.take_line.new.run) (sym c.drop_front.ensures)
    (Gathers-more d c.args.first c.args.ended c.args.run.now c.args.buffer.now c.take_alike.new.run c.take_line.new.run c.take_alike.new.buffer c.in-Some.line.now known b at first on)

pub returns-in_default-first_line-clause-ok : goal.returns-in_default-first_line-clause-ok
returns-in_default-first_line-clause-ok c =
    let d = c.args.dictionary.now in
    let known = (Gathers-trans d c.args.first c.args.ended c.args.run.now c.args.buffer.now c.lines.run c.lines.buffer c.take_alike.new.run c.take_alike.new.buffer c.lines.invariant
    (c.in-Ok.ensures.more d c.args.first c.args.ended (sym (ap (λ l. l.least_width) c.requires.layout)) c.lines.invariant.gathered)) in
    let at = front_at d c.args.first c.args.ended c.take_alike.new.run.first_line c.take_alike.new.run c.take_alike.new.buffer known.gathered c.is_front-front.result c.is_front-front.ensures in
    let none = rw c.as_slice.ensures at c.in_default-first_line.ensures.none in
    record { gathers = known; none = subst (λ f. lines_in f c.args.ended c.take_alike.new.buffer ≡ []) at none.0; all = none.1; unended = rw c.as_slice.ensures at c.in_default-first_line.ensures.unended }

pub take_line-requires-clause-few : goal.take_line-requires-clause-few
take_line-requires-clause-few c =
    let d = c.args.dictionary.now in
    let known = (Gathers-trans d c.args.first c.args.ended c.args.run.now c.args.buffer.now c.lines.run c.lines.buffer c.take_alike.new.run c.take_alike.new.buffer c.lines.invariant
    (c.in-Ok.ensures.more d c.args.first c.args.ended (sym (ap (λ l. l.least_width) c.requires.layout)) c.lines.invariant.gathered)) in
    omega (arith, known.gathered.few, length-done d c.args.first c.args.ended c.take_alike.new.run.first_line c.take_alike.new.run c.take_alike.new.buffer known.gathered)
