use Rattle.std.proofs.Common.{◌≡◌, ◌+◌, ◌++◌, ◌∷◌, [], None, Some, ap, arith, get_or, length, length-append, refl, sym, ◌∙◌}
use Rattle.cse_case.specs.declared.line.Line.{Line}
use Rattle.cse_case.specs.declared.line.Ending.TheVariants.{FileEnd}
use Rattle.cse_case.specs.declared.seen.OccurrenceSpan.{OccurrenceSpan}
use Rattle.cse_case.specs.Seen.{is_of}
use Rattle.cse_case.specs.Table.{first_at, type_at}
use Rattle.cse_case.specs.Found.{IsLonger}
use Rattle.cse_case.proofs.SeenLaws.{type_is}
use Rattle.cse_case.proofs.SightLaws.{is_of_is}
use Rattle.cse_case.proofs.TableLaws.{AreFound-further, first_here}
use Rattle.cse_case.proofs.seen.add_following.Goals as goal

pub lines-preserved : goal.lines-preserved
lines-preserved c =
    let no : Line = record { first = 0; width = 0; len = 0; ending = FileEnd; record_number = None } in
    let lines = c.args.lines.now in
    let next = c.lines.next in
    let firsts = c.lines.firsts.items in
    let longer : OccurrenceSpan = record { start = c.lines.span.start; count = c.lines.span.count + 1 } in
    let line = get_or lines next no in
    let own : type_at lines next ≡ Some c.args.number = type_is lines next no c.lines-test.true ∙ is_of_is c.args.number line.record_number (sym c.is_of.ensures ∙ c.if-not-is_of.false) in
    let more : IsLonger c.lines.span (first_at lines next) firsts c.push.new.self.items longer = record {
      items = c.in_ok-push.ensures.items ∙ ap (λ f. firsts ++ f ∷ []) (sym (first_here lines next no c.lines-test.true));
      start = c.lines.invariant.fits;
      same = λ _. refl;
      count = refl;
    } in
    record {
      goes = λ records spans low most within are.
          AreFound-further records lines c.args.place next firsts c.push.new.self.items spans c.args.number c.lines.span longer c.lines-test.true (c.lines.invariant.goes records spans low most within are) own low within
          (omega (arith, c.if-span-most.true, most)) more;
      fits = omega (arith, c.lines.invariant.fits, ap length more.items, length-append firsts (first_at lines next ∷ []));
    }

pub returns-then-not-is_of-clause-whole : goal.returns-then-not-is_of-clause-whole
returns-then-not-is_of-clause-whole c = λ low room.
    let no : Line = record { first = 0; width = 0; len = 0; ending = FileEnd; record_number = None } in
    ap (is_of c.args.number) (type_is c.args.lines.now c.lines.next no low) ∙ (sym c.is_of.ensures ∙ c.if-not-is_of.true)
