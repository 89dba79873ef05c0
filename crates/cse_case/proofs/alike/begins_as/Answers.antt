use Rattle.std.proofs.lemmas.List.{take_all, take_more_same}
use Rattle.std.proofs.lemmas.Bool.{false≢true}
use Rattle.std.proofs.Common.{arith, subst, take, ◌≡◌, length, length-drop, length-take-le, ◌∙◌, sym, ◌+◌, ◌-◌, drop, get_or}
use Rattle.cse_case.proofs.NamedColumnLaws.{four_more}
use Rattle.cse_case.proofs.alike.begins_as.Goals as goal

pub fours-preserved : goal.fours-preserved
fours-preserved c = record {
  fits = omega (arith, c.fours-test.true);
  same = four_more c.args.bytes.now c.args.others.now c.fours.at c.fours.invariant.same (c.are_four.ensures c.if-not-are_four.false);
}

pub returns-then-not-are_four : goal.returns-then-not-are_four
returns-then-not-are_four c = λ e. absurd (false≢true e)

pub returns-then-bytes-i : goal.returns-then-bytes-i
returns-then-bytes-i c = λ e. absurd (false≢true e)

pub are_four-requires-clause-left : goal.are_four-requires-clause-left
are_four-requires-clause-left c = let four : c.fours.at + 4 - c.fours.at ≡ 4 = omega arith in rw four (length-take-le 4 (drop c.fours.at c.args.bytes.now) (omega (arith, length-drop c.fours.at c.args.bytes.now, c.requires, c.fours-test.true, c.fours.invariant.fits)))

pub are_four-requires-clause-right : goal.are_four-requires-clause-right
are_four-requires-clause-right c = let four : c.fours.at + 4 - c.fours.at ≡ 4 = omega arith in rw four (length-take-le 4 (drop c.fours.at c.args.others.now) (omega (arith, length-drop c.fours.at c.args.others.now, c.fours-test.true, c.fours.invariant.fits)))

pub bytes-init : goal.bytes-init
bytes-init c = c.fours.invariant.same

pub bytes-preserved : goal.bytes-preserved
bytes-preserved c = take_more_same c.args.bytes.now c.args.others.now c.bytes.i 0 (omega (arith, c.bytes-test.true, c.requires)) c.bytes-test.true c.bytes.invariant (let same : get_or c.args.bytes.now c.bytes.i 0 ≡ get_or c.args.others.now c.bytes.i 0 = omega (arith, c.if-bytes-i.false) in same)

pub returns : goal.returns
returns c = λ _.
    let n : c.bytes.i ≡ length c.args.others.now = omega (arith, c.bytes-test.false, c.bytes.auto) in
    subst (λ k. take k c.args.bytes.now ≡ take k c.args.others.now) n c.bytes.invariant ∙ take_all (length c.args.others.now) c.args.others.now (omega arith)
