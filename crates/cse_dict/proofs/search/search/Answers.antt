use Rattle.std.proofs.Common.{arith}
use Rattle.std.proofs.lemmas.Int.{ints, to_z-of_z}
use Rattle.cse_dict.proofs.SearchLaws.{Sought-back, Sought-front, Sought-here}
use Rattle.cse_dict.proofs.search.search.Goals as goal

pub halves-preserved-then-number-span : goal.halves-preserved-then-number-span
halves-preserved-then-number-span c =
    let parts = c.halves-in-halves.result in
    Sought-front _ c.halves.rest.now c.args.spans.now parts.0.now parts.1.now parts.2.now c.halves-in-halves.ensures.parts c.halves.invariant (omega (arith, ints))

pub halves-preserved : goal.halves-preserved
halves-preserved c =
    let parts = c.halves-in-halves.result in
    Sought-back _ c.halves.rest.now c.args.spans.now parts.0.now parts.1.now parts.2.now c.halves-in-halves.ensures.parts c.halves.invariant (omega (arith, ints))

pub returns-in-halves : goal.returns-in-halves
returns-in-halves c =
    let parts = c.halves-in-halves.result in
    let so_far = simp (to_z-of_z, c.ranges.number) at c.halves.invariant in
    Sought-here c.args.number c.halves.rest.now c.args.spans.now parts.0.now parts.1.now parts.2.now c.halves-in-halves.ensures.parts so_far (omega (arith, ints)) (omega (arith, ints))
