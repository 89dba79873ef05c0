use Rattle.std.proofs.Common.{arith}
use Rattle.cse_files.proofs.ClashLaws.{answer_at, answer_within, none_to_next}
use Rattle.cse_files.proofs.clashing.first_clash.Goals as goal

pub loop-later-init : goal.loop-later-init
loop-later-init c = record { none = λ d n below. absurd (omega (arith, below)) }

pub returns-in-Some-clause-clash : goal.returns-in-Some-clause-clash
returns-in-Some-clause-clash c = λ d. answer_at c.args.files.now c.loop-later.later _ d c.clash_before.result _ c.loop-later-test.true c.in-Some.is c.clash_before.ensures

pub returns-in-Some-clause-within : goal.returns-in-Some-clause-within
returns-in-Some-clause-within c = answer_within c.args.files.now c.loop-later.later _ c.clash_before.result _ c.loop-later-test.true c.in-Some.is c.clash_before.ensures

pub loop-later-preserved : goal.loop-later-preserved
loop-later-preserved c = record { none = none_to_next c.args.files.now c.loop-later.later _ c.clash_before.result c.loop-later-test.true c.in_default.is c.clash_before.ensures c.loop-later.invariant.none }

pub returns-clause-none : goal.returns-clause-none
returns-clause-none c = λ d n below. c.loop-later.invariant.none d n (omega (arith, below, c.loop-later-test.false, c.loop-later.auto))
