use Rattle.std.proofs.Common.{arith, refl}
use Rattle.cse_case.proofs.SameLaws.{front_more, tells_apart, tells_same}
use Rattle.cse_case.proofs.same.told_from.Goals as goal

pub returns-then-a-i : goal.returns-then-a-i
returns-then-a-i c =
    tells_apart c.args.a.now c.args.b.now c.bytes.i _ _ c.bytes-test.true (omega (arith, c.bytes-test.true, c.requires.len)) refl refl c.if-a-i-ge128.false c.if-a-i.true

pub bytes-preserved : goal.bytes-preserved
bytes-preserved c =
    front_more c.args.a.now c.args.b.now c.bytes.i c.requires.len c.bytes-test.true c.if-a-i.false c.if-a-i-ge128.false c.bytes.invariant

pub returns : goal.returns
returns c =
    tells_same c.args.a.now c.args.b.now c.bytes.i c.bytes-test.false (omega (arith, c.bytes-test.false, c.requires.len)) c.bytes.invariant.same c.bytes.invariant.ascii
