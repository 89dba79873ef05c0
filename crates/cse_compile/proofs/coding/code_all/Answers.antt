use Rattle.std.proofs.Common.{map}
use Rattle.cse_compile.specs.Setting.{sizes_of}
use Rattle.cse_compile.specs.Room.{IsSmall}
use Rattle.cse_compile.proofs.Room.{small_at, too_long, longer}
use Rattle.cse_compile.proofs.coding.code_all.Goals as goal

pub returns-in-Err-clause-room : goal.returns-in-Err-clause-room
returns-in-Err-clause-room c = λ is small. c.in-Err.ensures.room is (small_at (IsSmall c.args.records.now (map sizes_of c.args.arrays.now)) c.args.outlines.now c.all.written-index c.written-item.result _ c.all-test.true c.written-item.is small.each)

pub returns-then-code-gt-MOST-clause-room : goal.returns-then-code-gt-MOST-clause-room
returns-then-code-gt-MOST-clause-room c = λ is small.
    too_long c.args.records.now (map sizes_of c.args.arrays.now) c.args.outlines.now c.all.written-index c.written-item.result _ c.args.emitter.now c.all.emitter c.coded.new.emitter c.all-test.true c.written-item.is
    c.all.invariant.code
    c.in-Ok.ensures.code
    (longer c.code.result.now c.coded.new.emitter c.code.ensures c.if-code-gt-MOST.true)
    small.together
