use Rattle.std.proofs.Common.{◌+◌, ◌-◌, ◌^◌, cond}
use Rattle.cse_case.specs.Resting.{reader_of}
use Rattle.cse_case.proofs.RunReadLaws.{HasRead}
use Rattle.cse_case.proofs.next.next_run.Given as goal

abbrev pub invariant-reads : goal.invariant-reads
invariant-reads g l = HasRead (g.R.Input.given l.fn.input) (g.R.Input.given l.input)
    (reader_of l.dictionary l.fn.run l.fn.buffer l.fn.ended l.fn.reads l.lines) l.run l.buffer l.ended l.reads

abbrev pub decreases-reads : goal.decreases-reads
decreases-reads g l = cond l.ended 0 1 + (2 ^ 40 - l.reads)
