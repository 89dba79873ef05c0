use Rattle.std.proofs.Common.{arith}
use Rattle.cse_case.proofs.RunReadLaws.{Next-memory}
use Rattle.cse_case.proofs.next.next_by_layout.Goals as goal

pub returns-clause-next : goal.returns-clause-next
returns-clause-next g c = c.next_run.ensures.next

pub returns-clause-rests : goal.returns-clause-rests
returns-clause-rests g c = c.next_run.ensures.rests

pub returns-clause-few_reads : goal.returns-clause-few_reads
returns-clause-few_reads g c = c.next_run.ensures.few_reads

pub returns-clause-end : goal.returns-clause-end
returns-clause-end g c = c.next_run.ensures.end

pub returns-clause-failed : goal.returns-clause-failed
returns-clause-failed g c = c.next_run.ensures.failed

pub returns-clause-works : goal.returns-clause-works
returns-clause-works g c = c.next_run.ensures.works

pub returns-clause-sound : goal.returns-clause-sound
returns-clause-sound g c = c.next_run.ensures.sound

pub next_run-requires-clause-rests : goal.next_run-requires-clause-rests
next_run-requires-clause-rests g c = c.requires.rests

pub next_run-requires-clause-end : goal.next_run-requires-clause-end
next_run-requires-clause-end g c = c.requires.end

pub keep_layout-requires : goal.keep_layout-requires
keep_layout-requires g c = c.requires.layout

pub returns-in_default-clause-end : goal.returns-in_default-clause-end
returns-in_default-clause-end g c = c.requires.end

pub returns-in_default-keep_lines-clause-end : goal.returns-in_default-keep_lines-clause-end
returns-in_default-keep_lines-clause-end g c = c.requires.end

pub returns-in_default-keep_lines-clause-failed : goal.returns-in_default-keep_lines-clause-failed
returns-in_default-keep_lines-clause-failed g c = λ e. absurd (omega (arith, c.error-in_default-keep_lines.ensures.number, e))

pub returns-in_default-clause-next : goal.returns-in_default-clause-next
returns-in_default-clause-next g c = Next-memory _ _ c.error.result c.requires.rests c.requires.end c.error.ensures.number c.error.ensures.line

pub returns-in_default-clause-few_reads : goal.returns-in_default-clause-few_reads
returns-in_default-clause-few_reads g c = c.requires.rests.few_reads

pub returns-in_default-clause-failed : goal.returns-in_default-clause-failed
returns-in_default-clause-failed g c = λ e. absurd (omega (arith, c.error.ensures.number, e))

pub returns-in_default-keep_lines-clause-next : goal.returns-in_default-keep_lines-clause-next
returns-in_default-keep_lines-clause-next g c =
    Next-memory _ _ c.error-in_default-keep_lines.result c.requires.rests c.requires.end c.error-in_default-keep_lines.ensures.number c.error-in_default-keep_lines.ensures.line

pub returns-in_default-keep_lines-clause-few_reads : goal.returns-in_default-keep_lines-clause-few_reads
returns-in_default-keep_lines-clause-few_reads g c = c.requires.rests.few_reads
