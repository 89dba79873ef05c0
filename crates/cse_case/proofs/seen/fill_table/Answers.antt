use Rattle.std.proofs.Common.{Result, Ok, Err}
use Rattle.std.specs.Result.{OnOk}
use Rattle.cse_case.proofs.SeenLaws.{counts_there, IsTable-spans}
use Rattle.cse_case.specs.Table.{types_in}
use Rattle.cse_case.proofs.seen.fill_table.Goals as goal

-- what follows from two facts, where all went well
both : {T E P Q R : Type 0} (r : Result T E) → (P → Q → R) → OnOk r P → OnOk r Q → OnOk r R
both (Ok x) f p q = f p q
both (Err e) f p q = tt

pub place_lines-requires : goal.place_lines-requires
place_lines-requires c = rw c.deref.ensures.value (counts_there c.args.records.now (types_in c.args.lines.now) c.count_lines.new.counts.items c.in_ok-count_lines.ensures.counts)

pub returns-clause-table : goal.returns-clause-table
returns-clause-table c =
    both c.place_lines.result
    (λ size spans. IsTable-spans c.args.records.now c.args.lines.now c.count_lines.new.counts.items c.place_lines.new.firsts.items c.place_lines.new.spans.items
    c.in_ok-count_lines.ensures.counts size spans)
    (rw c.deref.ensures.value at c.place_lines.ensures.size) (rw c.deref.ensures.value at c.place_lines.ensures.spans)
