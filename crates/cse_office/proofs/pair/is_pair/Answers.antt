use Rattle.std.proofs.Common.{get_or, sym}
use Rattle.cse_case.specs.Columns.{no_line}
use Rattle.cse_office.proofs.AlikeLaws.{alike_pair}
use Rattle.cse_office.proofs.pair.is_pair.Goals as goal

pub returns-then-is_known_like : goal.returns-then-is_known_like
returns-then-is_known_like c =
    let like = c.is_known_like.ensures c.if-is_known_like.true in
    sym (alike_pair c.args.items.now (get_or c.args.before.now c.args.place no_line) (get_or c.args.after.now c.args.place no_line) like.records like.columns)
