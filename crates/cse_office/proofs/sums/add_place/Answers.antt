use Rattle.std.proofs.Common.{get_or, sym}
use Rattle.cse_case.specs.Field.{item_at}
use Rattle.cse_office.specs.Changes.{columns_at, no_count}
use Rattle.cse_office.proofs.SumLaws.{no_change}
use Rattle.cse_office.proofs.sums.add_place.Goals as goal

pub returns-then-is_known_like-clause-each : goal.returns-then-is_known_like-clause-each
returns-then-is_known_like-clause-each c n within =
    let place = c.args.place in
    let same = (c.is_known_like.ensures c.if-is_known_like.true).columns in
    sym (no_change c.args.owner (item_at c.args.items.now n) (columns_at c.args.before.now place) (columns_at c.args.after.now place) same (get_or c.args.counts.now n no_count))
