use Rattle.std.proofs.Common.{sym}
use Rattle.cse_case.specs.Bytes.{columns_lent}
use Rattle.cse_office.proofs.PartLaws.{outside_same}
use Rattle.cse_office.proofs.item.is_changed_own_in.Goals as goal

pub returns-then-is_outside : goal.returns-then-is_outside
returns-then-is_outside c =
    sym (outside_same c.args.owner c.args.item.now c.args.part.first c.args.part.end (columns_lent c.args.before) (columns_lent c.args.after) c.requires (c.is_outside.ensures c.if-is_outside.true))
