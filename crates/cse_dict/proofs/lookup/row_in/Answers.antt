use Rattle.std.proofs.Common.{ℕ, ◌<◌, sym, subst, Option, IfSome}
use Rattle.cse_dict.specs.Pairs.{RowsBelow}
use Rattle.cse_dict.specs.Dictionary.{SetText}
use Rattle.cse_dict.proofs.RowLaws.{row_in-below}
use Rattle.cse_dict.proofs.lookup.row_in.Goals as goal

pub returns-clause-there : goal.returns-clause-there
returns-clause-there c =
    let set : SetText = c.args.set.now in
    let Below : SetText → Type 0 = λ s. RowsBelow s.shape.rows s.spans in
    let Inside : Option ℕ → Type 0 = λ o. IfSome o (λ r. r < set.shape.rows) in
    subst Inside (sym c.row_among.ensures) (row_in-below set.shape.rows c.args.number set.spans (subst Below c.set.view_is c.set.invariant.1))
