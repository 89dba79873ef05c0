use Rattle.std.proofs.Common.{◌≡◌, ◌∙◌, ◌<◌, ◌≤◌, length, get_or}
use Rattle.cse_types.specs.Fresh.{no_names}
use Rattle.cse_types.proofs.FreshLaws.{after_turn, after_end}
use Rattle.cse_types.proofs.OwnerLaws.{with_owner, owners_after}
use Rattle.cse_types.proofs.owners.owners.Goals as goal

pub all-preserved : goal.all-preserved
all-preserved c =
    let items = c.args.all.now in
    let x = c.x-item.result in
    let lt : c.all.x-index < length items = c.all-test.true in
    let is : x ≡ get_or items c.all.x-index x = c.x-item.is in
    let e = c.in_ok-owner.ensures in
    after_turn with_owner items c.all.x-index x lt is c.all.fresh c.owner.new.fresh _ c.all.invariant e

pub returns : goal.returns
returns c =
    let items = c.args.all.now in
    let le : length items ≤ c.all.x-index = c.all-test.false in
    after_end with_owner items c.all.x-index le c.all.fresh _ c.all.invariant ∙ owners_after no_names items
