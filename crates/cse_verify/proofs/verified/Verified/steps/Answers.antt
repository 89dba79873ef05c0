use Rattle.std.proofs.Common.{◌<◌, length, arith}
use Rattle.cse_verify.proofs.VerifiedLaws.{bound_within, bound_read, bound_small}
use Rattle.cse_verify.proofs.verified.Verified.steps.Goals as goal

pub index-requires : goal.index-requires
index-requires g c =
    let within : c.args.routine < length c.self.inside.bounds.items = bound_within _ _ _ _ _ _ c.self.invariant c.self.view_is _ c.requires in
    let len = c.self.inside.bounds.ok.0 in
    omega arith

pub returns-clause-value : goal.returns-clause-value
returns-clause-value g c = bound_read _ _ _ _ _ _ c.self.invariant c.self.view_is _ _ c.requires c.index.ensures

pub returns-clause-small : goal.returns-clause-small
returns-clause-small g c = bound_small _ _ _ _ _ _ c.self.invariant c.self.view_is _ _ c.requires c.index.ensures
