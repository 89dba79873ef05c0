use Rattle.std.proofs.Common.{refl, sym, ap}
use Rattle.cse_code_typing.specs.Depth.{or_none}
use Rattle.cse_code_typing.proofs.ListedLaws.{got, lacks}
use Rattle.cse_code_typing.proofs.place_depth.depth_at.Goals as goal

pub returns-in-None-clause-value : goal.returns-in-None-clause-value
returns-in-None-clause-value c = sym (ap or_none (lacks c.args.depths.now _ c.args.routine refl c.in-None.ensures.lookup.0))

pub returns-in-Some-clause-value : goal.returns-in-Some-clause-value
returns-in-Some-clause-value c = sym (ap or_none (got c.args.depths.now _ c.args.routine _ refl c.in-Some.ensures.lookup.0 c.in-Some.ensures.lookup.1))

pub returns-in-Some-clause-few : goal.returns-in-Some-clause-few
returns-in-Some-clause-few c = c.requires c.args.routine _ (got c.args.depths.now _ c.args.routine _ refl c.in-Some.ensures.lookup.0 c.in-Some.ensures.lookup.1)
