use Rattle.std.proofs.Common.{sym, subst}
use Rattle.cse_dict.specs.Dictionary.{shape_of}
use Rattle.cse_verify.specs.Calls.{AllKeepRules, AllCallSmaller, StepsKeepToBound, RestFalls, WalksGoOn, WalksStayInside, RestIsBound, OpensKeepToFrames}
use Rattle.cse_verify.proofs.WalkLaws.{all_keep, all_smaller}
use Rattle.cse_verify.proofs.verified.Verified.walks_keep_to_steps.Goals as goal

pub walks_keep_to_bound-requires-clause-rules : goal.walks_keep_to_bound-requires-clause-rules
walks_keep_to_bound-requires-clause-rules g c = subst AllKeepRules (sym c.program.ensures.program) (all_keep (shape_of c.args.self.now.dictionary) c.args.self.now.image c.program.ensures.may_run.typed)

pub walks_keep_to_bound-requires-clause-smaller : goal.walks_keep_to_bound-requires-clause-smaller
walks_keep_to_bound-requires-clause-smaller g c = subst AllCallSmaller (sym c.program.ensures.program) (all_smaller (shape_of c.args.self.now.dictionary) c.args.self.now.image c.program.ensures.may_run.typed)

pub returns-clause-steps : goal.returns-clause-steps
returns-clause-steps g c = subst StepsKeepToBound c.program.ensures.program c.walks_keep_to_bound.ensures.steps

pub returns-clause-falls : goal.returns-clause-falls
returns-clause-falls g c = subst RestFalls c.program.ensures.program c.walks_keep_to_bound.ensures.falls

pub returns-clause-begins : goal.returns-clause-begins
returns-clause-begins g c = subst RestIsBound c.program.ensures.program c.walks_keep_to_bound.ensures.begins

pub returns-clause-goes_on : goal.returns-clause-goes_on
returns-clause-goes_on g c = subst WalksGoOn c.program.ensures.program c.walks_keep_to_bound.ensures.goes_on

pub returns-clause-inside : goal.returns-clause-inside
returns-clause-inside g c = subst WalksStayInside c.program.ensures.program c.walks_keep_to_bound.ensures.inside

pub returns-clause-frames : goal.returns-clause-frames
returns-clause-frames g c = subst OpensKeepToFrames c.program.ensures.program c.walks_keep_to_bound.ensures.frames
