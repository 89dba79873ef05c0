use Rattle.std.proofs.Common.{ap, ◌∙◌, arith}
use Rattle.cse_code_typing.specs.Piles.{stack_of}
use Rattle.cse_code_typing.proofs.PileLaws.{zero_empty, taken}
use Rattle.cse_code_typing.proofs.piles.Piles.take.Goals as goal

pub returns-then-stack-eq0-clause-stacks : goal.returns-then-stack-eq0-clause-stacks
returns-then-stack-eq0-clause-stacks c = ap (stack_of c.args.self.now) c.if-stack-eq0.true ∙ zero_empty c.args.self.now

pub returns-clause-stacks : goal.returns-clause-stacks
returns-clause-stacks c = (taken c.self.inside.entries.items c.args.self.now c.args.stack c.index-entry.result.now c.self.view_is c.self.invariant.grown (omega arith) c.requires c.index-entry.ensures).0

pub returns-clause-smaller : goal.returns-clause-smaller
returns-clause-smaller c = (taken c.self.inside.entries.items c.args.self.now c.args.stack c.index-entry.result.now c.self.view_is c.self.invariant.grown (omega arith) c.requires c.index-entry.ensures).1
