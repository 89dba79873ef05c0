use Rattle.std.proofs.Common.{arith}
use Rattle.cse_code_typing.proofs.NestLaws.{height}
use Rattle.cse_code_typing.proofs.nest.Nest.len.Goals as goal

pub returns : goal.returns
returns g c = height c.self.inside.entries c.args.self.now c.self.inside.len c.self.view_is (let a = c.self.invariant.1 in let b = c.self.invariant.0 in omega arith)
