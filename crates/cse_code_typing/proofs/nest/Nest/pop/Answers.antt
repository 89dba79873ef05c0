use Rattle.std.proofs.Common.{refl, arith}
use Rattle.cse_code_typing.proofs.NestLaws.{shown_below}
use Rattle.cse_code_typing.proofs.nest.Nest.pop.Goals as goal

pub returns : goal.returns
returns g c =
    shown_below c.self.inside.entries _ _ c.self.inside.len c.self.view_is c.requires refl (let a = c.self.invariant.1 in let b = c.self.invariant.0 in omega arith)
