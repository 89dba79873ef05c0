use Rattle.std.proofs.Common.{Some, ap, ◌∙◌, length, arith}
use Rattle.cse_code_typing.proofs.NestLaws.{shown_at}
use Rattle.cse_code_typing.proofs.nest.Nest.at.Goals as goal

pub returns : goal.returns
returns g c =
    let few = c.self.invariant.0 in
    let size = c.self.invariant.1 in
    shown_at c.self.inside.entries c.args.self.now c.self.inside.len c.args.depth c.index-self-self.result c.self.view_is (omega arith) c.requires c.index-self-self.is
    ∙ ap Some c.index-self-self.is
