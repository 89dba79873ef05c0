use Rattle.std.proofs.Common.{Some, ap, sym, ◌∙◌, arith}
use Rattle.cse_code_typing.proofs.NestLaws.{no_top, top_read}
use Rattle.cse_code_typing.proofs.nest.Nest.top.Goals as goal

pub returns-then-self-eq0 : goal.returns-then-self-eq0
returns-then-self-eq0 g c =
    let few = c.self.invariant.0 in
    let size = c.self.invariant.1 in
    no_top c.self.inside.entries c.args.self.now c.self.inside.len c.self.view_is (omega arith) c.if-self-eq0.true

pub returns-else-self-eq0 : goal.returns-else-self-eq0
returns-else-self-eq0 g c =
    let few = c.self.invariant.0 in
    let size = c.self.invariant.1 in
    let some = c.if-self-eq0.false in
    sym (ap Some c.index-self-self.is)
    ∙ top_read c.self.inside.entries c.args.self.now c.self.inside.len c.index-self-self.result c.self.view_is (omega arith) (omega arith) c.index-self-self.is
