use Rattle.std.proofs.Common.{ap, length, arith}
use Rattle.cse_case.proofs.BytesLaws.{padded_wide, taken_len}
use Rattle.cse_case.proofs.filled.Filled.pad.Goals as goal

pub returns : goal.returns
returns c =
    let own = c.self.inside.own in
    padded_wide c.args.width c.args.self.now (omega (arith, taken_len c.self.inside.len own.bytes.items own.beside.items c.self.invariant.0, ap length c.self.view_is, c.if-self-width.false))
