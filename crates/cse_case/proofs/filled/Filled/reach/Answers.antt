use Rattle.std.proofs.Common.{ap, length, arith}
use Rattle.cse_case.proofs.BytesLaws.{taken_len}
use Rattle.cse_case.proofs.filled.Filled.reach.Goals as goal

pub invariant_of-self : goal.invariant_of-self
invariant_of-self c = (omega (arith, c.self.invariant.0, c.fill_up.ensures.wide), c.fill_up.ensures.beside)

pub returns-in_ok-fill_up : goal.returns-in_ok-fill_up
returns-in_ok-fill_up c =
    let own = c.self.inside.own in
    let old = taken_len c.self.inside.len own.bytes.items own.beside.items c.self.invariant.0 in
    let new = taken_len c.args.len c.fill_up.new.own.bytes.items c.fill_up.new.own.beside.items c.in_ok-fill_up.ensures.room in
    omega (arith, new, old, ap length c.self.view_is, c.if-self-len.true)

pub returns-else-self-len : goal.returns-else-self-len
returns-else-self-len c =
    let own = c.self.inside.own in
    omega (arith, taken_len c.self.inside.len own.bytes.items own.beside.items c.self.invariant.0, ap length c.self.view_is, c.if-self-len.false)
