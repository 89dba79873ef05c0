use Rattle.std.proofs.Common.{◌∙◌, ap, sym, length}
use Rattle.cse_case.proofs.BytesLaws.{taken_len}
use Rattle.cse_case.proofs.filled.Filled.len.Goals as goal

pub returns : goal.returns
returns c = sym (taken_len c.self.inside.len c.self.inside.own.bytes.items c.self.inside.own.beside.items c.self.invariant.0) ∙ ap length c.self.view_is
