use Rattle.std.proofs.Common.{◌≡◌, ◌-◌, ◌++◌, ◌∙◌, ℕ, ap, sym, take, length, replicate, append-nil, arith}
use Rattle.std.proofs.lemmas.List.{take-take}
use Rattle.cse_case.specs.Bytes.{columns_in}
use Rattle.cse_case.proofs.BytesLaws.{taken_len}
use Rattle.cse_case.proofs.filled.Filled.set_width.Goals as goal

pub returns-then-width-self : goal.returns-then-width-self
returns-then-width-self c =
    let own = c.self.inside.own in
    let width = c.args.width in
    let now = c.args.self.now in
    let none : width - length now ≡ 0 = omega (arith, taken_len c.self.inside.len own.bytes.items own.beside.items c.self.invariant.0, ap length c.self.view_is, c.if-width-self.true) in
    sym (take-take width c.self.inside.len (columns_in own) (omega (arith, c.if-width-self.true))) ∙ ap (take width) c.self.view_is
    ∙ sym (ap (λ k. take width now ++ replicate {A = ℕ} k 32) none ∙ append-nil (take width now))
