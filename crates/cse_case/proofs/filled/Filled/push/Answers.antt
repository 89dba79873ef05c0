use Rattle.std.proofs.Common.{◌≡◌, ◌≤◌, ◌+◌, ◌++◌, ◌∙◌, ap, sym, take, length, length-take-le, arith}
use Rattle.cse_case.specs.Bytes.{columns_in}
use Rattle.cse_case.specs.Run.{with_columns}
use Rattle.cse_case.proofs.BytesLaws.{length-columns_by, take_with}
use Rattle.cse_case.proofs.filled.Filled.push.Goals as goal

pub invariant_of-self : goal.invariant_of-self
invariant_of-self c = (omega (arith, c.self.invariant.0, c.fill_up.ensures.wide), c.fill_up.ensures.beside)

pub returns-clause-pushed : goal.returns-clause-pushed
returns-clause-pushed c =
    let n = c.text.inside.len in
    let text = take n (columns_in c.text.inside.own) in
    let at = c.self.inside.len in
    let all = columns_in c.fill_up.new.own in
    let own = c.text.inside.own in
    let len : length text ≡ n = length-take-le n (columns_in own) (omega (arith, c.text.invariant.0, length-columns_by own.bytes.items own.beside.items)) in
    let room : at + length text ≤ length all =
    omega (arith, c.in_ok-fill_up.ensures.room, len, length-columns_by c.fill_up.new.own.bytes.items c.fill_up.new.own.beside.items) in
    ap (take (at + n)) c.put_over.ensures.columns
    ∙ ap (λ k. take (at + k) (with_columns at text all)) (sym len)
    ∙ take_with at text all room
    ∙ ap (λ l. l ++ text) (c.fill_up.ensures.same at c.self.invariant.0 ∙ c.self.view_is)
    ∙ ap (λ l. c.args.self.now ++ l) c.text.view_is
