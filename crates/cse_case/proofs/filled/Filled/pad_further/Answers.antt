use Rattle.std.proofs.Common.{◌≡◌, ◌≤◌, ◌+◌, ◌-◌, ◌++◌, ◌∙◌, ℕ, ap, sym, take, length, replicate, arith}
use Rattle.std.proofs.lemmas.List.{length-replicate}
use Rattle.cse_case.specs.Bytes.{columns_by}
use Rattle.cse_case.specs.Run.{with_columns}
use Rattle.cse_case.proofs.BytesLaws.{IsAscii-blanks, length-columns_by, take_with, taken_len, with_ascii}
use Rattle.cse_case.proofs.filled.Filled.pad_further.Goals as goal

pub invariant_of-self : goal.invariant_of-self
invariant_of-self c = (omega (arith, c.self.invariant.0, c.fill_up.ensures.wide), c.fill_up.ensures.beside)

pub put_blanks_in-requires-clause-order : goal.put_blanks_in-requires-clause-order
put_blanks_in-requires-clause-order c =
    let own = c.self.inside.own in
    omega (arith, c.requires, taken_len c.self.inside.len own.bytes.items own.beside.items c.self.invariant.0, ap length c.self.view_is)

pub returns : goal.returns
returns c =
    let own = c.self.inside.own in
    let at = c.self.inside.len in
    let width = c.args.width in
    let now = c.args.self.now in
    let bytes = c.fill_up.new.own.bytes.items in
    let beside = c.fill_up.new.own.beside.items in
    let blanks = replicate {A = ℕ} (width - at) 32 in
    let many : length blanks ≡ width - at = length-replicate {A = ℕ} (width - at) 32 in
    let len : at ≡ length now = sym (taken_len at own.bytes.items own.beside.items c.self.invariant.0) ∙ ap length c.self.view_is in
    let end : at + length blanks ≡ width = omega (arith, many, len, c.requires) in
    let room : at + length blanks ≤ length bytes = omega (arith, end, c.in_ok-fill_up.ensures.room) in
    ap (λ l. take width (columns_by l beside)) c.put_blanks_in.ensures
    ∙ ap (take width) (with_ascii at blanks bytes beside (IsAscii-blanks (width - at)) room)
    ∙ ap (λ k. take k (with_columns at blanks (columns_by bytes beside))) (sym end)
    ∙ take_with at blanks (columns_by bytes beside) (omega (arith, room, length-columns_by bytes beside))
    ∙ ap (λ l. l ++ blanks) (c.fill_up.ensures.same at c.self.invariant.0 ∙ c.self.view_is)
    ∙ ap (λ k. now ++ replicate {A = ℕ} (width - k) 32) len
