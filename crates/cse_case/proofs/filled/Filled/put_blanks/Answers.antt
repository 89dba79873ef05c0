use Rattle.std.proofs.Common.{◌≡◌, ◌+◌, ◌-◌, ◌∙◌, ℕ, ap, length, replicate, take, arith}
use Rattle.std.proofs.lemmas.List.{length-replicate}
use Rattle.cse_case.specs.Bytes.{columns_by}
use Rattle.cse_case.specs.Run.{with_columns}
use Rattle.cse_case.proofs.BytesLaws.{IsAscii-blanks, ascii_view, taken_len}
use Rattle.cse_case.proofs.filled.Filled.put_blanks.Goals as goal

pub returns : goal.returns
returns c =
    let own = c.self.inside.own in
    let len = c.self.inside.len in
    let at = c.args.start in
    let n = c.args.count in
    let blanks = replicate {A = ℕ} n 32 in
    let same : at + n - at ≡ n = omega arith in
    let here = taken_len len own.bytes.items own.beside.items c.self.invariant.0 in
    ap (λ l. take len (columns_by l own.beside.items)) (c.put_blanks_in.ensures ∙ ap (λ k. with_columns at (replicate {A = ℕ} k 32) own.bytes.items) same)
    ∙ ascii_view len at blanks own.bytes.items own.beside.items (IsAscii-blanks n) (omega (arith, length-replicate {A = ℕ} n 32, c.requires, here, ap length c.self.view_is)) c.self.invariant.0
    ∙ ap (with_columns at blanks) c.self.view_is
