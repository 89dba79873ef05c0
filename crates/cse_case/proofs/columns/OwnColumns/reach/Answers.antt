use Rattle.std.proofs.Common.{◌≡◌, ◌-◌, ◌++◌, ◌∙◌, ap, arith, drop, length, take}
use Rattle.cse_case.specs.Bytes.{columns_by}
use Rattle.cse_case.proofs.BytesLaws.{reached, reaching-columns_by}
use Rattle.cse_case.proofs.columns.OwnColumns.reach.Goals as goal

pub returns-then-first-len-clause-columns : goal.returns-then-first-len-clause-columns
returns-then-first-len-clause-columns c =
    let own = c.args.self.now in
    let bytes = own.bytes.items in
    let beside = own.beside.items in
    let n = c.args.len in
    let new = c.push_bytes.new.characters.items in
    let first : c.len-first.result ≡ length beside = omega (arith, c.len-first.ensures, own.beside.ok) in
    let is : new ≡ beside ++ take (n - length beside) (drop (length beside) bytes) =
    c.push_bytes.ensures.items
    ∙ ap (λ l. beside ++ l) (c.piece.ensures
    ∙ ap (λ k. take (n - k) (drop k c.deref.result.now)) first
    ∙ ap (λ l. take (n - length beside) (drop (length beside) l)) c.deref.ensures.value) in
    ap (columns_by bytes) (reached n bytes beside new (omega (arith, first, c.if-first-len.true)) is) ∙ reaching-columns_by n bytes beside
