use Rattle.std.proofs.Common.{◌≡◌, ◌+◌, ◌≤◌, length, take, drop, ap, sym, ◌∙◌, arith, subst}
use Rattle.std.specs.Str.{IsAscii}
use Rattle.std.proofs.lemmas.List.{take_at}
use Rattle.cse_case.specs.Bytes.{beside_lent, columns_by}
use Rattle.cse_case.proofs.BytesLaws.{ascii-columns_by, length-columns_by, part-columns_by}
use Rattle.cse_case.proofs.FieldLaws.{length-piece}
use Rattle.cse_case.proofs.source.put_alone.Goals as goal

pub piece-requires : goal.piece-requires
piece-requires c = omega (arith, c.if-len-start.false, c.len-else-len.ensures, length-columns_by c.args.columns.bytes.now (beside_lent c.args.columns))

pub put_bytes-requires : goal.put_bytes-requires
put_bytes-requires c =
    let bytes = c.args.columns.bytes.now in
    let fits : c.saturating_sub-start.result + c.args.span.len ≤ length bytes = omega (arith, c.if-len-start.false, c.len-else-len.ensures, length-columns_by bytes (beside_lent c.args.columns)) in
    omega (arith, ap length c.piece.ensures, length-piece c.saturating_sub-start.result c.args.span.len bytes fits, c.if-len.false, c.len.ensures, ap length c.deref_mut.ensures.value, c.args.fields.now.ok.0)

pub returns : goal.returns
returns c done =
    let bytes = c.args.columns.bytes.now in
    let beside = beside_lent c.args.columns in
    let first = c.saturating_sub-start.result in
    let n = c.args.span.len in
    let written = c.put_bytes.new.characters in
    let fits : first + n ≤ length bytes = omega (arith, c.if-len-start.false, c.len-else-len.ensures, length-columns_by bytes beside) in
    let is : written ≡ take n (drop first bytes) = c.put_bytes.ensures.characters ∙ c.piece.ensures in
    let many : length written ≡ n = ap length is ∙ length-piece first n bytes fits in
    take_at written (drop (length written) c.args.fields.now.items) c.args.fields.now.len (omega (arith, many, c.if-len.false, c.len.ensures))
    ∙ sym (ascii-columns_by written (drop first beside) (subst IsAscii (sym c.put_bytes.ensures.characters) (c.put_bytes.ensures.ascii done)))
    ∙ ap (λ l. columns_by l (drop first beside)) is
    ∙ part-columns_by first n bytes beside
    ∙ ap (λ k. take n (drop k (columns_by bytes beside))) c.saturating_sub-start.ensures
