use Rattle.std.proofs.Common.{length, drop, ap, sym, ◌∙◌, arith}
use Rattle.cse_case.specs.Bytes.{beside_lent}
use Rattle.cse_case.specs.Bytes.{columns_by}
use Rattle.cse_case.proofs.BytesLaws.{ascii-columns_by, length-columns_by, part-columns_by}
use Rattle.cse_case.proofs.FieldLaws.{length-piece}
use Rattle.cse_case.proofs.source.put_part.Goals as goal

pub piece-requires : goal.piece-requires
piece-requires c = omega (arith, c.requires, length-columns_by c.args.columns.bytes.now (beside_lent c.args.columns))

pub put_bytes-requires : goal.put_bytes-requires
put_bytes-requires c =
    let bytes = c.args.columns.bytes.now in
    sym (ap length c.piece.ensures ∙ length-piece c.args.first (length c.args.characters.now) bytes (omega (arith, c.requires, length-columns_by bytes (beside_lent c.args.columns))))

pub returns-else-not-put_bytes : goal.returns-else-not-put_bytes
returns-else-not-put_bytes c =
    let bytes = c.args.columns.bytes.now in
    let beside = drop c.args.first (beside_lent c.args.columns) in
    c.put_bytes.ensures.characters ∙ sym (ascii-columns_by c.piece.result.now beside (c.put_bytes.ensures.ascii c.if-not-put_bytes.false))
    ∙ ap (λ l. columns_by l beside) c.piece.ensures ∙ part-columns_by c.args.first (length c.args.characters.now) bytes (beside_lent c.args.columns)
