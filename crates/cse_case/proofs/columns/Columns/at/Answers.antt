use Rattle.std.proofs.Common.{◌∙◌, cond, get_or, sym, ap, arith}
use Rattle.std.proofs.lemmas.Bool.{lt-ltb}
use Rattle.cse_case.specs.Bytes.{beside_lent}
use Rattle.cse_case.proofs.BytesLaws.{column_at, length-columns_by, not_ascii}
use Rattle.cse_case.proofs.columns.Columns.at.Goals as goal

pub bounds-self-i : goal.bounds-self-i
bounds-self-i c = omega (arith, c.requires, length-columns_by c.args.self.bytes.now (beside_lent c.args.self))

pub returns-then-byte-lt128 : goal.returns-then-byte-lt128
returns-then-byte-lt128 c =
    let bytes = c.args.self.bytes.now in
    let beside = (beside_lent c.args.self) in
    let i = c.args.i in
    let b = get_or bytes i 0 in
    let here = column_at bytes beside i (omega (arith, c.requires, length-columns_by bytes beside)) in
    sym (here ∙ ap (λ t. cond t b (get_or beside i b)) (lt-ltb b 128 c.if-byte-lt128.true))

pub returns-else-byte-lt128 : goal.returns-else-byte-lt128
returns-else-byte-lt128 c =
    let bytes = c.args.self.bytes.now in
    let beside = (beside_lent c.args.self) in
    let i = c.args.i in
    let b = get_or bytes i 0 in
    let here = column_at bytes beside i (omega (arith, c.requires, length-columns_by bytes beside)) in
    c.beside_at.ensures ∙ sym (here ∙ ap (λ t. cond t b (get_or beside i b)) (not_ascii b (λ h. absurd (omega (arith, h, c.if-byte-lt128.false)))))
