use Rattle.std.proofs.Common.{◌≡◌, ◌<◌, get_or, sym, ◌∙◌, arith, eq-eqb}
use Rattle.cse_case.specs.Bytes.{beside_lent}
use Rattle.cse_office.proofs.ChangeLaws.{ascii_column}
use Rattle.cse_office.proofs.item.is_same_column.Goals as goal

pub returns-then-is_same_byte : goal.returns-then-is_same_byte
returns-then-is_same_byte c =
    let a = c.args.before.bytes.now in
    let b = c.args.after.bytes.now in
    let i = c.args.place in
    let is = c.if-is_same_byte.true in
    let same : get_or a i 0 ≡ get_or b i 0 = c.is_same_byte.ensures.same is in
    let ascii : get_or a i 0 < 128 = c.is_same_byte.ensures.ascii is in
    let first = ascii_column a (beside_lent c.args.before) i 32 (c.is_same_byte.ensures.within is) ascii in
    let second = ascii_column b (beside_lent c.args.after) i 32 (c.is_same_byte.ensures.within_after is) (omega (arith, ascii, same)) in
    sym (eq-eqb _ _ (first ∙ (same ∙ sym second)))
