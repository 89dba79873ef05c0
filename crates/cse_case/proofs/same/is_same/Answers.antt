use Rattle.std.proofs.Common.{◌+◌, ◌≤◌, ◌∙◌, ap, sym, arith, drop, length, length-drop, length-take-le}
use Rattle.cse_case.specs.Bytes.{beside_lent}
use Rattle.cse_case.proofs.BytesLaws.{length-columns_by}
use Rattle.cse_case.proofs.SameLaws.{told_part}
use Rattle.cse_case.proofs.same.is_same.Goals as goal

pub piece-requires : goal.piece-requires
piece-requires c = omega (arith, c.requires.left, length-columns_by c.args.a.bytes.now (beside_lent c.args.a))

pub piece-requires-2 : goal.piece-requires-2
piece-requires-2 c = omega (arith, c.requires.right, length-columns_by c.args.b.bytes.now (beside_lent c.args.b))

pub told_by-requires : goal.told_by-requires
told_by-requires c =
    let a = c.args.a.bytes.now in
    let b = c.args.b.bytes.now in
    let first = c.args.first in
    let left : first + c.args.len ≤ length a = omega (arith, c.requires.left, length-columns_by a (beside_lent c.args.a)) in
    let right : first + c.args.len ≤ length b = omega (arith, c.requires.right, length-columns_by b (beside_lent c.args.b)) in
    ap length c.piece.ensures ∙ length-take-le c.args.len (drop first a) (omega (arith, left, length-drop first a))
    ∙ sym (length-take-le c.args.len (drop first b) (omega (arith, right, length-drop first b))) ∙ sym (ap length c.piece-2.ensures)

pub returns-in-Some : goal.returns-in-Some
returns-in-Some c =
    told_part c.args.a.bytes.now (beside_lent c.args.a) c.args.b.bytes.now (beside_lent c.args.b) c.args.first c.args.len c.in-Some.same
    (rw c.piece.ensures at (rw c.piece-2.ensures at c.in-Some.ensures))
