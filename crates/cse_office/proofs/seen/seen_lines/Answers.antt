use Rattle.std.proofs.Common.{◌≡◌, ◌+◌, ◌<◌, ◌≤◌, length, get_or, ap, sym, ◌∙◌, arith}
use Rattle.cse_case.specs.Columns.{no_line}
use Rattle.cse_case.specs.Seen.{is_of}
use Rattle.std.proofs.lemmas.List.{length-map}
use Rattle.cse_office.specs.Changes.{types_of}
use Rattle.cse_office.proofs.ChangeLaws.{left, left_none, left_passed, left_seen, length_next}
use Rattle.cse_office.proofs.seen.seen_lines.Goals as goal
use Rattle.cse_office.proofs.seen.seen_lines.Goals.{then-is_next, else-is_next}
use Rattle.std.specs.Prelude.{◌&&◌, nat_lt}

pub lines-preserved : goal.lines-preserved
lines-preserved c =
    let i = c.lines.place in
    let lines = c.args.lines.now in
    let owner = c.args.owner in
    let most = c.args.most in
    let low : i < length lines = omega (arith, c.lines-test.true, c.len-place-end.ensures) in
    let test : c.is_next.result ≡ (is_of owner (get_or lines i no_line).record_number && nat_lt c.lines.seen most) =
    c.is_next.ensures ∙ ap (λ t. is_of owner t && nat_lt c.lines.seen most) c.record.ensures in
    elim c.if-is_next.branch [
      | then-is_next w ↦
          let next = left_seen most c.lines.seen owner i lines low (sym test ∙ w.if-is_next.true) in
          record {
            occurs = rw w.seen-is (length_next i c.lines.seen _ _ _ next c.lines.invariant.occurs);
            few = omega (arith, w.seen-is, c.lines.invariant.few);
          }
      | else-is_next w ↦
          let next = left_passed most c.lines.seen owner i lines low (sym test ∙ w.if-is_next.false) in
          record {
            occurs = rw w.seen-is (ap (λ l. c.lines.seen + length l) (sym next) ∙ c.lines.invariant.occurs);
            few = omega (arith, w.seen-is, c.lines.invariant.few);
          }
    ]

pub returns-clause-is : goal.returns-clause-is
returns-clause-is c =
    let types = types_of c.args.lines.now in
    let len : length types ≡ length c.args.lines.now = length-map c.args.lines.now (λ line. line.record_number) in
    let end : length types ≤ c.lines.place = omega (arith, len, c.lines-test.false, c.len-place-end.ensures) in
    let none : length (left c.args.most c.lines.seen c.args.owner c.lines.place types) ≡ 0 = ap length (left_none c.args.most c.lines.seen c.args.owner c.lines.place types end) in
    omega (arith, c.from.ensures, c.lines.invariant.occurs, none)
