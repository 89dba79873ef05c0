use Rattle.std.proofs.Common.{◌≡◌, ◌++◌, ◌∙◌, take, drop, ap, sym, subst, arith}
use Rattle.std.specs.Int.{to_le_bytes, w32}
use Rattle.std.specs.Str.{IsAscii}
use Rattle.std.proofs.Math.Seq.{take-add}
use Rattle.std.proofs.lemmas.Str.{IsAscii-append}
use Rattle.cse_case.proofs.SameLaws.{other_four, tells_other}
use Rattle.cse_case.proofs.same.by_fours.Goals as goal

pub returns-then-number_of_four : goal.returns-then-number_of_four
returns-then-number_of_four c =
    let ascii_left = subst IsAscii c.piece-left.ensures (c.are_ascii.ensures.left c.if-not-are_ascii.false) in
    let ascii_right = subst IsAscii c.piece-right.ensures (c.are_ascii.ensures.right c.if-not-are_ascii.false) in
    let other = other_four c.number_of_four.result c.number_of_four-in-fours.result c.piece-left.result.now c.piece-right.result.now c.number_of_four.type_inv c.number_of_four-in-fours.type_inv
    c.number_of_four.ensures c.number_of_four-in-fours.ensures c.if-number_of_four.true in
    tells_other c.args.a.now c.args.b.now c.fours.at 4 ascii_left ascii_right (λ e. other (c.piece-left.ensures ∙ e ∙ sym c.piece-right.ensures))

pub fours-preserved : goal.fours-preserved
fours-preserved c =
    let a = c.args.a.now in
    let b = c.args.b.now in
    let at = c.fours.at in
    let same = sym c.number_of_four.ensures ∙ ap (to_le_bytes w32) c.if-number_of_four.false ∙ c.number_of_four-in-fours.ensures in
    let four : take 4 (drop at a) ≡ take 4 (drop at b) = sym c.piece-left.ensures ∙ same ∙ c.piece-right.ensures in
    let ascii = subst IsAscii c.piece-left.ensures (c.are_ascii.ensures.left c.if-not-are_ascii.false) in
    record {
      fits = omega (arith, c.fours-test.true);
      same = take-add at 4 a ∙ ap (λ l. l ++ take 4 (drop at a)) c.fours.invariant.same ∙ ap (λ l. take at b ++ l) four ∙ sym (take-add at 4 b);
      ascii = subst IsAscii (sym (take-add at 4 a)) (IsAscii-append (take at a) (take 4 (drop at a)) c.fours.invariant.ascii ascii);
    }
