use Rattle.std.proofs.Common.{◌+◌, ◌-◌, ◌≤◌, ◌∙◌, ℕ, length, sym, arith, take, drop, inl, inr, length-drop}
use Rattle.std.proofs.lemmas.Bool.{cases_lt, false≢true}
use Rattle.std.proofs.lemmas.List.{ext_get_or, length-take-le}
use Rattle.cse_case.proofs.AlikeLaws.{Done, plain_all, plain_here, plain_more, put_more, put_over, past_end}
use Rattle.cse_case.proofs.LaidLaws.{length-with_columns}
use Rattle.cse_case.proofs.fill.put_sixteens.Goals as goal
use Rattle.cse_case.proofs.fill.put_sixteens.Goals.{then-is_next, else-is_next}

pub sixteens-init : goal.sixteens-init
sixteens-init c =
    let text = c.args.text.now in
    let columns = c.args.columns.now in
    let last = length text - 16 in
    let fits : last + 16 ≤ length text = omega (arith, c.requires.some) in
    let n = length-take-le 16 (drop last text) (omega (arith, length-drop last text)) in
    record {
      all = omega (arith, c.requires.some);
      low = omega arith;
      len = rw c.put_sixteen_at-is_plain.ensures.columns (length-with_columns last (take 16 (drop last text)) columns (omega (arith, n, c.requires.fits)) ∙ c.requires.fits);
      same = λ k done below. rw c.put_sixteen_at-is_plain.ensures.columns (put_over 16 columns text last k c.requires.fits fits (past_end last k done) (omega (arith, c.requires.some)));
      plain = λ ok k done below. plain_here 16 text last k fits (c.put_sixteen_at-is_plain.ensures.plain ok) (past_end last k done) (omega (arith, c.requires.some));
    }

pub sixteens-preserved : goal.sixteens-preserved
sixteens-preserved c =
    let text = c.args.text.now in
    let columns = c.sixteens.columns in
    let at = c.sixteens.at in
    let last = length text - 16 in
    let i = c.sixteens.invariant in
    let fits : at + 16 ≤ length text = omega (arith, c.sixteens-test.true, c.requires.some) in
    let n = length-take-le 16 (drop at text) (omega (arith, fits, length-drop at text)) in
    record {
      all = i.all;
      low = omega (arith, c.sixteens-test.true);
      len = rw c.put_sixteen_at-is_next.ensures.columns (length-with_columns at (take 16 (drop at text)) columns (omega (arith, n, fits, i.len)) ∙ i.len);
      same = λ k done below. rw c.put_sixteen_at-is_next.ensures.columns (put_more 16 columns text at last i.len fits i.same k done below);
      plain = λ ok. elim c.if-is_next.branch [
        | then-is_next w ↦ plain_more 16 text at last fits (c.put_sixteen_at-is_next.ensures.plain w.if-is_next.true) (i.plain (sym w.is_plain-is ∙ ok))
        | else-is_next w ↦ absurd (false≢true (sym w.if-is_next.false ∙ sym w.is_plain-is ∙ ok))
      ];
    }

pub returns : goal.returns
returns c =
    let text = c.args.text.now in
    let last = length text - 16 in
    let i = c.sixteens.invariant in
    let all : (k : ℕ) → Done c.sixteens.at last k = λ k. elim (cases_lt k last) [
      | inl low ↦ inl (omega (arith, c.sixteens-test.false))
      | inr high ↦ inr high
    ] in
    record {
      columns = ext_get_or 0 _ _ i.len (λ k below. i.same k (all k) (omega (arith, i.len)));
      plain = λ ok. plain_all text (λ k below. i.plain ok k (all k) below);
    }
