use Rattle.std.proofs.Common.{◌≡◌, ◌+◌, ◌-◌, ◌<◌, ◌≤◌, ◌∙◌, ℕ, List, length, get_or, ap, arith, take, drop, inl, inr, length-drop}
use Rattle.std.proofs.lemmas.Bool.{cases_lt, and_parts}
use Rattle.std.proofs.lemmas.List.{ext_get_or, length-take-le}
use Rattle.cse_case.specs.Run.{with_columns}
use Rattle.cse_case.proofs.AlikeLaws.{Done, PlainAt, plain_all, plain_here, plain_more, put_more, put_over, past_end}
use Rattle.cse_case.proofs.LaidLaws.{length-with_columns}
use Rattle.cse_case.proofs.fill.put_two_eights.Goals as goal

pub returns : goal.returns
returns c =
    let text = c.args.text.now in
    let columns = c.args.columns.now in
    let last = length text - 8 in
    let end_fits : last + 8 ≤ length text = omega (arith, c.requires.some) in
    let front_fits : 0 + 8 ≤ length text = omega (arith, c.requires.some) in
    let n = length-take-le 8 (drop last text) (omega (arith, length-drop last text)) in
    let m = length-take-le 8 (drop 0 text) (omega (arith, length-drop 0 text)) in
    let end : List ℕ = with_columns last (take 8 (drop last text)) columns in
    let len : length end ≡ length text = length-with_columns last (take 8 (drop last text)) columns (omega (arith, n, c.requires.fits)) ∙ c.requires.fits in
    let wide : length (with_columns 0 (take 8 (drop 0 text)) end) ≡ length text = length-with_columns 0 (take 8 (drop 0 text)) end (omega (arith, m, len, front_fits)) ∙ len in
    let same : (k : ℕ) → Done 0 last k → k < length text → get_or end k 0 ≡ get_or text k 0 =
    λ k done below. put_over 8 columns text last k c.requires.fits end_fits (past_end last k done) (omega (arith, c.requires.some)) in
    let all : (k : ℕ) → Done (0 + 8) last k = λ k. elim (cases_lt k 8) [
      | inl low ↦ inl (omega arith)
      | inr high ↦ inr (omega (arith, c.requires.few))
    ] in
    let is : c.put_eight_at-is_front_plain.new.columns ≡ with_columns 0 (take 8 (drop 0 text)) end =
    c.put_eight_at-is_front_plain.ensures.columns ∙ ap (λ cs. with_columns 0 (take 8 (drop 0 text)) cs) c.put_eight_at-is_end_plain.ensures.columns in
    record {
      columns = is ∙ ext_get_or 0 _ _ wide (λ k below. put_more 8 end text 0 last len front_fits same k (all k) (omega (arith, wide)));
      plain = λ ok.
          let plains = and_parts c.put_eight_at-is_end_plain.result c.put_eight_at-is_front_plain.result ok in
          let end_plain : (k : ℕ) → Done 0 last k → k < length text → PlainAt text k =
          λ k done below. plain_here 8 text last k end_fits (c.put_eight_at-is_end_plain.ensures.plain plains.0) (past_end last k done) (omega (arith, c.requires.some)) in
          plain_all text (λ k below. plain_more 8 text 0 last front_fits (c.put_eight_at-is_front_plain.ensures.plain plains.1) end_plain k (all k) below);
    }
