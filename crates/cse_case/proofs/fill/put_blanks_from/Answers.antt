use Rattle.cse_case.proofs.LaidLaws.{length-with_columns}
use Rattle.cse_case.proofs.CopyLaws.{put_there}
use Rattle.cse_case.specs.Run.{with_columns}
use Rattle.std.proofs.lemmas.List.{drop-replicate, drop_at, length-replicate}
use Rattle.std.proofs.Math.ListN.{drop_of_length-le}
use Rattle.std.proofs.Common.{◌≡◌, ℕ, ◌+◌, ◌-◌, ◌≤◌, List, [], ◌++◌, ◌∙◌, ap, append-nil, arith, drop, drop-drop, length, length-append, length-take-le, replicate, sym, take}
use Rattle.cse_case.proofs.fill.put_blanks_from.Goals as goal

-- the last eight, written over
end_put : (columns new : List ℕ) → 8 ≤ length columns → new ≡ replicate 8 32
    → take (length columns - 8) columns ++ (new ++ drop (length columns - (length columns - 8)) (drop (length columns - 8) columns)) ≡ with_columns (length columns - 8) (replicate 8 32) columns
end_put columns new wide is = put_there (length columns - 8) (length columns) columns new (replicate 8 32) is (omega (arith, wide))

end_blanks : (columns : List ℕ) (len : ℕ) → 8 ≤ length columns → len ≤ length columns → length columns - len ≤ 8 → drop len (with_columns (length columns - 8) (replicate 8 32) columns) ≡ replicate (length columns - len) 32
end_blanks columns len wide fits few =
    let at = length columns - 8 in
    let front = take at columns in
    let front_len : length front ≡ at = length-take-le at columns (omega arith) in
    let past : drop (at + 8) columns ≡ [] = drop_of_length-le columns (omega (arith, wide)) in
    let whole : len ≡ at + (len - at) = omega (arith, few, wide) in
    let left : 8 - (len - at) ≡ length columns - len = omega (arith, few, wide, fits) in
    ap (λ l. drop len (front ++ (replicate 8 32 ++ l))) past
    ∙ ap (λ l. drop len (front ++ l)) (append-nil (replicate 8 32))
    ∙ ap (λ k. drop k (front ++ replicate 8 32)) whole
    ∙ sym (drop-drop (len - at) at (front ++ replicate 8 32))
    ∙ ap (drop (len - at)) (drop_at front (replicate 8 32) at front_len)
    ∙ drop-replicate (len - at) 8 32
    ∙ ap (λ k. replicate k 32) left

pub returns-then-width-ge8-clause-len : goal.returns-then-width-ge8-clause-len
returns-then-width-ge8-clause-len c =
    let columns = c.args.columns.now in
    ap length (end_put columns c.put_eight_blanks.new.columns c.if-width-ge8.true c.put_eight_blanks.ensures) ∙ length-with_columns (length columns - 8) (replicate 8 32) columns (omega (arith, c.if-width-ge8.true))

pub returns-then-width-ge8-clause-blanks : goal.returns-then-width-ge8-clause-blanks
returns-then-width-ge8-clause-blanks c =
    let columns = c.args.columns.now in
    ap (drop c.args.len) (end_put columns c.put_eight_blanks.new.columns c.if-width-ge8.true c.put_eight_blanks.ensures)
    ∙ end_blanks columns c.args.len c.if-width-ge8.true c.requires c.if-width-len-le8.true

pub returns-else-width-len-le8-clause-len : goal.returns-else-width-len-le8-clause-len
returns-else-width-len-le8-clause-len c =
    let front = c.split_at_mut-rest.result.0.now in
    let rest = c.split_at_mut-rest.result.1.now in
    omega (arith, length-append front c.put_blanks.new.columns, ap length c.put_blanks.ensures, length-replicate {A = ℕ} (length rest) 32, c.split_at_mut-rest.ensures.front_len, c.split_at_mut-rest.ensures.back_len)

pub returns-else-width-len-le8-clause-blanks : goal.returns-else-width-len-le8-clause-blanks
returns-else-width-len-le8-clause-blanks c =
    let rest = c.split_at_mut-rest.result.1.now in
    let left : length rest ≡ length c.args.columns.now - c.args.len = omega (arith, c.split_at_mut-rest.ensures.back_len) in
    drop_at c.split_at_mut-rest.result.0.now c.put_blanks.new.columns c.args.len c.split_at_mut-rest.ensures.front_len ∙ c.put_blanks.ensures ∙ ap (λ k. replicate k 32) left
