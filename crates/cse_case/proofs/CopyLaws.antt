-- Laws of lists that are written over in two pieces that overlap.
use Rattle.std.proofs.Common.{◌≡◌, ℕ, ◌+◌, ◌-◌, ◌≤◌, List, [], ◌++◌, length, take, drop, ap, sym, ◌∙◌, arith, append-nil, drop-drop, length-append, length-drop, length-take-le, take-append-drop}
use Rattle.std.specs.Global.{Vec}
use Rattle.std.specs.Vec.{with_items}
use Rattle.std.proofs.lemmas.List.{drop_at, take-append-le, take_all, with_items_is}
use Rattle.std.proofs.Math.ListN.{drop_of_length-le}
use Rattle.cse_case.specs.Bytes.{reaching}
use Rattle.cse_case.specs.Run.{with_columns}
use Rattle.cse_case.proofs.LaidLaws.{length-with_columns}
use Rattle.cse_case.proofs.ShortLaws.{with_further}

-- a part that was written over
pub put_there : (at end : ℕ) (columns new field : List ℕ) → new ≡ field → end ≡ at + length field → take at columns ++ (new ++ drop (end - at) (drop at columns)) ≡ with_columns at field columns
put_there at end columns new field is ends =
    let n : end - at ≡ length field = omega (arith, ends) in
    ap (λ l. take at columns ++ (l ++ drop (end - at) (drop at columns))) is
    ∙ ap (λ k. take at columns ++ (field ++ drop k (drop at columns))) n
    ∙ ap (λ l. take at columns ++ (field ++ l)) (drop-drop (length field) at columns)

-- the same of a vector
pub put_there_in : (v : Vec ℕ) (at end : ℕ) (lent new field : List ℕ) → lent ≡ v.items → new ≡ field → end ≡ at + length field → end ≤ length v.items
    → (with_items v (take at lent ++ (new ++ drop (end - at) (drop at lent)))).items ≡ with_columns at field v.items
put_there_in v at end lent new field same is ends fits =
    let e = put_there at end lent new field is ends ∙ ap (with_columns at field) same in
    with_items_is v (take at lent ++ (new ++ drop (end - at) (drop at lent))) (ap length e ∙ length-with_columns at field v.items (omega (arith, ends, fits)) ∙ sym v.ok.0) ∙ e

-- the last ones, and then the first ones
pub two_ends : (n last : ℕ) (text columns : List ℕ) → last ≡ length text - n → n ≤ length text → length text ≤ n + n → length columns ≡ length text
    → with_columns 0 (take n (drop 0 text)) (with_columns last (take n (drop last text)) columns) ≡ text
two_ends n last text columns is some few fits =
    let rest = drop last text in
    let front = take last columns in
    let rest_len : length rest ≡ n = omega (arith, is, some, length-drop last text) in
    let front_len : length front ≡ last = length-take-le last columns (omega (arith, is, fits)) in
    let piece : take n rest ≡ rest = take_all n rest (omega (arith, rest_len)) in
    let past : drop (last + length rest) columns ≡ [] = drop_of_length-le columns (omega (arith, is, some, rest_len, fits)) in
    let end : with_columns last (take n rest) columns ≡ front ++ rest =
    ap (λ l. with_columns last l columns) piece ∙ ap (λ l. front ++ (rest ++ l)) past ∙ ap (λ l. front ++ l) (append-nil rest) in
    let first_len : 0 + length (take n text) ≡ n = omega (arith, length-take-le n text some) in
    let e : n ≡ last + (n - last) = omega (arith, is, few) in
    let behind : drop n (front ++ rest) ≡ drop n text =
    ap (λ k. drop k (front ++ rest)) e ∙ sym (drop-drop (n - last) last (front ++ rest)) ∙ ap (drop (n - last)) (drop_at front rest last front_len)
    ∙ drop-drop (n - last) last text ∙ ap (λ k. drop k text) (sym e) in
    ap (λ l. take n text ++ drop (0 + length (take n text)) l) end
    ∙ ap (λ k. take n text ++ drop k (front ++ rest)) first_len
    ∙ ap (λ l. take n text ++ l) behind
    ∙ take-append-drop n text

-- what stands beside bytes and reaches as far
pub one_piece : (bytes there : List ℕ) → length bytes ≤ length there → take (length bytes) there ≡ take (length bytes) (reaching bytes there)
one_piece bytes there wide = sym (take-append-le (length bytes) there (drop (length there) bytes) wide)

-- and what doesn't, with the bytes behind it
pub two_pieces : (first : ℕ) (bytes there beside : List ℕ) → length there ≤ length bytes → first + length bytes ≤ length beside
    → with_columns (first + length there) (drop (length there) bytes) (with_columns first (take (length there) there) beside) ≡ with_columns first (take (length bytes) (reaching bytes there)) beside
two_pieces first bytes there beside few fits =
    let n = length there in
    let all = reaching bytes there in
    let whole : take n there ≡ there = take_all n there (omega arith) in
    let wide : length all ≤ length bytes = omega (arith, few, length-append there (drop n bytes), length-drop n bytes) in
    ap (λ l. with_columns (first + n) (drop n bytes) (with_columns first l beside)) whole
    ∙ with_further first there (drop n bytes) beside (omega (arith, few, fits))
    ∙ ap (λ l. with_columns first l beside) (sym (take_all (length bytes) all wide))
