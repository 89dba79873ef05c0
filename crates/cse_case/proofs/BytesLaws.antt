-- Laws of columns that are kept as bytes.
use Rattle.std.proofs.Common.{◌≡◌, ℕ, ◌+◌, ◌-◌, ◌<◌, ◌≤◌, cond, ltb, Bool, true, false, List, [], ◌∷◌, ◌++◌, length, get_or, set, take, drop, zero, suc, refl, ap, sym, ◌∙◌, arith, inl, inr, ◌^◌, min, length-append, get_or-take, replicate, subst, bit_or, append_assoc, append-nil, drop-drop, length-drop, length-take-le}
use Rattle.std.specs.Str.{IsAscii}
use Rattle.std.proofs.lemmas.Bool.{cases_lt, lt-ltb, ltb-true}
use Rattle.std.proofs.lemmas.List.{drop-take, drop_at, ext_get_or, get_or_append_left, get_or_past, get_or-replicate, length-replicate, take-append-le, take-take, take_at, drop_all}
use Rattle.std.proofs.lemmas.Nat.{le_or_l, le_or_r}
use Rattle.std.proofs.lemmas.Str.{IsAscii-append, IsAscii-take}
use Rattle.cse_case.specs.Bytes.{column_by, columns_by, reaching}
use Rattle.cse_case.specs.NamedColumns.{padded}
use Rattle.cse_case.specs.Run.{with_columns}
use Rattle.cse_case.proofs.LaidLaws.{inside, length-with_columns}

pub length-columns_by : (bytes beside : List ℕ) → length (columns_by bytes beside) ≡ length bytes
unfolding columns_by
length-columns_by [] beside = refl
length-columns_by (b ∷ bytes) [] = ap suc (length-columns_by bytes [])
length-columns_by (b ∷ bytes) (c ∷ beside) = ap suc (length-columns_by bytes beside)

same_byte : (b : ℕ) → b ≡ column_by b b
same_byte b = by_cases (ltb b 128)
  where
    by_cases : (t : Bool) → b ≡ cond t b b
    by_cases true = refl
    by_cases false = refl

-- a column by its place
pub column_at : (bytes beside : List ℕ) (i : ℕ) → i < length bytes → get_or (columns_by bytes beside) i 0 ≡ column_by (get_or bytes i 0) (get_or beside i (get_or bytes i 0))
unfolding columns_by
column_at [] beside i h = absurd (omega (arith, h))
column_at (b ∷ bytes) [] zero h = same_byte b
column_at (b ∷ bytes) [] (suc i) h = column_at bytes [] i (omega arith)
column_at (b ∷ bytes) (c ∷ beside) zero h = refl
column_at (b ∷ bytes) (c ∷ beside) (suc i) h = column_at bytes beside i (omega arith)

-- columns that are these by their places
pub ext_columns : (bytes beside columns : List ℕ) → length columns ≡ length bytes → ((i : ℕ) → i < length bytes → get_or columns i 0 ≡ column_by (get_or bytes i 0) (get_or beside i (get_or bytes i 0)))
    → columns ≡ columns_by bytes beside
ext_columns bytes beside columns len h =
    ext_get_or 0 columns (columns_by bytes beside) (len ∙ sym (length-columns_by bytes beside)) (λ i below. h i (omega (arith, len)) ∙ sym (column_at bytes beside i (omega (arith, len))))

drop_nil : (n : ℕ) → drop {A = ℕ} n [] ≡ []
drop_nil zero = refl
drop_nil (suc n) = refl

pub drop-columns_by : (n : ℕ) (bytes beside : List ℕ) → columns_by (drop n bytes) (drop n beside) ≡ drop n (columns_by bytes beside)
unfolding columns_by
drop-columns_by zero bytes beside = refl
drop-columns_by (suc n) [] beside = refl
drop-columns_by (suc n) (b ∷ bytes) [] = ap (columns_by (drop n bytes)) (sym (drop_nil n)) ∙ drop-columns_by n bytes []
drop-columns_by (suc n) (b ∷ bytes) (c ∷ beside) = drop-columns_by n bytes beside

pub take-columns_by : (n : ℕ) (bytes beside : List ℕ) → columns_by (take n bytes) beside ≡ take n (columns_by bytes beside)
unfolding columns_by
take-columns_by zero bytes beside = refl
take-columns_by (suc n) [] beside = refl
take-columns_by (suc n) (b ∷ bytes) [] = ap (λ l. b ∷ l) (take-columns_by n bytes [])
take-columns_by (suc n) (b ∷ bytes) (c ∷ beside) = ap (λ l. column_by b c ∷ l) (take-columns_by n bytes beside)

-- so many of the columns from a place on
pub part-columns_by : (first n : ℕ) (bytes beside : List ℕ) → columns_by (take n (drop first bytes)) (drop first beside) ≡ take n (drop first (columns_by bytes beside))
part-columns_by first n bytes beside = take-columns_by n (drop first bytes) (drop first beside) ∙ ap (take n) (drop-columns_by first bytes beside)

-- bytes of ASCII are the columns
pub ascii-columns_by : (bytes beside : List ℕ) → IsAscii bytes → columns_by bytes beside ≡ bytes
ascii-columns_by bytes beside ascii =
    sym (ext_columns bytes beside bytes refl (λ i below. here (get_or bytes i 0) (get_or beside i (get_or bytes i 0)) (ascii i)))
  where
    here : (b c : ℕ) → b < 128 → b ≡ column_by b c
    here b c h = rw (lt-ltb b 128 h) refl

-- the room beside the bytes is the same as far as they reach
pub beside-columns_by : (bytes beside other : List ℕ) → length bytes ≤ length beside → ((i : ℕ) → i < length bytes → get_or other i (get_or bytes i 0) ≡ get_or beside i (get_or bytes i 0))
    → columns_by bytes other ≡ columns_by bytes beside
beside-columns_by bytes beside other room h =
    ext_columns bytes beside (columns_by bytes other) (length-columns_by bytes other) (λ i below. column_at bytes other i below ∙ ap (column_by (get_or bytes i 0)) (h i below))

pub append-columns_by : (xs ys beside : List ℕ) → columns_by (xs ++ ys) beside ≡ columns_by xs beside ++ columns_by ys (drop (length xs) beside)
unfolding columns_by
append-columns_by [] ys beside = refl
append-columns_by (x ∷ xs) ys [] = ap (λ l. x ∷ l) (append-columns_by xs ys [] ∙ ap (λ r. columns_by xs [] ++ columns_by ys r) (drop_nil (length xs)))
append-columns_by (x ∷ xs) ys (c ∷ beside) = ap (λ l. column_by x c ∷ l) (append-columns_by xs ys beside)

-- a byte beyond ASCII
pub not_ascii : (b : ℕ) → (b < 128 → ⊥) → ltb b 128 ≡ false
not_ascii b h = by_cases (ltb b 128) refl
  where
    by_cases : (t : Bool) → ltb b 128 ≡ t → ltb b 128 ≡ false
    by_cases true e = absurd (h (ltb-true b 128 e))
    by_cases false e = e

-- a column of ASCII is written as a byte
pub set_plain : (bytes beside : List ℕ) (i c : ℕ) → c < 128 → columns_by (set bytes i c) beside ≡ set (columns_by bytes beside) i c
unfolding columns_by
set_plain [] beside i c h = refl
set_plain (b ∷ bytes) [] zero c h = refl
set_plain (b ∷ bytes) [] (suc i) c h = ap (λ l. b ∷ l) (set_plain bytes [] i c h)
set_plain (b ∷ bytes) (d ∷ beside) zero c h = ap (λ t. cond t c d ∷ columns_by bytes beside) (lt-ltb c 128 h)
set_plain (b ∷ bytes) (d ∷ beside) (suc i) c h = ap (λ l. column_by b d ∷ l) (set_plain bytes beside i c h)

-- and one beyond ASCII as the mark, with the character beside it
pub set_beyond : (bytes beside : List ℕ) (i c : ℕ) → i < length beside → columns_by (set bytes i 255) (set beside i c) ≡ set (columns_by bytes beside) i c
unfolding columns_by
set_beyond [] beside i c h = refl
set_beyond (b ∷ bytes) [] i c h = absurd (omega (arith, h))
set_beyond (b ∷ bytes) (d ∷ beside) zero c h = refl
set_beyond (b ∷ bytes) (d ∷ beside) (suc i) c h = ap (λ l. column_by b d ∷ l) (set_beyond bytes beside i c (omega arith))

-- bytes of ASCII are written in place of others
pub with_ascii : (at : ℕ) (field bytes beside : List ℕ) → IsAscii field → at + length field ≤ length bytes → columns_by (with_columns at field bytes) beside ≡ with_columns at field (columns_by bytes beside)
with_ascii at field bytes beside ascii fits =
    let n = length field in
    let front : length (take at bytes) ≡ at = length-take-le at bytes (omega (arith, fits)) in
    append-columns_by (take at bytes) (field ++ drop (at + n) bytes) beside
    ∙ ap (λ l. l ++ columns_by (field ++ drop (at + n) bytes) (drop (length (take at bytes)) beside)) (take-columns_by at bytes beside)
    ∙ ap (λ k. take at (columns_by bytes beside) ++ columns_by (field ++ drop (at + n) bytes) (drop k beside)) front
    ∙ ap (λ l. take at (columns_by bytes beside) ++ l) (append-columns_by field (drop (at + n) bytes) (drop at beside)
    ∙ ap (λ l. l ++ columns_by (drop (at + n) bytes) (drop n (drop at beside))) (ascii-columns_by field (drop at beside) ascii)
    ∙ ap (λ l. field ++ l) (ap (columns_by (drop (at + n) bytes)) (drop-drop n at beside) ∙ drop-columns_by (at + n) bytes beside))

pub IsAscii-blanks : (n : ℕ) → IsAscii (replicate n 32)
IsAscii-blanks n k = elim (cases_lt k n) [
  | inl h ↦ subst (λ x. x < 128) (sym (get_or-replicate n k 32 0 h)) (omega arith)
  | inr h ↦ subst (λ x. x < 128) (sym (get_or_past (replicate n 32) k 0 (omega (arith, h, length-replicate {A = ℕ} n 32)))) (omega arith)
]

-- what stands behind bytes that are a text and blanks
pub behind_bytes : (bytes beside text : List ℕ) → bytes ≡ padded (length bytes) text → length text ≤ length bytes
    → drop (length text) (columns_by bytes beside) ≡ replicate (length (columns_by bytes beside) - length text) 32
behind_bytes bytes beside text over fits =
    let n = length text in
    let blanks = replicate (length bytes - n) 32 in
    sym (drop-columns_by n bytes beside)
    ∙ ap (λ l. columns_by l (drop n beside)) (ap (drop n) over ∙ drop_at text blanks n refl)
    ∙ ascii-columns_by blanks (drop n beside) (IsAscii-blanks (length bytes - n))
    ∙ ap (λ k. replicate (k - n) 32) (sym (length-columns_by bytes beside))

-- and what stands in front, where it is ASCII
pub front_bytes : (bytes beside text : List ℕ) (at : ℕ) → bytes ≡ padded (length bytes) text → at ≤ length text → IsAscii (take at text) → take at (columns_by bytes beside) ≡ take at text
front_bytes bytes beside text at over fits ascii =
    sym (take-columns_by at bytes beside)
    ∙ ap (λ l. columns_by l beside) (ap (take at) over ∙ take-append-le at text (replicate (length bytes - length text) 32) fits)
    ∙ ascii-columns_by (take at text) beside ascii

-- columns in front, and blanks behind them
pub blanked_behind : (bytes beside all : List ℕ) (more : ℕ) → length all ≤ length bytes → take (length all) (columns_by bytes beside) ≡ all → columns_by (take (length all) bytes ++ replicate more 32) beside ≡ all ++ replicate more 32
blanked_behind bytes beside all more fits is =
    let n = length all in
    append-columns_by (take n bytes) (replicate more 32) beside
    ∙ ap (λ l. l ++ columns_by (replicate more 32) (drop (length (take n bytes)) beside)) (take-columns_by n bytes beside ∙ is)
    ∙ ap (λ l. all ++ l) (ascii-columns_by (replicate more 32) (drop (length (take n bytes)) beside) (IsAscii-blanks more))

-- columns that were made longer, beside which stands what stood there
pub grown : (bytes longer beside wider : List ℕ) → take (length bytes) longer ≡ bytes → wider ≡ beside → (n : ℕ) → n ≤ length bytes → take n (columns_by longer wider) ≡ take n (columns_by bytes beside)
grown bytes longer beside wider same_bytes same_beside n fits =
    let front : take n longer ≡ take n bytes = sym (take-take n (length bytes) longer fits) ∙ ap (take n) same_bytes in
    ap (λ l. take n (columns_by longer l)) same_beside ∙ sym (take-columns_by n longer beside) ∙ ap (λ l. columns_by l beside) front ∙ take-columns_by n bytes beside

-- bytes beside themselves
self_beside : (bytes : List ℕ) (n : ℕ) → columns_by bytes (take n bytes) ≡ columns_by bytes []
unfolding columns_by
self_beside [] n = refl
self_beside (b ∷ bytes) zero = refl
self_beside (b ∷ bytes) (suc n) = ap (λ c. c ∷ columns_by bytes (take n bytes)) (sym (same_byte b)) ∙ ap (λ l. b ∷ l) (self_beside bytes n)

-- the columns stay where bytes stand beside themselves, behind what stood there
pub reaching-columns_by : (n : ℕ) (bytes beside : List ℕ) → columns_by bytes (reaching (take n bytes) beside) ≡ columns_by bytes beside
unfolding columns_by
reaching-columns_by n [] beside = refl
reaching-columns_by n (b ∷ bytes) [] = self_beside (b ∷ bytes) n
reaching-columns_by zero (b ∷ bytes) (c ∷ beside) = ap (λ l. column_by b c ∷ columns_by bytes l) (append-nil beside)
reaching-columns_by (suc n) (b ∷ bytes) (c ∷ beside) = ap (λ l. column_by b c ∷ l) (reaching-columns_by n bytes beside)

-- what stands there, and behind it the next bytes
pub reached : (n : ℕ) (bytes beside new : List ℕ) → length beside ≤ n → new ≡ beside ++ take (n - length beside) (drop (length beside) bytes) → new ≡ reaching (take n bytes) beside
reached n bytes beside new fits is =
    let all : n ≡ length beside + (n - length beside) = omega (arith, fits) in
    is ∙ ap (λ l. beside ++ l) (sym (ap (λ k. drop (length beside) (take k bytes)) all ∙ drop-take (length beside) (n - length beside) bytes))

-- and it reaches as far as the bytes
pub length-reaching : (bytes beside : List ℕ) → length bytes ≤ length (reaching bytes beside)
length-reaching bytes beside = omega (arith, length-append beside (drop (length beside) bytes), length-drop (length beside) bytes)

-- so many columns are there
pub taken_len : (n : ℕ) (bytes beside : List ℕ) → n ≤ length bytes → length (take n (columns_by bytes beside)) ≡ n
taken_len n bytes beside h = length-take-le n (columns_by bytes beside) (omega (arith, h, length-columns_by bytes beside))

pub IsAscii-padded : (width : ℕ) (text : List ℕ) → IsAscii text → IsAscii (padded width text)
IsAscii-padded width text ascii = IsAscii-append text (replicate (width - length text) 32) ascii (IsAscii-blanks (width - length text))

-- what stands beside bytes further on
pub further_beside : (first n at : ℕ) (beside : List ℕ) → length beside < 2 ^ 64 → at ≡ min (first + n) (2 ^ 64 - 1) → drop at beside ≡ drop n (drop first beside)
further_beside first n at beside small is = elim (cases_lt (first + n) (2 ^ 64)) [
  | inl low ↦ (let e : at ≡ first + n = omega (arith, is, low) in ap (λ k. drop k beside) e ∙ sym (drop-drop n first beside))
  | inr high ↦ drop_all at beside (omega (arith, is, high, small)) ∙ sym (drop-drop n first beside ∙ drop_all (first + n) beside (omega (arith, small, high)))
]

-- columns that are as wide already
pub padded_wide : (width : ℕ) (columns : List ℕ) → width ≤ length columns → columns ≡ padded width columns
padded_wide width columns h =
    let none : width - length columns ≡ 0 = omega arith in
    sym (ap (λ k. columns ++ replicate {A = ℕ} k 32) none ∙ append-nil columns)

-- what was written behind the first columns
pub take_with : (at : ℕ) (field columns : List ℕ) → at + length field ≤ length columns → take (at + length field) (with_columns at field columns) ≡ take at columns ++ field
take_with at field columns h =
    let front = take at columns in
    let rest = drop (at + length field) columns in
    let len : length front ≡ at = length-take-le at columns (omega (arith, h)) in
    ap (take (at + length field)) (sym (append_assoc front field rest))
    ∙ take_at (front ++ field) rest (at + length field) (length-append front field ∙ (let e : length front + length field ≡ at + length field = omega (arith, len) in e))

-- and the first columns are as before
pub take_before : (at : ℕ) (field columns : List ℕ) → at ≤ length columns → take at (with_columns at field columns) ≡ take at columns
take_before at field columns h = take_at (take at columns) (field ++ drop (at + length field) columns) at (length-take-le at columns h)

-- what stands further beside them doesn't count
beside_more : (bytes beside rest : List ℕ) → length bytes ≤ length beside → columns_by bytes (beside ++ rest) ≡ columns_by bytes beside
beside_more bytes beside rest room =
    beside-columns_by bytes beside (beside ++ rest) room (λ i below. get_or_append_left beside rest (get_or bytes i 0) i (omega (arith, below, room)))

-- so many of the columns, with as much beside them
pub taken_beside : (n : ℕ) (bytes beside : List ℕ) → n ≤ length bytes → n ≤ length beside → columns_by (take n bytes) (take n beside) ≡ take n (columns_by bytes beside)
taken_beside n bytes beside fits room =
    let len : length (take n bytes) ≡ n = length-take-le n bytes fits in
    beside-columns_by (take n bytes) beside (take n beside) (omega (arith, len, fits, room)) (λ i below. get_or-take n beside i (get_or (take n bytes) i 0) (omega (arith, below, len)))
    ∙ take-columns_by n bytes beside

pub taken_reaching : (n : ℕ) (bytes beside : List ℕ) → n ≤ length bytes → columns_by (take n bytes) (take n (reaching (take n bytes) beside)) ≡ take n (columns_by bytes beside)
taken_reaching n bytes beside fits =
    let len : length (take n bytes) ≡ n = length-take-le n bytes fits in
    taken_beside n bytes (reaching (take n bytes) beside) fits (omega (arith, len, length-reaching (take n bytes) beside)) ∙ ap (take n) (reaching-columns_by n bytes beside)

pub over_ascii : (at : ℕ) (text there bytes beside : List ℕ) → IsAscii text → at + length text ≤ length bytes
    → columns_by (with_columns at text bytes) beside ≡ with_columns at (columns_by text there) (columns_by bytes beside)
over_ascii at text there bytes beside ascii fits =
    with_ascii at text bytes beside ascii fits ∙ ap (λ l. with_columns at l (columns_by bytes beside)) (sym (ascii-columns_by text there ascii))

pub over_beside : (at : ℕ) (text piece bytes beside : List ℕ) → length piece ≡ length text → at + length text ≤ length bytes → at + length text ≤ length beside
    → columns_by (with_columns at text bytes) (with_columns at piece beside) ≡ with_columns at (columns_by text piece) (columns_by bytes beside)
over_beside at text piece bytes beside same_len fits room =
    let n = length text in
    let own = columns_by text piece in
    let own_len : length own ≡ n = length-columns_by text piece in
    let all = columns_by bytes beside in
    let left = take at bytes in
    let left_len : length left ≡ at = length-take-le at bytes (omega (arith, fits)) in
    let rest = drop (at + n) bytes in
    let new = with_columns at piece beside in
    let behind = drop (at + length piece) beside in
    let new_behind : drop at new ≡ piece ++ behind = drop_at (take at beside) (piece ++ behind) at (length-take-le at beside (omega (arith, fits, room))) in
    let front : columns_by left new ≡ take at all =
    beside-columns_by left beside new (omega (arith, left_len, fits, room)) (λ i below.
    let d = get_or left i 0 in
    let low : i < at = omega (arith, below, left_len) in
    sym (get_or-take at new i d low) ∙ ap (λ l. get_or l i d) (take_before at piece beside (omega (arith, fits, room))) ∙ get_or-take at beside i d low)
    ∙ take-columns_by at bytes beside in
    let same : at + length piece ≡ at + n = omega (arith, same_len) in
    let wide : at + length own ≡ at + n = omega (arith, own_len) in
    let last : columns_by rest behind ≡ drop (at + length own) all =
    ap (λ k. columns_by rest (drop k beside)) same ∙ drop-columns_by (at + n) bytes beside ∙ ap (λ k. drop k all) (sym wide) in
    append-columns_by left (text ++ rest) new
    ∙ ap (λ l. l ++ columns_by (text ++ rest) (drop (length left) new)) front
    ∙ ap (λ k. take at all ++ columns_by (text ++ rest) (drop k new)) left_len
    ∙ ap (λ l. take at all ++ columns_by (text ++ rest) l) new_behind
    ∙ ap (λ l. take at all ++ l) (append-columns_by text rest (piece ++ behind)
    ∙ ap (λ l. l ++ columns_by rest (drop n (piece ++ behind))) (beside_more text piece behind (omega (arith, same_len)))
    ∙ ap (λ l. own ++ columns_by rest l) (drop_at piece behind n same_len)
    ∙ ap (λ l. own ++ l) last)

-- what was written is there, and what stands behind it stays
behind : (at : ℕ) (field bytes : List ℕ) → at ≤ length bytes → drop (at + length field) (with_columns at field bytes) ≡ drop (at + length field) bytes
behind at field bytes h =
    let front = take at bytes in
    let rest = drop (at + length field) bytes in
    let len : length front ≡ at = length-take-le at bytes h in
    ap (drop (at + length field)) (sym (append_assoc front field rest))
    ∙ drop_at (front ++ field) rest (at + length field) (length-append front field ∙ (let e : length front + length field ≡ at + length field = omega (arith, len) in e))

pub written_again : (at : ℕ) (field other bytes : List ℕ) → length other ≡ length field → at ≤ length bytes → with_columns at other (with_columns at field bytes) ≡ with_columns at other bytes
written_again at field other bytes len h =
    ap (λ l. l ++ (other ++ drop (at + length other) (with_columns at field bytes))) (take_before at field bytes h)
    ∙ ap (λ k. take at bytes ++ (other ++ drop (at + k) (with_columns at field bytes))) len
    ∙ ap (λ l. take at bytes ++ (other ++ l)) (behind at field bytes h)
    ∙ ap (λ k. take at bytes ++ (other ++ drop (at + k) bytes)) (sym len)

-- columns that are written over the columns of bytes which were written over there
over_bytes : (at : ℕ) (text columns bytes beside : List ℕ) → length columns ≡ length text → at ≤ length bytes
    → with_columns at columns (columns_by (with_columns at text bytes) beside) ≡ with_columns at columns (columns_by bytes beside)
over_bytes at text columns bytes beside len h =
    let new = with_columns at text bytes in
    ap (λ l. l ++ (columns ++ drop (at + length columns) (columns_by new beside))) (sym (take-columns_by at new beside) ∙ ap (λ l. columns_by l beside) (take_before at text bytes h) ∙ take-columns_by at bytes beside)
    ∙ ap (λ k. take at (columns_by bytes beside) ++ (columns ++ drop (at + k) (columns_by new beside))) len
    ∙ ap (λ l. take at (columns_by bytes beside) ++ (columns ++ l)) (sym (drop-columns_by (at + length text) new beside) ∙ ap (λ l. columns_by l (drop (at + length text) beside)) (behind at text bytes h) ∙ drop-columns_by (at + length text) bytes beside)
    ∙ ap (λ k. take at (columns_by bytes beside) ++ (columns ++ drop (at + k) (columns_by bytes beside))) (sym len)

-- bytes that are written there, and then what stands beside them over as much that stands there
pub over_reaching : (at : ℕ) (text piece bytes beside wider : List ℕ) → length piece ≡ length text → at + length text ≤ length bytes → at + length text ≤ length wider
    → columns_by (with_columns at text bytes) wider ≡ columns_by (with_columns at text bytes) beside
    → columns_by (with_columns at text bytes) (with_columns at piece wider) ≡ with_columns at (columns_by text piece) (columns_by bytes beside)
over_reaching at text piece bytes beside wider len fits reaches same =
    let new = with_columns at text bytes in
    let here : at ≤ length bytes = omega (arith, fits) in
    ap (λ l. columns_by l (with_columns at piece wider)) (sym (written_again at text text bytes refl here))
    ∙ over_beside at text piece new wider len (omega (arith, fits, length-with_columns at text bytes fits)) reaches
    ∙ ap (with_columns at (columns_by text piece)) same
    ∙ over_bytes at text (columns_by text piece) bytes beside (length-columns_by text piece) here

-- a field that is written among the first columns
pub view_with : (len at : ℕ) (field columns : List ℕ) → at + length field ≤ len → len ≤ length columns → take len (with_columns at field columns) ≡ with_columns at field (take len columns)
view_with len at field columns h k =
    let here : at ≡ 0 + at = omega arith in
    ap (λ p. take len (with_columns p field columns)) here ∙ inside at 0 len field columns h (omega (arith, k))

-- bytes of ASCII that are written there
pub ascii_view : (len at : ℕ) (field bytes beside : List ℕ) → IsAscii field → at + length field ≤ len → len ≤ length bytes → take len (columns_by (with_columns at field bytes) beside) ≡ with_columns at field (take len (columns_by bytes beside))
ascii_view len at field bytes beside ascii h k =
    ap (take len) (with_ascii at field bytes beside ascii (omega (arith, h, k))) ∙ view_with len at field (columns_by bytes beside) h (omega (arith, k, length-columns_by bytes beside))

-- columns that begin with the same bytes of ASCII
pub same_columns : (n : ℕ) (a there b here : List ℕ) → take n a ≡ take n b → IsAscii (take n a) → take n (columns_by a there) ≡ take n (columns_by b here)
same_columns n a there b here same ascii =
    sym (take-columns_by n a there) ∙ ascii-columns_by (take n a) there ascii ∙ same
    ∙ sym (ascii-columns_by (take n b) here (subst IsAscii same ascii)) ∙ take-columns_by n b here

-- a text of ASCII that begins as the bytes from a place on begins as the columns there
pub begins_columns : (first width : ℕ) (bytes beside columns text : List ℕ) → columns ≡ columns_by bytes beside → take (length (take width (drop first bytes))) text ≡ take width (drop first bytes) → IsAscii text
    → take (length (take width (drop first columns))) text ≡ take width (drop first columns)
begins_columns first width bytes beside columns text are begins ascii =
    let piece = take width (drop first bytes) in
    let same : take width (drop first columns) ≡ piece =
    ap (λ l. take width (drop first l)) are ∙ sym (part-columns_by first width bytes beside)
    ∙ ascii-columns_by piece (drop first beside) (subst IsAscii begins (IsAscii-take text (length piece) ascii)) in
    ap (λ l. take (length l) text) same ∙ begins ∙ sym same

pub four_ascii : (w x y z : ℕ) → bit_or (bit_or (bit_or w x) y) z < 128 → IsAscii (w ∷ x ∷ y ∷ z ∷ [])
four_ascii w x y z low zero = omega (arith, le_or_l w x, le_or_l (bit_or w x) y, le_or_l (bit_or (bit_or w x) y) z, low)
four_ascii w x y z low (suc zero) = omega (arith, le_or_r w x, le_or_l (bit_or w x) y, le_or_l (bit_or (bit_or w x) y) z, low)
four_ascii w x y z low (suc (suc zero)) = omega (arith, le_or_r (bit_or w x) y, le_or_l (bit_or (bit_or w x) y) z, low)
four_ascii w x y z low (suc (suc (suc zero))) = omega (arith, le_or_r (bit_or (bit_or w x) y) z, low)
four_ascii w x y z low (suc (suc (suc (suc k)))) = omega arith

pub ascii_of_four : (a : List ℕ) → length a ≡ 4 → bit_or (bit_or (bit_or (get_or a 0 0) (get_or a 1 0)) (get_or a 2 0)) (get_or a 3 0) < 128 → IsAscii a
ascii_of_four (w ∷ x ∷ y ∷ z ∷ []) len low = four_ascii w x y z low
ascii_of_four [] len low = absurd (omega (arith, len))
ascii_of_four (w ∷ []) len low = absurd (omega (arith, len))
ascii_of_four (w ∷ x ∷ []) len low = absurd (omega (arith, len))
ascii_of_four (w ∷ x ∷ y ∷ []) len low = absurd (omega (arith, len))
ascii_of_four (w ∷ x ∷ y ∷ z ∷ v ∷ a) len low = absurd (omega (arith, len))
