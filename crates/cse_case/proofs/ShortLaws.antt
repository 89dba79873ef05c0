-- Laws of characters that are written in one or two bytes.
use Rattle.std.proofs.Common.{◌≡◌, ℕ, ◌+◌, ◌-◌, ◌*◌, ◌/◌, ◌%◌, ◌≤◌, true, List, [], ◌∷◌, ◌++◌, refl, sym, ap, subst, ◌∙◌, arith, append-nil, le-ltb, lt-ltb, Option, Some, None}
use Rattle.std.specs.Prelude.{IfSome}
use Rattle.std.specs.Option.{SomeIff}
use Rattle.std.specs.Char.{IsScalar, encode_utf8}
use Rattle.std.specs.Str.{IsUtf8, chars, is_utf8}
use lib.Utf8.{scalars}
use Rattle.std.proofs.Common.{append_assoc, drop, drop-drop, length}
use Rattle.std.proofs.lemmas.List.{drop_at, take_at}
use Rattle.std.specs.Str.{IsAscii}
use Rattle.std.proofs.lemmas.Str.{IsUtf8-from_ascii, chars-IsAscii}
use Rattle.cse_case.specs.Bytes.{columns_by}
use Rattle.cse_case.specs.Run.{with_columns}
use Rattle.cse_case.proofs.BytesLaws.{with_ascii}
use Rattle.cse_case.proofs.DecodeLaws.{set_behind}
use Rattle.std.proofs.Common.{get_or, inl, inr, map, set, take, ◌<◌, length-append, length-drop, length-take-le, take-add, take-append-drop}
use Rattle.std.specs.List.{prefix_len}
use Rattle.std.specs.Prelude.{not}
use Rattle.std.specs.Simd.Lanes.{chunk, mask_l}
use lib.Count.{count_trailing_zeros}
use Rattle.memchr.proofs.lemmas.LaneLemmas.{is_set}
use Rattle.std.proofs.lemmas.Bool.{cases_eq, leb-false}
use Rattle.std.proofs.lemmas.Simd.{length-chunk, none_from_empty_mask, run_in_chunk_fails, trailing_mask_l}
use Rattle.std.proofs.lemmas.Str.{IsUtf8-append, IsUtf8-encode, IsUtf8-from_is_utf8, chars-append, chars-encodes, is_utf8-from_IsUtf8}

pub two_bytes : (lead other : ℕ) → 194 ≤ lead → lead ≤ 223 → 128 ≤ other → other ≤ 191 → encode_utf8 ((lead - 192) * 64 + (other - 128)) ≡ lead ∷ other ∷ []
unfolding encode_utf8
two_bytes lead other low high least most =
    let c = (lead - 192) * 64 + (other - 128) in
    let first : 192 + c / 64 ≡ lead = omega arith in
    let last : 128 + c % 64 ≡ other = omega arith in
    rw (le-ltb c 128 (omega arith), lt-ltb c 2048 (omega arith), first, last)

chars-encode : (c : ℕ) → IsScalar c → chars (encode_utf8 c) ≡ c ∷ []
chars-encode c h =
    let one : scalars (c ∷ []) ≡ true = rw h refl in
    ap chars (sym (append-nil (encode_utf8 c))) ∙ chars-encodes (c ∷ []) one

-- a front of a text, and the character behind it
pub chars_next : (front more : List ℕ) (c : ℕ) → is_utf8 front ≡ true → IsScalar c → more ≡ front ++ encode_utf8 c → chars more ≡ chars front ++ c ∷ []
chars_next front more c utf8 h is =
    ap chars is ∙ chars-append front (encode_utf8 c) (IsUtf8-from_is_utf8 front utf8) ∙ ap (λ l. chars front ++ l) (chars-encode c h)

pub utf8_next : (front more : List ℕ) (c : ℕ) → is_utf8 front ≡ true → IsScalar c → more ≡ front ++ encode_utf8 c → is_utf8 more ≡ true
utf8_next front more c utf8 h is =
    is_utf8-from_IsUtf8 more (subst IsUtf8 (sym is) (IsUtf8-append front (encode_utf8 c) (IsUtf8-from_is_utf8 front utf8) (IsUtf8-encode c h)))

-- the character of two bytes, if a number is one
pub of_two : (found : Option ℕ) (lead other : ℕ) → 194 ≤ lead → lead ≤ 223 → 128 ≤ other → other ≤ 191 → SomeIff found (IsScalar ((lead - 192) * 64 + (other - 128))) ((lead - 192) * 64 + (other - 128))
    → IfSome found (λ c. encode_utf8 c ≡ lead ∷ other ∷ [])
of_two None lead other low high least most s = tt
of_two (Some c) lead other low high least most s = ap encode_utf8 s.1 ∙ two_bytes lead other low high least most

-- a front of a text, and the bytes of ASCII behind it
pub chars_more : (front more piece : List ℕ) → is_utf8 front ≡ true → IsAscii piece → more ≡ front ++ piece → chars more ≡ chars front ++ piece
chars_more front more piece utf8 ascii is =
    ap chars is ∙ chars-append front piece (IsUtf8-from_is_utf8 front utf8) ∙ ap (λ l. chars front ++ l) (chars-IsAscii piece ascii)

pub utf8_more : (front more piece : List ℕ) → is_utf8 front ≡ true → IsAscii piece → more ≡ front ++ piece → is_utf8 more ≡ true
utf8_more front more piece utf8 ascii is =
    is_utf8-from_IsUtf8 more (subst IsUtf8 (sym is) (IsUtf8-append front piece (IsUtf8-from_is_utf8 front utf8) (IsUtf8-from_ascii piece ascii)))

-- columns that are written behind those in front
pub with_behind : (front columns field : List ℕ) (n : ℕ) → n ≡ length front → with_columns n field (front ++ drop n columns) ≡ (front ++ field) ++ drop (n + length field) columns
with_behind front columns field n is =
    let k = length field in
    let rest = drop n columns in
    let behind : drop (n + k) (front ++ rest) ≡ drop (n + k) columns =
    sym (drop-drop k n (front ++ rest)) ∙ ap (drop k) (drop_at front rest n (sym is)) ∙ drop-drop k n columns in
    ap (λ l. l ++ (field ++ drop (n + k) (front ++ rest))) (take_at front rest n (sym is))
    ∙ ap (λ l. front ++ (field ++ l)) behind
    ∙ sym (append_assoc front field (drop (n + k) columns))

-- the bytes before the first one whose bit is set
pub before_mask : (text : List ℕ) (n mask at : ℕ) → length text ≡ n → n ≤ 64 → mask ≡ mask_l (map is_set (chunk 0 n text)) → at ≡ count_trailing_zeros 64 mask
    → (k : ℕ) → k < at → k < n → get_or text k 0 < 128
unfolding count_trailing_zeros
before_mask text n mask at len few is found k low below =
    let part : length (chunk 0 n text) ≡ n = length-chunk 0 n text (omega (arith, len)) in
    elim (cases_eq mask 0) [
      | inl none ↦ leb-false 128 (get_or text k 0) (none_from_empty_mask is_set text 0 n 0 (omega (arith, len)) (sym is ∙ none) k (omega arith) (omega arith))
      | inr some ↦
          let counted : at ≡ prefix_len (λ x. not (is_set x)) (chunk 0 n text) = found ∙ ap (count_trailing_zeros 64) is ∙ trailing_mask_l is_set 64 (chunk 0 n text) (omega (arith, part)) (omega (arith, is)) in
          leb-false 128 (get_or text k 0) (run_in_chunk_fails is_set text 0 n at 0 (omega (arith, len)) counted k (omega arith) (omega arith))
    ]

-- nothing is written
pub with_none : (at : ℕ) (columns : List ℕ) → with_columns at [] columns ≡ columns
with_none at columns = (let e : at + 0 ≡ at = omega arith in ap (λ n. take at columns ++ drop n columns) e) ∙ take-append-drop at columns

-- columns that are written behind others that were written
pub with_further : (at : ℕ) (field more columns : List ℕ) → at + length field ≤ length columns → with_columns (at + length field) more (with_columns at field columns) ≡ with_columns at (field ++ more) columns
with_further at field more columns fits =
    let n = at + length field in
    let front = take at columns ++ field in
    let len : n ≡ length front = omega (arith, length-append (take at columns) field, length-take-le at columns (omega (arith, fits))) in
    let end : n + length more ≡ at + length (field ++ more) = omega (arith, length-append field more) in
    ap (with_columns n more) (sym (append_assoc (take at columns) field (drop n columns)))
    ∙ with_behind front columns more n len
    ∙ ap (λ k. (front ++ more) ++ drop k columns) end
    ∙ append_assoc front more (drop (at + length (field ++ more)) columns)
    ∙ append_assoc (take at columns) field (more ++ drop (at + length (field ++ more)) columns)
    ∙ ap (λ l. take at columns ++ l) (sym (append_assoc field more (drop (at + length (field ++ more)) columns)))

-- the next pieces of a text
pub next_piece : (text : List ℕ) (at count : ℕ) → take count (drop at text) ++ take 8 (drop (at + count) text) ≡ take (count + 8) (drop at text)
next_piece text at count = ap (λ l. take count (drop at text) ++ take 8 l) (sym (drop-drop count at text)) ∙ sym (take-add count 8 (drop at text))

-- what was written of a text, with one character more
pub one_char : (text first all new : List ℕ) (at len size column : ℕ) → is_utf8 (take at text) ≡ true → len ≡ length (chars (take at text)) → all ≡ chars (take at text) ++ drop len first → len < length first
    → IsScalar column → take (at + size) text ≡ take at text ++ encode_utf8 column → new ≡ set all len column
    → (is_utf8 (take (at + size) text) ≡ true) × (len + 1 ≡ length (chars (take (at + size) text))) × (new ≡ chars (take (at + size) text) ++ drop (len + 1) first)
one_char text first all new at len size column utf8 count were room scalar written wrote =
    let front = take at text in
    let is = chars_next front (take (at + size) text) column utf8 scalar written in (
      utf8_next front (take (at + size) text) column utf8 scalar written,
      omega (arith, count, ap length is, length-append (chars front) (column ∷ [])),
      wrote ∙ ap (λ l. set l len column) were ∙ set_behind (chars front) first len column count room ∙ ap (λ l. l ++ drop (len + 1) first) (sym is),
    )

-- and with bytes of ASCII more
pub more_bytes : (text first bytes beside new : List ℕ) (at len n : ℕ) → is_utf8 (take at text) ≡ true → len ≡ length (chars (take at text)) → columns_by bytes beside ≡ chars (take at text) ++ drop len first
    → at + n ≤ length text → IsAscii (take n (drop at text)) → len + n ≤ length bytes → new ≡ with_columns len (take n (drop at text)) bytes
    → (is_utf8 (take (at + n) text) ≡ true) × (len + n ≡ length (chars (take (at + n) text))) × (columns_by new beside ≡ chars (take (at + n) text) ++ drop (len + n) first)
more_bytes text first bytes beside new at len n utf8 count were within ascii room wrote =
    let front = take at text in
    let piece = take n (drop at text) in
    let long : length piece ≡ n = length-take-le n (drop at text) (omega (arith, within, length-drop at text)) in
    let more : take (at + n) text ≡ front ++ piece = take-add at n text in
    let is = chars_more front (take (at + n) text) piece utf8 ascii more in (
      utf8_more front (take (at + n) text) piece utf8 ascii more,
      omega (arith, count, ap length is, length-append (chars front) piece, long),
      ap (λ l. columns_by l beside) wrote
          ∙ with_ascii len piece bytes beside ascii (omega (arith, long, room))
          ∙ ap (with_columns len piece) were
          ∙ with_behind (chars front) first piece len count
          ∙ ap (λ l. l ++ drop (len + length piece) first) (sym is)
          ∙ ap (λ k. chars (take (at + n) text) ++ drop (len + k) first) long,
    )
