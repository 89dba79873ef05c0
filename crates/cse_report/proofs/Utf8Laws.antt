-- What messages are made of is UTF-8.
use Rattle.std.proofs.Common.{◌≡◌, ℕ, zero, suc, ◌+◌, ◌<◌, ◌≤◌, true, false, Bool, eqb, cond, List, [], ◌∷◌, ◌++◌, length, drop, take, get_or, replicate, Option, Some, None, option_map, pos, negsuc, refl, ap, sym, ◌∙◌, subst, append-nil, inl, inr, arith}
use Rattle.std.specs.Prelude.{ℤ, map}
use Rattle.std.specs.List.{prefix_len}
use Rattle.std.specs.Option.{unwrap_or}
use Rattle.std.specs.Fmt.{decimal, signed_decimal}
use Rattle.std.specs.Str.{IsUtf8, IsAscii, encode_utf8_all, all_scalars}
use Rattle.std.specs.Char.{encode_utf8, IsScalar}
use lib.Utf8.{scalar}
use Rattle.std.proofs.lemmas.Str.{IsUtf8-nil, IsUtf8-append, IsUtf8-encode, IsUtf8-drop, IsUtf8-from_ascii, IsAscii-append, IsCharBoundary-after_ascii, encode_ascii, inside_one, length-encode, len_utf8_bounds, encodes-append}
use Rattle.std.proofs.lemmas.List.{get_or-drop, length-drop, length-append, take_more, map-append}
use Rattle.std.proofs.lemmas.Bool.{cond_both, cond-false, eqb-true, ne_eqb, and_parts, cases_lt}
use Rattle.std.proofs.lemmas.Str.Ascii.{IsAscii-cons}
use Rattle.cse_lemmas.proofs.Texts.{IsAscii-replicate}
use Rattle.cse_value.specs.Field.{filled}
use Rattle.cse_image_parts.specs.declared.placeholders.Piece.{Piece}
use Rattle.cse_image_parts.specs.declared.placeholders.Piece.TheVariants as pieces
use Rattle.cse_image_parts.specs.Placeholders.{is_digit, width_of, number_of, piece_of, marked, piece_at, pieces_of, pieces_after}
use Rattle.cse_image_parts.proofs.PieceLaws.{next_piece}
use Rattle.cse_report.specs.declared.argument.Arg.{Arg}
use Rattle.cse_report.specs.MessageText.{text_of_pieces, piece_text, arguments_after, message_text}
use Rattle.cse_report.specs.Filling.{IsPlaced, ArePlaced}

-- ---- numbers

pub aligned_utf8 : (room : ℕ) (text : List ℕ) → IsUtf8 text → IsUtf8 (replicate room 32 ++ text)
aligned_utf8 room text u = IsUtf8-append (replicate room 32) text (IsUtf8-from_ascii (replicate room 32) (IsAscii-replicate room 32 (omega arith))) u

filled_ascii : (room : ℕ) (z : ℤ) → IsAscii (signed_decimal z) → IsAscii (filled room true z)
filled_ascii room (pos n) a = IsAscii-append (replicate room 48) (decimal n) (IsAscii-replicate room 48 (omega arith)) a
filled_ascii room (negsuc n) a = IsAscii-cons 45 (replicate room 48 ++ decimal (suc n)) (omega arith) (IsAscii-append (replicate room 48) (decimal (suc n)) (IsAscii-replicate room 48 (omega arith)) (λ i. a (suc i)))

pub filled_utf8 : (room : ℕ) (z : ℤ) (text : List ℕ) → IsAscii text → text ≡ signed_decimal z → IsUtf8 (filled room true z)
filled_utf8 room z text a e = IsUtf8-from_ascii (filled room true z) (filled_ascii room z (subst (λ (l : List ℕ). IsAscii l) e a))

-- ---- what a % begins ends with a byte of ASCII

abbrev SanePiece : Piece → Type 0
SanePiece (pieces.Plain c) = c < 128
SanePiece (pieces.Number width zeros) = Unit {0}
SanePiece pieces.Text = Unit {0}

abbrev Sane : List ℕ → Option Piece → Type 0
Sane follow None = Unit {0}
Sane follow (Some p) = SanePiece p × (0 < length follow) × (get_or follow 0 0 < 128)

width_sane : (z : Bool) (o : Option ℕ) (c : ℕ) (rest : List ℕ) → c < 128 → Sane (c ∷ rest) (option_map (λ n. pieces.Number n z) o)
width_sane z None c rest h = tt
width_sane z (Some n) c rest h = (tt, omega arith, h)

number_sane : (digits : List ℕ) (c : ℕ) (rest : List ℕ) → c < 128 → Sane (c ∷ rest) (number_of digits)
number_sane [] c rest h = (tt, omega arith, h)
number_sane (a ∷ digits) c rest h =
    cond_both (eqb a 48) (option_map (λ n. pieces.Number n true) (width_of digits)) (option_map (λ n. pieces.Number n false) (width_of (a ∷ digits))) (Sane (c ∷ rest))
    (λ e. width_sane true (width_of digits) c rest h) (λ e. width_sane false (width_of (a ∷ digits)) c rest h)

piece_sane : (digits follow : List ℕ) → Sane follow (piece_of digits follow)
piece_sane [] [] = tt
piece_sane (a ∷ digits) [] = tt
piece_sane [] (c ∷ rest) =
    cond_both (eqb c 100) (number_of []) (cond (eqb c 115) (Some pieces.Text) (cond (eqb c 37) (Some (pieces.Plain 37)) None)) (Sane (c ∷ rest))
    (λ e. number_sane [] c rest (omega (arith, eqb-true c 100 e)))
    (λ e. cond_both (eqb c 115) (Some pieces.Text) (cond (eqb c 37) (Some (pieces.Plain 37)) None) (Sane (c ∷ rest))
    (λ k. (tt, omega arith, omega (arith, eqb-true c 115 k)))
    (λ k. cond_both (eqb c 37) (Some (pieces.Plain 37)) None (Sane (c ∷ rest)) (λ m. (omega arith, omega arith, omega (arith, eqb-true c 37 m))) (λ m. tt)))
piece_sane (a ∷ digits) (c ∷ rest) =
    cond_both (eqb c 100) (number_of (a ∷ digits)) None (Sane (c ∷ rest))
    (λ e. number_sane (a ∷ digits) c rest (omega (arith, eqb-true c 100 e))) (λ e. tt)

-- a piece, and UTF-8 after it
abbrev Leaves : List ℕ → Piece × ℕ → Type 0
Leaves rest q = SanePiece q.0 × IsUtf8 (drop q.1 rest)

marked_leaves : (rest : List ℕ) (count : ℕ) (o : Option Piece) → IsUtf8 rest → Sane (drop count rest) o → Leaves rest (unwrap_or (option_map (λ (p : Piece). (p, count + 1)) o) (pieces.Plain 37, 0))
marked_leaves rest count None u s = (omega arith, u)
marked_leaves rest count (Some p) u s =
    let more : 0 < length (drop count rest) = s.1 in
    let low : get_or (drop count rest) 0 0 < 128 = s.2 in
    let within : count < length rest = omega (arith, length-drop count rest) in
    let at : get_or rest count 0 < 128 = let e : count + 0 ≡ count = omega arith in subst (λ (n : ℕ). get_or rest n 0 < 128) e (rw (get_or-drop count rest 0 0) at low) in
    (s.0, IsUtf8-drop rest (count + 1) u (IsCharBoundary-after_ascii rest count u within at))

piece_leaves : (c : ℕ) (rest : List ℕ) → c < 128 → IsUtf8 rest → Leaves rest (piece_at c rest)
piece_leaves c rest h u =
    let count = prefix_len is_digit rest in
    cond_both (eqb c 37) (unwrap_or (marked rest) (pieces.Plain 37, 0)) (pieces.Plain c, 0) (Leaves rest)
    (λ e. marked_leaves rest count (piece_of (take count rest) (drop count rest)) u (piece_sane (take count rest) (drop count rest)))
    (λ e. (h, u))

sane_text : (p : Piece) (args : List Arg) → SanePiece p → IsPlaced p args → IsUtf8 (piece_text p args)
sane_text (pieces.Plain c) args s placed = IsUtf8-from_ascii (c ∷ []) (IsAscii-cons c [] s (λ i. omega arith))
sane_text (pieces.Number width zeros) args s placed = placed
sane_text pieces.Text args s placed = placed

-- ---- bytes that stand for themselves

abbrev plain : List ℕ → List Piece
plain bytes = map pieces.Plain bytes

plain_first : (b : ℕ) (rest : List ℕ) → (b ≡ 37 → ⊥) → pieces_of (b ∷ rest) ≡ pieces.Plain b ∷ pieces_of rest
plain_first b rest other =
    let at : piece_at b rest ≡ (pieces.Plain b, 0) = cond-false (eqb b 37) (unwrap_or (marked rest) (pieces.Plain 37, 0)) (pieces.Plain b, 0) (ne_eqb b 37 other) in
    next_piece b rest ∙ ap (λ (q : Piece × ℕ). q.0 ∷ pieces_of (drop q.1 rest)) at

plain_run : (bytes rest : List ℕ) → ((k : ℕ) → k < length bytes → 128 ≤ get_or bytes k 0) → pieces_of (bytes ++ rest) ≡ plain bytes ++ pieces_of rest
plain_run [] rest high = refl
plain_run (b ∷ bytes) rest high =
    let first : 128 ≤ b = high 0 (omega arith) in
    plain_first b (bytes ++ rest) (λ e. omega (arith, e)) ∙ ap (λ (l : List Piece). pieces.Plain b ∷ l) (plain_run bytes rest (λ k h. high (suc k) (omega arith)))

plain_text : (bytes : List ℕ) (ps : List Piece) (args : List Arg) → text_of_pieces (plain bytes ++ ps) args ≡ bytes ++ text_of_pieces ps args
plain_text [] ps args = refl
plain_text (b ∷ bytes) ps args = ap (λ (l : List ℕ). b ∷ l) (plain_text bytes ps args)

plain_placed : (bytes : List ℕ) (ps : List Piece) (args : List Arg) → ArePlaced (plain bytes ++ ps) args → ArePlaced ps args
plain_placed [] ps args placed = placed
plain_placed (b ∷ bytes) ps args placed = plain_placed bytes ps args placed.1

-- ---- a whole text

-- what the first character leaves
abbrev IsFilled : List ℕ → Type 0
IsFilled text = (args : List Arg) → ArePlaced (pieces_of text) args → IsUtf8 (text_of_pieces (pieces_of text) args)

ascii_filled : (c : ℕ) (rest : List ℕ) → c < 128 → IsUtf8 rest → ((n : ℕ) → IsUtf8 (drop n rest) → IsFilled (drop n rest)) → IsFilled (c ∷ rest)
ascii_filled c rest h u more args placed =
    let q = piece_at c rest in
    let first = next_piece c rest in
    let s : Leaves rest q = piece_leaves c rest h u in
    let placed_both : ArePlaced (q.0 ∷ pieces_of (drop q.1 rest)) args = subst (λ (ps : List Piece). ArePlaced ps args) first placed in
    subst (λ (ps : List Piece). IsUtf8 (text_of_pieces ps args)) (sym first)
    (IsUtf8-append (piece_text q.0 args) (text_of_pieces (pieces_of (drop q.1 rest)) (arguments_after q.0 args))
    (sane_text q.0 args s.0 placed_both.0) (more q.1 s.1 (arguments_after q.0 args) placed_both.1))

wide_filled : (c : ℕ) (rest : List ℕ) → 128 ≤ c → IsScalar c → IsFilled rest → IsFilled (encode_utf8 c ++ rest)
wide_filled c rest h scalar more args placed =
    let bytes = encode_utf8 c in
    let high : (k : ℕ) → k < length bytes → 128 ≤ get_or bytes k 0 = λ k lt. elim (cases_lt (get_or bytes k 0) 128) as (λ _. 128 ≤ get_or bytes k 0) [
      | inl low ↦ absurd (omega (arith, inside_one c [] bytes k (sym (append-nil bytes)) lt low))
      | inr le ↦ le
    ] in
    let run = plain_run bytes rest high in
    let placed_rest = plain_placed bytes (pieces_of rest) args (subst (λ (ps : List Piece). ArePlaced ps args) run placed) in
    subst (λ (ps : List Piece). IsUtf8 (text_of_pieces ps args)) (sym run)
    (subst (λ (l : List ℕ). IsUtf8 l) (sym (plain_text bytes (pieces_of rest) args)) (IsUtf8-append bytes (text_of_pieces (pieces_of rest) args) (IsUtf8-encode c scalar) (more args placed_rest)))

filled_upto : (n : ℕ) (cs text : List ℕ) → length text ≤ n → all_scalars cs ≡ true → encode_utf8_all cs ≡ text → IsFilled text
unfolding pieces_after
filled_upto n [] text h ok e = subst (λ (l : List ℕ). IsFilled l) e (λ args placed. IsUtf8-nil)
filled_upto zero (c ∷ cs) text h ok e = absurd (omega (arith, ap length e, length-append (encode_utf8 c) (encode_utf8_all cs), length-encode c, (len_utf8_bounds c).0))
filled_upto (suc n) (c ∷ cs) text h ok e =
    let rest = encode_utf8_all cs in
    let both = and_parts (scalar c) (all_scalars cs) ok in
    let short : length rest ≤ n = omega (arith, ap length e, length-append (encode_utf8 c) rest, length-encode c, (len_utf8_bounds c).0) in
    elim (cases_lt c 128) as (λ _. IsFilled text) [
      | inl low ↦
          let is : c ∷ rest ≡ text = ap (λ (l : List ℕ). l ++ rest) (sym (encode_ascii c low)) ∙ e in
          subst (λ (l : List ℕ). IsFilled l) is
          (ascii_filled c rest low (cs, (both.1, refl)) (λ k u. filled_upto n u.0 (drop k rest) (omega (arith, length-drop k rest)) u.1.0 u.1.1))
      | inr high ↦ subst (λ (l : List ℕ). IsFilled l) e (wide_filled c rest high both.0 (filled_upto n cs rest short both.1 refl))
    ]

pub message_utf8 : (text : List ℕ) (args : List Arg) → IsUtf8 text → ArePlaced (pieces_of text) args → IsUtf8 (message_text text args)
unfolding message_text
message_utf8 text args u placed = filled_upto (length text) u.0 text (omega arith) u.1.0 u.1.1 args placed

-- ---- answers

-- a character more
pub encodes_more : (f : ℕ → ℕ) (xs : List ℕ) (i x : ℕ) → i < length xs → x ≡ get_or xs i x → encode_utf8_all (map f (take (i + 1) xs)) ≡ encode_utf8_all (map f (take i xs)) ++ encode_utf8 (f x)
encodes_more f xs i x h at =
    ap (λ (l : List ℕ). encode_utf8_all (map f l)) (take_more xs i x h)
    ∙ (ap encode_utf8_all (map-append f (take i xs) (get_or xs i x ∷ []))
    ∙ (encodes-append (map f (take i xs)) (f (get_or xs i x) ∷ [])
    ∙ (ap (λ (l : List ℕ). encode_utf8_all (map f (take i xs)) ++ l) (append-nil (encode_utf8 (f (get_or xs i x)))) ∙ ap (λ y. encode_utf8_all (map f (take i xs)) ++ encode_utf8 (f y)) (sym at))))
