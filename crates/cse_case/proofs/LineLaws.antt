-- Laws of the lines of a list of bytes.
use Rattle.std.proofs.Common.{map, ◌≡◌, ℕ, suc, ◌+◌, ◌-◌, ◌<◌, ◌≤◌, Bool, true, false, ◌||◌, cond, eqb, ltb, List, [], ◌∷◌, ◌++◌, length, get_or, take, drop, refl, ap, sym, ◌∙◌, arith, append_assoc, append-nil, length-take, get_or-take, take-append-drop, inl, inr}
use Rattle.std.specs.List.{prefix_len}
use Rattle.std.specs.Prelude.{not}
use Rattle.std.specs.Simd.Lanes.{chunk, mask_l}
use lib.Count.{count_trailing_zeros}
use Rattle.std.proofs.lemmas.Simd.{length-chunk, run_in_chunk_fails, run_in_chunk_stops, trailing_mask_l}
use Rattle.std.proofs.lemmas.Bool.{cases_eq, cases_lt, eqb-true, ltb-true, lt-ltb, false≢true, false_from_ne_true}
use Rattle.std.specs.List.{onto_first}
use Rattle.std.proofs.lemmas.List.{take_more, get_or_push, length_push, drop_all, take_all, length-take-le}
use Rattle.memchr.specs.Find.{Nowhere, NoneBefore, Passes, is_byte}
use Rattle.cse_case.specs.Line.{pieces_of, lines_in, counts, is_whole, is_excessive, is_last, text_of, flagged, without_mark}
use Rattle.cse_case.specs.Cutting.{HasNoFeed, IsFirstLine}

tail : (b : ℕ) (bs : List ℕ) → HasNoFeed (b ∷ bs) → HasNoFeed bs
tail b bs h k l = h (suc k) (omega arith)

-- a line with its line feed is the first piece
pieces_of-whole : (text rest : List ℕ) → HasNoFeed text → pieces_of (text ++ 10 ∷ rest) ≡ (text ++ 10 ∷ []) ∷ pieces_of rest
pieces_of-whole [] rest h = refl
pieces_of-whole (b ∷ bs) rest h =
    let here : eqb b 10 ≡ false = h 0 (omega arith) in
    rw (here, pieces_of-whole bs rest (tail b bs h)) refl

-- bytes without a line feed are one piece
pieces_of-last : (text : List ℕ) → HasNoFeed text → 0 < length text → pieces_of text ≡ text ∷ []
pieces_of-last [] h l = absurd (omega arith)
pieces_of-last (b ∷ []) h l = let here : eqb b 10 ≡ false = h 0 (omega arith) in rw here refl
pieces_of-last (b ∷ c ∷ bs) h l =
    let here : eqb b 10 ≡ false = h 0 (omega arith) in
    let later : pieces_of (c ∷ bs) ≡ (c ∷ bs) ∷ [] = pieces_of-last (c ∷ bs) (tail b (c ∷ bs) h) (omega arith) in
    rw here (ap (onto_first b) later)

-- a line with its line feed, which is the only one
record IsPiece (line : List ℕ) : Type 0 where
  text : List ℕ
  is : line ≡ text ++ 10 ∷ []
  none : HasNoFeed text

is_whole-piece : (line : List ℕ) → IsPiece line → is_whole line ≡ true
is_whole-piece line p =
    let n : length line ≡ length p.text + 1 = ap length p.is ∙ length_push p.text 10 in
    let at : length p.text ≡ length line - 1 = omega arith in
    let e : get_or line (length line - 1) 0 ≡ 10 = rw (← at) (rw p.is (get_or_push p.text 10 0 (length p.text) refl)) in
    rw e refl

or_true : (a b : Bool) → a || true || b ≡ true
or_true true b = refl
or_true false b = refl

flagged-false : (pieces : List (List ℕ)) → flagged false pieces ≡ map (λ p. (false, p)) pieces
flagged-false [] = refl
flagged-false (p ∷ ps) = refl

-- it is the first line, whatever follows
lines_in-piece : (front ended : Bool) (line rest : List ℕ) → IsPiece line → lines_in front ended (line ++ rest) ≡ (front, line) ∷ lines_in false ended rest
unfolding lines_in
lines_in-piece front ended line rest p =
    let pieces : pieces_of (line ++ rest) ≡ line ∷ pieces_of rest = rw p.is (rw append_assoc (pieces_of-whole p.text rest p.none)) in
    let here : counts ended (front, line) ≡ true = rw (is_whole-piece line p) (or_true ended (is_excessive (front, line))) in
    rw (pieces, here, flagged-false (pieces_of rest)) refl

pub lines_in-nil : (front ended : Bool) → lines_in front ended [] ≡ []
unfolding lines_in
lines_in-nil front ended = refl

-- bytes without a line feed
lines_in-last : (front ended : Bool) (text : List ℕ) → HasNoFeed text → 0 < length text → lines_in front ended text ≡ cond (counts ended (front, text)) ((front, text) ∷ []) []
unfolding lines_in
lines_in-last front ended text h l = rw (pieces_of-last text h l) refl

-- what a search for a line feed finds
piece_found : (bytes : List ℕ) (i : ℕ) → NoneBefore (Passes (is_byte 10) bytes) 0 (length bytes) i → Passes (is_byte 10) bytes i → IsPiece (take (i + 1) bytes)
piece_found bytes i b p = record {
  text = take i bytes;
  is = let here : get_or bytes i 0 ≡ 10 = eqb-true _ _ p in take_more bytes i 0 b.high ∙ rw here refl;
  none = λ k l. let below : k < i = omega (arith, length-take i bytes) in rw get_or-take (false_from_ne_true _ (b.before k (omega arith) below));
}

pub none_found : (bytes : List ℕ) → Nowhere (Passes (is_byte 10) bytes) 0 (length bytes) → HasNoFeed bytes
none_found bytes h k l = false_from_ne_true _ (h k (omega arith) l)

-- the first line, up to the line feed that a search found
pub IsFirstLine-found : (front ended : Bool) (bytes : List ℕ) (i : ℕ) → NoneBefore (Passes (is_byte 10) bytes) 0 (length bytes) i → Passes (is_byte 10) bytes i
    → IsFirstLine front ended bytes (take (i + 1) bytes)
IsFirstLine-found front ended bytes i b p =
    let piece = piece_found bytes i b p in
    let high : i < length bytes = b.high in
    let n : length (take (i + 1) bytes) ≡ i + 1 = length-take-le (i + 1) bytes (omega arith) in
    let whole : take (i + 1) bytes ++ drop (i + 1) bytes ≡ bytes = take-append-drop (i + 1) bytes in
    record {
      some = omega arith;
      fits = omega arith;
      part = rw n refl;
      reaches = λ m fits none. rw n (elim (cases_lt (i + 1) m) as (λ x. m ≤ i + 1) [
        | inl above ↦
            let here : get_or (take m bytes) i 0 ≡ get_or bytes i 0 = (let below : i < m = omega arith in get_or-take m bytes i 0 below) in
            absurd (false≢true (sym (none i (omega (arith, length-take m bytes))) ∙ ap (λ x. eqb x 10) here ∙ p))
        | inr low ↦ low
      ]);
      lines = rw n (ap (lines_in front ended) (sym whole) ∙ lines_in-piece front ended _ _ piece);
      goes_on = λ short later more may. rw n (ap (λ bs. lines_in front later (bs ++ more)) (sym whole)
          ∙ ap (lines_in front later) (append_assoc (take (i + 1) bytes) (drop (i + 1) bytes) more) ∙ lines_in-piece front later _ _ piece);
    }

-- bytes without a line feed are not a whole line
not_whole : (bytes : List ℕ) → HasNoFeed bytes → 0 < length bytes → is_whole bytes ≡ false
not_whole bytes h some = h (length bytes - 1) (omega arith)

-- so that they are their own text, and too long where they count before the end was read
excessive_is_long : (front : Bool) (bytes : List ℕ) → is_whole bytes ≡ false → is_excessive (front, bytes) ≡ true → ltb 262144 (length (text_of (front, bytes))) ≡ true
excessive_is_long front bytes h e =
    let text : length (text_of (front, bytes)) ≡ length (without_mark front bytes) = rw (h, take_all (length bytes - 0) bytes (omega arith)) refl in
    let long : 262144 < length (without_mark front bytes) - cond (is_last bytes 13) 1 0 = ltb-true _ _ e in
    let above : 262144 < length (text_of (front, bytes)) = rw text (omega arith) in
    lt-ltb _ _ above

ended_by : (ended other : Bool) → ended || other ≡ true → (other ≡ true → ⊥) → ended ≡ true
ended_by true other h never = refl
ended_by false other h never = absurd (never h)

counted_here : (ended whole other : Bool) → ended || other ≡ true → ended || whole || other ≡ true
counted_here true whole other h = refl
counted_here false true other h = refl
counted_here false false other h = h

-- the first line, where there is no line feed
pub IsFirstLine-last : (front ended : Bool) (bytes : List ℕ) → Nowhere (Passes (is_byte 10) bytes) 0 (length bytes) → 0 < length bytes
    → ended || is_excessive (front, bytes) ≡ true → IsFirstLine front ended bytes bytes
IsFirstLine-last front ended bytes h some counted =
    let none = none_found bytes h in
    let rest : drop (length bytes) bytes ≡ [] = drop_all (length bytes) bytes (omega arith) in
    let alone : (later : Bool) → later || is_excessive (front, bytes) ≡ true → lines_in front later bytes ≡ (front, bytes) ∷ [] =
    λ later e. lines_in-last front later bytes none some ∙ rw (counted_here later (is_whole bytes) (is_excessive (front, bytes)) e) refl in
    record {
      some = some;
      fits = omega arith;
      part = sym (take_all (length bytes) bytes (omega arith));
      reaches = λ m fits none. fits;
      lines = rw (rest, lines_in-nil false ended) (alone ended counted);
      goes_on = λ short later more may.
          let end : ended ≡ true = ended_by ended (is_excessive (front, bytes)) counted (λ e. false≢true (sym short ∙ excessive_is_long front bytes (not_whole bytes none some) e)) in
          let after = may end in
          rw (after.1, rest, append-nil bytes, lines_in-nil false later) (alone later (rw (after.0) refl));
    }

-- there is no line
pub lines_in-none : (front : Bool) (bytes : List ℕ) → Nowhere (Passes (is_byte 10) bytes) 0 (length bytes) → 0 < length bytes
    → is_excessive (front, bytes) ≡ false → lines_in front false bytes ≡ []
lines_in-none front bytes h some short =
    let none = none_found bytes h in
    let whole : is_whole bytes ≡ false = not_whole bytes none some in
    lines_in-last front false bytes none some ∙ rw (whole, short) refl

-- the first line feed of bytes, by the mask of those that are line feeds among the first 32
pub feed_near : (bytes : List ℕ) (feeds at : ℕ) → 32 ≤ length bytes → feeds ≡ mask_l (map (λ x. eqb x 10) (chunk 0 32 bytes)) → at ≡ count_trailing_zeros 64 feeds → at < 32
    → NoneBefore (Passes (is_byte 10) bytes) 0 (length bytes) at × Passes (is_byte 10) bytes at
unfolding count_trailing_zeros
feed_near bytes feeds at room is found low =
    let p : ℕ → Bool = λ x. eqb x 10 in
    let len : length (chunk 0 32 bytes) ≡ 32 = length-chunk 0 32 bytes (omega arith) in
    let counted : at ≡ prefix_len (λ x. not (p x)) (chunk 0 32 bytes) = elim (cases_eq feeds 0) [
      | inl none ↦ let far : at ≡ 64 = found ∙ ap (count_trailing_zeros 64) none in absurd (omega arith)
      | inr some ↦ found ∙ ap (count_trailing_zeros 64) is ∙ trailing_mask_l p 64 (chunk 0 32 bytes) (omega arith) (omega arith)
    ] in
    let begin : 0 + at ≡ at = omega arith in (
      record { low = omega arith; high = omega arith; before = λ k from below h. false≢true (sym (run_in_chunk_fails p bytes 0 32 at 0 (omega arith) counted k from (omega arith)) ∙ h) },
      ap (λ n. p (get_or bytes n 0)) (sym begin) ∙ run_in_chunk_stops p bytes 0 32 at 0 (omega arith) counted low,
    )
