-- A line that was read and not set is written as it came, byte for byte.
use Rattle.std.proofs.Common.{◌≡◌, ℕ, zero, suc, ◌+◌, ◌-◌, ◌<◌, Bool, true, false, cond, eqb, List, [], ◌∷◌, ◌++◌, length, get_or, take, drop, replicate, map, None, refl, ap, sym, ◌∙◌, arith, append_assoc, append-nil, take-append-drop}
use Rattle.std.specs.Prelude.{encode_utf8_all, ◌&&◌}
use Rattle.std.specs.List.{flat_map}
use Rattle.std.proofs.lemmas.Bool.{eqb-true, false≢true}
use Rattle.std.proofs.lemmas.Grind.{flat_map-append}
use Rattle.std.proofs.lemmas.List.{drop_all, drop_at, drop_more, take_all, take_at}
use Rattle.std.proofs.lemmas.Str.{encodes-chars, IsUtf8-from_is_utf8}
use Rattle.cse_dict.specs.Dictionary.{DictionaryText}
use Rattle.cse_case.specs.Line.{FileLine, before_end, end_bytes, ending_of, has_mark, is_marked, is_whole, text_of, without_mark}
use Rattle.cse_case.specs.NamedColumns.{padded, width_of}
use Rattle.cse_case.specs.Columns.{LineText, columns_of, line_text}
use Rattle.cse_case.specs.Written.{kept_columns, mark_bytes, onto_trimmed, without_blanks, written_line}
use Rattle.cse_case.specs.Run.{run_text, written_run}
use Rattle.cse_case.specs.Runs.{AreSound, line_fault}
use Rattle.cse_case.specs.Gathering.{StandsFrom, bytes_of}
use Rattle.cse_case.specs.declared.decode.Head.{Head}
use Rattle.cse_case.specs.Decoding.{IsDecoded, line_with}
use Rattle.cse_case.proofs.DecodeLaws.{text_is_utf8}

-- the last byte, and the one before it
last_byte : (piece : List ℕ) (b : ℕ) → eqb (get_or piece (length piece - 1) 0) b ≡ true → 0 < length piece → drop (length piece - 1) piece ≡ b ∷ []
last_byte piece b e some =
    let at : get_or piece (length piece - 1) 0 ≡ b = eqb-true _ _ e in
    drop_more piece (length piece - 1) 0 (omega arith) ∙ ap (λ x. x ∷ drop (length piece - 1 + 1) piece) at
    ∙ ap (λ l. b ∷ l) (drop_all (length piece - 1 + 1) piece (omega arith))

last_two : (piece : List ℕ) (a b : ℕ) → eqb (get_or piece (length piece - 2) 0) a ≡ true → eqb (get_or piece (length piece - 1) 0) b ≡ true → 1 < length piece
    → drop (length piece - 2) piece ≡ a ∷ b ∷ []
last_two piece a b e f some =
    let at : get_or piece (length piece - 2) 0 ≡ a = eqb-true _ _ e in
    let next : length piece - 2 + 1 ≡ length piece - 1 = omega arith in
    drop_more piece (length piece - 2) 0 (omega arith) ∙ ap (λ x. x ∷ drop (length piece - 2 + 1) piece) at
    ∙ ap (λ n. a ∷ drop n piece) next ∙ ap (λ l. a ∷ l) (last_byte piece b f (omega arith))

pub some_byte : (piece : List ℕ) → eqb (get_or piece (length piece - 1) 0) 10 ≡ true → 0 < length piece
some_byte [] e = absurd (false≢true e)
some_byte (b ∷ bs) e = omega arith

two_bytes : (piece : List ℕ) → eqb (get_or piece (length piece - 1) 0) 10 ≡ true → eqb (get_or piece (length piece - 2) 0) 13 ≡ true → 1 < length piece
two_bytes [] e f = absurd (false≢true e)
two_bytes (b ∷ []) e f = let at : b ≡ 10 = eqb-true _ _ e in let other : b ≡ 13 = eqb-true _ _ f in absurd (omega arith)
two_bytes (b ∷ c ∷ bs) e f = omega arith

-- a line is its bytes before the end, and its end
pub end_parts : (piece : List ℕ) → before_end piece ++ end_bytes (ending_of piece) ≡ piece
end_parts piece = by_cases (is_whole piece) (eqb (get_or piece (length piece - 2) 0) 13) refl refl
  where
    by_cases : (whole two : Bool) → is_whole piece ≡ whole → eqb (get_or piece (length piece - 2) 0) 13 ≡ two → before_end piece ++ end_bytes (ending_of piece) ≡ piece
    by_cases false two e f = rw e (append-nil (take (length piece - 0) piece) ∙ take_all (length piece - 0) piece (omega arith))
    by_cases true false e f = rw (e, f) (ap (λ l. take (length piece - 1) piece ++ l) (sym (last_byte piece 10 e (some_byte piece e))) ∙ take-append-drop (length piece - 1) piece)
    by_cases true true e f = rw (e, f) (ap (λ l. take (length piece - 2) piece ++ l) (sym (last_two piece 13 10 f e (two_bytes piece e f))) ∙ take-append-drop (length piece - 2) piece)

-- bytes are the mark, if they begin with it, and the others
mark_parts-front : (bytes : List ℕ) → mark_bytes (has_mark bytes) ++ cond (has_mark bytes) (drop 3 bytes) bytes ≡ bytes
mark_parts-front [] = refl
mark_parts-front (a ∷ []) = refl
mark_parts-front (a ∷ b ∷ []) = refl
mark_parts-front (a ∷ b ∷ c ∷ bytes) = by_cases (eqb a 239) (eqb b 187) (eqb c 191) refl refl refl
  where
    by_cases : (x y z : Bool) → eqb a 239 ≡ x → eqb b 187 ≡ y → eqb c 191 ≡ z
        → mark_bytes (has_mark (a ∷ b ∷ c ∷ bytes)) ++ cond (has_mark (a ∷ b ∷ c ∷ bytes)) (drop 3 (a ∷ b ∷ c ∷ bytes)) (a ∷ b ∷ c ∷ bytes) ≡ a ∷ b ∷ c ∷ bytes
    by_cases false y z e f g = rw e refl
    by_cases true false z e f g = rw (e, f) refl
    by_cases true true false e f g = rw (e, f, g) refl
    by_cases true true true e f g =
        let is : a ≡ 239 = eqb-true _ _ e in
        let is2 : b ≡ 187 = eqb-true _ _ f in
        let is3 : c ≡ 191 = eqb-true _ _ g in
        rw (e, f, g) (rw (is, is2, is3) refl)

mark_parts : (front : Bool) (bytes : List ℕ) → mark_bytes (front && has_mark bytes) ++ without_mark front bytes ≡ bytes
mark_parts true bytes = mark_parts-front bytes
mark_parts false bytes = refl

without_blanks-replicate : (k : ℕ) → without_blanks (replicate k 32) ≡ []
without_blanks-replicate zero = refl
without_blanks-replicate (suc k) = ap (onto_trimmed 32) (without_blanks-replicate k)

-- padded columns are kept as they came
pub kept_columns-padded : (width : ℕ) (columns : List ℕ) → kept_columns (length columns) (padded width columns) ≡ columns
kept_columns-padded width columns =
    let blanks = replicate (width - length columns) 32 in
    ap (λ l. l ++ without_blanks (drop (length columns) (columns ++ blanks))) (take_at columns blanks (length columns) refl)
    ∙ ap (λ l. columns ++ without_blanks l) (drop_at columns blanks (length columns) refl)
    ∙ ap (λ l. columns ++ l) (without_blanks-replicate (width - length columns)) ∙ append-nil columns

-- a line with its mark; proofs of crates above cite this
pub written-line : (d : DictionaryText) (line : FileLine) → line_fault line ≡ None → mark_bytes (is_marked line) ++ written_line (line_text d line) ≡ line.1
unfolding written_line line_text
written-line d line sound =
    let utf8 = IsUtf8-from_is_utf8 (text_of line) (text_is_utf8 line sound) in
    let text : encode_utf8_all (kept_columns (length (columns_of line)) (padded (width_of d (columns_of line)) (columns_of line))) ≡ text_of line =
    ap encode_utf8_all (kept_columns-padded (width_of d (columns_of line)) (columns_of line)) ∙ encodes-chars (text_of line) utf8 in
    ap (λ t. mark_bytes (is_marked line) ++ (t ++ end_bytes (ending_of (line.1)))) text
    ∙ sym (append_assoc (mark_bytes (is_marked line)) (text_of line) (end_bytes (ending_of (line.1))))
    ∙ ap (λ t. t ++ end_bytes (ending_of (line.1))) (mark_parts (line.0) (before_end (line.1))) ∙ end_parts (line.1)

written-inside : (d : DictionaryText) (lines : List FileLine) → AreSound lines → StandsFrom false lines → flat_map written_line (map (line_text d) lines) ≡ bytes_of lines
written-inside d [] s f = refl
written-inside d (line ∷ lines) s f =
    let unmarked : is_marked line ≡ false = rw f.0 refl in
    let one : written_line (line_text d line) ≡ line.1 = ap (λ m. mark_bytes m ++ written_line (line_text d line)) (sym unmarked) ∙ written-line d line s.0 in
    ap (λ l. l ++ flat_map written_line (map (line_text d) lines)) one ∙ ap (λ l. line.1 ++ l) (written-inside d lines s.1 f.1)

-- the lines of a run
pub written-run : (d : DictionaryText) (front : Bool) (number : ℕ) (lines : List FileLine) → AreSound lines → StandsFrom front lines
    → written_run (run_text d number lines) ≡ bytes_of lines
written-run d front number [] s f = refl
written-run d front number (line ∷ lines) s f =
    sym (append_assoc (mark_bytes (is_marked line)) (written_line (line_text d line)) (flat_map written_line (map (line_text d) lines)))
    ∙ ap (λ l. l ++ flat_map written_line (map (line_text d) lines)) (written-line d line s.0) ∙ ap (λ l. line.1 ++ l) (written-inside d lines s.1 f.1)

-- the bytes of a line that was read
pub line-bytes : (d : DictionaryText) (line : FileLine) (columns : List ℕ) (head : Head) → IsDecoded d line columns head → line.1 ≡ mark_bytes head.marked ++ written_line (line_with columns head)
line-bytes d line columns head h =
    sym (ap (λ m. mark_bytes m ++ written_line (line_with columns head)) h.marked ∙ ap (λ l. mark_bytes (is_marked line) ++ written_line l) h.is ∙ written-line d line h.sound)

-- the bytes of lines, and of one line more
pub written-push : (a b : List LineText) (line : LineText) (bytes all more : List ℕ) → bytes ≡ flat_map written_line a → more ≡ written_line line → all ≡ bytes ++ more → b ≡ a ++ line ∷ []
    → all ≡ flat_map written_line b
written-push a b line bytes all more e f g h =
    g ∙ ap (λ l. l ++ more) e ∙ ap (λ l. flat_map written_line a ++ l) (f ∙ sym (append-nil (written_line line))) ∙ sym (flat_map-append written_line a (line ∷ [])) ∙ ap (flat_map written_line) (sym h)
