-- A line that is written in place of one that was read, and the lines of a run.
use Rattle.std.proofs.Common.{◌≡◌, ◌⊎◌, ℕ, zero, suc, Bool, false, List, [], ◌∷◌, ◌++◌, length, get_or, map, Some, None, refl, ap, sym, ◌∙◌, arith, append_assoc, inl, inr}
use Rattle.std.specs.Prelude.{slice_get, encode_utf8_all}
use Rattle.std.specs.List.{flat_map}
use Rattle.std.proofs.lemmas.Option.{same_Some}
use Rattle.cse_dict.specs.Dictionary.{DictionaryText}
use Rattle.cse_case.specs.declared.line.Ending.{Ending}
use Rattle.cse_case.specs.Line.{FileLine, end_bytes, ending_of, is_marked}
use Rattle.cse_case.specs.Columns.{LineText, columns_of, line_text, no_line}
use Rattle.cse_case.specs.NamedColumns.{field_at, ids_of, type_span}
use Rattle.cse_case.specs.Run.{begins_marked}
use Rattle.cse_case.specs.Runs.{AreSound, line_fault}
use Rattle.cse_case.specs.Gathering.{StandsFrom}
use Rattle.cse_case.specs.Written.{kept_columns, mark_bytes, written_line}
use Rattle.cse_case.proofs.TakeLaws.{id_of_is}
use Rattle.cse_case.proofs.WrittenLaws.{written-line}
use Rattle.cse_case.proofs.AlikeLaws.{text_len, text_ending}
use Rattle.cse_batch_parts.specs.Untouched.{LineStays}

-- ---- one line

-- columns are the same where there are as many and each is the same
same_columns : (xs ys : List ℕ) → length xs ≡ length ys → ((k : ℕ) → get_or xs k 32 ≡ get_or ys k 32) → xs ≡ ys
same_columns [] [] e f = refl
same_columns [] (y ∷ ys) e f = absurd (omega arith)
same_columns (x ∷ xs) [] e f = absurd (omega arith)
same_columns (x ∷ xs) (y ∷ ys) e f = ap (λ c. c ∷ xs) (f zero) ∙ ap (λ l. y ∷ l) (same_columns xs ys (omega arith) (λ k. f (suc k)))

written_is : (line : LineText) (len : ℕ) (ending : Ending) → line.len ≡ len → line.ending ≡ ending → written_line line ≡ encode_utf8_all (kept_columns len line.columns) ++ end_bytes ending
unfolding written_line
written_is line len ending e f = ap (λ n. encode_utf8_all (kept_columns n line.columns) ++ end_bytes line.ending) e ∙ ap (λ x. encode_utf8_all (kept_columns len line.columns) ++ end_bytes x) f

written_same : (a b : LineText) → a.columns ≡ b.columns → a.len ≡ b.len → a.ending ≡ b.ending → written_line a ≡ written_line b
unfolding written_line
written_same a b e f g =
    ap (λ columns. encode_utf8_all (kept_columns a.len columns) ++ end_bytes a.ending) e
    ∙ (ap (λ n. encode_utf8_all (kept_columns n b.columns) ++ end_bytes a.ending) f ∙ ap (λ x. encode_utf8_all (kept_columns b.len b.columns) ++ end_bytes x) g)

-- what stays of the line that was read
pub record IsLeft (d : DictionaryText) (Touched : ℕ → Type 0) (read : FileLine) (line : LineText) : Type 0 where
  pub len : line.len ≡ (line_text d read).len
  pub ending : line.ending ≡ (line_text d read).ending
  pub width : length line.columns ≡ length (line_text d read).columns
  pub stays : (column : ℕ) → (get_or line.columns column 32 ≡ get_or (line_text d read).columns column 32) ⊎ Touched column
  pub ids : ids_of d line.columns ≡ ids_of d (line_text d read).columns
  pub record_type : field_at (type_span d) line.columns ≡ field_at (type_span d) (line_text d read).columns

pub line_stays : (d : DictionaryText) (Touched : ℕ → Type 0) (read : FileLine) (line : LineText) (written : List ℕ) → line_fault read ≡ None → IsLeft d Touched read line
    → written ≡ mark_bytes (is_marked read) ++ written_line line → LineStays d Touched read written
line_stays d Touched read line written sound left is = record {
  columns = line.columns;
  width = left.width;
  stays = left.stays;
  ids = left.ids ∙ id_of_is d read;
  record_type = left.record_type;
  bytes = is ∙ ap (λ l. mark_bytes (is_marked read) ++ l) (written_is line (length (columns_of read)) (ending_of (read.1)) (left.len ∙ text_len d read) (left.ending ∙ text_ending d read));
  untouched = λ none.
      let columns : line.columns ≡ (line_text d read).columns = same_columns line.columns (line_text d read).columns left.width (λ k. elim (left.stays k) [ inl e ↦ e | inr t ↦ absurd (none k t) ]) in
      is ∙ (ap (λ l. mark_bytes (is_marked read) ++ l) (written_same line (line_text d read) columns left.len left.ending) ∙ written-line d read sound);
}

-- ---- the lines of a run

-- what is written of each, the mark before it where it was there
abbrev pub lines_written : List FileLine → List LineText → List (List ℕ)
lines_written [] lines = []
lines_written (read ∷ reads) [] = []
lines_written (read ∷ reads) (line ∷ lines) = (mark_bytes (is_marked read) ++ written_line line) ∷ lines_written reads lines

pub as_many_written : (reads : List FileLine) (lines : List LineText) → length lines ≡ length reads → length (lines_written reads lines) ≡ length reads
as_many_written [] lines e = refl
as_many_written (read ∷ reads) [] e = absurd (omega arith)
as_many_written (read ∷ reads) (line ∷ lines) e = let rest = as_many_written reads lines (omega arith) in omega arith

pub written_at : (reads : List FileLine) (lines : List LineText) (place : ℕ) (read : FileLine) (written : List ℕ) → slice_get reads place ≡ Some read → slice_get (lines_written reads lines) place ≡ Some written
    → written ≡ mark_bytes (is_marked read) ++ written_line (get_or lines place no_line)
written_at [] lines place read written e f = cc
written_at (r ∷ reads) [] place read written e f = cc
written_at (r ∷ reads) (line ∷ lines) zero read written e f = sym (same_Some _ _ f) ∙ ap (λ x. mark_bytes (is_marked x) ++ written_line line) (same_Some _ _ e)
written_at (r ∷ reads) (line ∷ lines) (suc place) read written e f = written_at reads lines place read written e f

pub sound_at : (reads : List FileLine) (place : ℕ) (read : FileLine) → AreSound reads → slice_get reads place ≡ Some read → line_fault read ≡ None
sound_at [] place read s e = cc
sound_at (r ∷ reads) zero read s e = ap line_fault (sym (same_Some _ _ e)) ∙ s.0
sound_at (r ∷ reads) (suc place) read s e = sound_at reads place read s.1 e

-- lines as they were read are written so
pub written_as_read : (d : DictionaryText) (reads : List FileLine) → AreSound reads → lines_written reads (map (line_text d) reads) ≡ map (λ read. read.1) reads
written_as_read d [] s = refl
written_as_read d (read ∷ reads) s =
    ap (λ l. l ∷ lines_written reads (map (line_text d) reads)) (written-line d read s.0) ∙ ap (λ l. read.1 ∷ l) (written_as_read d reads s.1)

-- one after the other they are the run as it is written
behind_front : (reads : List FileLine) (lines : List LineText) → length lines ≡ length reads → StandsFrom false reads → flat_map (λ l. l) (lines_written reads lines) ≡ flat_map written_line lines
behind_front [] [] e s = refl
behind_front [] (line ∷ lines) e s = absurd (omega arith)
behind_front (read ∷ reads) [] e s = absurd (omega arith)
behind_front (read ∷ reads) (line ∷ lines) e s =
    let unmarked : is_marked read ≡ false = rw s.0 refl in
    ap (λ m. (mark_bytes m ++ written_line line) ++ flat_map (λ l. l) (lines_written reads lines)) unmarked ∙ ap (λ l. written_line line ++ l) (behind_front reads lines (omega arith) s.1)

pub written_together : (front : Bool) (reads : List FileLine) (lines : List LineText) → length lines ≡ length reads → StandsFrom front reads
    → flat_map (λ l. l) (lines_written reads lines) ≡ mark_bytes (begins_marked reads) ++ flat_map written_line lines
written_together front [] [] e s = refl
written_together front [] (line ∷ lines) e s = absurd (omega arith)
written_together front (read ∷ reads) [] e s = absurd (omega arith)
written_together front (read ∷ reads) (line ∷ lines) e s =
    append_assoc (mark_bytes (is_marked read)) (written_line line) (flat_map (λ l. l) (lines_written reads lines))
    ∙ ap (λ l. mark_bytes (is_marked read) ++ (written_line line ++ l)) (behind_front reads lines (omega arith) s.1)
