-- Laws of a line that comes to a run.
use Rattle.std.proofs.Common.{◌≡◌, ℕ, ◌+◌, ◌≤◌, max, Bool, true, false, List, [], ◌∷◌, length, take, drop, Some, None, refl, ap, sym, ◌∙◌, arith}
use Rattle.std.specs.Str.{bytes_eq}
use Rattle.std.proofs.lemmas.Bool.{false≢true}
use Rattle.std.proofs.lemmas.Slice.Eq.{bytes_eq-Decides}
use Rattle.cse_dict.specs.Dictionary.{DictionaryText}
use Rattle.cse_case.specs.declared.decode.Head.{Head}
use Rattle.cse_case.specs.Decoding.{IsDecoded, line_with}
use Rattle.cse_case.specs.Line.{FileLine, is_marked}
use Rattle.cse_case.specs.NamedColumns.{LayoutText, fields_at, id_spans, ids_of, last_column, layout_of, least_width, record_len, record_of, width_of}
use Rattle.cse_case.specs.Columns.{LineText, columns_of, id_of, line_text}
use Rattle.cse_case.specs.Run.{RunText, line_at, run_of, run_text, with_line}
use Rattle.cse_case.specs.Runs.{fault_of, line_fault, place_after}
use Rattle.cse_case.specs.Taking.{EndsRun, IsLast, run_id}
use Rattle.cse_case.proofs.DecodeLaws.{length-padded}
use Rattle.cse_case.proofs.RunLaws.{place-same}

pub ids_of_is : (d : DictionaryText) (columns : List ℕ) → fields_at (id_spans d) columns ≡ ids_of d columns
unfolding ids_of
ids_of_is d columns = refl

pub id_of_is : (d : DictionaryText) (line : FileLine) → ids_of d (line_text d line).columns ≡ id_of d line
unfolding id_of
id_of_is d line = refl

pub ids_fit : (d : DictionaryText) → last_column (id_spans d) ≤ least_width d
unfolding least_width
ids_fit d = omega arith

pub least_fits : (d : DictionaryText) (line : FileLine) → least_width d ≤ length (line_text d line).columns
unfolding line_text width_of
least_fits d line = omega (arith, length-padded (max (length (columns_of line)) (max (least_width d) (record_len d (record_of d (columns_of line))))) (columns_of line))

-- what a test of the id columns says
pub ids_test : (d : DictionaryText) (run : RunText) (layout : LayoutText) (a b : List ℕ) (test : Bool) → test ≡ bytes_eq (fields_at layout.ids a) (fields_at layout.ids b) → layout ≡ layout_of d
    → a ≡ (line_at run 0).columns → test ≡ bytes_eq (run_id d run) (ids_of d b)
ids_test d run layout a b test t l e =
    t ∙ ap (λ x. bytes_eq (fields_at x.ids a) (fields_at x.ids b)) l ∙ ap (λ x. bytes_eq x (fields_at (id_spans d) b)) (ids_of_is d a ∙ ap (ids_of d) e)
    ∙ ap (bytes_eq (run_id d run)) (ids_of_is d b)

pub same_ids : (xs ys : List ℕ) (test : Bool) → test ≡ bytes_eq xs ys → test ≡ true → xs ≡ ys
same_ids xs ys test e t = (bytes_eq-Decides xs ys).0 (sym e ∙ t)

pub other_ids : (xs ys : List ℕ) (test : Bool) → test ≡ bytes_eq xs ys → test ≡ false → (xs ≡ ys → ⊥)
other_ids xs ys test e t same = false≢true (sym t ∙ e ∙ (bytes_eq-Decides xs ys).1 same)

-- columns are others that differ in a part
pub part_differs : (xs ys : List ℕ) (at n : ℕ) (test : Bool) → (take n (drop at xs) ≡ take n (drop at ys) → test ≡ true) → test ≡ false → false ≡ bytes_eq xs ys
part_differs xs ys at n test all t = by_test (bytes_eq xs ys) refl
  where
    by_test : (same : Bool) → bytes_eq xs ys ≡ same → false ≡ same
    by_test true e = absurd (false≢true (sym t ∙ all (ap (λ l. take n (drop at l)) ((bytes_eq-Decides xs ys).0 e))))
    by_test false e = refl

pub fault_of-own : (place number : ℕ) (line : FileLine) → line_fault line ≡ Some number → fault_of place line ≡ Some number
fault_of-own place number line h = rw h refl

pub fault_of-many : (d : DictionaryText) (id : List ℕ) (n : ℕ) (line : FileLine) → line_fault line ≡ None → n ≡ 10000 → id ≡ id_of d line
    → fault_of (place_after d id n line) line ≡ Some 22
fault_of-many d id n line h full same = rw (place-same d id n line (sym same), full, h) refl

-- the id of a line that was read
pub own_ids : (d : DictionaryText) (line : FileLine) (a columns : List ℕ) (head : Head) → a ≡ columns → line_with columns head ≡ line_text d line → ids_of d a ≡ id_of d line
own_ids d line a columns head e f = ap (ids_of d) (e ∙ ap (λ l. l.columns) f) ∙ id_of_is d line

-- the run with the line that was read
pub with_line-read : (d : DictionaryText) (run new : RunText) (line : FileLine) (a columns : List ℕ) (head : Head) → new ≡ with_line run head.marked (line_with a head)
    → a ≡ columns → line_with columns head ≡ line_text d line → head.marked ≡ is_marked line → new ≡ with_line run (is_marked line) (line_text d line)
with_line-read d run new line a columns head e f g m =
    e ∙ ap (λ x. with_line run head.marked (line_with x head)) f ∙ ap (λ l. with_line run head.marked l) g ∙ ap (λ b. with_line run b (line_text d line)) m

-- a run of a line alone
pub run_of-with : (run : RunText) (number : ℕ) (marked : Bool) (line : LineText) → run.lines ≡ [] → run.marked ≡ false → run.first_line ≡ number
    → with_line run marked line ≡ run_of number marked line
run_of-with run number marked line l m n = rw (l, m, n) refl

run_of-read : (d : DictionaryText) (number : ℕ) (line : FileLine) (columns : List ℕ) (head : Head) → IsDecoded d line columns head
    → run_of number head.marked (line_with columns head) ≡ run_text d number (line ∷ [])
run_of-read d number line columns head h = ap (run_of number head.marked) h.is ∙ ap (λ m. run_of number m (line_text d line)) h.marked

-- the last line of a run, which was given
pub EndsRun-last : (d : DictionaryText) (line : FileLine) (old kept new run : RunText) (columns : List ℕ) (head : Head) → IsLast d line old kept columns head → run ≡ kept
    → new ≡ run_of (kept.first_line + length kept.lines) head.marked (line_with columns head) → EndsRun d line old new run
EndsRun-last d line old kept new run columns head last given next = record {
  sound = last.decoded.sound;
  some = last.some;
  other = last.other;
  is = given ∙ last.same;
  next = next ∙ ap (λ r. run_of (r.first_line + length r.lines) head.marked (line_with columns head)) last.same
      ∙ run_of-read d (old.first_line + length old.lines) line columns head last.decoded;
}
