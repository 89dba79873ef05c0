-- Laws of cases whose lines lie in one list of columns.
use Rattle.std.proofs.Common.{◌≡◌, ℕ, suc, ◌+◌, ◌<◌, List, [], ◌∷◌, length, map, Option, None, Some, refl, ap, sym, ◌∙◌, nat_lt, ◌++◌, ◌≤◌, take, drop, append-nil, arith, get_or}
use Rattle.std.proofs.lemmas.List.{length-map, drop_all}
use Rattle.cse_case.specs.Run.{with_columns}
use Rattle.cse_value.specs.declared.shape.RecordShape.{RecordShape}
use Rattle.cse_dict.specs.declared.lookup.Unseen.{Unseen}
use Rattle.cse_case.specs.declared.line.Line.{Line}
use Rattle.std.specs.List.{flat_map}
use Rattle.std.proofs.lemmas.List.{take_more, map-append}
use Rattle.std.proofs.lemmas.Grind.{flat_map-append}
use Rattle.cse_case.specs.Written.{written_line}
use Rattle.cse_case.specs.Laid.{laid_line, laid_lines}
use Rattle.cse_case.specs.Seen.{onto_unseen, unseen_after, unseen_from, unseen_of, is_case}
use Rattle.cse_case.specs.Case.{types_of}

-- where lines lie says nothing of their records
pub types_laid : (columns : List ℕ) (lines : List Line) → types_of (laid_lines columns lines) ≡ map (λ l. l.record_number) lines
types_laid columns [] = refl
types_laid columns (l ∷ ls) = ap (λ ts. l.record_number ∷ ts) (types_laid columns ls)

-- how many lines are unseen doesn't depend on the number of the first
length-onto : (n m : ℕ) (o : Option Unseen) (xs ys : List (ℕ × Unseen)) → length xs ≡ length ys → length (onto_unseen n o xs) ≡ length (onto_unseen m o ys)
length-onto n m None xs ys e = e
length-onto n m (Some why) xs ys e = ap suc e

length-unseen_from : (records : List RecordShape) (n m : ℕ) (before lines : List (Option ℕ)) → length (unseen_from records n before lines) ≡ length (unseen_from records m before lines)
length-unseen_from records n m before [] = refl
length-unseen_from records n m before (l ∷ ls) =
    length-onto n m (unseen_after records before l) (unseen_from records (n + 1) (before ++ l ∷ []) ls) (unseen_from records (m + 1) (before ++ l ∷ []) ls) (length-unseen_from records (n + 1) (m + 1) (before ++ l ∷ []) ls)

-- how many lines are unseen, and that they are lines
pub length-unseen_of : (records : List RecordShape) (n m : ℕ) (types : List (Option ℕ)) → length (unseen_of records n types) ≡ length (unseen_of records m types)
unfolding unseen_of
length-unseen_of records n m types = length-unseen_from records n m [] types

onto_below : (n : ℕ) (o : Option Unseen) (xs : List (ℕ × Unseen)) (k : ℕ) → length xs ≤ k → length (onto_unseen n o xs) ≤ suc k
onto_below n None xs k h = omega arith
onto_below n (Some why) xs k h = omega arith

pub unseen_from_below : (records : List RecordShape) (n : ℕ) (before types : List (Option ℕ)) → length (unseen_from records n before types) ≤ length types
unseen_from_below records n before [] = omega arith
unseen_from_below records n before (t ∷ ts) =
    onto_below n (unseen_after records before t) (unseen_from records (n + 1) (before ++ t ∷ []) ts) (length ts) (unseen_from_below records (n + 1) (before ++ t ∷ []) ts)

pub unseen_below : (records : List RecordShape) (n : ℕ) (types : List (Option ℕ)) → length (unseen_of records n types) ≤ length types
unfolding unseen_of
unseen_below records n types = unseen_from_below records n [] types

pub is_case_by_count : (records : List RecordShape) (number : ℕ) (columns : List ℕ) (lines : List Line) → nat_lt (length (unseen_of records number (map (λ l. l.record_number) lines))) (length lines)
    ≡ is_case records (types_of (laid_lines columns lines))
unfolding is_case unseen_of
is_case_by_count records number columns lines =
    let types = map (λ l. l.record_number) lines in
    ap (λ n. nat_lt n (length lines)) (length-unseen_from records number 1 [] types)
    ∙ (ap (λ n. nat_lt (length (unseen_from records 1 [] types)) n) (sym (length-map lines (λ l. l.record_number)))
    ∙ ap (λ ts. nat_lt (length (unseen_from records 1 [] ts)) (length ts)) (sym (types_laid columns lines)))

-- writing over all columns
pub with_columns-all : (field columns : List ℕ) → length field ≡ length columns → with_columns 0 field columns ≡ field
with_columns-all field columns e =
    let none : drop (0 + length field) columns ≡ [] = drop_all (0 + length field) columns (omega arith) in
    ap (λ l. field ++ l) none ∙ append-nil field

-- one line more is written
pub written-more : (columns : List ℕ) (lines : List Line) (i : ℕ) (line : Line) → i < length lines → line ≡ get_or lines i line
    → flat_map written_line (laid_lines columns (take (i + 1) lines)) ≡ flat_map written_line (laid_lines columns (take i lines)) ++ written_line (laid_line columns line)
written-more columns lines i line h e =
    let more : take (i + 1) lines ≡ take i lines ++ line ∷ [] = take_more lines i line h ∙ ap (λ y. take i lines ++ y ∷ []) (sym e) in
    ap (λ ls. flat_map written_line (laid_lines columns ls)) more
    ∙ (ap (flat_map written_line) (map-append (laid_line columns) (take i lines) (line ∷ []))
    ∙ (flat_map-append written_line (laid_lines columns (take i lines)) (laid_line columns line ∷ []) ∙ ap (λ l. flat_map written_line (laid_lines columns (take i lines)) ++ l) (append-nil (written_line (laid_line columns line)))))
