-- Laws of how the lines of a run lie in one list of columns.
use Rattle.std.proofs.Common.{◌≡◌, ℕ, zero, suc, ◌+◌, ◌-◌, ◌<◌, ◌≤◌, List, [], ◌∷◌, ◌++◌, length, get_or, set, take, drop, refl, ap, sym, ◌∙◌, arith, add_assoc, append_assoc, length-append, length-drop, take-add, drop-drop, take-append-drop}
use Rattle.std.proofs.lemmas.List.{get_or-map, drop-append-le, drop_at, drop-take, take-append-le, take-take, take_all, length-take-le}
use Rattle.std.proofs.Math.Seq.{take-append-add}
use Rattle.cse_case.specs.declared.line.Line.{Line}
use Rattle.cse_case.specs.declared.decode.Head.{Head}
use Rattle.cse_case.specs.Columns.{LineText, no_line}
use Rattle.cse_case.specs.Decoding.{line_with}
use Rattle.cse_case.specs.Laid.{laid_line, laid_lines, IsLaid, line_behind}
use Rattle.cse_case.specs.Run.{with_columns}

laid_top : (at : ℕ) (columns : List ℕ) (lines : List Line) → IsLaid at columns lines → at ≤ length columns
laid_top at columns [] h = omega arith
laid_top at columns (l ∷ ls) h = omega (arith, laid_top (at + l.width) columns ls h.2)

-- where a line lies
pub laid_within : (at : ℕ) (columns : List ℕ) (lines : List Line) (i : ℕ) (line : Line) → IsLaid at columns lines → i < length lines
    → line ≡ get_or lines i line → line.first + line.width ≤ length columns
laid_within at columns [] i line h l e = absurd (omega arith)
laid_within at columns (x ∷ xs) zero line h l e =
    let first : line.first ≡ at = ap (λ y. y.first) e ∙ h.0 in
    let width : line.width ≡ x.width = ap (λ y. y.width) e in
    omega (arith, laid_top (at + x.width) columns xs h.2)
laid_within at columns (x ∷ xs) (suc i) line h l e = laid_within (at + x.width) columns xs i line h.2 (omega arith) e

-- its own columns are no more than it is wide
pub laid_fits : (at : ℕ) (columns : List ℕ) (lines : List Line) (i : ℕ) (line : Line) → IsLaid at columns lines → i < length lines
    → line ≡ get_or lines i line → line.len ≤ line.width
laid_fits at columns [] i line h l e = absurd (omega arith)
laid_fits at columns (x ∷ xs) zero line h l e =
    let len : line.len ≡ x.len = ap (λ y. y.len) e in
    let width : line.width ≡ x.width = ap (λ y. y.width) e in
    omega (arith, h.1)
laid_fits at columns (x ∷ xs) (suc i) line h l e = laid_fits (at + x.width) columns xs i line h.2 (omega arith) e

pub laid_from : (at : ℕ) (columns : List ℕ) (lines : List Line) (i : ℕ) (line : Line) → IsLaid at columns lines → i < length lines
    → line ≡ get_or lines i line → at ≤ line.first
laid_from at columns [] i line h l e = absurd (omega arith)
laid_from at columns (x ∷ xs) zero line h l e = let first : line.first ≡ at = ap (λ y. y.first) e ∙ h.0 in omega arith
laid_from at columns (x ∷ xs) (suc i) line h l e = omega (arith, laid_from (at + x.width) columns xs i line h.2 (omega arith) e)

-- the columns of other lines stay as they are
pub behind : (p q : ℕ) (field columns : List ℕ) → p + length field ≤ q → p ≤ length columns → drop q (with_columns p field columns) ≡ drop q columns
behind p q field columns h k =
    let n = p + length field in
    let whole : with_columns p field columns ≡ (take p columns ++ field) ++ drop n columns = sym (append_assoc (take p columns) field (drop n columns)) in
    let len : length (take p columns ++ field) ≡ n = length-append (take p columns) field ∙ ap (λ x. x + length field) (length-take-le p columns k) in
    let e : q ≡ n + (q - n) = omega arith in
    ap (λ x. drop x (with_columns p field columns)) e ∙ sym (drop-drop (q - n) n (with_columns p field columns))
    ∙ ap (λ l. drop (q - n) (drop n l)) whole ∙ ap (drop (q - n)) (drop_at (take p columns ++ field) (drop n columns) n len)
    ∙ drop-drop (q - n) n columns ∙ ap (λ x. drop x columns) (sym e)

front_of : (p f w : ℕ) (columns rest : List ℕ) → f + w ≤ p → p ≤ length columns → take w (drop f (take p columns ++ rest)) ≡ take w (drop f (take p columns))
front_of p f w columns rest h k =
    let len : length (take p columns) ≡ p = length-take-le p columns k in
    ap (take w) (drop-append-le f (take p columns) rest (omega arith)) ∙ take-append-le w (drop f (take p columns)) rest (omega (arith, length-drop f (take p columns)))

pub before : (p f w : ℕ) (field columns : List ℕ) → f + w ≤ p → p ≤ length columns → take w (drop f (with_columns p field columns)) ≡ take w (drop f columns)
before p f w field columns h k =
    front_of p f w columns (field ++ drop (p + length field) columns) h k ∙ sym (front_of p f w columns (drop p columns) h k)
    ∙ ap (λ l. take w (drop f l)) (take-append-drop p columns)

-- and those of the line change as said
pub inside : (at f w : ℕ) (field columns : List ℕ) → at + length field ≤ w → f + w ≤ length columns
    → take w (drop f (with_columns (f + at) field columns)) ≡ with_columns at field (take w (drop f columns))
inside at f w field columns h k =
    let m = drop f columns in
    let n = at + length field in
    let here : length m ≡ length columns - f = length-drop f columns in
    let front : take (f + at) columns ≡ take f columns ++ take at m = take-add f at columns in
    let back : drop (f + at + length field) columns ≡ drop n m = ap (λ x. drop x columns) (add_assoc f at (length field)) ∙ sym (drop-drop n f columns) in
    let left : length (take f columns) ≡ f = length-take-le f columns (omega arith) in
    let cut : drop f (with_columns (f + at) field columns) ≡ take at m ++ (field ++ drop n m) =
    ap (λ l. drop f (l ++ (field ++ drop (f + at + length field) columns))) front ∙ ap (drop f) (append_assoc (take f columns) (take at m) (field ++ drop (f + at + length field) columns))
    ∙ drop_at (take f columns) (take at m ++ (field ++ drop (f + at + length field) columns)) f left ∙ ap (λ l. take at m ++ (field ++ l)) back in
    let len : length (take at m ++ field) ≡ n = length-append (take at m) field ∙ ap (λ x. x + length field) (length-take-le at m (omega arith)) in
    let e : w ≡ length (take at m ++ field) + (w - n) = omega arith in
    let rest : drop n (take w m) ≡ take (w - n) (drop n m) = (let f : w ≡ n + (w - n) = omega arith in ap (λ x. drop n (take x m)) f ∙ drop-take n (w - n) m) in
    ap (take w) cut ∙ ap (take w) (sym (append_assoc (take at m) field (drop n m))) ∙ ap (λ x. take x ((take at m ++ field) ++ drop n m)) e
    ∙ take-append-add (take at m ++ field) (drop n m) (w - n) ∙ append_assoc (take at m) field (take (w - n) (drop n m))
    ∙ ap (λ l. take at m ++ (field ++ l)) (sym rest) ∙ ap (λ l. l ++ (field ++ drop n (take w m))) (sym (take-take at w m (omega arith)))

-- one line changes, and the others stay
pub laid_lines-with : (start : ℕ) (columns field : List ℕ) (lines : List Line) (i at : ℕ) (line : Line) → IsLaid start columns lines → i < length lines
    → line ≡ get_or lines i line → at + length field ≤ line.width
    → laid_lines (with_columns (line.first + at) field columns) lines
    ≡ set (laid_lines columns lines) i (record (laid_line columns line) { columns = with_columns at field (laid_line columns line).columns })
laid_lines-with start columns field [] i at line h l e fits = absurd (omega arith)
laid_lines-with start columns field (x ∷ xs) zero at line h l e fits =
    let all = laid_top (start + x.width) columns xs h.2 in
    let first : line.first ≡ start = ap (λ y. y.first) e ∙ h.0 in
    let width : line.width ≡ x.width = ap (λ y. y.width) e in
    let own : laid_line (with_columns (line.first + at) field columns) line ≡ record (laid_line columns line) { columns = with_columns at field (laid_line columns line).columns } =
    ap (λ cs. record (laid_line columns line) { columns = cs }) (inside at line.first line.width field columns fits (omega arith)) in
    ap (λ y. laid_line (with_columns (line.first + at) field columns) y ∷ laid_lines (with_columns (line.first + at) field columns) xs) (sym e)
    ∙ ap (λ y. y ∷ laid_lines (with_columns (line.first + at) field columns) xs) own
    ∙ ap (λ ys. record (laid_line columns line) { columns = with_columns at field (laid_line columns line).columns } ∷ ys)
    (same_behind (start + x.width) (line.first + at) field columns xs h.2 (omega arith))
  where
    same_behind : (from p : ℕ) (field columns : List ℕ) (ls : List Line) → IsLaid from columns ls → p + length field ≤ from → laid_lines (with_columns p field columns) ls ≡ laid_lines columns ls
    same_behind from p field columns [] h k = refl
    same_behind from p field columns (l ∷ ls) h k =
        let high = laid_top (from + l.width) columns ls h.2 in
        let one : laid_line (with_columns p field columns) l ≡ laid_line columns l =
        ap (λ cs. record (laid_line columns l) { columns = take l.width cs }) (behind p l.first field columns (omega (arith, h.0)) (omega arith)) in
        ap (λ y. y ∷ laid_lines (with_columns p field columns) ls) one ∙ ap (λ ys. laid_line columns l ∷ ys) (same_behind (from + l.width) p field columns ls h.2 (omega arith))
laid_lines-with start columns field (x ∷ xs) (suc i) at line h l e fits =
    let low = laid_from (start + x.width) columns xs i line h.2 (omega arith) e in
    let high = laid_within (start + x.width) columns xs i line h.2 (omega arith) e in
    let one : laid_line (with_columns (line.first + at) field columns) x ≡ laid_line columns x =
    ap (λ cs. record (laid_line columns x) { columns = cs }) (before (line.first + at) x.first x.width field columns (omega (arith, h.0)) (omega arith)) in
    ap (λ y. y ∷ laid_lines (with_columns (line.first + at) field columns) xs) one
    ∙ ap (λ ys. laid_line columns x ∷ ys) (laid_lines-with (start + x.width) columns field xs i at line h.2 (omega arith) e fits)

-- writing over columns lets the lines lie where they were
pub IsLaid-len : (at : ℕ) (columns other : List ℕ) (lines : List Line) → length other ≡ length columns → IsLaid at columns lines → IsLaid at other lines
IsLaid-len at columns other [] e h = h ∙ sym e
IsLaid-len at columns other (l ∷ ls) e h = (h.0, h.1, IsLaid-len (at + l.width) columns other ls e h.2)

pub length-with_columns : (p : ℕ) (field columns : List ℕ) → p + length field ≤ length columns → length (with_columns p field columns) ≡ length columns
length-with_columns p field columns h =
    omega (arith, length-append (take p columns) (field ++ drop (p + length field) columns), length-append field (drop (p + length field) columns), length-take-le p columns (omega arith), length-drop (p + length field) columns)

-- a line of a run, by its place
pub line_in : (columns : List ℕ) (lines : List Line) (i : ℕ) (line : Line) → i < length lines → line ≡ get_or lines i line → get_or (laid_lines columns lines) i no_line ≡ laid_line columns line
line_in columns lines i line l e = get_or-map (laid_line columns) lines i line no_line l ∙ ap (laid_line columns) (sym e)

-- one line more
pub IsLaid-push : (at : ℕ) (columns text : List ℕ) (lines : List Line) (head : Head) → head.len ≤ length text → IsLaid at columns lines
    → IsLaid at (columns ++ text) (lines ++ line_behind columns text head ∷ [])
IsLaid-push at columns text [] head fits h = (sym h, fits, ap (λ n. n + length text) h ∙ sym (length-append columns text))
IsLaid-push at columns text (l ∷ ls) head fits h = (h.0, h.1, IsLaid-push (at + l.width) columns text ls head fits h.2)

pub laid_lines-push : (at : ℕ) (columns text : List ℕ) (lines : List Line) (head : Head) → IsLaid at columns lines
    → laid_lines (columns ++ text) (lines ++ line_behind columns text head ∷ []) ≡ laid_lines columns lines ++ line_with text head ∷ []
laid_lines-push at columns text [] head h =
    let own : take (length text) (drop (length columns) (columns ++ text)) ≡ text =
    ap (take (length text)) (drop_at columns text (length columns) refl) ∙ take_all (length text) text (omega arith) in
    ap (λ cs. (let l : LineText = record { columns = cs; len = head.len; ending = head.ending; record_number = head.record_number } in l) ∷ []) own
laid_lines-push at columns text (l ∷ ls) head h =
    let high = laid_top (at + l.width) columns ls h.2 in
    let one : laid_line (columns ++ text) l ≡ laid_line columns l =
    ap (λ cs. record (laid_line columns l) { columns = cs }) (ap (take l.width) (drop-append-le l.first columns text (omega (arith, h.0)))
    ∙ take-append-le l.width (drop l.first columns) text (omega (arith, length-drop l.first columns, h.0))) in
    ap (λ y. y ∷ laid_lines (columns ++ text) (ls ++ line_behind columns text head ∷ [])) one
    ∙ ap (λ ys. laid_line columns l ∷ ys) (laid_lines-push (at + l.width) columns text ls head h.2)

-- the first line lies at the front
pub laid_first : (columns : List ℕ) (lines : List Line) (line : Line) → IsLaid 0 columns lines → 0 < length lines → line ≡ get_or lines 0 line → line.first ≡ 0
laid_first columns [] line laid some is = absurd (omega (arith, some))
laid_first columns (l ∷ lines) line laid some is = ap (λ (x : Line). x.first) is ∙ laid.0

-- and is this line of the run
pub first_line_at : (columns : List ℕ) (lines : List Line) (line : Line) → 0 < length lines → line ≡ get_or lines 0 line → laid_line columns line ≡ get_or (laid_lines columns lines) 0 no_line
first_line_at columns [] line some is = absurd (omega (arith, some))
first_line_at columns (l ∷ lines) line some is = ap (laid_line columns) is
