-- Laws of a line that is read as columns.
use Rattle.std.proofs.Common.{◌≡◌, ℕ, ◌+◌, ◌-◌, ◌<◌, ◌≤◌, max, cond, ltb, Option, Some, None, Bool, true, false, List, [], ◌∷◌, ◌++◌, length, get_or, set, take, drop, replicate, refl, ap, sym, ◌∙◌, arith, append_assoc, append-nil, length-append, length-drop, inl, inr, subst, take-append-drop, length-take-le}
use Rattle.std.specs.Str.{IsAscii, IsUtf8, chars, is_utf8}
use Rattle.std.proofs.lemmas.Str.{IsUtf8-append, IsUtf8-from_ascii, chars-IsAscii, chars-append, encodes-chars, length-le-encodes}
use Rattle.std.proofs.lemmas.List.{drop-append-le, drop_more, get_or-set_other, get_or-set_same, length-replicate, replicate-append-replicate, take-append-le, take_all, take_at}
use Rattle.std.proofs.lemmas.Slice.{drop-append-drop}
use Rattle.std.proofs.lemmas.Bool.{cases_lt, lt-ltb, false_from_ne_true, le-ltb}
use Rattle.cse_dict.specs.Dictionary.{DictionaryText, number_of_type}
use Rattle.cse_dict.specs.Sound.{IsSound}
use Rattle.cse_case.specs.declared.layout.ColumnSpan.{ColumnSpan}
use Rattle.cse_case.specs.declared.line.Ending.{Ending}
use Rattle.cse_case.specs.Line.{FileLine, ending_of, text_of}
use Rattle.cse_case.specs.NamedColumns.{field_at, id_spans, last_column, least_width, padded, record_len, record_of, type_span, width_of}
use Rattle.cse_case.specs.Columns.{LineText, columns_of, line_text}
use Rattle.cse_case.specs.Run.{with_columns}
use Rattle.cse_case.specs.Runs.{line_fault}
use Rattle.cse_case.specs.declared.decode.LineStop.{LineStop}
use Rattle.cse_case.specs.declared.decode.LineStop.TheVariants.{Memory, Fault}
use Rattle.cse_case.specs.Decoding.{Holds, IfFault}

pub length-padded : (width : ℕ) (columns : List ℕ) → length (padded width columns) ≡ max (length columns) width
length-padded width columns = omega (arith, length-append columns (replicate (width - length columns) 32), length-replicate {A = ℕ} (width - length columns) 32)

pub padded-padded : (wide least : ℕ) (columns : List ℕ) → padded wide (padded least columns) ≡ padded (max (length columns) (max least wide)) columns
padded-padded wide least columns =
    let n = length columns in
    let m : length (padded least columns) ≡ max n least = length-padded least columns in
    let more : least - n + (wide - length (padded least columns)) ≡ max n (max least wide) - n = omega arith in
    append_assoc columns (replicate (least - n) 32) (replicate (wide - length (padded least columns)) 32)
    ∙ ap (λ l. columns ++ l) (replicate-append-replicate (least - n) (wide - length (padded least columns)) 32)
    ∙ ap (λ k. columns ++ replicate k 32) more

-- the columns of the record type of a line that is padded to the least width
pub type_fits : (d : DictionaryText) (columns : List ℕ) → (type_span d).start - 1 + (type_span d).len ≤ length (padded (least_width d) columns)
unfolding least_width
type_fits d columns = omega (arith, length-padded (last_column (type_span d ∷ id_spans d)) columns)

pub record_of_is : (d : DictionaryText) (columns : List ℕ) → number_of_type (field_at (type_span d) (padded (least_width d) columns)) d ≡ record_of d columns
unfolding record_of
record_of_is d columns = refl

pub width_of_is : (d : DictionaryText) (columns : List ℕ) → max (max (length columns) (least_width d)) (record_len d (record_of d columns)) ≡ width_of d columns
unfolding width_of
width_of_is d columns = omega arith

-- padded to no less than another width
padded-wider : (wide least : ℕ) (text : List ℕ) → least ≤ wide → padded wide text ≡ padded wide (padded least text)
padded-wider wide least text h =
    let n = length text in
    let same : wide - n ≡ max n (max least wide) - n = omega arith in
    ap (λ k. text ++ replicate k 32) same ∙ sym (padded-padded wide least text)

-- a field within the least width is the same however far the text is padded
pub field_past : (s : ColumnSpan) (wide least : ℕ) (text : List ℕ) → s.start - 1 + s.len ≤ least → least ≤ wide → field_at s (padded wide text) ≡ field_at s (padded least text)
field_past s wide least text fits h =
    let p = padded least text in
    let len : length p ≡ max (length text) least = length-padded least text in
    ap (field_at s) (padded-wider wide least text h)
    ∙ ap (take s.len) (drop-append-le (s.start - 1) p (replicate (wide - length p) 32) (omega arith))
    ∙ take-append-le s.len (drop (s.start - 1) p) (replicate (wide - length p) 32) (omega (arith, length-drop (s.start - 1) p))

-- columns that have the width
pub width_same : (width : ℕ) (columns : List ℕ) → length columns ≡ width → columns ≡ take width columns ++ replicate (width - length columns) 32
width_same width columns h =
    let none : width - length columns ≡ 0 = omega arith in
    sym (ap (λ k. take width columns ++ replicate k 32) none ∙ append-nil (take width columns) ∙ take_all width columns (omega arith))

-- a padded text of another width
pub width_set : (wide width : ℕ) (text : List ℕ) → length text ≤ width → take width (padded wide text) ++ replicate (width - length (padded wide text)) 32 ≡ padded width text
width_set wide width text fits =
    let len : length (padded wide text) ≡ max (length text) wide = length-padded wide text in
    elim (cases_lt width wide) [
      | inl h ↦
          let p = padded width text in
          let here : length p ≡ width = omega (arith, length-padded width text) in
          let none : width - length (padded wide text) ≡ 0 = omega arith in
          ap (λ k. take width (padded wide text) ++ replicate k 32) none ∙ append-nil (take width (padded wide text))
          ∙ ap (take width) (padded-wider wide width text (omega arith)) ∙ take_at p (replicate (wide - length p) 32) width here
      | inr h ↦
          let same : max (length text) (max wide width) - length text ≡ width - length text = omega arith in
          ap (λ l. l ++ replicate (width - length (padded wide text)) 32) (take_all width (padded wide text) (omega arith))
          ∙ padded-padded width wide text ∙ ap (λ k. text ++ replicate k 32) same
    ]

-- the field of the record type, in columns that hold a text and are padded to the least width
pub type_held : (d : DictionaryText) (columns text : List ℕ) (n : ℕ) → Holds columns text n → field_at (type_span d) (padded (least_width d) columns) ≡ field_at (type_span d) (padded (least_width d) text)
unfolding least_width
type_held d columns text n held =
    let least = last_column (type_span d ∷ id_spans d) in
    let wide = max (length text) (max (length columns) least) in
    ap (λ l. field_at (type_span d) (padded least l)) held.is ∙ ap (field_at (type_span d)) (padded-padded least (length columns) text)
    ∙ field_past (type_span d) wide least text (omega arith) (omega arith)

-- the columns of a line, which were cut or padded to its width
pub columns_held : (d : DictionaryText) (columns text : List ℕ) (n width : ℕ) → Holds columns text n → width ≡ max (max n (least_width d)) (record_len d (record_of d text))
    → take width (padded (least_width d) columns) ++ replicate (width - length (padded (least_width d) columns)) 32 ≡ padded (width_of d text) text
columns_held d columns text n width held w =
    let least = least_width d in
    let is : padded least columns ≡ padded (max (length text) (max (length columns) least)) text = ap (padded least) held.is ∙ padded-padded least (length columns) text in
    ap (λ l. take width l ++ replicate (width - length l) 32) is
    ∙ width_set (max (length text) (max (length columns) least)) width text (omega (arith, held.count))
    ∙ ap (λ k. padded k text) (w ∙ ap (λ m. max (max m least) (record_len d (record_of d text))) held.count ∙ width_of_is d text)

-- bytes at the front of columns, and blanks behind them
pub held_bytes : (width old : ℕ) (text : List ℕ) → width ≡ max (length text) old → text ++ replicate (width - length text) 32 ≡ padded old text
held_bytes width old text h =
    let same : width - length text ≡ old - length text = omega arith in
    ap (λ k. text ++ replicate k 32) same

pub Holds-padded : (columns text : List ℕ) (old n : ℕ) → columns ≡ padded old text → n ≡ length text → Holds columns text n
Holds-padded columns text old n is count =
    let len : length columns ≡ max (length text) old = ap length is ∙ length-padded old text in
    let same : old - length text ≡ length columns - length text = omega arith in
    record { count = count; is = is ∙ ap (λ k. text ++ replicate k 32) same }

pub line_fault-long : (line : FileLine) → 262144 < length (text_of line) → line_fault line ≡ Some 21
unfolding line_fault
line_fault-long line h = rw (lt-ltb 262144 (length (text_of line)) h) refl

pub line_fault-not_text : (line : FileLine) → length (text_of line) ≤ 262144 → is_utf8 (text_of line) ≡ false → line_fault line ≡ Some 20
unfolding line_fault
line_fault-not_text line h u = rw (le-ltb 262144 (length (text_of line)) h, u) refl

pub line_fault-wide : (line : FileLine) → length (text_of line) ≤ 262144 → is_utf8 (text_of line) ≡ true → 65536 < length (columns_of line) → line_fault line ≡ Some 21
unfolding line_fault
line_fault-wide line h u w = rw (le-ltb 262144 (length (text_of line)) h, u, lt-ltb 65536 (length (columns_of line)) w) refl

pub line_fault-none : (line : FileLine) → length (text_of line) ≤ 262144 → is_utf8 (text_of line) ≡ true → length (columns_of line) ≤ 65536 → line_fault line ≡ None
unfolding line_fault
line_fault-none line h u w = rw (le-ltb 262144 (length (text_of line)) h, u, le-ltb 65536 (length (columns_of line)) w) refl

-- a line without a fault is not too long, and is text
pub short_line : (line : FileLine) → line_fault line ≡ None → ltb 262144 (length (text_of line)) ≡ false
unfolding line_fault
short_line line h = false_from_ne_true _ (λ e. let h' = rw e at h in cc)

pub text_is_utf8 : (line : FileLine) → line_fault line ≡ None → is_utf8 (text_of line) ≡ true
unfolding line_fault
text_is_utf8 line h = by_cases (ltb 262144 (length (text_of line))) (is_utf8 (text_of line)) (cond {A = Option ℕ} (ltb 65536 (length (columns_of line))) (Some 21) None) h
  where
    by_cases : (long text : Bool) (later : Option ℕ) → cond {A = Option ℕ} long (Some 21) (cond {A = Option ℕ} text later (Some 20)) ≡ None → text ≡ true
    by_cases true text later h = cc
    by_cases false true later h = refl
    by_cases false false later h = cc

-- a line whose columns were read
pub line_text-is : (d : DictionaryText) (line : FileLine) (columns : List ℕ) (len : ℕ) (ending : Ending) (number : Option ℕ) → ending ≡ ending_of (line.1)
    → len ≡ length (columns_of line) → number ≡ record_of d (columns_of line) → columns ≡ padded (width_of d (columns_of line)) (columns_of line)
    → (let l : LineText = record { columns = columns; len = len; ending = ending; record_number = number } in l) ≡ line_text d line
unfolding line_text
line_text-is d line columns len ending number e n r c = rw (e, n, r, c) refl

-- what holds of the number of a fault
pub IfFault-more : (P Q : ℕ → Type 0) (stop : LineStop) → ((number : ℕ) → P number → Q number) → IfFault P stop → IfFault Q stop
IfFault-more P Q Memory h f = tt
IfFault-more P Q (Fault number) h f = h number f

-- and becomes a column behind theirs
pub columns_more : (text columns : List ℕ) (i byte : ℕ) → i < length columns → byte ≡ get_or text i 0 → ((k : ℕ) → k < i → get_or columns k 0 ≡ get_or text k 0)
    → (k : ℕ) → k < i + 1 → get_or (set columns i byte) k 0 ≡ get_or text k 0
columns_more text columns i byte room at before k h = elim (cases_lt k i) [
  | inl below ↦ get_or-set_other columns i k byte 0 (λ e. absurd (omega arith)) ∙ before k below
  | inr above ↦ let same : k ≡ i = omega arith in rw (same, ← at) (get_or-set_same columns i byte 0 room)
]

-- a column is written behind others
set_front : (front rest : List ℕ) (n x y : ℕ) → n ≡ length front → set (front ++ y ∷ rest) n x ≡ (front ++ x ∷ []) ++ rest
set_front [] rest n x y e = rw e refl
set_front (f ∷ front) rest n x y e = rw e (ap (λ l. f ∷ l) (set_front front rest (length front) x y refl))

pub set_behind : (front columns : List ℕ) (n x : ℕ) → n ≡ length front → n < length columns → set (front ++ drop n columns) n x ≡ (front ++ x ∷ []) ++ drop (n + 1) columns
set_behind front columns n x e h = ap (λ l. set (front ++ l) n x) (drop_more columns n 0 h) ∙ set_front front (drop (n + 1) columns) n x (get_or columns n 0) e

-- a text has no more characters than bytes
pub chars_fit : (bytes : List ℕ) → IsUtf8 bytes → length (chars bytes) ≤ length bytes
chars_fit bytes utf8 = omega (arith, length-le-encodes (chars bytes), ap length (encodes-chars bytes utf8))

-- bytes of which those in front are ASCII
chars_front : (text : List ℕ) (at : ℕ) → IsAscii (take at text) → chars text ≡ take at text ++ chars (drop at text)
chars_front text at ascii =
    let front = take at text in
    ap chars (sym (take-append-drop at text)) ∙ chars-append front (drop at text) (IsUtf8-from_ascii front ascii) ∙ ap (λ l. l ++ chars (drop at text)) (chars-IsAscii front ascii)

pub utf8_front : (text : List ℕ) (at : ℕ) → IsAscii (take at text) → IsUtf8 (drop at text) → IsUtf8 text
utf8_front text at ascii h = subst IsUtf8 (take-append-drop at text) (IsUtf8-append (take at text) (drop at text) (IsUtf8-from_ascii (take at text) ascii) h)

-- columns that hold a text hold, behind a place in it, what is left of it
pub padded_behind : (columns text rest left : List ℕ) (at : ℕ) → columns ≡ padded (length columns) text → at ≤ length text → rest ≡ drop at columns → left ≡ drop at text → rest ≡ padded (length rest) left
padded_behind columns text rest left at over fits is behind =
    let blanks = replicate (length columns - length text) 32 in
    let same : length columns - length text ≡ length rest - length left = omega (arith, ap length is, length-drop at columns, ap length behind, length-drop at text) in
    is ∙ ap (drop at) over ∙ drop-append-le at text blanks fits ∙ ap (λ l. l ++ blanks) (sym behind) ∙ ap (λ k. left ++ replicate k 32) same

-- the characters of a text over columns that hold its bytes, with blanks where bytes are left
pub Holds-blanked : (columns text all front : List ℕ) (n : ℕ) → drop (length text) columns ≡ replicate (length columns - length text) 32 → length text ≤ length columns → n ≡ length all → n ≤ length text
    → front ≡ all ++ drop n columns → Holds (with_columns n (replicate (length text - n) 32) front) all n
Holds-blanked columns text all front n over fits count few is =
    let blanks = replicate (length text - n) 32 in
    let rest = replicate (length columns - length text) 32 in
    let more : length blanks ≡ length text - n = length-replicate {A = ℕ} (length text - n) 32 in
    let end : n + length blanks ≡ length text = omega (arith, more) in
    let taken : take n front ≡ all = ap (take n) is ∙ take_at all (drop n columns) n (sym count) in
    let left : drop (length text) front ≡ rest =
    ap (λ l. drop (length text) l) is ∙ drop-append-drop n columns all (length text) few (sym count) ∙ over in
    let is_now : with_columns n blanks front ≡ all ++ replicate (length columns - n) 32 =
    ap (λ l. l ++ (blanks ++ drop (n + length blanks) front)) taken ∙ ap (λ k. all ++ (blanks ++ drop k front)) end ∙ ap (λ l. all ++ (blanks ++ l)) left
    ∙ ap (λ l. all ++ l) (replicate-append-replicate (length text - n) (length columns - length text) 32)
    ∙ ap (λ k. all ++ replicate k 32) (let sum : length text - n + (length columns - length text) ≡ length columns - n = omega arith in sum) in
    let wide : length (with_columns n blanks front) ≡ length columns =
    omega (arith, ap length is_now, length-append all (replicate (length columns - n) 32), length-replicate {A = ℕ} (length columns - n) 32) in
    record {
      count = count;
      is = is_now ∙ ap (λ k. all ++ replicate k 32) (let same : length columns - n ≡ length (with_columns n blanks front) - length all = omega (arith, wide) in same);
    }

-- the characters of a text over columns that hold its bytes: those in front that are ASCII stayed
pub Holds-beyond : (columns text new : List ℕ) (at n : ℕ) → columns ≡ padded (length columns) text → at ≤ length text → IsAscii (take at text) → length (chars (drop at text)) ≤ length (drop at columns)
    → n ≡ length (chars (drop at text)) → new ≡ padded (length (drop at columns)) (chars (drop at text)) → Holds (take at columns ++ new) (chars text) (at + n)
Holds-beyond columns text new at n over fits ascii low count is =
    let front = take at text in
    let rest = chars (drop at text) in
    let wide = length (drop at columns) in
    let front_is : take at columns ≡ front = ap (take at) over ∙ take-append-le at text (replicate (length columns - length text) 32) fits in
    let front_len : length front ≡ at = length-take-le at text fits in
    let all : chars text ≡ front ++ rest = chars_front text at ascii in
    let all_len : length (chars text) ≡ length front + length rest = ap length all ∙ length-append front rest in
    let new_len : length new ≡ max (length rest) wide = ap length is ∙ length-padded wide rest in
    let whole : length (take at columns ++ new) ≡ length front + length new = ap (λ l. length (l ++ new)) front_is ∙ length-append front new in
    let blanks : wide - length rest ≡ length (take at columns ++ new) - length (chars text) = omega (arith, whole, all_len, new_len, low) in
    record {
      count = omega (arith, count, all_len, front_len);
      is = ap (λ l. l ++ new) front_is ∙ ap (λ l. front ++ l) is ∙ sym (append_assoc front rest (replicate (wide - length rest) 32))
          ∙ ap (λ l. l ++ replicate (wide - length rest) 32) (sym all) ∙ ap (λ k. chars text ++ replicate k 32) blanks;
    }

-- the record type has few columns
pub type_few : (d : DictionaryText) → IsSound d → d.type_columns.len ≤ 16
type_few d sound = elim sound.type_columns [
  | inl none ↦ let no : d.type_columns.len ≡ 0 = ap (λ c. c.len) none in omega arith
  | inr some ↦ some.few
]
