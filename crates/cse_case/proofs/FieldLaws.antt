-- Laws of an item's columns among those of a line.
use Rattle.std.proofs.Common.{◌≡◌, ℕ, ◌+◌, ◌-◌, ◌≤◌, min, List, ◌++◌, length, replicate, take, drop, ap, sym, ◌∙◌, arith, inl, inr, append_assoc, append-nil, length-append, length-take-le}
use Rattle.std.proofs.lemmas.Bool.{cases_lt}
use Rattle.std.proofs.lemmas.List.{drop-drop, drop-take, length-drop, length-replicate, length-take, take_all, take_min, drop_min, take-take}
use Rattle.cse_value.specs.declared.shape.ItemShape.{ItemShape}
use Rattle.cse_value.proofs.WidthLaws.{length-put, length-put_text}
use Rattle.cse_case.specs.declared.layout.ColumnSpan.{ColumnSpan}
use Rattle.cse_case.specs.NamedColumns.{field_at}
use Rattle.cse_case.specs.Run.{with_columns}
use Rattle.cse_case.proofs.BytesLaws.{take_with}
use Rattle.cse_case.proofs.LaidLaws.{behind}
use Rattle.cse_value.specs.Field.{put_text}
use Rattle.cse_dict.specs.Dictionary.{code_at, zero_fill_at}
use Rattle.cse_case.specs.declared.field.ItemEntry.{ItemEntry}
use Rattle.cse_case.specs.declared.field.ItemEntry.TheVariants.{Number, Words}
use Rattle.cse_value.specs.declared.shape.ItemKind.{ItemKind}
use Rattle.cse_value.specs.declared.shape.ItemKind.TheVariants.{Number as ANumber}
use Rattle.cse_case.specs.ItemEntry.{IsFor, IsShort, entry_columns}
use Rattle.cse_case.specs.Field.{field_of}

-- the columns that are there
pub field_here : (item : ItemShape) (columns : List ℕ) (s n : ℕ) → s ≡ min (item.start - 1) (length columns) → n ≡ min item.len (length columns - s) → take n (drop s columns) ≡ field_of item columns
unfolding field_of
field_here item columns s n e f =
    let rest : drop s columns ≡ drop (item.start - 1) columns = ap (λ k. drop k columns) e ∙ drop_min (item.start - 1) columns in
    ap (λ k. take k (drop s columns)) (f ∙ ap (min item.len) (sym (length-drop s columns))) ∙ (take_min item.len (drop s columns) ∙ ap (take item.len) rest)

-- the columns of a place that are there
pub place_here : (span : ColumnSpan) (columns : List ℕ) (s n : ℕ) → s ≡ min (span.start - 1) (length columns) → n ≡ min span.len (length columns - s) → take n (drop s columns) ≡ field_at span columns
place_here span columns s n e f =
    let rest : drop s columns ≡ drop (span.start - 1) columns = ap (λ k. drop k columns) e ∙ drop_min (span.start - 1) columns in
    ap (λ k. take k (drop s columns)) (f ∙ ap (min span.len) (sym (length-drop s columns))) ∙ (take_min span.len (drop s columns) ∙ ap (take span.len) rest)

-- all columns of an item
pub whole_here : (item : ItemShape) (columns : List ℕ) (start n : ℕ) → start ≡ item.start - 1 → n ≡ item.len → take n (drop start columns) ≡ field_of item columns
unfolding field_of
whole_here item columns start n at is = ap (λ k. take k (drop start columns)) is ∙ ap (λ k. take item.len (drop k columns)) at

-- what stands behind a line is none of its items'
pub field_from : (item : ItemShape) (columns : List ℕ) (first width : ℕ) → item.start - 1 + item.len ≤ width → field_of item (drop first columns) ≡ field_of item (take width (drop first columns))
unfolding field_of
field_from item columns first width within =
    let from = item.start - 1 in
    let rest : width ≡ from + (width - from) = omega arith in
    let cut : drop from (take width (drop first columns)) ≡ take (width - from) (drop from (drop first columns)) =
    ap (λ w. drop from (take w (drop first columns))) rest ∙ drop-take from (width - from) (drop first columns) in
    sym (ap (take item.len) cut ∙ take-take item.len (width - from) (drop from (drop first columns)) (omega arith))

-- the columns of an item are Len at most
pub short_field : (item : ItemShape) (columns : List ℕ) → length (field_of item columns) ≤ item.len
unfolding field_of
short_field item columns = omega (arith, length-take item.len (drop (item.start - 1) columns))

-- an entry has as many columns as are asked for
pub entry_wide : (entry : ItemEntry) (n : ℕ) → length (entry_columns entry n) ≡ n
entry_wide (Number value dictionary item) n = length-put n value (zero_fill_at dictionary.now item) (code_at dictionary.now item)
entry_wide (Words text) n = length-put_text n text.now.items

-- all columns of an item behind a place
pub whole_behind : (item : ItemShape) (columns : List ℕ) (first : ℕ) → take item.len (drop (first + (item.start - 1)) columns) ≡ field_of item (drop first columns)
unfolding field_of
whole_behind item columns first = ap (take item.len) (sym (drop-drop (item.start - 1) first columns))

-- an entry into an item of its kind is short
pub entry_short : (entry : ItemEntry) (kind : ItemKind) (n : ℕ) → IsFor entry kind → (kind ≡ ANumber → n ≤ 15) → IsShort entry n
entry_short (Number value dictionary item) kind n own number = number own
entry_short (Words words) kind n own number = tt

-- a text is cut, or blanks stand behind it
text_parts : (width count : ℕ) (text : List ℕ) → count ≡ min (length text) width → take count text ++ replicate (width - count) 32 ≡ put_text width text
text_parts width count text e = elim (cases_lt (length text) width) [
  | inl low ↦
      let all : count ≡ length text = omega arith in
      let blanks : List ℕ = replicate (width - length text) 32 in
      ap (λ k. take k text ++ replicate (width - k) 32) all ∙ ap (λ l. l ++ blanks) (take_all (length text) text (omega arith))
      ∙ sym (take_all width (text ++ blanks) (omega (arith, length-append text blanks, length-replicate {A = ℕ} (width - length text) 32)))
  | inr high ↦
      let all : count ≡ width = omega arith in
      let none : width - length text ≡ 0 = omega arith in
      let same : width - width ≡ 0 = omega arith in
      ap (λ k. take k text ++ replicate (width - k) 32) all ∙ ap (λ k. take width text ++ replicate k 32) same ∙ append-nil (take width text)
      ∙ sym (ap (λ k. take width (text ++ replicate k 32)) none ∙ ap (take width) (append-nil text))
]

-- what is written behind columns that were written
written_behind : (at : ℕ) (a b columns : List ℕ) → at + length a + length b ≤ length columns → with_columns (at + length a) b (with_columns at a columns) ≡ with_columns at (a ++ b) columns
written_behind at a b columns fits =
    let from = at + length a in
    let last = from + length b in
    let wide : last ≡ at + length (a ++ b) = omega (arith, length-append a b) in
    ap (λ l. l ++ (b ++ drop last (with_columns at a columns))) (take_with at a columns (omega arith))
    ∙ ap (λ l. (take at columns ++ a) ++ (b ++ l)) (behind at last a columns (omega arith) (omega arith))
    ∙ append_assoc (take at columns) a (b ++ drop last columns)
    ∙ ap (λ l. take at columns ++ l) (sym (append_assoc a b (drop last columns)) ∙ ap (λ k. (a ++ b) ++ drop k columns) wide)

-- a text is written over columns, and blanks behind it
pub text_written : (at len count : ℕ) (text columns : List ℕ) → count ≡ min (length text) len → at + len ≤ length columns
    → with_columns (at + count) (replicate (len - count) 32) (with_columns at (take count text) columns) ≡ with_columns at (put_text len text) columns
text_written at len count text columns e fits =
    let front = take count text in
    let blanks : List ℕ = replicate (len - count) 32 in
    let wide : length front ≡ count = length-take-le count text (omega arith) in
    ap (λ k. with_columns (at + k) blanks (with_columns at front columns)) (sym wide)
    ∙ written_behind at front blanks columns (omega (arith, wide, length-replicate {A = ℕ} (len - count) 32))
    ∙ ap (λ l. with_columns at l columns) (text_parts len count text e)

-- so many columns from a place on
pub length-piece : (at len : ℕ) (columns : List ℕ) → at + len ≤ length columns → length (take len (drop at columns)) ≡ len
length-piece at len columns h = length-take-le len (drop at columns) (omega (arith, h, length-drop at columns))
