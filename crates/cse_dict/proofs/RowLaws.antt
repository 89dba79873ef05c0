-- The rows of pairs are rows of their set.
use Rattle.std.proofs.Common.{◌≡◌, ◌<◌, ◌≤◌, ℕ, Bool, true, false, cond, List, [], ◌∷◌, ◌++◌, fold, refl, arith, Some}
use Rattle.std.specs.Prelude.{find, if◌then◌else◌, IfSome}
use Rattle.std.specs.Option.{option_map}
use Rattle.cse_value.specs.declared.number.Num.{Num}
use Rattle.cse_value.specs.declared.number.Num.TheVariants.{Whole, NotAppl, Missing, Undef}
use Rattle.cse_sections.specs.Sections.{EntryText, SectionText}
use Rattle.cse_dict.specs.Pairs.{RowsBelow, RowsText, is_value, no_rows, one_more, pair_of, pieces_of, rows_of, with_pair, with_piece, with_pieces, with_row, with_value}
use Rattle.cse_dict.specs.Dictionary.{contains, row_in}
use Rattle.cse_dict.specs.declared.keys.DataType.{DataType}
use Rattle.cse_dict.specs.declared.pairs.Pair.{Pair}
use Rattle.cse_dict.specs.declared.pairs.Pair.TheVariants.{Nothing, Range, NoNumber, Skipped}
use Rattle.cse_dict.specs.declared.rows.NumberSpan.{NumberSpan}

below_push : (n : ℕ) (xs : List NumberSpan) (y : NumberSpan) → RowsBelow n xs → y.row < n → RowsBelow n (xs ++ y ∷ [])
below_push n [] y h lt = (lt, tt)
below_push n (x ∷ xs) y h lt = (h.0, below_push n xs y h.1 lt)

below_more : (m n : ℕ) (xs : List NumberSpan) → m ≤ n → RowsBelow m xs → RowsBelow n xs
below_more m n [] le h = tt
below_more m n (x ∷ xs) le h = let here = h.0 in (omega arith, below_more m n xs le h.1)

-- while a row is filled its pairs stand in it or before it, and rows are at most one past the limit
pub record IsFilling (r : RowsText) (rows : ℕ) : Type 0 where
  pub same : r.rows ≡ rows
  pub below : RowsBelow (one_more 65534 rows) r.spans

module _ (data_type : DataType) where
  pair_filling : (r : RowsText) (p : Pair) (rows : ℕ) → IsFilling r rows → IsFilling (with_pair r p) rows
  pair_filling r Nothing rows h = h
  pair_filling r (Range low high) rows h =
      let same = h.same in
      record { same = h.same; below = below_push (one_more 65534 rows) r.spans _ h.below (omega arith) }
  pair_filling r NoNumber rows h = h
  pair_filling r Skipped rows h = record { same = h.same; below = h.below }

  piece_filling : (r : RowsText) (piece : List ℕ) (rows : ℕ) → IsFilling r rows → IsFilling (with_piece data_type r piece) rows
  unfolding with_piece
  piece_filling r piece rows h = pair_filling r (pair_of data_type piece) rows h

  pieces_filling : (ps : List (List ℕ)) (r : RowsText) (rows : ℕ) → IsFilling r rows → IsFilling (fold (with_piece data_type) r ps) rows
  pieces_filling [] r rows h = h
  pieces_filling (p ∷ ps) r rows h = pieces_filling ps (with_piece data_type r p) rows (piece_filling r p rows h)

  row_below : (r : RowsText) (value : List ℕ) → r.rows ≤ 65535 → RowsBelow r.rows r.spans
      → (RowsBelow (with_row data_type r value).rows (with_row data_type r value).spans) × ((with_row data_type r value).rows ≤ 65535)
  row_below r value small h =
      let filled : RowsText = with_pieces data_type r value in
      let filling = pieces_filling (pieces_of value) r r.rows (record { same = refl; below = below_more r.rows (one_more 65534 r.rows) r.spans (omega arith) h }) in
      let same = filling.same in
      (below_more (one_more 65534 r.rows) (one_more 65534 filled.rows) filled.spans (omega arith) filling.below, omega arith)

  value_below : (r : RowsText) (e : EntryText) → r.rows ≤ 65535 → RowsBelow r.rows r.spans
      → (RowsBelow (with_value data_type r e).rows (with_value data_type r e).spans) × ((with_value data_type r e).rows ≤ 65535)
  unfolding with_value
  value_below r e small h = by (is_value e)
    where
      by : (v : Bool) → (RowsBelow (if v then with_row data_type r e.value else r).rows (if v then with_row data_type r e.value else r).spans)
          × ((if v then with_row data_type r e.value else r).rows ≤ 65535)
      by true = row_below r e.value small h
      by false = (h, small)

  values_below : (es : List EntryText) (r : RowsText) → r.rows ≤ 65535 → RowsBelow r.rows r.spans
      → RowsBelow (fold (with_value data_type) r es).rows (fold (with_value data_type) r es).spans
  values_below [] r small h = h
  values_below (e ∷ es) r small h = let here = value_below r e small h in values_below es (with_value data_type r e) here.1 here.0

  -- each pair stands in a row of its set
  pub rows_of-below : (section : SectionText) → RowsBelow (rows_of data_type section).rows (rows_of data_type section).spans
  unfolding rows_of
  rows_of-below section = values_below section.entries no_rows (omega arith) tt

found_below : (n : ℕ) (p : NumberSpan → Bool) (spans : List NumberSpan) → RowsBelow n spans → IfSome (option_map (λ s. s.row) (find p spans)) (λ r. r < n)
found_below n p [] h = tt
found_below n p (s ∷ ss) h = by (found_below n p ss h.1) (p s)
  where
    by : IfSome (option_map (λ s. s.row) (find p ss)) (λ r. r < n) → (v : Bool) → IfSome (option_map (λ s. s.row) (cond v (Some s) (find p ss))) (λ r. r < n)
    by rest true = h.0
    by rest false = rest

-- a row that is found is one of the set
pub row_in-below : (n : ℕ) (number : Num) (spans : List NumberSpan) → RowsBelow n spans → IfSome (row_in number spans) (λ r. r < n)
row_in-below n (Whole z) spans h = found_below n (contains z) spans h
row_in-below n NotAppl spans h = tt
row_in-below n Missing spans h = tt
row_in-below n Undef spans h = tt
