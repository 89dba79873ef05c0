-- Where there is no fault, a value set has at most 65,534 rows.
use Rattle.std.proofs.Common.{◌≡◌, ◌≤◌, ◌∙◌, sym, ap, subst, ℕ, Bool, true, false, List, [], ◌∷◌, fold, length, refl, arith, Option, All, get_or, take, drop, ◌-◌}
use Rattle.std.specs.Prelude.{◌&&◌, nat_lt, if◌then◌else◌}
use Rattle.std.proofs.lemmas.Bool.{ltb-false}
use Rattle.std.proofs.lemmas.List.Elements.{All-append, All-cons, All-nil}
use Rattle.cse_sections.specs.Sections.{EntryText, SectionText}
use Rattle.cse_dict.specs.Context.{context_after, covered_by}
use Rattle.cse_dict.specs.Dictionary.{SetText, dictionary_of, set_at, set_by_kind, set_in, sets_from}
use Rattle.cse_dict.specs.Faults.{faults_at, faults_behind, faults_by_first, faults_by_kind, faults_from, faults_of, filled_after, read_part, rest_faults, seen_after, seen_first, set_faults, value_faults, value_faults_at}
use Rattle.cse_dict.specs.Keys.{kind_of}
use Rattle.cse_dict.specs.Pairs.{RowsText, is_value, no_rows, one_more, pair_of, pairs_after, pieces_of, rows_of, with_pair, with_piece, with_row, with_value}
use Rattle.cse_dict.specs.Rows.{HasFewRows}
use Rattle.cse_dict.specs.Types.{type_len_of}
use Rattle.cse_dict.specs.declared.field.Columns.{Columns}
use Rattle.cse_dict.specs.declared.keys.DataType.{DataType}
use Rattle.cse_dict.specs.declared.keys.Kind.{Kind}
use Rattle.cse_dict.specs.declared.keys.Kind.TheVariants.{Dictionary, Level, IdItems, Record, Item, ValueSet, Other}
use Rattle.cse_dict.specs.declared.pairs.Pair.{Pair}
use Rattle.cse_dict.specs.declared.pairs.Pair.TheVariants.{Nothing, Range, NoNumber, Skipped}
use Rattle.cse_dict.specs.declared.seen.Filled.{Filled}
use Rattle.cse_dict.specs.declared.seen.Seen.{Seen}
use Rattle.cse_dict.proofs.LimitLaws.{rest_none}
use Rattle.cse_dict.proofs.ReadLaws.{append_none, no_fault}
use Rattle.cse_dict.proofs.SoundLaws.{sections_split}

pair_rows : (r : RowsText) (p : Pair) → (with_pair r p).rows ≡ r.rows
pair_rows r Nothing = refl
pair_rows r (Range low high) = refl
pair_rows r NoNumber = refl
pair_rows r Skipped = refl

not_more : (n : ℕ) → nat_lt 65534 n ≡ false → n ≤ 65534
not_more n h = ltb-false 65534 n h

module _ (data_type : DataType) where
  piece_rows : (r : RowsText) (piece : List ℕ) → (with_piece data_type r piece).rows ≡ r.rows
  unfolding with_piece
  piece_rows r piece = pair_rows r (pair_of data_type piece)

  pieces_rows : (ps : List (List ℕ)) (r : RowsText) → (fold (with_piece data_type) r ps).rows ≡ r.rows
  pieces_rows [] r = refl
  pieces_rows (p ∷ ps) r = pieces_rows ps (with_piece data_type r p) ∙ piece_rows r p

  -- the faults count the rows that the set has
  row_along : (f : Filled) (r : RowsText) (e : EntryText) → f.rows ≡ r.rows → (filled_after data_type f e).rows ≡ (with_value data_type r e).rows
  unfolding filled_after with_value
  row_along f r e same = by (is_value e)
    where
      by : (v : Bool) → (let g : Filled = if v then record { rows = one_more 65534 f.rows; pairs = pairs_after data_type f.pairs e.value } else f in g.rows) ≡ (if v then with_row data_type r e.value else r).rows
      by true = ap (one_more 65534) (same ∙ sym (pieces_rows (pieces_of e.value) r))
      by false = same

  no_row_more : (r : RowsText) (e : EntryText) (n : ℕ) → r.rows ≤ 65534 → n ≡ (with_value data_type r e).rows → (is_value e && nat_lt 65534 n) ≡ false → (with_value data_type r e).rows ≤ 65534
  unfolding with_value
  no_row_more r e n few same none = by (is_value e) same none
    where
      by : (v : Bool) → n ≡ (if v then with_row data_type r e.value else r).rows → (v && nat_lt 65534 n) ≡ false → (if v then with_row data_type r e.value else r).rows ≤ 65534
      by true is low = let le = not_more n low in omega (arith, le, is)
      by false is low = few

  row_here : (f : Filled) (r : RowsText) (e : EntryText) → f.rows ≡ r.rows → r.rows ≤ 65534 → value_faults_at data_type f e ≡ [] → (with_value data_type r e).rows ≤ 65534
  unfolding value_faults_at
  row_here f r e same few none = no_row_more r e (filled_after data_type f e).rows few (row_along f r e same) (no_fault _ _ _ (append_none _ _ none).0)

  rows_few : (es : List EntryText) (f : Filled) (r : RowsText) → f.rows ≡ r.rows → r.rows ≤ 65534 → value_faults data_type f es ≡ [] → (fold (with_value data_type) r es).rows ≤ 65534
  rows_few [] f r same few none = few
  rows_few (e ∷ es) f r same few none =
      let parts = append_none (value_faults_at data_type f e) (value_faults data_type (filled_after data_type f e) es) none in
      rows_few es (filled_after data_type f e) (with_value data_type r e) (row_along f r e same) (row_here f r e same few parts.0) parts.1

-- ---- value sets

abbrev IsFew : SetText → Type 0
IsFew t = t.shape.rows ≤ 65534

module _ (covered : List Columns) (len : Option ℕ) (seen : Seen) (s : SectionText) where
  set_few : set_faults seen s ≡ [] → IsFew (set_at seen.context s)
  unfolding set_faults set_at rows_of
  set_few h = rows_few seen.context.data_type s.entries (record { rows = 0; pairs = seen.pairs }) no_rows refl (omega arith) (append_none _ _ h).1

  few_step : (k : Kind) → faults_by_kind k covered len seen s ≡ [] → All IsFew (set_by_kind k seen.context s)
  few_step ValueSet h = All-cons IsFew _ [] (set_few h) (All-nil IsFew)
  few_step Record h = All-nil IsFew
  few_step IdItems h = All-nil IsFew
  few_step Item h = All-nil IsFew
  few_step Dictionary h = All-nil IsFew
  few_step Level h = All-nil IsFew
  few_step Other h = All-nil IsFew

  few_here : faults_at covered len seen s ≡ [] → All IsFew (set_in seen.context s)
  unfolding faults_at set_in
  few_here h = few_step (kind_of s.heading) h

  along : (seen_after len seen s).context ≡ context_after seen.context s
  unfolding seen_after
  along = refl

few_from : (covered : List Columns) (len : Option ℕ) (ss : List SectionText) (seen : Seen) → faults_from covered len seen ss ≡ [] → All IsFew (sets_from seen.context ss)
few_from covered len [] seen h = All-nil IsFew
few_from covered len (s ∷ ss) seen h =
    let parts = append_none (faults_at covered len seen s) (faults_from covered len (seen_after len seen s) ss) h in
    All-append IsFew (set_in seen.context s) (sets_from (context_after seen.context s) ss) (few_here covered len seen s parts.0)
    (subst (λ c. All IsFew (sets_from c ss)) (along covered len seen s) (few_from covered len ss (seen_after len seen s) parts.1))

module _ (first : SectionText) (rest : List SectionText) where
  parts_none : faults_behind first rest ≡ [] → faults_from (covered_by first (read_part rest)) (type_len_of first) (seen_first first) (read_part rest) ≡ []
  unfolding rest_faults
  parts_none h = rest_none first rest h

  first_few : (k : Kind) → faults_by_first k first rest ≡ [] → HasFewRows (dictionary_of (first ∷ rest))
  unfolding dictionary_of
  first_few Dictionary h = few_from (covered_by first (read_part rest)) (type_len_of first) (read_part rest) (seen_first first) (parts_none h)
  first_few Level h = cc
  first_few IdItems h = cc
  first_few Record h = cc
  first_few Item h = cc
  first_few ValueSet h = cc
  first_few Other h = cc

few_by : (sections : List SectionText) → faults_of sections ≡ [] → HasFewRows (dictionary_of sections)
unfolding faults_of
few_by [] h = cc
few_by (first ∷ rest) h = first_few first rest (kind_of first.heading) h

-- by the first section and those behind it
pub HasFewRows-split : (ss : List SectionText) (s : SectionText) → 1 ≤ length ss → s ≡ get_or ss 0 s → faults_of ss ≡ [] → HasFewRows (dictionary_of (s ∷ take (length ss - 1) (drop 1 ss)))
HasFewRows-split ss s long is none =
    let P : List SectionText → Type 0 = λ xs. HasFewRows (dictionary_of xs) in
    subst P (sections_split ss s long is) (few_by ss none)
