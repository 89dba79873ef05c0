-- Laws of the columns that a dictionary names.
use Rattle.std.proofs.Common.{◌≡◌, ℕ, ◌+◌, ◌-◌, ◌<◌, ◌≤◌, max, Bool, true, false, cond, eqb, filter, map, List, [], ◌∷◌, ◌++◌, length, get_or, take, drop, refl, ap, sym, ◌∙◌, arith, append_assoc, append-nil, length-drop, subst, take-add}
use Rattle.std.specs.Str.{bytes_eq}
use Rattle.std.proofs.lemmas.Slice.Eq.{bytes_eq-Decides}
use Rattle.std.proofs.lemmas.List.{map-append, drop-drop, drop_more, take_at, drop_at, length-take-le}
use Rattle.std.proofs.lemmas.List.Elements.{filter_more}
use Rattle.std.proofs.lemmas.Bool.{eqb-true, false_from_ne_true}
use Rattle.cse_lemmas.proofs.Booleans.{same_from_both}
use Rattle.cse_dict.specs.Dictionary.{DictionaryText}
use Rattle.cse_value.specs.declared.shape.ItemShape.{ItemShape}
use Rattle.cse_case.specs.declared.layout.ColumnSpan.{ColumnSpan}
use Rattle.cse_case.specs.NamedColumns.{AreFront, HaveSame, LayoutText, TellApart, field_at, fields_at, id_spans, last_column, layout_of, least_width, span_of}

front_same : (x y r s : List ℕ) → length x ≡ length y → x ++ r ≡ y ++ s → x ≡ y
front_same x y r s len e = sym (take_at x r (length x) refl) ∙ ap (take (length x)) e ∙ take_at y s (length x) (sym len)

back_same : (x y r s : List ℕ) → length x ≡ length y → x ++ r ≡ y ++ s → r ≡ s
back_same x y r s len e = sym (drop_at x r (length x) refl) ∙ ap (drop (length x)) e ∙ drop_at y s (length x) (sym len)

pub length-field_at : (s : ColumnSpan) (columns : List ℕ) → s.start - 1 + s.len ≤ length columns → length (field_at s columns) ≡ s.len
length-field_at s columns h = length-take-le s.len (drop (s.start - 1) columns) (omega (arith, length-drop (s.start - 1) columns))

same_len : (s : ColumnSpan) (a b : List ℕ) → s.start - 1 + s.len ≤ length a → s.start - 1 + s.len ≤ length b → length (field_at s a) ≡ length (field_at s b)
same_len s a b h k = length-field_at s a h ∙ sym (length-field_at s b k)

-- a place where the same stands
pub fields_eq-same : (s : ColumnSpan) (ss : List ColumnSpan) (a b : List ℕ) → s.start - 1 + s.len ≤ length a → s.start - 1 + s.len ≤ length b → field_at s a ≡ field_at s b
    → bytes_eq (fields_at (s ∷ ss) a) (fields_at (s ∷ ss) b) ≡ bytes_eq (fields_at ss a) (fields_at ss b)
fields_eq-same s ss a b h k e = same_from_both _ _
    (λ t. (bytes_eq-Decides (fields_at ss a) (fields_at ss b)).1 (back_same (field_at s a) (field_at s b) (fields_at ss a) (fields_at ss b) (same_len s a b h k)
    ((bytes_eq-Decides (fields_at (s ∷ ss) a) (fields_at (s ∷ ss) b)).0 t)))
    (λ t. (bytes_eq-Decides (fields_at (s ∷ ss) a) (fields_at (s ∷ ss) b)).1
    (ap (λ x. x ++ fields_at ss a) e ∙ ap (λ r. field_at s b ++ r) ((bytes_eq-Decides (fields_at ss a) (fields_at ss b)).0 t)))

-- and one where something else stands
pub fields_eq-other : (s : ColumnSpan) (ss : List ColumnSpan) (a b : List ℕ) → s.start - 1 + s.len ≤ length a → s.start - 1 + s.len ≤ length b → (field_at s a ≡ field_at s b → ⊥)
    → bytes_eq (fields_at (s ∷ ss) a) (fields_at (s ∷ ss) b) ≡ false
fields_eq-other s ss a b h k other = false_from_ne_true _ (λ t. other (front_same (field_at s a) (field_at s b) (fields_at ss a) (fields_at ss b) (same_len s a b h k)
    ((bytes_eq-Decides (fields_at (s ∷ ss) a) (fields_at (s ∷ ss) b)).0 t)))

pub layout_is : (d : DictionaryText) (ids : List ColumnSpan) (start len least : ℕ) → ids ≡ id_spans d → start ≡ d.type_columns.start → len ≡ d.type_columns.len
    → least ≡ max (start - 1 + len) (last_column ids)
    → (let l : LayoutText = record { ids = ids; record_type = record { start = start; len = len }; least_width = least } in l) ≡ layout_of d
unfolding least_width
layout_is d ids start len least i s n w = rw (w, i, s, n) refl

-- a place of no columns
abbrev pub no_span : ColumnSpan
no_span = record { start = 0; len = 0 }

pub record AtSpan (spans : List ColumnSpan) (i : ℕ) (s : ColumnSpan) (a b : List ℕ) : Type 0 where
  pub is : drop i spans ≡ s ∷ drop (i + 1) spans
  pub left : s.start - 1 + s.len ≤ length a
  pub right : s.start - 1 + s.len ≤ length b
  pub left_rest : last_column (drop (i + 1) spans) ≤ length a
  pub right_rest : last_column (drop (i + 1) spans) ≤ length b

-- the next place
pub spans_at : (spans : List ColumnSpan) (i : ℕ) (a b : List ℕ) → i < length spans → last_column (drop i spans) ≤ length a → last_column (drop i spans) ≤ length b
    → AtSpan spans i (get_or spans i no_span) a b
spans_at spans i a b l h k =
    let e : drop i spans ≡ get_or spans i no_span ∷ drop (i + 1) spans = drop_more spans i no_span l in
    let h' = rw e at h in
    let k' = rw e at k in
    record {
      is = e;
      left = omega arith;
      right = omega arith;
      left_rest = omega arith;
      right_rest = omega arith;
    }

pub fields_at-append : (ss ts : List ColumnSpan) (columns : List ℕ) → fields_at (ss ++ ts) columns ≡ fields_at ss columns ++ fields_at ts columns
fields_at-append [] ts columns = refl
fields_at-append (s ∷ ss) ts columns = ap (λ l. field_at s columns ++ l) (fields_at-append ss ts columns) ∙ sym (append_assoc (field_at s columns) (fields_at ss columns) (fields_at ts columns))

last_column-append : (ss ts : List ColumnSpan) → last_column (ss ++ ts) ≡ max (last_column ss) (last_column ts)
last_column-append [] ts = omega arith
last_column-append (s ∷ ss) ts = omega (arith, last_column-append ss ts)

pub HaveSame-trans : (ss ts us : List ColumnSpan) → HaveSame ss ts → HaveSame ts us → HaveSame ss us
HaveSame-trans ss ts us h k = record { fields = λ columns. h.fields columns ∙ k.fields columns; last = h.last ∙ k.last }

-- before and behind others
pub HaveSame-behind : (front ss ts : List ColumnSpan) → HaveSame ss ts → HaveSame (front ++ ss) (front ++ ts)
HaveSame-behind front ss ts h = record {
  fields = λ columns. fields_at-append front ss columns ∙ ap (λ l. fields_at front columns ++ l) (h.fields columns) ∙ sym (fields_at-append front ts columns);
  last = last_column-append front ss ∙ ap (max (last_column front)) h.last ∙ sym (last_column-append front ts);
}

pub HaveSame-before : (ss ts back : List ColumnSpan) → HaveSame ss ts → HaveSame (ss ++ back) (ts ++ back)
HaveSame-before ss ts back h = record {
  fields = λ columns. fields_at-append ss back columns ∙ ap (λ l. l ++ fields_at back columns) (h.fields columns) ∙ sym (fields_at-append ts back columns);
  last = last_column-append ss back ∙ ap (λ n. max n (last_column back)) h.last ∙ sym (last_column-append ts back);
}

pub HaveSame-refl : (ss ts : List ColumnSpan) → ss ≡ ts → HaveSame ss ts
HaveSame-refl ss ts e = record { fields = λ columns. ap (λ l. fields_at l columns) e; last = ap last_column e }

-- two places side by side are one
pub HaveSame-joined : (both first second : ColumnSpan) → 0 < first.start → both.start ≡ first.start → both.len ≡ first.len + second.len → first.start + first.len ≡ second.start
    → HaveSame (both ∷ []) (first ∷ second ∷ [])
HaveSame-joined both first second some start len side = record {
  fields = λ columns.
      let at : both.start - 1 ≡ first.start - 1 = omega arith in
      let next : first.start - 1 + first.len ≡ second.start - 1 = omega arith in
      let whole : field_at both columns ≡ take (first.len + second.len) (drop (first.start - 1) columns) = ap (λ n. take n (drop (both.start - 1) columns)) len ∙ ap (λ n. take (first.len + second.len) (drop n columns)) at in
      let rest : take second.len (drop first.len (drop (first.start - 1) columns)) ≡ field_at second columns =
      ap (take second.len) (drop-drop first.len (first.start - 1) columns) ∙ ap (λ n. take second.len (drop n columns)) next in
      ap (λ l. l ++ []) (whole ∙ take-add first.len second.len (drop (first.start - 1) columns) ∙ ap (λ l. field_at first columns ++ l) rest)
      ∙ append_assoc (field_at first columns) (field_at second columns) [];
  last = omega arith;
}

-- two places that fill a line up to a width
pub front_joined : (both first second : ColumnSpan) (width : ℕ) → both.start ≡ 1 → both.len ≡ width → HaveSame (both ∷ []) (first ∷ second ∷ []) → AreFront first second width
front_joined both first second width start len same columns =
    ap (λ n. take n columns) (sym len) ∙ ap (λ n. take both.len (drop (n - 1) columns)) (sym start) ∙ sym (append-nil (field_at both columns)) ∙ same.fields columns
    ∙ ap (λ l. field_at first columns ++ l) (append-nil (field_at second columns))

-- the record type and the ids, if they are such places, in either order
pub apart_behind : (record_type ids : ColumnSpan) (width : ℕ) → AreFront record_type ids width → TellApart record_type (ids ∷ []) width
apart_behind record_type ids width front a b types same =
    let ids_same : field_at ids a ≡ field_at ids b = sym (append-nil (field_at ids a)) ∙ same ∙ append-nil (field_at ids b) in
    front a ∙ ap (λ l. l ++ field_at ids a) types ∙ ap (λ l. field_at record_type b ++ l) ids_same ∙ sym (front b)

pub apart_before : (record_type ids : ColumnSpan) (width : ℕ) → AreFront ids record_type width → TellApart record_type (ids ∷ []) width
apart_before record_type ids width front a b types same =
    let ids_same : field_at ids a ≡ field_at ids b = sym (append-nil (field_at ids a)) ∙ same ∙ append-nil (field_at ids b) in
    front a ∙ ap (λ l. field_at ids a ++ l) types ∙ ap (λ l. l ++ field_at record_type b) ids_same ∙ sym (front b)

-- joined or not
pub apart_joined : (record_type : ColumnSpan) (blocks ids : List ColumnSpan) (width : ℕ) → HaveSame blocks ids → TellApart record_type blocks width → TellApart record_type ids width
apart_joined record_type blocks ids width same apart a b types e = apart a b types (same.fields a ∙ e ∙ sym (same.fields b))

-- four more columns are the same
pub four_more : (a b : List ℕ) (at : ℕ) → take at a ≡ take at b → take (at + 4 - at) (drop at a) ≡ take (at + 4 - at) (drop at b) → take (at + 4) a ≡ take (at + 4) b
four_more a b at same next =
    let four : at + 4 - at ≡ 4 = omega arith in
    let next_four : take 4 (drop at a) ≡ take 4 (drop at b) = subst (λ n. take n (drop at a) ≡ take n (drop at b)) four next in
    take-add at 4 a ∙ (ap (λ l. l ++ take 4 (drop at a)) same ∙ (ap (λ l. take at b ++ l) next_four ∙ sym (take-add at 4 b)))

-- the columns of the id items among one item more
abbrev is_id : ItemShape → Bool
is_id item = eqb item.owner 255

more_spans : (items : List ItemShape) (i : ℕ) (d : ItemShape) (own : Bool) → i < length items → is_id (get_or items i d) ≡ own
    → map span_of (filter is_id (take (i + 1) items)) ≡ map span_of (filter is_id (take i items)) ++ map span_of (cond own (get_or items i d ∷ []) [])
more_spans items i d own h e = ap (map span_of) (filter_more is_id items i d h)
    ∙ map-append span_of (filter is_id (take i items)) (cond (is_id (get_or items i d)) (get_or items i d ∷ []) [])
    ∙ ap (λ b. map span_of (filter is_id (take i items)) ++ map span_of (cond b (get_or items i d ∷ []) [])) e

pub id_spans-own : (items : List ItemShape) (i : ℕ) (d : ItemShape) → i < length items → (get_or items i d).owner ≡ 255
    → map span_of (filter (λ item. eqb item.owner 255) (take (i + 1) items)) ≡ map span_of (filter (λ item. eqb item.owner 255) (take i items)) ++ span_of (get_or items i d) ∷ []
id_spans-own items i d h e = more_spans items i d true h (ap (λ n. eqb n 255) e)

pub id_spans-other : (items : List ItemShape) (i : ℕ) (d : ItemShape) → i < length items → ((get_or items i d).owner ≡ 255 → ⊥)
    → map span_of (filter (λ item. eqb item.owner 255) (take (i + 1) items)) ≡ map span_of (filter (λ item. eqb item.owner 255) (take i items))
id_spans-other items i d h e = more_spans items i d false h (false_from_ne_true _ (λ t. e (eqb-true _ _ t))) ∙ append-nil _
