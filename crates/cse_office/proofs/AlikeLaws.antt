-- Laws of lines that are alike: all pair up, and no item is changed.
use Rattle.std.proofs.Common.{◌≡◌, ℕ, zero, suc, ◌+◌, ◌-◌, ◌<◌, ◌≤◌, Bool, true, false, not, ◌||◌, ◌&&◌, List, [], ◌∷◌, length, get_or, Option, None, Some, cond, refl, ap, sym, ◌∙◌, arith, eq-eqb, ne_eqb, if◌then◌else◌, inl, inr, take, drop, min, drop_of_length-le}
use Rattle.std.proofs.lemmas.Bool.{cases_lt}
use Rattle.std.proofs.lemmas.List.{get_or_past, length-map}
use Rattle.cse_case.specs.Bytes.{column_by, columns_by}
use Rattle.std.specs.Prelude.{count_by, ◌==◌}
use Rattle.std.proofs.lemmas.List.Sums.{sum_by-cons}
use Rattle.cse_case.specs.Columns.{LineText, no_line}
use Rattle.cse_value.specs.Occurrences.{most_occurrences}
use Rattle.cse_case.specs.Seen.{occurrence_places, places_from as own_places}
use Rattle.cse_value.specs.declared.shape.ItemShape.{ItemShape}
use Rattle.cse_value.specs.declared.shape.RecordShape.{RecordShape}
use Rattle.cse_office.specs.Changes.{AreAlike, columns_at, count_in, differ, first_apart, has_same_ids, is_changed, is_changed_at, is_pair, is_same_record, item_places, only_there, owner_places, places_from, types_of}
use Rattle.cse_office.proofs.ChangeLaws.{length-places_from}

-- ---- columns

differ_same : (at n : ℕ) (a : List ℕ) → differ at n a a ≡ false
unfolding differ
differ_same at zero a = refl
differ_same at (suc n) a = ap (λ x. not x || differ (at + 1) n a a) (eq-eqb (get_or a at 32) (get_or a at 32) refl) ∙ differ_same (at + 1) n a

pub unchanged : (item : ItemShape) (a b : List ℕ) → a ≡ b → is_changed item a b ≡ false
unchanged item a b e = ap (λ l. is_changed item l b) e ∙ differ_same (item.start - 1) item.len b

-- ---- counts

pub count_none : (f : ℕ → Bool) (places : List ℕ) → ((p : ℕ) → f p ≡ false) → count_by f places ≡ 0
count_none f [] none = refl
count_none f (p ∷ ps) none =
    let more : count_by f (p ∷ ps) ≡ cond (f p) 1 0 + count_by f ps = sum_by-cons (λ x. cond (f x) 1 0) p ps in
    let here : ◌≡◌ {A = ℕ} (cond (f p) 1 0) 0 = ap (λ t. cond {A = ℕ} t 1 0) (none p) in
    omega (arith, more, here, count_none f ps none)

pub alike_count : (records : List RecordShape) (item : ItemShape) (a b : List LineText) → AreAlike a b → count_in records item a b ≡ only_there records item.owner a
unfolding count_in
alike_count records item a b same =
    let places = item_places records item (types_of a) in
    ap (λ n. record { occurrences = length places; changed = n }) (count_none (is_changed_at item a b) places (λ p. unchanged item (columns_at a p) (columns_at b p) (same.columns p)))

-- ---- pairs

not_both : (x : Bool) → not (x && false) ≡ true
not_both true = refl
not_both false = refl

pub same_ids : (items : List ItemShape) (a b : List ℕ) → a ≡ b → has_same_ids items a b ≡ true
unfolding has_same_ids
same_ids [] a b e = refl
same_ids (item ∷ items) a b e =
    ap (λ t. not (item.owner == 255 && t) && has_same_ids items a b) (unchanged item a b e)
    ∙ (ap (λ t. t && has_same_ids items a b) (not_both (item.owner == 255)) ∙ same_ids items a b e)

own_record : (n : Option ℕ) → is_same_record n n ≡ true
own_record None = refl
own_record (Some n) = eq-eqb n n refl

same_record : (m n : Option ℕ) → m ≡ n → is_same_record m n ≡ true
same_record m n e = ap (λ x. is_same_record x n) e ∙ own_record n

pub alike_pair : (items : List ItemShape) (x y : LineText) → x.record_number ≡ y.record_number → x.columns ≡ y.columns → is_pair items x y ≡ true
alike_pair items x y records columns = ap (λ t. t && has_same_ids items x.columns y.columns) (same_record x.record_number y.record_number records) ∙ same_ids items x.columns y.columns columns

pairs_from : (items : List ItemShape) (n : ℕ) (a b : List LineText) → length a ≡ length b
    → ((k : ℕ) → (get_or a k no_line).record_number ≡ (get_or b k no_line).record_number) → ((k : ℕ) → columns_at a k ≡ columns_at b k) → first_apart items n a b ≡ None
unfolding first_apart
pairs_from items n [] [] len records columns = refl
pairs_from items n [] (y ∷ ys) len records columns = absurd (omega (arith, len))
pairs_from items n (x ∷ xs) [] len records columns = absurd (omega (arith, len))
pairs_from items n (x ∷ xs) (y ∷ ys) len records columns =
    ap (λ t. if t then first_apart items (n + 1) xs ys else Some n) (alike_pair items x y (records 0) (columns 0))
    ∙ pairs_from items (n + 1) xs ys (omega (arith, len)) (λ k. records (suc k)) (λ k. columns (suc k))

pub alike_pairs : (items : List ItemShape) (a b : List LineText) → AreAlike a b → first_apart items 0 a b ≡ None
alike_pairs items a b same = pairs_from items 0 a b same.as_many same.records same.columns

-- lines that are alike so far, up to the last
pub alike_all : (a b : List LineText) → length a ≡ length b → ((k : ℕ) → k < length a → (get_or a k no_line).record_number ≡ (get_or b k no_line).record_number)
    → ((k : ℕ) → k < length a → columns_at a k ≡ columns_at b k) → AreAlike a b
alike_all a b len records columns = record {
  as_many = len;
  records = λ k. elim (cases_lt k (length a)) [
    | inl h ↦ records k h
    | inr h ↦ ap (λ (l : LineText). l.record_number) (past k h)
  ];
  columns = λ k. elim (cases_lt k (length a)) [
    | inl h ↦ columns k h
    | inr h ↦ ap (λ (l : LineText). l.columns) (past k h)
  ];
}
  where
    past : (k : ℕ) → length a ≤ k → get_or a k no_line ≡ get_or b k no_line
    past k h = get_or_past a k no_line h ∙ sym (get_or_past b k no_line (omega (arith, len, h)))

-- columns need no more beside their bytes than stands beside each
pub beside_part : (bytes beside : List ℕ) → columns_by bytes beside ≡ columns_by bytes (take (length bytes) beside)
unfolding columns_by
beside_part [] beside = refl
beside_part (byte ∷ bytes) [] = refl
beside_part (byte ∷ bytes) (c ∷ beside) = ap (λ l. column_by byte c ∷ l) (beside_part bytes beside)

-- nor what stands before these
pub beside_from : (bytes beside : List ℕ) (first n : ℕ) → n ≡ min first (length beside) → columns_by bytes (drop first beside) ≡ columns_by bytes (drop n beside)
beside_from bytes beside first n e = elim (cases_lt first (length beside)) [
  | inl h ↦ ap (λ k. columns_by bytes (drop k beside)) (let same : first ≡ n = omega (arith, e, h) in same)
  | inr h ↦ ap (columns_by bytes) (drop_of_length-le beside h ∙ sym (drop_of_length-le beside (omega (arith, e, h))))
]

-- and nothing where what stands there ends before them
pub beside_past : (bytes beside : List ℕ) (first : ℕ) → length beside ≤ first → columns_by bytes (drop first beside) ≡ columns_by bytes []
beside_past bytes beside first h = ap (columns_by bytes) (drop_of_length-le beside h)

-- ---- how often items occur

pub id_places : (records : List RecordShape) (owner : ℕ) (lines : List LineText) → owner ≡ 255 → length (owner_places records owner (types_of lines)) ≡ length lines
id_places records owner lines e =
    ap (λ t. length (if t then places_from 0 (types_of lines) else occurrence_places records owner (types_of lines))) (eq-eqb owner 255 e)
    ∙ (length-places_from 0 (types_of lines) ∙ length-map lines (λ line. line.record_number))

pub own_are : (records : List RecordShape) (owner most : ℕ) (lines : List LineText) → (owner ≡ 255 → ⊥) → most ≡ most_occurrences records owner
    → owner_places records owner (types_of lines) ≡ take most (own_places 0 owner (types_of lines))
unfolding occurrence_places
own_are records owner most lines e is =
    ap (λ t. if t then places_from 0 (types_of lines) else occurrence_places records owner (types_of lines)) (ne_eqb owner 255 e)
    ∙ ap (λ n. take n (own_places 0 owner (types_of lines))) (sym is)
