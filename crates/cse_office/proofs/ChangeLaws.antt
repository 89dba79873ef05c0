-- Laws of what was changed, place by place.
use Rattle.std.proofs.Common.{◌≡◌, ℕ, zero, suc, ◌+◌, ◌-◌, ◌<◌, ◌≤◌, Bool, true, false, not, ◌||◌, ◌&&◌, List, [], ◌∷◌, length, get_or, take, drop, Option, None, Some, cond, refl, ap, sym, ◌∙◌, arith, add-one, eq-eqb, ne_eqb, nat_lt, drop_of_length-le, if◌then◌else◌, ltb-true, ltb-false, min, inl, inr}
use Rattle.std.specs.Prelude.{count_by, ◌==◌}
use Rattle.std.proofs.lemmas.Bool.{cases_lt, and_parts, lt-ltb}
use Rattle.std.proofs.lemmas.List.Sums.{sum_by-cons}
use Rattle.std.proofs.Math.Seq.{drop-cons}
use Rattle.std.proofs.lemmas.List.{get_or-map, length-map}
use Rattle.cse_case.specs.Bytes.{columns_by}
use Rattle.cse_case.specs.Columns.{LineText, no_line}
use Rattle.cse_value.specs.declared.shape.ItemShape.{ItemShape}
use Rattle.cse_value.specs.declared.shape.RecordShape.{RecordShape}
use Rattle.cse_value.specs.Occurrences.{most_occurrences}
use Rattle.cse_case.specs.Seen.{is_of, occurrence_places, places_from as own_places}
use Rattle.cse_office.specs.Changes.{count_in, counted, differ, first_apart, has_same_ids, is_changed, is_pair, places_from, types_of}

-- ---- columns

pub differ_none : (at : ℕ) (a b : List ℕ) → differ at 0 a b ≡ false
unfolding differ
differ_none at a b = refl

pub differ_step : (at n : ℕ) (a b : List ℕ) → 0 < n → differ at n a b ≡ (not (get_or a at 32 == get_or b at 32) || differ (at + 1) (n - 1) a b)
unfolding differ
differ_step at zero a b h = absurd (omega arith)
differ_step at (suc n) a b h =
    let less : n ≡ suc n - 1 = omega arith in
    ap (λ k. not (get_or a at 32 == get_or b at 32) || differ (at + 1) k a b) less

-- a byte of ASCII is its column
pub ascii_column : (bytes beside : List ℕ) (i other : ℕ) → i < length bytes → get_or bytes i 0 < 128 → get_or (columns_by bytes beside) i other ≡ get_or bytes i 0
unfolding columns_by
ascii_column [] beside i other low few = absurd (omega (arith, low))
ascii_column (b ∷ bytes) [] zero other low few = refl
ascii_column (b ∷ bytes) (c ∷ beside) zero other low few = ap (λ t. cond t b c) (lt-ltb b 128 few)
ascii_column (b ∷ bytes) [] (suc i) other low few = ascii_column bytes [] i other (omega (arith, low)) few
ascii_column (b ∷ bytes) (c ∷ beside) (suc i) other low few = ascii_column bytes beside i other (omega (arith, low)) few

-- ---- places

pub types_from : (lines : List LineText) (i : ℕ) → i < length lines → drop i (types_of lines) ≡ (get_or lines i no_line).record_number ∷ drop (i + 1) (types_of lines)
types_from lines i low =
    let f : LineText → Option ℕ = λ line. line.record_number in
    let len : i < length (types_of lines) = omega (arith, length-map lines f) in
    drop-cons (types_of lines) i None len ∙ (ap (λ t. t ∷ drop (suc i) (types_of lines)) (get_or-map f lines i no_line None low) ∙ ap (λ n. (get_or lines i no_line).record_number ∷ drop n (types_of lines)) (sym (add-one i)))

-- the places of a record that may still come, after so many were seen
abbrev pub left : ℕ → ℕ → ℕ → ℕ → List (Option ℕ) → List ℕ
left most seen owner i types = take (most - seen) (own_places i owner (drop i types))

pub left_other : (most seen owner i : ℕ) (types : List (Option ℕ)) (t : Option ℕ) → drop i types ≡ t ∷ drop (i + 1) types → is_of owner t ≡ false
    → left most seen owner i types ≡ left most seen owner (i + 1) types
left_other most seen owner i types t e other =
    ap (λ ts. take (most - seen) (own_places i owner ts)) e
    ∙ ap (λ b. take (most - seen) (if b then i ∷ own_places (i + 1) owner (drop (i + 1) types) else own_places (i + 1) owner (drop (i + 1) types))) other

pub left_full : (most seen owner i : ℕ) (types : List (Option ℕ)) → most ≤ seen → left most seen owner i types ≡ left most seen owner (i + 1) types
left_full most seen owner i types full =
    let none : most - seen ≡ 0 = omega arith in
    ap (λ n. take n (own_places i owner (drop i types))) none ∙ sym (ap (λ n. take n (own_places (i + 1) owner (drop (i + 1) types))) none)

pub left_own : (most seen owner i : ℕ) (types : List (Option ℕ)) (t : Option ℕ) → drop i types ≡ t ∷ drop (i + 1) types → is_of owner t ≡ true → seen < most
    → left most seen owner i types ≡ i ∷ left most (seen + 1) owner (i + 1) types
left_own most seen owner i types t e own room =
    let rest = own_places (i + 1) owner (drop (i + 1) types) in
    let more : most - seen ≡ suc (most - (seen + 1)) = omega arith in
    ap (λ ts. take (most - seen) (own_places i owner ts)) e
    ∙ (ap (λ b. take (most - seen) (if b then i ∷ rest else rest)) own ∙ ap (λ n. take n (i ∷ rest)) more)

take_none : (n : ℕ) → take {A = ℕ} n [] ≡ []
take_none zero = refl
take_none (suc n) = refl

-- a line more is seen
pub left_seen : (most seen owner i : ℕ) (lines : List LineText) → i < length lines → (is_of owner (get_or lines i no_line).record_number && nat_lt seen most) ≡ true
    → left most seen owner i (types_of lines) ≡ i ∷ left most (seen + 1) owner (i + 1) (types_of lines)
left_seen most seen owner i lines low own =
    let t = (get_or lines i no_line).record_number in
    let two = and_parts (is_of owner t) (nat_lt seen most) own in
    left_own most seen owner i (types_of lines) t (types_from lines i low) (two.0) (ltb-true seen most (two.1))

-- a line is passed
passed : (a b : Bool) (P : Type 0) → (a && b) ≡ false → (a ≡ false → P) → (b ≡ false → P) → P
passed true b P e p q = q e
passed false b P e p q = p refl

pub left_passed : (most seen owner i : ℕ) (lines : List LineText) → i < length lines → (is_of owner (get_or lines i no_line).record_number && nat_lt seen most) ≡ false
    → left most seen owner i (types_of lines) ≡ left most seen owner (i + 1) (types_of lines)
left_passed most seen owner i lines low e =
    let t = (get_or lines i no_line).record_number in
    passed (is_of owner t) (nat_lt seen most) (left most seen owner i (types_of lines) ≡ left most seen owner (i + 1) (types_of lines)) e
    (λ other. left_other most seen owner i (types_of lines) t (types_from lines i low) other)
    (λ full. left_full most seen owner i (types_of lines) (ltb-false seen most full))

pub left_none : (most seen owner i : ℕ) (types : List (Option ℕ)) → length types ≤ i → left most seen owner i types ≡ []
left_none most seen owner i types low = ap (λ ts. take (most - seen) (own_places i owner ts)) (drop_of_length-le types low) ∙ take_none (most - seen)

-- the places of all lines that may still come
abbrev pub left_each : ℕ → List (Option ℕ) → List ℕ
left_each i types = places_from i (drop i types)

pub left_each-next : (i : ℕ) (types : List (Option ℕ)) (t : Option ℕ) → drop i types ≡ t ∷ drop (i + 1) types → left_each i types ≡ i ∷ left_each (i + 1) types
left_each-next i types t e = ap (places_from i) e

pub left_each-none : (i : ℕ) (types : List (Option ℕ)) → length types ≤ i → left_each i types ≡ []
left_each-none i types low = ap (places_from i) (drop_of_length-le types low)

pub length-places_from : (n : ℕ) (types : List (Option ℕ)) → length (places_from n types) ≡ length types
length-places_from n [] = refl
length-places_from n (t ∷ ts) = ap suc (length-places_from (n + 1) ts)

-- ---- counts

-- one place is counted
pub count_next : (f : ℕ → Bool) (i changed all : ℕ) (here later : List ℕ) → here ≡ i ∷ later → changed + count_by f here ≡ all → (changed + cond (f i) 1 0) + count_by f later ≡ all
count_next f i changed all here later e is =
    let first : count_by f (i ∷ later) ≡ cond (f i) 1 0 + count_by f later = sum_by-cons (λ x. cond (f x) 1 0) i later in
    let same : count_by f here ≡ count_by f (i ∷ later) = ap (count_by f) e in
    omega (arith, first, same, is)

pub length_next : (i seen all : ℕ) (here later : List ℕ) → here ≡ i ∷ later → seen + length here ≡ all → (seen + 1) + length later ≡ all
length_next i seen all here later e is = omega (arith, ap length e)

-- ---- what is counted of an item

pub id_counts : (records : List RecordShape) (item : ItemShape) (before after : List LineText) → item.owner ≡ 255 → count_in records item before after ≡ counted item before after (places_from 0 (types_of before))
unfolding count_in
id_counts records item before after e =
    ap (λ b. counted item before after (if b then places_from 0 (types_of before) else occurrence_places records item.owner (types_of before))) (eq-eqb _ _ e)

pub own_counts : (records : List RecordShape) (item : ItemShape) (before after : List LineText) (most : ℕ) → (item.owner ≡ 255 → ⊥) → most ≡ most_occurrences records item.owner
    → count_in records item before after ≡ counted item before after (take most (own_places 0 item.owner (types_of before)))
unfolding count_in occurrence_places
own_counts records item before after most e is =
    ap (λ b. counted item before after (if b then places_from 0 (types_of before) else occurrence_places records item.owner (types_of before))) (ne_eqb _ _ e)
    ∙ ap (λ n. counted item before after (take n (own_places 0 item.owner (types_of before)))) (sym is)

-- ---- pairs

pub ids_on : (items : List ItemShape) (n : ℕ) (a b : List ℕ) (other : ItemShape) → n < length items
    → has_same_ids (drop n items) a b ≡ (not ((get_or items n other).owner == 255 && is_changed (get_or items n other) a b) && has_same_ids (drop (n + 1) items) a b)
unfolding has_same_ids
ids_on items n a b other low =
    let item = get_or items n other in
    ap (λ l. has_same_ids l a b) (drop-cons items n other low) ∙ ap (λ k. not (item.owner == 255 && is_changed item a b) && has_same_ids (drop k items) a b) (sym (add-one n))

pub ids_none : (items : List ItemShape) (n : ℕ) (a b : List ℕ) → length items ≤ n → has_same_ids (drop n items) a b ≡ true
unfolding has_same_ids
ids_none items n a b low = ap (λ l. has_same_ids l a b) (drop_of_length-le items low)

-- the first of the lines from a place on that are apart
abbrev pub apart_from : List ItemShape → ℕ → List LineText → List LineText → Option ℕ
apart_from items n a b = first_apart items n (drop n a) (drop n b)

pub apart_on : (items : List ItemShape) (n : ℕ) (a b : List LineText) → n < length a → n < length b
    → apart_from items n a b ≡ if is_pair items (get_or a n no_line) (get_or b n no_line) then apart_from items (n + 1) a b else Some n
unfolding first_apart
apart_on items n a b low low' =
    let x = get_or a n no_line in
    let y = get_or b n no_line in
    ap (λ l. first_apart items n l (drop n b)) (drop-cons a n no_line low)
    ∙ (ap (λ l. first_apart items n (x ∷ drop (suc n) a) l) (drop-cons b n no_line low')
    ∙ ap (λ k. if is_pair items x y then first_apart items (n + 1) (drop k a) (drop k b) else Some n) (sym (add-one n)))

pub apart_end : (items : List ItemShape) (n : ℕ) (a b : List LineText) → length a ≤ n → length b ≤ n → apart_from items n a b ≡ None
unfolding first_apart
apart_end items n a b low low' =
    ap (λ l. first_apart items n l (drop n b)) (drop_of_length-le a low) ∙ ap (λ l. first_apart items n [] l) (drop_of_length-le b low')

pub apart_before : (items : List ItemShape) (n : ℕ) (a b : List LineText) → n < length a → length b ≤ n → apart_from items n a b ≡ Some n
unfolding first_apart
apart_before items n a b low low' =
    ap (λ l. first_apart items n l (drop n b)) (drop-cons a n no_line low) ∙ ap (λ l. first_apart items n (get_or a n no_line ∷ drop (suc n) a) l) (drop_of_length-le b low')

pub apart_after : (items : List ItemShape) (n : ℕ) (a b : List LineText) → length a ≤ n → n < length b → apart_from items n a b ≡ Some n
unfolding first_apart
apart_after items n a b low low' =
    ap (λ l. first_apart items n l (drop n b)) (drop_of_length-le a low) ∙ ap (λ l. first_apart items n [] l) (drop-cons b n no_line low')

-- one of them ends first
pub apart_other : (items : List ItemShape) (n : ℕ) (a b : List LineText) → min (length a) (length b) ≡ n → (length a ≡ length b → ⊥) → apart_from items n a b ≡ Some n
apart_other items n a b least other =
    elim (cases_lt (length a) (length b)) [
      | inl less ↦ apart_after items n a b (omega arith) (omega arith)
      | inr more ↦ (let low : length b < length a = omega (arith, other, more) in apart_before items n a b (omega arith) (omega arith))
    ]
