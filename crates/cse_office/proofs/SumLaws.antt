-- Laws of what is counted record by record, and of id items, of which none is changed where lines pair up.
use Rattle.std.proofs.Common.{◌≡◌, ℕ, zero, suc, ◌+◌, ◌<◌, ◌≤◌, Bool, true, false, not, ◌&&◌, List, [], ◌∷◌, length, get_or, take, Option, None, Some, cond, refl, ap, sym, ◌∙◌, arith, eq-eqb, ne_eqb, if◌then◌else◌}
use Rattle.std.specs.Prelude.{count_by, ◌==◌}
use Rattle.std.specs.Option.{option_map_or}
use Rattle.std.proofs.lemmas.Bool.{and_parts, eqb-true, eqb-false, not-true}
use Rattle.std.proofs.lemmas.Option.{slice_get-get_or}
use Rattle.cse_lemmas.proofs.Booleans.{and-false}
use Rattle.cse_case.specs.Columns.{LineText}
use Rattle.cse_value.specs.declared.shape.ItemShape.{ItemShape}
use Rattle.cse_value.specs.declared.shape.RecordShape.{RecordShape}
use Rattle.cse_value.specs.Occurrences.{most_occurrences}
use Rattle.cse_case.specs.Field.{item_at, no_item}
use Rattle.cse_case.specs.Seen.{places_from as own_places}
use Rattle.cse_case.proofs.SeenLaws.{most_past}
use Rattle.cse_office.specs.declared.count.Count.{Count}
use Rattle.cse_office.specs.Changes.{columns_at, count_in, first_apart, has_same_ids, is_changed, is_changed_at, is_changed_own, is_changed_own_at, is_pair, is_same_record, places_from, types_of, with_changes}
use Rattle.cse_office.proofs.AlikeLaws.{count_none, same_ids, unchanged}
use Rattle.cse_office.proofs.ChangeLaws.{id_counts, own_counts}

-- ---- counts

pub with_none : (count : Count) → with_changes count 0 ≡ count
with_none count = ap (λ n. record { occurrences = count.occurrences; changed = n }) (let e : count.changed + 0 ≡ count.changed = omega arith in e)

pub is_with : (old new : Count) (n : ℕ) → new.occurrences ≡ old.occurrences → new.changed ≡ old.changed + n → new ≡ with_changes old n
is_with old new n occurrences changed =
    ap (λ x. record { occurrences = x; changed = new.changed }) occurrences ∙ ap (λ x. record { occurrences = old.occurrences; changed = x }) changed

-- ---- items

pub item_is : (items : List ItemShape) (n : ℕ) (other : ItemShape) → n < length items → item_at items n ≡ get_or items n other
item_is items n other low = ap (λ (o : Option ItemShape). option_map_or (λ i. i) o no_item) (slice_get-get_or items n other low)

pub own_item : (owner : ℕ) (item : ItemShape) (a b : List ℕ) → is_changed_own owner item a b ≡ true → item.owner ≡ owner
own_item owner item a b e = eqb-true item.owner owner ((and_parts (item.owner == owner) (is_changed item a b) e).0)

-- lines that are alike have no change more
pub no_change : (owner : ℕ) (item : ItemShape) (a b : List ℕ) → a ≡ b → (count : Count) → with_changes count (cond (is_changed_own owner item a b) 1 0) ≡ count
no_change owner item a b e count =
    ap (λ t. with_changes count (cond (item.owner == owner && t) 1 0)) (unchanged item a b e)
    ∙ (ap (λ t. with_changes count (cond t 1 0)) (and-false (item.owner == owner)) ∙ with_none count)

-- ---- the items of an owner

all_own : (owner : ℕ) (item : ItemShape) (a b : List LineText) (places : List ℕ) → item.owner ≡ owner → count_by (is_changed_own_at owner item a b) places ≡ count_by (is_changed_at item a b) places
all_own owner item a b places e = ap (λ t. count_by (λ p. t && is_changed_at item a b p) places) (eq-eqb item.owner owner e)

none_own : (owner : ℕ) (item : ItemShape) (a b : List LineText) (places : List ℕ) → (item.owner ≡ owner → ⊥) → count_by (is_changed_own_at owner item a b) places ≡ 0
none_own owner item a b places e =
    ap (λ t. count_by (λ p. t && is_changed_at item a b p) places) (ne_eqb item.owner owner e) ∙ count_none (λ p. false) places (λ p. refl)

-- the count of another owner's item stays
pub same_count : (owner : ℕ) (item : ItemShape) (a b : List LineText) (places : List ℕ) (old new : Count) → (item.owner ≡ owner → ⊥) → new.occurrences ≡ old.occurrences
    → new.changed ≡ old.changed + count_by (is_changed_own_at owner item a b) places → new ≡ old
same_count owner item a b places old new e occurrences changed =
    is_with old new 0 occurrences (changed ∙ ap (λ n. old.changed + n) (none_own owner item a b places e)) ∙ with_none old

-- ---- id items

never : (P : Type 0) (m : ℕ) → Some m ≡ None → P
never P m e = cc

pair_parts : (items : List ItemShape) (m : ℕ) (x y : LineText) (xs ys : List LineText) → first_apart items m (x ∷ xs) (y ∷ ys) ≡ None → (is_pair items x y ≡ true) × (first_apart items (m + 1) xs ys ≡ None)
unfolding first_apart
pair_parts items m x y xs ys e = by (is_pair items x y) refl e
  where
    by : (t : Bool) → is_pair items x y ≡ t → (if t then first_apart items (m + 1) xs ys else Some m) ≡ None → (is_pair items x y ≡ true) × (first_apart items (m + 1) xs ys ≡ None)
    by true is none = (is, none)
    by false is none = never ((is_pair items x y ≡ true) × (first_apart items (m + 1) xs ys ≡ None)) m none

ids_at : (items : List ItemShape) (m : ℕ) (a b : List LineText) → first_apart items m a b ≡ None → (p : ℕ) → has_same_ids items (columns_at a p) (columns_at b p) ≡ true
unfolding first_apart
ids_at items m [] [] e p = same_ids items (columns_at [] p) (columns_at [] p) refl
ids_at items m [] (y ∷ ys) e p = never (has_same_ids items (columns_at [] p) (columns_at (y ∷ ys) p) ≡ true) m e
ids_at items m (x ∷ xs) [] e p = never (has_same_ids items (columns_at (x ∷ xs) p) (columns_at [] p) ≡ true) m e
ids_at items m (x ∷ xs) (y ∷ ys) e zero =
    (and_parts (is_same_record x.record_number y.record_number) (has_same_ids items x.columns y.columns) ((pair_parts items m x y xs ys e).0)).1
ids_at items m (x ∷ xs) (y ∷ ys) e (suc p) = ids_at items (m + 1) xs ys ((pair_parts items m x y xs ys e).1) p

id_same : (items : List ItemShape) (n : ℕ) (a b : List ℕ) → has_same_ids items a b ≡ true → n < length items → (item_at items n).owner ≡ 255 → is_changed (item_at items n) a b ≡ false
unfolding has_same_ids
id_same [] n a b e low own = absurd (omega (arith, low))
id_same (item ∷ items) zero a b e low own =
    let two = and_parts (not (item.owner == 255 && is_changed item a b)) (has_same_ids items a b) e in
    not-true (is_changed item a b) (sym (ap (λ t. not (t && is_changed item a b)) (eq-eqb item.owner 255 own)) ∙ two.0)
id_same (item ∷ items) (suc n) a b e low own =
    id_same items n a b ((and_parts (not (item.owner == 255 && is_changed item a b)) (has_same_ids items a b) e).1) (omega (arith, low)) own

-- ---- all changes of an item are those in the lines of its record
module _ (records : List RecordShape) (items : List ItemShape) (n : ℕ) (a b : List LineText) (pairs : first_apart items 0 a b ≡ None) (low : n < length items) where
  no_id_changes : (item_at items n).owner ≡ 255 → (p : ℕ) → is_changed_at (item_at items n) a b p ≡ false
  no_id_changes id p = id_same items n (columns_at a p) (columns_at b p) (ids_at items 0 a b pairs p) low id

  id_total : (item_at items n).owner ≡ 255 → (count_in records (item_at items n) a b).changed ≡ 0
  id_total id =
      ap (λ (x : Count). x.changed) (id_counts records (item_at items n) a b id)
      ∙ count_none (is_changed_at (item_at items n) a b) (places_from 0 (types_of a)) (no_id_changes id)

  own_changes : (most : ℕ) → ((item_at items n).owner ≡ 255 → ⊥) → most ≡ most_occurrences records (item_at items n).owner
      → (count_in records (item_at items n) a b).changed ≡ count_by (is_changed_at (item_at items n) a b) (take most (own_places 0 (item_at items n).owner (types_of a)))
  own_changes most other is = ap (λ (x : Count). x.changed) (own_counts records (item_at items n) a b most other is)

  -- of an owner that is no record none are counted
  pub none_total : length records ≤ (item_at items n).owner → (count_in records (item_at items n) a b).changed ≡ 0
  none_total past = by ((item_at items n).owner == 255) refl
    where
      by : (t : Bool) → ((item_at items n).owner == 255) ≡ t → (count_in records (item_at items n) a b).changed ≡ 0
      by true e = id_total (eqb-true (item_at items n).owner 255 e)
      by false e = own_changes 0 (eqb-false (item_at items n).owner 255 e) (sym (most_past records (item_at items n).owner past))

  pub own_total : (owner most : ℕ) → most ≡ most_occurrences records owner → (item_at items n).owner ≡ owner
      → count_by (is_changed_own_at owner (item_at items n) a b) (take most (own_places 0 owner (types_of a))) ≡ (count_in records (item_at items n) a b).changed
  own_total owner most is own = all_own owner (item_at items n) a b (take most (own_places 0 owner (types_of a))) own ∙ by ((item_at items n).owner == 255) refl
    where
      by : (t : Bool) → ((item_at items n).owner == 255) ≡ t
          → count_by (is_changed_at (item_at items n) a b) (take most (own_places 0 owner (types_of a))) ≡ (count_in records (item_at items n) a b).changed
      by true e =
          let id : (item_at items n).owner ≡ 255 = eqb-true (item_at items n).owner 255 e in
          count_none (is_changed_at (item_at items n) a b) (take most (own_places 0 owner (types_of a))) (no_id_changes id) ∙ sym (id_total id)
      by false e =
          ap (λ r. count_by (is_changed_at (item_at items n) a b) (take most (own_places 0 r (types_of a)))) (sym own)
          ∙ sym (own_changes most (eqb-false (item_at items n).owner 255 e) (is ∙ ap (most_occurrences records) (sym own)))
