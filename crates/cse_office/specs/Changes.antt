-- What a run changed, line beside line. A line that was read stands beside the one that was written in its place. An item
-- occurs in the seen lines of its record, and an id item in each line. It is changed where one of its columns is another one;
-- past its end a line has blanks. Ends of lines and the byte order mark are no columns.
use Rattle.std.specs.Prelude.{◌≡◌, ℕ, suc, zero, ◌+◌, ◌-◌, ◌<◌, ◌≤◌, Bool, true, false, not, ◌==◌, ◌&&◌, ◌||◌, map, List, [], ◌∷◌, length, count_by, slice_index_or, Option, None, Some, if◌then◌else◌}
use Rattle.cse_value.specs.declared.shape.ItemShape.{ItemShape}
use Rattle.cse_value.specs.declared.shape.RecordShape.{RecordShape}
use Rattle.cse_case.specs.Columns.{LineText, no_line}
use Rattle.cse_case.specs.Field.{item_at}
use Rattle.cse_case.specs.Seen.{occurrence_places}
use Rattle.cse_office.specs.declared.count.Count.{Count}

-- one of so many columns from a place on is another one, with blanks behind the last
unfoldable pub differ : ℕ → ℕ → List ℕ → List ℕ → Bool
differ at zero before after = false
differ at (suc n) before after = not (slice_index_or before at 32 == slice_index_or after at 32) || differ (at + 1) n before after

-- the item is changed
abbrev pub is_changed : ItemShape → List ℕ → List ℕ → Bool
is_changed item before after = differ (item.start - 1) item.len before after

-- the item is one of the owner's that is changed
abbrev pub is_changed_own : ℕ → ItemShape → List ℕ → List ℕ → Bool
is_changed_own owner item before after = item.owner == owner && is_changed item before after

-- the records of lines
abbrev pub types_of : List LineText → List (Option ℕ)
types_of lines = map (λ line. line.record_number) lines

-- the places of all lines, the first of which has this one
abbrev pub places_from : ℕ → List (Option ℕ) → List ℕ
places_from n [] = []
places_from n (line ∷ lines) = n ∷ places_from (n + 1) lines

-- the places in a run, from 0, at which the items of an owner occur
abbrev pub owner_places : List RecordShape → ℕ → List (Option ℕ) → List ℕ
owner_places records owner lines = if owner == 255 then places_from 0 lines else occurrence_places records owner lines

-- the places at which an item occurs
abbrev pub item_places : List RecordShape → ItemShape → List (Option ℕ) → List ℕ
item_places records item lines = owner_places records item.owner lines

-- the line at a place
abbrev pub columns_at : List LineText → ℕ → List ℕ
columns_at lines place = (slice_index_or lines place no_line).columns

-- the item is changed at a place
abbrev pub is_changed_at : ItemShape → List LineText → List LineText → ℕ → Bool
is_changed_at item before after place = is_changed item (columns_at before place) (columns_at after place)

-- it is one of the owner's that is changed there
abbrev pub is_changed_own_at : ℕ → ItemShape → List LineText → List LineText → ℕ → Bool
is_changed_own_at owner item before after place = is_changed_own owner item (columns_at before place) (columns_at after place)

-- how many places there are, and at how many of them an item is changed
abbrev pub counted : ItemShape → List LineText → List LineText → List ℕ → Count
counted item before after places = record { occurrences = length places; changed = count_by (is_changed_at item before after) places }

-- in two runs side by side: how often an item occurs, and how often it is changed
unfoldable pub count_in : List RecordShape → ItemShape → List LineText → List LineText → Count
count_in records item before after = counted item before after (item_places records item (types_of before))

-- two counts as one
abbrev pub plus : Count → Count → Count
plus a b = record { occurrences = a.occurrences + b.occurrences; changed = a.changed + b.changed }

-- so many changes more
abbrev pub with_changes : Count → ℕ → Count
with_changes count n = record { occurrences = count.occurrences; changed = count.changed + n }

-- nothing is counted
abbrev pub no_count : Count
no_count = record { occurrences = 0; changed = 0 }

-- the lines are of one record
abbrev pub is_same_record : Option ℕ → Option ℕ → Bool
is_same_record None None = true
is_same_record None (Some n) = false
is_same_record (Some m) None = false
is_same_record (Some m) (Some n) = m == n

-- they have the same id items
unfoldable pub has_same_ids : List ItemShape → List ℕ → List ℕ → Bool
has_same_ids [] before after = true
has_same_ids (item ∷ items) before after = not (item.owner == 255 && is_changed item before after) && has_same_ids items before after

-- they pair up
abbrev pub is_pair : List ItemShape → LineText → LineText → Bool
is_pair items before after = is_same_record before.record_number after.record_number && has_same_ids items before.columns after.columns

-- the place of the first line that has none beside it, or one that is no pair of it; the first of these lines has this place
unfoldable pub first_apart : List ItemShape → ℕ → List LineText → List LineText → Option ℕ
first_apart items n [] [] = None
first_apart items n [] (line ∷ lines) = Some n
first_apart items n (line ∷ lines) [] = Some n
first_apart items n (before ∷ befores) (after ∷ afters) = if is_pair items before after then first_apart items (n + 1) befores afters else Some n

-- as many lines, of the same records, with the same columns
pub record AreAlike (before after : List LineText) : Type 0 where
  pub as_many : length before ≡ length after
  pub records : (n : ℕ) → (slice_index_or before n no_line).record_number ≡ (slice_index_or after n no_line).record_number
  pub columns : (n : ℕ) → columns_at before n ≡ columns_at after n

-- the lines at a place are of the same record, and have the same columns
pub record IsLike (before after : List LineText) (n : ℕ) : Type 0 where
  pub records : (slice_index_or before n no_line).record_number ≡ (slice_index_or after n no_line).record_number
  pub columns : columns_at before n ≡ columns_at after n

-- what is remembered of the first lines: where it is true, they are alike
abbrev pub AreLikes : List Bool → List LineText → List LineText → Type 0
AreLikes likes before after = (n : ℕ) → n < length before → n < length after → slice_index_or likes n false ≡ true → IsLike before after n

-- how many lines of a record are seen
abbrev pub seen_of : List RecordShape → ℕ → List LineText → ℕ
seen_of records number lines = length (occurrence_places records number (types_of lines))

-- how often the items of an owner occur, where so many lines of each record are seen, of so many in all
abbrev pub times_of : List ℕ → ℕ → ℕ → ℕ
times_of seen lines owner = if owner == 255 then lines else slice_index_or seen owner 0

-- the counts of items, of which it is counted how often each is changed, where so many lines of each record are seen, of so many in all
unfoldable pub counts_so_far : List ℕ → ℕ → List ItemShape → List Count → List Count
counts_so_far seen lines [] counts = []
counts_so_far seen lines (item ∷ items) [] = []
counts_so_far seen lines (item ∷ items) (count ∷ counts) =
    record { occurrences = times_of seen lines item.owner; changed = count.changed } ∷ counts_so_far seen lines items counts

-- the lines of each record that are seen were added
abbrev pub AreSeen : List RecordShape → List LineText → List ℕ → List ℕ → Type 0
AreSeen records lines old new = (n : ℕ) → n < length records → slice_index_or new n 0 ≡ slice_index_or old n 0 + seen_of records n lines

-- how often each item is changed was added
abbrev pub AreChanges : List RecordShape → List ItemShape → List LineText → List LineText → List Count → List Count → Type 0
AreChanges records items before after old new = (n : ℕ) → n < length items
    → (slice_index_or new n no_count).changed ≡ (slice_index_or old n no_count).changed + (count_in records (item_at items n) before after).changed

-- of no record more lines are seen, and no item is changed more often
pub record AreFew (seen : List ℕ) (counts : List Count) (most : ℕ) : Type 0 where
  pub seen_few : (n : ℕ) → slice_index_or seen n 0 ≤ most
  pub changed_few : (n : ℕ) → (slice_index_or counts n no_count).changed ≤ most

-- how often an item of an owner occurs in lines, where it is changed in none
abbrev pub only_there : List RecordShape → ℕ → List LineText → Count
only_there records owner lines = record { occurrences = length (owner_places records owner (types_of lines)); changed = 0 }

-- bytes have the same one at a place, and it is ASCII
pub record IsSameByte (before after : List ℕ) (p : ℕ) : Type 0 where
  pub within : p < length before
  pub within_after : p < length after
  pub ascii : slice_index_or before p 0 < 128
  pub same : slice_index_or before p 0 ≡ slice_index_or after p 0

-- lines are the same before a place, and from another one on
pub record DifferWithin (first end : ℕ) (before after : List ℕ) : Type 0 where
  pub front : (p : ℕ) → p < first → slice_index_or before p 32 ≡ slice_index_or after p 32
  pub back : (p : ℕ) → end ≤ p → slice_index_or before p 32 ≡ slice_index_or after p 32
