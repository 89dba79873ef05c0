-- What a write into an item of an occurrence changes, and what it leaves alone.
use Rattle.std.specs.Prelude.{◌≡◌, ◌<◌, ℕ, true, List, length, map, slice_index_or}
use Rattle.cse_value.specs.declared.shape.ItemShape.{ItemShape}
use Rattle.cse_value.specs.declared.shape.ItemKind.{ItemKind}
use Rattle.cse_value.specs.declared.shape.ItemKind.TheVariants.{Number, Text}
use Rattle.cse_value.specs.declared.number.Num.{Num}
use Rattle.cse_value.specs.Field.{fits_num, kept, put_text}
use Rattle.cse_dict.specs.Dictionary.{code_at}
use Rattle.cse_dict.specs.Sound.{IsSound}
use Rattle.cse_case.specs.NamedColumns.{field_at, ids_of, type_span}
use Rattle.cse_case.specs.Run.{line_at}
use Rattle.cse_case.specs.Seen.{is_case}
use Rattle.cse_case.specs.Field.{HasColumn, HaveNoneInCommon, IsItem, item_at}
use Rattle.cse_case.specs.Case.{CaseText, IsOccurrence, items_of, number_at, place_of, places_of, records_of, text_at, types_of, unseen_lines, with_number, with_text}
use Rattle.cse_case.specs.Fit.{IsFit}

-- an item of this kind may be set in an occurrence of its record: the case fits, its dictionary is sound, and both are there
pub record MaySet (c : CaseText) (r o : ℕ) (kind : ItemKind) (item : ℕ) : Type 0 where
  pub fits : IsFit c
  pub sound : IsSound c.dictionary
  pub occurrence : IsOccurrence c r o
  pub is_item : IsItem (items_of c) r kind item

-- The cases have the same dictionary, ids, mark and number, and as many lines; the lines have the same records, lengths in the file and ends; and so
-- the cases have the same occurrences, at the same places, and the same unseen lines.
pub record HasSameOccurrences (old new : CaseText) : Type 0 where
  pub dictionary : new.dictionary ≡ old.dictionary
  pub ids : new.ids ≡ old.ids
  pub marked : new.run.marked ≡ old.run.marked
  pub first_line : new.run.first_line ≡ old.run.first_line
  pub lines : length new.run.lines ≡ length old.run.lines
  pub types : types_of new.run.lines ≡ types_of old.run.lines
  pub lens : map (λ l. l.len) new.run.lines ≡ map (λ l. l.len) old.run.lines
  pub endings : map (λ l. l.ending) new.run.lines ≡ map (λ l. l.ending) old.run.lines
  pub places : (r : ℕ) → places_of new r ≡ places_of old r
  pub place : (r o : ℕ) → place_of new r o ≡ place_of old r o
  pub unseen : unseen_lines new ≡ unseen_lines old
  pub case : is_case (records_of new) (types_of new.run.lines) ≡ is_case (records_of old) (types_of old.run.lines)

-- No write makes or moves an occurrence.
abbrev pub OccurrencesStay : Type 0
OccurrencesStay = (c : CaseText) (r o item : ℕ)
    → ((value : Num) → HasSameOccurrences c (with_number c r o item value)) × ((text : List ℕ) → HasSameOccurrences c (with_text c r o item text))

-- A case that fits still fits.
abbrev pub FitStays : Type 0
FitStays = (c : CaseText) (r o item : ℕ)
    → ((value : Num) → MaySet c r o Number item → IsFit (with_number c r o item value)) × ((text : List ℕ) → MaySet c r o Text item → IsFit (with_text c r o item text))

-- What was set is read: what the field keeps of a number, and a text cut to the item's columns or padded.
abbrev pub ReadsWhatWasSet : Type 0
ReadsWhatWasSet = (c : CaseText) (r o item : ℕ)
    → ((value : Num) → MaySet c r o Number item → fits_num value ≡ true
    → number_at (with_number c r o item value) (place_of c r o) item ≡ kept (item_at (items_of c) item).len value (code_at c.dictionary item))
    × ((text : List ℕ) → MaySet c r o Text item → text_at (with_text c r o item text) (place_of c r o) item ≡ put_text (item_at (items_of c) item).len text)

-- In other lines than this one, and there in items that have no column in common with this one, nothing changes.
pub record LeavesOthers (old new : CaseText) (place item : ℕ) : Type 0 where
  pub lines : (p : ℕ) → (p ≡ place → ⊥) → line_at new.run p ≡ line_at old.run p
  pub numbers : (p other : ℕ) → other < length (items_of old) → (p ≡ place → HaveNoneInCommon (item_at (items_of old) item) (item_at (items_of old) other)) → number_at new p other ≡ number_at old p other
  pub texts : (p other : ℕ) → other < length (items_of old) → (p ≡ place → HaveNoneInCommon (item_at (items_of old) item) (item_at (items_of old) other)) → text_at new p other ≡ text_at old p other

abbrev pub OthersStay : Type 0
OthersStay = (c : CaseText) (r o item : ℕ)
    → ((value : Num) → MaySet c r o Number item → LeavesOthers c (with_number c r o item value) (place_of c r o) item)
    × ((text : List ℕ) → MaySet c r o Text item → LeavesOthers c (with_text c r o item text) (place_of c r o) item)

-- a column of a line, both counted from 0; a blank where it isn't there
abbrev pub column_at : CaseText → ℕ → ℕ → ℕ
column_at c place k = slice_index_or (line_at c.run place).columns k 32

-- A column changes only if it is one of the item's in the line at this place, and no line gets longer or shorter.
pub record LeavesColumns (old new : CaseText) (place : ℕ) (item : ItemShape) : Type 0 where
  pub columns : (p k : ℕ) → (p ≡ place → HasColumn item k → ⊥) → column_at new p k ≡ column_at old p k
  pub widths : (p : ℕ) → length (line_at new.run p).columns ≡ length (line_at old.run p).columns

abbrev pub ColumnStays : Type 0
ColumnStays = (c : CaseText) (r o item : ℕ)
    → ((value : Num) → MaySet c r o Number item → LeavesColumns c (with_number c r o item value) (place_of c r o) (item_at (items_of c) item))
    × ((text : List ℕ) → MaySet c r o Text item → LeavesColumns c (with_text c r o item text) (place_of c r o) (item_at (items_of c) item))

-- The id columns of each line stay, and so do the columns of its record type.
pub record LeavesIdsAndTypes (old new : CaseText) : Type 0 where
  pub ids : (place : ℕ) → ids_of old.dictionary (line_at new.run place).columns ≡ ids_of old.dictionary (line_at old.run place).columns
  pub types : (place : ℕ) → field_at (type_span old.dictionary) (line_at new.run place).columns ≡ field_at (type_span old.dictionary) (line_at old.run place).columns

abbrev pub IdsAndTypesStay : Type 0
IdsAndTypesStay = (c : CaseText) (r o item : ℕ)
    → ((value : Num) → MaySet c r o Number item → LeavesIdsAndTypes c (with_number c r o item value))
    × ((text : List ℕ) → MaySet c r o Text item → LeavesIdsAndTypes c (with_text c r o item text))
