-- What an office may rely on of its data, in the words of its logic: a column that is of no item that a statement names stays as it was.
use Rattle.std.specs.Prelude.{◌≡◌, ℕ, Bool, true, List, [], ◌∷◌, Option, Some, None, Contains}
use Rattle.std.specs.List.{flat_map}
use Rattle.cse_dict.specs.Dictionary.{DictionaryText, shape_of}
use Rattle.cse_dict.specs.Sound.{IsSound}
use Rattle.cse_case.specs.Line.{FileLine}
use Rattle.cse_case.specs.Columns.{line_text}
use Rattle.cse_case.specs.Runs.{fault_in, given_runs}
use Rattle.cse_case.specs.Field.{HasColumn, item_at}
use Rattle.cse_logic_tree.specs.Typed.{Tree}
use Rattle.cse_edit.specs.Items.{items_written}
use Rattle.cse_decks.specs.Store.{Kept}
use Rattle.cse_meaning.specs.Build.{AreSound}
use Rattle.cse_batch_parts.specs.declared.totals.Totals.{Totals}
use Rattle.cse_batch_parts.specs.declared.totals.RunFault.{RunFault}
use Rattle.cse_batch_parts.specs.RunClauses.{Failures}
use Rattle.cse_batch_parts.specs.Untouched.{LineStays}
use Rattle.cse_edit.specs.Logic.{batch_meant}
use Rattle.cse_edit.specs.Edit.{Devices, Edits, IsRead, StopsEdit}

-- an item that a statement writes is of the line's record, and has this column, from 0
pub record MayChange (d : DictionaryText) (t : Tree) (read : FileLine) (column : ℕ) : Type 0 where
  pub item : ℕ
  pub written : Contains (items_written d t) item
  pub record_is : (line_text d read).record_number ≡ Some (item_at (shape_of d).items item).owner
  pub covers : HasColumn (item_at (shape_of d).items item) column

-- Lines that are written in place of those that were read, one for each, in order. Each is as wide, and each column is as it was or may
-- change; ids, record types and ends are as they were. A line that has no column which may change is written byte for byte.
abbrev pub AllStay : DictionaryText → Tree → List FileLine → List (List ℕ) → Type 0
AllStay d t [] [] = Unit {0}
AllStay d t [] (line ∷ written) = ⊥
AllStay d t (read ∷ reads) [] = ⊥
AllStay d t (read ∷ reads) (line ∷ written) = LineStays d (MayChange d t read) read line × AllStay d t reads written

-- the lines that a batch over these bytes edits
abbrev pub lines_read : DictionaryText → List ℕ → Bool → List FileLine
lines_read d bytes ended = flat_map (λ run. run) (given_runs d true ended bytes)

-- OUT is what is written in place of the lines that were read, and nothing else; of sound data that has ended these are all.
pub record ItemsStay (d : DictionaryText) (t : Tree) (named : List ℕ) (store : Kept) (bytes : List ℕ) (ended : Bool) : Type 0 where
  pub written : List (List ℕ)
  pub out : (batch_meant d t named store bytes ended).out ≡ flat_map (λ line. line) written
  pub lines : AllStay d t (lines_read d bytes ended) written
  pub all : ended ≡ true → fault_in d true ended bytes ≡ None → flat_map (λ (line : FileLine). line.1) (lines_read d bytes ended) ≡ bytes

-- The law: so it is of the batch that sound texts mean, from whatever store, over whatever bytes, to their end or not.
abbrev pub NamedItemsAloneChange : Type 0
NamedItemsAloneChange =
    (d : DictionaryText) (logic messages order : List ℕ) (texts : AreSound d logic messages order) (store : Kept) (bytes : List ℕ) (ended : Bool) → IsSound d
    → ItemsStay d texts.tree texts.named store bytes ended

-- Checks alone write sound data back, byte for byte: texts whose statements write no item.
abbrev pub ChecksChangeNothing : Type 0
ChecksChangeNothing =
    (d : DictionaryText) (logic messages order : List ℕ) (texts : AreSound d logic messages order) (store : Kept) (bytes : List ℕ) → IsSound d
    → items_written d texts.tree ≡ [] → fault_in d true true bytes ≡ None → (batch_meant d texts.tree texts.named store bytes true).out ≡ bytes

-- So OUT of an edit is what was read, line for line, but for columns of the items that its logic names: of one that ends well, and of one that
-- stops as far as it was written.
pub record KeepsOthers (d : DictionaryText) (logic messages order : List ℕ) (decks : Option (List ℕ)) (on : Devices) : Type 0 where
  pub whole : (totals : Totals) (e : Edits d logic messages order decks on totals)
      → ItemsStay d e.begins.texts.tree e.begins.texts.named e.begins.store e.runs.bytes true
  pub stopped : (failed : Failures) (fault : RunFault) (e : StopsEdit d logic messages order decks on failed fault)
      → ItemsStay d e.begins.texts.tree e.begins.texts.named e.begins.store e.stops.bytes e.stops.ended

abbrev pub EditsKeepOthers : Type 0
EditsKeepOthers =
    (text logic messages order : List ℕ) (decks : Option (List ℕ)) (on : Devices) (d : DictionaryText) → IsRead text d → KeepsOthers d logic messages order decks on
