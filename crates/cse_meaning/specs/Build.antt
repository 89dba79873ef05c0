-- What is built of logic, a message file and an order file, and why nothing is.
use Rattle.std.specs.Prelude.{◌≡◌, ◌≤◌, ◌⊎◌, ℕ, true, false, List, Some, None, Ok}
use Rattle.std.specs.Str.{is_utf8}
use Rattle.cse_image_parts.specs.Image.{Image}
use Rattle.cse_image.specs.Spelling.{Spells}
use Rattle.cse_dict.specs.Dictionary.{DictionaryText, shape_of}
use Rattle.cse_syntax_tree.specs.Tree as syntax
use Rattle.cse_syntax.specs.Source.{IsSourceText}
use Rattle.cse_logic_tree.specs.Typed.{Tree}
use Rattle.cse_logic_names.specs.declared.error.TypeError.{TypeError}
use Rattle.cse_logic_names.specs.Fault.{at_line}
use Rattle.cse_logic_names.specs.MessageFile.{MessageText, ReadsMessages, file_lines, first_fault}
use Rattle.cse_logic_names.specs.OrderFile.{IsOrder, FirstFaulty}
use Rattle.cse_logic_names.specs.WellTyped.{IsTypedAs}
use Rattle.cse_code_typing.specs.Typed.{IsTyped}
use Rattle.cse_verify.specs.Bounded.{IsBounded}
use Rattle.cse_compile.specs.Program.{IsProgramOf}
use Rattle.cse_meaning.specs.Costs.{KeepsCosts}
use Rattle.cse_meaning.specs.Within.{IsWithin}
use Rattle.cse_meaning.specs.declared.error.BuildFault.{BuildFault}
use Rattle.cse_meaning.specs.Fault.{at_no_place, no_text, of_type, out_of_memory}

-- the message file has no fault, and these entries
abbrev pub AreEntries : List ℕ → List MessageText → Type 0
AreEntries messages entries = ReadsMessages (Ok entries) (file_lines messages)

-- the order file names these records of the dictionary
abbrev pub AreNamed : DictionaryText → List ℕ → List ℕ → Type 0
AreNamed d order named = IsOrder d (file_lines order) named

-- the logic is the text of this source, with at most 64 parentheses and statements open at once, and keeps each rule of names and kinds as
-- this typed tree
pub record IsLogic (d : DictionaryText) (entries : List MessageText) (logic : List ℕ) (source : syntax.Tree) (t : Tree) : Type 0 where
  pub utf8 : is_utf8 logic ≡ true
  pub text : IsSourceText 64 logic source
  pub typed : IsTypedAs d entries source t

-- the bytes are the version 2 spelling of this program of the typed tree, which may run with the dictionary
pub record IsImage (d : DictionaryText) (named : List ℕ) (t : Tree) (x : Image) (bytes : List ℕ) : Type 0 where
  pub compiled : IsProgramOf d named t x
  pub typed : IsTyped (shape_of d) x
  pub bounded : IsBounded x
  pub spelled : Spells x bytes

-- The three texts are sound together: the message file has entries, the order file names records, and the logic is a text that keeps each rule.
pub record AreSound (d : DictionaryText) (logic messages order : List ℕ) : Type 0 where
  pub entries : List MessageText
  pub named : List ℕ
  pub source : syntax.Tree
  pub tree : Tree
  pub entries_are : AreEntries messages entries
  pub named_are : AreNamed d order named
  pub logic_is : IsLogic d entries logic source tree

-- They are sound, and the bytes are the image of a program of the logic.
pub record IsBuilt (d : DictionaryText) (logic messages order bytes : List ℕ) : Type 0 where
  pub texts : AreSound d logic messages order
  pub program : Image
  pub image : IsImage d texts.named texts.tree program bytes

-- ---- faults

-- the source is beyond a limit of the format; or the steps of its program pass their limit, and so does a cost of the source
abbrev pub IsLimitFault : DictionaryText → Tree → BuildFault → Type 0
IsLimitFault d t e = ((e ≡ at_no_place 64) × (IsWithin t → ⊥)) ⊎ ((e ≡ at_no_place 67) × (KeepsCosts d t → ⊥))

-- no typed tree of the source keeps the rules
abbrev pub IsRuleFault : DictionaryText → List MessageText → syntax.Tree → BuildFault → Type 0
IsRuleFault d entries source e = (40 ≤ e.number) × (e.number ≤ 49) × ((t : Tree) → IsTypedAs d entries source t → ⊥)

abbrev pub IsSourceFault : DictionaryText → List MessageText → syntax.Tree → BuildFault → Type 0
IsSourceFault d entries source e = IsRuleFault d entries source e ⊎ ((t : Tree) × IsTypedAs d entries source t × IsLimitFault d t e)

-- the logic isn't UTF-8, or the text of no source
abbrev pub IsTextFault : List ℕ → BuildFault → Type 0
IsTextFault logic e = ((e ≡ no_text) × (is_utf8 logic ≡ false)) ⊎ ((30 ≤ e.number) × (e.number ≤ 35) × ((source : syntax.Tree) → IsSourceText 64 logic source → ⊥))

abbrev pub IsLogicFault : DictionaryText → List MessageText → List ℕ → BuildFault → Type 0
IsLogicFault d entries logic e = IsTextFault logic e ⊎ ((source : syntax.Tree) × IsSourceText 64 logic source × IsSourceFault d entries source e)

-- the first faulty line of the order file; or the fault of the logic, where there is none
abbrev pub IsOrderFault : DictionaryText → List ℕ → BuildFault → Type 0
IsOrderFault d order e = (e ≡ of_type (at_line 40 e.line)) × FirstFaulty d (file_lines order) e.line

abbrev pub IsFaultBehind : DictionaryText → List MessageText → List ℕ → List ℕ → BuildFault → Type 0
IsFaultBehind d entries logic order e = IsOrderFault d order e ⊎ ((named : List ℕ) × AreNamed d order named × IsLogicFault d entries logic e)

-- the first faulty line of the message file
abbrev pub IsMessageFault : List ℕ → BuildFault → Type 0
IsMessageFault messages e = (fault : TypeError) × (first_fault 1 (file_lines messages) ≡ Some fault) × (e ≡ of_type fault)

-- Want of memory; or the fault of the message file; or, where it has none, that of the order file; or, where that has none either, that of
-- the logic: as a text, else of its names and kinds, else of its program.
abbrev pub IsFault : DictionaryText → List ℕ → List ℕ → List ℕ → BuildFault → Type 0
IsFault d logic messages order e =
    (e ≡ out_of_memory)
    ⊎ (IsMessageFault messages e
    ⊎ ((entries : List MessageText) × AreEntries messages entries × IsFaultBehind d entries logic order e))
