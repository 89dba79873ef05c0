-- Which typed trees fit the tables of a program, at a place of one of its routines: each name stands for an entry of the sort that is
-- wanted there.
use Rattle.std.specs.Prelude.{◌≡◌, ◌≤◌, ℕ, zero, suc, ◌+◌, Bool, true, false, ◌==◌, List, [], ◌∷◌, length, map, take, Option, Some, None, slice_get}
use Rattle.std.specs.List.{list_any}
use Rattle.cse_value.specs.declared.shape.ItemShape.{ItemShape}
use Rattle.cse_image_parts.specs.declared.entries.Gift.TheVariants as gifts
use Rattle.cse_image_parts.specs.declared.instruction.Op.TheVariants as ops
use Rattle.cse_image_parts.specs.Image.{ArrayLists, MessageLists, RoutineLists}
use Rattle.cse_image_parts.specs.Placeholders.{message_kinds}
use Rattle.cse_syntax_tree.specs.declared.tree.Count.TheVariants as counts
use Rattle.cse_syntax_tree.specs.declared.tree.Jump.{Jump}
use Rattle.cse_syntax_tree.specs.declared.tree.Jump.TheVariants as j
use Rattle.cse_code_typing.specs.declared.kind.Kind.{Kind}
use Rattle.cse_code_typing.specs.declared.kind.Kind.TheVariants as kind
use Rattle.cse_code_typing.specs.Kinds.{local_kind, argument_kind}
use Rattle.cse_code_typing.specs.Signature.{Scene, id_number, id_text, number_item, text_item, is_record, rows_of, global_at, local_at}
use Rattle.cse_code_typing.specs.Calls.{calls_well}
use Rattle.cse_code_typing.specs.Order.{is_run}
use Rattle.cse_logic_tree.specs.declared.tree.Variable.{Variable}
use Rattle.cse_logic_tree.specs.declared.tree.Variable.TheVariants as v
use Rattle.cse_logic_tree.specs.declared.tree.Found.{Found}
use Rattle.cse_logic_tree.specs.declared.tree.Found.TheVariants as h
use Rattle.cse_logic_tree.specs.declared.tree.Field.{Field}
use Rattle.cse_logic_tree.specs.declared.tree.Present.{Present}
use Rattle.cse_logic_tree.specs.declared.tree.Present.TheVariants as p
use Rattle.cse_logic_tree.specs.declared.tree.Pick.{Pick}
use Rattle.cse_logic_tree.specs.Typed.{Number, Words, Numbers, Operations, Constant, Special', Variable', Item, ItemAt, Cell, Call, Group, Int, IsSpecial, Deck, TotOcc, MaxOcc, CurOcc, InSet, Minus, Not, Compare, CompareTexts, Chain}
use Rattle.cse_logic_tree.specs.Typed.{Quoted, TextGlobal, TextItem, TextItemAt, TextGroup, no_number, number_and, no_operation, operation_and}
use Rattle.cse_logic_tree.specs.Typed.{Which, Here, At, Argument, OfNumber, OfWords, Limit, Fixed, Counted, Counting, Statement, Statements, Arms}
use Rattle.cse_logic_tree.specs.Typed.{Empty, Set, SetText, SetItem, SetTextItem, SetCell, CallOf, If, For, Do, Jump', Impute, PutDeck, ErrMsg, no_statement, statement_and, no_arm, else_of, arm}
use Rattle.cse_compile.specs.Setting.{Setting, result_local}
use Rattle.cse_compile.specs.Expressions.{count}

-- a place of a routine: what stands around its instructions, its number, what its code depends on, and the records of the `for`s around
pub record Spot : Type 0 where
  pub scene : Scene
  pub number : ℕ
  pub setting : Setting
  pub loops : List ℕ

-- the routine is none of the whole run
abbrev pub HasCase : Spot → Type 0
HasCase s = is_run s.scene.routine.ambient ≡ false

-- ---- variables

abbrev pub variable_kind : Spot → Variable → Option Kind
variable_kind s (v.Global g) = global_at s.scene.lists g
variable_kind s (v.Parameter k) = local_at s.scene.routine k
variable_kind s v.Result = local_at s.scene.routine (result_local s.setting)

abbrev pub IsNumberVariable : Spot → Variable → Type 0
IsNumberVariable s x = variable_kind s x ≡ Some kind.Number

-- ---- items

abbrev pub IsRecord : Spot → ℕ → Type 0
IsRecord s of = HasCase s × (is_record s.scene.shape of ≡ true)

-- the occurrence of the record is that of a `for` around, or the routine's first local, or the first
abbrev pub IsFound : Spot → ℕ → Found → Type 0
IsFound s of h.Loop = list_any (λ o. o == of) s.loops ≡ true
IsFound s of h.Event = local_at s.scene.routine 0 ≡ Some (kind.Occurrence of)
IsFound s of h.First = Unit {0}

abbrev pub IsEntry : Option ItemShape → ℕ → Type 0
IsEntry entry owner = (x : ItemShape) × (entry ≡ Some x) × (x.owner ≡ owner)

abbrev pub IsNumberField : Spot → Field → Type 0
IsNumberField s f = IsRecord s f.owner × IsEntry (number_item s.scene.shape f.item) f.owner

abbrev pub IsTextField : Spot → Field → Type 0
IsTextField s f = IsRecord s f.owner × IsEntry (text_item s.scene.shape f.item) f.owner

abbrev pub IsNumberPresent : Spot → Present → Type 0
IsNumberPresent s (p.Id item) = HasCase s × ((x : ItemShape) × (id_number s.scene.shape item ≡ Some x))
IsNumberPresent s (p.Here f found) = IsNumberField s f × IsFound s f.owner found

abbrev pub IsTextPresent : Spot → Present → Type 0
IsTextPresent s (p.Id item) = HasCase s × ((x : ItemShape) × (id_text s.scene.shape item ≡ Some x))
IsTextPresent s (p.Here f found) = IsTextField s f × IsFound s f.owner found

-- ---- arrays, hot decks, routines

-- an array with so many dimensions, one at least
abbrev pub IsArray : Spot → ℕ → ℕ → Type 0
IsArray s array n =
    (x : ArrayLists) × (slice_get s.scene.lists.arrays array ≡ Some x) × (slice_get s.setting.arrays array ≡ Some x.dimensions) × (length x.dimensions ≡ n) × (1 ≤ n)

abbrev pub row_count : Bool → ℕ → ℕ
row_count true n = n + 1
row_count false n = n

-- each dimension has the rows of the pick's set, and one more where there is a leftover
abbrev pub ArePicks : Spot → List ℕ → List Pick → Type 0
ArePicks s [] [] = Unit {0}
ArePicks s (d ∷ ds) (x ∷ xs) =
    IsNumberPresent s x.item × ((n : ℕ) × (rows_of s.scene.shape x.set ≡ Some n) × (d ≡ row_count x.has_leftover n)) × ArePicks s ds xs
ArePicks s _ _ = ⊥

abbrev pub IsDeck : Spot → ℕ → List Pick → Type 0
IsDeck s array picks = (x : ArrayLists) × (slice_get s.scene.lists.arrays array ≡ Some x) × ArePicks s x.dimensions picks

abbrev pub numbers_kinds : Numbers → List Kind
numbers_kinds no_number = []
numbers_kinds (number_and x xs) = kind.Number ∷ numbers_kinds xs

-- a function that takes numbers, so many, and gives one; it may be called in this routine
abbrev pub IsFunction : Spot → ℕ → Numbers → Type 0
IsFunction s function xs =
    (x : RoutineLists)
    × (slice_get s.scene.lists.routines function ≡ Some x)
    × (x.gives ≡ gifts.Number)
    × (map local_kind (take x.parameters x.locals) ≡ numbers_kinds xs)
    × (calls_well s.scene.lists.routines s.number (is_run s.scene.routine.ambient) ops.Call function ≡ true)

-- ---- expressions

abbrev mutual
  pub NumberFits : Spot → Number → Type 0
  NumberFits s (Constant digits value) = Unit {0}
  NumberFits s (Special' token value) = Unit {0}
  NumberFits s (Variable' name variable) = IsNumberVariable s variable
  NumberFits s (Item name item) = IsNumberPresent s item
  NumberFits s (ItemAt name field place) = IsNumberField s field × NumberFits s place
  NumberFits s (Cell name array xs) = IsArray s array (count xs) × NumbersFit s xs
  NumberFits s (Call name function xs) = IsFunction s function xs × NumbersFit s xs
  NumberFits s (Group x) = NumberFits s x
  NumberFits s (Int x) = NumberFits s x
  NumberFits s (IsSpecial x) = NumberFits s x
  NumberFits s (Deck name array picks) = IsDeck s array picks
  NumberFits s (TotOcc name of) = IsRecord s of
  NumberFits s (MaxOcc name of) = Unit {0}
  NumberFits s (CurOcc name of found) = IsRecord s of × IsFound s of found
  NumberFits s (InSet name item set_name set) = IsNumberPresent s item × ((n : ℕ) × (rows_of s.scene.shape set ≡ Some n))
  NumberFits s (Minus x) = NumberFits s x
  NumberFits s (Not x) = NumberFits s x
  NumberFits s (Compare relation x y) = NumberFits s x × NumberFits s y
  NumberFits s (CompareTexts relation x y) = WordsFit s x × WordsFit s y
  NumberFits s (Chain x xs) = NumberFits s x × OperationsFit s xs

  pub WordsFit : Spot → Words → Type 0
  WordsFit s (Quoted text) = Unit {0}
  WordsFit s (TextGlobal name variable) = global_at s.scene.lists variable ≡ Some kind.Text
  WordsFit s (TextItem name item) = IsTextPresent s item
  WordsFit s (TextItemAt name field place) = IsTextField s field × NumberFits s place
  WordsFit s (TextGroup x) = WordsFit s x

  pub NumbersFit : Spot → Numbers → Type 0
  NumbersFit s no_number = Unit {0}
  NumbersFit s (number_and x xs) = NumberFits s x × NumbersFit s xs

  pub OperationsFit : Spot → Operations → Type 0
  OperationsFit s no_operation = Unit {0}
  OperationsFit s (operation_and operator x xs) = NumberFits s x × OperationsFit s xs

-- ---- statements

abbrev pub WhichFits : Spot → ℕ → Which → Type 0
WhichFits s of (Here found) = IsFound s of found
WhichFits s of (At x) = NumberFits s x

abbrev pub ArgumentFits : Spot → Argument → Type 0
ArgumentFits s (OfNumber x) = NumberFits s x
ArgumentFits s (OfWords x) = WordsFit s x

abbrev pub ArgumentsFit : Spot → List Argument → Type 0
ArgumentsFit s [] = Unit {0}
ArgumentsFit s (x ∷ xs) = ArgumentFits s x × ArgumentsFit s xs

abbrev pub kind_of : Argument → Kind
kind_of (OfNumber x) = kind.Number
kind_of (OfWords x) = kind.Text

-- a message that takes values of these kinds
abbrev pub IsMessage : Spot → ℕ → List Argument → Type 0
IsMessage s index xs =
    (x : MessageLists) × (slice_get s.scene.lists.messages index ≡ Some x) × (map argument_kind (message_kinds x.text) ≡ map kind_of xs)

abbrev pub LimitFits : Spot → Limit → Type 0
LimitFits s (Fixed x) = Unit {0}
LimitFits s (Counted counts.MaxOcc name of) = Unit {0}
LimitFits s (Counted counts.TotOcc name of) = IsRecord s of

abbrev pub CountingFits : Spot → Counting → Type 0
CountingFits s x = IsNumberVariable s x.variable × LimitFits s x.start × LimitFits s x.stop

-- inside a `for` over the record
abbrev pub over : Spot → ℕ → Spot
over s of = record s { loops = of ∷ s.loops }

-- room for one loop more
abbrev pub Within : ℕ → (ℕ → Type 0) → Type 0
Within zero P = ⊥
Within (suc room) P = P room

-- a loop is around, or the jump leaves the routine
abbrev pub JumpFits : Bool → Jump → Type 0
JumpFits inside j.Exit = Unit {0}
JumpFits inside _ = inside ≡ true

-- what the routine gives at its end: a procedure nothing, a function the local of its result
abbrev pub IsExit : Spot → Option ℕ → Type 0
IsExit s None = s.scene.routine.gives ≡ gifts.Nothing
IsExit s (Some result) = (s.scene.routine.gives ≡ gifts.Number) × (local_at s.scene.routine result ≡ Some kind.Number)

-- the code was made for this routine and these records
pub record IsSettled (s : Spot) : Type 0 where
  pub exit : IsExit s s.setting.result_at
  pub records : s.setting.records ≡ s.scene.lists.records

-- with room for so many loops, one within the other; `inside` tells whether a loop is around
abbrev mutual
  pub StatementFits : Spot → ℕ → Bool → Statement → Type 0
  StatementFits s room inside Empty = Unit {0}
  StatementFits s room inside (Set name variable x) = IsNumberVariable s variable × NumberFits s x
  StatementFits s room inside (SetText name variable x) = (global_at s.scene.lists variable ≡ Some kind.Text) × WordsFit s x
  StatementFits s room inside (SetItem name field which x) = IsNumberField s field × WhichFits s field.owner which × NumberFits s x
  StatementFits s room inside (SetTextItem name field which x) = IsTextField s field × WhichFits s field.owner which × WordsFit s x
  StatementFits s room inside (SetCell name array xs x) = IsArray s array (count xs) × NumbersFit s xs × NumberFits s x
  StatementFits s room inside (CallOf name function xs) = IsFunction s function xs × NumbersFit s xs
  StatementFits s room inside (If condition body others) = NumberFits s condition × BlockFits s room inside body × ArmsFit s room inside others
  StatementFits s room inside (For name variable record_name of body) = IsRecord s of × IsNumberVariable s variable × Within room (λ n. BlockFits (over s of) n true body)
  StatementFits s room inside (Do counting body) = CountingFits s counting × Within room (λ n. BlockFits s n true body)
  StatementFits s room inside (Jump' token x) = JumpFits inside x
  StatementFits s room inside (Impute name field which x) = IsNumberField s field × WhichFits s field.owner which × NumberFits s x
  StatementFits s room inside (PutDeck name array picks x) = IsDeck s array picks × NumberFits s x
  StatementFits s room inside (ErrMsg message index xs summary) = IsMessage s index xs × ArgumentsFit s xs

  pub BlockFits : Spot → ℕ → Bool → Statements → Type 0
  BlockFits s room inside no_statement = Unit {0}
  BlockFits s room inside (statement_and x xs) = StatementFits s room inside x × BlockFits s room inside xs

  pub ArmsFit : Spot → ℕ → Bool → Arms → Type 0
  ArmsFit s room inside no_arm = Unit {0}
  ArmsFit s room inside (else_of body) = BlockFits s room inside body
  ArmsFit s room inside (arm condition body others) = NumberFits s condition × BlockFits s room inside body × ArmsFit s room inside others
