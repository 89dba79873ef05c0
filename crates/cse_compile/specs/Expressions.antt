-- The code of expressions, from a place of their routine on. It leaves the value on top of the stack, and goes on behind itself.
use Rattle.std.specs.Prelude.{ℕ, ◌+◌, pos, Bool, false, ◌||◌, not, if◌then◌else◌, List, [], ◌∷◌, ◌++◌}
use Rattle.cse_value.specs.Occurrences.{most_occurrences}
use Rattle.cse_image_parts.specs.declared.instruction.Op.{Op}
use Rattle.cse_image_parts.specs.declared.instruction.Op.TheVariants as ops
use Rattle.cse_syntax_tree.specs.Leaf.{text_of}
use Rattle.cse_syntax_tree.specs.declared.tree.Operator.{Operator}
use Rattle.cse_syntax_tree.specs.declared.tree.Operator.TheVariants as operators
use Rattle.cse_syntax_tree.specs.declared.tree.Relation.{Relation}
use Rattle.cse_syntax_tree.specs.declared.tree.Relation.TheVariants as relations
use Rattle.cse_syntax_tree.specs.declared.tree.Special.{Special}
use Rattle.cse_syntax_tree.specs.declared.tree.Special.TheVariants as specials
use Rattle.cse_logic_tree.specs.declared.tree.Variable.{Variable}
use Rattle.cse_logic_tree.specs.declared.tree.Variable.TheVariants as v
use Rattle.cse_logic_tree.specs.declared.tree.Found.{Found}
use Rattle.cse_logic_tree.specs.declared.tree.Found.TheVariants as h
use Rattle.cse_logic_tree.specs.declared.tree.Present.{Present}
use Rattle.cse_logic_tree.specs.declared.tree.Present.TheVariants as p
use Rattle.cse_logic_tree.specs.declared.tree.Pick.{Pick}
use Rattle.cse_logic_tree.specs.Typed.{Number, Words, Numbers, Operations, Constant, Special', Variable', Item, ItemAt, Cell, Call, Group, Int, IsSpecial, Deck, TotOcc, MaxOcc, CurOcc, InSet, Minus, Not, Compare, CompareTexts, Chain}
use Rattle.cse_logic_tree.specs.Typed.{Quoted, TextGlobal, TextItem, TextItemAt, TextGroup, no_number, number_and, no_operation, operation_and}
use Rattle.cse_compile.specs.Wide as w
use Rattle.cse_compile.specs.Wide.{Wide, bare, with_a, with_b, with_c, jump, undefined, occurrence, pops}
use Rattle.cse_compile.specs.Setting.{Setting, size_at, result_local}

-- ---- words of logic and instructions

abbrev pub special_number : Special → ℕ
special_number specials.NotAppl = 0
special_number specials.Missing = 1
special_number specials.Default = 2

abbrev pub relation_number : Relation → ℕ
relation_number relations.Equal = 0
relation_number relations.Differs = 1
relation_number relations.Less = 2
relation_number relations.AtMost = 3
relation_number relations.More = 4
relation_number relations.AtLeast = 5

abbrev pub operation_of : Operator → Op
operation_of operators.Or = ops.Or
operation_of operators.And = ops.And
operation_of operators.Add = ops.Add
operation_of operators.Subtract = ops.Subtract
operation_of operators.Multiply = ops.Multiply
operation_of operators.Divide = ops.Quotient
operation_of operators.Remainder = ops.Remainder

-- ---- variables

abbrev pub load : Setting → Variable → Wide
load s (v.Global g) = with_c ops.LoadGlobal g
load s (v.Parameter k) = with_c ops.LoadLocal k
load s v.Result = with_c ops.LoadLocal (result_local s)

abbrev pub store : Setting → Variable → Wide
store s (v.Global g) = with_c ops.StoreGlobal g
store s (v.Parameter k) = with_c ops.StoreLocal k
store s v.Result = with_c ops.StoreLocal (result_local s)

-- ---- items

-- The number on top is an occurrence of the record, which this instruction takes; where it is none, this value stands in its place.
abbrev pub guarded : Wide → Wide → ℕ → ℕ → List Wide
guarded taken none of p = occurrence of (p + 3) ∷ taken ∷ jump (p + 4) ∷ none ∷ []

-- an occurrence that an event or a loop has is there; the first may not be there
abbrev pub here_size : Found → ℕ
here_size h.Loop = 2
here_size h.Event = 2
here_size h.First = 5

abbrev pub here_code : Wide → Wide → ℕ → ℕ → Found → List Wide
here_code taken none of p h.Loop = with_a ops.CurrentOccurrence of ∷ taken ∷ []
here_code taken none of p h.Event = with_c ops.LoadLocal 0 ∷ taken ∷ []
here_code taken none of p h.First = w.Constant (pos 1) ∷ guarded taken none of (p + 1)

abbrev pub present_size : Present → ℕ
present_size (p.Id item) = 1
present_size (p.Here field found) = here_size found

abbrev pub number_of_item : ℕ → Present → List Wide
number_of_item q (p.Id item) = with_c ops.IdNumber item ∷ []
number_of_item q (p.Here field found) = here_code (with_c ops.ItemNumber field.item) undefined field.owner q found

-- an item that isn't there has the empty text
abbrev pub text_of_item : ℕ → Present → List Wide
text_of_item q (p.Id item) = with_c ops.IdText item ∷ []
text_of_item q (p.Here field found) = here_code (with_c ops.ItemText field.item) (w.Chars []) field.owner q found

-- ---- hot decks: an index for each pick; a value without a row has the leftover row, or else picks no cell

abbrev pub can_fail : List Pick → Bool
can_fail [] = false
can_fail (x ∷ xs) = not x.has_leftover || can_fail xs

-- how many indexes lie on the stack where the last pick fails that can fail
abbrev pub deepest : List Pick → ℕ
deepest [] = 0
deepest (x ∷ xs) = if can_fail xs then deepest xs + 1 else 0

abbrev pub row : Pick → ℕ → Wide
row x fail = if x.has_leftover then w.Plain ops.Row 1 x.set 0 else w.Plain ops.Row 0 x.set fail

abbrev pub picks_size : List Pick → ℕ
picks_size [] = 0
picks_size (x ∷ xs) = present_size x.item + 1 + picks_size xs

-- Where the last pick fails, this place drops the indexes, one after the other; an earlier pick fails to a later place.
abbrev pub picks_code : ℕ → ℕ → List Pick → List Wide
picks_code drops q [] = []
picks_code drops q (x ∷ xs) =
    number_of_item q x.item
    ++ (row x (drops + deepest (x ∷ xs))
    ∷ picks_code drops (q + present_size x.item + 1) xs)

abbrev pub deck_size : List Pick → ℕ
deck_size picks = if can_fail picks then deepest picks + 3 else 1

-- from behind the indexes on
abbrev pub deck_code : ℕ → ℕ → List Pick → List Wide
deck_code array q picks =
    if can_fail picks then with_c ops.LoadCell array ∷ jump (q + deepest picks + 3) ∷ (pops (deepest picks) ++ undefined ∷ [])
    else with_c ops.LoadCell array ∷ []

-- ---- how many instructions

abbrev pub count : Numbers → ℕ
count no_number = 0
count (number_and x xs) = count xs + 1

-- all but the first
abbrev pub behind : Numbers → ℕ
behind no_number = 0
behind (number_and x xs) = count xs

unfoldable mutual
  pub number_size : Number → ℕ
  number_size (Constant digits value) = 1
  number_size (Special' token value) = 1
  number_size (Variable' name variable) = 1
  number_size (Item name item) = present_size item
  number_size (ItemAt name field x) = number_size x + 4
  number_size (Cell name array xs) = indexes_size xs + (behind xs + 3)
  number_size (Call name function xs) = numbers_size xs + 1
  number_size (Group x) = number_size x
  number_size (Int x) = number_size x
  number_size (IsSpecial x) = number_size x + 1
  number_size (Deck name array picks) = picks_size picks + deck_size picks
  number_size (TotOcc name of) = 1
  number_size (MaxOcc name of) = 1
  number_size (CurOcc name of found) = here_size found
  number_size (InSet name item set_name set) = present_size item + 1
  number_size (Minus x) = number_size x + 1
  number_size (Not x) = number_size x + 1
  number_size (Compare relation x y) = number_size x + (number_size y + 1)
  number_size (CompareTexts relation x y) = words_size x + (words_size y + 1)
  number_size (Chain x xs) = number_size x + operations_size xs

  pub words_size : Words → ℕ
  words_size (Quoted text) = 1
  words_size (TextGlobal name variable) = 1
  words_size (TextItem name item) = present_size item
  words_size (TextItemAt name field x) = number_size x + 4
  words_size (TextGroup x) = words_size x

  -- one after the other
  pub numbers_size : Numbers → ℕ
  numbers_size no_number = 0
  numbers_size (number_and x xs) = number_size x + numbers_size xs

  -- as indexes
  pub indexes_size : Numbers → ℕ
  indexes_size no_number = 0
  indexes_size (number_and x xs) = number_size x + (indexes_size xs + 1)

  pub operations_size : Operations → ℕ
  operations_size no_operation = 0
  operations_size (operation_and operator x xs) = number_size x + (operations_size xs + 1)

-- ---- the code

unfoldable mutual
  pub number_code : Setting → ℕ → Number → List Wide
  number_code s q (Constant digits value) = w.Constant value ∷ []
  number_code s q (Special' token value) = with_a ops.Special (special_number value) ∷ []
  number_code s q (Variable' name variable) = load s variable ∷ []
  number_code s q (Item name item) = number_of_item q item
  number_code s q (ItemAt name field x) = number_code s q x ++ guarded (with_c ops.ItemNumber field.item) undefined field.owner (q + number_size x)
  number_code s q (Cell name array xs) =
      indexes_code s array (q + indexes_size xs + 2) 0 q xs
      ++ (with_c ops.LoadCell array ∷ jump (q + indexes_size xs + (behind xs + 3)) ∷ (pops (behind xs) ++ undefined ∷ []))
  number_code s q (Call name function xs) = numbers_code s q xs ++ with_c ops.Call function ∷ []
  number_code s q (Group x) = number_code s q x
  number_code s q (Int x) = number_code s q x
  number_code s q (IsSpecial x) = number_code s q x ++ bare ops.IsSpecial ∷ []
  number_code s q (Deck name array picks) = picks_code (q + picks_size picks + 2) q picks ++ deck_code array (q + picks_size picks) picks
  number_code s q (TotOcc name of) = with_a ops.TotalOccurrences of ∷ []
  number_code s q (MaxOcc name of) = w.Constant (pos (most_occurrences s.records of)) ∷ []
  number_code s q (CurOcc name of found) = here_code (with_a ops.OccurrenceNumber of) undefined of q found
  number_code s q (InSet name item set_name set) = number_of_item q item ++ with_b ops.InSet set ∷ []
  number_code s q (Minus x) = number_code s q x ++ bare ops.Negate ∷ []
  number_code s q (Not x) = number_code s q x ++ bare ops.Not ∷ []
  number_code s q (Compare relation x y) =
      number_code s q x ++ (number_code s (q + number_size x) y ++ with_a ops.Compare (relation_number relation) ∷ [])
  number_code s q (CompareTexts relation x y) =
      words_code s q x ++ (words_code s (q + words_size x) y ++ with_a ops.CompareText (relation_number relation) ∷ [])
  number_code s q (Chain x xs) = number_code s q x ++ operations_code s (q + number_size x) xs

  pub words_code : Setting → ℕ → Words → List Wide
  words_code s q (Quoted text) = w.Chars (text_of text.text) ∷ []
  words_code s q (TextGlobal name variable) = with_c ops.LoadGlobal variable ∷ []
  words_code s q (TextItem name item) = text_of_item q item
  words_code s q (TextItemAt name field x) = number_code s q x ++ guarded (with_c ops.ItemText field.item) (w.Chars []) field.owner (q + number_size x)
  words_code s q (TextGroup x) = words_code s q x

  pub numbers_code : Setting → ℕ → Numbers → List Wide
  numbers_code s q no_number = []
  numbers_code s q (number_and x xs) = number_code s q x ++ numbers_code s (q + number_size x) xs

  -- Indexes of an array, from a direction on. Where the last one fails, this place drops the indexes before it, one after the other; an
  -- earlier one fails to a later place.
  pub indexes_code : Setting → ℕ → ℕ → ℕ → ℕ → Numbers → List Wide
  indexes_code s array drops j q no_number = []
  indexes_code s array drops j q (number_and x xs) =
      number_code s q x
      ++ (w.Plain ops.Index 0 (size_at s array j) (drops + count xs)
      ∷ indexes_code s array drops (j + 1) (q + number_size x + 1) xs)

  pub operations_code : Setting → ℕ → Operations → List Wide
  operations_code s q no_operation = []
  operations_code s q (operation_and operator x xs) =
      number_code s q x ++ (bare (operation_of operator) ∷ operations_code s (q + number_size x + 1) xs)
