-- The stacks that stand before the instructions of expressions.
use Rattle.std.proofs.Common.{ℕ, ◌+◌, List, [], ◌∷◌, ◌++◌}
use Rattle.std.specs.Prelude.{unwrap_or, if◌then◌else◌}
use Rattle.cse_code_typing.specs.declared.kind.Kind.{Kind}
use Rattle.cse_code_typing.specs.declared.kind.Kind.TheVariants as k
use Rattle.cse_code_typing.specs.Signature.{rows_of}
use Rattle.cse_logic_tree.specs.declared.tree.Found.{Found}
use Rattle.cse_logic_tree.specs.declared.tree.Found.TheVariants as h
use Rattle.cse_logic_tree.specs.declared.tree.Present.{Present}
use Rattle.cse_logic_tree.specs.declared.tree.Present.TheVariants as p
use Rattle.cse_logic_tree.specs.declared.tree.Pick.{Pick}
use Rattle.cse_logic_tree.specs.Typed.{Number, Words, Numbers, Operations, Constant, Special', Variable', Item, ItemAt, Cell, Call, Group, Int, IsSpecial, Deck, TotOcc, MaxOcc, CurOcc, InSet, Minus, Not, Compare, CompareTexts, Chain}
use Rattle.cse_logic_tree.specs.Typed.{Quoted, TextGlobal, TextItem, TextItemAt, TextGroup, no_number, number_and, no_operation, operation_and}
use Rattle.cse_compile.specs.Setting.{size_at}
use Rattle.cse_compile.specs.Expressions.{can_fail}
use Rattle.cse_meaning.specs.Fit.{Spot, row_count}
use Rattle.cse_meaning.proofs.WideRule.{Stack}

-- ---- items

abbrev pub guarded_stacks : Stack → Kind → ℕ → List Stack
guarded_stacks st kind of = (k.Number ∷ st) ∷ (k.Occurrence of ∷ st) ∷ (kind ∷ st) ∷ st ∷ []

abbrev pub here_stacks : Stack → Kind → ℕ → Found → List Stack
here_stacks st kind of h.Loop = st ∷ (k.Occurrence of ∷ st) ∷ []
here_stacks st kind of h.Event = st ∷ (k.Occurrence of ∷ st) ∷ []
here_stacks st kind of h.First = st ∷ guarded_stacks st kind of

abbrev pub present_stacks : Stack → Kind → Present → List Stack
present_stacks st kind (p.Id item) = st ∷ []
present_stacks st kind (p.Here field found) = here_stacks st kind field.owner found

-- ---- hot decks

abbrev pub pick_index : Spot → Pick → Kind
pick_index s x = k.Index (row_count x.has_leftover (unwrap_or (rows_of s.scene.shape x.set) 0))

abbrev pub picks_stacks : Spot → Stack → List Pick → List Stack
picks_stacks s st [] = []
picks_stacks s st (x ∷ xs) = present_stacks st k.Number x.item ++ ((k.Number ∷ st) ∷ picks_stacks s (pick_index s x ∷ st) xs)

abbrev pub picks_after : Spot → Stack → List Pick → Stack
picks_after s st [] = st
picks_after s st (x ∷ xs) = picks_after s (pick_index s x ∷ st) xs

-- before each index is dropped
abbrev pub picks_left : Spot → Stack → List Pick → List Stack
picks_left s st [] = []
picks_left s st (x ∷ xs) = if can_fail xs then picks_left s (pick_index s x ∷ st) xs ++ (pick_index s x ∷ st) ∷ [] else []

abbrev pub deck_stacks : Spot → Stack → List Pick → List Stack
deck_stacks s st picks =
    if can_fail picks then picks_after s st picks ∷ (k.Number ∷ st) ∷ (picks_left s st picks ++ st ∷ [])
    else picks_after s st picks ∷ []

-- ---- indexes of arrays

abbrev pub cell_index : Spot → ℕ → ℕ → Kind
cell_index s array j = k.Index (size_at s.setting array j)

abbrev pub indexes_after : Spot → ℕ → ℕ → Stack → Numbers → Stack
indexes_after s array j st no_number = st
indexes_after s array j st (number_and x xs) = indexes_after s array (j + 1) (cell_index s array j ∷ st) xs

-- with the index of direction j and these behind it: before each index is dropped
abbrev pub left_behind : Spot → ℕ → ℕ → Stack → Numbers → List Stack
left_behind s array j st no_number = []
left_behind s array j st (number_and x xs) = left_behind s array (j + 1) (cell_index s array j ∷ st) xs ++ (cell_index s array j ∷ st) ∷ []

abbrev pub indexes_left : Spot → ℕ → ℕ → Stack → Numbers → List Stack
indexes_left s array j st no_number = []
indexes_left s array j st (number_and x xs) = left_behind s array j st xs

abbrev pub numbers_after : Stack → Numbers → Stack
numbers_after st no_number = st
numbers_after st (number_and x xs) = numbers_after (k.Number ∷ st) xs

-- ---- expressions

unfoldable mutual
  pub number_stacks : Spot → Stack → Number → List Stack
  number_stacks s st (Constant digits value) = st ∷ []
  number_stacks s st (Special' token value) = st ∷ []
  number_stacks s st (Variable' name variable) = st ∷ []
  number_stacks s st (Item name item) = present_stacks st k.Number item
  number_stacks s st (ItemAt name field x) = number_stacks s st x ++ guarded_stacks st k.Number field.owner
  number_stacks s st (Cell name array xs) = indexes_stacks s array 0 st xs ++ (indexes_after s array 0 st xs ∷ (k.Number ∷ st) ∷ (indexes_left s array 0 st xs ++ st ∷ []))
  number_stacks s st (Call name function xs) = numbers_stacks s st xs ++ numbers_after st xs ∷ []
  number_stacks s st (Group x) = number_stacks s st x
  number_stacks s st (Int x) = number_stacks s st x
  number_stacks s st (IsSpecial x) = number_stacks s st x ++ (k.Number ∷ st) ∷ []
  number_stacks s st (Deck name array picks) = picks_stacks s st picks ++ deck_stacks s st picks
  number_stacks s st (TotOcc name of) = st ∷ []
  number_stacks s st (MaxOcc name of) = st ∷ []
  number_stacks s st (CurOcc name of found) = here_stacks st k.Number of found
  number_stacks s st (InSet name item set_name set) = present_stacks st k.Number item ++ (k.Number ∷ st) ∷ []
  number_stacks s st (Minus x) = number_stacks s st x ++ (k.Number ∷ st) ∷ []
  number_stacks s st (Not x) = number_stacks s st x ++ (k.Number ∷ st) ∷ []
  number_stacks s st (Compare relation x y) = number_stacks s st x ++ (number_stacks s (k.Number ∷ st) y ++ (k.Number ∷ k.Number ∷ st) ∷ [])
  number_stacks s st (CompareTexts relation x y) = words_stacks s st x ++ (words_stacks s (k.Text ∷ st) y ++ (k.Text ∷ k.Text ∷ st) ∷ [])
  number_stacks s st (Chain x xs) = number_stacks s st x ++ operations_stacks s st xs

  pub words_stacks : Spot → Stack → Words → List Stack
  words_stacks s st (Quoted text) = st ∷ []
  words_stacks s st (TextGlobal name variable) = st ∷ []
  words_stacks s st (TextItem name item) = present_stacks st k.Text item
  words_stacks s st (TextItemAt name field x) = number_stacks s st x ++ guarded_stacks st k.Text field.owner
  words_stacks s st (TextGroup x) = words_stacks s st x

  pub numbers_stacks : Spot → Stack → Numbers → List Stack
  numbers_stacks s st no_number = []
  numbers_stacks s st (number_and x xs) = number_stacks s st x ++ numbers_stacks s (k.Number ∷ st) xs

  pub indexes_stacks : Spot → ℕ → ℕ → Stack → Numbers → List Stack
  indexes_stacks s array j st no_number = []
  indexes_stacks s array j st (number_and x xs) = number_stacks s st x ++ ((k.Number ∷ st) ∷ indexes_stacks s array (j + 1) (cell_index s array j ∷ st) xs)

  -- the first number lies there
  pub operations_stacks : Spot → Stack → Operations → List Stack
  operations_stacks s st no_operation = []
  operations_stacks s st (operation_and operator x xs) = number_stacks s (k.Number ∷ st) x ++ ((k.Number ∷ k.Number ∷ st) ∷ operations_stacks s st xs)
