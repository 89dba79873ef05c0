-- How many steps trees take at most, by their structure: one for each instruction, with those of each call, and in a loop so often as its
-- limit says.
use Rattle.std.specs.Prelude.{ℕ, ◌+◌, ◌*◌, List, [], ◌∷◌, slice_index}
use Rattle.cse_value.specs.Occurrences.{most_occurrences}
use Rattle.cse_logic_tree.specs.Typed.{Number, Words, Numbers, Operations, Constant, Special', Variable', Item, ItemAt, Cell, Call, Group, Int, IsSpecial, Deck, TotOcc, MaxOcc, CurOcc, InSet, Minus, Not, Compare, CompareTexts, Chain}
use Rattle.cse_logic_tree.specs.Typed.{Quoted, TextGlobal, TextItem, TextItemAt, TextGroup, no_number, number_and, no_operation, operation_and}
use Rattle.cse_logic_tree.specs.Typed.{Which, Here, At, Argument, OfNumber, OfWords, Statement, Statements, Arms}
use Rattle.cse_logic_tree.specs.Typed.{Empty, Set, SetText, SetItem, SetTextItem, SetCell, CallOf, If, For, Do, Jump', Impute, PutDeck, ErrMsg, no_statement, statement_and, no_arm, else_of, arm}
use Rattle.cse_compile.specs.Wide.{jump_size}
use Rattle.cse_compile.specs.Setting.{Setting}
use Rattle.cse_compile.specs.Expressions.{number_size}
use Rattle.cse_compile.specs.Statements.{statement_size, arms_size, head_size, turn_limit, exit_size}
use Rattle.cse_compile.specs.Routines.{entry_size_by}

-- ---- the steps of the routines that are called

unfoldable mutual
  pub number_calls : List ℕ → Number → ℕ
  number_calls bounds (Constant digits value) = 0
  number_calls bounds (Special' token value) = 0
  number_calls bounds (Variable' name variable) = 0
  number_calls bounds (Item name item) = 0
  number_calls bounds (ItemAt name field x) = number_calls bounds x
  number_calls bounds (Cell name array xs) = numbers_calls bounds xs
  number_calls bounds (Call name function xs) = numbers_calls bounds xs + slice_index bounds function
  number_calls bounds (Group x) = number_calls bounds x
  number_calls bounds (Int x) = number_calls bounds x
  number_calls bounds (IsSpecial x) = number_calls bounds x
  number_calls bounds (Deck name array picks) = 0
  number_calls bounds (TotOcc name of) = 0
  number_calls bounds (MaxOcc name of) = 0
  number_calls bounds (CurOcc name of found) = 0
  number_calls bounds (InSet name item set_name set) = 0
  number_calls bounds (Minus x) = number_calls bounds x
  number_calls bounds (Not x) = number_calls bounds x
  number_calls bounds (Compare relation x y) = number_calls bounds x + number_calls bounds y
  number_calls bounds (CompareTexts relation x y) = words_calls bounds x + words_calls bounds y
  number_calls bounds (Chain x xs) = number_calls bounds x + operations_calls bounds xs

  pub words_calls : List ℕ → Words → ℕ
  words_calls bounds (Quoted text) = 0
  words_calls bounds (TextGlobal name variable) = 0
  words_calls bounds (TextItem name item) = 0
  words_calls bounds (TextItemAt name field x) = number_calls bounds x
  words_calls bounds (TextGroup x) = words_calls bounds x

  pub numbers_calls : List ℕ → Numbers → ℕ
  numbers_calls bounds no_number = 0
  numbers_calls bounds (number_and x xs) = number_calls bounds x + numbers_calls bounds xs

  pub operations_calls : List ℕ → Operations → ℕ
  operations_calls bounds no_operation = 0
  operations_calls bounds (operation_and operator x xs) = number_calls bounds x + operations_calls bounds xs

abbrev pub which_calls : List ℕ → Which → ℕ
which_calls bounds (Here found) = 0
which_calls bounds (At x) = number_calls bounds x

abbrev pub argument_calls : List ℕ → Argument → ℕ
argument_calls bounds (OfNumber x) = number_calls bounds x
argument_calls bounds (OfWords x) = words_calls bounds x

abbrev pub arguments_calls : List ℕ → List Argument → ℕ
arguments_calls bounds [] = 0
arguments_calls bounds (x ∷ xs) = argument_calls bounds x + arguments_calls bounds xs

-- ---- statements

-- so many turns at most: a loop's opener once, its body and its end in each turn
abbrev pub loop_steps : ℕ → ℕ → ℕ
loop_steps limit body = 1 + limit * (body + 1)

unfoldable mutual
  pub statement_steps : List ℕ → Setting → Statement → ℕ
  statement_steps bounds s Empty = 0
  statement_steps bounds s (Set name variable x) = statement_size s (Set name variable x) + number_calls bounds x
  statement_steps bounds s (SetText name variable x) = statement_size s (SetText name variable x) + words_calls bounds x
  statement_steps bounds s (SetItem name field which x) = statement_size s (SetItem name field which x) + (which_calls bounds which + number_calls bounds x)
  statement_steps bounds s (SetTextItem name field which x) = statement_size s (SetTextItem name field which x) + (which_calls bounds which + words_calls bounds x)
  statement_steps bounds s (SetCell name array xs x) = statement_size s (SetCell name array xs x) + (numbers_calls bounds xs + number_calls bounds x)
  statement_steps bounds s (CallOf name function xs) = statement_size s (CallOf name function xs) + (numbers_calls bounds xs + slice_index bounds function)
  statement_steps bounds s (If condition body others) = number_size condition + number_calls bounds condition + (1 + (block_steps bounds s body + (jump_size (arms_size s others) + arms_steps bounds s others)))
  statement_steps bounds s (For name variable record_name of body) = loop_steps (most_occurrences s.records of) (3 + block_steps bounds s body)
  statement_steps bounds s (Do counting body) = head_size s.records counting + loop_steps (turn_limit s.records counting) (block_steps bounds s body + 4)
  statement_steps bounds s (Jump' token x) = statement_size s (Jump' token x)
  statement_steps bounds s (Impute name field which x) = statement_size s (Impute name field which x) + (which_calls bounds which + number_calls bounds x)
  statement_steps bounds s (PutDeck name array picks x) = statement_size s (PutDeck name array picks x) + number_calls bounds x
  statement_steps bounds s (ErrMsg message index xs summary) = statement_size s (ErrMsg message index xs summary) + arguments_calls bounds xs

  pub block_steps : List ℕ → Setting → Statements → ℕ
  block_steps bounds s no_statement = 0
  block_steps bounds s (statement_and x xs) = statement_steps bounds s x + block_steps bounds s xs

  pub arms_steps : List ℕ → Setting → Arms → ℕ
  arms_steps bounds s no_arm = 0
  arms_steps bounds s (else_of body) = block_steps bounds s body
  arms_steps bounds s (arm condition body others) = number_size condition + number_calls bounds condition + (1 + (block_steps bounds s body + (jump_size (arms_size s others) + arms_steps bounds s others)))

-- a whole routine: its entry, its body and its exit
unfoldable pub routine_steps : List ℕ → Setting → Statements → ℕ
routine_steps bounds s body = entry_size_by s.result_at + (block_steps bounds s body + exit_size s)
