-- The code is at most 16 times as long as its tokens. An expression leaves room for 11 more.
use Rattle.std.proofs.Common.{◌≤◌, ℕ, ◌+◌, ◌*◌, Bool, true, false, List, [], ◌∷◌, arith}
use Rattle.std.specs.Prelude.{if◌then◌else◌}
use Rattle.cse_value.specs.declared.shape.RecordShape.{RecordShape}
use Rattle.cse_logic_tree.specs.declared.tree.Found.TheVariants as h
use Rattle.cse_logic_tree.specs.Typed.{Number, Words, Numbers, Operations, Constant, Special', Variable', Item, ItemAt, Cell, Call, Group, Int, IsSpecial, Deck, TotOcc, MaxOcc, CurOcc, InSet, Minus, Not, Compare, CompareTexts, Chain}
use Rattle.cse_logic_tree.specs.Typed.{Quoted, TextGlobal, TextItem, TextItemAt, TextGroup, no_number, number_and, no_operation, operation_and}
use Rattle.cse_logic_tree.specs.Typed.{Which, Here, At, Argument, OfNumber, OfWords, Counting, Statement, Statements, Arms}
use Rattle.cse_logic_tree.specs.Typed.{Empty, Set, SetText, SetItem, SetTextItem, SetCell, CallOf, If, For, Do, Jump', Impute, PutDeck, ErrMsg, no_statement, statement_and, no_arm, else_of, arm}
use Rattle.cse_logic_tree.specs.Erase.{erase, erase_words, erase_all, erase_operations, erase_which, erase_argument, erase_arguments, erase_statement, erase_block, erase_arms}
use Rattle.cse_logic_tree.specs.Tokens.{expr_tokens, exprs_tokens, others_tokens, operations_tokens, subscripts_tokens, stmt_tokens, stmts_tokens, arms_tokens}
use Rattle.cse_compile.specs.Setting.{Setting}
use Rattle.cse_compile.specs.Expressions.{deepest, count, behind, number_size, words_size, numbers_size, indexes_size, operations_size}
use Rattle.cse_compile.specs.Statements.{known, which_size, argument_size, arguments_size, head_size, statement_size, block_size, arms_size}
use Rattle.cse_compile.specs.Routines.{routine_size}
use Rattle.cse_compile.proofs.Small.{here_small, present_small, picks_small, deepest_small, deck_small, exit_small, jump_code_small, jump_small, turns_small, entry_small}
use Rattle.cse_meaning.specs.Few.{NumberIsFew, WordsAreFew, NumbersAreFew, OperationsAreFew, WhichIsFew, ArgumentIsFew, ArgumentsAreFew, StatementIsFew, BlockIsFew, ArmsAreFew}
use Rattle.cse_meaning.specs.Measure.{tokens}

-- ---- items and hot decks

either_short : (b : Bool) (m n k : ℕ) → m ≤ k → n ≤ k → (if b then m else n) ≤ k
either_short true m n k f g = f
either_short false m n k f g = g

-- ---- expressions

mutual
  unfolding number_size words_size numbers_size indexes_size operations_size

  pub number_short : (x : Number) → NumberIsFew x → number_size x + 11 ≤ 16 * expr_tokens (erase x)
  number_short (Constant digits value) f = omega arith
  number_short (Special' token value) f = omega arith
  number_short (Variable' name variable) f = omega arith
  number_short (Item name item) f = omega (arith, present_small item)
  number_short (ItemAt name field x) f = omega (arith, number_short x f)
  number_short (Cell name array xs) f = omega (arith, indexes_short xs f)
  number_short (Call name function xs) f = omega (arith, numbers_short xs f)
  number_short (Group x) f = omega (arith, number_short x f)
  number_short (Int x) f = omega (arith, number_short x f)
  number_short (IsSpecial x) f = omega (arith, number_short x f)
  number_short (Deck name array picks) f = omega (arith, f, picks_small picks, deck_small picks)
  number_short (TotOcc name of) f = omega arith
  number_short (MaxOcc name of) f = omega arith
  number_short (CurOcc name of found) f = omega (arith, here_small found)
  number_short (InSet name item set_name set) f = omega (arith, present_small item)
  number_short (Minus x) f = omega (arith, number_short x f)
  number_short (Not x) f = omega (arith, number_short x f)
  number_short (Compare relation x y) f = omega (arith, number_short x f.0, number_short y f.1)
  number_short (CompareTexts relation x y) f = omega (arith, words_short x f.0, words_short y f.1)
  number_short (Chain x xs) f = omega (arith, number_short x f.0, operations_short xs f.1)

  pub words_short : (x : Words) → WordsAreFew x → words_size x + 11 ≤ 16 * expr_tokens (erase_words x)
  words_short (Quoted text) f = omega arith
  words_short (TextGlobal name variable) f = omega arith
  words_short (TextItem name item) f = omega (arith, present_small item)
  words_short (TextItemAt name field x) f = omega (arith, number_short x f)
  words_short (TextGroup x) f = omega (arith, words_short x f)

  pub numbers_short : (xs : Numbers) → NumbersAreFew xs → numbers_size xs ≤ 16 * exprs_tokens (erase_all xs)
  numbers_short no_number f = omega arith
  numbers_short (number_and x xs) f = omega (arith, number_short x f.0, other_numbers_short xs f.1)

  other_numbers_short : (xs : Numbers) → NumbersAreFew xs → numbers_size xs ≤ 16 * others_tokens (erase_all xs)
  other_numbers_short no_number f = omega arith
  other_numbers_short (number_and x xs) f = omega (arith, number_short x f.0, other_numbers_short xs f.1)

  pub indexes_short : (xs : Numbers) → NumbersAreFew xs → indexes_size xs + behind xs ≤ 16 * exprs_tokens (erase_all xs)
  indexes_short no_number f = omega arith
  indexes_short (number_and x xs) f = omega (arith, number_short x f.0, other_indexes_short xs f.1)

  other_indexes_short : (xs : Numbers) → NumbersAreFew xs → indexes_size xs + count xs ≤ 16 * others_tokens (erase_all xs)
  other_indexes_short no_number f = omega arith
  other_indexes_short (number_and x xs) f = omega (arith, number_short x f.0, other_indexes_short xs f.1)

  pub operations_short : (xs : Operations) → OperationsAreFew xs → operations_size xs ≤ 16 * operations_tokens (erase_operations xs)
  operations_short no_operation f = omega arith
  operations_short (operation_and operator x xs) f = omega (arith, number_short x f.0, operations_short xs f.1)

-- ---- statements

-- in parentheses
subscripts_short : (xs : Numbers) → NumbersAreFew xs → indexes_size xs + behind xs ≤ 16 * subscripts_tokens (erase_all xs)
unfolding indexes_size
subscripts_short no_number f = omega arith
subscripts_short (number_and x xs) f = omega (arith, indexes_short (number_and x xs) f)

which_short : (x : Which) → WhichIsFew x → which_size x ≤ 16 * subscripts_tokens (erase_which x) + 2
which_short (Here h.Loop) f = omega arith
which_short (Here h.Event) f = omega arith
which_short (Here h.First) f = omega arith
which_short (At x) f = omega (arith, number_short x f)

argument_short : (x : Argument) → ArgumentIsFew x → argument_size x ≤ 16 * expr_tokens (erase_argument x)
argument_short (OfNumber x) f = omega (arith, number_short x f)
argument_short (OfWords x) f = omega (arith, words_short x f)

arguments_short : (xs : List Argument) → ArgumentsAreFew xs → arguments_size xs ≤ 16 * others_tokens (erase_arguments xs)
unfolding arguments_size
arguments_short [] f = omega arith
arguments_short (x ∷ xs) f = omega (arith, argument_short x f.0, arguments_short xs f.1)

head_short : (records : List RecordShape) (x : Counting) → head_size records x ≤ 9
head_short records x = omega (arith, turns_small (known records x.start) (known records x.stop))

mutual
  unfolding statement_size block_size arms_size

  pub statement_short : (s : Setting) (x : Statement) → StatementIsFew x → statement_size s x ≤ 16 * stmt_tokens (erase_statement x)
  statement_short s Empty f = omega arith
  statement_short s (Set name variable x) f = omega (arith, number_short x f)
  statement_short s (SetText name variable x) f = omega (arith, words_short x f)
  statement_short s (SetItem name field which x) f = omega (arith, which_short which f.0, number_short x f.1)
  statement_short s (SetTextItem name field which x) f = omega (arith, which_short which f.0, words_short x f.1)
  statement_short s (SetCell name array xs x) f = omega (arith, subscripts_short xs f.0, jump_small (behind xs), number_short x f.1)
  statement_short s (CallOf name function xs) f = omega (arith, numbers_short xs f)
  statement_short s (If condition body others) f =
      omega (arith, number_short condition f.0, block_short s body f.1, jump_small (arms_size s others), arms_short s others f.2)
  statement_short s (For name variable record_name of body) f = omega (arith, block_short s body f)
  statement_short s (Do counting body) f = omega (arith, head_short s.records counting, block_short s body f)
  statement_short s (Jump' token x) f = omega (arith, jump_code_small s x)
  statement_short s (Impute name field which x) f = omega (arith, which_short which f.0, number_short x f.1)
  statement_short s (PutDeck name array picks x) f =
      omega (arith, f.0, picks_small picks, deepest_small picks, jump_small (deepest picks), number_short x f.1)
  statement_short s (ErrMsg message index xs summary) f = omega (arith, arguments_short xs f)

  pub block_short : (s : Setting) (xs : Statements) → BlockIsFew xs → block_size s xs ≤ 16 * stmts_tokens (erase_block xs)
  block_short s no_statement f = omega arith
  block_short s (statement_and x xs) f = omega (arith, statement_short s x f.0, block_short s xs f.1)

  pub arms_short : (s : Setting) (xs : Arms) → ArmsAreFew xs → arms_size s xs ≤ 16 * arms_tokens (erase_arms xs)
  arms_short s no_arm f = omega arith
  arms_short s (else_of body) f = omega (arith, block_short s body f)
  arms_short s (arm condition body others) f =
      omega (arith, number_short condition f.0, block_short s body f.1, jump_small (arms_size s others), arms_short s others f.2)

-- ---- routines

pub routine_short : (s : Setting) (body : Statements) → BlockIsFew body → routine_size s body ≤ 16 * tokens body + 4
unfolding routine_size
routine_short s body f = omega (arith, entry_small s.result_at, block_short s body f, exit_small s.result_at)
