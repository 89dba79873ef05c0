-- What the routines of a source cost, by their tokens.
use Rattle.std.specs.Prelude.{◌≡◌, ◌≤◌, ℕ, zero, suc, ◌+◌, ◌*◌, List, [], ◌∷◌, ◌++◌, length, Option, Some, None, slice_get, slice_index}
use Rattle.cse_value.specs.declared.shape.RecordShape.{RecordShape}
use Rattle.cse_value.specs.Occurrences.{most_occurrences}
use Rattle.cse_image_parts.specs.Image.{Image, ArrayLists}
use Rattle.cse_dict.specs.Dictionary.{DictionaryText, shape_of}
use Rattle.cse_syntax_tree.specs.Tree as syntax
use Rattle.cse_syntax_tree.specs.Word.{Word}
use Rattle.cse_logic_tree.specs.Typed.{Statement, Statements, Arms, Tree}
use Rattle.cse_logic_tree.specs.Typed.{Empty, Set, SetText, SetItem, SetTextItem, SetCell, CallOf, If, For, Do, Jump', Impute, PutDeck, ErrMsg, no_statement, statement_and, no_arm, else_of, arm}
use Rattle.cse_logic_tree.specs.Erase.{erase, erase_counting, erase_statement}
use Rattle.cse_logic_tree.specs.Tokens.{expr_tokens, counting_tokens, stmt_tokens}
use Rattle.cse_logic_names.specs.MessageFile.{MessageText}
use Rattle.cse_verify.specs.Bound.{bound}
use Rattle.cse_compile.specs.Outline.{Outline}
use Rattle.cse_compile.specs.Program.{outlines, setting_for, sizes}
use Rattle.cse_compile.specs.Setting.{Setting}
use Rattle.cse_compile.specs.Statements.{turn_limit}
use Rattle.cse_meaning.specs.Steps.{number_calls, words_calls, numbers_calls, which_calls, arguments_calls}
use Rattle.cse_meaning.specs.Checked.{IsCompiled}

-- the costs of the functions that a statement calls, that has no statements within
abbrev pub calls_of : List ℕ → Statement → ℕ
calls_of costs Empty = 0
calls_of costs (Set name variable x) = number_calls costs x
calls_of costs (SetText name variable x) = words_calls costs x
calls_of costs (SetItem name field which x) = which_calls costs which + number_calls costs x
calls_of costs (SetTextItem name field which x) = which_calls costs which + words_calls costs x
calls_of costs (SetCell name array xs x) = numbers_calls costs xs + number_calls costs x
calls_of costs (CallOf name function xs) = numbers_calls costs xs + slice_index costs function
calls_of costs (If condition body others) = number_calls costs condition
calls_of costs (For name variable record_name of body) = 0
calls_of costs (Do counting body) = 0
calls_of costs (Jump' token x) = 0
calls_of costs (Impute name field which x) = which_calls costs which + number_calls costs x
calls_of costs (PutDeck name array picks x) = number_calls costs x
calls_of costs (ErrMsg message index xs summary) = arguments_calls costs xs

-- Each token costs 16, and each call what its function costs. What stands in a loop costs as much in each turn that the loop's limit allows.
unfoldable mutual
  pub statement_cost : List ℕ → Setting → Statement → ℕ
  statement_cost costs s (If condition body others) = 16 * (4 + expr_tokens (erase condition)) + number_calls costs condition + (block_cost costs s body + arms_cost costs s others)
  statement_cost costs s (For name variable record_name of body) = most_occurrences s.records of * (16 * 7 + block_cost costs s body)
  statement_cost costs s (Do counting body) = turn_limit s.records counting * (16 * (3 + counting_tokens (erase_counting counting)) + block_cost costs s body)
  statement_cost costs s x = 16 * stmt_tokens (erase_statement x) + calls_of costs x

  pub block_cost : List ℕ → Setting → Statements → ℕ
  block_cost costs s no_statement = 0
  block_cost costs s (statement_and x xs) = statement_cost costs s x + block_cost costs s xs

  pub arms_cost : List ℕ → Setting → Arms → ℕ
  arms_cost costs s no_arm = 0
  arms_cost costs s (else_of body) = 16 * 1 + block_cost costs s body
  arms_cost costs s (arm condition body others) = 16 * (2 + expr_tokens (erase condition)) + number_calls costs condition + (block_cost costs s body + arms_cost costs s others)

-- a routine has one token at least beside its statements
unfoldable pub routine_cost : List ℕ → Setting → Statements → ℕ
routine_cost costs s body = 16 + block_cost costs s body

-- ---- the routines of a source, with the costs of those before them

abbrev pub cost_by : List RecordShape → List (List ℕ) → List ℕ → Option Outline → ℕ
cost_by records arrays costs None = 0
cost_by records arrays costs (Some o) = routine_cost costs (setting_for records arrays o) o.body

unfoldable pub costs_below : List RecordShape → List (List ℕ) → List Outline → ℕ → List ℕ
costs_below records arrays os zero = []
costs_below records arrays os (suc r) = costs_below records arrays os r ++ cost_by records arrays (costs_below records arrays os r) (slice_get os r) ∷ []

abbrev pub cost_of : DictionaryText → Tree → ℕ → ℕ
cost_of d t r = cost_by (shape_of d).records (sizes t) (costs_below (shape_of d).records (sizes t) (outlines t) r) (slice_get (outlines t) r)

-- arrays have at most three dimensions
abbrev pub HasFewDimensions : Image → Type 0
HasFewDimensions x = (a : ℕ) (y : ArrayLists) → slice_get x.lists.arrays a ≡ Some y → length y.dimensions ≤ 3

-- the bound of each routine is at most its cost
abbrev pub BoundsAreCosts : Type 0
BoundsAreCosts =
    (d : DictionaryText) (messages : List MessageText) (named : List ℕ) (source : syntax.Tree) (words : List Word) (t : Tree) (x : Image)
    → IsCompiled d messages named source words t x
    → HasFewDimensions x
    → (r : ℕ) (o : Outline)
    → slice_get (outlines t) r ≡ Some o
    → bound x r ≤ cost_of d t r
