-- The items that a source may change: those that a statement writes. An assignment to an item writes it, and so does `impute`. No other
-- statement writes an item: `putdeck` writes a cell of an array, and the rest reads. The statements of functions count as those of procedures
-- do, whether or not an event comes to them.
use Rattle.std.specs.Prelude.{ℕ, Bool, nat_eq, List, [], ◌∷◌, ◌++◌, length, Option, Some, None}
use Rattle.std.specs.List.{filter, list_any, range_with_len}
use Rattle.cse_dict.specs.Dictionary.{DictionaryText}
use Rattle.cse_logic_tree.specs.Typed.{Statement, Statements, Arms, Empty, Set, SetText, SetItem, SetTextItem, SetCell, CallOf, If, For, Do, Jump', Impute, PutDeck, ErrMsg, no_statement, statement_and, no_arm, else_of, arm}
use Rattle.cse_logic_tree.specs.Typed.{Declaration, Numeric, Alpha, Array', Function', Body, Plain, Preproc, Both, Postproc, Procedure, Tree}

-- ---- statements: the numbers of the items in the dictionary, in order of the source

abbrev mutual
  pub written_by : Statement → List ℕ
  written_by Empty = []
  written_by (Set name variable value) = []
  written_by (SetText name variable value) = []
  written_by (SetItem name field which value) = field.item ∷ []
  written_by (SetTextItem name field which value) = field.item ∷ []
  written_by (SetCell name array subscripts value) = []
  written_by (CallOf name function arguments) = []
  written_by (If condition body others) = written_by_all body ++ written_by_arms others
  written_by (For name variable record_name of body) = written_by_all body
  written_by (Do counting body) = written_by_all body
  written_by (Jump' token jump) = []
  written_by (Impute name field which value) = field.item ∷ []
  written_by (PutDeck name array picks value) = []
  written_by (ErrMsg message index values summary) = []

  pub written_by_all : Statements → List ℕ
  written_by_all no_statement = []
  written_by_all (statement_and x xs) = written_by x ++ written_by_all xs

  pub written_by_arms : Arms → List ℕ
  written_by_arms no_arm = []
  written_by_arms (else_of body) = written_by_all body
  written_by_arms (arm condition body others) = written_by_all body ++ written_by_arms others

-- ---- functions and procedures

abbrev pub written_by_declaration : Declaration → List ℕ
written_by_declaration (Numeric names) = []
written_by_declaration (Alpha digits size names) = []
written_by_declaration (Array' array) = []
written_by_declaration (Function' function) = written_by_all function.body

abbrev pub written_by_functions : List Declaration → List ℕ
written_by_functions [] = []
written_by_functions (x ∷ xs) = written_by_declaration x ++ written_by_functions xs

abbrev pub written_by_globals : Option (List Declaration) → List ℕ
written_by_globals None = []
written_by_globals (Some ds) = written_by_functions ds

abbrev pub written_by_body : Body → List ℕ
written_by_body (Plain xs) = written_by_all xs
written_by_body (Preproc xs) = written_by_all xs
written_by_body (Both xs ys) = written_by_all xs ++ written_by_all ys
written_by_body (Postproc xs) = written_by_all xs

abbrev pub written_by_procedures : List Procedure → List ℕ
written_by_procedures [] = []
written_by_procedures (x ∷ xs) = written_by_body x.body ++ written_by_procedures xs

-- ---- sources

abbrev pub written_by_tree : Tree → List ℕ
written_by_tree t = written_by_globals t.globals ++ written_by_procedures t.procedures

-- a statement of the source writes the item
abbrev pub is_written : Tree → ℕ → Bool
is_written t item = list_any (λ x. nat_eq item x) (written_by_tree t)

-- the items that the source may change: each once, in order of the dictionary
abbrev pub items_written : DictionaryText → Tree → List ℕ
items_written d t = filter (is_written t) (range_with_len 0 (length d.items))
