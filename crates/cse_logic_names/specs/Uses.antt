-- What statements use: calls, assignments of globals, and the case.
use Rattle.std.specs.Prelude.{ℕ, Bool, true, false, ◌||◌, nat_eq, if◌then◌else◌, List, [], ◌∷◌, ◌++◌, length, slice_get, Option, Some, None}
use Rattle.std.specs.List.{list_any}
use Rattle.cse_logic_tree.specs.declared.tree.Variable.{Variable}
use Rattle.cse_logic_tree.specs.declared.tree.Variable.TheVariants as v
use Rattle.cse_logic_tree.specs.Typed.{Number, Words, Numbers, Operations, Constant, Special', Variable', Item, ItemAt, Cell, Call, Group, Int, IsSpecial, Deck, TotOcc, MaxOcc, CurOcc, InSet, Minus, Not, Compare, CompareTexts, Chain}
use Rattle.cse_logic_tree.specs.Typed.{Quoted, TextGlobal, TextItem, TextItemAt, TextGroup, no_number, number_and, no_operation, operation_and}
use Rattle.cse_logic_tree.specs.Typed.{Which, Here, At, Argument, OfNumber, OfWords, Limit, Fixed, Counted, Counting, Statement, Statements, Arms}
use Rattle.cse_logic_tree.specs.Typed.{Empty, Set, SetText, SetItem, SetTextItem, SetCell, CallOf, If, For, Do, Jump', Impute, PutDeck, ErrMsg, no_statement, statement_and, no_arm, else_of, arm}
use Rattle.cse_logic_tree.specs.Typed.{Function}
use Rattle.cse_logic_names.specs.Scope.{Facts, has_global}

-- a record or an item is named, or a hot deck is used; a function is called; a global is assigned, or is the variable of a loop
pub data Use : Type 0 where
  TheCase : Use
  Calls : (function : ℕ) → Use
  Assigns : (global : ℕ) → Use

abbrev mutual
  pub uses : Number → List Use
  uses (Constant digits value) = []
  uses (Special' token value) = []
  uses (Variable' name variable) = []
  uses (Item name item) = TheCase ∷ []
  uses (ItemAt name field place) = TheCase ∷ uses place
  uses (Cell name array subscripts) = uses_all subscripts
  uses (Call name function arguments) = Calls function ∷ uses_all arguments
  uses (Group x) = uses x
  uses (Int x) = uses x
  uses (IsSpecial x) = uses x
  uses (Deck name array picks) = TheCase ∷ []
  uses (TotOcc name of) = TheCase ∷ []
  uses (MaxOcc name of) = TheCase ∷ []
  uses (CurOcc name of how) = TheCase ∷ []
  uses (InSet name item set_name set) = TheCase ∷ []
  uses (Minus x) = uses x
  uses (Not x) = uses x
  uses (Compare relation x y) = uses x ++ uses y
  uses (CompareTexts relation x y) = uses_words x ++ uses_words y
  uses (Chain x others) = uses x ++ uses_operations others

  pub uses_words : Words → List Use
  uses_words (Quoted text) = []
  uses_words (TextGlobal name variable) = []
  uses_words (TextItem name item) = TheCase ∷ []
  uses_words (TextItemAt name field place) = TheCase ∷ uses place
  uses_words (TextGroup x) = uses_words x

  pub uses_all : Numbers → List Use
  uses_all no_number = []
  uses_all (number_and x xs) = uses x ++ uses_all xs

  pub uses_operations : Operations → List Use
  uses_operations no_operation = []
  uses_operations (operation_and operator x xs) = uses x ++ uses_operations xs

abbrev pub uses_which : Which → List Use
uses_which (Here how) = []
uses_which (At place) = uses place

abbrev pub uses_argument : Argument → List Use
uses_argument (OfNumber x) = uses x
uses_argument (OfWords x) = uses_words x

abbrev pub uses_arguments : List Argument → List Use
uses_arguments [] = []
uses_arguments (x ∷ xs) = uses_argument x ++ uses_arguments xs

abbrev pub uses_limit : Limit → List Use
uses_limit (Fixed x) = []
uses_limit (Counted count name of) = TheCase ∷ []

-- a parameter or a result is its function's own
abbrev pub assigns : Variable → List Use
assigns (v.Global g) = Assigns g ∷ []
assigns _ = []

abbrev mutual
  pub uses_of : Statement → List Use
  uses_of Empty = []
  uses_of (Set name variable value) = assigns variable ++ uses value
  uses_of (SetText name variable value) = uses_words value
  uses_of (SetItem name field which value) = TheCase ∷ (uses_which which ++ uses value)
  uses_of (SetTextItem name field which value) = TheCase ∷ (uses_which which ++ uses_words value)
  uses_of (SetCell name array subscripts value) = uses_all subscripts ++ uses value
  uses_of (CallOf name function arguments) = Calls function ∷ uses_all arguments
  uses_of (If condition body others) = uses condition ++ (uses_block body ++ uses_arms others)
  uses_of (For name variable record_name of body) = TheCase ∷ (assigns variable ++ uses_block body)
  uses_of (Do counting body) = assigns counting.variable ++ (uses_limit counting.start ++ (uses_limit counting.stop ++ uses_block body))
  uses_of (Jump' token jump) = []
  uses_of (Impute name field which value) = TheCase ∷ (uses_which which ++ uses value)
  uses_of (PutDeck name array picks value) = TheCase ∷ uses value
  uses_of (ErrMsg message index values summary) = uses_arguments values

  pub uses_block : Statements → List Use
  uses_block no_statement = []
  uses_block (statement_and x xs) = uses_of x ++ uses_block xs

  pub uses_arms : Arms → List Use
  uses_arms no_arm = []
  uses_arms (else_of body) = uses_block body
  uses_arms (arm condition body others) = uses condition ++ (uses_block body ++ uses_arms others)

-- ---- functions

abbrev pub facts_need : Option (Option Facts) → Bool
facts_need (Some (Some facts)) = facts.needs_case
facts_need _ = false

abbrev pub facts_assign : Option (Option Facts) → List ℕ
facts_assign (Some (Some facts)) = facts.assigned
facts_assign _ = []

-- a function needs a case if it uses it, or calls one that needs it
abbrev pub needs_case : List (Option Facts) → List Use → Bool
needs_case functions [] = false
needs_case functions (TheCase ∷ us) = true
needs_case functions (Calls f ∷ us) = facts_need (slice_get functions f) || needs_case functions us
needs_case functions (Assigns g ∷ us) = needs_case functions us

-- one more, unless it is there
abbrev pub with_global : List ℕ → ℕ → List ℕ
with_global found g = if has_global found g then found else found ++ g ∷ []

abbrev pub with_globals : List ℕ → List ℕ → List ℕ
with_globals found [] = found
with_globals found (g ∷ gs) = with_globals (with_global found g) gs

-- the globals that are assigned, and those that the functions called may assign
abbrev pub assigned_after : List (Option Facts) → List ℕ → List Use → List ℕ
assigned_after functions found [] = found
assigned_after functions found (TheCase ∷ us) = assigned_after functions found us
assigned_after functions found (Calls f ∷ us) = assigned_after functions (with_globals found (facts_assign (slice_get functions f))) us
assigned_after functions found (Assigns g ∷ us) = assigned_after functions (with_global found g) us

-- what is known of a function, after those before it
abbrev pub facts_of : List (Option Facts) → Function → Facts
facts_of functions f = record {
  parameters = length f.parameters;
  needs_case = needs_case functions (uses_block f.body);
  assigned = assigned_after functions [] (uses_block f.body);
}
