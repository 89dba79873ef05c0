-- Worked rows of the faults of statements: each row is a statement of logic with the tokens of its names and numbers.
use Rattle.std.specs.Prelude.{◌≡◌, ℕ, Bool, true, false, List, [], ◌∷◌, Some, None, codes}
use Rattle.cse_value.specs.declared.shape.ItemKind.{ItemKind}
use Rattle.cse_value.specs.declared.shape.ItemKind.TheVariants as kind
use Rattle.cse_dict.specs.Dictionary.{DictionaryText, ItemText}
use Rattle.cse_syntax_tree.specs.declared.tree.Query.TheVariants as q
use Rattle.cse_syntax_tree.specs.Tree.{Spelling, Expr, Number, Bare, Group, Query', no_expr, Stmt, Assign, Call, For, PutDeck, stmt_and, no_stmt}
use Rattle.cse_logic_tree.specs.declared.tree.Variable.TheVariants as v
use Rattle.cse_logic_tree.specs.declared.tree.Owner.TheVariants as o
use Rattle.cse_logic_names.specs.declared.meaning.Meaning.TheVariants as m
use Rattle.cse_logic_names.specs.declared.meaning.Routine.{Routine}
use Rattle.cse_logic_names.specs.declared.meaning.Routine.TheVariants as r
use Rattle.cse_logic_names.specs.Scope.{Scope}
use Rattle.cse_logic_faults.specs.Faults.{Fault, fault, Counts, least_of}
use Rattle.cse_logic_faults.specs.FaultsOfStatements.{stmt_faults}

abbrev pub kind_if : Bool → ItemKind
kind_if true = kind.Text
kind_if false = kind.Number

abbrev pub item : List ℕ → ℕ → Bool → ItemText
item name owner text = record { name = name; shape = record { owner = owner; kind = kind_if text; len = 3; start = 4 }; zero_fill = false; code = None }

-- a dictionary with an id item, and an alpha and a numeric item of a record that may occur 20 times
abbrev pub d : DictionaryText
d = record {
  name = codes "SURVEY";
  level_name = codes "QUEST";
  type_columns = record { start = 0; len = 0 };
  records = record { name = codes "PERSON"; record_type = []; shape = record { max_records = 20; record_len = 40 } } ∷ [];
  items = item (codes "ID") 255 false ∷ item (codes "FIRST") 0 true ∷ item (codes "AGE") 0 false ∷ [];
  sets = [];
}

-- what is known in a routine, where a number, a text and a function of one parameter are declared, and the function has not ended
abbrev pub at : Routine → Scope
at routine = record {
  dictionary = d;
  messages = [];
  declared = (codes "N", m.Variable (v.Global 0)) ∷ (codes "S", m.Text 1) ∷ (codes "F", m.Function 0) ∷ [];
  arrays = [];
  functions = [];
  parameters = [];
  routine = routine;
  loops = [];
}

abbrev pub counts : Counts
counts = record { parameters = 1 ∷ []; dimensions = [] }

abbrev pub name : ℕ → List ℕ → Spelling
name token text = record { token = token; text = text }

abbrev pub age : Routine
age = r.Procedure (o.Item (record { owner = 0; item = 2 }))

abbrev pub level : Routine
level = r.Procedure o.Level

abbrev pub application : Routine
application = r.Procedure o.Application

abbrev pub found_in : Routine → Stmt → List Fault
found_in routine x = stmt_faults counts (at routine) x

abbrev pub assign : ℕ → List ℕ → Expr → Stmt
assign token text value = Assign (name token text) no_expr value

abbrev pub digits : ℕ → List ℕ → Expr
digits token text = Number (name token text)

pub record FaultsAreWorked : Type 0 where
  -- in PROC AGE: FIRST = 5
  pub text_assigned : found_in age (assign 2 (codes "FIRST") (digits 4 (codes "5"))) ≡ fault 44 2 ∷ []
  -- in PROC QUEST: FIRST = 1; two faults of one name, of which the lesser is told
  pub two_of_one : found_in level (assign 2 (codes "FIRST") (digits 4 (codes "1"))) ≡ fault 49 2 ∷ fault 44 2 ∷ []
  pub lesser_told : least_of (found_in level (assign 2 (codes "FIRST") (digits 4 (codes "1")))) ≡ Some (fault 44 2)
  -- n = (s)
  pub in_parentheses : found_in level (assign 2 (codes "n") (Group (Bare (name 5 (codes "s"))))) ≡ fault 44 5 ∷ []
  -- f(), before its end
  pub too_early : found_in level (Call (name 2 (codes "f")) no_expr) ≡ fault 44 2 ∷ fault 45 2 ∷ []
  -- in the application's PROC: n = curocc(PERSON), n = getdeck(NOBODY), n = curocc(NOBODY), putdeck(NOBODY, 1)
  pub current : found_in application (assign 2 (codes "n") (Query' q.CurOcc (name 6 (codes "PERSON")))) ≡ fault 49 4 ∷ []
  pub no_deck : least_of (found_in application (assign 2 (codes "n") (Query' q.GetDeck (name 6 (codes "NOBODY"))))) ≡ Some (fault 49 4)
  pub no_record : least_of (found_in application (assign 2 (codes "n") (Query' q.CurOcc (name 6 (codes "NOBODY"))))) ≡ Some (fault 49 4)
  pub put_no_deck : found_in application (PutDeck (name 4 (codes "NOBODY")) (digits 6 (codes "1"))) ≡ fault 40 4 ∷ fault 49 2 ∷ []
  pub put_told : least_of (found_in application (PutDeck (name 4 (codes "NOBODY")) (digits 6 (codes "1")))) ≡ Some (fault 49 2)
  -- ID = 5
  pub id_assigned : found_in age (assign 2 (codes "ID") (digits 4 (codes "5"))) ≡ fault 43 2 ∷ []
  -- for k in PERSON do AGE = 5; enddo, where k is not declared: AGE stands in the loop all the same
  pub head_at_fault : found_in level (For (name 3 (codes "K")) (name 5 (codes "PERSON")) (stmt_and (assign 7 (codes "AGE") (digits 9 (codes "5"))) no_stmt)) ≡ fault 40 3 ∷ []
