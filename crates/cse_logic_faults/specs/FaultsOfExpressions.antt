-- The faults of expressions: a line for each node of a tree of syntax, beside `WellTyped`, which says when a typed tree is sound. A list may tell one
-- fault twice, where it follows in two ways. What is at fault in a declaration is no fault of a name that means it, but for the count of its subscripts.
use Rattle.std.specs.Prelude.{ℕ, ◌+◌, ◌-◌, Bool, true, false, ◌&&◌, ◌||◌, not, ◌==◌, List, [], ◌∷◌, ◌++◌, slice_get, Option, Some, None}
use Rattle.cse_value.specs.declared.shape.ItemKind.{ItemKind}
use Rattle.cse_value.specs.declared.shape.ItemKind.TheVariants as kind
use Rattle.cse_dict.specs.Dictionary.{DictionaryText, SetText as ValueSet}
use Rattle.cse_syntax_tree.specs.declared.tree.Function.TheVariants as f
use Rattle.cse_syntax_tree.specs.declared.tree.Query.{Query}
use Rattle.cse_syntax_tree.specs.declared.tree.Query.TheVariants as q
use Rattle.cse_syntax_tree.specs.First.{expr_token}
use Rattle.cse_syntax_tree.specs.Tree.{Spelling, Expr, Exprs, Operations, Number, Text, Special', Bare, Indexed, Group, Apply, Query', InValueSet, Minus, Not, Compare, Chain, no_expr, expr_and, no_operation, operation_and}
use Rattle.cse_logic_tree.specs.Typed.{Dimension, Sized, Rows}
use Rattle.cse_logic_names.specs.declared.meaning.Meaning.{Meaning}
use Rattle.cse_logic_names.specs.declared.meaning.Meaning.TheVariants as m
use Rattle.cse_logic_names.specs.Scope.{Scope, Facts, meant, own_result, has_case, kind_and_owner, found, are_free}
use Rattle.cse_logic_names.specs.Walk.{is_there}
use Rattle.cse_logic_names.specs.WellTyped.{kind_of, whole_set, set_meant, may_divide, value_of}
use Rattle.cse_logic_faults.specs.Faults.{Fault, only, unless, Counts, is_count, Sort, ANumber, AText, is_text, sort_of, text_token}

-- ---- items

-- an id item, or one whose occurrence is known, where there is a case
abbrev pub is_present : Scope → ℕ → Bool
is_present s owner = has_case s.routine && ((owner == 255) || is_there (found s owner))

-- an item without a subscript
abbrev pub item_faults : Scope → ℕ → Option (ItemKind × ℕ) → List Fault
item_faults s token None = only 40 token
item_faults s token (Some (kind.Opaque, owner)) = only 41 token
item_faults s token (Some (kind.Number, owner)) = unless (is_present s owner) 49 token
item_faults s token (Some (kind.Text, owner)) = unless (is_present s owner) 49 token

-- an item of a record with so many subscripts; an id item has none
abbrev pub field_faults : Scope → ℕ → ℕ → ℕ → List Fault
field_faults s token n owner = unless ((n == 1) && not (owner == 255)) 44 token ++ unless (has_case s.routine) 49 token

abbrev pub item_at_faults : Scope → ℕ → ℕ → Option (ItemKind × ℕ) → List Fault
item_at_faults s token n None = only 40 token
item_at_faults s token n (Some (kind.Opaque, owner)) = only 41 token
item_at_faults s token n (Some (kind.Number, owner)) = field_faults s token n owner
item_at_faults s token n (Some (kind.Text, owner)) = field_faults s token n owner

-- a numeric item without a subscript
abbrev pub number_item_faults : Scope → ℕ → Option (ItemKind × ℕ) → List Fault
number_item_faults s token None = only 40 token
number_item_faults s token (Some (kind.Opaque, owner)) = only 41 token
number_item_faults s token (Some (kind.Number, owner)) = unless (is_present s owner) 49 token
number_item_faults s token (Some (kind.Text, owner)) = only 44 token

-- ---- calls and cells

-- a call of a function that has ended, sound or not, or has not
abbrev pub ended_faults : Scope → ℕ → Option (Option Facts) → List Fault
ended_faults s token None = only 45 token
ended_faults s token (Some None) = []
ended_faults s token (Some (Some f)) = unless (are_free s.loops f.assigned) 47 token ++ unless (has_case s.routine || not f.needs_case) 49 token

abbrev pub call_faults : Counts → Scope → ℕ → ℕ → ℕ → List Fault
call_faults c s token n function = unless (is_count n (slice_get c.parameters function)) 44 token ++ ended_faults s token (slice_get s.functions function)

abbrev pub cell_faults : Counts → ℕ → ℕ → ℕ → List Fault
cell_faults c token n array = unless (is_count n (slice_get c.dimensions array)) 44 token

-- ---- names

-- a name without parentheses
abbrev pub bare_faults : Scope → ℕ → Option Meaning → List Fault
bare_faults s token None = only 40 token
bare_faults s token (Some (m.Variable x)) = []
bare_faults s token (Some (m.Text g)) = []
bare_faults s token (Some (m.Array a)) = only 44 token
bare_faults s token (Some (m.Function k)) = unless (is_there (own_result s.routine k)) 40 token
bare_faults s token (Some (m.Record x)) = only 40 token
bare_faults s token (Some (m.Item item)) = item_faults s token (kind_and_owner s.dictionary item)
bare_faults s token (Some (m.Set x)) = only 40 token
bare_faults s token (Some m.Application) = only 40 token
bare_faults s token (Some m.Level) = only 40 token

-- a name with so many subscripts or arguments
abbrev pub indexed_faults : Counts → Scope → ℕ → ℕ → Option Meaning → List Fault
indexed_faults c s token n None = only 40 token
indexed_faults c s token n (Some (m.Variable x)) = only 44 token
indexed_faults c s token n (Some (m.Text g)) = only 44 token
indexed_faults c s token n (Some (m.Array a)) = cell_faults c token n a
indexed_faults c s token n (Some (m.Function k)) = call_faults c s token n k
indexed_faults c s token n (Some (m.Record x)) = only 40 token
indexed_faults c s token n (Some (m.Item item)) = item_at_faults s token n (kind_and_owner s.dictionary item)
indexed_faults c s token n (Some (m.Set x)) = only 40 token
indexed_faults c s token n (Some m.Application) = only 40 token
indexed_faults c s token n (Some m.Level) = only 40 token

-- ---- sets, records and hot decks

abbrev pub is_whole : Option ValueSet → Bool
is_whole None = false
is_whole (Some x) = not x.shape.partial

abbrev pub set_item_kind : DictionaryText → Option ValueSet → Option ItemKind
set_item_kind d None = None
set_item_kind d (Some x) = kind_of d (Some x.shape.item)

abbrev pub set_kind_faults : ℕ → Option ItemKind → List Fault
set_kind_faults token None = only 44 token
set_kind_faults token (Some kind.Opaque) = only 41 token
set_kind_faults token (Some kind.Number) = []
set_kind_faults token (Some kind.Text) = only 44 token

-- a whole set of a numeric item
abbrev pub number_set_faults : DictionaryText → ℕ → Option ValueSet → List Fault
number_set_faults d token set = unless (is_whole set) 42 token ++ set_kind_faults token (set_item_kind d set)

-- what a name means is such a set
abbrev pub set_faults : DictionaryText → ℕ → Option Meaning → List Fault
set_faults d token (Some (m.Set k)) = number_set_faults d token (slice_get d.sets k)
set_faults d token _ = only 40 token

abbrev pub set_token : Spelling → Option Spelling → ℕ
set_token name None = name.token
set_token name (Some set) = set.token

abbrev pub named_set_faults : Scope → Option Spelling → List Fault
named_set_faults s None = []
named_set_faults s (Some set) = set_faults s.dictionary set.token (meant s set)

-- an item that is looked for in a set
abbrev pub member_faults : Scope → Spelling → Option Spelling → Option Meaning → List Fault
member_faults s name set (Some (m.Item item)) =
    number_item_faults s name.token (kind_and_owner s.dictionary item) ++ set_faults s.dictionary (set_token name set) (set_meant s item set)
member_faults s name set _ = only 40 name.token ++ named_set_faults s set

abbrev pub is_record : Option Meaning → Bool
is_record (Some (m.Record x)) = true
is_record _ = false

-- a record; where there is no case, the fault stands at its name
abbrev pub record_faults : Scope → ℕ → Option Meaning → List Fault
record_faults s token meaning = unless (is_record meaning) 40 token ++ unless (has_case s.routine) 49 token

abbrev pub is_known : Scope → Option Meaning → Bool
is_known s (Some (m.Record x)) = is_there (found s x)
is_known s _ = true

-- a record whose occurrence is known; where it isn't, the fault stands at the word two tokens before
abbrev pub current_faults : Scope → ℕ → Option Meaning → List Fault
current_faults s token meaning = unless (is_record meaning) 40 token ++ unless (has_case s.routine && is_known s meaning) 49 (token - 2)

abbrev pub is_numeric_present : Scope → Option (ItemKind × ℕ) → Bool
is_numeric_present s (Some (kind.Number, owner)) = is_present s owner
is_numeric_present s _ = false

abbrev pub is_picked : Scope → Option ℕ → Bool
is_picked s None = false
is_picked s (Some item) = is_numeric_present s (kind_and_owner s.dictionary item)

-- each dimension is a set
abbrev pub is_deck : List Dimension → Bool
is_deck [] = true
is_deck (Sized digits size ∷ ds) = false
is_deck (Rows name set one_more size ∷ ds) = is_deck ds

-- the item of each set has an occurrence
abbrev pub are_picked : Scope → List Dimension → Bool
are_picked s [] = true
are_picked s (Sized digits size ∷ ds) = are_picked s ds
are_picked s (Rows name set one_more size ∷ ds) = is_picked s (whole_set (slice_get s.dictionary.sets set)) && are_picked s ds

-- an array, sound or not
abbrev pub picks_faults : Scope → ℕ → Option (Option (List Dimension)) → List Fault
picks_faults s token None = only 40 token ++ unless (has_case s.routine) 49 (token - 2)
picks_faults s token (Some None) = unless (has_case s.routine) 49 (token - 2)
picks_faults s token (Some (Some ds)) = unless (is_deck ds) 40 token ++ unless (has_case s.routine && are_picked s ds) 49 (token - 2)

-- a hot deck; the word of its function or statement stands two tokens before
abbrev pub deck_faults : Scope → ℕ → Option Meaning → List Fault
deck_faults s token (Some (m.Array a)) = picks_faults s token (slice_get s.arrays a)
deck_faults s token _ = only 40 token ++ unless (has_case s.routine) 49 (token - 2)

abbrev pub query_faults : Scope → Query → ℕ → Option Meaning → List Fault
query_faults s q.GetDeck token meaning = deck_faults s token meaning
query_faults s q.TotOcc token meaning = record_faults s token meaning
query_faults s q.MaxOcc token meaning = record_faults s token meaning
query_faults s q.CurOcc token meaning = current_faults s token meaning

-- ---- operators

-- a text, where a number is to stand
abbrev pub text_faults : Sort → ℕ → List Fault
text_faults sort token = unless (not (is_text sort)) 44 token

-- two values of one kind; else the fault stands at the text
abbrev pub kinds_faults : Sort → ℕ → Sort → ℕ → List Fault
kinds_faults ANumber left AText right = only 44 right
kinds_faults AText left ANumber right = only 44 left
kinds_faults _ left _ right = []

abbrev pub is_end : Operations → Bool
is_end no_operation = true
is_end (operation_and operator x xs) = false

abbrev pub count_of : Exprs → ℕ
count_of no_expr = 0
count_of (expr_and x xs) = count_of xs + 1

-- ---- expressions

-- The faults of an expression; `top` tells that it stands right inside `int`.
unfoldable mutual
  pub expr_faults : Counts → Scope → Bool → Expr → List Fault
  expr_faults c s top (Number digits) = unless (is_there (value_of digits)) 44 digits.token
  expr_faults c s top (Text text) = []
  expr_faults c s top (Special' token value) = []
  expr_faults c s top (Bare name) = bare_faults s name.token (meant s name)
  expr_faults c s top (Indexed name arguments) = numbers_faults c s arguments ++ indexed_faults c s name.token (count_of arguments) (meant s name)
  expr_faults c s top (Group x) = expr_faults c s false x
  expr_faults c s top (Apply f.Int x) = expr_faults c s true x ++ text_faults (sort_of s x) (text_token x)
  expr_faults c s top (Apply f.Special x) = expr_faults c s false x ++ text_faults (sort_of s x) (text_token x)
  expr_faults c s top (Query' query name) = query_faults s query name.token (meant s name)
  expr_faults c s top (InValueSet item set) = member_faults s item set (meant s item)
  expr_faults c s top (Minus x) = expr_faults c s false x ++ text_faults (sort_of s x) (text_token x)
  expr_faults c s top (Not x) = expr_faults c s false x ++ text_faults (sort_of s x) (text_token x)
  expr_faults c s top (Compare relation x y) =
      expr_faults c s false x ++ (expr_faults c s false y ++ kinds_faults (sort_of s x) (text_token x) (sort_of s y) (text_token y))
  expr_faults c s top (Chain x others) = (expr_faults c s false x ++ text_faults (sort_of s x) (text_token x)) ++ operations_faults c s top others

  -- numbers, one after the other
  pub numbers_faults : Counts → Scope → Exprs → List Fault
  numbers_faults c s no_expr = []
  numbers_faults c s (expr_and x xs) = (expr_faults c s false x ++ text_faults (sort_of s x) (text_token x)) ++ numbers_faults c s xs

  -- an operator stands right before its operand
  pub operations_faults : Counts → Scope → Bool → Operations → List Fault
  operations_faults c s top no_operation = []
  operations_faults c s top (operation_and operator x xs) =
      unless (may_divide top operator (is_end xs)) 46 (expr_token x - 1)
      ++ ((expr_faults c s false x ++ text_faults (sort_of s x) (text_token x)) ++ operations_faults c s top xs)

-- a number: a text that stands in its place is a fault
abbrev pub number_faults : Counts → Scope → Bool → Expr → List Fault
number_faults c s top x = expr_faults c s top x ++ text_faults (sort_of s x) (text_token x)
