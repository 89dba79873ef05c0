-- The faults of logic: what one is, which is told, and what is known where one is looked for.
use Rattle.std.specs.Prelude.{ℕ, Bool, true, false, ◌&&◌, ◌||◌, ◌==◌, nat_lt, if◌then◌else◌, List, [], ◌∷◌, Option, Some, None}
use Rattle.cse_value.specs.declared.shape.ItemKind.{ItemKind}
use Rattle.cse_value.specs.declared.shape.ItemKind.TheVariants as kind
use Rattle.cse_syntax_tree.specs.First.{expr_token}
use Rattle.cse_syntax_tree.specs.Tree.{Expr, Number, Text, Special', Bare, Indexed, Group, Apply, Query', InValueSet, Minus, Not, Compare, Chain}
use Rattle.cse_logic_names.specs.declared.meaning.Meaning.{Meaning}
use Rattle.cse_logic_names.specs.declared.meaning.Meaning.TheVariants as m
use Rattle.cse_logic_names.specs.Scope.{Scope, meant, own_result, kind_and_owner}
use Rattle.cse_logic_names.specs.Walk.{is_there}

-- ---- faults

-- a fault: its number, and the token that it stands at
pub record Fault : Type 0 where
  pub number : ℕ
  pub token : ℕ

abbrev pub fault : ℕ → ℕ → Fault
fault number token = record { number = number; token = token }

-- this fault alone
abbrev pub only : ℕ → ℕ → List Fault
only number token = fault number token ∷ []

-- this fault, unless the test holds
unfoldable pub unless : Bool → ℕ → ℕ → List Fault
unless true number token = []
unless false number token = only number token

-- one stands before another, or at the same token and has the lesser number
abbrev pub is_before : Fault → Fault → Bool
is_before x y = nat_lt x.token y.token || ((x.token == y.token) && nat_lt x.number y.number)

-- the lesser of a fault and one that may be there
abbrev pub lesser : Fault → Option Fault → Fault
lesser x None = x
lesser x (Some y) = if is_before y x then y else x

-- the fault that is told: the first by place, and then by number
unfoldable pub least_of : List Fault → Option Fault
least_of [] = None
least_of (x ∷ xs) = Some (lesser x (least_of xs))

-- ---- what is declared

-- how many parameters each function is declared with, and how many dimensions each array, sound or not
pub record Counts : Type 0 where
  pub parameters : List ℕ
  pub dimensions : List ℕ

-- so many are declared
abbrev pub is_count : ℕ → Option ℕ → Bool
is_count n None = false
is_count n (Some k) = k == n

-- ---- kinds

-- a number or a text; none of them is known of a name that means neither
pub data Sort : Type 0 where
  ANumber : Sort
  AText : Sort
  NoSort : Sort

abbrev pub is_text : Sort → Bool
is_text AText = true
is_text _ = false

abbrev pub is_number : Sort → Bool
is_number ANumber = true
is_number _ = false

abbrev pub item_sort : Option (ItemKind × ℕ) → Sort
item_sort None = NoSort
item_sort (Some (kind.Opaque, owner)) = NoSort
item_sort (Some (kind.Number, owner)) = ANumber
item_sort (Some (kind.Text, owner)) = AText

abbrev pub result_sort : Bool → Sort
result_sort own = if own then ANumber else NoSort

-- a name without parentheses
abbrev pub bare_sort : Scope → Option Meaning → Sort
bare_sort s None = NoSort
bare_sort s (Some (m.Variable x)) = ANumber
bare_sort s (Some (m.Text g)) = AText
bare_sort s (Some (m.Array a)) = ANumber
bare_sort s (Some (m.Function k)) = result_sort (is_there (own_result s.routine k))
bare_sort s (Some (m.Record x)) = NoSort
bare_sort s (Some (m.Item item)) = item_sort (kind_and_owner s.dictionary item)
bare_sort s (Some (m.Set x)) = NoSort
bare_sort s (Some m.Application) = NoSort
bare_sort s (Some m.Level) = NoSort

-- a name with parentheses
abbrev pub indexed_sort : Scope → Option Meaning → Sort
indexed_sort s None = NoSort
indexed_sort s (Some (m.Variable x)) = ANumber
indexed_sort s (Some (m.Text g)) = AText
indexed_sort s (Some (m.Array a)) = ANumber
indexed_sort s (Some (m.Function k)) = ANumber
indexed_sort s (Some (m.Record x)) = NoSort
indexed_sort s (Some (m.Item item)) = item_sort (kind_and_owner s.dictionary item)
indexed_sort s (Some (m.Set x)) = NoSort
indexed_sort s (Some m.Application) = NoSort
indexed_sort s (Some m.Level) = NoSort

unfoldable pub sort_of : Scope → Expr → Sort
sort_of s (Number digits) = ANumber
sort_of s (Text text) = AText
sort_of s (Special' token value) = ANumber
sort_of s (Bare name) = bare_sort s (meant s name)
sort_of s (Indexed name arguments) = indexed_sort s (meant s name)
sort_of s (Group x) = sort_of s x
sort_of s (Apply function x) = ANumber
sort_of s (Query' query name) = ANumber
sort_of s (InValueSet item set) = ANumber
sort_of s (Minus x) = ANumber
sort_of s (Not x) = ANumber
sort_of s (Compare relation x y) = ANumber
sort_of s (Chain x others) = ANumber

-- where a text stands: behind the parentheses around it
unfoldable pub text_token : Expr → ℕ
text_token (Group x) = text_token x
text_token x = expr_token x
