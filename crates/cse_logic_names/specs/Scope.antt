-- What names mean at a place of logic, and which occurrence an item has there.
use Rattle.std.specs.Prelude.{ℕ, ◌+◌, Bool, true, false, ◌&&◌, ◌||◌, not, ◌==◌, nat_eq, nat_le, if◌then◌else◌, List, [], ◌∷◌, ◌++◌, length, map, position, slice_get, Option, Some, None}
use Rattle.std.specs.List.{list_any}
use Rattle.std.specs.Option.{option_map, option_map_or}
use Rattle.std.specs.Map.{lookup}
use Rattle.std.specs.Str.{bytes_eq}
use Rattle.cse_value.specs.declared.shape.ItemKind.{ItemKind}
use Rattle.cse_dict.specs.Dictionary.{DictionaryText, ItemText, SetText, number_named, record_names, item_names, set_names}
use Rattle.cse_dict.specs.Keys.{kept_name}
use Rattle.cse_syntax_tree.specs.Tree as syntax
use Rattle.cse_syntax_tree.specs.Tree.{Spelling}
use Rattle.cse_logic_tree.specs.Typed.{Dimension}
use Rattle.cse_logic_tree.specs.declared.tree.Variable.{Variable}
use Rattle.cse_logic_tree.specs.declared.tree.Variable.TheVariants as v
use Rattle.cse_logic_tree.specs.declared.tree.Found.{Found}
use Rattle.cse_logic_tree.specs.declared.tree.Found.TheVariants as h
use Rattle.cse_logic_tree.specs.declared.tree.Field.{Field}
use Rattle.cse_logic_tree.specs.declared.tree.Owner.{Owner}
use Rattle.cse_logic_tree.specs.declared.tree.Owner.TheVariants as o
use Rattle.cse_logic_names.specs.declared.meaning.Meaning.{Meaning}
use Rattle.cse_logic_names.specs.declared.meaning.Meaning.TheVariants as m
use Rattle.cse_logic_names.specs.declared.meaning.Routine.{Routine}
use Rattle.cse_logic_names.specs.declared.meaning.Routine.TheVariants as r
use Rattle.cse_logic_names.specs.MessageFile.{MessageText}

abbrev pub first_of : {A : Type 0} → Option A → Option A → Option A
first_of None y = y
first_of (Some x) y = Some x

-- ---- what is declared

-- each of these names, in upper case, with what it means, counted from this number
abbrev pub numbered_from : (ℕ → Meaning) → ℕ → List Spelling → List (List ℕ × Meaning)
numbered_from meaning n [] = []
numbered_from meaning n (x ∷ xs) = (kept_name x.text, meaning n) ∷ numbered_from meaning (n + 1) xs

-- the names of globals, arrays and functions, each kind counted from these numbers in order of the source
abbrev pub declared_from : ℕ → ℕ → ℕ → List syntax.Declaration → List (List ℕ × Meaning)
declared_from g a f [] = []
declared_from g a f (syntax.Numeric names ∷ ds) = numbered_from (λ n. m.Variable (v.Global n)) g names ++ declared_from (g + length names) a f ds
declared_from g a f (syntax.Alpha digits names ∷ ds) = numbered_from m.Text g names ++ declared_from (g + length names) a f ds
declared_from g a f (syntax.Array' array ∷ ds) = (kept_name array.name.text, m.Array a) ∷ declared_from g (a + 1) f ds
declared_from g a f (syntax.Function' name parameters body ∷ ds) = (kept_name name.text, m.Function f) ∷ declared_from g a (f + 1) ds

-- what a name means in the dictionary
abbrev pub in_dictionary : DictionaryText → List ℕ → Option Meaning
in_dictionary d text =
    first_of (option_map m.Record (number_named text (record_names d)))
    (first_of (option_map m.Item (number_named text (item_names d)))
    (first_of (option_map m.Set (number_named text (set_names d)))
    (if bytes_eq (kept_name text) d.name then Some m.Application
    else (if bytes_eq (kept_name text) d.level_name then Some m.Level else None))))

-- ---- scopes

-- what is known of a function that has ended: how many parameters it has, whether it needs a case, and the globals that a call of it
-- may assign
pub record Facts : Type 0 where
  pub parameters : ℕ
  pub needs_case : Bool
  pub assigned : List ℕ

-- the loops that are open, from the outermost: the record, where it is a `for`, and the variable
abbrev pub Loops : Type 0
Loops = List (Option ℕ × Variable)

-- what is known at a place of logic; an array or a function that is itself at fault is there as none
pub record Scope : Type 0 where
  pub dictionary : DictionaryText
  pub messages : List MessageText
  pub declared : List (List ℕ × Meaning)
  pub arrays : List (Option (List Dimension))
  pub functions : List (Option Facts)
  pub parameters : List (List ℕ)
  pub routine : Routine
  pub loops : Loops

-- what a text means as a name: a parameter, what is declared, or what the dictionary has
abbrev pub meant_in : Scope → List ℕ → Option Meaning
meant_in s text =
    first_of (option_map (λ k. m.Variable (v.Parameter k)) (position (bytes_eq (kept_name text)) s.parameters))
    (first_of (lookup (bytes_eq (kept_name text)) s.declared)
    (in_dictionary s.dictionary text))

-- what a name means; it has at most 32 characters
unfoldable pub meant : Scope → Spelling → Option Meaning
meant s name = if nat_le (length name.text) 32 then meant_in s name.text else None

-- a function's name in its own body is its result
abbrev pub own_result : Routine → ℕ → Option Variable
own_result (r.Function k) f = if k == f then Some v.Result else None
own_result (r.Procedure owner) f = None

abbrev pub variable_meant : Routine → Option Meaning → Option Variable
variable_meant routine (Some (m.Variable x)) = Some x
variable_meant routine (Some (m.Function f)) = own_result routine f
variable_meant routine _ = None

-- the variable that a name means where it has no parentheses
abbrev pub variable_named : Scope → Spelling → Option Variable
variable_named s name = variable_meant s.routine (meant s name)

abbrev pub loop_variable_meant : Option Meaning → Option Variable
loop_variable_meant (Some (m.Variable x)) = Some x
loop_variable_meant _ = None

-- the variable of a loop: a numeric global or a parameter
abbrev pub loop_variable : Scope → Spelling → Option Variable
loop_variable s name = loop_variable_meant (meant s name)

-- ---- the case

-- the application's procedures have no case
abbrev pub has_case : Routine → Bool
has_case (r.Procedure o.Application) = false
has_case _ = true

-- the kind of an item, and the number of its record, 255 for an id item
unfoldable pub kind_and_owner : DictionaryText → ℕ → Option (ItemKind × ℕ)
kind_and_owner d item = option_map (λ (x : ItemText). (x.shape.kind, x.shape.owner)) (slice_get d.items item)

abbrev pub is_over : Option ℕ → ℕ → Bool
is_over None record_number = false
is_over (Some x) record_number = x == record_number

-- an open `for` is over the record
abbrev pub is_looped : Loops → ℕ → Bool
is_looped loops record_number = list_any (λ l. is_over l.0 record_number) loops

-- the event is of an item of the record
abbrev pub is_event_of : Routine → ℕ → Bool
is_event_of (r.Procedure (o.Item field)) record_number = field.owner == record_number
is_event_of _ record_number = false

abbrev pub most_of : DictionaryText → ℕ → ℕ
most_of d record_number = option_map_or (λ x. x.shape.max_records) (slice_get d.records record_number) 0

-- the occurrence that an item of the record means without a subscript: that of the innermost `for` over the record, that of the event,
-- or the only one
unfoldable pub found : Scope → ℕ → Option Found
found s record_number =
    if is_looped s.loops record_number then Some h.Loop
    else (if is_event_of s.routine record_number then Some h.Event
    else (if most_of s.dictionary record_number == 1 then Some h.First else None))

-- ---- loops

abbrev pub is_same_variable : Variable → Variable → Bool
is_same_variable (v.Global x) (v.Global y) = x == y
is_same_variable (v.Parameter x) (v.Parameter y) = x == y
is_same_variable v.Result v.Result = true
is_same_variable _ _ = false

-- no open loop is over this variable
abbrev pub is_free : Loops → Variable → Bool
is_free loops x = not (list_any (λ l. is_same_variable l.1 x) loops)

abbrev pub has_global : List ℕ → ℕ → Bool
has_global globals g = list_any (λ x. nat_eq g x) globals

abbrev pub is_among : List ℕ → Variable → Bool
is_among globals (v.Global g) = has_global globals g
is_among globals (v.Parameter k) = false
is_among globals v.Result = false

-- none of these globals is the variable of an open loop
abbrev pub are_free : Loops → List ℕ → Bool
are_free loops globals = not (list_any (λ l. is_among globals l.1) loops)

-- the scope of a loop's body
abbrev pub within : Scope → Option ℕ → Variable → Scope
within s over variable = record s { loops = s.loops ++ (over, variable) ∷ [] }
