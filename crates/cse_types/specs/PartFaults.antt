-- The faults of parts of a source: of its declarations, without their names, and of its procedures.
use Rattle.std.specs.Prelude.{ℕ, Bool, true, false, ◌&&◌, not, ◌==◌, List, [], ◌∷◌, ◌++◌, length, slice_get, unwrap_or, Option, Some, None}
use Rattle.std.specs.List.{list_any}
use Rattle.std.specs.Str.{bytes_eq}
use Rattle.cse_value.specs.declared.shape.ItemKind.{ItemKind}
use Rattle.cse_value.specs.declared.shape.ItemKind.TheVariants as kind
use Rattle.cse_dict.specs.Dictionary.{DictionaryText}
use Rattle.cse_dict.specs.Keys.{kept_name}
use Rattle.cse_syntax_tree.specs.Tree as syntax
use Rattle.cse_syntax_tree.specs.Tree.{Spelling}
use Rattle.cse_logic_tree.specs.declared.tree.Owner.{Owner}
use Rattle.cse_logic_tree.specs.declared.tree.Owner.TheVariants as o
use Rattle.cse_logic_names.specs.declared.meaning.Meaning.{Meaning}
use Rattle.cse_logic_names.specs.declared.meaning.Meaning.TheVariants as m
use Rattle.cse_logic_names.specs.Scope.{Scope, meant, in_dictionary, kind_and_owner}
use Rattle.cse_logic_names.specs.Walk.{is_there}
use Rattle.cse_logic_names.specs.WellTyped.{size_of, rows_of, parameter_names, owner_meant, procedure_scope}
use Rattle.cse_logic_faults.specs.Faults.{Fault, only, unless, Counts}
use Rattle.cse_logic_faults.specs.FaultsOfExpressions.{set_faults}
use Rattle.cse_logic_faults.specs.FaultsOfStatements.{digits_faults, stmts_faults}
use Rattle.cse_types.specs.Names.{is_new}
use Rattle.cse_types.specs.Fresh.{body_scope, fresh_names}
use Rattle.cse_types.specs.NameFaults.{and_name}

-- ---- declarations

abbrev pub size_faults : ℕ → Spelling → List Fault
size_faults most digits = unless (is_there (size_of most digits)) 44 digits.token

-- a set without rows is no dimension
abbrev pub rows_faults : DictionaryText → ℕ → Option Meaning → List Fault
rows_faults d token (Some (m.Set k)) = unless (is_there (rows_of (slice_get d.sets k))) 49 token
rows_faults d token _ = []

abbrev pub set_dimension_faults : Scope → Spelling → List Fault
set_dimension_faults s name = set_faults s.dictionary name.token (meant s name) ++ rows_faults s.dictionary name.token (meant s name)

abbrev pub dimension_faults : Scope → syntax.Dimension → List Fault
dimension_faults s (syntax.Sized digits) = size_faults 65535 digits
dimension_faults s (syntax.Rows name one_more) = set_dimension_faults s name

abbrev pub dimensions_faults : Scope → List syntax.Dimension → List Fault
dimensions_faults s [] = []
dimensions_faults s (x ∷ xs) = dimension_faults s x ++ dimensions_faults s xs

abbrev pub cells_faults : List syntax.Literal → List Fault
cells_faults [] = []
cells_faults (x ∷ xs) = digits_faults x.digits ++ cells_faults xs

abbrev pub array_faults : Scope → syntax.Array → List Fault
array_faults s x = dimensions_faults s x.dimensions ++ cells_faults x.cells

-- the scope of a function's body, with those of its parameters that are new
abbrev pub parameters_scope : Scope → List syntax.Parameter → Scope
parameters_scope s ps = body_scope s (fresh_names (is_new s.dictionary s.declared) (parameter_names ps)).names

-- a declaration, without its names
abbrev pub declaration_faults : Counts → Scope → syntax.Declaration → List Fault
declaration_faults c s (syntax.Numeric names) = []
declaration_faults c s (syntax.Alpha digits names) = size_faults 255 digits
declaration_faults c s (syntax.Array' x) = array_faults s x
declaration_faults c s (syntax.Function' name ps body) = stmts_faults c (parameters_scope s ps) body

-- ---- procedures

abbrev pub may_own : Option Meaning → Bool
may_own (Some m.Application) = true
may_own (Some m.Level) = true
may_own (Some (m.Record x)) = true
may_own (Some (m.Item item)) = true
may_own _ = false

-- an item that has no procedure: an opaque one, or an id item
abbrev pub own_item_faults : ℕ → Option (ItemKind × ℕ) → List Fault
own_item_faults token None = only 49 token
own_item_faults token (Some (kind.Opaque, owner)) = only 41 token
own_item_faults token (Some (k, owner)) = unless (not (owner == 255)) 49 token

abbrev pub own_faults : DictionaryText → ℕ → Option Meaning → List Fault
own_faults d token (Some (m.Item item)) = own_item_faults token (kind_and_owner d item)
own_faults d token _ = []

-- the name of a procedure, which is one of the dictionary, and stands once
abbrev pub owner_faults : DictionaryText → List (List ℕ) → Spelling → Option Meaning → List Fault
owner_faults d before name meaning =
    unless (may_own meaning && not (list_any (bytes_eq (kept_name name.text)) before)) 40 name.token ++ own_faults d name.token meaning

abbrev pub body_faults : Counts → Scope → syntax.Body → List Fault
body_faults c s (syntax.Plain xs) = stmts_faults c s xs
body_faults c s (syntax.Preproc xs) = stmts_faults c s xs
body_faults c s (syntax.Both xs ys) = stmts_faults c s xs ++ stmts_faults c s ys
body_faults c s (syntax.Postproc xs) = stmts_faults c s xs

-- what a procedure belongs to; one of an unknown name is looked at as the level's
abbrev pub owner_or_level : DictionaryText → Option Meaning → Owner
owner_or_level d meaning = unwrap_or (owner_meant d meaning) o.Level

abbrev pub procedure_faults : Counts → Scope → List (List ℕ) → syntax.Procedure → List Fault
procedure_faults c s before x =
    let meaning = in_dictionary s.dictionary x.name.text in
    owner_faults s.dictionary before x.name meaning ++ body_faults c (procedure_scope s (owner_or_level s.dictionary meaning)) x.body

-- procedures, in order, behind those of these names
abbrev pub procedures_faults : Counts → Scope → List (List ℕ) → List syntax.Procedure → List Fault
procedures_faults c s before [] = []
procedures_faults c s before (x ∷ xs) = procedure_faults c s before x ++ procedures_faults c s (and_name before (kept_name x.name.text)) xs

-- ---- counts

abbrev pub parameters_in : List syntax.Declaration → List ℕ
parameters_in [] = []
parameters_in (syntax.Numeric names ∷ ds) = parameters_in ds
parameters_in (syntax.Alpha size names ∷ ds) = parameters_in ds
parameters_in (syntax.Array' x ∷ ds) = parameters_in ds
parameters_in (syntax.Function' name ps body ∷ ds) = length ps ∷ parameters_in ds

abbrev pub dimensions_in : List syntax.Declaration → List ℕ
dimensions_in [] = []
dimensions_in (syntax.Numeric names ∷ ds) = dimensions_in ds
dimensions_in (syntax.Alpha size names ∷ ds) = dimensions_in ds
dimensions_in (syntax.Array' x ∷ ds) = length x.dimensions ∷ dimensions_in ds
dimensions_in (syntax.Function' name ps body ∷ ds) = dimensions_in ds

abbrev pub counts_in : List syntax.Declaration → Counts
counts_in ds = record { parameters = parameters_in ds; dimensions = dimensions_in ds }
