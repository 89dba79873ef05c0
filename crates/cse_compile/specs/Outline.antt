-- The routines of a typed source, and the events that run them.
use Rattle.std.specs.Prelude.{ℕ, ◌+◌, Bool, true, false, ◌&&◌, List, [], ◌∷◌, ◌++◌, length, map, replicate, if◌then◌else◌, Option, Some, None}
use Rattle.std.specs.List.{flat_map}
use Rattle.cse_image_parts.specs.declared.entries.Ambient.{Ambient}
use Rattle.cse_image_parts.specs.declared.entries.Ambient.TheVariants as ambients
use Rattle.cse_image_parts.specs.declared.entries.Gift.{Gift}
use Rattle.cse_image_parts.specs.declared.entries.Gift.TheVariants as gifts
use Rattle.cse_image_parts.specs.declared.entries.Local.{Local}
use Rattle.cse_image_parts.specs.declared.entries.LocalKind.TheVariants as kinds
use Rattle.cse_image_parts.specs.declared.entries.Event.{Event}
use Rattle.cse_image_parts.specs.declared.entries.EventCode.TheVariants as events
use Rattle.cse_image_parts.specs.Image.{RoutineLists}
use Rattle.cse_logic_tree.specs.declared.tree.Owner.{Owner}
use Rattle.cse_logic_tree.specs.declared.tree.Owner.TheVariants as owners
use Rattle.cse_logic_tree.specs.Typed.{Statement, Statements, Empty, no_statement, statement_and, block, Function, Declaration, Numeric, Alpha, Array', Function', Body, Plain, Preproc, Both, Postproc, Procedure}
use Rattle.cse_compile.specs.declared.outlines.RoutineSort.{RoutineSort}
use Rattle.cse_compile.specs.declared.outlines.RoutineSort.TheVariants as sorts
use Rattle.cse_compile.specs.declared.outlines.Outline as rust
use Rattle.cse_compile.specs.declared.outlines.Handler as rusthandler

-- ---- routines

-- a routine, without its code
pub record Outline : Type 0 where
  pub sort : RoutineSort
  pub body : Statements

-- a procedure's routine, and the event that runs it
pub record Handler : Type 0 where
  pub event : Event
  pub outline : Outline

abbrev pub outline : rust.Outline → Outline
outline x = record { sort = x.sort; body = block x.body.now.items }

abbrev pub handler : rusthandler.Handler → Handler
handler x = record { event = x.event; outline = outline x.outline }

-- the application's procedures have no case, and a function has one if it needs it
abbrev pub ambient_of : RoutineSort → Ambient
ambient_of (sorts.Function count true) = ambients.Case
ambient_of (sorts.Function count false) = ambients.Run
ambient_of (sorts.Procedure owners.Application) = ambients.Run
ambient_of (sorts.Procedure owners.Level) = ambients.Case
ambient_of (sorts.Procedure (owners.Record x)) = ambients.Case
ambient_of (sorts.Procedure (owners.Item f)) = ambients.Case

abbrev pub gives_of : RoutineSort → Gift
gives_of (sorts.Function count needs) = gifts.Number
gives_of (sorts.Procedure owner) = gifts.Nothing

-- an item's procedure has an occurrence of its record
abbrev pub parameters_of : RoutineSort → ℕ
parameters_of (sorts.Function count needs) = count
parameters_of (sorts.Procedure owners.Application) = 0
parameters_of (sorts.Procedure owners.Level) = 0
parameters_of (sorts.Procedure (owners.Record x)) = 0
parameters_of (sorts.Procedure (owners.Item f)) = 1

-- the local of a function's result stands behind its parameters
abbrev pub result_at : RoutineSort → Option ℕ
result_at (sorts.Function count needs) = Some count
result_at (sorts.Procedure owner) = None

abbrev pub number_local : Local
number_local = record { kind = kinds.Number; owner = 0; length = 0 }

abbrev pub occurrence_local : ℕ → Local
occurrence_local of = record { kind = kinds.Occurrence; owner = of; length = 0 }

abbrev pub numbers : ℕ → List Local
numbers count = replicate count number_local

abbrev pub locals_of : RoutineSort → List Local
locals_of (sorts.Function count needs) = numbers count ++ number_local ∷ []
locals_of (sorts.Procedure owners.Application) = []
locals_of (sorts.Procedure owners.Level) = []
locals_of (sorts.Procedure (owners.Record x)) = []
locals_of (sorts.Procedure (owners.Item f)) = occurrence_local f.owner ∷ []

-- with so many instructions
abbrev pub routine_of : RoutineSort → ℕ → RoutineLists
routine_of sort instructions = record { ambient = ambient_of sort; gives = gives_of sort; parameters = parameters_of sort; locals = locals_of sort; instructions = instructions }

-- ---- functions

abbrev pub outline_of : Function → Outline
outline_of f = record { sort = sorts.Function (length f.parameters) f.needs_case; body = f.body }

abbrev pub function_of : Declaration → List Outline
function_of (Numeric names) = []
function_of (Alpha digits size names) = []
function_of (Array' array) = []
function_of (Function' f) = outline_of f ∷ []

abbrev pub functions_in : List Declaration → List Outline
functions_in ds = flat_map function_of ds

-- ---- procedures

abbrev pub is_empty : Statement → Bool
is_empty Empty = true
is_empty _ = false

-- no statement but `;`
abbrev pub is_idle : Statements → Bool
is_idle no_statement = true
is_idle (statement_and x xs) = is_empty x && is_idle xs

-- what happens before an owner's part of the run, or after it
abbrev pub event_of : Owner → Bool → Event
event_of owners.Application false = record { code = events.ApplicationPreproc; index = 0 }
event_of owners.Application true = record { code = events.ApplicationPostproc; index = 0 }
event_of owners.Level false = record { code = events.LevelPreproc; index = 0 }
event_of owners.Level true = record { code = events.LevelPostproc; index = 0 }
event_of (owners.Record x) false = record { code = events.RecordPreproc; index = x }
event_of (owners.Record x) true = record { code = events.RecordPostproc; index = x }
event_of (owners.Item f) false = record { code = events.ItemPreproc; index = f.item }
event_of (owners.Item f) true = record { code = events.ItemPostproc; index = f.item }

-- a part of a procedure has a routine if a statement stands there
abbrev pub handler_of : Owner → Bool → Statements → List Handler
handler_of owner is_after body =
    if is_idle body then []
    else record { event = event_of owner is_after; outline = record { sort = sorts.Procedure owner; body = body } } ∷ []

-- statements without a word before them come after
abbrev pub handlers_of_body : Owner → Body → List Handler
handlers_of_body owner (Plain xs) = handler_of owner true xs
handlers_of_body owner (Preproc xs) = handler_of owner false xs
handlers_of_body owner (Both xs ys) = handler_of owner false xs ++ handler_of owner true ys
handlers_of_body owner (Postproc xs) = handler_of owner true xs

abbrev pub handlers_of : Procedure → List Handler
handlers_of x = handlers_of_body x.owner x.body

abbrev pub handlers_in : List Procedure → List Handler
handlers_in xs = flat_map handlers_of xs
