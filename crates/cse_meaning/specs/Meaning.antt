-- What functions give, and what an event does.
use Rattle.std.specs.Prelude.{ℕ, zero, suc, ◌==◌, if◌then◌else◌, Bool, true, false, not, ◌&&◌, List, [], length, map, find, Option, Some, None, slice_get}
use Rattle.cse_value.specs.declared.number.Num.{Num}
use Rattle.cse_value.specs.declared.number.Num.TheVariants.{Undef}
use Rattle.cse_image_parts.specs.declared.entries.Event.{Event}
use Rattle.cse_image_parts.specs.declared.entries.EventCode.{EventCode}
use Rattle.cse_image_parts.specs.declared.entries.EventCode.TheVariants as codes
use Rattle.cse_image_parts.specs.Image.{ArrayLists}
use Rattle.cse_dict.specs.Dictionary.{DictionaryText}
use Rattle.cse_verify.specs.CaseEvents.{Moment}
use Rattle.cse_logic_tree.specs.declared.tree.Owner.{Owner}
use Rattle.cse_logic_tree.specs.declared.tree.Owner.TheVariants as owners
use Rattle.cse_logic_tree.specs.Typed.{Statement, Statements, Empty, no_statement, statement_and, Body, Plain, Preproc, Both, Postproc, Procedure, Function, Declaration, Tree}
use Rattle.cse_compile.specs.Tables.{arrays_in, functions_in}
use Rattle.cse_steps.specs.State.{World}
use Rattle.cse_meaning.specs.Setting.{Context, Locals, Valued, Functions}
use Rattle.cse_meaning.specs.Statements.{Flow, Fell, Broke, Skipped, Left, all_do}

-- ---- how it ended

abbrev pub locals_of : Flow → Locals
locals_of (Fell ls w) = ls
locals_of (Broke ls w) = ls
locals_of (Skipped ls w) = ls
locals_of (Left ls w) = ls

abbrev pub world_of : Flow → World
world_of (Fell ls w) = w
world_of (Broke ls w) = w
world_of (Skipped ls w) = w
world_of (Left ls w) = w

-- ---- functions

-- what a function begins with: its arguments, and the result `default`
abbrev pub begun : List Num → Locals
begun arguments = record { parameters = arguments; result = Undef }

abbrev pub valued_of : Flow → Valued Num
valued_of flow = ((locals_of flow).result, world_of flow)

abbrev pub function_of : Functions → Context → Option Function → List Num → World → Valued Num
function_of fn c None arguments w = (Undef, w)
function_of fn c (Some f) arguments w = valued_of (all_do fn c f.body (begun arguments) w)

-- the functions below number n, each by those below it
unfoldable pub functions_below : Context → List Function → ℕ → Functions
functions_below c fs zero k arguments w = (Undef, w)
functions_below c fs (suc n) k arguments w =
    if k == n then function_of (functions_below c fs n) c (slice_get fs n) arguments w
    else functions_below c fs n k arguments w

-- ---- events

abbrev pub declarations_in : Option (List Declaration) → List Declaration
declarations_in None = []
declarations_in (Some ds) = ds

abbrev pub declarations : Tree → List Declaration
declarations t = declarations_in t.globals

-- of an event that is of this occurrence, outside of loops
abbrev pub context : DictionaryText → Tree → ℕ → Context
context d t o = record {
  dictionary = d;
  arrays = map (λ (x : ArrayLists). x.dimensions) (arrays_in (declarations t));
  event = o;
  loops = [];
}

-- all functions of a source; none has an event
unfoldable pub functions : DictionaryText → Tree → Functions
functions d t = functions_below (context d t 0) (functions_in (declarations t)) (length (functions_in (declarations t)))

-- what a body says before its owner's part of the run, and after it; statements without a word before them come after
abbrev pub before : Body → Statements
before (Plain xs) = no_statement
before (Preproc xs) = xs
before (Both xs ys) = xs
before (Postproc xs) = no_statement

abbrev pub after : Body → Statements
after (Plain xs) = xs
after (Preproc xs) = no_statement
after (Both xs ys) = ys
after (Postproc xs) = xs

-- the event comes before this owner's part of the run, or after it
abbrev pub is_before : EventCode → ℕ → Owner → Bool
is_before codes.ApplicationPreproc index owners.Application = 0 == index
is_before codes.LevelPreproc index owners.Level = 0 == index
is_before codes.RecordPreproc index (owners.Record r) = r == index
is_before codes.ItemPreproc index (owners.Item f) = f.item == index
is_before code index owner = false

abbrev pub is_after : EventCode → ℕ → Owner → Bool
is_after codes.ApplicationPostproc index owners.Application = 0 == index
is_after codes.LevelPostproc index owners.Level = 0 == index
is_after codes.RecordPostproc index (owners.Record r) = r == index
is_after codes.ItemPostproc index (owners.Item f) = f.item == index
is_after code index owner = false

-- what the procedure of an owner says of an event
abbrev pub part : Event → Owner → Body → Statements
part e owner body =
    if is_before e.code e.index owner then before body
    else (if is_after e.code e.index owner then after body
    else no_statement)

abbrev pub is_semicolon : Statement → Bool
is_semicolon Empty = true
is_semicolon _ = false

-- no statement but `;`
abbrev pub is_silent : Statements → Bool
is_silent no_statement = true
is_silent (statement_and x xs) = is_semicolon x && is_silent xs

-- the statements of an event: those of the first procedure that says something of it
abbrev pub statements_of : Tree → Event → Option Statements
statements_of t e = find (λ xs. not (is_silent xs)) (map (λ (x : Procedure). part e x.owner x.body) t.procedures)

abbrev pub done_by : DictionaryText → Tree → ℕ → World → Option Statements → World
done_by d t o w None = w
done_by d t o w (Some xs) = world_of (all_do (functions d t) (context d t o) xs (begun []) w)

-- what an event leaves of case, store and reports; nothing changes where no statement stands
unfoldable pub meaning : DictionaryText → Tree → Moment → World → World
meaning d t m w = done_by d t m.occurrence w (statements_of t m.event)
