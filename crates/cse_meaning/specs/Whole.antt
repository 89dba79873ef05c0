-- The routines of a program are those of a typed source.
use Rattle.std.specs.Prelude.{◌≡◌, ◌≤◌, ℕ, Bool, false, List, [], length, map, Option, Some, slice_get}
use Rattle.cse_image_parts.specs.Image.{ArrayLists, RoutineLists}
use Rattle.cse_dict.specs.Dictionary.{shape_of}
use Rattle.cse_dict.specs.Sound.{IsSound}
use Rattle.cse_value.specs.declared.shape.ItemShape.{ItemShape}
use Rattle.cse_image_parts.specs.declared.entries.Event.{Event}
use Rattle.cse_image_parts.specs.declared.entries.Gift.TheVariants as gifts
use Rattle.cse_case.specs.Case.{CaseText}
use Rattle.cse_decks.specs.Store.{Kept}
use Rattle.cse_verify.specs.CaseEvents.{Moment}
use Rattle.cse_code_typing.specs.Handlers.{routine_of}
use Rattle.cse_steps.specs.Laws.{EventsEnd}
use Rattle.cse_steps.specs.Fits.{FitsFirst}
use Rattle.cse_code_typing.specs.Code.{code_of}
use Rattle.cse_verify.specs.Verified.{VerifiedProgram}
use Rattle.cse_logic_tree.specs.declared.tree.Field.{Field}
use Rattle.cse_logic_tree.specs.declared.tree.Owner.{Owner}
use Rattle.cse_logic_tree.specs.declared.tree.Owner.TheVariants as owners
use Rattle.cse_logic_tree.specs.Typed.{Statements, Function, Tree}
use Rattle.cse_compile.specs.declared.outlines.RoutineSort.TheVariants as sorts
use Rattle.cse_compile.specs.Outline.{Outline, outline_of, result_at, event_of, routine_of as routine_for}
use Rattle.cse_compile.specs.Tables.{functions_in}
use Rattle.cse_compile.specs.Setting.{Setting}
use Rattle.cse_compile.specs.Routines.{routine_code}
use Rattle.cse_meaning.specs.Fit.{BlockFits}
use Rattle.cse_meaning.specs.Emitted.{spot_of}
use Rattle.cse_meaning.specs.Setting.{Context}
use Rattle.cse_meaning.specs.Runs.{StandAt}
use Rattle.cse_meaning.specs.Follows.{Follows}
use Rattle.cse_meaning.specs.Plain.{IsPlainBlock}
use Rattle.cse_meaning.specs.Meaning.{functions_below, declarations, context, statements_of, meaning}
use Rattle.cse_meaning.specs.Means.{begins, RunsTo}

-- what the code of a routine depends on besides its tree
abbrev pub setting_of : VerifiedProgram → List (List ℕ) → Outline → Setting
setting_of v arrays o = record { records = (shape_of v.dictionary).records; arrays = arrays; result_at = result_at o.sort }

-- Routine r of the program is that of an outline: its entry says so, its statements fit the tables, and its instructions stand for their
-- code. It names its own parameters, and 64 bits hold the turns of each `do`.
pub record IsRoutineOf (v : VerifiedProgram) (arrays : List (List ℕ)) (r : ℕ) (o : Outline) (parameters : ℕ) : Type 0 where
  pub instructions : ℕ
  pub there : slice_get v.image.lists.routines r ≡ Some (routine_for o.sort instructions)
  pub fits : BlockFits (spot_of (shape_of v.dictionary) v.image r (routine_for o.sort instructions) (setting_of v arrays o)) 64 false o.body
  pub stands : StandAt v.image.lists (code_of v.image r) 0 (routine_code (setting_of v arrays o) o.body)
  pub plain : IsPlainBlock (shape_of v.dictionary).records parameters o.body

-- the meaning is of this program, whose dictionary is sound
pub record IsOf (v : VerifiedProgram) (c : Context) : Type 0 where
  pub dictionary : c.dictionary ≡ v.dictionary
  pub arrays : c.arrays ≡ map (λ (x : ArrayLists). x.dimensions) v.image.lists.arrays
  pub sound : IsSound v.dictionary

-- outside of loops
abbrev pub outside : Context → Context
outside c = record c { loops = [] }

-- the functions are the first routines
abbrev pub AreRoutines : VerifiedProgram → Context → List Function → Type 0
AreRoutines v c fs = (k : ℕ) (f : Function) → slice_get fs k ≡ Some f → IsRoutineOf v c.arrays k (outline_of f) (length f.parameters)

-- Each function of such a source, called with numbers above any calls, comes back with what it means.
abbrev pub FunctionsFollow : Type 0
FunctionsFollow =
    (v : VerifiedProgram) (c : Context) (first : Option CaseText) (fs : List Function) (n : ℕ) → IsOf v c → AreRoutines v c fs → n ≤ length fs → Follows v first (functions_below (outside c) fs n) n

-- ---- events

-- The program is the source's, as far as functions go: these are its first routines, and no other one gives a number.
pub record HasFunctions (v : VerifiedProgram) (t : Tree) : Type 0 where
  pub is_of : IsOf v (context v.dictionary t 0)
  pub routines : AreRoutines v (context v.dictionary t 0) (functions_in (declarations t))
  pub others : (k : ℕ) (y : RoutineLists) → length (functions_in (declarations t)) ≤ k → slice_get v.image.lists.routines k ≡ Some y → y.gives ≡ gifts.Number → ⊥

-- The event runs the routine of its part of a procedure. An item's event is of an item of a record.
pub record IsHandled (v : VerifiedProgram) (t : Tree) (event : Event) (r : ℕ) (owner : Owner) (is_after : Bool) (body : Statements) : Type 0 where
  pub event_is : event ≡ event_of owner is_after
  pub statements_are : statements_of t event ≡ Some body
  pub routine_is : routine_of v.image.lists.events event ≡ Some r
  pub is : IsRoutineOf v (context v.dictionary t 0).arrays r (record { sort = sorts.Procedure owner; body = body }) 0
  pub item_is : (f : Field) → owner ≡ owners.Item f → (x : ItemShape) × (slice_get v.image.lists.items f.item ≡ Some x) × (x.owner ≡ f.owner)

-- On whatever case and store fit, such an event runs to its end, and leaves what the logic means.
abbrev pub EventsMean : Type 0
EventsMean =
    (v : VerifiedProgram) (t : Tree) (m : Moment) (case : Option CaseText) (store : Kept) (r : ℕ) (owner : Owner) (is_after : Bool) (body : Statements)
    → EventsEnd v → HasFunctions v t → IsHandled v t m.event r owner is_after body → FitsFirst v m case store → RunsTo v m case store (meaning v.dictionary t m (begins case store))
