-- Events of a program leave what its logic means.
use Rattle.std.proofs.Common.{◌≡◌, ℕ, ◌+◌, ◌<◌, ◌≤◌, Bool, true, false, List, [], ◌∷◌, length, Option, Some, None, refl, sym, ap, ◌∙◌, subst, inl, inr, arith}
use Rattle.std.specs.Prelude.{slice_get}
use Rattle.std.specs.Option.{option_map_or}
use Rattle.std.proofs.lemmas.Bool.{and_from, le-leb, false≢true, cases_lt}
use Rattle.cse_value.specs.declared.shape.ItemShape.{ItemShape}
use Rattle.cse_image_parts.specs.declared.entries.Event.{Event}
use Rattle.cse_image_parts.specs.declared.entries.Gift.TheVariants as gifts
use Rattle.cse_image_parts.specs.Image.{Image, RoutineLists}
use Rattle.cse_case.specs.Case.{CaseText}
use Rattle.cse_decks.specs.Store.{Kept}
use Rattle.cse_verify.specs.CaseEvents.{Moment, event_bound}
use Rattle.cse_code_typing.specs.Code.{code_of}
use Rattle.cse_code_typing.specs.Handlers.{routine_of}
use Rattle.cse_code_typing.specs.Order.{is_run}
use Rattle.cse_code_typing.specs.Signature.{local_at}
use Rattle.cse_code_typing.specs.declared.kind.Kind.{Kind}
use Rattle.cse_code_typing.specs.declared.kind.Kind.TheVariants as kind
use Rattle.cse_verify.specs.Verified.{VerifiedProgram}
use Rattle.cse_logic_tree.specs.declared.tree.Owner.{Owner}
use Rattle.cse_logic_tree.specs.declared.tree.Owner.TheVariants as owners
use Rattle.cse_logic_tree.specs.declared.tree.Field.{Field}
use Rattle.cse_logic_tree.specs.Typed.{Statements, Tree}
use Rattle.cse_compile.specs.declared.outlines.RoutineSort.TheVariants as sorts
use Rattle.cse_compile.specs.Outline.{Outline, event_of, routine_of as routine_for}
use Rattle.cse_compile.specs.Tables.{functions_in}
use Rattle.cse_compile.specs.Setting.{Setting}
use Rattle.cse_compile.specs.Routines.{no_loop, routine_code}
use Rattle.cse_compile.specs.Statements.{block_size, block_code, exit_code}
use Rattle.cse_meaning.proofs.TypedBlocks.{block_length}
use Rattle.cse_steps.specs.Cell.{Cell, Occurrence}
use Rattle.cse_steps.specs.State.{Call, World, State}
use Rattle.cse_steps.specs.Operands.{is_within}
use Rattle.cse_steps.specs.Step.{new_call}
use Rattle.cse_steps.specs.Run.{run, first, first_calls, event_arguments}
use Rattle.cse_steps.specs.Fits.{FitsWorld, FitsFirst, IsThere, is_of_run, occurrences_in}
use Rattle.cse_steps.specs.Laws.{RunsCompose, EventsEnd}
use Rattle.cse_steps.proofs.Outcomes.{end_once}
use Rattle.cse_meaning.specs.Setting.{Context, Functions}
use Rattle.cse_meaning.specs.Statements.{Flow, Fell, Broke, Skipped, Left, all_do}
use Rattle.cse_meaning.specs.Meaning.{world_of, begun, declarations, context, functions, meaning, done_by}
use Rattle.cse_meaning.specs.Means.{begins, RunsTo}
use Rattle.cse_meaning.specs.Runs.{Goes, Spot, at, HasCode}
use Rattle.cse_meaning.specs.Laid.{IsLaid}
use Rattle.cse_meaning.specs.Follows.{Follows}
use Rattle.cse_meaning.specs.Lands.{Around, Lands}
use Rattle.cse_meaning.specs.Whole.{setting_of, HasFunctions, IsHandled, EventsMean}
use Rattle.cse_meaning.proofs.Going.{joined, stand_front, stand_back}
use Rattle.cse_meaning.proofs.Landing.{exits}
use Rattle.cse_meaning.proofs.Rows.{keeps_rows}
use Rattle.cse_meaning.proofs.Statements.{block_lands}
use Rattle.cse_meaning.proofs.Functions.{follow}

-- ---- the first state of an event

-- the locals of a procedure's routine: an item's occurrence
abbrev locals_for : Owner → ℕ → List Cell
locals_for owners.Application o = []
locals_for owners.Level o = []
locals_for (owners.Record x) o = []
locals_for (owners.Item f) o = Occurrence o f.owner ∷ []

abbrev routine : Owner → ℕ → RoutineLists
routine owner instructions = routine_for (sorts.Procedure owner) instructions

calls_for : (owner : Owner) (instructions r o : ℕ) → new_call r (routine owner instructions) (event_arguments (routine owner instructions) o) ≡ record { routine = r; place = 0; locals = locals_for owner o; cells = []; opens = [] }
calls_for owners.Application instructions r o = refl
calls_for owners.Level instructions r o = refl
calls_for (owners.Record x) instructions r o = refl
calls_for (owners.Item f) instructions r o = refl

-- none is a number
no_numbers : (owner : Owner) (instructions k : ℕ) → local_at (routine owner instructions) 0 ≡ Some kind.Number → ⊥
no_numbers owners.Application instructions k e = cc
no_numbers owners.Level instructions k e = cc
no_numbers (owners.Record x) instructions k e = cc
no_numbers (owners.Item f) instructions k e = cc

-- a routine that needs a case runs for an event of a case
needs_case : (owner : Owner) (is_after : Bool) (instructions : ℕ) → is_run (routine owner instructions).ambient ≡ false → is_of_run (event_of owner is_after).code ≡ false
needs_case owners.Application is_after instructions e = cc
needs_case owners.Level true instructions e = refl
needs_case owners.Level false instructions e = refl
needs_case (owners.Record x) true instructions e = refl
needs_case (owners.Record x) false instructions e = refl
needs_case (owners.Item f) true instructions e = refl
needs_case (owners.Item f) false instructions e = refl

abbrev occurrence_of : Option Kind → ℕ
occurrence_of (Some (kind.Occurrence of)) = of
occurrence_of _ = 0

-- an item's event is of an occurrence that is there
within_event : (f : Field) (is_after : Bool) (x : Image) (n : ℕ → ℕ) (o : ℕ) → IsThere x n (event_of (owners.Item f) is_after).code (event_of (owners.Item f) is_after).index o → ((y : ItemShape) × (slice_get x.lists.items f.item ≡ Some y) × (y.owner ≡ f.owner))
    → is_within (n f.owner) o ≡ true
within_event f true x n o there item =
    let b = there item.0 item.1 in
    subst (λ of. is_within (n of) o ≡ true) item.2 (and_from _ _ (le-leb 1 o b.0) (le-leb o (n item.0.owner) b.1))
within_event f false x n o there item =
    let b = there item.0 item.1 in
    subst (λ of. is_within (n of) o ≡ true) item.2 (and_from _ _ (le-leb 1 o b.0) (le-leb o (n item.0.owner) b.1))

has_occurrence : (owner : Owner) (is_after : Bool) (instructions : ℕ) (x : Image) (n : ℕ → ℕ) (o of : ℕ) → IsThere x n (event_of owner is_after).code (event_of owner is_after).index o
    → ((f : Field) → owner ≡ owners.Item f → (y : ItemShape) × (slice_get x.lists.items f.item ≡ Some y) × (y.owner ≡ f.owner)) → local_at (routine owner instructions) 0 ≡ Some (kind.Occurrence of)
    → (slice_get (locals_for owner o) 0 ≡ Some (Occurrence o of)) × (is_within (n of) o ≡ true)
has_occurrence owners.Application is_after instructions x n o of there item e = cc
has_occurrence owners.Level is_after instructions x n o of there item e = cc
has_occurrence (owners.Record y) is_after instructions x n o of there item e = cc
has_occurrence (owners.Item f) is_after instructions x n o of there item e =
    let same : f.owner ≡ of = ap occurrence_of e in
    (ap (λ of. Some (Occurrence o of)) same, subst (λ of. is_within (n of) o ≡ true) same (within_event f is_after x n o there (item f refl)))

-- ---- functions below a routine of an event

wider : (v : VerifiedProgram) (first : Option CaseText) (fn : Functions) (n r : ℕ) → Follows v first fn n → ((k : ℕ) (y : RoutineLists) → n ≤ k → slice_get v.image.lists.routines k ≡ Some y → y.gives ≡ gifts.Number → ⊥) → Follows v first fn r
wider v first fn n r follows others = record {
  goes = λ k y args caller below w less is gives are ambient fits. follows.goes k y args caller below w (below_all k y is gives) is gives are ambient fits;
  fits = λ k y args w less is gives are ambient fits. follows.fits k y args w (below_all k y is gives) is gives are ambient fits;
}
  where
    below_all : (k : ℕ) (y : RoutineLists) → slice_get v.image.lists.routines k ≡ Some y → y.gives ≡ gifts.Number → k < n
    below_all k y is gives = elim (cases_lt k n) [
      | inl less ↦ less
      | inr more ↦ absurd (others k y (omega arith) is gives)
    ]

-- ---- events

module _ (compose : RunsCompose) (v : VerifiedProgram) (t : Tree) (m : Moment) (case : Option CaseText) (store : Kept) (r : ℕ) (owner : Owner) (is_after : Bool) (body : Statements) (has : HasFunctions v t) (handled : IsHandled v t m.event r owner is_after body) (fit : FitsFirst v m case store) where
  abbrev outline : Outline
  outline = record { sort = sorts.Procedure owner; body = body }

  abbrev c : Context
  c = context v.dictionary t m.occurrence

  abbrev setting : Setting
  setting = setting_of v (context v.dictionary t 0).arrays outline

  abbrev fn : Functions
  fn = functions v.dictionary t

  abbrev spot : Spot
  spot = record { program = v; number = r; routine = routine owner handled.is.instructions; locals = locals_for owner m.occurrence; opens = []; below = [] }

  abbrev around : Around
  around = record { is_loop = false; opens = []; loops = [] }

  abbrev w0 : World
  w0 = begins case store

  world_fits : FitsWorld v case w0
  world_fits = record { present = refl; occurrences = λ r. refl; case_fits = fit.case_fits; dictionary = fit.dictionary; store = fit.store_fits }

  follows : Follows v case fn r
  unfolding functions
  follows = wider v case fn (length (functions_in (declarations t))) r (follow compose v (context v.dictionary t 0) case has.is_of (functions_in (declarations t)) has.routines (length (functions_in (declarations t))) (omega arith)) has.others

  laid : IsLaid setting spot c case (begun [])
  laid = record {
    there = handled.is.there;
    dictionary = refl;
    arrays = has.is_of.arrays;
    records = refl;
    ambient = λ e. fit.present (ap (λ (e : Event). is_of_run e.code) handled.event_is ∙ needs_case owner is_after handled.is.instructions e);
    parameters = λ k x e. cc;
    apart = omega arith;
    result = λ e. absurd (no_numbers owner handled.is.instructions 0 e);
    event = λ of e. has_occurrence owner is_after handled.is.instructions v.image (occurrences_in case) m.occurrence of (subst (λ (e : Event). IsThere v.image (occurrences_in case) e.code e.index m.occurrence) handled.event_is fit.there) handled.item_is e;
    loops = λ of e. absurd (false≢true e);
  }

  ends : (flow : Flow) (q : ℕ) → Lands setting spot c case 0 no_loop around 0 q w0 flow → HasCode spot q (exit_code setting) → Goes v (at spot 0 [] w0) (record { calls = []; world = world_of flow })
  ends (Fell ls u) q h has_exit =
      let x = exits compose setting spot fn c case 0 has.is_of.sound (keeps_rows v.dictionary has.is_of.sound) follows None refl refl h.locals [] [] ls q u h.laid h.fits has_exit in
      joined compose v _ _ _ h.goes x.goes
  ends (Left ls u) q h has_exit = h.goes
  ends (Broke ls u) q h has_exit = absurd (false≢true h.0)
  ends (Skipped ls u) q h has_exit = absurd (false≢true h.0)

  goes : Goes v (first v m case store) (record { calls = []; world = meaning v.dictionary t m w0 })
  unfolding first meaning routine_code
  goes =
      let code = handled.is.stands in
      let front = stand_front v.image.lists (code_of v.image r) 0 (block_code setting no_loop 0 body) _ code in
      let exit = stand_back v.image.lists (code_of v.image r) 0 (block_size setting body) (block_code setting no_loop 0 body) _ (block_length setting no_loop 0 body) code in
      let lands = block_lands compose setting spot fn c case 0 has.is_of.sound (keeps_rows v.dictionary has.is_of.sound) follows refl body 64 false (locals_for owner m.occurrence) [] [] (begun []) no_loop around 0 w0 laid refl world_fits (λ e. absurd (false≢true e)) handled.is.plain handled.is.fits front in
      let g = ends (all_do fn c body (begun []) w0) (0 + block_size setting body) lands exit in
      let begun_at : first_calls v.image m.occurrence (routine_of v.image.lists.events m.event) ≡ record { routine = r; place = 0; locals = locals_for owner m.occurrence; cells = []; opens = [] } ∷ [] =
      ap (first_calls v.image m.occurrence) handled.routine_is
      ∙ (ap (λ o. option_map_or (λ (y : RoutineLists). new_call r y (event_arguments y m.occurrence) ∷ []) o []) handled.is.there
      ∙ ap (λ (k : Call). k ∷ []) (calls_for owner handled.is.instructions r m.occurrence)) in
      let left : meaning v.dictionary t m w0 ≡ world_of (all_do fn c body (begun []) w0) = ap (done_by v.dictionary t m.occurrence w0) handled.statements_are in
      subst (λ u. Goes v (first v m case store) (record { calls = []; world = u })) (sym left)
      (subst (λ calls. Goes v (record { calls = calls; world = w0 }) (record { calls = []; world = world_of (all_do fn c body (begun []) w0) })) (sym begun_at) g)

  means : EventsEnd v → RunsTo v m case store (meaning v.dictionary t m w0)
  means ends_all =
      let e = ends_all m case store fit in
      let steps = (end_once v (first v m case store) (record { calls = []; world = meaning v.dictionary t m w0 }) e.state goes.steps e.steps goes.by refl e.runs e.ended).steps in (
        goes.steps,
        record {
          state = record { calls = []; world = meaning v.dictionary t m w0 };
          runs = goes.by;
          ended = refl;
          world = refl;
          within = subst (λ n. n ≤ event_bound v.image m.event) (sym steps) e.within;
        },
      )

pub all_mean : RunsCompose → EventsMean
all_mean compose v t m case store r owner is_after body ends has handled fit = means compose v t m case store r owner is_after body has handled fit ends
