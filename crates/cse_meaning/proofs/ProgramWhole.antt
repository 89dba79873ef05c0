-- A program that was compiled does what its source means.
use Rattle.std.proofs.Common.{◌≡◌, ℕ, suc, ◌+◌, Bool, true, false, cond, List, [], ◌∷◌, length, map, Option, Some, None, refl, sym, ap, ◌∙◌, subst, arith, nat_eq}
use Rattle.std.specs.Prelude.{slice_get, find, option_map}
use Rattle.std.specs.List.{AllByRecursion}
use Rattle.std.proofs.lemmas.Bool.{eq-eqb, eqb-true, and_parts, false≢true}
use Rattle.std.proofs.lemmas.Option.{same_Some, none-some}
use Rattle.cse_value.specs.declared.shape.ItemShape.{ItemShape}
use Rattle.cse_value.specs.Shape.{ShapeLists}
use Rattle.cse_image_parts.specs.Codes.{event_code}
use Rattle.cse_image_parts.specs.declared.entries.Event.{Event}
use Rattle.cse_image_parts.specs.Image.{RoutineLists}
use Rattle.cse_case.specs.Case.{CaseText}
use Rattle.cse_decks.specs.Store.{Kept}
use Rattle.cse_verify.specs.CaseEvents.{Moment}
use Rattle.cse_dict.specs.Dictionary.{DictionaryText, shape_of}
use Rattle.cse_syntax_tree.specs.Tree as syntax
use Rattle.cse_syntax_tree.specs.Word.{Word}
use Rattle.cse_code_typing.specs.Handlers.{routine_of}
use Rattle.cse_code_typing.specs.Order.{handles, handles_item, is_occurrence_of}
use Rattle.cse_code_typing.proofs.HandlerLaws.{handlers_run}
use Rattle.cse_code_typing.specs.Typed.{IsTyped}
use Rattle.cse_verify.specs.Verified.{VerifiedProgram, MayRun}
use Rattle.cse_logic_tree.specs.declared.tree.Field.{Field}
use Rattle.cse_logic_tree.specs.declared.tree.Owner.TheVariants as owners
use Rattle.cse_logic_tree.specs.Typed.{Tree}
use Rattle.cse_logic_names.specs.MessageFile.{MessageText}
use Rattle.cse_logic_names.specs.WellTyped.{with_functions, first_scope, typed_declarations}
use Rattle.cse_compile.specs.declared.outlines.RoutineSort.TheVariants as sorts
use Rattle.cse_compile.specs.Outline as outline
use Rattle.cse_compile.specs.Outline.{Outline, Handler, event_of}
use Rattle.cse_compile.specs.Events.{Table, is_key, table_from, routine_at}
use Rattle.cse_compile.specs.Numbers.{key_of}
use Rattle.cse_compile.specs.Program as program
use Rattle.cse_compile.specs.Program.{handlers}
use Rattle.cse_compile.proofs.NumberLaws.{handlers_keep_numbers}
use Rattle.cse_meaning.specs.Checked.{IsCompiled}
use Rattle.cse_steps.specs.Fits.{FitsFirst}
use Rattle.cse_steps.specs.Laws.{EventsEnd}
use Rattle.cse_steps.specs.State.{World}
use Rattle.cse_steps.specs.Run.{first, run}
use Rattle.cse_steps.proofs.WholeRuns.{composed}
use Rattle.cse_meaning.specs.Meaning.{context, done_by, meaning}
use Rattle.cse_meaning.specs.Tables.{is_same_event, in_table}
use Rattle.cse_meaning.specs.Means.{IsEventOf, RunsTo, Means, begins}
use Rattle.cse_meaning.specs.Whole.{IsRoutineOf, IsHandled}
use Rattle.cse_meaning.proofs.Events.{all_mean}
use Rattle.cse_meaning.proofs.Tables.{tables_agree}
use Rattle.cse_meaning.specs.Meant.{CompiledCodeMeans}
use Rattle.cse_meaning.proofs.Sound.{named_by}
use Rattle.cse_meaning.proofs.Distinct.{events_apart}
use Rattle.cse_code_typing.proofs.HandlerLaws.{one_code}
use Rattle.cse_meaning.proofs.ProgramEntries.{routine_is_at, none_from}
use Rattle.cse_meaning.proofs.ProgramRoutines.{IsPart, all_parts, is_routine, as_many, handler_at, has_functions}

-- ---- the handler of an event

-- it stands among the handlers, and is of the event
record Handles (xs : List Handler) (e : Event) (h : Handler) : Type 0 where
  at : ℕ
  there : slice_get xs at ≡ Some h
  event : is_same_event h.event e ≡ true

next_to : (x : Handler) (xs : List Handler) (e : Event) (h : Handler) → Handles xs e h → Handles (x ∷ xs) e h
next_to x xs e h found = record { at = suc found.at; there = found.there; event = found.event }

handles_it : (e : Event) (xs : List Handler) (h : Handler) → find (λ (x : Handler). is_same_event x.event e) xs ≡ Some h → Handles xs e h
handles_it e [] h is = absurd (none-some h is)
handles_it e (x ∷ xs) h is = by (is_same_event x.event e) refl is (λ more. next_to x xs e h (handles_it e xs h more))
  where
    by : (b : Bool) → is_same_event x.event e ≡ b → cond b (Some x) (find (λ (x : Handler). is_same_event x.event e) xs) ≡ Some h → (find (λ (x : Handler). is_same_event x.event e) xs ≡ Some h → Handles (x ∷ xs) e h) → Handles (x ∷ xs) e h
    by true same is further = let y = same_Some x h is in record { at = 0; there = ap Some y; event = ap (λ (x : Handler). is_same_event x.event e) (sym y) ∙ same }
    by false same is further = further is

-- events of other codes or indexes have other keys
other_way : (e f : Event) → is_same_event f e ≡ false → is_key (event_code e.code, e.index) (event_code f.code, f.index) ≡ false
other_way e f differ = by (is_key (event_code e.code, e.index) (event_code f.code, f.index)) refl
  where
    by : (b : Bool) → is_key (event_code e.code, e.index) (event_code f.code, f.index) ≡ b → b ≡ false
    by false same = refl
    by true same =
        let p = and_parts (nat_eq (event_code e.code) (event_code f.code)) (nat_eq e.index f.index) same in
        let a = eq-eqb (event_code f.code) (event_code e.code) (sym (eqb-true (event_code e.code) (event_code f.code) p.0)) in
        let b = eq-eqb f.index e.index (sym (eqb-true e.index f.index p.1)) in
        let z : is_same_event f e ≡ true = rw (a, b) refl in
        sym z ∙ differ

no_handler : (e : Event) (xs : List Handler) → find (λ (x : Handler). is_same_event x.event e) xs ≡ None → AllByRecursion (λ y. is_key (event_code e.code, e.index) y ≡ false) (map key_of xs)
no_handler e [] is = tt
no_handler e (x ∷ xs) is = by (is_same_event x.event e) refl is (no_handler e xs)
  where
    by : (b : Bool) → is_same_event x.event e ≡ b → cond b (Some x) (find (λ (x : Handler). is_same_event x.event e) xs) ≡ None → (find (λ (x : Handler). is_same_event x.event e) xs ≡ None → AllByRecursion (λ y. is_key (event_code e.code, e.index) y ≡ false) (map key_of xs)) → AllByRecursion (λ y. is_key (event_code e.code, e.index) y ≡ false) (map key_of (x ∷ xs))
    by true same is further = absurd (none-some x (sym is))
    by false same is further = (other_way e x.event same, further is)

one_event : (a b : Event) → is_same_event a b ≡ true → a ≡ b
one_event a b same =
    let p = and_parts (nat_eq (event_code a.code) (event_code b.code)) (nat_eq a.index b.index) same in
    let c : a.code ≡ b.code = one_code a.code b.code (eqb-true (event_code a.code) (event_code b.code) p.0) in
    let i : a.index ≡ b.index = eqb-true a.index b.index p.1 in
    ap (λ c. record { code = c; index = a.index }) c ∙ ap (λ i. record { code = b.code; index = i }) i

-- ---- what an event does

-- nothing runs for an event without a routine
nothing_runs : (v : VerifiedProgram) (m : Moment) (case : Option CaseText) (store : Kept) → routine_of v.image.lists.events m.event ≡ None → RunsTo v m case store (begins case store)
unfolding first run
nothing_runs v m case store none = (0, record { state = first v m case store; runs = refl; ended = rw none refl; world = refl; within = omega arith })

-- and it means nothing
means_nothing : (d : DictionaryText) (t : Tree) (m : Moment) (w : World) → in_table t m.event ≡ None → meaning d t m w ≡ w
unfolding meaning
means_nothing d t m w none = ap (done_by d t m.occurrence w) (tables_agree t m.event ∙ ap (option_map (λ (x : Handler). x.outline.body)) none)

module _ (v : VerifiedProgram) (messages : List MessageText) (named : List ℕ) (source : syntax.Tree) (words : List Word) (t : Tree) (typed : IsTyped (shape_of v.dictionary) v.image) (compiled : IsCompiled v.dictionary messages named source words t v.image) where
  abbrev d : DictionaryText
  d = v.dictionary

  abbrev many : ℕ
  many = length (outline.functions_in (program.declarations t))

  abbrev table : Table
  table = table_from [] many (handlers t)

  routine_at_is : (e : Event) → IsEventOf d e.code e.index → routine_of v.image.lists.events e ≡ routine_at table e.code e.index
  routine_at_is e h = ap (λ es. routine_of es e) compiled.program.events ∙ routine_is_at table d e h

  -- an event without a handler has no routine
  none_runs : (e : Event) → IsEventOf d e.code e.index → in_table t e ≡ None → routine_of v.image.lists.events e ≡ None
  none_runs e h none = routine_at_is e h ∙ none_from (event_code e.code, e.index) many [] (handlers t) refl (no_handler e (handlers t) none)

  module _ (e : Event) (there : IsEventOf d e.code e.index) (h : Handler) (is : in_table t e ≡ Some h) where
    abbrev found : Handles (handlers t) e h
    found = handles_it e (handlers t) h is

    abbrev same : h.event ≡ e
    same = one_event h.event e found.event

    -- its handler's routine is its own
    runs : routine_of v.image.lists.events e ≡ Some (many + found.at)
    runs =
        routine_at_is e there
        ∙ (ap (λ (e : Event). routine_at table e.code e.index) (sym same) ∙ handlers_keep_numbers many found.at (handlers t) h (events_apart (with_functions (first_scope d messages t) (typed_declarations t.globals)) _ t.procedures compiled.typed.well.procedures compiled.typed.well.procedures_once) found.there)

    abbrev its : IsPart h
    its = (all_parts t.procedures).at found.at h found.there

    abbrev outline_is : Outline
    outline_is = record { sort = sorts.Procedure its.owner; body = h.outline.body }

    same_outline : h.outline ≡ outline_is
    same_outline = ap (λ s. record { sort = s; body = h.outline.body }) its.sort

    is_its : IsRoutineOf v (context d t 0).arrays (many + found.at) outline_is 0
    is_its =
        let r = as_many v messages named source words t compiled in
        let a = is_routine v messages named source words t compiled _ h.outline (handler_at v messages named source words t compiled found.at h found.there) in
        let b = subst (λ n. IsRoutineOf v (context d t 0).arrays (n + found.at) h.outline (named_by h.outline.sort)) (sym r) a in
        subst (λ o. IsRoutineOf v (context d t 0).arrays (many + found.at) o (named_by o.sort)) same_outline b

    -- an item's procedure is of an item of a record
    item_by : (f : Field) (o : Option ItemShape) (y : RoutineLists) → slice_get (shape_of d).items f.item ≡ o → handles_item o y ≡ true → slice_get y.locals 0 ≡ Some (outline.occurrence_local f.owner) → (x : ItemShape) × (slice_get v.image.lists.items f.item ≡ Some x) × (x.owner ≡ f.owner)
    item_by f None y at h locals = absurd (false≢true h)
    item_by f (Some x) y at h locals =
        let p = and_parts _ _ (and_parts _ _ h).1 in
        let q : is_occurrence_of x.owner (Some (outline.occurrence_local f.owner)) ≡ true = ap (is_occurrence_of x.owner) (sym locals) ∙ p.1 in
        (x, (ap (λ (s : ShapeLists). slice_get s.items f.item) (sym compiled.program.shape) ∙ at), sym (eqb-true f.owner x.owner q))

    item_is : (f : Field) → its.owner ≡ owners.Item f → (x : ItemShape) × (slice_get v.image.lists.items f.item ≡ Some x) × (x.owner ≡ f.owner)
    item_is f of =
        let handled = handlers_run (shape_of d) v.image e (many + found.at) typed runs in
        let event : e ≡ event_of (owners.Item f) its.after = sym same ∙ (its.event ∙ ap (λ o. event_of o its.after) of) in
        let entry : outline.routine_of (sorts.Procedure its.owner) is_its.instructions ≡ handled.routine = same_Some _ _ (sym is_its.there ∙ handled.there) in
        let locals : slice_get handled.routine.locals 0 ≡ Some (outline.occurrence_local f.owner) =
        ap (λ (y : RoutineLists). slice_get y.locals 0) (sym entry) ∙ ap (λ o. slice_get (outline.locals_of (sorts.Procedure o)) 0) of in
        by its.after handled.routine (subst (λ (e : Event). handles (shape_of d) e.code e.index handled.routine ≡ true) event handled.handles) locals
      where
        by : (after : Bool) (y : RoutineLists) → handles (shape_of d) (event_of (owners.Item f) after).code (event_of (owners.Item f) after).index y ≡ true → slice_get y.locals 0 ≡ Some (outline.occurrence_local f.owner) → (x : ItemShape) × (slice_get v.image.lists.items f.item ≡ Some x) × (x.owner ≡ f.owner)
        by false y h locals = item_by f (slice_get (shape_of d).items f.item) y refl h locals
        by true y h locals = item_by f (slice_get (shape_of d).items f.item) y refl h locals

    is_handled : IsHandled v t e (many + found.at) its.owner its.after h.outline.body
    is_handled = record {
      event_is = sym same ∙ its.event;
      statements_are = tables_agree t e ∙ ap (option_map (λ (x : Handler). x.outline.body)) is;
      routine_is = runs;
      is = is_its;
      item_is = item_is;
    }

  module _ (ends : EventsEnd v) where
    event_means : (m : Moment) (case : Option CaseText) (store : Kept) → IsEventOf d m.event.code m.event.index → FitsFirst v m case store → (o : Option Handler) → in_table t m.event ≡ o → RunsTo v m case store (meaning d t m (begins case store))
    event_means m case store there fit None none = subst (RunsTo v m case store) (sym (means_nothing d t m (begins case store) none)) (nothing_runs v m case store (none_runs m.event there none))
    event_means m case store there fit (Some h) is =
        let k = handles_it m.event (handlers t) h is in
        let p = (all_parts t.procedures).at k.at h k.there in
        all_mean composed v t m case store (many + k.at) p.owner p.after h.outline.body ends (has_functions v messages named source words t compiled) (is_handled m.event there h is) fit

    idle : (m : Moment) (w : World) → IsEventOf d m.event.code m.event.index → routine_of v.image.lists.events m.event ≡ None → (o : Option Handler) → in_table t m.event ≡ o → meaning d t m w ≡ w
    idle m w there none None is = means_nothing d t m w is
    idle m w there none (Some h) is = absurd (none-some _ (sym none ∙ runs m.event there h is))

    it_means : Means v t
    it_means = record {
      runs = λ m case store there fit. event_means m case store there fit (in_table t m.event) refl;
      idle = λ m w there none. idle m w there none (in_table t m.event) refl;
    }

pub compiled_code_means : (v : VerifiedProgram) → MayRun v → EventsEnd v → CompiledCodeMeans v
compiled_code_means v may_run ends messages named source words t compiled = it_means v messages named source words t may_run.typed compiled ends
