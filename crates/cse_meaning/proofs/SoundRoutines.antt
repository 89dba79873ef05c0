-- The statements of each routine of a program fit its tables.
use Rattle.std.proofs.Common.{◌≡◌, ◌≤◌, ◌<◌, ℕ, suc, zero, ◌+◌, Bool, true, false, List, [], ◌∷◌, ◌++◌, length, map, Option, Some, None, refl, sym, ap, ◌∙◌, subst, ⊎_elim, append_assoc, arith}
use Rattle.std.specs.Prelude.{slice_get, ◌==◌, if◌then◌else◌, take, replicate}
use Rattle.std.specs.Option.{option_map}
use Rattle.std.proofs.lemmas.Bool.{false≢true, lt-ltb, eqb-true}
use Rattle.std.proofs.lemmas.List.{length-map, length-append, map-append, append-nil}
use Rattle.std.proofs.lemmas.List.Elements.{All-get_or}
use Rattle.std.proofs.lemmas.Option.{same_Some, none-some, slice_get-map, slice_get_within, get_or_from_slice_get}
use Rattle.cse_lemmas.proofs.Lists.{slice_get_append_left}
use Rattle.cse_value.specs.declared.shape.ItemKind.{ItemKind}
use Rattle.cse_image_parts.specs.declared.entries.Local.{Local}
use Rattle.cse_image_parts.specs.Image.{Image, Lists, ArrayLists, MessageLists, RoutineLists}
use Rattle.cse_dict.specs.Dictionary.{DictionaryText, ItemText, RecordText, shape_of}
use Rattle.cse_dict.specs.Keys.{kept_name}
use Rattle.cse_dict.specs.Sound.{IsSound, IsSoundItem}
use Rattle.cse_syntax_tree.specs.Tree as syntax
use Rattle.cse_syntax_tree.specs.Word.{Word}
use Rattle.cse_syntax_tree.specs.Grammar.{Each, AreStmts, IsDeclaration, IsBody as IsBodyOf, IsProcedure, AreGlobals}
use Rattle.cse_code_typing.specs.declared.kind.Kind.TheVariants as kind
use Rattle.cse_code_typing.specs.Kinds.{local_kind}
use Rattle.cse_code_typing.specs.Signature.{is_record, local_at}
use Rattle.cse_code_typing.specs.Order.{is_run}
use Rattle.cse_logic_tree.specs.declared.tree.Variable.{Variable}
use Rattle.cse_logic_tree.specs.declared.tree.Variable.TheVariants as v
use Rattle.cse_logic_tree.specs.declared.tree.Owner.{Owner}
use Rattle.cse_logic_tree.specs.declared.tree.Owner.TheVariants as owners
use Rattle.cse_logic_tree.specs.Typed.{Statements, Dimension, Function, Declaration, Numeric, Alpha, Array', Function', Body, Plain, Preproc, Both, Postproc, Procedure, Tree}
use Rattle.cse_logic_tree.specs.Erase.{erase_block, erase_body, erase_declaration, erase_procedure, erase_tree}
use Rattle.cse_compile.specs.declared.outlines.RoutineSort.TheVariants as sorts
use Rattle.cse_compile.specs.Tables.{globals_in, arrays_in, message_of}
use Rattle.cse_compile.specs.Outline.{Outline, Handler, ambient_of, gives_of, parameters_of, locals_of, number_local, numbers, outline_of, functions_in, is_idle, event_of, handler_of, handlers_of_body, handlers_in}
use Rattle.cse_compile.proofs.SectionLists.{result_there}
use Rattle.cse_compile.specs.Program.{declarations_in, declarations, handlers, outlines, sizes, entry_of}
use Rattle.cse_logic_names.specs.MessageFile.{MessageText}
use Rattle.cse_logic_names.specs.declared.meaning.Routine.{Routine}
use Rattle.cse_logic_names.specs.declared.meaning.Routine.TheVariants as r
use Rattle.cse_logic_names.specs.Scope.{Scope, Facts, declared_from, is_looped, kind_and_owner, own_result, is_event_of, has_case}
use Rattle.cse_logic_names.specs.Uses.{facts_of}
use Rattle.cse_logic_names.specs.WellTyped as w
use Rattle.cse_logic_names.specs.WellTyped.{AreStatements, AreDeclared, AreProcedures, IsBody, all_declarations, typed_declarations, parameter_names, first_scope, with_functions, messages_of, declared_messages, procedure_messages, body_messages, tree_messages}
use Rattle.cse_meaning.specs.Fit.{Spot, variable_kind, BlockFits}
use Rattle.cse_meaning.proofs.At.{HasAt, has_self, has_front, has_back}
use Rattle.cse_meaning.specs.Checked.{IsCompiled, spot_for}
use Rattle.cse_meaning.proofs.Agrees.{is_open, ArrayFits, FunctionFits, Agrees, InLoops}
use Rattle.cse_meaning.proofs.SoundNames.{AllMean, declared_mean, name_fits}
use Rattle.cse_meaning.proofs.SoundStatements.{block_fits}
use Rattle.cse_meaning.proofs.SoundTables.{ArraysKnown, arrays_known, array_at, FunctionsKnown, one_more, function_at}

-- ---- locals

number_there : (n j : ℕ) (ys : List Local) → j < n → slice_get (numbers n ++ ys) j ≡ Some number_local
number_there zero j ys lt = absurd (omega (arith, lt))
number_there (suc n) zero ys lt = refl
number_there (suc n) (suc j) ys lt = number_there n j ys (omega (arith, lt))

numbers_taken : (n : ℕ) (ys : List Local) → map local_kind (take n (numbers n ++ ys)) ≡ replicate n kind.Number
numbers_taken zero ys = refl
numbers_taken (suc n) ys = ap (λ l. kind.Number ∷ l) (numbers_taken n ys)

-- ---- lists of routines

abbrev pub AllFrom : (ℕ → Outline → Type 0) → ℕ → List Outline → Type 0
AllFrom P k [] = Unit {0}
AllFrom P k (o ∷ os) = P k o × AllFrom P (k + 1) os

all_both : (P : ℕ → Outline → Type 0) (k : ℕ) (ms bs : List Outline) → AllFrom P k ms → AllFrom P (k + length ms) bs → AllFrom P k (ms ++ bs)
all_both P k [] bs f g = let e : k + 0 ≡ k = omega arith in subst (λ n. AllFrom P n bs) e g
all_both P k (a ∷ ms) bs f g = let e : k + suc (length ms) ≡ k + 1 + length ms = omega arith in (f.0, all_both P (k + 1) ms bs f.1 (subst (λ n. AllFrom P n bs) e g))

pub one_of : (P : ℕ → Outline → Type 0) (k : ℕ) (os : List Outline) (j : ℕ) (o : Outline) → AllFrom P k os → slice_get os j ≡ Some o → P (k + j) o
one_of P k [] j o h e = absurd (none-some o e)
one_of P k (y ∷ os) zero o h e = let n : k ≡ k + 0 = omega arith in subst (λ n. P n o) n (subst (P k) (same_Some y o e) h.0)
one_of P k (y ∷ os) (suc j) o h e = let n : k + 1 + j ≡ k + suc j = omega arith in subst (λ n. P n o) n (one_of P (k + 1) os j o h.1 e)

abbrev AllHandlers : (ℕ → Outline → Type 0) → ℕ → List Handler → Type 0
AllHandlers P k hs = AllFrom P k (map (λ x. x.outline) hs)

handlers_both : (P : ℕ → Outline → Type 0) (k : ℕ) (ms bs : List Handler) → AllHandlers P k ms → ((j : ℕ) → k ≤ j → AllHandlers P j bs) → AllHandlers P k (ms ++ bs)
handlers_both P k [] bs f g = g k (omega arith)
handlers_both P k (a ∷ ms) bs f g = (f.0, handlers_both P (k + 1) ms bs f.1 (λ j le. g j (omega (arith, le))))

-- ---- declarations

pub same_declarations : (o : Option (List Declaration)) → typed_declarations o ≡ declarations_in o
same_declarations None = refl
same_declarations (Some ds) = refl

pub same_erased : (o : Option (List Declaration)) → all_declarations (option_map (λ ds. map erase_declaration ds) o) ≡ map erase_declaration (declarations_in o)
same_erased None = refl
same_erased (Some ds) = refl

pub each_declaration : (o : Option (List Declaration)) → AreGlobals 64 (option_map (λ ds. map erase_declaration ds) o) → Each (IsDeclaration 64) (map erase_declaration (declarations_in o))
each_declaration None h = tt
each_declaration (Some ds) h = h

-- what the grammar says of all declarations and procedures
abbrev pub OfGrammar : syntax.Tree → Type 0
OfGrammar s = AreGlobals 64 s.globals × Each (IsProcedure 64) s.procedures

no_loops : (c : Scope) (s : Spot) → c.loops ≡ [] → InLoops c s false
no_loops c s e = record {
  looped = λ of f. absurd (false≢true (sym (ap (λ l. is_looped l of) e) ∙ f));
  opened = λ f. absurd (false≢true (sym (ap is_open e) ∙ f));
}

module _ (d : DictionaryText) (sound : IsSound d) where
  owner_by : (i : ItemText) (owner : ℕ) → i.shape.owner ≡ owner → (owner == 255) ≡ false → IsSoundItem d i → is_record (shape_of d) owner ≡ true
  owner_by i owner e f g = ⊎_elim
      (λ (q : i.shape.owner ≡ 255). absurd (false≢true (sym f ∙ ap (λ n. n == 255) (sym e ∙ q))))
      (λ (lt : i.shape.owner < length d.records). let n = length-map d.records (λ (x : RecordText). x.shape) in lt-ltb owner (length (shape_of d).records) (omega (arith, lt, n, e)))
      g.owner

  owner_there : (item owner : ℕ) (k : ItemKind) → kind_and_owner d item ≡ Some (k, owner) → (owner == 255) ≡ false → is_record (shape_of d) owner ≡ true
  unfolding kind_and_owner
  owner_there item owner k e f = by (slice_get d.items item) refl
    where
      by : (o : Option ItemText) → slice_get d.items item ≡ o → is_record (shape_of d) owner ≡ true
      by None q = absurd (none-some (k, owner) (sym (ap (option_map (λ (x : ItemText). (x.shape.kind, x.shape.owner))) q) ∙ e))
      by (Some i) q =
          let pair : (i.shape.kind, i.shape.owner) ≡ (k, owner) = same_Some _ _ (sym (ap (option_map (λ (x : ItemText). (x.shape.kind, x.shape.owner))) q) ∙ e) in
          let g : IsSoundItem d i = subst (IsSoundItem d) (get_or_from_slice_get d.items item i i q) (All-get_or (IsSoundItem d) d.items item i (slice_get_within d.items item i q) sound.items) in
          owner_by i owner (ap (λ (y : ItemKind × ℕ). y.1) pair) f g

module _ (d : DictionaryText) (messages : List MessageText) (named : List ℕ) (source : syntax.Tree) (words : List Word) (t : Tree) (x : Image) (h : IsCompiled d messages named source words t x) where
  abbrev scope : List (Option Facts) → Scope
  scope fs = record (first_scope d messages t) { functions = fs }

  abbrev entry : Outline → RoutineLists
  entry o = entry_of (shape_of d).records (sizes t) o

  abbrev spot : ℕ → Outline → Spot
  spot k o = spot_for d t x k o

  abbrev Fits : ℕ → Outline → Type 0
  Fits k o = BlockFits (spot k o) 64 false o.body

  -- ---- what the source is

  declared : AreDeclared (scope []) 0 (declarations t)
  declared = subst (AreDeclared (scope []) 0) (same_declarations t.globals) h.typed.well.declarations

  grammar : OfGrammar (erase_tree t)
  grammar = subst OfGrammar (sym h.typed.erased) (h.grammar.0, h.grammar.1)

  -- ---- messages

  abbrev say : syntax.Message × Bool → MessageLists
  say m = message_of (w.entry_of messages m)

  abbrev Said : ℕ → List (syntax.Message × Bool) → Type 0
  Said n ms = HasAt x.lists.messages n (map say ms)

  front : (n : ℕ) (ms bs : List (syntax.Message × Bool)) → Said n (ms ++ bs) → Said n ms
  front n ms bs f = has_front x.lists.messages n (map say ms) (map say bs) (subst (HasAt x.lists.messages n) (map-append say ms bs) f)

  back : (n : ℕ) (ms bs : List (syntax.Message × Bool)) → Said n (ms ++ bs) → Said (n + length ms) bs
  back n ms bs f = has_back x.lists.messages n (length ms) (map say ms) (map say bs) (length-map ms say) (subst (HasAt x.lists.messages n) (map-append say ms bs) f)

  messages_are : x.lists.messages ≡ map say (tree_messages (erase_tree t))
  messages_are = h.program.messages ∙ ap (map message_of) h.typed.well.messages_are ∙ twice (tree_messages (erase_tree t))
    where
      twice : (ms : List (syntax.Message × Bool)) → map message_of (map (w.entry_of messages) ms) ≡ map say ms
      twice [] = refl
      twice (m ∷ ms) = ap (λ l. say m ∷ l) (twice ms)

  all_said : Said 0 (tree_messages (erase_tree t))
  all_said = subst (λ l. HasAt l 0 (map say (tree_messages (erase_tree t)))) (sym messages_are) (has_self (map say (tree_messages (erase_tree t))))

  -- ---- the tables

  globals_mean : (s : Spot) → s.scene.lists ≡ x.lists → AllMean s (w.declared_in (erase_tree t))
  globals_mean s e =
      let all = subst (λ l. HasAt l 0 (globals_in (declarations t))) (sym h.program.globals) (has_self (globals_in (declarations t))) in
      let here = subst (λ (l : Lists). HasAt l.globals 0 (globals_in (declarations t))) (sym e) all in
      subst (λ l. AllMean s (declared_from 0 0 0 l)) (sym (same_erased t.globals)) (declared_mean s 0 0 0 (declarations t) here)

  known_arrays : ArraysKnown (shape_of d) (w.arrays_in (typed_declarations t.globals)) (arrays_in (declarations t))
  known_arrays = subst (λ ds. ArraysKnown (shape_of d) (w.arrays_in ds) (arrays_in (declarations t))) (sym (same_declarations t.globals)) (arrays_known (scope []) 0 64 (declarations t) declared (each_declaration t.globals grammar.0))

  array_fits : (k : ℕ) (o : Outline) (a : ℕ) (ds : List Dimension) → slice_get (w.arrays_in (typed_declarations t.globals)) a ≡ Some (Some ds) → ArrayFits (spot k o) a ds
  array_fits k o a ds e =
      let b = array_at (shape_of d) (w.arrays_in (typed_declarations t.globals)) (arrays_in (declarations t)) known_arrays a ds e in
      record {
        entry = b.entry;
        there = ap (λ l. slice_get l a) h.program.arrays ∙ b.there;
        set = slice_get-map (λ (x : ArrayLists). x.dimensions) (arrays_in (declarations t)) a ∙ ap (option_map (λ (x : ArrayLists). x.dimensions)) b.there;
        sizes = b.sizes;
        some = b.some;
      }

  module _ (fs : List (Option Facts)) (os rest : List Outline) (known : FunctionsKnown fs os) (all : outlines t ≡ os ++ rest) (k : ℕ) (behind : length os ≤ k) (o : Outline) where
    function_fits : (g : ℕ) (f : Facts) → slice_get fs g ≡ Some (Some f) → FunctionFits (spot k o) g f
    function_fits g f e =
        let b = function_at fs os known g f e in
        let lt = slice_get_within os g b.outline b.there in
        record {
          entry = entry b.outline;
          there = ap (λ l. slice_get l g) h.program.routines ∙ slice_get-map entry (outlines t) g ∙ ap (option_map entry) (ap (λ l. slice_get l g) all ∙ slice_get_append_left os rest g b.outline b.there);
          gives = ap gives_of b.sort;
          takes = ap (λ s. map local_kind (take (parameters_of s) (locals_of s))) b.sort ∙ numbers_taken f.parameters (number_local ∷ []);
          before = omega (arith, lt, behind);
          ambient = λ n. ap (λ s. is_run (ambient_of s)) (b.sort ∙ ap (sorts.Function f.parameters) n);
        }

    agrees_of : (routine : Routine) (parameters : List (List ℕ))
        → ((j : ℕ) → j < length parameters → local_at (entry o) j ≡ Some kind.Number)
        → ((f : ℕ) (y : Variable) → own_result routine f ≡ Some y → variable_kind (spot k o) y ≡ Some kind.Number)
        → ((of : ℕ) → is_event_of routine of ≡ true → local_at (entry o) 0 ≡ Some (kind.Occurrence of))
        → Agrees (record (scope fs) { routine = routine; parameters = parameters }) (spot k o)
    agrees_of routine parameters f g e = record {
      shape = refl;
      owners = owner_there d h.dictionary;
      names = name_fits (record (scope fs) { routine = routine; parameters = parameters }) (spot k o) refl (globals_mean (spot k o) refl) f;
      result = g;
      event = e;
      arrays = array_fits k o;
      functions = function_fits;
    }

  -- ---- functions

  function_fit : (fs : List (Option Facts)) (os rest : List Outline) (n : ℕ) (f : Function) → FunctionsKnown fs os → outlines t ≡ os ++ rest → w.IsFunction (scope fs) n f → AreStmts (erase_block f.body) 64 → Said n (messages_of (erase_block f.body)) → Fits (length os) (outline_of f)
  function_fit fs os rest n f known all g b m =
      let c = w.function_scope (scope fs) (length fs) f.parameters in
      let k = length os in
      let o = outline_of f in
      let count = length f.parameters in
      let names = length-map f.parameters (λ (p : syntax.Parameter). kept_name p.name.text) in
      block_fits c (spot k o) 64 64 n false f.body
      (agrees_of fs os rest known all k (omega arith) o (r.Function (length fs)) (parameter_names f.parameters)
      (λ j lt. ap (option_map local_kind) (number_there count j (number_local ∷ []) (omega (arith, lt, names))))
      (own_of (length fs) k f)
      (λ of e. absurd (false≢true e)))
      (no_loops c (spot k o) refl) (omega arith) b g.body
      (λ case e. ap (λ n. is_run (ambient_of (sorts.Function count n))) (g.needs ∙ e))
      m
    where
      own_by : (p : ℕ) (f : Function) (b : Bool) (y : Variable) → (if b then Some v.Result else None) ≡ Some y → variable_kind (spot p (outline_of f)) y ≡ Some kind.Number
      own_by p f true y e = subst (λ y. variable_kind (spot p (outline_of f)) y ≡ Some kind.Number) (same_Some v.Result y e) (ap (option_map local_kind) (result_there (length f.parameters)))
      own_by p f false y e = absurd (none-some y e)

      own_of : (p q : ℕ) (f : Function) (g : ℕ) (y : Variable) → own_result (r.Function p) g ≡ Some y → variable_kind (spot q (outline_of f)) y ≡ Some kind.Number
      own_of p q f g y e = own_by q f (p == g) y e

  functions_fit : (fs : List (Option Facts)) (os hs : List Outline) (n : ℕ) (ds : List Declaration) → FunctionsKnown fs os → outlines t ≡ os ++ (functions_in ds ++ hs) → AreDeclared (scope fs) n ds → Each (IsDeclaration 64) (map erase_declaration ds) → Said n (declared_messages (map erase_declaration ds)) → AllFrom Fits (length os) (functions_in ds)
  functions_fit fs os hs n [] known all g b m = tt
  functions_fit fs os hs n (Numeric names ∷ ds) known all g b m = functions_fit fs os hs n ds known all g b.1 m
  functions_fit fs os hs n (Alpha digits size names ∷ ds) known all g b m = functions_fit fs os hs n ds known all g.1 b.1 m
  functions_fit fs os hs n (Array' array ∷ ds) known all g b m = functions_fit fs os hs n ds known all g.2 b.1 m
  functions_fit fs os hs n (Function' f ∷ ds) known all g b m =
      let o = outline_of f in
      let here = messages_of (erase_block f.body) in
      let behind = declared_messages (map erase_declaration ds) in
      let more = one_more fs os (facts_of fs f) o known (ap (sorts.Function (length f.parameters)) g.0.needs) in
      let e : length (os ++ o ∷ []) ≡ length os + 1 = omega (arith, length-append os (o ∷ [])) in (
        function_fit fs os (o ∷ (functions_in ds ++ hs)) n f known all g.0 b.0.2 (front n here behind m),
        subst (λ n. AllFrom Fits n (functions_in ds)) e
            (functions_fit (fs ++ Some (facts_of fs f) ∷ []) (os ++ o ∷ []) hs (n + length here) ds more (all ∙ sym (append_assoc os (o ∷ []) (functions_in ds ++ hs))) g.1 b.1 (back n here behind m)),
      )

  all_functions : List (Option Facts) → List Declaration → List (Option Facts)
  all_functions fs [] = fs
  all_functions fs (Numeric names ∷ ds) = all_functions fs ds
  all_functions fs (Alpha digits size names ∷ ds) = all_functions fs ds
  all_functions fs (Array' array ∷ ds) = all_functions fs ds
  all_functions fs (Function' f ∷ ds) = all_functions (fs ++ Some (facts_of fs f) ∷ []) ds

  with_all : (fs : List (Option Facts)) (ds : List Declaration) → with_functions (scope fs) ds ≡ scope (all_functions fs ds)
  unfolding all_functions
  with_all fs [] = refl
  with_all fs (Numeric names ∷ ds) = with_all fs ds
  with_all fs (Alpha digits size names ∷ ds) = with_all fs ds
  with_all fs (Array' array ∷ ds) = with_all fs ds
  with_all fs (Function' f ∷ ds) = with_all (fs ++ Some (facts_of fs f) ∷ []) ds

  known_all : (fs : List (Option Facts)) (os : List Outline) (n : ℕ) (ds : List Declaration) → FunctionsKnown fs os → AreDeclared (scope fs) n ds → FunctionsKnown (all_functions fs ds) (os ++ functions_in ds)
  unfolding all_functions
  known_all fs os n [] known g = subst (FunctionsKnown fs) (sym (append-nil os)) known
  known_all fs os n (Numeric names ∷ ds) known g = known_all fs os n ds known g
  known_all fs os n (Alpha digits size names ∷ ds) known g = known_all fs os n ds known g.1
  known_all fs os n (Array' array ∷ ds) known g = known_all fs os n ds known g.2
  known_all fs os n (Function' f ∷ ds) known g =
      let o = outline_of f in
      let more = one_more fs os (facts_of fs f) o known (ap (sorts.Function (length f.parameters)) g.0.needs) in
      subst (FunctionsKnown (all_functions (fs ++ Some (facts_of fs f) ∷ []) ds)) (append_assoc os (o ∷ []) (functions_in ds)) (known_all (fs ++ Some (facts_of fs f) ∷ []) (os ++ o ∷ []) (n + length (messages_of (erase_block f.body))) ds more g.1)

  -- ---- procedures

  module _ (fs : List (Option Facts)) (os rest : List Outline) (known : FunctionsKnown fs os) (all : outlines t ≡ os ++ rest) where
    procedure_fit : (k n : ℕ) (owner : Owner) (body : Statements) → length os ≤ k → AreStatements (w.procedure_scope (scope fs) owner) n body → AreStmts (erase_block body) 64 → Said n (messages_of (erase_block body)) → Fits k (record { sort = sorts.Procedure owner; body = body })
    procedure_fit k n owner body le g b m =
        let c = w.procedure_scope (scope fs) owner in
        let o : Outline = record { sort = sorts.Procedure owner; body = body } in
        block_fits c (spot k o) 64 64 n false body
        (agrees_of fs os rest known all k le o (r.Procedure owner) []
        (λ j lt. absurd (omega (arith, lt)))
        (λ f y e. absurd (none-some y e))
        (event_there owner))
        (no_loops c (spot k o) refl) (omega arith) b g
        (λ case e. case_there owner case)
        m
      where
        event_there : (owner : Owner) (of : ℕ) → is_event_of (r.Procedure owner) of ≡ true → option_map local_kind (slice_get (locals_of (sorts.Procedure owner)) 0) ≡ Some (kind.Occurrence of)
        event_there owners.Application of e = absurd (false≢true e)
        event_there owners.Level of e = absurd (false≢true e)
        event_there (owners.Record y) of e = absurd (false≢true e)
        event_there (owners.Item f) of e = ap (λ n. Some (kind.Occurrence n)) (eqb-true f.owner of e)

        case_there : (owner : Owner) → has_case (r.Procedure owner) ≡ true → is_run (ambient_of (sorts.Procedure owner)) ≡ false
        case_there owners.Application e = absurd (false≢true e)
        case_there owners.Level e = refl
        case_there (owners.Record y) e = refl
        case_there (owners.Item f) e = refl

    part_fit : (k n : ℕ) (owner : Owner) (after : Bool) (body : Statements) → length os ≤ k → AreStatements (w.procedure_scope (scope fs) owner) n body → AreStmts (erase_block body) 64 → Said n (messages_of (erase_block body)) → AllHandlers Fits k (handler_of owner after body)
    part_fit k n owner after body le g b m = by (is_idle body)
      where
        by : (idle : Bool) → AllHandlers Fits k (if idle then [] else record { event = event_of owner after; outline = record { sort = sorts.Procedure owner; body = body } } ∷ [])
        by true = tt
        by false = (procedure_fit k n owner body le g b m, tt)

    body_fit : (k n : ℕ) (owner : Owner) (body : Body) → length os ≤ k → IsBody (w.procedure_scope (scope fs) owner) n body → IsBodyOf 64 (erase_body body) → Said n (body_messages (erase_body body)) → AllHandlers Fits k (handlers_of_body owner body)
    body_fit k n owner (Plain xs) le g b m = part_fit k n owner true xs le g b m
    body_fit k n owner (Preproc xs) le g b m = part_fit k n owner false xs le g b m
    body_fit k n owner (Both xs ys) le g b m =
        let ms = messages_of (erase_block xs) in
        let bs = messages_of (erase_block ys) in
        handlers_both Fits k (handler_of owner false xs) (handler_of owner true ys)
        (part_fit k n owner false xs le g.0 b.0 (front n ms bs m))
        (λ j le'. part_fit j (n + length ms) owner true ys (omega (arith, le, le')) g.1 b.1 (back n ms bs m))
    body_fit k n owner (Postproc xs) le g b m = part_fit k n owner true xs le g b m

    procedures_fit : (k n : ℕ) (ps : List Procedure) → length os ≤ k → AreProcedures (scope fs) n ps → Each (IsProcedure 64) (map erase_procedure ps) → Said n (procedure_messages (map erase_procedure ps)) → AllHandlers Fits k (handlers_in ps)
    procedures_fit k n [] le g b m = tt
    procedures_fit k n (y ∷ ps) le g b m =
        let ms = body_messages (erase_body y.body) in
        let bs = procedure_messages (map erase_procedure ps) in
        handlers_both Fits k (handlers_of_body y.owner y.body) (handlers_in ps)
        (body_fit k n y.owner y.body le g.1 b.0.1 (front n ms bs m))
        (λ j le'. procedures_fit j (n + length ms) ps (omega (arith, le, le')) g.2 b.1 (back n ms bs m))

  -- ---- all

  first_fit : AllFrom Fits 0 (functions_in (declarations t))
  first_fit =
      let ds = declarations t in
      let ms = declared_messages (all_declarations (erase_tree t).globals) in
      let said = front 0 ms (procedure_messages (erase_tree t).procedures) all_said in
      functions_fit [] [] (map (λ (x : Handler). x.outline) (handlers t)) 0 ds tt refl declared (each_declaration t.globals grammar.0)
      (subst (λ l. Said 0 (declared_messages l)) (same_erased t.globals) said)

  last_fit : AllHandlers Fits (length (functions_in (declarations t))) (handlers_in t.procedures)
  last_fit =
      let ds = declarations t in
      let ms = declared_messages (all_declarations (erase_tree t).globals) in
      let fs = all_functions [] ds in
      let e : 0 + length ms ≡ length ms = omega arith in
      let there : AreProcedures (scope fs) (length ms) t.procedures =
      subst (λ c. AreProcedures c (length ms) t.procedures) (with_all [] ds)
      (subst (λ ds. AreProcedures (with_functions (scope []) ds) (length ms) t.procedures) (same_declarations t.globals) h.typed.well.procedures)
      in
      procedures_fit fs (functions_in ds) (map (λ (x : Handler). x.outline) (handlers t)) (known_all [] [] 0 ds tt declared) refl
      (length (functions_in ds)) (length ms) t.procedures (omega arith) there grammar.1
      (subst (λ n. Said n (procedure_messages (erase_tree t).procedures)) e (back 0 ms (procedure_messages (erase_tree t).procedures) all_said))

  all_fit : AllFrom Fits 0 (outlines t)
  all_fit =
      let n = length (functions_in (declarations t)) in
      let e : n ≡ 0 + n = omega arith in
      all_both Fits 0 (functions_in (declarations t)) (map (λ (x : Handler). x.outline) (handlers t)) first_fit (subst (λ k. AllHandlers Fits k (handlers_in t.procedures)) e last_fit)

  pub statements_fit : (k : ℕ) (o : Outline) → slice_get (outlines t) k ≡ Some o → Fits k o
  statements_fit k o e = let n : 0 + k ≡ k = omega arith in subst (λ k. Fits k o) n (one_of Fits 0 (outlines t) k o all_fit e)
