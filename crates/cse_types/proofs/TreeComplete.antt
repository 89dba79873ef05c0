-- Each sound tree is judged to be itself.
use Rattle.std.specs.Prelude.{Bool, true, false, ◌&&◌, not, option_map}
use Rattle.std.specs.List.{AllByRecursion, IsDistinct}
use Rattle.std.specs.Map.{lookup}
use Rattle.std.specs.Str.{bytes_eq}
use Rattle.std.proofs.Common.{◌≡◌, ℕ, ◌+◌, List, [], ◌∷◌, ◌++◌, length, map, Option, Some, None, refl, sym, ap, ◌∙◌, subst}
use Rattle.cse_lemmas.proofs.Lists.{AllByRecursion-map, AllByRecursion-weaker}
use Rattle.cse_dict.specs.Dictionary.{DictionaryText}
use Rattle.cse_syntax_tree.specs.Tree as syntax
use Rattle.cse_logic_tree.specs.Typed.{Whole, Dimension, Sized, Rows, Array, Function, Declaration, Numeric, Alpha, Array', Function', Body, Plain, Preproc, Both, Postproc, Procedure, Tree}
use Rattle.cse_logic_tree.specs.Erase.{erase_block, erase_dimension, erase_array, erase_declaration, erase_body, erase_procedure, erase_tree}
use Rattle.cse_logic_names.specs.declared.meaning.Meaning.{Meaning}
use Rattle.cse_logic_names.specs.MessageFile.{MessageText}
use Rattle.cse_logic_names.specs.Scope.{Scope, in_dictionary, meant}
use Rattle.cse_logic_names.specs.Uses.{facts_of}
use Rattle.cse_logic_names.specs.WellTyped.{IsWhole, IsDimension, IsNew, parameter_names, function_scope, with_function, IsFunction, AreDeclared, body_messages, IsBody, procedure_scope, AreProcedures, all_declarations, typed_declarations, declared_in, declared_messages, tree_messages, arrays_in, with_functions, first_scope, IsWell, entry_of, messages_of}
use Rattle.cse_logic_expressions.specs.JudgeStatement.{judge_block}
use Rattle.cse_types.specs.JudgeTree.{dimension_judged, dimensions_judged, cells_judged, array_judged, arrays_judged, function_judged, behind_function, declarations_judged, behind_all, body_judged, procedure_of, owned, procedures_judged, names_scope, start_scope, globals_judged, tree_of, typed_of}
use Rattle.cse_types.specs.Names.{are_new, is_free, is_new, names_of, owner_names}
use Rattle.cse_logic_names.specs.Walk.{is_there, joined, only_if}
use Rattle.cse_types.proofs.NewNames.{new_complete, apart_of_none, not_there}
use Rattle.cse_types.proofs.TreeRight.{arrays_alone, owner_names_are, start_of}
use Rattle.cse_types.proofs.StatementsComplete.{block_complete}

-- ---- arrays

cells_complete : (ys : List Whole) → AllByRecursion IsWhole ys → cells_judged (map (λ (c : Whole). c.literal) ys) ≡ Some ys
cells_complete [] h = refl
cells_complete (y ∷ ys) h = rw (h.0, cells_complete ys h.1) refl

dimension_complete : (s : Scope) (y : Dimension) → IsDimension s y → dimension_judged s (erase_dimension y) ≡ Some y
dimension_complete s (Sized digits size) h = rw h refl
dimension_complete s (Rows name set one_more size) h = rw (h.0, h.1, h.2) refl

dimensions_complete : (s : Scope) (ys : List Dimension) → AllByRecursion (IsDimension s) ys → dimensions_judged s (map erase_dimension ys) ≡ Some ys
dimensions_complete s [] h = refl
dimensions_complete s (y ∷ ys) h = rw (dimension_complete s y h.0, dimensions_complete s ys h.1) refl

array_complete : (s : Scope) (x : Array) → AllByRecursion (IsDimension s) x.dimensions → AllByRecursion IsWhole x.cells → array_judged s (erase_array x) ≡ Some x
array_complete s x h k = rw (dimensions_complete s x.dimensions h, cells_complete x.cells k) refl

arrays_complete : (s : Scope) (n : ℕ) (ys : List Declaration) → AreDeclared s n ys → arrays_judged s (map erase_declaration ys) ≡ arrays_in ys
arrays_complete s n [] h = refl
arrays_complete s n (Numeric names ∷ ys) h = arrays_complete s n ys h
arrays_complete s n (Alpha digits size names ∷ ys) h = arrays_complete s n ys h.1
arrays_complete s n (Array' x ∷ ys) h =
    ap (λ z. z ∷ arrays_judged s (map erase_declaration ys)) (dimensions_complete s x.dimensions h.0) ∙ ap (λ z. Some x.dimensions ∷ z) (arrays_complete s n ys h.2)
arrays_complete s n (Function' f ∷ ys) h =
    sym (arrays_alone s s.arrays (s.functions ++ Some (facts_of s.functions f) ∷ []) (map erase_declaration ys)) ∙ arrays_complete (with_function s f) (n + length (messages_of (erase_block f.body))) ys h.1

-- ---- declarations

new_is : (d : DictionaryText) (declared : List (List ℕ × Meaning)) (name : List ℕ) → IsNew d declared name → is_new d declared name ≡ true
new_is d declared name h = rw (not_there (in_dictionary d name) h.0, not_there (lookup (bytes_eq name) declared) h.1) refl

function_complete : (s : Scope) (n : ℕ) (f : Function) → IsFunction s n f → function_judged s n f.name f.parameters (erase_block f.body) ≡ Some f
function_complete s n f h =
    let new = new_complete (is_new s.dictionary s.declared) [] (parameter_names f.parameters) (AllByRecursion-weaker (IsNew s.dictionary s.declared) (λ x. is_new s.dictionary s.declared x ≡ true) (new_is s.dictionary s.declared) (parameter_names f.parameters) h.parameters_new) h.parameters_once (apart_of_none (parameter_names f.parameters)) in
    rw (new, block_complete (function_scope s (length s.functions) f.parameters) n f.body h.body)
    (ap (λ b. Some (record { name = f.name; parameters = f.parameters; body = f.body; needs_case = b })) (sym h.needs))

declarations_complete : (s : Scope) (n : ℕ) (ys : List Declaration) → AreDeclared s n ys → (declarations_judged s n (map erase_declaration ys) ≡ Some ys) × (behind_all s n (map erase_declaration ys) ≡ with_functions s ys)
declarations_complete s n [] h = (refl, refl)
declarations_complete s n (Numeric names ∷ ys) h =
    let c = declarations_complete s n ys h in
    (ap (joined (λ y ys. y ∷ ys) (Some (Numeric names))) c.0, c.1)
declarations_complete s n (Alpha digits size names ∷ ys) h =
    let c = declarations_complete s n ys h.1 in
    (rw h.0 (ap (joined (λ y ys. y ∷ ys) (Some (Alpha digits size names))) c.0), c.1)
declarations_complete s n (Array' x ∷ ys) h =
    let c = declarations_complete s n ys h.2 in (
      ap (λ z. joined (λ y ys. y ∷ ys) (option_map Array' z) (declarations_judged s n (map erase_declaration ys))) (array_complete s x h.0 h.1) ∙ ap (joined (λ y ys. y ∷ ys) (Some (Array' x))) c.0,
      c.1,
    )
declarations_complete s n (Function' f ∷ ys) h =
    let e = function_complete s n f h.0 in
    let k = n + length (messages_of (erase_block f.body)) in
    let c = declarations_complete (with_function s f) k ys h.1 in (
      ap (λ z. joined (λ y ys. y ∷ ys) (option_map Function' z) (declarations_judged (behind_function s z) k (map erase_declaration ys))) e ∙ ap (joined (λ y ys. y ∷ ys) (Some (Function' f))) c.0,
      ap (λ z. behind_all (behind_function s z) k (map erase_declaration ys)) e ∙ c.1,
    )

-- ---- procedures

body_complete : (s : Scope) (n : ℕ) (y : Body) → IsBody s n y → body_judged s n (erase_body y) ≡ Some y
body_complete s n (Plain xs) h = ap (option_map Plain) (block_complete s n xs h)
body_complete s n (Preproc xs) h = ap (option_map Preproc) (block_complete s n xs h)
body_complete s n (Both xs ys) h =
    ap (λ z. joined Both z (judge_block s (n + length (messages_of (erase_block xs))) (erase_block ys))) (block_complete s n xs h.0) ∙ ap (joined Both (Some xs)) (block_complete s (n + length (messages_of (erase_block xs))) ys h.1)
body_complete s n (Postproc xs) h = ap (option_map Postproc) (block_complete s n xs h)

procedures_complete : (s : Scope) (n : ℕ) (ys : List Procedure) → AreProcedures s n ys → procedures_judged s n (map erase_procedure ys) ≡ Some ys
procedures_complete s n [] h = refl
procedures_complete s n (y ∷ ys) h =
    let k = n + length (body_messages (erase_body y.body)) in
    ap (λ z. joined (λ y ys. y ∷ ys) (owned s n (erase_procedure y) z) (procedures_judged s k (map erase_procedure ys))) h.0
    ∙ ap (λ z. joined (λ y ys. y ∷ ys) (option_map (procedure_of y.name y.owner) z) (procedures_judged s k (map erase_procedure ys))) (body_complete (procedure_scope s y.owner) n y.body h.1)
    ∙ ap (joined (λ y ys. y ∷ ys) (Some y)) (procedures_complete s k ys h.2)

-- ---- sources

globals_complete : (s : Scope) (x : Option (List Declaration)) → AreDeclared s 0 (typed_declarations x)
    → (globals_judged s (option_map (λ ds. map erase_declaration ds) x) ≡ Some x) × (behind_all s 0 (all_declarations (option_map (λ ds. map erase_declaration ds) x)) ≡ with_functions s (typed_declarations x))
globals_complete s None h = (refl, refl)
globals_complete s (Some ys) h =
    let c = declarations_complete s 0 ys h in
    (ap (option_map (λ ys. Some ys)) c.0, c.1)

all_erased : (x : Option (List Declaration)) → all_declarations (option_map (λ ds. map erase_declaration ds) x) ≡ map erase_declaration (typed_declarations x)
all_erased None = refl
all_erased (Some ys) = refl

all_true : (xs : List (List ℕ)) → AllByRecursion (λ x. true ≡ true) xs
all_true [] = tt
all_true (x ∷ xs) = (refl, all_true xs)

module _ (d : DictionaryText) (messages : List MessageText) (t : Tree) (h : IsWell d messages t) where
  scope_is : start_scope d messages (erase_tree t) ≡ first_scope d messages t
  scope_is =
      let tds = typed_declarations t.globals in
      let names = names_scope d messages (erase_tree t) in
      ap (start_of d messages (erase_tree t)) (
      ap (arrays_judged names) (all_erased t.globals)
      ∙ sym (arrays_alone names (arrays_in tds) [] (map erase_declaration tds))
      ∙ arrays_complete (first_scope d messages t) 0 tds h.declarations
      )

  names_are_new : are_new (is_free d) [] (names_of (declared_in (erase_tree t))) ≡ true
  names_are_new =
      let xs = declared_in (erase_tree t) in
      new_complete (is_free d) [] (names_of xs)
      (AllByRecursion-map (λ n. is_free d n ≡ true) (λ (x : List ℕ × Meaning). x.0) xs
      (AllByRecursion-weaker (λ (x : List ℕ × Meaning). in_dictionary d x.0 ≡ None) (λ (x : List ℕ × Meaning). is_free d x.0 ≡ true) (λ x k. not_there (in_dictionary d x.0) k) xs h.names_new))
      h.names_once (apart_of_none (names_of xs))

  owners_are_new : are_new (λ name. true) [] (owner_names (map erase_procedure t.procedures)) ≡ true
  owners_are_new =
      let xs = owner_names (map erase_procedure t.procedures) in
      new_complete (λ name. true) [] xs (all_true xs) (subst (IsDistinct bytes_eq) (sym (owner_names_are t.procedures)) h.procedures_once) (apart_of_none xs)

  pub tree_complete : typed_of d messages (erase_tree t) ≡ Some t
  unfolding typed_of
  tree_complete =
      let x = erase_tree t in
      let ds = all_declarations x.globals in
      let k = length (declared_messages ds) in
      let first = first_scope d messages t in
      let c = globals_complete first t.globals h.declarations in
      rw (names_are_new, owners_are_new) (
      ap (λ s. joined (tree_of messages x) (globals_judged s x.globals) (procedures_judged (behind_all s 0 ds) k x.procedures)) scope_is
      ∙ ap (λ z. joined (tree_of messages x) z (procedures_judged (behind_all first 0 ds) k x.procedures)) c.0
      ∙ ap (λ s. joined (tree_of messages x) (Some t.globals) (procedures_judged s k x.procedures)) c.1
      ∙ ap (joined (tree_of messages x) (Some t.globals)) (procedures_complete (with_functions first (typed_declarations t.globals)) k t.procedures h.procedures)
      ∙ ap (λ z. Some (record { globals = t.globals; procedures = t.procedures; messages = z })) (sym h.messages_are)
      )
