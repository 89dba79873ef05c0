-- What judging gives of a whole tree is right: it is made of the tree, and keeps each rule.
use Rattle.std.specs.Prelude.{Bool, true, false, ◌&&◌, not, option_map, slice_get}
use Rattle.std.specs.List.{AllByRecursion, IsDistinct}
use Rattle.std.specs.Map.{lookup}
use Rattle.std.specs.Str.{bytes_eq}
use Rattle.std.proofs.Common.{◌≡◌, ℕ, ◌+◌, List, [], ◌∷◌, ◌++◌, length, map, Option, Some, None, refl, sym, ap, ◌∙◌, subst}
use Rattle.std.proofs.lemmas.Bool.{and_parts}
use Rattle.cse_lemmas.proofs.Lists.{AllByRecursion-weaker}
use Rattle.cse_dict.specs.Dictionary.{DictionaryText}
use Rattle.cse_dict.specs.Keys.{kept_name}
use Rattle.cse_syntax_tree.specs.Tree as syntax
use Rattle.cse_syntax_tree.specs.Tree.{Spelling}
use Rattle.cse_logic_tree.specs.declared.tree.Owner.{Owner}
use Rattle.cse_logic_tree.specs.Typed.{Whole, Statements, Dimension, Sized, Rows, Array, Function, Declaration, Numeric, Alpha, Array', Function', Body, Plain, Preproc, Both, Postproc, Procedure, Tree}
use Rattle.cse_logic_tree.specs.Erase.{erase_block, erase_dimension, erase_array, erase_declaration, erase_body, erase_procedure, erase_tree}
use Rattle.cse_logic_names.specs.declared.meaning.Meaning.{Meaning}
use Rattle.cse_logic_names.specs.declared.meaning.Meaning.TheVariants as m
use Rattle.cse_logic_names.specs.declared.meaning.Routine.TheVariants as r
use Rattle.cse_logic_tree.specs.declared.tree.Owner.TheVariants as o
use Rattle.cse_logic_names.specs.MessageFile.{MessageText}
use Rattle.cse_logic_names.specs.Scope.{Scope, Facts, meant, in_dictionary}
use Rattle.cse_logic_names.specs.Uses.{facts_of}
use Rattle.cse_logic_names.specs.WellTyped.{IsWhole, signed_value, size_of, IsDimension, IsNumberSet, IsNew, parameter_names, function_scope, with_function, IsFunction, AreDeclared, owner_meant, body_messages, IsBody, procedure_scope, AreProcedures, AreStatements, all_declarations, typed_declarations, declared_in, declared_messages, tree_messages, arrays_in, with_functions, first_scope, IsWell, IsTypedAs, entry_of, messages_of}
use Rattle.cse_logic_expressions.specs.Judge.{number_set}
use Rattle.cse_logic_expressions.specs.JudgeStatement.{whole_judged, judge_block}
use Rattle.cse_types.specs.JudgeTree.{set_rows, set_dimension, dimension_judged, dimensions_judged, cells_judged, array_of, array_judged, arrays_judged, function_of, function_judged, behind_function, alpha_of, declaration_judged, behind, messages_past, declarations_judged, behind_all, body_judged, procedure_of, owned, procedure_judged, procedures_judged, names_scope, start_scope, globals_judged, tree_of, typed_of}
use Rattle.cse_types.specs.Names.{are_new, is_free, is_new, names_of, owner_names}
use Rattle.cse_logic_names.specs.Walk.{is_there, joined, only_if, walk}
use Rattle.cse_logic_expressions.proofs.Right.{For, for_map, for_joined, for_only, set_right}
use Rattle.cse_types.proofs.StatementsRight.{AreTypedStatements, whole_right, some_right, block_right}
use Rattle.cse_types.proofs.NewNames.{all_of_map, new_right, none_there}

-- what is said of an answer, and that it is the answer
remembered : {A : Type 0} (P : A → Type 0) (o : Option A) → For P o → For (λ x. P x × (o ≡ Some x)) o
remembered P None h = tt
remembered P (Some x) h = (h, refl)

-- ---- arrays

cells_right : (xs : List syntax.Literal) → For (λ ys. (map (λ (c : Whole). c.literal) ys ≡ xs) × AllByRecursion IsWhole ys) (cells_judged xs)
cells_right [] = (refl, tt)
cells_right (x ∷ xs) =
    for_joined (λ (y : Whole). (y.literal ≡ x) × IsWhole y) (λ ys. (map (λ (c : Whole). c.literal) ys ≡ xs) × AllByRecursion IsWhole ys) _ (λ y ys. y ∷ ys)
    (λ y ys a b. (ap (λ z. z ∷ map (λ (c : Whole). c.literal) ys) a.0 ∙ ap (λ zs. x ∷ zs) b.0, (a.1, b.1)))
    (whole_judged x) (cells_judged xs) (whole_right x (signed_value x) refl) (cells_right xs)

rows_right : (s : Scope) (name : Spelling) (one_more : Bool) (o : Option ℕ) → For (λ k. (meant s name ≡ Some (m.Set k)) × IsNumberSet s.dictionary k) o
    → For (λ y. (erase_dimension y ≡ syntax.Rows name one_more) × IsDimension s y) (set_dimension s name one_more o)
rows_right s name one_more None h = tt
rows_right s name one_more (Some set) h =
    for_map (λ i. set_rows s set one_more ≡ Some i) (λ y. (erase_dimension y ≡ syntax.Rows name one_more) × IsDimension s y) (Rows name set one_more) (λ i e. (refl, (h.0, h.1, e))) (set_rows s set one_more) (some_right (set_rows s set one_more))

dimension_right : (s : Scope) (d : syntax.Dimension) → For (λ y. (erase_dimension y ≡ d) × IsDimension s y) (dimension_judged s d)
dimension_right s (syntax.Sized digits) =
    for_map (λ i. size_of 65535 digits ≡ Some i) (λ y. (erase_dimension y ≡ syntax.Sized digits) × IsDimension s y) (Sized digits) (λ i e. (refl, e)) (size_of 65535 digits) (some_right (size_of 65535 digits))
dimension_right s (syntax.Rows name one_more) = rows_right s name one_more (number_set s (meant s name)) (set_right s (meant s name))

dimensions_right : (s : Scope) (ds : List syntax.Dimension) → For (λ ys. (map erase_dimension ys ≡ ds) × AllByRecursion (IsDimension s) ys) (dimensions_judged s ds)
dimensions_right s [] = (refl, tt)
dimensions_right s (d ∷ ds) =
    for_joined (λ y. (erase_dimension y ≡ d) × IsDimension s y) (λ ys. (map erase_dimension ys ≡ ds) × AllByRecursion (IsDimension s) ys) _ (λ y ys. y ∷ ys)
    (λ y ys a b. (ap (λ z. z ∷ map erase_dimension ys) a.0 ∙ ap (λ zs. d ∷ zs) b.0, (a.1, b.1)))
    (dimension_judged s d) (dimensions_judged s ds) (dimension_right s d) (dimensions_right s ds)

array_right : (s : Scope) (x : syntax.Array) → For (λ y. (erase_array y ≡ x) × (AllByRecursion (IsDimension s) y.dimensions × AllByRecursion IsWhole y.cells) × (dimensions_judged s x.dimensions ≡ Some y.dimensions)) (array_judged s x)
array_right s x =
    for_joined (λ ds. ((map erase_dimension ds ≡ x.dimensions) × AllByRecursion (IsDimension s) ds) × (dimensions_judged s x.dimensions ≡ Some ds)) (λ cs. (map (λ (c : Whole). c.literal) cs ≡ x.cells) × AllByRecursion IsWhole cs) _ (array_of x)
    (λ ds cs a b. (
      ap (λ z. record { name = x.name; dimensions = z; saved = x.saved; cells = map (λ (c : Whole). c.literal) cs }) a.0.0 ∙ ap (λ z. record { name = x.name; dimensions = x.dimensions; saved = x.saved; cells = z }) b.0,
      (a.0.1, b.1),
      a.1,
    ))
    (dimensions_judged s x.dimensions) (cells_judged x.cells)
    (remembered (λ ds. (map erase_dimension ds ≡ x.dimensions) × AllByRecursion (IsDimension s) ds) (dimensions_judged s x.dimensions) (dimensions_right s x.dimensions))
    (cells_right x.cells)

-- ---- dimensions stand on names alone

pub dimension_alone : (s : Scope) (a : List (Option (List Dimension))) (fs : List (Option Facts)) (d : syntax.Dimension) → dimension_judged (record s { arrays = a; functions = fs }) d ≡ dimension_judged s d
unfolding meant
dimension_alone s a fs (syntax.Sized digits) = refl
dimension_alone s a fs (syntax.Rows name one_more) = refl

pub dimensions_alone : (s : Scope) (a : List (Option (List Dimension))) (fs : List (Option Facts)) (ds : List syntax.Dimension) → dimensions_judged (record s { arrays = a; functions = fs }) ds ≡ dimensions_judged s ds
dimensions_alone s a fs [] = refl
dimensions_alone s a fs (d ∷ ds) =
    ap (λ y. joined (λ y ys. y ∷ ys) y (dimensions_judged (record s { arrays = a; functions = fs }) ds)) (dimension_alone s a fs d)
    ∙ ap (joined (λ y ys. y ∷ ys) (dimension_judged s d)) (dimensions_alone s a fs ds)

pub arrays_alone : (s : Scope) (a : List (Option (List Dimension))) (fs : List (Option Facts)) (ds : List syntax.Declaration) → arrays_judged (record s { arrays = a; functions = fs }) ds ≡ arrays_judged s ds
arrays_alone s a fs [] = refl
arrays_alone s a fs (syntax.Numeric names ∷ ds) = arrays_alone s a fs ds
arrays_alone s a fs (syntax.Alpha digits names ∷ ds) = arrays_alone s a fs ds
arrays_alone s a fs (syntax.Array' x ∷ ds) =
    ap (λ z. z ∷ arrays_judged (record s { arrays = a; functions = fs }) ds) (dimensions_alone s a fs x.dimensions) ∙ ap (λ zs. dimensions_judged s x.dimensions ∷ zs) (arrays_alone s a fs ds)
arrays_alone s a fs (syntax.Function' name parameters body ∷ ds) = arrays_alone s a fs ds

pub arrays_behind : (s : Scope) (n : ℕ) (d : syntax.Declaration) (ds : List syntax.Declaration) → arrays_judged (behind s n d) ds ≡ arrays_judged s ds
arrays_behind s n (syntax.Numeric names) ds = refl
arrays_behind s n (syntax.Alpha digits names) ds = refl
arrays_behind s n (syntax.Array' x) ds = refl
arrays_behind s n (syntax.Function' name parameters body) ds =
    arrays_alone s s.arrays (s.functions ++ option_map (facts_of s.functions) (function_judged s n name parameters body) ∷ []) ds

-- ---- functions

is_new_right : (d : DictionaryText) (declared : List (List ℕ × Meaning)) (name : List ℕ) → is_new d declared name ≡ true → IsNew d declared name
is_new_right d declared name h =
    let a = and_parts (is_free d name) (not (is_there (lookup (bytes_eq name) declared))) h in
    (none_there (in_dictionary d name) a.0, none_there (lookup (bytes_eq name) declared) a.1)

-- the function that is made of these
abbrev IsMadeOf : Scope → ℕ → Spelling → List syntax.Parameter → syntax.Stmts → Function → Type 0
IsMadeOf s n name parameters body y = ((y.name ≡ name) × (y.parameters ≡ parameters) × (erase_block y.body ≡ body)) × IsFunction s n y

function_right : (s : Scope) (n : ℕ) (name : Spelling) (ps : List syntax.Parameter) (body : syntax.Stmts) → For (IsMadeOf s n name ps body) (function_judged s n name ps body)
function_right s n name ps body = for_only _ (are_new (is_new s.dictionary s.declared) [] (parameter_names ps)) _ (λ c.
    let d = new_right (is_new s.dictionary s.declared) [] (parameter_names ps) c in
    for_map (AreTypedStatements (function_scope s (length s.functions) ps) n body) (IsMadeOf s n name ps body) (function_of s name ps)
    (λ y k. (
      (refl, refl, k.0),
      record {
        parameters_new = AllByRecursion-weaker (λ x. is_new s.dictionary s.declared x ≡ true) (IsNew s.dictionary s.declared) (is_new_right s.dictionary s.declared) (parameter_names ps) d.0;
        parameters_once = d.1;
        body = k.1;
        needs = refl;
      },
    ))
    (judge_block (function_scope s (length s.functions) ps) n body) (block_right (function_scope s (length s.functions) ps) n body))

-- ---- declarations

-- what a typed declaration is before others
record IsDeclaredAs (s : Scope) (n : ℕ) (d : syntax.Declaration) (y : Declaration) : Type 0 where
  erased : erase_declaration y ≡ d
  sound : (ys : List Declaration) → AreDeclared (behind s n d) (messages_past n d) ys → AreDeclared s n (y ∷ ys)
  after : (ys : List Declaration) → with_functions (behind s n d) ys ≡ with_functions s (y ∷ ys)
  arrays : (ds : List syntax.Declaration) (ys : List Declaration) → arrays_judged s ds ≡ arrays_in ys → arrays_judged s (d ∷ ds) ≡ arrays_in (y ∷ ys)

declared_function : (s : Scope) (n : ℕ) (name : Spelling) (ps : List syntax.Parameter) (body : syntax.Stmts) (y : Function) → IsMadeOf s n name ps body y → function_judged s n name ps body ≡ Some y
    → IsDeclaredAs s n (syntax.Function' name ps body) (Function' y)
declared_function s n name ps body y k e =
    let same : behind s n (syntax.Function' name ps body) ≡ with_function s y = ap (behind_function s) e in
    record {
      erased = ap (λ z. syntax.Function' z y.parameters (erase_block y.body)) k.0.0 ∙ ap (λ z. syntax.Function' name z (erase_block y.body)) k.0.1 ∙ ap (syntax.Function' name ps) k.0.2;
      sound = λ ys h. (k.1, subst (λ z. AreDeclared (with_function s y) (n + length (messages_of z)) ys) (sym k.0.2) (subst (λ z. AreDeclared z (n + length (messages_of body)) ys) same h));
      after = λ ys. ap (λ z. with_functions z ys) same;
      arrays = λ ds ys h. h;
    }

declaration_right : (s : Scope) (n : ℕ) (d : syntax.Declaration) → For (IsDeclaredAs s n d) (declaration_judged s n d)
declaration_right s n (syntax.Numeric names) = record { erased = refl; sound = λ ys h. h; after = λ ys. refl; arrays = λ ds ys h. h }
declaration_right s n (syntax.Alpha digits names) =
    for_map (λ i. size_of 255 digits ≡ Some i) (IsDeclaredAs s n (syntax.Alpha digits names)) (alpha_of digits names)
    (λ i e. record { erased = refl; sound = λ ys h. (e, h); after = λ ys. refl; arrays = λ ds ys h. h }) (size_of 255 digits) (some_right (size_of 255 digits))
declaration_right s n (syntax.Array' x) =
    for_map (λ y. (erase_array y ≡ x) × (AllByRecursion (IsDimension s) y.dimensions × AllByRecursion IsWhole y.cells) × (dimensions_judged s x.dimensions ≡ Some y.dimensions)) (IsDeclaredAs s n (syntax.Array' x)) Array'
    (λ y k. record {
      erased = ap syntax.Array' k.0;
      sound = λ ys h. (k.1.0, k.1.1, h);
      after = λ ys. refl;
      arrays = λ ds ys h. ap (λ z. z ∷ arrays_judged s ds) k.2 ∙ ap (λ z. Some y.dimensions ∷ z) h;
    })
    (array_judged s x) (array_right s x)
declaration_right s n (syntax.Function' name ps body) =
    for_map (λ y. IsMadeOf s n name ps body y × (function_judged s n name ps body ≡ Some y)) (IsDeclaredAs s n (syntax.Function' name ps body)) Function'
    (λ y k. declared_function s n name ps body y k.0 k.1) (function_judged s n name ps body)
    (remembered (IsMadeOf s n name ps body) (function_judged s n name ps body) (function_right s n name ps body))

abbrev AreDeclaredAs : Scope → ℕ → List syntax.Declaration → List Declaration → Type 0
AreDeclaredAs s n ds ys = (map erase_declaration ys ≡ ds) × AreDeclared s n ys × (behind_all s n ds ≡ with_functions s ys) × (arrays_judged s ds ≡ arrays_in ys)

declarations_right : (s : Scope) (n : ℕ) (ds : List syntax.Declaration) → For (AreDeclaredAs s n ds) (declarations_judged s n ds)
declarations_right s n [] = (refl, tt, refl, refl)
declarations_right s n (d ∷ ds) =
    for_joined (IsDeclaredAs s n d) (AreDeclaredAs (behind s n d) (messages_past n d) ds) (AreDeclaredAs s n (d ∷ ds)) (λ y ys. y ∷ ys)
    (λ y ys a b. (
      ap (λ z. z ∷ map erase_declaration ys) a.erased ∙ ap (λ zs. d ∷ zs) b.0,
      a.sound ys b.1,
      b.2 ∙ a.after ys,
      a.arrays ds ys (sym (arrays_behind s n d ds) ∙ b.3),
    ))
    (declaration_judged s n d) (declarations_judged (behind s n d) (messages_past n d) ds) (declaration_right s n d) (declarations_right (behind s n d) (messages_past n d) ds)

-- ---- procedures

body_right : (s : Scope) (n : ℕ) (x : syntax.Body) → For (λ y. (erase_body y ≡ x) × IsBody s n y) (body_judged s n x)
body_right s n (syntax.Plain xs) = for_map (AreTypedStatements s n xs) _ Plain (λ y k. (ap syntax.Plain k.0, k.1)) (judge_block s n xs) (block_right s n xs)
body_right s n (syntax.Preproc xs) = for_map (AreTypedStatements s n xs) _ Preproc (λ y k. (ap syntax.Preproc k.0, k.1)) (judge_block s n xs) (block_right s n xs)
body_right s n (syntax.Both xs ys) =
    for_joined (AreTypedStatements s n xs) (AreTypedStatements s (n + length (messages_of xs)) ys) _ Both
    (λ u v a b. (ap (λ z. syntax.Both z (erase_block v)) a.0 ∙ ap (syntax.Both xs) b.0, (a.1, subst (λ z. AreStatements s (n + length (messages_of z)) v) (sym a.0) b.1)))
    (judge_block s n xs) (judge_block s (n + length (messages_of xs)) ys) (block_right s n xs) (block_right s (n + length (messages_of xs)) ys)
body_right s n (syntax.Postproc xs) = for_map (AreTypedStatements s n xs) _ Postproc (λ y k. (ap syntax.Postproc k.0, k.1)) (judge_block s n xs) (block_right s n xs)

abbrev IsProcedureOf : Scope → ℕ → syntax.Procedure → Procedure → Type 0
IsProcedureOf s n x y = ((y.name ≡ x.name) × (erase_body y.body ≡ x.body)) × (owner_meant s.dictionary (in_dictionary s.dictionary x.name.text) ≡ Some y.owner) × IsBody (procedure_scope s y.owner) n y.body

owned_right : (s : Scope) (n : ℕ) (x : syntax.Procedure) (o : Option Owner) → owner_meant s.dictionary (in_dictionary s.dictionary x.name.text) ≡ o → For (IsProcedureOf s n x) (owned s n x o)
owned_right s n x None e = tt
owned_right s n x (Some owner) e =
    for_map (λ y. (erase_body y ≡ x.body) × IsBody (procedure_scope s owner) n y) (IsProcedureOf s n x) (procedure_of x.name owner) (λ y k. ((refl, k.0), e, k.1)) (body_judged (procedure_scope s owner) n x.body) (body_right (procedure_scope s owner) n x.body)

abbrev AreProceduresOf : Scope → ℕ → List syntax.Procedure → List Procedure → Type 0
AreProceduresOf s n xs ys = (map erase_procedure ys ≡ xs) × AreProcedures s n ys

procedures_right : (s : Scope) (n : ℕ) (xs : List syntax.Procedure) → For (AreProceduresOf s n xs) (procedures_judged s n xs)
procedures_right s n [] = (refl, tt)
procedures_right s n (x ∷ xs) =
    for_joined (IsProcedureOf s n x) (AreProceduresOf s (n + length (body_messages x.body)) xs) (AreProceduresOf s n (x ∷ xs)) (λ y ys. y ∷ ys)
    (λ y ys a b. (
      ap (λ z. record { name = z; body = erase_body y.body } ∷ map erase_procedure ys) a.0.0 ∙ ap (λ z. record { name = x.name; body = z } ∷ map erase_procedure ys) a.0.1 ∙ ap (λ zs. x ∷ zs) b.0,
      (
        ap (λ (z : Spelling). owner_meant s.dictionary (in_dictionary s.dictionary z.text)) a.0.0 ∙ a.1,
        a.2,
        subst (λ z. AreProcedures s (n + length (body_messages z)) ys) (sym a.0.1) b.1,
      ),
    ))
    (procedure_judged s n x) (procedures_judged s (n + length (body_messages x.body)) xs)
    (owned_right s n x (owner_meant s.dictionary (in_dictionary s.dictionary x.name.text)) refl) (procedures_right s (n + length (body_messages x.body)) xs)

-- ---- sources

pub owner_names_are : (ys : List Procedure) → owner_names (map erase_procedure ys) ≡ map (λ (x : Procedure). kept_name x.name.text) ys
owner_names_are [] = refl
owner_names_are (y ∷ ys) = ap (λ zs. kept_name y.name.text ∷ zs) (owner_names_are ys)

abbrev AreGlobalsOf : Scope → Option (List syntax.Declaration) → Option (List Declaration) → Type 0
AreGlobalsOf s x y =
    (option_map (λ ds. map erase_declaration ds) y ≡ x)
    × AreDeclared s 0 (typed_declarations y)
    × (behind_all s 0 (all_declarations x) ≡ with_functions s (typed_declarations y))
    × (arrays_judged s (all_declarations x) ≡ arrays_in (typed_declarations y))

globals_right : (s : Scope) (x : Option (List syntax.Declaration)) → For (AreGlobalsOf s x) (globals_judged s x)
globals_right s None = (refl, tt, refl, refl)
globals_right s (Some ds) = for_map (AreDeclaredAs s 0 ds) (AreGlobalsOf s (Some ds)) (λ ys. Some ys) (λ ys k. (ap Some k.0, k.1, k.2, k.3)) (declarations_judged s 0 ds) (declarations_right s 0 ds)

-- a scope at the start, by what it knows of names and arrays
abbrev pub start_of : DictionaryText → List MessageText → syntax.Tree → List (Option (List Dimension)) → Scope
start_of d messages x arrays = record {
  dictionary = d;
  messages = messages;
  declared = declared_in x;
  arrays = arrays;
  functions = [];
  parameters = [];
  routine = r.Procedure o.Application;
  loops = [];
}

module _ (d : DictionaryText) (messages : List MessageText) (x : syntax.Tree) where
  is_well : (ys : Option (List Declaration)) (ps : List Procedure) → are_new (is_free d) [] (names_of (declared_in x)) ≡ true → are_new (λ name. true) [] (owner_names x.procedures) ≡ true
      → AreGlobalsOf (start_scope d messages x) x.globals ys → AreProceduresOf (behind_all (start_scope d messages x) 0 (all_declarations x.globals)) (length (declared_messages (all_declarations x.globals))) x.procedures ps
      → IsTypedAs d messages x (tree_of messages x ys ps)
  is_well ys ps new once a b =
      let t = tree_of messages x ys ps in
      let names = new_right (is_free d) [] (names_of (declared_in x)) new in
      let owners = new_right (λ name. true) [] (owner_names x.procedures) once in
      let same : erase_tree t ≡ x = ap (λ z. record { globals = z; procedures = map erase_procedure ps }) a.0 ∙ ap (λ z. record { globals = x.globals; procedures = z }) b.0 in
      let arrays : arrays_judged (names_scope d messages x) (all_declarations x.globals) ≡ arrays_in (typed_declarations ys) =
      sym (arrays_alone (names_scope d messages x) (arrays_judged (names_scope d messages x) (all_declarations x.globals)) [] (all_declarations x.globals)) ∙ a.3 in
      let scope : start_scope d messages x ≡ first_scope d messages t =
      ap (start_of d messages x) arrays ∙ ap (λ z. start_of d messages z (arrays_in (typed_declarations ys))) (sym same) in
      record {
        erased = same;
        well = record {
          names_new = subst (λ z. AllByRecursion (λ (x : List ℕ × Meaning). in_dictionary d x.0 ≡ None) (declared_in z)) (sym same)
              (AllByRecursion-weaker (λ (x : List ℕ × Meaning). is_free d x.0 ≡ true) (λ (x : List ℕ × Meaning). in_dictionary d x.0 ≡ None) (λ x h. none_there (in_dictionary d x.0) h) (declared_in x)
              (all_of_map (λ n. is_free d n ≡ true) (λ (x : List ℕ × Meaning). x.0) (declared_in x) names.0));
          names_once = subst (λ z. IsDistinct bytes_eq (map (λ (x : List ℕ × Meaning). x.0) (declared_in z))) (sym same) names.1;
          declarations = subst (λ z. AreDeclared z 0 (typed_declarations ys)) scope a.1;
          procedures_once = subst (IsDistinct bytes_eq) (ap owner_names (sym b.0) ∙ owner_names_are ps) owners.1;
          procedures = subst (λ z. AreProcedures (with_functions (first_scope d messages t) (typed_declarations ys)) (length (declared_messages (all_declarations z))) ps) (sym a.0)
              (subst (λ z. AreProcedures z (length (declared_messages (all_declarations x.globals))) ps) (a.2 ∙ ap (λ z. with_functions z (typed_declarations ys)) scope) b.1);
          messages_are = ap (λ z. map (entry_of messages) (tree_messages z)) (sym same);
        };
      }

  pub tree_right : For (IsTypedAs d messages x) (typed_of d messages x)
  unfolding typed_of
  tree_right = for_only _ (are_new (is_free d) [] (names_of (declared_in x)) && are_new (λ name. true) [] (owner_names x.procedures)) _ (λ c.
      let k = and_parts (are_new (is_free d) [] (names_of (declared_in x))) (are_new (λ name. true) [] (owner_names x.procedures)) c in
      for_joined (AreGlobalsOf (start_scope d messages x) x.globals)
      (AreProceduresOf (behind_all (start_scope d messages x) 0 (all_declarations x.globals)) (length (declared_messages (all_declarations x.globals))) x.procedures)
      (IsTypedAs d messages x) (tree_of messages x) (λ ys ps a b. is_well ys ps k.0 k.1 a b)
      (globals_judged (start_scope d messages x) x.globals) (procedures_judged (behind_all (start_scope d messages x) 0 (all_declarations x.globals)) (length (declared_messages (all_declarations x.globals))) x.procedures)
      (globals_right (start_scope d messages x) x.globals)
      (procedures_right (behind_all (start_scope d messages x) 0 (all_declarations x.globals)) (length (declared_messages (all_declarations x.globals))) x.procedures))
