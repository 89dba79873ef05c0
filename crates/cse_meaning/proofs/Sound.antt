-- Routines of a sound source are plain.
use Rattle.std.proofs.Common.{◌≡◌, ℕ, zero, suc, ◌+◌, ◌≤◌, Bool, true, false, List, [], ◌∷◌, ◌++◌, map, length, Option, Some, None, refl, sym, ap, ◌∙◌, subst, append_assoc}
use Rattle.std.specs.Prelude.{slice_get, option_map, if◌then◌else◌}
use Rattle.std.proofs.lemmas.List.{length-map}
use Rattle.std.proofs.lemmas.Option.{same_Some, none-some, slice_get-map}
use Rattle.cse_value.specs.declared.shape.RecordShape.{RecordShape}
use Rattle.cse_value.specs.Occurrences.{most_occurrences}
use Rattle.cse_image_parts.specs.Image.{Image}
use Rattle.cse_dict.specs.Dictionary.{DictionaryText, shape_of}
use Rattle.cse_dict.specs.Keys.{kept_name}
use Rattle.cse_syntax_tree.specs.Tree as syntax
use Rattle.cse_syntax_tree.specs.Word.{Word}
use Rattle.cse_syntax_tree.specs.Grammar as grammar
use Rattle.cse_syntax_tree.specs.Grammar.{Each, AreStmts, IsDeclaration, IsProcedure}
use Rattle.cse_logic_tree.specs.declared.tree.Owner.{Owner}
use Rattle.cse_logic_tree.specs.Typed.{Statements, Function, Declaration, Numeric, Alpha, Array', Function', Body, Plain, Preproc, Both, Postproc, Procedure, Tree}
use Rattle.cse_logic_tree.specs.Erase.{erase_block, erase_body, erase_declaration, erase_procedure, erase_tree}
use Rattle.cse_compile.specs.declared.outlines.RoutineSort.{RoutineSort}
use Rattle.cse_compile.specs.declared.outlines.RoutineSort.TheVariants as sorts
use Rattle.cse_compile.specs.Outline.{Outline, Handler, outline_of, functions_in, is_idle, event_of, handler_of, handlers_of_body, handlers_in}
use Rattle.cse_logic_names.specs.MessageFile.{MessageText}
use Rattle.cse_logic_names.specs.Scope.{Scope}
use Rattle.cse_logic_names.specs.WellTyped.{IsFunction, AreDeclared, AreStatements, IsBody, AreProcedures, function_scope, procedure_scope, with_function, with_functions, first_scope, typed_declarations, all_declarations, parameter_names, messages_of, body_messages}
use Rattle.cse_compile.specs.Program.{declarations, handlers, outlines}
use Rattle.cse_meaning.specs.Checked.{IsCompiled}
use Rattle.cse_meaning.proofs.SoundRoutines.{same_declarations, each_declaration, OfGrammar}
use Rattle.cse_meaning.specs.Plain.{IsPlainBlock}
use Rattle.cse_meaning.proofs.ProgramLoops.{most_few, block_holds}
use Rattle.cse_meaning.proofs.Own.{OwnMeanings, declared_own, block_own}

-- how many parameters a routine may name
abbrev pub named_by : RoutineSort → ℕ
named_by (sorts.Function count needs) = count
named_by (sorts.Procedure owner) = 0

module _ (rs : List RecordShape) (most : (of : ℕ) → most_occurrences rs of ≤ 9999) where
  abbrev IsPlainOutline : Outline → Type 0
  IsPlainOutline o = IsPlainBlock rs (named_by o.sort) o.body

  -- what a scope declares is no parameter, however many there are
  abbrev IsGlobal : Scope → Type 0
  IsGlobal s = (n : ℕ) → OwnMeanings n s.declared

  -- ---- functions

  function_plain : (s : Scope) (n room : ℕ) (f : Function) → IsGlobal s → IsFunction s n f → AreStmts (erase_block f.body) room → IsPlainOutline (outline_of f)
  function_plain s n room f known h g =
      let c = function_scope s (length s.functions) f.parameters in
      let many = length-map f.parameters (λ (p : syntax.Parameter). kept_name p.name.text) in
      subst (λ n. IsPlainBlock rs n f.body) many (block_own rs c n f.body (known (length (parameter_names f.parameters))) h.body (block_holds rs most c n room f.body h.body g))

  pub functions_plain : (s : Scope) (n room : ℕ) (ds : List Declaration) → IsGlobal s → AreDeclared s n ds → Each (IsDeclaration room) (map erase_declaration ds) → (k : ℕ) (o : Outline) → slice_get (functions_in ds) k ≡ Some o → IsPlainOutline o
  functions_plain s n room [] known h g k o e = absurd (none-some o e)
  functions_plain s n room (Numeric names ∷ ds) known h g k o e = functions_plain s n room ds known h g.1 k o e
  functions_plain s n room (Alpha digits size names ∷ ds) known h g k o e = functions_plain s n room ds known h.1 g.1 k o e
  functions_plain s n room (Array' array ∷ ds) known h g k o e = functions_plain s n room ds known h.2 g.1 k o e
  functions_plain s n room (Function' f ∷ ds) known h g zero o e = subst IsPlainOutline (same_Some (outline_of f) o e) (function_plain s n room f known h.0 g.0.2)
  functions_plain s n room (Function' f ∷ ds) known h g (suc k) o e = functions_plain (with_function s f) (n + length (messages_of (erase_block f.body))) room ds known h.1 g.1 k o e

  -- ---- procedures

  abbrev EachPlainPart : List Handler → Type 0
  EachPlainPart [] = Unit {0}
  EachPlainPart (x ∷ xs) = IsPlainOutline x.outline × EachPlainPart xs

  pub part_at : (xs : List Handler) (k : ℕ) (x : Handler) → EachPlainPart xs → slice_get xs k ≡ Some x → IsPlainOutline x.outline
  part_at [] k x h e = absurd (none-some x e)
  part_at (y ∷ ys) zero x h e = subst (λ (x : Handler). IsPlainOutline x.outline) (same_Some y x e) h.0
  part_at (y ∷ ys) (suc k) x h e = part_at ys k x h.1 e

  part_plain : (s : Scope) (n room : ℕ) (owner : Owner) (after : Bool) (body : Statements) (xs : List Handler) → IsGlobal s → s.parameters ≡ [] → AreStatements (procedure_scope s owner) n body → AreStmts (erase_block body) room → EachPlainPart xs → EachPlainPart (handler_of owner after body ++ xs)
  part_plain s n room owner after body xs known none h g rest = by (is_idle body)
    where
      here : IsPlainBlock rs 0 body
      here = subst (λ (ps : List (List ℕ)). IsPlainBlock rs (length ps) body) none (block_own rs (procedure_scope s owner) n body (known (length s.parameters)) h (block_holds rs most (procedure_scope s owner) n room body h g))

      by : (idle : Bool) → EachPlainPart ((if idle then [] else record { event = event_of owner after; outline = record { sort = sorts.Procedure owner; body = body } } ∷ []) ++ xs)
      by true = rest
      by false = (here, rest)

  body_plain : (s : Scope) (n room : ℕ) (owner : Owner) (body : Body) (xs : List Handler) → IsGlobal s → s.parameters ≡ [] → IsBody (procedure_scope s owner) n body → grammar.IsBody room (erase_body body) → EachPlainPart xs → EachPlainPart (handlers_of_body owner body ++ xs)
  body_plain s n room owner (Plain b) xs known none h g rest = part_plain s n room owner true b xs known none h g rest
  body_plain s n room owner (Preproc b) xs known none h g rest = part_plain s n room owner false b xs known none h g rest
  body_plain s n room owner (Both a b) xs known none h g rest =
      subst EachPlainPart (sym (append_assoc (handler_of owner false a) (handler_of owner true b) xs))
      (part_plain s n room owner false a (handler_of owner true b ++ xs) known none h.0 g.0 (part_plain s (n + length (messages_of (erase_block a))) room owner true b xs known none h.1 g.1 rest))
  body_plain s n room owner (Postproc b) xs known none h g rest = part_plain s n room owner true b xs known none h g rest

  pub procedures_plain : (s : Scope) (ps : List Procedure) (n room : ℕ) → IsGlobal s → s.parameters ≡ [] → AreProcedures s n ps → Each (IsProcedure room) (map erase_procedure ps) → EachPlainPart (handlers_in ps)
  procedures_plain s [] n room known none h g = tt
  procedures_plain s (p ∷ ps) n room known none h g =
      body_plain s n room p.owner p.body (handlers_in ps) known none h.1 g.0.1 (procedures_plain s ps (n + length (body_messages (erase_body p.body))) room known none h.2 g.1)

-- functions declare nothing else
pub with_declared : (s : Scope) (ds : List Declaration) → (with_functions s ds).declared ≡ s.declared
with_declared s [] = refl
with_declared s (Numeric names ∷ ds) = with_declared s ds
with_declared s (Alpha digits size names ∷ ds) = with_declared s ds
with_declared s (Array' array ∷ ds) = with_declared s ds
with_declared s (Function' f ∷ ds) = with_declared (with_function s f) ds

pub with_parameters : (s : Scope) (ds : List Declaration) → (with_functions s ds).parameters ≡ s.parameters
with_parameters s [] = refl
with_parameters s (Numeric names ∷ ds) = with_parameters s ds
with_parameters s (Alpha digits size names ∷ ds) = with_parameters s ds
with_parameters s (Array' array ∷ ds) = with_parameters s ds
with_parameters s (Function' f ∷ ds) = with_parameters (with_function s f) ds

-- ---- all routines

at_either : {A : Type 0} {P : Type 0} (xs ys : List A) (k : ℕ) (x : A) → slice_get (xs ++ ys) k ≡ Some x → ((k : ℕ) → slice_get xs k ≡ Some x → P) → ((k : ℕ) → slice_get ys k ≡ Some x → P) → P
at_either [] ys k x e f g = g k e
at_either (y ∷ xs) ys zero x e f g = f 0 e
at_either (y ∷ xs) ys (suc k) x e f g = at_either xs ys k x e (λ k e. f (suc k) e) g

module _ (d : DictionaryText) (messages : List MessageText) (named : List ℕ) (source : syntax.Tree) (words : List Word) (t : Tree) (x : Image) (compiled : IsCompiled d messages named source words t x) where
  abbrev records : List RecordShape
  records = (shape_of d).records

  most : (of : ℕ) → most_occurrences records of ≤ 9999
  most = most_few d compiled.dictionary

  of_grammar : OfGrammar (erase_tree t)
  of_grammar = subst OfGrammar (sym compiled.typed.erased) (compiled.grammar.0, compiled.grammar.1)

  abbrev first : Scope
  first = first_scope d messages t

  first_is_global : IsGlobal records most first
  first_is_global n = declared_own n 0 0 0 (all_declarations (erase_tree t).globals)

  abbrev last : Scope
  last = with_functions first (typed_declarations t.globals)

  last_is_global : IsGlobal records most last
  last_is_global n = subst (OwnMeanings n) (sym (with_declared first (typed_declarations t.globals))) (first_is_global n)

  parts_plain : EachPlainPart records most (handlers t)
  parts_plain = procedures_plain records most last t.procedures _ 64 last_is_global (with_parameters first (typed_declarations t.globals)) compiled.typed.well.procedures of_grammar.1

  declared : AreDeclared first 0 (declarations t)
  declared = subst (AreDeclared first 0) (same_declarations t.globals) compiled.typed.well.declarations

  pub routine_plain : (r : ℕ) (o : Outline) → slice_get (outlines t) r ≡ Some o → IsPlainBlock records (named_by o.sort) o.body
  routine_plain r o e =
      at_either (functions_in (declarations t)) (map (λ (x : Handler). x.outline) (handlers t)) r o e
      (λ k e. functions_plain records most first 0 64 (declarations t) first_is_global declared (each_declaration t.globals of_grammar.0) k o e)
      (λ k e. by k (slice_get (handlers t) k) refl (sym (slice_get-map (λ (x : Handler). x.outline) (handlers t) k) ∙ e))
    where
      by : (k : ℕ) (h : Option Handler) → slice_get (handlers t) k ≡ h → option_map (λ (x : Handler). x.outline) (slice_get (handlers t) k) ≡ Some o → IsPlainOutline records most o
      by k None none is = absurd (none-some o (sym (ap (option_map (λ (x : Handler). x.outline)) none) ∙ is))
      by k (Some h) some is =
          subst (IsPlainOutline records most) (same_Some h.outline o (sym (ap (option_map (λ (x : Handler). x.outline)) some) ∙ is)) (part_at records most (handlers t) k h parts_plain some)
