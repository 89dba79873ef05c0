-- Declarations are judged to be sound exactly where they have no fault.
use Rattle.std.specs.Prelude.{Bool, true, ◌&&◌, slice_get}
use Rattle.std.proofs.Common.{◌≡◌, ℕ, zero, suc, ◌+◌, List, [], ◌∷◌, ◌++◌, length, Option, Some, None, refl, sym, ap, ◌∙◌, arith, option_map, subst}
use Rattle.std.proofs.lemmas.Bool.{false≢true, and_parts}
use Rattle.cse_syntax_tree.specs.Tree as syntax
use Rattle.cse_syntax_tree.specs.Tree.{Spelling}
use Rattle.cse_logic_tree.specs.Typed.{Dimension, Sized, Rows, Function, Declaration, Numeric, Array', Function'}
use Rattle.cse_logic_names.specs.declared.meaning.Meaning.{Meaning}
use Rattle.cse_logic_names.specs.declared.meaning.Meaning.TheVariants as m
use Rattle.cse_logic_names.specs.Scope.{Scope, Facts, meant}
use Rattle.cse_logic_names.specs.Uses.{facts_of}
use Rattle.cse_logic_names.specs.Walk.{is_there, joined}
use Rattle.cse_logic_names.specs.WellTyped.{set_kind, size_of, rows_of, parameter_names, function_scope, messages_of}
use Rattle.cse_logic_names.proofs.Walks.{there_map, joined_there}
use Rattle.cse_logic_faults.specs.Faults.{Fault, unless, Counts}
use Rattle.cse_logic_faults.specs.FaultsOfExpressions.{set_faults}
use Rattle.cse_logic_faults.specs.FaultsOfStatements.{digits_faults, stmts_faults}
use Rattle.cse_logic_expressions.specs.Judge.{number_set, is_number_kind}
use Rattle.cse_logic_expressions.specs.JudgeStatement.{whole_judged, judge_block}
use Rattle.cse_logic_expressions.proofs.Right.{For, for_map, for_joined, for_only, for_any}
use Rattle.cse_types.specs.Counted.{ArrayIsCounted, FunctionIsCounted, IsCounted}
use Rattle.cse_types.proofs.Truths.{none, and_both, none_both, none_unless, there_if, told_both}
use Rattle.cse_types.proofs.Expressions.{set_told}
use Rattle.cse_types.proofs.Statements.{whole_told, block_told}
use Rattle.cse_types.specs.JudgeTree.{set_rows, set_dimension, dimension_judged, dimensions_judged, cells_judged, array_of, array_judged, arrays_judged, function_of, function_judged, behind_function, alpha_of, declaration_judged, behind, messages_past, declarations_judged, behind_all}
use Rattle.cse_types.specs.Names.{are_new, is_free, is_new, names_of}
use Rattle.cse_types.specs.Fresh.{body_scope}
use Rattle.cse_types.specs.PartFaults.{size_faults, rows_faults, dimension_faults, dimensions_faults, cells_faults, parameters_scope, declaration_faults, parameters_in, dimensions_in, counts_in}
use Rattle.cse_types.specs.SourceFaults.{declarations_faults}
use Rattle.cse_types.proofs.FreshLaws.{fresh_sound, fresh_are}
use Rattle.cse_types.proofs.TreeRight.{arrays_behind}
use Rattle.cse_types.proofs.NamesTold.{are_apart, parameters_are_new, are_parameters}

-- ---- arrays

size_told : (most : ℕ) (digits : Spelling) → is_there (size_of most digits) ≡ none (size_faults most digits)
size_told most digits = sym (none_unless (is_there (size_of most digits)) 44 digits.token)

module _ (s : Scope) where
  rows_told : (name : Spelling) (one_more : Bool) (token : ℕ) (o : Option Meaning)
      → is_there (set_dimension s name one_more (number_set s o)) ≡ (is_there (number_set s o) && none (rows_faults s.dictionary token o))
  rows_told name one_more token None = refl
  rows_told name one_more token (Some (m.Variable x)) = refl
  rows_told name one_more token (Some (m.Text g)) = refl
  rows_told name one_more token (Some (m.Array a)) = refl
  rows_told name one_more token (Some (m.Function k)) = refl
  rows_told name one_more token (Some (m.Record x)) = refl
  rows_told name one_more token (Some (m.Item item)) = refl
  rows_told name one_more token (Some (m.Set k)) = by (number_set s (Some (m.Set k))) (for_only (λ i. i ≡ k) (is_number_kind (set_kind s.dictionary k)) (Some k) (λ h. refl))
    where
      rows : Option ℕ
      rows = rows_of (slice_get s.dictionary.sets k)

      by : (set : Option ℕ) → For (λ i. i ≡ k) set → is_there (set_dimension s name one_more set) ≡ (is_there set && none (unless (is_there rows) 49 token))
      by None h = refl
      by (Some i) h =
          there_map (Rows name i one_more) (set_rows s i one_more)
          ∙ there_map _ (rows_of (slice_get s.dictionary.sets i))
          ∙ ap (λ j. is_there (rows_of (slice_get s.dictionary.sets j))) h
          ∙ sym (none_unless (is_there rows) 49 token)
  rows_told name one_more token (Some m.Application) = refl
  rows_told name one_more token (Some m.Level) = refl

  dimension_told : (x : syntax.Dimension) → is_there (dimension_judged s x) ≡ none (dimension_faults s x)
  dimension_told (syntax.Sized digits) = there_map (Sized digits) (size_of 65535 digits) ∙ size_told 65535 digits
  dimension_told (syntax.Rows name one_more) =
      let set = meant s name in
      rows_told name one_more name.token set
      ∙ ap (λ b. b && none (rows_faults s.dictionary name.token set)) (set_told (counts_in []) s name.token set)
      ∙ sym (none_both (set_faults s.dictionary name.token set) (rows_faults s.dictionary name.token set))

  dimensions_told : (xs : List syntax.Dimension) → is_there (dimensions_judged s xs) ≡ none (dimensions_faults s xs)
  dimensions_told [] = refl
  dimensions_told (x ∷ xs) = told_both _ (dimension_judged s x) (dimensions_judged s xs) (dimension_faults s x) (dimensions_faults s xs) (dimension_told x) (dimensions_told xs)

  dimensions_counted : (xs : List syntax.Dimension) → For (λ ys. length xs ≡ length ys) (dimensions_judged s xs)
  dimensions_counted [] = refl
  dimensions_counted (x ∷ xs) =
      for_joined (λ y. Unit {0}) (λ ys. length xs ≡ length ys) (λ ys. length (x ∷ xs) ≡ length ys) (λ y ys. y ∷ ys) (λ y ys u h. omega (arith, h)) (dimension_judged s x) (dimensions_judged s xs) (for_any (dimension_judged s x)) (dimensions_counted xs)

cells_told : (xs : List syntax.Literal) → is_there (cells_judged xs) ≡ none (cells_faults xs)
cells_told [] = refl
cells_told (x ∷ xs) = told_both _ (whole_judged x) (cells_judged xs) (digits_faults x.digits) (cells_faults xs) (whole_told x) (cells_told xs)

array_told : (s : Scope) (x : syntax.Array) → is_there (array_judged s x) ≡ none (dimensions_faults s x.dimensions ++ cells_faults x.cells)
array_told s x = told_both (array_of x) (dimensions_judged s x.dimensions) (cells_judged x.cells) (dimensions_faults s x.dimensions) (cells_faults x.cells) (dimensions_told s x.dimensions) (cells_told x.cells)

-- each array is sound
abbrev pub are_there : {A : Type 0} → List (Option A) → Bool
are_there [] = true
are_there (x ∷ xs) = is_there x && are_there xs

pub arrays_counted : (s : Scope) (ds : List syntax.Declaration) → are_there (arrays_judged s ds) ≡ true → (a : ℕ) → ArrayIsCounted (slice_get (arrays_judged s ds) a) (slice_get (dimensions_in ds) a)
arrays_counted s [] h a = refl
arrays_counted s (syntax.Numeric names ∷ ds) h a = arrays_counted s ds h a
arrays_counted s (syntax.Alpha size names ∷ ds) h a = arrays_counted s ds h a
arrays_counted s (syntax.Array' x ∷ ds) h zero = by (dimensions_judged s x.dimensions) (dimensions_counted s x.dimensions) (and_parts (is_there (dimensions_judged s x.dimensions)) (are_there (arrays_judged s ds)) h).0
  where
    by : (o : Option (List Dimension)) → For (λ ys. length x.dimensions ≡ length ys) o → is_there o ≡ true → ArrayIsCounted (Some o) (Some (length x.dimensions))
    by None k e = absurd (false≢true e)
    by (Some ys) k e = ap Some k
arrays_counted s (syntax.Array' x ∷ ds) h (suc a) = arrays_counted s ds (and_parts (is_there (dimensions_judged s x.dimensions)) (are_there (arrays_judged s ds)) h).1 a
arrays_counted s (syntax.Function' name ps body ∷ ds) h a = arrays_counted s ds h a

-- ---- functions that have ended

-- these functions are sound, and declared before the rest
abbrev pub AreEnded : List (Option Facts) → List ℕ → List ℕ → Type 0
AreEnded [] declared rest = declared ≡ rest
AreEnded (None ∷ fs) declared rest = ⊥
AreEnded (Some f ∷ fs) [] rest = ⊥
AreEnded (Some f ∷ fs) (n ∷ ns) rest = (n ≡ f.parameters) × AreEnded fs ns rest

ended_counted : (fs : List (Option Facts)) (declared rest : List ℕ) → AreEnded fs declared rest → (k : ℕ) → FunctionIsCounted (slice_get fs k) (slice_get declared k)
ended_counted [] declared rest h k = tt
ended_counted (None ∷ fs) declared rest h k = absurd h
ended_counted (Some f ∷ fs) [] rest h k = absurd h
ended_counted (Some f ∷ fs) (n ∷ ns) rest h zero = ap Some h.0
ended_counted (Some f ∷ fs) (n ∷ ns) rest h (suc k) = ended_counted fs ns rest h.1 k

one_more_ended : (fs : List (Option Facts)) (declared rest : List ℕ) (n : ℕ) (f : Facts) → AreEnded fs declared (n ∷ rest) → n ≡ f.parameters → AreEnded (fs ++ Some f ∷ []) declared rest
one_more_ended [] declared rest n f h e = subst (λ ns. AreEnded (Some f ∷ []) ns rest) (sym h) (e, refl)
one_more_ended (None ∷ fs) declared rest n f h e = absurd h
one_more_ended (Some g ∷ fs) [] rest n f h e = absurd h
one_more_ended (Some g ∷ fs) (i ∷ is) rest n f h e = (h.0, one_more_ended fs is rest n f h.1 e)

-- ---- declarations

both_none : (xs ys : List Fault) → none (xs ++ ys) ≡ true → (none xs ≡ true) × (none ys ≡ true)
both_none xs ys h = and_parts (none xs) (none ys) (sym (none_both xs ys) ∙ h)

-- the arrays are sound where the declarations are
pub arrays_sound : (s : Scope) (n : ℕ) (ds : List syntax.Declaration) → is_there (declarations_judged s n ds) ≡ true → are_there (arrays_judged s ds) ≡ true
arrays_sound s n [] h = refl
arrays_sound s n (syntax.Numeric names ∷ ds) h = arrays_sound s n ds (joined_there (λ y ys. y ∷ ys) (Some (Numeric names)) (declarations_judged s n ds) h).1
arrays_sound s n (syntax.Alpha size names ∷ ds) h = arrays_sound s n ds (joined_there (λ y ys. y ∷ ys) (option_map (alpha_of size names) (size_of 255 size)) (declarations_judged s n ds) h).1
arrays_sound s n (syntax.Array' x ∷ ds) h =
    let parts = joined_there (λ y ys. y ∷ ys) (option_map Array' (array_judged s x)) (declarations_judged s n ds) h in
    let array = joined_there (array_of x) (dimensions_judged s x.dimensions) (cells_judged x.cells) (sym (there_map Array' (array_judged s x)) ∙ parts.0) in
    and_both array.0 (arrays_sound s n ds parts.1)
arrays_sound s n (syntax.Function' name ps body ∷ ds) h =
    let d = syntax.Function' name ps body in
    ap are_there (sym (arrays_behind s n d ds)) ∙ arrays_sound (behind s n d) (messages_past n d) ds (joined_there (λ y ys. y ∷ ys) (declaration_judged s n d) (declarations_judged (behind s n d) (messages_past n d) ds) h).1

-- and where these have no fault
pub arrays_told : (c : Counts) (s : Scope) (n : ℕ) (ds : List syntax.Declaration) → none (declarations_faults c s n ds) ≡ true → are_there (arrays_judged s ds) ≡ true
arrays_told c s n [] h = refl
arrays_told c s n (syntax.Numeric names ∷ ds) h = arrays_told c s n ds h
arrays_told c s n (syntax.Alpha size names ∷ ds) h = arrays_told c s n ds (both_none (size_faults 255 size) (declarations_faults c s n ds) h).1
arrays_told c s n (syntax.Array' x ∷ ds) h =
    let parts = both_none (dimensions_faults s x.dimensions ++ cells_faults x.cells) (declarations_faults c s n ds) h in
    let array = both_none (dimensions_faults s x.dimensions) (cells_faults x.cells) parts.0 in
    and_both (dimensions_told s x.dimensions ∙ array.0) (arrays_told c s n ds parts.1)
arrays_told c s n (syntax.Function' name ps body ∷ ds) h =
    let d = syntax.Function' name ps body in
    ap are_there (sym (arrays_behind s n d ds)) ∙ arrays_told c (behind s n d) (messages_past n d) ds (both_none (declaration_faults c s d) (declarations_faults c (behind s n d) (messages_past n d) ds) h).1

-- parameters are new where the declarations are sound
pub parameters_sound : (s : Scope) (n : ℕ) (ds : List syntax.Declaration) → is_there (declarations_judged s n ds) ≡ true → are_parameters s.dictionary (names_of s.declared) ds ≡ true
parameters_sound s n [] h = refl
parameters_sound s n (syntax.Numeric names ∷ ds) h = parameters_sound s n ds (joined_there (λ y ys. y ∷ ys) (Some (Numeric names)) (declarations_judged s n ds) h).1
parameters_sound s n (syntax.Alpha size names ∷ ds) h = parameters_sound s n ds (joined_there (λ y ys. y ∷ ys) (option_map (alpha_of size names) (size_of 255 size)) (declarations_judged s n ds) h).1
parameters_sound s n (syntax.Array' x ∷ ds) h = parameters_sound s n ds (joined_there (λ y ys. y ∷ ys) (option_map Array' (array_judged s x)) (declarations_judged s n ds) h).1
parameters_sound s n (syntax.Function' name ps body ∷ ds) h =
    let d = syntax.Function' name ps body in
    let own = parameter_names ps in
    let new = are_new (is_new s.dictionary s.declared) [] own in
    let f = function_judged s n name ps body in
    let parts = joined_there (λ y ys. y ∷ ys) (option_map Function' f) (declarations_judged (behind s n d) (messages_past n d) ds) h in
    let found = and_parts new _ (sym (there_if new _) ∙ sym (there_map Function' f) ∙ parts.0) in
    and_both (sym (parameters_are_new s.dictionary s.declared [] own) ∙ found.0) (parameters_sound (behind s n d) (messages_past n d) ds parts.1)

module _ (c : Counts) where
  -- what is known before declarations whose names are new
  pub record IsReady (s : Scope) (ds : List syntax.Declaration) : Type 0 where
    pub parameters : are_parameters s.dictionary (names_of s.declared) ds ≡ true
    pub arrays : (a : ℕ) → ArrayIsCounted (slice_get s.arrays a) (slice_get c.dimensions a)
    pub functions : AreEnded s.functions c.parameters (parameters_in ds)

  -- what is judged is sound exactly where it has no fault, and all is counted behind it
  pub record IsTold (sound : Bool) (faults : List Fault) (after : Scope) : Type 0 where
    pub told : sound ≡ none faults
    pub counted : sound ≡ true → IsCounted c after

  abbrev pub AreTold : Scope → ℕ → List syntax.Declaration → Type 0
  AreTold s n ds = IsTold (is_there (declarations_judged s n ds)) (declarations_faults c s n ds) (behind_all s n ds)

  function_told : (s : Scope) (n : ℕ) (name : Spelling) (ps : List syntax.Parameter) (body : syntax.Stmts) (ds : List syntax.Declaration) → IsReady s (syntax.Function' name ps body ∷ ds)
      → is_there (function_judged s n name ps body) ≡ none (stmts_faults c (parameters_scope s ps) body)
  function_told s n name ps body ds h =
      let test = is_new s.dictionary s.declared in
      let own = parameter_names ps in
      let inner = function_scope s (length s.functions) ps in
      let counted : IsCounted c inner = record { arrays = h.arrays; functions = ended_counted s.functions c.parameters _ h.functions } in
      let new : are_new test [] own ≡ true = parameters_are_new s.dictionary s.declared [] own ∙ (and_parts (are_new (is_free s.dictionary) [] own && are_apart (names_of s.declared) own) _ h.parameters).0 in
      there_if (are_new test [] own) (option_map (function_of s name ps) (judge_block inner n body))
      ∙ ap (λ b. b && is_there (option_map (function_of s name ps) (judge_block inner n body))) new
      ∙ there_map (function_of s name ps) (judge_block inner n body)
      ∙ block_told c inner counted n body
      ∙ ap (λ names. none (stmts_faults c (body_scope s names) body)) (sym (fresh_are test own (fresh_sound test own ∙ new)))

  function_parameters : (s : Scope) (n : ℕ) (name : Spelling) (ps : List syntax.Parameter) (body : syntax.Stmts) → For (λ f. length ps ≡ length f.parameters) (function_judged s n name ps body)
  function_parameters s n name ps body =
      for_only (λ f. length ps ≡ length f.parameters) (are_new (is_new s.dictionary s.declared) [] (parameter_names ps)) _ (λ h. for_map (λ x. Unit {0}) (λ f. length ps ≡ length f.parameters) (function_of s name ps) (λ x u. refl) _ (for_any _))

  pub declarations_told : (s : Scope) (n : ℕ) (ds : List syntax.Declaration) → IsReady s ds → AreTold s n ds
  declarations_told s n [] h = record { told = refl; counted = λ e. record { arrays = h.arrays; functions = ended_counted s.functions c.parameters [] h.functions } }
  declarations_told s n (syntax.Numeric names ∷ ds) h =
      let rest = declarations_told s n ds (record { parameters = h.parameters; arrays = h.arrays; functions = h.functions }) in
      record {
        told = told_both (λ y ys. y ∷ ys) (Some (Numeric names)) (declarations_judged s n ds) [] (declarations_faults c s n ds) refl rest.told;
        counted = λ e. rest.counted (joined_there (λ y ys. y ∷ ys) (Some (Numeric names)) (declarations_judged s n ds) e).1;
      }
  declarations_told s n (syntax.Alpha size names ∷ ds) h =
      let rest = declarations_told s n ds (record { parameters = h.parameters; arrays = h.arrays; functions = h.functions }) in
      let first = option_map (alpha_of size names) (size_of 255 size) in
      record {
        told = told_both (λ y ys. y ∷ ys) first (declarations_judged s n ds) (size_faults 255 size) (declarations_faults c s n ds) (there_map (alpha_of size names) (size_of 255 size) ∙ size_told 255 size) rest.told;
        counted = λ e. rest.counted (joined_there _ first (declarations_judged s n ds) e).1;
      }
  declarations_told s n (syntax.Array' x ∷ ds) h =
      let rest = declarations_told s n ds (record { parameters = h.parameters; arrays = h.arrays; functions = h.functions }) in
      let first = option_map Array' (array_judged s x) in
      record {
        told = told_both (λ y ys. y ∷ ys) first (declarations_judged s n ds) (dimensions_faults s x.dimensions ++ cells_faults x.cells) (declarations_faults c s n ds) (there_map Array' (array_judged s x) ∙ array_told s x) rest.told;
        counted = λ e. rest.counted (joined_there _ first (declarations_judged s n ds) e).1;
      }
  declarations_told s n (syntax.Function' name ps body ∷ ds) h =
      by (function_judged s n name ps body) (function_parameters s n name ps body) (function_told s n name ps body ds h) (λ f ready. declarations_told (behind_function s (Some f)) (n + length (messages_of body)) ds ready)
    where
      next : ℕ
      next = n + length (messages_of body)

      faults : List Fault
      faults = stmts_faults c (parameters_scope s ps) body

      rest_judged : Option Function → Option (List Declaration)
      rest_judged f = declarations_judged (behind_function s f) next ds

      rest_faults : Option Function → List Fault
      rest_faults f = declarations_faults c (behind_function s f) next ds

      by : (f : Option Function) → For (λ y. length ps ≡ length y.parameters) f → is_there f ≡ none faults → ((y : Function) → IsReady (behind_function s (Some y)) ds → AreTold (behind_function s (Some y)) next ds)
          → IsTold (is_there (joined (λ y ys. y ∷ ys) (option_map Function' f) (rest_judged f))) (faults ++ rest_faults f) (behind_all (behind_function s f) next ds)
      by None k e ih = record { told = ap (λ b. b && none (rest_faults None)) e ∙ sym (none_both faults (rest_faults None)); counted = λ t. absurd (false≢true t) }
      by (Some y) k e ih =
          let parts = and_parts (are_new (is_free s.dictionary) [] (parameter_names ps) && are_apart (names_of s.declared) (parameter_names ps)) (are_parameters s.dictionary (names_of s.declared) ds) h.parameters in
          let ended = one_more_ended s.functions c.parameters (parameters_in ds) (length ps) (facts_of s.functions y) h.functions k in
          let rest = ih y (record { parameters = parts.1; arrays = h.arrays; functions = ended }) in
          record {
            told = told_both (λ y ys. y ∷ ys) (Some (Function' y)) (rest_judged (Some y)) faults (rest_faults (Some y)) e rest.told;
            counted = λ t. rest.counted (joined_there (λ y ys. y ∷ ys) (Some (Function' y)) (rest_judged (Some y)) t).1;
          }
