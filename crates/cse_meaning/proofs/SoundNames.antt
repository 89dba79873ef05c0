-- What names mean is in the tables of the program.
use Rattle.std.proofs.Common.{◌≡◌, ◌<◌, ℕ, ◌+◌, Bool, true, false, List, [], ◌∷◌, ◌++◌, length, map, Option, Some, None, refl, ap, ◌∙◌, subst, arith}
use Rattle.std.specs.Prelude.{slice_get, nat_le, position, if◌then◌else◌, replicate}
use Rattle.std.specs.Option.{option_map}
use Rattle.std.specs.Map.{lookup}
use Rattle.std.specs.Str.{bytes_eq}
use Rattle.std.proofs.lemmas.Bool.{lt-ltb}
use Rattle.std.proofs.lemmas.List.{length-map, length-replicate}
use Rattle.std.proofs.lemmas.List.Quantifiers.{position-Some}
use Rattle.std.proofs.lemmas.Option.{same_Some, none-some}
use Rattle.cse_image_parts.specs.declared.entries.GlobalVariable.{GlobalVariable}
use Rattle.cse_dict.specs.Dictionary.{RecordText, shape_of, number_named, record_names, item_names, set_names}
use Rattle.cse_dict.specs.Keys.{kept_name}
use Rattle.cse_syntax_tree.specs.Tree.{Spelling}
use Rattle.cse_code_typing.specs.declared.kind.Kind.TheVariants as kind
use Rattle.cse_code_typing.specs.Kinds.{global_kind}
use Rattle.cse_code_typing.specs.Signature.{is_record, global_at, local_at}
use Rattle.cse_logic_tree.specs.declared.tree.Variable.TheVariants as v
use Rattle.cse_logic_tree.specs.Typed.{Declaration, Numeric, Alpha, Array', Function'}
use Rattle.cse_logic_tree.specs.Erase.{erase_declaration}
use Rattle.cse_compile.specs.Tables.{number_global, text_global, globals_in}
use Rattle.cse_logic_names.specs.declared.meaning.Meaning.{Meaning}
use Rattle.cse_logic_names.specs.declared.meaning.Meaning.TheVariants as m
use Rattle.cse_logic_names.specs.Scope.{Scope, first_of, numbered_from, declared_from, in_dictionary, meant_in, meant}
use Rattle.cse_meaning.specs.Fit.{Spot}
use Rattle.cse_meaning.proofs.At.{HasAt, has_front, has_back}
use Rattle.cse_meaning.proofs.Agrees.{MeaningFits}

-- what is declared fits
abbrev pub AllMean : Spot → List (List ℕ × Meaning) → Type 0
AllMean s [] = Unit {0}
AllMean s (x ∷ xs) = MeaningFits s x.1 × AllMean s xs

all_append : (s : Spot) (xs ys : List (List ℕ × Meaning)) → AllMean s xs → AllMean s ys → AllMean s (xs ++ ys)
all_append s [] ys f g = g
all_append s (x ∷ xs) ys f g = (f.0, all_append s xs ys f.1 g)

looked_up : (s : Spot) (test : List ℕ → Bool) (xs : List (List ℕ × Meaning)) (y : Meaning) → AllMean s xs → lookup test xs ≡ Some y → MeaningFits s y
looked_up s test [] y f e = absurd (none-some y e)
looked_up s test (x ∷ xs) y f e = by (test x.0) (lookup test xs) e (looked_up s test xs y f.1)
  where
    by : (b : Bool) (o : Option Meaning) → (if b then Some x.1 else o) ≡ Some y → (o ≡ Some y → MeaningFits s y) → MeaningFits s y
    by true o e g = subst (MeaningFits s) (same_Some x.1 y e) f.0
    by false o e g = g e

-- ---- globals

entry_kind : (s : Spot) (g : ℕ) (x : GlobalVariable) → slice_get s.scene.lists.globals g ≡ Some x → global_at s.scene.lists g ≡ Some (global_kind x.kind)
entry_kind s g x e = ap (option_map (λ (x : GlobalVariable). global_kind x.kind)) e

numbers_mean : (s : Spot) (g : ℕ) (names : List Spelling) → HasAt s.scene.lists.globals g (replicate (length names) number_global) → AllMean s (numbered_from (λ n. m.Variable (v.Global n)) g names)
numbers_mean s g [] h = tt
numbers_mean s g (x ∷ xs) h = (entry_kind s g number_global h.0, numbers_mean s (g + 1) xs h.1)

texts_mean : (s : Spot) (g size : ℕ) (names : List Spelling) → HasAt s.scene.lists.globals g (replicate (length names) (text_global size)) → AllMean s (numbered_from m.Text g names)
texts_mean s g size [] h = tt
texts_mean s g size (x ∷ xs) h = (entry_kind s g (text_global size) h.0, texts_mean s (g + 1) size xs h.1)

pub declared_mean : (s : Spot) (g a f : ℕ) (ds : List Declaration) → HasAt s.scene.lists.globals g (globals_in ds) → AllMean s (declared_from g a f (map erase_declaration ds))
declared_mean s g a f [] h = tt
declared_mean s g a f (Numeric names ∷ ds) h =
    let here = replicate (length names) number_global in
    all_append s (numbered_from (λ n. m.Variable (v.Global n)) g names) _
    (numbers_mean s g names (has_front s.scene.lists.globals g here (globals_in ds) h))
    (declared_mean s (g + length names) a f ds (has_back s.scene.lists.globals g (length names) here (globals_in ds) (length-replicate (length names) number_global) h))
declared_mean s g a f (Alpha digits size names ∷ ds) h =
    let here = replicate (length names) (text_global size) in
    all_append s (numbered_from m.Text g names) _
    (texts_mean s g size names (has_front s.scene.lists.globals g here (globals_in ds) h))
    (declared_mean s (g + length names) a f ds (has_back s.scene.lists.globals g (length names) here (globals_in ds) (length-replicate (length names) (text_global size)) h))
declared_mean s g a f (Array' array ∷ ds) h = (tt, declared_mean s g (a + 1) f ds h)
declared_mean s g a f (Function' function ∷ ds) h = (tt, declared_mean s g a (f + 1) ds h)

-- ---- names

pub place_within : {A : Type 0} (test : A → Bool) (xs : List A) (k : ℕ) → position test xs ≡ Some k → k < length xs
place_within test [] k e = absurd (none-some k e)
place_within test (x ∷ xs) k e = (position-Some test (x ∷ xs) k x e).0

pub named_within : (name : List ℕ) (names : List (List ℕ)) (k : ℕ) → number_named name names ≡ Some k → k < length names
named_within name names k e = by (nat_le (length name) 32) e
  where
    by : (b : Bool) → (if b then position (bytes_eq (kept_name name)) names else None) ≡ Some k → k < length names
    by true e = place_within (bytes_eq (kept_name name)) names k e
    by false e = absurd (none-some k e)

module _ (c : Scope) (s : Spot) (shape : s.scene.shape ≡ shape_of c.dictionary) (declared : AllMean s c.declared) (parameters : (k : ℕ) → k < length c.parameters → local_at s.scene.routine k ≡ Some kind.Number) where
  record_there : (k : ℕ) → k < length (record_names c.dictionary) → is_record s.scene.shape k ≡ true
  record_there k lt =
      let d = c.dictionary in
      let e = length-map d.records (λ (r : RecordText). r.name) in
      let f = length-map d.records (λ (r : RecordText). r.shape) in
      ap (λ x. is_record x k) shape ∙ lt-ltb k (length (shape_of d).records) (omega (arith, lt, e, f))

  by_dictionary : (text : List ℕ) (y : Meaning) → in_dictionary c.dictionary text ≡ Some y → MeaningFits s y
  by_dictionary text y e = records (number_named text (record_names c.dictionary)) (λ k f. record_there k (named_within text (record_names c.dictionary) k f)) e
    where
      last : (a b : Bool) → (if a then Some m.Application else (if b then Some m.Level else None)) ≡ Some y → MeaningFits s y
      last true b e = subst (MeaningFits s) (same_Some m.Application y e) tt
      last false true e = subst (MeaningFits s) (same_Some m.Level y e) tt
      last false false e = absurd (none-some y e)

      sets : (o : Option ℕ) (a b : Bool) → first_of (option_map m.Set o) (if a then Some m.Application else (if b then Some m.Level else None)) ≡ Some y → MeaningFits s y
      sets None a b e = last a b e
      sets (Some k) a b e = subst (MeaningFits s) (same_Some (m.Set k) y e) tt

      items : (o q : Option ℕ) (a b : Bool) → first_of (option_map m.Item o) (first_of (option_map m.Set q) (if a then Some m.Application else (if b then Some m.Level else None))) ≡ Some y → MeaningFits s y
      items None q a b e = sets q a b e
      items (Some k) q a b e = subst (MeaningFits s) (same_Some (m.Item k) y e) tt

      records : (o : Option ℕ) → ((k : ℕ) → o ≡ Some k → is_record s.scene.shape k ≡ true) → first_of (option_map m.Record o) (first_of (option_map m.Item (number_named text (item_names c.dictionary))) (first_of (option_map m.Set (number_named text (set_names c.dictionary))) (if bytes_eq (kept_name text) c.dictionary.name then Some m.Application else (if bytes_eq (kept_name text) c.dictionary.level_name then Some m.Level else None)))) ≡ Some y → MeaningFits s y
      records None f e = items (number_named text (item_names c.dictionary)) (number_named text (set_names c.dictionary)) (bytes_eq (kept_name text) c.dictionary.name) (bytes_eq (kept_name text) c.dictionary.level_name) e
      records (Some k) f e = subst (MeaningFits s) (same_Some (m.Record k) y e) (f k refl)

  by_declared : (text : List ℕ) (y : Meaning) → first_of (lookup (bytes_eq (kept_name text)) c.declared) (in_dictionary c.dictionary text) ≡ Some y → MeaningFits s y
  by_declared text y e = by (lookup (bytes_eq (kept_name text)) c.declared) (λ z f. looked_up s (bytes_eq (kept_name text)) c.declared z declared f) e
    where
      by : (o : Option Meaning) → ((z : Meaning) → o ≡ Some z → MeaningFits s z) → first_of o (in_dictionary c.dictionary text) ≡ Some y → MeaningFits s y
      by None f e = by_dictionary text y e
      by (Some z) f e = f y e

  by_parameter : (text : List ℕ) (y : Meaning) → meant_in c text ≡ Some y → MeaningFits s y
  by_parameter text y e = by (position (bytes_eq (kept_name text)) c.parameters) (λ k f. parameters k (place_within (bytes_eq (kept_name text)) c.parameters k f)) e
    where
      by : (o : Option ℕ) → ((k : ℕ) → o ≡ Some k → local_at s.scene.routine k ≡ Some kind.Number) → first_of (option_map (λ k. m.Variable (v.Parameter k)) o) (first_of (lookup (bytes_eq (kept_name text)) c.declared) (in_dictionary c.dictionary text)) ≡ Some y → MeaningFits s y
      by None f e = by_declared text y e
      by (Some k) f e = subst (MeaningFits s) (same_Some (m.Variable (v.Parameter k)) y e) (f k refl)

  pub name_fits : (name : Spelling) (y : Meaning) → meant c name ≡ Some y → MeaningFits s y
  unfolding meant
  name_fits name y e = by (nat_le (length name.text) 32) e
    where
      by : (b : Bool) → (if b then meant_in c name.text else None) ≡ Some y → MeaningFits s y
      by true e = by_parameter name.text y e
      by false e = absurd (none-some y e)
