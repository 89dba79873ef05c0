-- Arrays and functions that are known at a place of logic are in the tables of the program.
use Rattle.std.proofs.Common.{◌≡◌, ◌≤◌, ℕ, suc, zero, ◌+◌, Bool, true, false, List, [], ◌∷◌, ◌++◌, length, map, Option, Some, None, refl, sym, ap, ◌∙◌, subst, arith}
use Rattle.std.specs.Prelude.{slice_get, ◌==◌, if◌then◌else◌}
use Rattle.std.specs.List.{AllByRecursion}
use Rattle.std.specs.Option.{option_map}
use Rattle.std.proofs.lemmas.Option.{same_Some, none-some}
use Rattle.cse_value.specs.Shape.{ShapeLists}
use Rattle.cse_image_parts.specs.Image.{ArrayLists}
use Rattle.cse_dict.specs.Dictionary.{SetText as ValueSet, shape_of}
use Rattle.cse_syntax_tree.specs.Grammar.{Each, IsSome, IsDeclaration}
use Rattle.cse_logic_tree.specs.Typed.{Dimension, Sized, Rows, Declaration, Numeric, Alpha, Array', Function'}
use Rattle.cse_logic_tree.specs.Erase.{erase_dimension, erase_declaration, erase_block}
use Rattle.cse_compile.specs.declared.outlines.RoutineSort.TheVariants as sorts
use Rattle.cse_compile.specs.Tables.{size_of, arrays_in}
use Rattle.cse_compile.specs.Outline.{Outline}
use Rattle.cse_logic_names.specs.Scope.{Scope, Facts}
use Rattle.cse_logic_names.specs.WellTyped as t
use Rattle.cse_logic_names.specs.WellTyped.{IsDimension, one_if, AreDeclared}
use Rattle.cse_meaning.specs.Fit.{row_count}
use Rattle.cse_meaning.proofs.Agrees.{SizesFit}
use Rattle.cse_meaning.proofs.Numbers.{has_set}

-- ---- arrays

dimension_rows : (set : Option ValueSet) (entry : ValueSet) (one_more : Bool) (size : ℕ) → set ≡ Some entry → option_map (λ rows. rows + one_if one_more) (t.rows_of set) ≡ Some size → size ≡ row_count one_more entry.shape.rows
dimension_rows set entry one_more size e h = by (entry.shape.rows == 0) one_more (sym (ap (λ o. option_map (λ rows. rows + one_if one_more) (t.rows_of o)) e) ∙ h)
  where
    by : (b one_more : Bool) → option_map (λ rows. rows + one_if one_more) (if b then None else Some entry.shape.rows) ≡ Some size → size ≡ row_count one_more entry.shape.rows
    by true one_more h = absurd (none-some size h)
    by false true h = sym (same_Some _ _ h)
    by false false h = let e : entry.shape.rows + 0 ≡ size = same_Some _ _ h in omega (arith, e)

sizes_fit : (c : Scope) (ds : List Dimension) → AllByRecursion (IsDimension c) ds → SizesFit (shape_of c.dictionary) ds (map size_of ds)
sizes_fit c [] h = tt
sizes_fit c (Sized digits size ∷ ds) h = sizes_fit c ds h.1
sizes_fit c (Rows name set one_more size ∷ ds) h =
    let b = has_set c.dictionary set h.0.1 in
    ((b.entry.shape.rows, b.rows, dimension_rows (slice_get c.dictionary.sets set) b.entry one_more size b.there h.0.2), sizes_fit c ds h.1)

some_dimension : (ds : List Dimension) → IsSome (map erase_dimension ds) → 1 ≤ length ds
some_dimension [] h = absurd h
some_dimension (x ∷ ds) h = omega arith

abbrev pub ArraysKnown : ShapeLists → List (Option (List Dimension)) → List ArrayLists → Type 0
ArraysKnown x [] [] = Unit {0}
ArraysKnown x (Some ds ∷ xs) (y ∷ ys) = SizesFit x ds y.dimensions × (1 ≤ length ds) × ArraysKnown x xs ys
ArraysKnown x _ _ = ⊥

pub arrays_known : (c : Scope) (n room : ℕ) (ds : List Declaration) → AreDeclared c n ds → Each (IsDeclaration room) (map erase_declaration ds) → ArraysKnown (shape_of c.dictionary) (t.arrays_in ds) (arrays_in ds)
arrays_known c n room [] h g = tt
arrays_known c n room (Numeric names ∷ ds) h g = arrays_known c n room ds h g.1
arrays_known c n room (Alpha digits size names ∷ ds) h g = arrays_known c n room ds h.1 g.1
arrays_known c n room (Array' array ∷ ds) h g = (sizes_fit c array.dimensions h.0, some_dimension array.dimensions g.0.1, arrays_known c n room ds h.2 g.1)
arrays_known c n room (Function' f ∷ ds) h g = arrays_known (t.with_function c f) (n + length (t.messages_of (erase_block f.body))) room ds h.1 g.1

pub record KnownArray (x : ShapeLists) (ds : List Dimension) (ys : List ArrayLists) (k : ℕ) : Type 0 where
  pub entry : ArrayLists
  pub there : slice_get ys k ≡ Some entry
  pub sizes : SizesFit x ds entry.dimensions
  pub some : 1 ≤ length ds

pub array_at : (x : ShapeLists) (xs : List (Option (List Dimension))) (ys : List ArrayLists) → ArraysKnown x xs ys → (k : ℕ) (ds : List Dimension) → slice_get xs k ≡ Some (Some ds) → KnownArray x ds ys k
array_at x [] ys h k ds e = absurd (none-some (Some ds) e)
array_at x (None ∷ xs) ys h k ds e = absurd h
array_at x (Some d ∷ xs) [] h k ds e = absurd h
array_at x (Some d ∷ xs) (y ∷ ys) h zero ds e =
    let f : d ≡ ds = same_Some d ds (same_Some (Some d) (Some ds) e) in
    record { entry = y; there = refl; sizes = subst (λ ds. SizesFit x ds y.dimensions) f h.0; some = subst (λ (ds : List Dimension). 1 ≤ length ds) f h.1 }
array_at x (Some d ∷ xs) (y ∷ ys) h (suc k) ds e = let b = array_at x xs ys h.2 k ds e in record { entry = b.entry; there = b.there; sizes = b.sizes; some = b.some }

-- ---- functions

abbrev pub FunctionsKnown : List (Option Facts) → List Outline → Type 0
FunctionsKnown [] [] = Unit {0}
FunctionsKnown (Some f ∷ fs) (o ∷ os) = (o.sort ≡ sorts.Function f.parameters f.needs_case) × FunctionsKnown fs os
FunctionsKnown _ _ = ⊥

pub one_more : (fs : List (Option Facts)) (os : List Outline) (f : Facts) (o : Outline) → FunctionsKnown fs os → o.sort ≡ sorts.Function f.parameters f.needs_case → FunctionsKnown (fs ++ Some f ∷ []) (os ++ o ∷ [])
one_more [] [] f o h e = (e, tt)
one_more [] (y ∷ os) f o h e = absurd h
one_more (None ∷ fs) os f o h e = absurd h
one_more (Some g ∷ fs) [] f o h e = absurd h
one_more (Some g ∷ fs) (y ∷ os) f o h e = (h.0, one_more fs os f o h.1 e)

pub known_length : (fs : List (Option Facts)) (os : List Outline) → FunctionsKnown fs os → length fs ≡ length os
known_length [] [] h = refl
known_length [] (y ∷ os) h = absurd h
known_length (None ∷ fs) os h = absurd h
known_length (Some g ∷ fs) [] h = absurd h
known_length (Some g ∷ fs) (y ∷ os) h = ap suc (known_length fs os h.1)

pub record KnownFunction (os : List Outline) (k : ℕ) (f : Facts) : Type 0 where
  pub outline : Outline
  pub there : slice_get os k ≡ Some outline
  pub sort : outline.sort ≡ sorts.Function f.parameters f.needs_case

pub function_at : (fs : List (Option Facts)) (os : List Outline) → FunctionsKnown fs os → (k : ℕ) (f : Facts) → slice_get fs k ≡ Some (Some f) → KnownFunction os k f
function_at [] os h k f e = absurd (none-some (Some f) e)
function_at (None ∷ fs) os h k f e = absurd h
function_at (Some g ∷ fs) [] h k f e = absurd h
function_at (Some g ∷ fs) (o ∷ os) h zero f e =
    let q : g ≡ f = same_Some g f (same_Some (Some g) (Some f) e) in
    record { outline = o; there = refl; sort = h.0 ∙ ap (λ (f : Facts). sorts.Function f.parameters f.needs_case) q }
function_at (Some g ∷ fs) (o ∷ os) h (suc k) f e = let b = function_at fs os h.1 k f e in record { outline = b.outline; there = b.there; sort = b.sort }
