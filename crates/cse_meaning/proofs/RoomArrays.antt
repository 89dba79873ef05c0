-- Which arrays fit.
use Rattle.std.proofs.Common.{◌≡◌, ◌≤◌, ℕ, zero, suc, ◌+◌, Bool, true, false, ◌||◌, not, List, [], ◌∷◌, ◌++◌, length, map, Option, Some, None, refl, sym, ap, subst, ◌∙◌, arith}
use Rattle.std.specs.Prelude.{slice_get, FitsSigned, nat_le, if◌then◌else◌, ◌==◌}
use Rattle.std.specs.Int.{w64}
use Rattle.std.specs.List.{AllByRecursion, IsDistinct, list_any}
use Rattle.std.specs.Option.{option_map}
use Rattle.std.specs.Str.{bytes_eq}
use Rattle.std.proofs.lemmas.Bool.{and_from, le-leb, lt-ltb, false≢true, or_from}
use Rattle.std.proofs.lemmas.List.Folds.{list_any-append}
use Rattle.std.proofs.lemmas.List.Sums.{sum_by-cons, sum_by-append}
use Rattle.std.proofs.lemmas.Option.{same_Some, none-some}
use Rattle.cse_image_parts.specs.Fields.{product, cells_in}
use Rattle.cse_image_parts.specs.Image.{ArrayLists}
use Rattle.cse_image_parts.specs.Limits.{most_cells}
use Rattle.cse_image_parts.specs.Texts.{is_name, is_new}
use Rattle.cse_image_parts.specs.Reader.{AllAfter}
use Rattle.cse_image.specs.Spelling.{ArrayFits, DimensionFits}
use Rattle.cse_dict.specs.Dictionary.{SetText as ValueSet}
use Rattle.cse_syntax_tree.specs.Grammar.{Each, IsSome, IsDeclaration}
use Rattle.cse_syntax_tree.specs.Leaf.{is_within, number_of}
use Rattle.cse_syntax_tree.specs.Tree.{Spelling}
use Rattle.cse_syntax_tree.proofs.Digits.{number_within}
use Rattle.cse_logic_tree.specs.Typed.{Whole, Dimension, Sized, Rows, Declaration, Numeric, Alpha, Array', Function'}
use Rattle.cse_logic_tree.specs.Erase.{erase_block, erase_dimension, erase_declaration}
use Rattle.cse_compile.specs.Tables.{size_of, cell_of, arrays_in}
use Rattle.cse_logic_names.specs.Scope.{Scope}
use Rattle.cse_logic_names.specs.WellTyped as t
use Rattle.cse_logic_names.specs.WellTyped.{IsWhole, IsDimension, AreDeclared, one_if, rows_of, size_in, with_function, messages_of}
use Rattle.cse_meaning.specs.Within.{IsArrayWithin}
use Rattle.cse_meaning.proofs.RoomHeld.{signed_fits}
use Rattle.cse_meaning.proofs.RoomNames.{name_fits, names_of}

-- beside the arrays before it
pub record IsGood (x : ArrayLists) : Type 0 where
  pub some : 1 ≤ length x.dimensions
  pub few : length x.dimensions ≤ 3
  pub dimensions : AllByRecursion DimensionFits x.dimensions
  pub name : is_name x.name ≡ true
  pub room : length x.cells ≤ product x.dimensions
  pub cells : AllByRecursion (FitsSigned w64) x.cells

-- ---- sizes

sized : (digits : Spelling) (size : ℕ) → t.size_of 65535 digits ≡ Some size → 1 ≤ size
unfolding size_in
sized digits size e = by (is_within 1 65535 digits.text) refl e
  where
    by : (b : Bool) → is_within 1 65535 digits.text ≡ b → (if b then Some (number_of digits.text) else None) ≡ Some size → 1 ≤ size
    by true f g = subst (λ n. 1 ≤ n) (same_Some (number_of digits.text) size g) (number_within 1 65535 digits.text f).0
    by false f g = absurd (none-some size g)

nonzero : (n : ℕ) → (n == 0) ≡ false → 1 ≤ n
nonzero zero h = absurd (false≢true (sym h))
nonzero (suc n) h = omega arith

with_rows : (set : Option ValueSet) (one_more : Bool) (size : ℕ) → option_map (λ rows. rows + one_if one_more) (rows_of set) ≡ Some size → 1 ≤ size
with_rows None one_more size e = absurd (none-some size e)
with_rows (Some x) one_more size e = by (x.shape.rows == 0) refl e
  where
    by : (b : Bool) → (x.shape.rows == 0) ≡ b → option_map (λ rows. rows + one_if one_more) (if b then None else Some x.shape.rows) ≡ Some size → 1 ≤ size
    by true f g = absurd (none-some size g)
    by false f g =
        let same : x.shape.rows + one_if one_more ≡ size = same_Some _ size g in
        let some = nonzero x.shape.rows f in
        omega (arith, same, some)

dimensions_fit : (c : Scope) (ds : List Dimension) → AllByRecursion (IsDimension c) ds → AllByRecursion (λ size. size ≤ 65535) (map size_of ds) → AllByRecursion DimensionFits (map size_of ds)
dimensions_fit c [] h w = tt
dimensions_fit c (Sized digits size ∷ ds) h w = let few = w.0 in (record { size = omega (arith, few); some = lt-ltb 0 size (let some = sized digits size h.0 in omega (arith, some)) }, dimensions_fit c ds h.1 w.1)
dimensions_fit c (Rows name set one_more size ∷ ds) h w = let few = w.0 in (record { size = omega (arith, few); some = lt-ltb 0 size (let some = with_rows (slice_get c.dictionary.sets set) one_more size h.0.2 in omega (arith, some)) }, dimensions_fit c ds h.1 w.1)

cells_fit : (xs : List Whole) → AllByRecursion IsWhole xs → AllByRecursion (FitsSigned w64) (map cell_of xs)
cells_fit [] h = tt
cells_fit (x ∷ xs) h = (signed_fits x.literal x.value h.0, cells_fit xs h.1)

some_size : (ds : List Dimension) → IsSome (map erase_dimension ds) → 1 ≤ length (map size_of ds)
some_size [] h = absurd h
some_size (x ∷ ds) h = omega arith

pub arrays_good : (c : Scope) (n : ℕ) (ds : List Declaration) → AreDeclared c n ds → Each (IsDeclaration 64) (map erase_declaration ds) → AllByRecursion IsArrayWithin (arrays_in ds) → AllByRecursion IsGood (arrays_in ds)
arrays_good c n [] h g w = tt
arrays_good c n (Numeric names ∷ ds) h g w = arrays_good c n ds h g.1 w
arrays_good c n (Alpha digits size names ∷ ds) h g w = arrays_good c n ds h.1 g.1 w
arrays_good c n (Array' array ∷ ds) h g w = (
  record {
    some = some_size array.dimensions g.0.1;
    few = w.0.dimensions;
    dimensions = dimensions_fit c array.dimensions h.0 w.0.sizes;
    name = name_fits array.name.text g.0.0;
    room = w.0.cells;
    cells = cells_fit array.cells h.1;
  },
  arrays_good c n ds h.2 g.1 w.1,
)
arrays_good c n (Function' f ∷ ds) h g w = arrays_good (with_function c f) (n + length (messages_of (erase_block f.body))) ds h.1 g.1 w

-- ---- one after the other

abbrev AreNew : List ArrayLists → List (List ℕ) → Type 0
AreNew before names = AllByRecursion (λ name. list_any (λ (x : ArrayLists). bytes_eq x.name name) before ≡ false) names

still_new : (before : List ArrayLists) (x : ArrayLists) (names : List (List ℕ)) → AreNew before names → AllByRecursion (λ name. bytes_eq x.name name ≡ false) names → AreNew (before ++ x ∷ []) names
still_new before x [] h k = tt
still_new before x (name ∷ names) h k =
    (list_any-append (λ (y : ArrayLists). bytes_eq y.name name) before (x ∷ []) ∙ or_from (list_any (λ (y : ArrayLists). bytes_eq y.name name) before) ((bytes_eq x.name name) || false) h.0 (or_from (bytes_eq x.name name) false k.0 refl), still_new before x names h.1 k.1)

all_new : (names : List (List ℕ)) → AreNew [] names
all_new [] = tt
all_new (name ∷ names) = (refl, all_new names)

arrays_fit : (before xs : List ArrayLists) → AllByRecursion IsGood xs → AreNew before (names_of xs) → IsDistinct bytes_eq (names_of xs) → cells_in before + cells_in xs ≤ most_cells → AllAfter ArrayFits before xs
unfolding is_new IsDistinct
arrays_fit before [] g new once room = tt
arrays_fit before (x ∷ xs) g new once room =
    let here = sum_by-cons (λ (y : ArrayLists). product y.dimensions) x xs in
    let more = sum_by-append (λ (y : ArrayLists). product y.dimensions) before (x ∷ []) in
    let last = sum_by-cons (λ (y : ArrayLists). product y.dimensions) x [] in
    let cells = g.0.room in (
      record {
        count = and_from (nat_le 1 (length x.dimensions)) (nat_le (length x.dimensions) 3) (le-leb 1 (length x.dimensions) g.0.some) (le-leb (length x.dimensions) 3 g.0.few);
        dimensions = g.0.dimensions;
        room = le-leb (cells_in before + product x.dimensions) most_cells (omega (arith, room, here));
        name = g.0.name;
        new = ap not new.0;
        cell_count = le-leb (length x.cells) (product x.dimensions) g.0.room;
        size = omega (arith, cells, room, here);
        cells = g.0.cells;
      },
      arrays_fit (before ++ x ∷ []) xs g.1 (still_new before x (names_of xs) new.1 once.0) once.1 (omega (arith, room, here, more, last)),
    )

pub all_arrays_fit : (xs : List ArrayLists) → AllByRecursion IsGood xs → IsDistinct bytes_eq (names_of xs) → cells_in xs ≤ most_cells → AllAfter ArrayFits [] xs
all_arrays_fit xs g once room = arrays_fit [] xs g (all_new (names_of xs)) once (omega (arith, room))
