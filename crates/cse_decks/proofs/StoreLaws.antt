-- A store that fits a program: the first one does, and what is put into it keeps it so.
use Rattle.std.proofs.Common.{◌≡◌, ℕ, zero, suc, ◌+◌, ◌-◌, ◌^◌, ◌≤◌, min, ◌++◌, List, [], ◌∷◌, length, true, refl, ap, sym, ◌∙◌, subst, arith, eqb, length-append, pos}
use Rattle.std.specs.Prelude.{ℤ, negsuc, FitsSigned, slice_get, slice_set, option_and_then, map, replicate, nat_le, ◌&&◌, IsSome}
use Rattle.std.specs.List.{AllByRecursion, slice_index_or}
use Rattle.std.specs.Int.{w64}
use Rattle.std.proofs.lemmas.Bool.{lt-ltb}
use Rattle.std.proofs.lemmas.Bool.Decides.{nat_tests}
use Rattle.cse_value.specs.Number.{fits_i64}
use Rattle.std.proofs.lemmas.List.{length-replicate, length-take, length-map, length-set}
use Rattle.cse_image_parts.specs.Reader.{AllAfter}
use Rattle.cse_value.specs.declared.number.Num.{Num}
use Rattle.cse_value.specs.declared.number.Num.TheVariants.{Whole}
use Rattle.cse_value.specs.Texts.{blanks}
use Rattle.cse_value.specs.Field.{put_text}
use Rattle.cse_value.proofs.TextLaws.{length-blanks}
use Rattle.cse_image_parts.specs.declared.entries.GlobalKind.{GlobalKind}
use Rattle.cse_image_parts.specs.declared.entries.GlobalKind.TheVariants as kinds
use Rattle.cse_image_parts.specs.declared.entries.GlobalVariable.{GlobalVariable}
use Rattle.cse_image_parts.specs.declared.entries.Array.{Array}
use Rattle.cse_image_parts.specs.Fields.{is_dimension_count, fits_global_length, fits_cells}
use Rattle.cse_image_parts.specs.Image.{Image, ArrayLists, array_lists}
use Rattle.cse_image.specs.Spelling.{ArrayFits, GlobalFits, Fits}
use Rattle.cse_decks.specs.declared.global.GlobalValue.{GlobalValue}
use Rattle.cse_decks.specs.declared.global.GlobalValue.TheVariants.{Number, Words}
use Rattle.cse_decks.specs.Store.{Kept, CellsFit, ArraysFit, StoreFits, variable_of, cell_count, first_by_kind, first_global, first_cells, first_kept, number_in, text_in, number_at, text_at, with_global, with_cell, rewritten}

-- ---- the dimensions are few

at_most_three : (n : ℕ) → is_dimension_count n ≡ true → n ≤ 3
at_most_three n h = grind (arith, nat_tests)

pub arrays_small : (before : List ArrayLists) (arrays : List Array) → AllAfter ArrayFits before (map array_lists arrays) → AllByRecursion (λ (a : Array). length a.dimensions.items ≤ 3) arrays
arrays_small before [] h = tt
arrays_small before (a ∷ arrays) h = (at_most_three (length a.dimensions.items) h.0.count, arrays_small (before ++ array_lists a ∷ []) arrays h.1)

-- ---- the first store

zero_length : (n : ℕ) → eqb n 0 ≡ true → 0 ≡ n
zero_length n h = grind (arith, nat_tests)

text_length : (n : ℕ) → (nat_le 1 n && nat_le n 255) ≡ true → n ≤ 255
text_length n h = grind (arith, nat_tests)

variable_of-first : (k : GlobalKind) (n : ℕ) → fits_global_length k n ≡ true → variable_of (first_by_kind k n) ≡ record { kind = k; length = n }
variable_of-first kinds.Number n h = ap (λ m. record { kind = kinds.Number; length = m }) (zero_length n h)
variable_of-first kinds.Text n h =
    let short = text_length n h in
    let e : length (blanks (min n 255)) ≡ n = omega (arith, length-blanks (min n 255)) in
    ap (λ m. record { kind = kinds.Text; length = m }) e

first_globals_fit : (before globals : List GlobalVariable) → AllAfter (λ _. GlobalFits) before globals → map variable_of (map first_global globals) ≡ globals
first_globals_fit before [] h = refl
first_globals_fit before (g ∷ gs) h =
    let e : variable_of (first_global g) ≡ g = variable_of-first g.kind g.length h.0.length in
    let es = first_globals_fit (before ++ g ∷ []) gs h.1 in cc

cells_fit : (n count : ℕ) → nat_le n count ≡ true → n + (count - n) ≡ count
cells_fit n count h = grind (arith, nat_tests)

pub length-first_cells : (a : ArrayLists) → fits_cells a.dimensions (length a.cells) ≡ true → length (first_cells a) ≡ cell_count a
length-first_cells a h =
    let whole : ℤ → Num = λ z. Whole z in
    length-append (map whole a.cells) (replicate (cell_count a - length a.cells) (Whole (pos 0)))
    ∙ (ap (λ n. n + length (replicate (cell_count a - length a.cells) (Whole (pos 0)))) (length-map a.cells whole)
    ∙ (ap (λ n. length a.cells + n) (length-replicate {A = Num} (cell_count a - length a.cells) (Whole (pos 0)))
    ∙ cells_fit (length a.cells) (cell_count a) h))

first_arrays_fit : (before arrays : List ArrayLists) → AllAfter ArrayFits before arrays → map (λ (cells : List Num). length cells) (map first_cells arrays) ≡ map cell_count arrays
first_arrays_fit before [] h = refl
first_arrays_fit before (a ∷ arrays) h =
    let e = length-first_cells a h.0.cell_count in
    let es = first_arrays_fit (before ++ a ∷ []) arrays h.1 in cc

pub first_fits : (x : Image) (s : Kept) → s ≡ first_kept x → Fits x → StoreFits x s
unfolding first_kept
first_fits x s e h =
    let fits : StoreFits x (first_kept x) = record { globals = first_globals_fit [] x.lists.globals h.lists.globals.each; arrays = first_arrays_fit [] x.lists.arrays h.lists.arrays.each } in
    subst (λ (v : Kept). StoreFits x v) (sym e) fits

-- ---- a store with another value

number_stays : (globals : List GlobalValue) (g : ℕ) (v : Num) → IsSome (option_and_then number_in (slice_get globals g)) → map variable_of (slice_set globals g (Number v)) ≡ map variable_of globals
number_stays [] g v h = refl
number_stays (Number x ∷ xs) zero v h = refl
number_stays (Words t ∷ xs) zero v h = cc
number_stays (x ∷ xs) (suc g) v h = ap (λ (l : List GlobalVariable). variable_of x ∷ l) (number_stays xs g v h)

pub length-put_text : (n : ℕ) (text : List ℕ) → length (put_text n text) ≡ n
length-put_text n text = omega (arith, length-take n (text ++ blanks (n - length text)), length-append text (blanks (n - length text)), length-blanks (n - length text))

text_stays : (globals : List GlobalValue) (g : ℕ) (text : List ℕ) (d : GlobalValue) → IsSome (option_and_then text_in (slice_get globals g))
    → map variable_of (slice_set globals g (rewritten text (slice_index_or globals g d))) ≡ map variable_of globals
text_stays [] g text d h = refl
text_stays (Number x ∷ xs) zero text d h = cc
text_stays (Words t ∷ xs) zero text d h =
    let e = length-put_text (length t.items) text in
    ap (λ (n : ℕ). let w : GlobalVariable = record { kind = kinds.Text; length = n } in w ∷ map variable_of xs) e
text_stays (x ∷ xs) (suc g) text d h = ap (λ (l : List GlobalVariable). variable_of x ∷ l) (text_stays xs g text d h)

pub cell_stays : (arrays : List (List Num)) (a place : ℕ) (v : Num)
    → map (λ (cells : List Num). length cells) (slice_set arrays a (slice_set (slice_index_or arrays a []) place v)) ≡ map (λ (cells : List Num). length cells) arrays
cell_stays [] a place v = refl
cell_stays (cells ∷ more) zero place v = ap (λ (n : ℕ). n ∷ map (λ (l : List Num). length l) more) (length-set cells place v)
cell_stays (cells ∷ more) (suc a) place v = ap (λ (l : List ℕ). length cells ∷ l) (cell_stays more a place v)

pub number_fits : (x : Image) (s t : Kept) (g : ℕ) (v : Num) → IsSome (number_at s g) → t ≡ with_global s g (Number v) → StoreFits x s → StoreFits x t
number_fits x s t g v there e h =
    let fits : StoreFits x (with_global s g (Number v)) = record { globals = number_stays s.globals g v there ∙ h.globals; arrays = h.arrays } in
    subst (λ (w : Kept). StoreFits x w) (sym e) fits

pub text_fits : (x : Image) (s t : Kept) (g : ℕ) (text : List ℕ) → IsSome (text_at s g)
    → ((d : GlobalValue) → t ≡ with_global s g (rewritten text (slice_index_or s.globals g d))) → StoreFits x s → StoreFits x t
text_fits x s t g text there e h =
    let d : GlobalValue = Number (Whole (pos 0)) in
    let fits : StoreFits x (with_global s g (rewritten text (slice_index_or s.globals g d))) = record { globals = text_stays s.globals g text d there ∙ h.globals; arrays = h.arrays } in
    subst (λ (w : Kept). StoreFits x w) (sym (e d)) fits

pub cell_fits : (x : Image) (s t : Kept) (a place : ℕ) (v : Num) → t ≡ with_cell s a place v → StoreFits x s → StoreFits x t
cell_fits x s t a place v e h =
    let fits : StoreFits x (with_cell s a place v) = record { globals = h.globals; arrays = cell_stays s.arrays a place v ∙ h.arrays } in
    subst (λ (w : Kept). StoreFits x w) (sym e) fits

-- ---- 64 bits hold each cell

value_fits : (z : ℤ) → FitsSigned w64 z → fits_i64 z ≡ true
value_fits (pos n) h = let low = h.sfits in lt-ltb n (2 ^ 63) (omega arith)
value_fits (negsuc n) h = let low = h.sfits in lt-ltb n (2 ^ 63) (omega arith)

declared_fit : (cells : List ℤ) → AllByRecursion (FitsSigned w64) cells → CellsFit (map Whole cells)
declared_fit [] h = tt
declared_fit (z ∷ zs) h = (value_fits z h.0, declared_fit zs h.1)

pub zeros_fit : (n : ℕ) → CellsFit (replicate n (Whole (pos 0)))
zeros_fit zero = tt
zeros_fit (suc n) = (refl, zeros_fit n)

cells_append : (xs ys : List Num) → CellsFit xs → CellsFit ys → CellsFit (xs ++ ys)
cells_append [] ys h k = k
cells_append (x ∷ xs) ys h k = (h.0, cells_append xs ys h.1 k)

first_cells_fit : (before arrays : List ArrayLists) → AllAfter ArrayFits before arrays → ArraysFit (map first_cells arrays)
first_cells_fit before [] h = tt
first_cells_fit before (a ∷ arrays) h = (
  cells_append (map Whole a.cells) (replicate (cell_count a - length a.cells) (Whole (pos 0))) (declared_fit a.cells h.0.cells) (zeros_fit (cell_count a - length a.cells)),
  first_cells_fit (before ++ a ∷ []) arrays h.1,
)

pub first_arrays_hold : (x : Image) (arrays : List (List Num)) → arrays ≡ (first_kept x).arrays → Fits x → ArraysFit arrays
unfolding first_kept
first_arrays_hold x arrays e h = subst (λ (l : List (List Num)). ArraysFit l) (sym e) (first_cells_fit [] x.lists.arrays h.lists.arrays.each)

pub arrays_set : (arrays : List (List Num)) (a : ℕ) (cells : List Num) → ArraysFit arrays → CellsFit cells → ArraysFit (slice_set arrays a cells)
arrays_set [] a cells h k = tt
arrays_set (c ∷ cs) zero cells h k = (k, h.1)
arrays_set (c ∷ cs) (suc a) cells h k = (h.0, arrays_set cs a cells h.1 k)
