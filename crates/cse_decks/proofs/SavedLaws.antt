-- The text that is saved is a deck text, and says what was saved.
use Rattle.std.proofs.Common.{◌≡◌, ℕ, zero, suc, ◌+◌, ◌<◌, Bool, true, false, cond, List, [], ◌∷◌, ◌++◌, length, set, Option, Some, refl, ap, sym, ◌∙◌, subst, append_assoc, zero-add, length-append, arith}
use Rattle.std.specs.Prelude.{map, slice_get, nat_eq}
use Rattle.std.specs.List.{AllByRecursion, flat_map, IsDistinct}
use Rattle.std.specs.Option.{option_map_or}
use Rattle.std.proofs.lemmas.Bool.{ne_eqb}
use Rattle.cse_value.specs.declared.number.Num.{Num}
use Rattle.cse_image_parts.specs.Image.{Image, ArrayLists}
use Rattle.cse_value.specs.Gathering.{line}
use Rattle.cse_decks.specs.Store.{Kept, CellsFit, ArraysFit, StoreFits, cell_count, first_cells, first_kept}
use Rattle.cse_decks.specs.Deck.{heading, ending, block, blocks, deck_text}
use Rattle.cse_decks.specs.DeckText.{HotDeck, IsDeckOf, IsDeckOfEntry, DeckFits, lines_of, with_decks, IsDeckText, saved_cells, saved_kept, LoadsWhatWasSaved}
use Rattle.cse_decks.proofs.AcceptLaws.{counts_of, deck_text_is_read}
use Rattle.cse_decks.proofs.LoadLaws.{counts}

-- the hot decks of the arrays from this number on
abbrev decks_from : ℕ → List ArrayLists → List (List Num) → List HotDeck
decks_from n [] arrays = []
decks_from n (a ∷ others) [] = []
decks_from n (a ∷ others) (cells ∷ more) = cond a.saved (record { array = n; cells = cells } ∷ decks_from (n + 1) others more) (decks_from (n + 1) others more)

-- the arrays are those from this number on
abbrev From : List ArrayLists → ℕ → List ArrayLists → Type 0
From all n arrays = (k : ℕ) → slice_get all (n + k) ≡ slice_get arrays k

from_all : (all : List ArrayLists) → From all 0 all
from_all all k = ap (λ n. slice_get all n) (zero-add k)

from_next : (all : List ArrayLists) (n : ℕ) (a : ArrayLists) (arrays : List ArrayLists) → From all n (a ∷ arrays) → From all (n + 1) arrays
from_next all n a arrays h k = let e : n + 1 + k ≡ n + suc k = omega arith in ap (λ m. slice_get all m) e ∙ h (suc k)

from_here : (all : List ArrayLists) (n : ℕ) (a : ArrayLists) (arrays : List ArrayLists) → From all n (a ∷ arrays) → slice_get all n ≡ Some a
from_here all n a arrays h = let e : n ≡ n + 0 = omega arith in ap (λ m. slice_get all m) e ∙ h 0

-- ---- the text

blocks_if : (all : List ArrayLists) (n : ℕ) (a : ArrayLists) (cells : List Num) (ds : List HotDeck) (rest : List ℕ) (b : Bool) → slice_get all n ≡ Some a → flat_map (lines_of all) ds ≡ rest
    → flat_map (lines_of all) (cond b (record { array = n; cells = cells } ∷ ds) ds) ≡ cond b (block a cells) [] ++ rest
blocks_if all n a cells ds rest true e h =
    ap (λ (o : Option ArrayLists). option_map_or (λ (x : ArrayLists). block x cells) o [] ++ flat_map (lines_of all) ds) e ∙ ap (λ (l : List ℕ). block a cells ++ l) h
blocks_if all n a cells ds rest false e h = h

blocks_are : (all : List ArrayLists) (n : ℕ) (arrays : List ArrayLists) (cells : List (List Num)) → From all n arrays → flat_map (lines_of all) (decks_from n arrays cells) ≡ blocks arrays cells
blocks_are all n [] cells h = refl
blocks_are all n (a ∷ others) [] h = refl
blocks_are all n (a ∷ others) (c ∷ more) h =
    blocks_if all n a c (decks_from (n + 1) others more) (blocks others more) a.saved (from_here all n a others h) (blocks_are all (n + 1) others more (from_next all n a others h))

-- ---- the hot decks fit, and each comes once

fit_if : (all : List ArrayLists) (n : ℕ) (a : ArrayLists) (cells : List Num) (ds : List HotDeck) (b : Bool) → a.saved ≡ b → slice_get all n ≡ Some a → length cells ≡ cell_count a → CellsFit cells
    → AllByRecursion (DeckFits all) ds → AllByRecursion (DeckFits all) (cond b (record { array = n; cells = cells } ∷ ds) ds)
fit_if all n a cells ds true saved e count fit h =
    let own : IsDeckOf a cells = record { saved = saved; count = count; fit = fit } in
    (subst (λ (o : Option ArrayLists). IsDeckOfEntry o cells) (sym e) own, h)
fit_if all n a cells ds false saved e count fit h = h

decks_fit : (all : List ArrayLists) (n : ℕ) (arrays : List ArrayLists) (cells : List (List Num)) → From all n arrays → counts cells ≡ counts_of arrays → ArraysFit cells
    → AllByRecursion (DeckFits all) (decks_from n arrays cells)
decks_fit all n [] cells h same fit = tt
decks_fit all n (a ∷ others) [] h same fit = tt
decks_fit all n (a ∷ others) (c ∷ more) h same fit =
    let count : length c ≡ cell_count a = cc in
    let rest : counts more ≡ counts_of others = cc in
    fit_if all n a c (decks_from (n + 1) others more) a.saved refl (from_here all n a others h) count fit.0 (decks_fit all (n + 1) others more (from_next all n a others h) rest fit.1)

abbrev numbers : List HotDeck → List ℕ
numbers ds = map (λ (d : HotDeck). d.array) ds

abbrev Other : ℕ → List HotDeck → Type 0
Other m ds = AllByRecursion (λ k. nat_eq m k ≡ false) (numbers ds)

other_if : (m n : ℕ) (cells : List Num) (ds : List HotDeck) (b : Bool) → m < n → Other m ds → Other m (cond b (record { array = n; cells = cells } ∷ ds) ds)
other_if m n cells ds true h k = (ne_eqb m n (λ e. omega arith), k)
other_if m n cells ds false h k = k

others : (m n : ℕ) (arrays : List ArrayLists) (cells : List (List Num)) → m < n → Other m (decks_from n arrays cells)
others m n [] cells h = tt
others m n (a ∷ as_well) [] h = tt
others m n (a ∷ as_well) (c ∷ more) h = other_if m n c (decks_from (n + 1) as_well more) a.saved h (others m (n + 1) as_well more (omega arith))

distinct_if : (n : ℕ) (cells : List Num) (ds : List HotDeck) (b : Bool) → Other n ds → IsDistinct nat_eq (numbers ds) → IsDistinct nat_eq (numbers (cond b (record { array = n; cells = cells } ∷ ds) ds))
unfolding IsDistinct
distinct_if n cells ds true h k = (h, k)
distinct_if n cells ds false h k = k

decks_distinct : (n : ℕ) (arrays : List ArrayLists) (cells : List (List Num)) → IsDistinct nat_eq (numbers (decks_from n arrays cells))
unfolding IsDistinct
decks_distinct n [] cells = tt
decks_distinct n (a ∷ as_well) [] = tt
decks_distinct n (a ∷ as_well) (c ∷ more) =
    distinct_if n c (decks_from (n + 1) as_well more) a.saved (others n (n + 1) as_well more (omega arith)) (decks_distinct (n + 1) as_well more)

-- ---- the cells

abbrev starting : List ArrayLists → List (List Num)
starting arrays = map first_cells arrays

set_here : {A : Type 0} (front rest : List A) (x y : A) (n : ℕ) → length front ≡ n → set (front ++ x ∷ rest) n y ≡ (front ++ y ∷ []) ++ rest
set_here [] rest x y n h = ap (λ m. set (x ∷ rest) m y) (sym h)
set_here (z ∷ front) rest x y zero h = absurd (omega arith)
set_here (z ∷ front) rest x y (suc n) h = ap (λ l. z ∷ l) (set_here front rest x y n (omega arith))

put_if : (front rest : List (List Num)) (first cells : List Num) (n : ℕ) (ds : List HotDeck) (after : List (List Num)) (b : Bool) → length front ≡ n
    → with_decks ((front ++ cond b cells first ∷ []) ++ rest) ds ≡ after
    → with_decks (front ++ first ∷ rest) (cond b (record { array = n; cells = cells } ∷ ds) ds) ≡ after
put_if front rest first cells n ds after true h e = ap (λ (l : List (List Num)). with_decks l ds) (set_here front rest first cells n h) ∙ e
put_if front rest first cells n ds after false h e = ap (λ (l : List (List Num)). with_decks l ds) (sym (append_assoc front (first ∷ []) rest)) ∙ e

cells_are : (front : List (List Num)) (n : ℕ) (arrays : List ArrayLists) (cells : List (List Num)) → length front ≡ n → counts cells ≡ counts_of arrays
    → with_decks (front ++ starting arrays) (decks_from n arrays cells) ≡ front ++ saved_cells arrays cells
cells_are front n [] cells h same = refl
cells_are front n (a ∷ as_well) [] h same = cc
cells_are front n (a ∷ as_well) (c ∷ more) h same =
    let here : List Num = cond a.saved c (first_cells a) in
    let rest : counts more ≡ counts_of as_well = cc in
    let long : length (front ++ here ∷ []) ≡ n + 1 = omega (arith, length-append front (here ∷ [])) in
    put_if front (starting as_well) (first_cells a) c n (decks_from (n + 1) as_well more) (front ++ (here ∷ saved_cells as_well more)) a.saved h
    (cells_are (front ++ here ∷ []) (n + 1) as_well more long rest ∙ append_assoc front (here ∷ []) (saved_cells as_well more))

-- ---- the whole text

first_arrays_are : (x : Image) → (first_kept x).arrays ≡ starting x.lists.arrays
unfolding first_kept
first_arrays_are x = refl

pub saved_is_deck_text : (x : Image) (s : Kept) → StoreFits x s → ArraysFit s.arrays → IsDeckText x (deck_text x s) (saved_kept x s)
unfolding deck_text
saved_is_deck_text x s fits cells =
    let arrays = x.lists.arrays in
    let decks = decks_from 0 arrays s.arrays in
    record {
      decks = decks;
      fit = decks_fit arrays 0 arrays s.arrays (from_all arrays) fits.arrays cells;
      once = decks_distinct 0 arrays s.arrays;
      text_is = ap (λ (l : List ℕ). (line heading ++ l) ++ line ending) (sym (blocks_are arrays 0 arrays s.arrays (from_all arrays)));
      globals = refl;
      arrays = sym (cells_are [] 0 arrays s.arrays refl fits.arrays) ∙ ap (λ (l : List (List Num)). with_decks l decks) (sym (first_arrays_are x));
    }

pub loads_what_was_saved : LoadsWhatWasSaved
loads_what_was_saved x s fits store cells = deck_text_is_read x (deck_text x s) (saved_kept x s) fits (saved_is_deck_text x s store cells)
