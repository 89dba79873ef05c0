-- Which texts are deck texts of a program, as whole texts, and what they say: a heading, then the hot decks
-- of saved arrays, each array at most once and in any order, and an end. The cells of the decks are those of
-- their arrays; every other array has its starting cells.
use Rattle.std.specs.Prelude.{◌≡◌, ◌↔◌, ℕ, true, nat_eq, List, [], ◌∷◌, ◌++◌, length, map, if◌then◌else◌, Option, Some, None, Result, Ok, Err, slice_get, slice_set}
use Rattle.std.specs.List.{flat_map, AllByRecursion, IsDistinct}
use Rattle.std.specs.Option.{option_map_or}
use Rattle.cse_value.specs.declared.number.Num.{Num}
use Rattle.cse_image_parts.specs.Image.{Image, ArrayLists}
use Rattle.cse_image.specs.Spelling.{Fits}
use Rattle.cse_value.specs.Gathering.{line}
use Rattle.cse_decks.specs.declared.error.DeckError.{DeckError}
use Rattle.cse_decks.specs.Store.{Kept, CellsFit, ArraysFit, StoreFits, cell_count, first_cells, first_kept}
use Rattle.cse_decks.specs.Deck.{heading, ending, block, deck_text}
use Rattle.cse_decks.specs.Loading.{loaded, out_of_memory}

-- ---- hot decks

-- the hot deck of an array, which is told by its number
pub record HotDeck : Type 0 where
  pub array : ℕ
  pub cells : List Num

-- these are the cells of a hot deck of the array: it is saved, and has so many cells
pub record IsDeckOf (a : ArrayLists) (cells : List Num) : Type 0 where
  pub saved : a.saved ≡ true
  pub count : length cells ≡ cell_count a
  pub fit : CellsFit cells

abbrev pub IsDeckOfEntry : Option ArrayLists → List Num → Type 0
IsDeckOfEntry None cells = ⊥
IsDeckOfEntry (Some a) cells = IsDeckOf a cells

-- it is a hot deck of one of the arrays
abbrev pub DeckFits : List ArrayLists → HotDeck → Type 0
DeckFits arrays d = IsDeckOfEntry (slice_get arrays d.array) d.cells

-- its lines
abbrev pub lines_of : List ArrayLists → HotDeck → List ℕ
lines_of arrays d = option_map_or (λ a. block a d.cells) (slice_get arrays d.array) []

-- the cells of all arrays, with those of the hot decks in their places
abbrev pub with_decks : List (List Num) → List HotDeck → List (List Num)
with_decks arrays [] = arrays
with_decks arrays (d ∷ ds) = with_decks (slice_set arrays d.array d.cells) ds

-- ---- deck texts

-- the text is a deck text of the program, and says this store
pub record IsDeckText (x : Image) (text : List ℕ) (s : Kept) : Type 0 where
  pub decks : List HotDeck
  pub fit : AllByRecursion (DeckFits x.lists.arrays) decks
  pub once : IsDistinct nat_eq (map (λ d. d.array) decks)
  pub text_is : text ≡ (line heading ++ flat_map (lines_of x.lists.arrays) decks) ++ line ending
  pub globals : s.globals ≡ (first_kept x).globals
  pub arrays : s.arrays ≡ with_decks (first_kept x).arrays decks

-- reading says yes of deck texts alone, with the store that they say
abbrev pub LoadsDeckTexts : Type 0
LoadsDeckTexts = (x : Image) (text : List ℕ) (s : Kept) → Fits x → ((loaded x text ≡ Ok s) ↔ IsDeckText x text s)

-- an answer is the store, unless memory ran out
abbrev pub IsStore : Kept → Result Kept DeckError → Type 0
IsStore s (Ok answer) = answer ≡ s
IsStore s (Err e) = e ≡ out_of_memory

-- ---- what is saved

-- the cells of the arrays that are saved, and the starting cells of the others
abbrev pub saved_cells : List ArrayLists → List (List Num) → List (List Num)
saved_cells [] arrays = []
saved_cells (a ∷ others) [] = []
saved_cells (a ∷ others) (cells ∷ more) = (if a.saved then cells else first_cells a) ∷ saved_cells others more

-- what a later run has of a store: the first store, with the cells of the saved arrays
abbrev pub saved_kept : Image → Kept → Kept
saved_kept x s = record { globals = (first_kept x).globals; arrays = saved_cells x.lists.arrays s.arrays }

-- what was saved is loaded, and nothing else changes: 64 bits hold each cell of a store
abbrev pub LoadsWhatWasSaved : Type 0
LoadsWhatWasSaved = (x : Image) (s : Kept) → Fits x → StoreFits x s → ArraysFit s.arrays → loaded x (deck_text x s) ≡ Ok (saved_kept x s)
