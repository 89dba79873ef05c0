-- Reading says yes of deck texts alone.
use Rattle.std.proofs.Common.{◌≡◌, ℕ, List, [], ◌∷◌, Option, Some, None, Result, Ok, Err, refl, sym, subst, ⊎_elim}
use Rattle.std.specs.Prelude.{IfOk, slice_get, slice_set}
use Rattle.std.specs.List.{AllByRecursion}
use Rattle.cse_value.specs.declared.number.Num.{Num}
use Rattle.cse_image_parts.specs.Image.{Image, ArrayLists}
use Rattle.cse_image.specs.Spelling.{Fits}
use Rattle.cse_decks.specs.declared.error.DeckError.{DeckError}
use Rattle.cse_decks.specs.Store.{Kept, CellsFit, ArraysFit, first_kept}
use Rattle.cse_decks.specs.Loading.{Answers, loaded, out_of_memory}
use Rattle.cse_decks.specs.DeckText.{HotDeck, IsDeckOfEntry, DeckFits, with_decks, IsDeckText, IsStore, LoadsDeckTexts}
use Rattle.cse_decks.proofs.AcceptLaws.{deck_text_is_read}
use Rattle.cse_decks.proofs.StoreLaws.{first_arrays_hold, arrays_set}
use Rattle.cse_decks.proofs.ToldLaws.{read_is_deck_text}

pub loads_deck_texts : LoadsDeckTexts
loads_deck_texts x text s fits = (read_is_deck_text x text s fits, deck_text_is_read x text s fits)

-- ---- answers

not_other : (s : Kept) (a : Result Kept DeckError) (e : DeckError) → a ≡ Ok s → a ≡ Err e → e ≡ out_of_memory
not_other s a e h k = cc

-- an answer of reading, unless memory ran out, is the store that the text says
pub is_store : (x : Image) (text : List ℕ) (s : Kept) (answer : Result Kept DeckError) → Fits x → Answers (λ (k : Kept). k) answer (loaded x text) → IsDeckText x text s → IsStore s answer
is_store x text s (Ok t) fits h says =
    let same : loaded x text ≡ Ok s = deck_text_is_read x text s fits says in
    let stores : t ≡ s = cc in stores
is_store x text s (Err e) fits h says = ⊎_elim (λ k. k) (λ k. not_other s (loaded x text) e (deck_text_is_read x text s fits says) k) h

pub says_store : (x : Image) (text : List ℕ) (answer : Result Kept DeckError) → Fits x → Answers (λ (k : Kept). k) answer (loaded x text) → IfOk answer (λ (s : Kept). IsDeckText x text s)
says_store x text (Ok s) fits h = read_is_deck_text x text s fits h
says_store x text (Err e) fits h = tt

-- ---- 64 bits hold what is read

entry_holds : (o : Option ArrayLists) (cells : List Num) → IsDeckOfEntry o cells → CellsFit cells
entry_holds None cells h = absurd h
entry_holds (Some a) cells h = h.fit

decks_hold : (arrays : List ArrayLists) (base : List (List Num)) (ds : List HotDeck) → ArraysFit base → AllByRecursion (DeckFits arrays) ds → ArraysFit (with_decks base ds)
decks_hold arrays base [] h each = h
decks_hold arrays base (d ∷ ds) h each =
    decks_hold arrays (slice_set base d.array d.cells) ds (arrays_set base d.array d.cells h (entry_holds (slice_get arrays d.array) d.cells each.0)) each.1

pub loaded_holds : (x : Image) (text : List ℕ) (s : Kept) → Fits x → loaded x text ≡ Ok s → ArraysFit s.arrays
loaded_holds x text s fits e =
    let says = read_is_deck_text x text s fits e in
    subst (λ (l : List (List Num)). ArraysFit l) (sym says.arrays) (decks_hold x.lists.arrays (first_kept x).arrays says.decks (first_arrays_hold x (first_kept x).arrays refl fits) says.fit)
