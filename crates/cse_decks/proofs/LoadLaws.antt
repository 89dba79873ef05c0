-- Reading keeps the number of cells of each array, so what is loaded fits the program.
use Rattle.std.proofs.Common.{◌≡◌, ℕ, ◌+◌, Bool, true, false, cond, List, [], ◌∷◌, length, Option, Some, None, Result, Ok, Err, refl, ◌∙◌, subst}
use Rattle.std.specs.Prelude.{IfOk, map, ◌&&◌, slice_get}
use Rattle.std.specs.Str.{bytes_eq}
use Rattle.std.proofs.Common.{eqb}
use Rattle.cse_decks.specs.Deck.{heading, ending}
use Rattle.cse_value.specs.declared.number.Num.{Num}
use Rattle.cse_image_parts.specs.Image.{Image, ArrayLists}
use Rattle.cse_decks.specs.declared.due.Due.{Due}
use Rattle.cse_decks.specs.declared.due.Due.TheVariants.{Heading, Opening, Cell, Nothing}
use Rattle.cse_decks.specs.declared.error.DeckError.{DeckError}
use Rattle.cse_decks.specs.Store.{Kept, StoreFits, first_kept}
use Rattle.cse_decks.specs.Loading.{Reading, opening, marked, by_entry, by_place, named, array_read, cell_of, cell_read, by_due, line_read, go_on, read_from, read_text, unread, with_arrays, loaded, cut, with_due, is_array_line, fault, lacking, is_done}
use Rattle.cse_decks.proofs.StoreLaws.{cell_stays}

abbrev pub counts : List (List Num) → List ℕ
counts arrays = map (λ (cells : List Num). length cells) arrays

abbrev pub Keeps : Reading → Result Reading ℕ → Type 0
Keeps r answer = IfOk answer (λ (s : Reading). counts s.arrays ≡ counts r.arrays)

keeps_if : (r : Reading) (b : Bool) (then_this else_that : Result Reading ℕ) → Keeps r then_this → Keeps r else_that → Keeps r (cond b then_this else_that)
keeps_if r true then_this else_that h k = h
keeps_if r false then_this else_that h k = k

keeps_marked : (r : Reading) (i : ℕ) (answer : Result Due ℕ) → Keeps r (marked r i answer)
keeps_marked r i (Ok due) = refl
keeps_marked r i (Err number) = tt

keeps_entry : (r : Reading) (i : ℕ) (line : List ℕ) (o : Option ArrayLists) → Keeps r (by_entry r i line o)
keeps_entry r i line None = tt
keeps_entry r i line (Some a) = keeps_marked r i (opening r.arrays r.came i line a)

keeps_place : (arrays : List ArrayLists) (r : Reading) (line : List ℕ) (o : Option ℕ) → Keeps r (by_place arrays r line o)
keeps_place arrays r line None = tt
keeps_place arrays r line (Some i) = keeps_entry r i line (slice_get arrays i)

keeps_array : (arrays : List ArrayLists) (r : Reading) (line : List ℕ) → Keeps r (array_read arrays r line)
unfolding array_read
keeps_array arrays r line = keeps_place arrays r line (named arrays line)

keeps_cell : (r : Reading) (i place : ℕ) (o : Option Num) → Keeps r (cell_read r i place o)
keeps_cell r i place None = tt
keeps_cell r i place (Some v) = cell_stays r.arrays i place v

keeps_due : (arrays : List ArrayLists) (r : Reading) (line : List ℕ) (due : Due) → Keeps r (by_due arrays r line due)
keeps_due arrays r line Heading = keeps_if r (bytes_eq line heading) (Ok (with_due r Opening)) (Err 50) refl tt
keeps_due arrays r line Opening =
    keeps_if r (bytes_eq line ending) (Ok (with_due r Nothing)) (cond (is_array_line line) (array_read arrays r line) (Err 50)) refl
    (keeps_if r (is_array_line line) (array_read arrays r line) (Err 50) (keeps_array arrays r line) tt)
keeps_due arrays r line (Cell i place) = keeps_cell r i place (cell_of line)
keeps_due arrays r line Nothing = tt

pub keeps_line : (arrays : List ArrayLists) (r : Reading) (line : List ℕ) → Keeps r (line_read arrays r line)
unfolding line_read
keeps_line arrays r line = keeps_due arrays r line r.due

abbrev KeepsAll : List (List Num) → Result (List (List Num)) DeckError → Type 0
KeepsAll before answer = IfOk answer (λ (after : List (List Num)). counts after ≡ counts before)

keeps_then : (a b : List (List Num)) (answer : Result (List (List Num)) DeckError) → counts b ≡ counts a → KeepsAll b answer → KeepsAll a answer
keeps_then a b (Ok after) e h = h ∙ e
keeps_then a b (Err f) e h = tt

keeps_end : (a : List (List Num)) (f : DeckError) (b : Bool) → KeepsAll a (cond b (Ok a) (Err f))
keeps_end a f true = refl
keeps_end a f false = tt

keeps_go : (r : Reading) (n : ℕ) (answer : Result Reading ℕ) (more : Reading → Result (List (List Num)) DeckError) → Keeps r answer → ((s : Reading) → KeepsAll s.arrays (more s)) → KeepsAll r.arrays (go_on n answer more)
keeps_go r n (Ok s) more h k = keeps_then r.arrays s.arrays (more s) h (k s)
keeps_go r n (Err number) more h k = tt

keeps_from : (arrays : List ArrayLists) (r : Reading) (n : ℕ) (lines : List (List ℕ)) (rest : List ℕ) → KeepsAll r.arrays (read_from arrays r n lines rest)
keeps_from arrays r n [] rest = keeps_end r.arrays (fault (lacking r.due) n) (is_done r.due && (eqb (length rest) 0))
keeps_from arrays r n (line ∷ lines) rest =
    keeps_go r n (line_read arrays r line) (λ s. read_from arrays s (n + 1) lines rest) (keeps_line arrays r line) (λ s. keeps_from arrays s (n + 1) lines rest)

loaded_with : (x : Image) (answer : Result (List (List Num)) DeckError) → StoreFits x (first_kept x) → KeepsAll (first_kept x).arrays answer → IfOk (with_arrays x answer) (λ (s : Kept). StoreFits x s)
loaded_with x (Ok arrays) first h = record { globals = first.globals; arrays = h ∙ first.arrays }
loaded_with x (Err e) first h = tt

pub loaded_fits : (x : Image) (text : List ℕ) (first s : Kept) → first ≡ first_kept x → StoreFits x first → loaded x text ≡ Ok s → StoreFits x s
unfolding loaded
loaded_fits x text first s is fits e =
    subst (λ (answer : Result Kept DeckError). IfOk answer (λ (s : Kept). StoreFits x s)) e
    (loaded_with x (read_text x.lists.arrays (unread x) 1 text) (subst (λ (v : Kept). StoreFits x v) is fits) (keeps_from x.lists.arrays (unread x) 1 (cut text).lines (cut text).rest))
