-- Reading the cells of an array: line by line they take the places of the cells that were there.
use Rattle.std.proofs.Common.{◌≡◌, ℕ, ◌+◌, ◌<◌, ◌≤◌, Bool, true, List, [], ◌∷◌, ◌++◌, length, set, Option, Result, Ok, refl, ap, sym, ◌∙◌, append_assoc, length-append, arith}
use Rattle.std.specs.Prelude.{nat_lt}
use Rattle.std.specs.List.{flat_map, slice_index_or}
use Rattle.std.proofs.lemmas.Bool.{cond-true, cond-false, lt-ltb, le-ltb}
use Rattle.std.proofs.lemmas.List.{set-set, get_or-set_same, length-set}
use Rattle.cse_value.specs.declared.number.Num.{Num}
use Rattle.cse_value.specs.Field.{shown, fits_num}
use Rattle.cse_image_parts.specs.Image.{ArrayLists}
use Rattle.cse_decks.specs.declared.due.Due.{Due}
use Rattle.cse_decks.specs.declared.due.Due.TheVariants.{Opening, Cell}
use Rattle.cse_decks.specs.declared.error.DeckError.{DeckError}
use Rattle.cse_decks.specs.Deck.{cell_line}
use Rattle.cse_decks.specs.Store.{CellsFit}
use Rattle.cse_decks.specs.Loading.{Reading, due_at, by_due, line_read, cell_read, go_on, read_text}
use Rattle.cse_decks.proofs.CellLaws.{reads_cells}
use Rattle.cse_decks.proofs.ArrayLineLaws.{shown_one}
use Rattle.cse_decks.proofs.LineLaws.{read_line}

-- ---- what is due

pub due_inside : (i place count : ℕ) → place < count → due_at i place count ≡ Cell i place
due_inside i place count h = cond-true (nat_lt place count) (Cell i place) Opening (lt-ltb place count h)

pub due_after : (i place count : ℕ) → count ≤ place → due_at i place count ≡ Opening
due_after i place count h = cond-false (nat_lt place count) (Cell i place) Opening (le-ltb place count h)

-- ---- one cell

-- the cells up to here are read, and the rest are those that were there
abbrev pub filling : List (List Num) → List Bool → ℕ → List Num → List Num → Reading
filling base came i done rest = record { due = due_at i (length done) (length (done ++ rest)); arrays = set base i (done ++ rest); came = came }

abbrev pub filled : List (List Num) → List Bool → ℕ → List Num → Reading
filled base came i cells = record { due = Opening; arrays = set base i cells; came = came }

set_at : {A : Type 0} (done rest : List A) (w v : A) → set (done ++ w ∷ rest) (length done) v ≡ (done ++ v ∷ []) ++ rest
set_at [] rest w v = refl
set_at (x ∷ xs) rest w v = ap (λ l. x ∷ l) (set_at xs rest w v)

cell_step : (arrays : List ArrayLists) (base : List (List Num)) (came : List Bool) (i : ℕ) (done rest : List Num) (w v : Num) → i < length base → fits_num v ≡ true
    → line_read arrays (filling base came i done (w ∷ rest)) (shown v) ≡ Ok (filling base came i (done ++ v ∷ []) rest)
unfolding line_read
cell_step arrays base came i done rest w v inside fits =
    let r = filling base came i done (w ∷ rest) in
    let cells = done ++ w ∷ rest in
    let due = due_inside i (length done) (length cells) (omega (arith, length-append done (w ∷ rest))) in
    let own : slice_index_or (set base i cells) i [] ≡ cells = get_or-set_same base i cells [] inside in
    let after : set cells (length done) v ≡ (done ++ v ∷ []) ++ rest = set_at done rest w v in
    let put : set (set base i cells) i (set (slice_index_or (set base i cells) i []) (length done) v) ≡ set base i ((done ++ v ∷ []) ++ rest) =
    set-set base i cells (set (slice_index_or (set base i cells) i []) (length done) v)
    ∙ (ap (λ (l : List Num). set base i (set l (length done) v)) own ∙ ap (λ (l : List Num). set base i l) after) in
    let count : length (slice_index_or (set base i cells) i []) ≡ length ((done ++ v ∷ []) ++ rest) = ap (λ (l : List Num). length l) own ∙ (sym (length-set cells (length done) v) ∙ ap (λ (l : List Num). length l) after) in
    let place : length done + 1 ≡ length (done ++ v ∷ []) = omega (arith, length-append done (v ∷ [])) in
    let next : due_at i (length done + 1) (length (slice_index_or (set base i cells) i [])) ≡ due_at i (length (done ++ v ∷ [])) (length ((done ++ v ∷ []) ++ rest)) =
    ap (λ n. due_at i n (length (slice_index_or (set base i cells) i []))) place ∙ ap (λ n. due_at i (length (done ++ v ∷ [])) n) count in
    ap (λ (d : Due). by_due arrays r (shown v) d) due
    ∙ (ap (λ (o : Option Num). cell_read r i (length done) o) (reads_cells v fits)
    ∙ (ap (λ (d : Due). let answer : Result Reading ℕ = Ok (record { due = d; arrays = set (set base i cells) i (set (slice_index_or (set base i cells) i []) (length done) v); came = came }) in answer) next
    ∙ ap (λ (l : List (List Num)). let answer : Result Reading ℕ = Ok (record { due = due_at i (length (done ++ v ∷ [])) (length ((done ++ v ∷ []) ++ rest)); arrays = l; came = came }) in answer) put))

-- ---- all cells

abbrev Answer : Type 0
Answer = Result (List (List Num)) DeckError

-- what is read after the cells is the answer
pub cells_then : (arrays : List ArrayLists) (base : List (List Num)) (came : List Bool) (i : ℕ) (done rest cells : List Num) (n : ℕ) (more : List ℕ) (answer : Answer)
    → i < length base → length rest ≡ length cells → CellsFit cells
    → ((m : ℕ) → read_text arrays (filled base came i (done ++ cells)) m more ≡ answer)
    → read_text arrays (filling base came i done rest) n (flat_map cell_line cells ++ more) ≡ answer
cells_then arrays base came i done [] [] n more answer inside same fits then =
    let due = due_after i (length done) (length (done ++ [])) (omega (arith, length-append {A = Num} done [])) in
    ap (λ (d : Due). read_text arrays (record { due = d; arrays = set base i (done ++ []); came = came }) n more) due ∙ then n
cells_then arrays base came i done (w ∷ rest) [] n more answer inside same fits then = absurd (omega arith)
cells_then arrays base came i done [] (v ∷ cells) n more answer inside same fits then = absurd (omega arith)
cells_then arrays base came i done (w ∷ rest) (v ∷ cells) n more answer inside same fits then =
    let r = filling base came i done (w ∷ rest) in
    let text = flat_map cell_line cells ++ more in
    let s = filling base came i (done ++ v ∷ []) rest in
    let go : Reading → Answer = λ (t : Reading). read_text arrays t (n + 1) text in
    ap (λ l. read_text arrays r n l) (append_assoc (cell_line v) (flat_map cell_line cells) more)
    ∙ (read_line arrays r n (shown v) text (shown_one v fits.0)
    ∙ (ap (λ (a : Result Reading ℕ). go_on n a go) (cell_step arrays base came i done rest w v inside fits.0)
    ∙ cells_then arrays base came i (done ++ v ∷ []) rest cells (n + 1) more answer inside (omega arith) fits.1
    (λ m. ap (λ (l : List Num). read_text arrays (filled base came i l) m more) (append_assoc done (v ∷ []) cells) ∙ then m)))
