-- Indexes on a stack: the cell of an array that they lead to is that of the meaning, and they are dropped one after the other.
use Rattle.std.proofs.Common.{◌≡◌, ℕ, zero, suc, ◌+◌, ◌*◌, ◌-◌, ◌<◌, ◌≤◌, true, List, [], ◌∷◌, ◌++◌, length, Option, Some, None, refl, sym, ap, ◌∙◌, subst, arith}
use Rattle.std.specs.Option.{option_map_or}
use Rattle.std.specs.Prelude.{slice_get, slice_index, option_map, option_and_then, unwrap_or, nat_lt, if◌then◌else◌}
use Rattle.std.proofs.lemmas.Bool.{and_from, and_parts, eq-eqb, leb-true, lt-ltb}
use Rattle.std.proofs.lemmas.Nat.{mul-add-lt}
use Rattle.std.proofs.lemmas.Option.{slice_get-map, get_or_from_slice_get}
use Rattle.cse_lemmas.proofs.Lists.{slice_get_some}
use Rattle.cse_value.specs.declared.number.Num.{Num}
use Rattle.cse_value.specs.declared.number.Num.TheVariants.{Undef}
use Rattle.cse_image_parts.specs.declared.instruction.Op.TheVariants as ops
use Rattle.cse_image_parts.specs.Fields.{product}
use Rattle.cse_image_parts.specs.Image.{ArrayLists}
use Rattle.cse_case.specs.Case.{CaseText}
use Rattle.cse_decks.specs.Store.{cells_of, cell_count, with_cell}
use Rattle.cse_decks.proofs.StoreLaws.{cell_stays}
use Rattle.cse_compile.specs.Wide.{with_a, with_c, pops}
use Rattle.cse_compile.specs.Setting.{Setting, size_at}
use Rattle.cse_compile.specs.Expressions.{count, behind}
use Rattle.cse_logic_tree.specs.Typed.{Numbers, no_number, number_and}
use Rattle.cse_steps.specs.Cell.{Cell, Number, Index}
use Rattle.cse_steps.specs.State.{Call, World, in_store}
use Rattle.cse_steps.specs.Operands.{is_within, place_among, cell_place, popped}
use Rattle.cse_steps.specs.Step.{acts, on, loaded_cell, stored_cell}
use Rattle.cse_steps.specs.Fits.{FitsWorld}
use Rattle.cse_steps.specs.Laws.{RunsCompose}
use Rattle.cse_steps.proofs.Cells.{map_some}
use Rattle.cse_steps.proofs.Lists.{product_reverse}
use Rattle.cse_verify.specs.Verified.{VerifiedProgram}
use Rattle.cse_meaning.specs.Setting.{Context, Locals, Valued}
use Rattle.cse_meaning.specs.Reading as reading
use Rattle.cse_meaning.specs.Reading.{sizes_of, cell_in}
use Rattle.cse_meaning.specs.Writing.{cell_set}
use Rattle.cse_meaning.specs.Runs.{Goes, Spot, at, HasCode}
use Rattle.cse_meaning.specs.Laid.{IsLaid}
use Rattle.cse_meaning.proofs.Reversed.{onto, in_reverse}
use Rattle.cse_meaning.proofs.Going.{left, stays, plain_at, named, then_goes}

-- ---- indexes on a stack, each with its size, the last one on top

abbrev pub on_top : List (ℕ × ℕ) → List Cell → List Cell
on_top [] cells = cells
on_top (x ∷ xs) cells = Index x.0 x.1 ∷ on_top xs cells

-- put there one after the other
abbrev pub stacked : List ℕ → List ℕ → List (ℕ × ℕ) → List (ℕ × ℕ)
stacked (d ∷ ds) (i ∷ is) done = stacked ds is ((i, d) ∷ done)
stacked _ _ done = done

-- an index for each size
abbrev pub AreWithin : List ℕ → List ℕ → Type 0
AreWithin [] [] = Unit {0}
AreWithin (d ∷ ds) (i ∷ is) = (is_within d i ≡ true) × AreWithin ds is
AreWithin _ _ = ⊥

-- where the code of indexes leads, by whether all are there: behind itself with all of them, or past the places that drop them
abbrev pub LedBy : Spot → ℕ → ℕ → ℕ → ℕ → List (ℕ × ℕ) → List ℕ → List Cell → World → Option (List ℕ) → World → Type 0
LedBy s drops m p q done ds cells w None next = Goes s.program (at s p (on_top done cells) w) (at s (drops + m) cells next)
LedBy s drops m p q done ds cells w (Some is) next = AreWithin ds is × Goes s.program (at s p (on_top done cells) w) (at s q (on_top (stacked ds is done) cells) next)

pub record Led (s : Spot) (first : Option CaseText) (drops m p q : ℕ) (done : List (ℕ × ℕ)) (ds : List ℕ) (cells : List Cell) (w : World) (r : Valued (Option (List ℕ))) : Type 0 where
  pub goes : LedBy s drops m p q done ds cells w r.0 r.1
  pub fits : FitsWorld s.program first r.1

-- ---- the place of a cell

placed : (ds rest is : List ℕ) (done : List (ℕ × ℕ)) (before : ℕ) (cells : List Cell) → AreWithin ds is → place_among rest (on_top done cells) ≡ Some (before, cells)
    → place_among (onto ds rest) (on_top (stacked ds is done) cells) ≡ Some (reading.cell_place before ds is, cells)
placed [] rest [] done before cells within h = h
placed [] rest (i ∷ is) done before cells within h = absurd within
placed (d ∷ ds) rest [] done before cells within h = absurd within
placed (d ∷ ds) rest (i ∷ is) done before cells within h =
    placed ds (d ∷ rest) is ((i, d) ∷ done) (before * d + (i - 1)) cells within.1
    (ap (λ b. if b then option_map (λ (q : ℕ × List Cell). (q.0 * d + (i - 1), q.1)) (place_among rest (on_top done cells)) else None) (and_from _ _ (eq-eqb d d refl) within.0)
    ∙ ap (option_map (λ (q : ℕ × List Cell). (q.0 * d + (i - 1), q.1))) h)

bounded : (ds rest is : List ℕ) (before : ℕ) → AreWithin ds is → before < product rest → reading.cell_place before ds is < product (onto ds rest)
bounded [] rest [] before within h = h
bounded [] rest (i ∷ is) before within h = absurd within
bounded (d ∷ ds) rest [] before within h = absurd within
bounded (d ∷ ds) rest (i ∷ is) before within h =
    let p = and_parts _ _ within.0 in
    let low = leb-true 1 i p.0 in
    let high = leb-true i d p.1 in
    let j : i - 1 < d = omega arith in
    bounded ds (d ∷ rest) is (before * d + (i - 1)) within.1 (mul-add-lt before d (i - 1) (product rest) h j)

-- ---- what the instructions do

module _ (compose : RunsCompose) (e : Setting) (s : Spot) (c : Context) (first : Option CaseText) (ls : Locals) (laid : IsLaid e s c first ls) where
  -- the sizes of an array are those of its table
  pub sizes_are : (array : ℕ) (a : ArrayLists) → slice_get s.program.image.lists.arrays array ≡ Some a → sizes_of c array ≡ a.dimensions
  sizes_are array a is =
      ap (λ (l : List (List ℕ)). unwrap_or (slice_get l array) []) laid.arrays
      ∙ (ap (λ (o : Option (List ℕ)). unwrap_or o []) (slice_get-map (λ (x : ArrayLists). x.dimensions) s.program.image.lists.arrays array)
      ∙ ap (λ (o : Option ArrayLists). unwrap_or (option_map (λ (x : ArrayLists). x.dimensions) o) []) is)

  cells_long : (w : World) (array : ℕ) (a : ArrayLists) → FitsWorld s.program first w → slice_get s.program.image.lists.arrays array ≡ Some a → length (cells_of w.store array) ≡ product a.dimensions
  cells_long w array a fits is =
      let m = map_some (λ (cells : List Num). length cells) (slice_get w.store.arrays array) (cell_count a)
      (sym (slice_get-map (λ (cells : List Num). length cells) w.store.arrays array) ∙ (ap (λ l. slice_get l array) fits.store.arrays ∙ (slice_get-map cell_count _ array ∙ ap (option_map cell_count) is))) in
      ap length (get_or_from_slice_get w.store.arrays array m.0 [] m.1) ∙ m.2

  -- where an index for each size is on the stack, the place of the cell is that of the meaning, and the cell is there
  record Place (array : ℕ) (a : ArrayLists) (is : List ℕ) (cells : List Cell) (w : World) : Type 0 where
    place : ℕ
    found : cell_place a.dimensions (on_top (stacked a.dimensions is []) cells) ≡ Some (place, cells)
    below : place < length (cells_of w.store array)
    same : reading.place_in c array is ≡ place

  place_of : (array : ℕ) (a : ArrayLists) (is : List ℕ) (cells : List Cell) (w : World) → slice_get s.program.image.lists.arrays array ≡ Some a → FitsWorld s.program first w → AreWithin a.dimensions is → Place array a is cells w
  unfolding cell_place
  place_of array a is cells w there fits within =
      let ds = a.dimensions in
      let top = on_top (stacked ds is []) cells in
      let one : 0 < product [] = omega arith in
      let room : product (onto ds []) ≡ product ds = ap product (in_reverse ds) ∙ product_reverse ds in
      let low = bounded ds [] is 0 within one in
      let long = cells_long w array a fits there in
      record {
        place = reading.cell_place 0 ds is;
        found = ap (λ l. place_among l top) (sym (in_reverse ds)) ∙ placed ds [] is [] 0 cells within refl;
        below = omega (arith, room);
        same = ap (λ l. reading.cell_place 0 l is) (sizes_are array a there);
      }

  -- the cell is loaded that the meaning reads
  pub cell_goes : (array : ℕ) (a : ArrayLists) (is : List ℕ) (p : ℕ) (cells : List Cell) (w : World) → slice_get s.program.image.lists.arrays array ≡ Some a → FitsWorld s.program first w → AreWithin a.dimensions is
      → HasCode s p (with_c ops.LoadCell array ∷ []) → Goes s.program (at s p (on_top (stacked a.dimensions is []) cells) w) (at s (p + 1) (Number (cell_in c w array is) ∷ cells) w)
  unfolding acts
  cell_goes array a is p cells w there fits within has =
      let top = on_top (stacked a.dimensions is []) cells in
      let k : Call = record { routine = s.number; place = p; locals = s.locals; cells = top; opens = s.opens } in
      let at_place = place_of array a is cells w there fits within in
      let v = slice_get_some (cells_of w.store array) at_place.place at_place.below in
      let same : cell_in c w array is ≡ v.0 = ap (λ i. unwrap_or (slice_get (cells_of w.store array) i) Undef) at_place.same ∙ ap (λ (o : Option Num). unwrap_or o Undef) v.1 in
      subst (λ x. Goes s.program (at s p top w) (at s (p + 1) (Number x ∷ cells) w)) (sym same)
      (plain_at compose s laid.there p ops.LoadCell 0 0 array top w _ has
      (ap (λ (o : Option ArrayLists). left s.below (option_and_then (loaded_cell k w array) o)) there
      ∙ (ap (λ (o : Option (ℕ × List Cell)). left s.below (option_and_then (λ (q : ℕ × List Cell). option_and_then (λ (v : Num). on k w (Number v ∷ q.1)) (slice_get (cells_of w.store array) q.0)) o)) at_place.found
      ∙ ap (λ (o : Option Num). left s.below (option_and_then (λ (v : Num). on k w (Number v ∷ cells)) o)) v.1)))

  -- the cell is set that the meaning sets
  pub cell_put : (array : ℕ) (a : ArrayLists) (is : List ℕ) (x : Num) (p : ℕ) (w : World) → slice_get s.program.image.lists.arrays array ≡ Some a → FitsWorld s.program first w → AreWithin a.dimensions is
      → HasCode s p (with_c ops.StoreCell array ∷ []) → Goes s.program (at s p (Number x ∷ on_top (stacked a.dimensions is []) []) w) (at s (p + 1) [] (cell_set c array is x w))
  unfolding acts
  cell_put array a is x p w there fits within has =
      let top = Number x ∷ on_top (stacked a.dimensions is []) [] in
      let k : Call = record { routine = s.number; place = p; locals = s.locals; cells = top; opens = s.opens } in
      let at_place = place_of array a is [] w there fits within in
      subst (λ i. Goes s.program (at s p top w) (at s (p + 1) [] (in_store w (with_cell w.store array i x)))) (sym at_place.same)
      (plain_at compose s laid.there p ops.StoreCell 0 0 array top w _ has
      (ap (λ (o : Option ArrayLists). left s.below (option_and_then (stored_cell k w array) o)) there
      ∙ (ap (λ (o : Option (ℕ × List Cell)). left s.below (option_and_then (λ (q : ℕ × List Cell). if nat_lt q.0 (length (cells_of w.store array)) then on k (in_store w (with_cell w.store array q.0 x)) q.1 else None) o)) at_place.found
      ∙ ap (λ b. left s.below (if b then on k (in_store w (with_cell w.store array at_place.place x)) [] else None)) (lt-ltb at_place.place (length (cells_of w.store array)) at_place.below))))

  -- so many indexes are dropped
  pub pops_go : (done : List (ℕ × ℕ)) (q : ℕ) (cells : List Cell) (w : World) → HasCode s q (pops (length done)) → Goes s.program (at s q (on_top done cells) w) (at s (q + length done) cells w)
  unfolding acts popped
  pops_go [] q cells w has = let z : q ≡ q + 0 = omega arith in named compose s laid.there _ _ _ _ _ z (stays s.program _ _ refl)
  pops_go (x ∷ done) q cells w has =
      let g = plain_at compose s laid.there q ops.Pop 2 0 0 (on_top (x ∷ done) cells) w _ (has.0, tt) refl in
      let h = pops_go done (q + 1) cells w has.1 in
      let z : q + 1 + length done ≡ q + length (x ∷ done) = omega arith in
      named compose s laid.there _ _ _ _ _ z (then_goes compose s laid.there _ _ _ g h)

  -- one index more before those that follow
  pub led_on : (o : Option (List ℕ)) (drops m p p' q q' i d : ℕ) (ds : List ℕ) (done : List (ℕ × ℕ)) (cells : List Cell) (w w' next : World) → is_within d i ≡ true → q ≡ q'
      → Goes s.program (at s p (on_top done cells) w) (at s p' (on_top ((i, d) ∷ done) cells) w') → LedBy s drops m p' q ((i, d) ∷ done) ds cells w' o next
      → LedBy s drops m p q' done (d ∷ ds) cells w (option_map (λ is. i ∷ is) o) next
  led_on None drops m p p' q q' i d ds done cells w w' next within e g h = then_goes compose s laid.there _ _ _ g h
  led_on (Some is) drops m p p' q q' i d ds done cells w w' next within e g h = ((within, h.0), named compose s laid.there _ _ _ _ _ e (then_goes compose s laid.there _ _ _ g h.1))

-- instructions alike, from a later one on
pub pops_behind : (m n : ℕ) → pops (m + n) ≡ pops m ++ pops n
pops_behind zero n = let z : zero + n ≡ n = omega arith in ap pops z
pops_behind (suc m) n = let z : suc m + n ≡ suc (m + n) = omega arith in ap pops z ∙ ap (λ l. with_a ops.Pop 2 ∷ l) (pops_behind m n)

-- the sizes of a setting, one by one
pub size_is : (e : Setting) (array : ℕ) (ds : List ℕ) (k : ℕ) → slice_get e.arrays array ≡ Some ds → size_at e array (0 + k) ≡ slice_index ds k
size_is e array ds k is = let z : 0 + k ≡ k = omega arith in ap (size_at e array) z ∙ ap (λ (o : Option (List ℕ)). option_map_or (λ sizes. slice_index sizes k) o 0) is

pub behind_is : (xs : Numbers) → 1 ≤ count xs → 0 + count xs ≡ behind xs + 1
behind_is no_number h = absurd (omega arith)
behind_is (number_and x xs) h = omega arith

-- a world with another cell fits
pub cell_fits : (program : VerifiedProgram) (first : Option CaseText) (c : Context) (w : World) (array : ℕ) (is : List ℕ) (x : Num) → FitsWorld program first w → FitsWorld program first (cell_set c array is x w)
cell_fits program first c w array is x fits = record {
  present = fits.present;
  occurrences = fits.occurrences;
  case_fits = fits.case_fits;
  dictionary = fits.dictionary;
  store = record { globals = fits.store.globals; arrays = cell_stays w.store.arrays array (reading.place_in c array is) x ∙ fits.store.arrays };
}
