-- Each text that is read is a deck text of the program, and says what was read.
use Rattle.std.proofs.Common.{◌≡◌, ℕ, ◌+◌, ◌<◌, ◌≤◌, Bool, true, false, cond, eqb, List, [], ◌∷◌, ◌++◌, length, take, set, Option, Some, None, Result, Ok, Err, refl, ap, sym, ◌∙◌, subst, append_assoc, append-nil, arith}
use Rattle.std.specs.Prelude.{slice_get, nat_lt, ◌&&◌, IfOk}
use Rattle.std.specs.List.{AllByRecursion, flat_map, slice_index_or}
use Rattle.std.specs.Option.{option_map_or}
use Rattle.std.specs.Str.{bytes_eq}
use Rattle.std.proofs.lemmas.Bool.{and_parts, ltb-true, ltb-false, eqb-true}
use Rattle.std.proofs.lemmas.List.{set-set, set-get_or, get_or-set_same, take_more_set, length-set, nil_from_length, take_all}
use Rattle.std.proofs.lemmas.Slice.Eq.{bytes_eq-Decides}
use Rattle.cse_lemmas.proofs.Lists.{within_from_row}
use Rattle.cse_value.specs.declared.number.Num.{Num}
use Rattle.cse_value.specs.Field.{shown, fits_num}
use Rattle.cse_image_parts.specs.Image.{Image, ArrayLists}
use Rattle.cse_image.specs.Spelling.{Fits}
use Rattle.cse_value.specs.Gathering.{line}
use Rattle.cse_decks.specs.declared.due.Due.{Due}
use Rattle.cse_decks.specs.declared.due.Due.TheVariants.{Heading, Opening, Cell, Nothing}
use Rattle.cse_decks.specs.declared.error.DeckError.{DeckError}
use Rattle.cse_decks.specs.Store.{Kept, CellsFit, first_kept}
use Rattle.cse_decks.specs.Deck.{heading, ending, array_line, block, cell_line}
use Rattle.cse_decks.specs.DeckText.{HotDeck, IsDeckOf, IsDeckOfEntry, DeckFits, lines_of, with_decks, IsDeckText}
use Rattle.cse_decks.specs.Inside.{CellInside}
use Rattle.cse_decks.specs.Loading.{Reading, due_at, is_open, opening, marked, by_entry, by_place, named, is_array_line, array_read, cell_of, cell_read, by_due, line_read, go_on, fault, ended, cut, read_from, read_text, unread, with_arrays, loaded}
use Rattle.cse_decks.proofs.AcceptLaws.{counts_of, count_at, at_opening}
use Rattle.cse_decks.proofs.CellLaws.{reads_nothing_else, reads_fitting}
use Rattle.cse_decks.proofs.LineLaws.{uncut, uncut-cut}
use Rattle.cse_decks.proofs.LoadLaws.{counts, keeps_line}
use Rattle.cse_decks.proofs.OnceLaws.{Once, distinct_once}
use Rattle.cse_decks.proofs.StoreLaws.{first_fits}

-- ---- what a text says from here on

-- hot decks and the end
record Decks (arrays : List ArrayLists) (base : List (List Num)) (came : List Bool) (text : List ℕ) (after : List (List Num)) : Type 0 where
  decks : List HotDeck
  fit : AllByRecursion (DeckFits arrays) decks
  once : Once came decks
  text_is : text ≡ flat_map (lines_of arrays) decks ++ line ending
  after_is : after ≡ with_decks base decks

-- the array's cells from a place on, and what follows them
record Filled (arrays : List ArrayLists) (base : List (List Num)) (came : List Bool) (i place : ℕ) (text : List ℕ) (after : List (List Num)) : Type 0 where
  cells : List Num
  more : List ℕ
  count : place + length cells ≡ length (slice_index_or base i [])
  fit : CellsFit cells
  text_is : text ≡ flat_map cell_line cells ++ more
  then : Decks arrays (set base i (take place (slice_index_or base i []) ++ cells)) came more after

record Headed (arrays : List ArrayLists) (base : List (List Num)) (came : List Bool) (text : List ℕ) (after : List (List Num)) : Type 0 where
  more : List ℕ
  text_is : text ≡ line heading ++ more
  then : Decks arrays base came more after

abbrev SaysBy : List ArrayLists → List (List Num) → List Bool → List ℕ → List (List Num) → Due → Type 0
SaysBy arrays base came text after Heading = Headed arrays base came text after
SaysBy arrays base came text after Opening = Decks arrays base came text after
SaysBy arrays base came text after (Cell i place) = Filled arrays base came i place text after
SaysBy arrays base came text after Nothing = (text ≡ []) × (after ≡ base)

abbrev Says : List ArrayLists → Reading → List ℕ → List (List Num) → Type 0
Says arrays r text after = SaysBy arrays r.arrays r.came text after r.due

-- a reading of this program's arrays
pub record Good (arrays : List ArrayLists) (r : Reading) : Type 0 where
  pub same : counts r.arrays ≡ counts_of arrays
  pub inside : CellInside r.arrays r.due

-- a line leaves a cell inside, if one is due, and if the rest says so from there, then it says so with the line
record Step (arrays : List ArrayLists) (base : List (List Num)) (came : List Bool) (due : Due) (l : List ℕ) (s : Reading) : Type 0 where
  inside : CellInside s.arrays s.due
  says : (more : List ℕ) (after : List (List Num)) → Says arrays s more after → SaysBy arrays base came (line l ++ more) after due

-- ---- where cells are due

-- the cells from a place on, where that may be the end
filled_from : (arrays : List ArrayLists) (base : List (List Num)) (came : List Bool) (i place : ℕ) (text : List ℕ) (after : List (List Num)) (b : Bool)
    → nat_lt place (length (slice_index_or base i [])) ≡ b → place ≤ length (slice_index_or base i [])
    → SaysBy arrays base came text after (cond b (Cell i place) Opening) → Filled arrays base came i place text after
filled_from arrays base came i place text after true e h says = says
filled_from arrays base came i place text after false e h says =
    let cells : List Num = slice_index_or base i [] in
    let end : length cells ≤ place = ltb-false place (length cells) e in
    let all : take place cells ++ [] ≡ cells = append-nil (take place cells) ∙ take_all place cells end in
    let same : base ≡ set base i (take place cells ++ []) = sym (ap (λ (l : List Num). set base i l) all ∙ set-get_or base i []) in
    record {
      cells = [];
      more = text;
      count = omega arith;
      fit = tt;
      text_is = refl;
      then = subst (λ (l : List (List Num)). Decks arrays l came text after) same says;
    }

inside_due : (base : List (List Num)) (i place count : ℕ) (b : Bool) → nat_lt place count ≡ b → count ≡ length (slice_index_or base i []) → CellInside base (cond b (Cell i place) Opening)
inside_due base i place count true e same = let low : place < count = ltb-true place count e in omega arith
inside_due base i place count false e same = tt

-- ---- the line of a cell

-- the cell is put, and the rest after it
filled_more : (arrays : List ArrayLists) (base : List (List Num)) (came : List Bool) (i place : ℕ) (l more : List ℕ) (v : Num) (after : List (List Num))
    → place < length (slice_index_or base i []) → l ≡ shown v → fits_num v ≡ true
    → Filled arrays (set base i (set (slice_index_or base i []) place v)) came i (place + 1) more after
    → Filled arrays base came i place (line l ++ more) after
filled_more arrays base came i place l more v after h is fits f =
    let cells : List Num = slice_index_or base i [] in
    let put = set cells place v in
    let own : slice_index_or (set base i put) i [] ≡ put = get_or-set_same base i put [] (within_from_row base i place h) in
    let front : take (place + 1) put ≡ take place cells ++ v ∷ [] = take_more_set cells place v h in
    let joined : take (place + 1) (slice_index_or (set base i put) i []) ++ f.cells ≡ take place cells ++ (v ∷ f.cells) =
    ap (λ (m : List Num). take (place + 1) m ++ f.cells) own ∙ (ap (λ (m : List Num). m ++ f.cells) front ∙ append_assoc (take place cells) (v ∷ []) f.cells) in
    let arrays_are : set (set base i put) i (take (place + 1) (slice_index_or (set base i put) i []) ++ f.cells) ≡ set base i (take place cells ++ (v ∷ f.cells)) =
    set-set base i put (take (place + 1) (slice_index_or (set base i put) i []) ++ f.cells) ∙ ap (λ (m : List Num). set base i m) joined in
    let count : place + 1 + length f.cells ≡ length cells = f.count ∙ (ap (λ (m : List Num). length m) own ∙ length-set cells place v) in
    record {
      cells = v ∷ f.cells;
      more = f.more;
      count = omega arith;
      fit = (fits, f.fit);
      text_is = ap (λ (m : List ℕ). line l ++ m) f.text_is ∙ (ap (λ (m : List ℕ). line m ++ (flat_map cell_line f.cells ++ f.more)) is ∙ sym (append_assoc (cell_line v) (flat_map cell_line f.cells) f.more));
      then = subst (λ (m : List (List Num)). Decks arrays m came f.more after) arrays_are f.then;
    }

cell_steps : (arrays : List ArrayLists) (base : List (List Num)) (came : List Bool) (i place : ℕ) (l : List ℕ) (o : Option Num) (s : Reading)
    → place < length (slice_index_or base i []) → cell_of l ≡ o → cell_read (record { due = Cell i place; arrays = base; came = came }) i place o ≡ Ok s
    → (more : List ℕ) (after : List (List Num)) → Says arrays s more after → Filled arrays base came i place (line l ++ more) after
cell_steps arrays base came i place l None s h is e more after says = cc
cell_steps arrays base came i place l (Some v) s h is e more after says =
    let cells : List Num = slice_index_or base i [] in
    let put = set cells place v in
    let new : Reading = record { due = due_at i (place + 1) (length cells); arrays = set base i put; came = came } in
    let same : s ≡ new = cc in
    let own : length (slice_index_or (set base i put) i []) ≡ length cells = ap (λ (m : List Num). length m) (get_or-set_same base i put [] (within_from_row base i place h)) ∙ length-set cells place v in
    let there : Says arrays new more after = subst (λ (r : Reading). Says arrays r more after) same says in
    let due : due_at i (place + 1) (length cells) ≡ due_at i (place + 1) (length (slice_index_or (set base i put) i [])) = ap (λ n. due_at i (place + 1) n) (sym own) in
    let here = subst (λ (d : Due). SaysBy arrays (set base i put) came more after d) due there in
    filled_more arrays base came i place l more v after h (reads_nothing_else l v is) (reads_fitting l v is)
    (filled_from arrays (set base i put) came i (place + 1) more after (nat_lt (place + 1) (length (slice_index_or (set base i put) i []))) refl (omega arith) here)

cell_good : (base : List (List Num)) (came : List Bool) (i place : ℕ) (o : Option Num) (s : Reading)
    → place < length (slice_index_or base i []) → cell_read (record { due = Cell i place; arrays = base; came = came }) i place o ≡ Ok s → CellInside s.arrays s.due
cell_good base came i place None s h e = cc
cell_good base came i place (Some v) s h e =
    let cells : List Num = slice_index_or base i [] in
    let put = set cells place v in
    let new : Reading = record { due = due_at i (place + 1) (length cells); arrays = set base i put; came = came } in
    let same : new ≡ s = cc in
    let own : length (slice_index_or (set base i put) i []) ≡ length cells = ap (λ (m : List Num). length m) (get_or-set_same base i put [] (within_from_row base i place h)) ∙ length-set cells place v in
    subst (λ (r : Reading). CellInside r.arrays r.due) same (inside_due (set base i put) i (place + 1) (length cells) (nat_lt (place + 1) (length cells)) refl (sym own))

-- ---- the heading

heading_step : (arrays : List ArrayLists) (base : List (List Num)) (came : List Bool) (l : List ℕ) (s : Reading) (b : Bool) → bytes_eq l heading ≡ b
    → cond {A = Result Reading ℕ} b (Ok (at_opening base came)) (Err 50) ≡ Ok s → Step arrays base came Heading l s
heading_step arrays base came l s false is e = cc
heading_step arrays base came l s true is e =
    let same : at_opening base came ≡ s = cc in
    record {
      inside = subst (λ (r : Reading). CellInside r.arrays r.due) same tt;
      says = λ more after says. record {
        more = more;
        text_is = ap (λ (m : List ℕ). line m ++ more) ((bytes_eq-Decides l heading).0 is);
        then = subst (λ (r : Reading). Says arrays r more after) (sym same) says;
      };
    }

-- ---- the end

abbrev closed : List (List Num) → List Bool → Reading
closed base came = record { due = Nothing; arrays = base; came = came }

end_step : (arrays : List ArrayLists) (base : List (List Num)) (came : List Bool) (l : List ℕ) (s : Reading) → l ≡ ending → closed base came ≡ s → Step arrays base came Opening l s
end_step arrays base came l s is same = record {
  inside = subst (λ (r : Reading). CellInside r.arrays r.due) same tt;
  says = λ more after says.
      let end : (more ≡ []) × (after ≡ base) = subst (λ (r : Reading). Says arrays r more after) (sym same) says in
      record {
        decks = [];
        fit = tt;
        once = tt;
        text_is = ap (λ (m : List ℕ). line m ++ more) is ∙ ap (λ (m : List ℕ). line ending ++ m) end.0;
        after_is = end.1;
      };
}

-- ---- the line of an array

abbrev begun : List (List Num) → List Bool → ℕ → Reading
begun base came i = record { due = due_at i 0 (length (slice_index_or base i [])); arrays = base; came = set came i true }

-- the array's cells, and then other hot decks
deck_more : (arrays : List ArrayLists) (base : List (List Num)) (came : List Bool) (i : ℕ) (a : ArrayLists) (l more : List ℕ) (after : List (List Num))
    → counts base ≡ counts_of arrays → slice_get arrays i ≡ Some a → l ≡ array_line a → a.saved ≡ true → is_open came i ≡ true
    → Filled arrays base (set came i true) i 0 more after → Decks arrays base came (line l ++ more) after
unfolding block
deck_more arrays base came i a l more after same e is saved open_yet f =
    let t = f.then in
    let d : HotDeck = record { array = i; cells = f.cells } in
    let here = count_at base arrays i a same e in
    let count : length f.cells ≡ length (slice_index_or base i []) = omega (arith, f.count) in
    let own : IsDeckOf a f.cells = record { saved = saved; count = count ∙ here.1; fit = f.fit } in
    let lines : line l ++ flat_map cell_line f.cells ≡ lines_of arrays d =
    ap (λ (m : List ℕ). line m ++ flat_map cell_line f.cells) is ∙ ap (λ (o : Option ArrayLists). option_map_or (λ (x : ArrayLists). block x f.cells) o []) (sym e) in
    let rest = flat_map (lines_of arrays) t.decks in
    let text : line l ++ more ≡ (lines_of arrays d ++ rest) ++ line ending =
    ap (λ (m : List ℕ). line l ++ m) (f.text_is ∙ ap (λ (m : List ℕ). flat_map cell_line f.cells ++ m) t.text_is)
    ∙ (sym (append_assoc (line l) (flat_map cell_line f.cells) (rest ++ line ending))
    ∙ (ap (λ (m : List ℕ). m ++ (rest ++ line ending)) lines ∙ sym (append_assoc (lines_of arrays d) rest (line ending)))) in
    record {
      decks = d ∷ t.decks;
      fit = (subst (λ (o : Option ArrayLists). IsDeckOfEntry o f.cells) (sym e) own, t.fit);
      once = (open_yet, t.once);
      text_is = text;
      after_is = t.after_is;
    }

begun_step : (arrays : List ArrayLists) (base : List (List Num)) (came : List Bool) (i : ℕ) (a : ArrayLists) (l : List ℕ) (s : Reading)
    → counts base ≡ counts_of arrays → slice_get arrays i ≡ Some a → l ≡ array_line a → a.saved ≡ true → is_open came i ≡ true → begun base came i ≡ s → Step arrays base came Opening l s
begun_step arrays base came i a l s same e is saved open_yet new =
    let count = length (slice_index_or base i []) in
    record {
      inside = subst (λ (r : Reading). CellInside r.arrays r.due) new (inside_due base i 0 count (nat_lt 0 count) refl refl);
      says = λ more after says.
          deck_more arrays base came i a l more after same e is saved open_yet
          (filled_from arrays base (set came i true) i 0 more after (nat_lt 0 count) refl (omega arith) (subst (λ (r : Reading). Says arrays r more after) (sym new) says));
    }

by_tests : (arrays : List ArrayLists) (base : List (List Num)) (came : List Bool) (i : ℕ) (a : ArrayLists) (l : List ℕ) (s : Reading) (b c : Bool)
    → counts base ≡ counts_of arrays → slice_get arrays i ≡ Some a → bytes_eq l (array_line a) ≡ b → (a.saved && is_open came i) ≡ c
    → marked (at_opening base came) i (cond b (cond c (Ok (due_at i 0 (length (slice_index_or base i [])))) (Err 53)) (Err 52)) ≡ Ok s → Step arrays base came Opening l s
by_tests arrays base came i a l s true true same e is can h =
    let parts = and_parts a.saved (is_open came i) can in
    let new : begun base came i ≡ s = cc in
    begun_step arrays base came i a l s same e ((bytes_eq-Decides l (array_line a)).0 is) parts.0 parts.1 new
by_tests arrays base came i a l s true false same e is can h = cc
by_tests arrays base came i a l s false c same e is can h = cc

entry_step : (arrays : List ArrayLists) (base : List (List Num)) (came : List Bool) (i : ℕ) (o : Option ArrayLists) (l : List ℕ) (s : Reading)
    → counts base ≡ counts_of arrays → slice_get arrays i ≡ o → by_entry (at_opening base came) i l o ≡ Ok s → Step arrays base came Opening l s
unfolding opening
entry_step arrays base came i None l s same e h = cc
entry_step arrays base came i (Some a) l s same e h = by_tests arrays base came i a l s (bytes_eq l (array_line a)) (a.saved && is_open came i) same e refl refl h

place_step : (arrays : List ArrayLists) (base : List (List Num)) (came : List Bool) (o : Option ℕ) (l : List ℕ) (s : Reading)
    → counts base ≡ counts_of arrays → by_place arrays (at_opening base came) l o ≡ Ok s → Step arrays base came Opening l s
place_step arrays base came None l s same h = cc
place_step arrays base came (Some i) l s same h = entry_step arrays base came i (slice_get arrays i) l s same refl h

array_step : (arrays : List ArrayLists) (base : List (List Num)) (came : List Bool) (l : List ℕ) (s : Reading)
    → counts base ≡ counts_of arrays → array_read arrays (at_opening base came) l ≡ Ok s → Step arrays base came Opening l s
unfolding array_read
array_step arrays base came l s same h = place_step arrays base came (named arrays l) l s same h

opening_step : (arrays : List ArrayLists) (base : List (List Num)) (came : List Bool) (l : List ℕ) (s : Reading) (b c : Bool)
    → counts base ≡ counts_of arrays → bytes_eq l ending ≡ b → cond b (Ok (closed base came)) (cond c (array_read arrays (at_opening base came) l) (Err 50)) ≡ Ok s → Step arrays base came Opening l s
opening_step arrays base came l s true c same is h = let new : closed base came ≡ s = cc in end_step arrays base came l s ((bytes_eq-Decides l ending).0 is) new
opening_step arrays base came l s false true same is h = array_step arrays base came l s same h
opening_step arrays base came l s false false same is h = cc

-- ---- any line

due_step : (arrays : List ArrayLists) (base : List (List Num)) (came : List Bool) (due : Due) (l : List ℕ) (s : Reading)
    → counts base ≡ counts_of arrays → CellInside base due → by_due arrays (record { due = due; arrays = base; came = came }) l due ≡ Ok s → Step arrays base came due l s
due_step arrays base came Heading l s same inside h = heading_step arrays base came l s (bytes_eq l heading) refl h
due_step arrays base came Opening l s same inside h = opening_step arrays base came l s (bytes_eq l ending) (is_array_line l) same refl h
due_step arrays base came (Cell i place) l s same inside h =
    record { inside = cell_good base came i place (cell_of l) s inside h; says = cell_steps arrays base came i place l (cell_of l) s inside refl h }
due_step arrays base came Nothing l s same inside h = cc

line_step : (arrays : List ArrayLists) (r : Reading) (l : List ℕ) (s : Reading) → Good arrays r → line_read arrays r l ≡ Ok s → Step arrays r.arrays r.came r.due l s
unfolding line_read
line_step arrays r l s good h = due_step arrays r.arrays r.came r.due l s good.same good.inside h

still_same : (arrays : List ArrayLists) (r : Reading) (l : List ℕ) (s : Reading) → Good arrays r → line_read arrays r l ≡ Ok s → counts s.arrays ≡ counts_of arrays
still_same arrays r l s good h = subst (λ (o : Result Reading ℕ). IfOk o (λ (t : Reading). counts t.arrays ≡ counts r.arrays)) h (keeps_line arrays r l) ∙ good.same

pub stays_good : (arrays : List ArrayLists) (r : Reading) (l : List ℕ) (s : Reading) → Good arrays r → line_read arrays r l ≡ Ok s → Good arrays s
stays_good arrays r l s good h = record { same = still_same arrays r l s good h; inside = (line_step arrays r l s good h).inside }

-- ---- line after line

record GoesOn {A B : Type 0} (answer : Result A ℕ) (f : A → Result B DeckError) (b : B) : Type 0 where
  next : A
  is : answer ≡ Ok next
  then : f next ≡ Ok b

goes_on : {A B : Type 0} (n : ℕ) (answer : Result A ℕ) (f : A → Result B DeckError) (b : B) → go_on n answer f ≡ Ok b → GoesOn answer f b
goes_on n (Ok a) f b h = record { next = a; is = refl; then = h }
goes_on n (Err number) f b h = cc

at_end : (base after : List (List Num)) (rest : List ℕ) (e : DeckError) (b : Bool) → eqb (length rest) 0 ≡ b → cond b (Ok base) (Err e) ≡ Ok after → (rest ≡ []) × (after ≡ base)
at_end base after rest e true is h = let same : base ≡ after = cc in (nil_from_length rest (eqb-true (length rest) 0 is), sym same)
at_end base after rest e false is h = cc

ended_says : (arrays : List ArrayLists) (base : List (List Num)) (came : List Bool) (due : Due) (n : ℕ) (rest : List ℕ) (after : List (List Num))
    → ended (record { due = due; arrays = base; came = came }) n rest ≡ Ok after → SaysBy arrays base came rest after due
ended_says arrays base came Heading n rest after h = cc
ended_says arrays base came Opening n rest after h = cc
ended_says arrays base came (Cell i place) n rest after h = cc
ended_says arrays base came Nothing n rest after h = at_end base after rest (fault 50 n) (eqb (length rest) 0) refl h

told : (arrays : List ArrayLists) (r : Reading) (n : ℕ) (lines : List (List ℕ)) (rest : List ℕ) (after : List (List Num))
    → Good arrays r → read_from arrays r n lines rest ≡ Ok after → Says arrays r (uncut lines rest) after
told arrays r n [] rest after good h = ended_says arrays r.arrays r.came r.due n rest after h
told arrays r n (l ∷ lines) rest after good h =
    let go = goes_on n (line_read arrays r l) (λ (s : Reading). read_from arrays s (n + 1) lines rest) after h in
    let step = line_step arrays r l go.next good go.is in
    let next = told arrays go.next (n + 1) lines rest after (stays_good arrays r l go.next good go.is) go.then in
    subst (λ (text : List ℕ). Says arrays r text after) (sym (append_assoc (line l) (flat_map line lines) rest)) (step.says (uncut lines rest) after next)

-- ---- the whole text

pub first_good : (x : Image) → Fits x → Good x.lists.arrays (unread x)
first_good x fits = let first = first_fits x (first_kept x) refl fits in record { same = first.arrays; inside = tt }

is_deck_text : (x : Image) (text : List ℕ) (s : Kept) (answer : Result (List (List Num)) DeckError) → Fits x → read_text x.lists.arrays (unread x) 1 text ≡ answer → with_arrays x answer ≡ Ok s → IsDeckText x text s
is_deck_text x text s (Err e) fits is h = cc
is_deck_text x text s (Ok after) fits is h =
    let arrays = x.lists.arrays in
    let says : Headed arrays (first_kept x).arrays (unread x).came (uncut (cut text).lines (cut text).rest) after =
    told arrays (unread x) 1 (cut text).lines (cut text).rest after (first_good x fits) is in
    let t = says.then in
    let same : record { globals = (first_kept x).globals; arrays = after } ≡ s = cc in
    record {
      decks = t.decks;
      fit = t.fit;
      once = (distinct_once (unread x).came t.decks t.once).0;
      text_is =
          sym (uncut-cut text) ∙ (says.text_is ∙ (ap (λ (m : List ℕ). line heading ++ m) t.text_is ∙ sym (append_assoc (line heading) (flat_map (lines_of arrays) t.decks) (line ending))));
      globals = sym (ap (λ (k : Kept). k.globals) same);
      arrays = sym (ap (λ (k : Kept). k.arrays) same) ∙ t.after_is;
    }

pub read_is_deck_text : (x : Image) (text : List ℕ) (s : Kept) → Fits x → loaded x text ≡ Ok s → IsDeckText x text s
unfolding loaded
read_is_deck_text x text s fits h = is_deck_text x text s (read_text x.lists.arrays (unread x) 1 text) fits refl h
