-- Each deck text of a program is read, and gives what it says.
use Rattle.std.proofs.Common.{◌≡◌, ℕ, zero, suc, ◌+◌, ◌<◌, Bool, true, false, cond, List, [], ◌∷◌, ◌++◌, length, set, replicate, Option, Some, None, Result, Ok, Err, refl, ap, sym, ◌∙◌, append_assoc, arith}
use Rattle.std.specs.Prelude.{map, slice_get, ◌&&◌}
use Rattle.std.specs.List.{AllByRecursion, flat_map, slice_index_or}
use Rattle.std.specs.Option.{option_map_or}
use Rattle.std.specs.Str.{bytes_eq}
use Rattle.std.proofs.lemmas.Bool.{cond-true, cond-false, and_from}
use Rattle.std.proofs.lemmas.List.{set-get_or}
use Rattle.std.proofs.lemmas.Slice.Eq.{bytes_eq-Decides}
use Rattle.std.proofs.lemmas.Option.{slice_get_within}
use Rattle.cse_value.specs.declared.number.Num.{Num}
use Rattle.cse_image_parts.specs.Image.{Image, ArrayLists}
use Rattle.cse_image_parts.specs.Reader.{AllAfter}
use Rattle.cse_image.specs.Spelling.{ArrayFits, Fits}
use Rattle.cse_value.specs.Gathering.{line}
use Rattle.cse_decks.specs.declared.due.Due.{Due}
use Rattle.cse_decks.specs.declared.due.Due.TheVariants.{Opening, Nothing}
use Rattle.cse_decks.specs.declared.error.DeckError.{DeckError}
use Rattle.cse_decks.specs.declared.global.GlobalValue.{GlobalValue}
use Rattle.cse_decks.specs.Store.{Kept, cell_count, first_kept}
use Rattle.cse_decks.specs.Deck.{heading, ending, array_line, block, cell_line}
use Rattle.cse_decks.specs.DeckText.{HotDeck, IsDeckOfEntry, DeckFits, lines_of, with_decks, IsDeckText}
use Rattle.cse_decks.specs.Loading.{Reading, due_at, is_open, opening, marked, by_entry, by_place, is_array_line, array_read, line_read, go_on, read_text, unread, with_arrays, loaded}
use Rattle.cse_decks.proofs.ArrayLineLaws.{array_line_is, array_line_one, named_is, fits_at}
use Rattle.cse_decks.proofs.FillLaws.{cells_then}
use Rattle.cse_decks.proofs.LineLaws.{read_line}
use Rattle.cse_decks.proofs.LoadLaws.{counts}
use Rattle.cse_decks.proofs.OnceLaws.{Once, Open, once_distinct, open_first}
use Rattle.cse_decks.proofs.StoreLaws.{first_fits}

-- ---- the line of an array

abbrev pub at_opening : List (List Num) → List Bool → Reading
at_opening base came = record { due = Opening; arrays = base; came = came }

not_ending : (a : ArrayLists) → bytes_eq (array_line a) ending ≡ false
unfolding array_line
not_ending a = refl

abbrev begun : List (List Num) → List Bool → ℕ → Reading
begun base came i = record { due = due_at i 0 (length (slice_index_or base i [])); arrays = base; came = set came i true }

opening_is : (base : List (List Num)) (came : List Bool) (i : ℕ) (a : ArrayLists) → a.saved ≡ true → is_open came i ≡ true
    → opening base came i (array_line a) a ≡ Ok (due_at i 0 (length (slice_index_or base i [])))
unfolding opening
opening_is base came i a saved open_yet =
    let due : Result Due ℕ = Ok (due_at i 0 (length (slice_index_or base i []))) in
    let here : Result Due ℕ = cond (a.saved && is_open came i) due (Err 53) in
    cond-true (bytes_eq (array_line a) (array_line a)) here (Err 52) ((bytes_eq-Decides (array_line a) (array_line a)).1 refl)
    ∙ cond-true (a.saved && is_open came i) due (Err 53) (and_from a.saved (is_open came i) saved open_yet)

array_is_read : (arrays : List ArrayLists) (base : List (List Num)) (came : List Bool) (i : ℕ) (a : ArrayLists) → AllAfter ArrayFits [] arrays → slice_get arrays i ≡ Some a → a.saved ≡ true → is_open came i ≡ true
    → array_read arrays (at_opening base came) (array_line a) ≡ Ok (begun base came i)
unfolding array_read
array_is_read arrays base came i a fits e saved open_yet =
    let r = at_opening base came in
    ap (λ (o : Option ℕ). by_place arrays r (array_line a) o) (named_is arrays i a fits e)
    ∙ (ap (λ (o : Option ArrayLists). by_entry r i (array_line a) o) e ∙ ap (λ (o : Result Due ℕ). marked r i o) (opening_is base came i a saved open_yet))

line_is_read : (arrays : List ArrayLists) (base : List (List Num)) (came : List Bool) (i : ℕ) (a : ArrayLists) → AllAfter ArrayFits [] arrays → slice_get arrays i ≡ Some a → a.saved ≡ true → is_open came i ≡ true
    → line_read arrays (at_opening base came) (array_line a) ≡ Ok (begun base came i)
unfolding line_read
line_is_read arrays base came i a fits e saved open_yet =
    let r = at_opening base came in
    let done : Result Reading ℕ = Ok (record { due = Nothing; arrays = base; came = came }) in
    let front = fits_at [] arrays i a fits e in
    cond-false (bytes_eq (array_line a) ending) done (cond (is_array_line (array_line a)) (array_read arrays r (array_line a)) (Err 50)) (not_ending a)
    ∙ (cond-true (is_array_line (array_line a)) (array_read arrays r (array_line a)) (Err 50) (array_line_is front.0 a front.1)
    ∙ array_is_read arrays base came i a fits e saved open_yet)

-- ---- the arrays keep their numbers of cells

abbrev pub counts_of : List ArrayLists → List ℕ
counts_of arrays = map cell_count arrays

pub count_at : (base : List (List Num)) (arrays : List ArrayLists) (i : ℕ) (a : ArrayLists) → counts base ≡ counts_of arrays → slice_get arrays i ≡ Some a → (i < length base) × (length (slice_index_or base i []) ≡ cell_count a)
count_at [] [] i a h e = cc
count_at [] (x ∷ xs) i a h e = cc
count_at (cells ∷ base) [] i a h e = cc
count_at (cells ∷ base) (x ∷ xs) zero a h e = let same : x ≡ a = cc in let own : length cells ≡ cell_count x = cc in (omega arith, own ∙ ap cell_count same)
count_at (cells ∷ base) (x ∷ xs) (suc i) a h e =
    let more = count_at base xs i a (cc) e in (omega (arith, more.0), more.1)

pub counts-set : (base : List (List Num)) (i : ℕ) (cells : List Num) → length cells ≡ length (slice_index_or base i []) → counts (set base i cells) ≡ counts base
counts-set [] i cells h = refl
counts-set (c ∷ base) zero cells h = ap (λ n. n ∷ counts base) h
counts-set (c ∷ base) (suc i) cells h = ap (λ l. length c ∷ l) (counts-set base i cells h)

-- ---- one hot deck, and all of them

abbrev Answer : Type 0
Answer = Result (List (List Num)) DeckError

deck_of_entry : (arrays : List ArrayLists) (base : List (List Num)) (came : List Bool) (d : HotDeck) (o : Option ArrayLists) (n : ℕ) (more : List ℕ) (answer : Answer)
    → AllAfter ArrayFits [] arrays → counts base ≡ counts_of arrays → slice_get arrays d.array ≡ o → IsDeckOfEntry o d.cells → is_open came d.array ≡ true
    → ((m : ℕ) → counts (set base d.array d.cells) ≡ counts_of arrays → read_text arrays (at_opening (set base d.array d.cells) (set came d.array true)) m more ≡ answer)
    → read_text arrays (at_opening base came) n (option_map_or (λ (a : ArrayLists). block a d.cells) o [] ++ more) ≡ answer
unfolding block
deck_of_entry arrays base came d None n more answer fits same e h open_yet then = absurd h
deck_of_entry arrays base came d (Some a) n more answer fits same e h open_yet then =
    let i = d.array in
    let here = count_at base arrays i a same e in
    let before : List Num = slice_index_or base i [] in
    let cells = flat_map cell_line d.cells in
    let front = fits_at [] arrays i a fits e in
    let go : Reading → Answer = λ (t : Reading). read_text arrays t (n + 1) (cells ++ more) in
    let arrays_are : base ≡ set base i before = sym (set-get_or base i []) in
    ap (λ l. read_text arrays (at_opening base came) n l) (append_assoc (line (array_line a)) cells more)
    ∙ (read_line arrays (at_opening base came) n (array_line a) (cells ++ more) (array_line_one front.0 a front.1)
    ∙ (ap (λ (o : Result Reading ℕ). go_on n o go) (line_is_read arrays base came i a fits e h.saved open_yet)
    ∙ (ap (λ (l : List (List Num)). read_text arrays (record { due = due_at i 0 (length before); arrays = l; came = set came i true }) (n + 1) (cells ++ more)) arrays_are
    ∙ cells_then arrays base (set came i true) i [] before d.cells (n + 1) more answer here.0 (here.1 ∙ sym h.count) h.fit
    (λ m. then m (counts-set base i d.cells (h.count ∙ sym here.1) ∙ same)))))

pub end_is_read : (arrays : List ArrayLists) (base : List (List Num)) (came : List Bool) (n : ℕ) → read_text arrays (at_opening base came) n (line ending) ≡ Ok base
unfolding line_read
end_is_read arrays base came n = refl

decks_are_read : (arrays : List ArrayLists) (base : List (List Num)) (came : List Bool) (ds : List HotDeck) (n : ℕ)
    → AllAfter ArrayFits [] arrays → counts base ≡ counts_of arrays → AllByRecursion (DeckFits arrays) ds → Once came ds
    → read_text arrays (at_opening base came) n (flat_map (lines_of arrays) ds ++ line ending) ≡ Ok (with_decks base ds)
decks_are_read arrays base came [] n fits same each once = end_is_read arrays base came n
decks_are_read arrays base came (d ∷ ds) n fits same each once =
    let answer : Answer = Ok (with_decks (set base d.array d.cells) ds) in
    ap (λ l. read_text arrays (at_opening base came) n l) (append_assoc (lines_of arrays d) (flat_map (lines_of arrays) ds) (line ending))
    ∙ deck_of_entry arrays base came d (slice_get arrays d.array) n (flat_map (lines_of arrays) ds ++ line ending) answer fits same refl each.0 once.0
    (λ m still. decks_are_read arrays (set base d.array d.cells) (set came d.array true) ds m fits still each.1 once.1)

-- ---- the whole text

heading_is_read : (x : Image) → line_read x.lists.arrays (unread x) heading ≡ Ok (at_opening (first_kept x).arrays (unread x).came)
unfolding line_read
heading_is_read x = refl

is_entry : (o : Option ArrayLists) (cells : List Num) → IsDeckOfEntry o cells → (a : ArrayLists) × (o ≡ Some a)
is_entry None cells h = absurd h
is_entry (Some a) cells h = (a, refl)

all_open : (arrays : List ArrayLists) (ds : List HotDeck) → AllByRecursion (DeckFits arrays) ds → Open (replicate (length arrays) false) ds
all_open arrays [] h = tt
all_open arrays (d ∷ ds) h =
    let entry = is_entry (slice_get arrays d.array) d.cells h.0 in
    (open_first (length arrays) d.array (slice_get_within arrays d.array entry.0 entry.1), all_open arrays ds h.1)

abbrev kept_with : List GlobalValue → List (List Num) → Kept
kept_with globals arrays = record { globals = globals; arrays = arrays }

kept_of : (s : Kept) (globals : List GlobalValue) (arrays : List (List Num)) → s.globals ≡ globals → s.arrays ≡ arrays → kept_with globals arrays ≡ s
kept_of s globals arrays e f = ap (λ (l : List GlobalValue). kept_with l arrays) (sym e) ∙ ap (λ (l : List (List Num)). kept_with s.globals l) (sym f)

pub deck_text_is_read : (x : Image) (text : List ℕ) (s : Kept) → Fits x → IsDeckText x text s → loaded x text ≡ Ok s
unfolding loaded
deck_text_is_read x text s fits h =
    let arrays = x.lists.arrays in
    let base = (first_kept x).arrays in
    let came = replicate (length arrays) false in
    let first = first_fits x (first_kept x) refl fits in
    let body = flat_map (lines_of arrays) h.decks ++ line ending in
    let go : Reading → Answer = λ (t : Reading). read_text arrays t 2 body in
    let once = once_distinct came h.decks h.once (all_open arrays h.decks h.fit) in
    let is : text ≡ line heading ++ body = h.text_is ∙ append_assoc (line heading) (flat_map (lines_of arrays) h.decks) (line ending) in
    let read : read_text arrays (unread x) 1 text ≡ Ok (with_decks base h.decks) =
    ap (λ l. read_text arrays (unread x) 1 l) is
    ∙ (read_line arrays (unread x) 1 heading body (refl, (refl, (refl, (refl, (refl, (refl, (refl, (refl, (refl, (refl, (refl, (refl, tt))))))))))))
    ∙ (ap (λ (o : Result Reading ℕ). go_on 1 o go) (heading_is_read x)
    ∙ decks_are_read arrays base came h.decks 2 fits.lists.arrays.each first.arrays h.fit once)) in
    let kept = kept_of s (first_kept x).globals (with_decks base h.decks) h.globals h.arrays in
    ap (λ (o : Answer). with_arrays x o) read ∙ ap (λ (k : Kept). let o : Result Kept DeckError = Ok k in o) kept
