-- The line of a fault is the first faulty one: what was read before it can be made a deck text, and nothing
-- that follows it can.
use Rattle.std.proofs.Common.{◌≡◌, ℕ, ◌+◌, ◌-◌, ◌<◌, Bool, true, false, cond, eqb, List, [], ◌∷◌, ◌++◌, length, take, drop, set, replicate, Result, Ok, Err, pos, refl, ap, sym, ◌∙◌, subst, append_assoc, inl, inr, ⊎_elim, arith}
use Rattle.std.specs.Prelude.{◌⊎◌}
use Rattle.std.specs.List.{AllByRecursion, flat_map, slice_index_or}
use Rattle.std.proofs.lemmas.List.{take-append-drop, length-take-le, length-drop, length-replicate, set-get_or}
use Rattle.std.proofs.lemmas.List.Concat.{flat_map-append}
use Rattle.cse_lemmas.proofs.Lists.{within_from_row, AllByRecursion-front, AllByRecursion-back}
use Rattle.cse_value.specs.declared.number.Num.{Num}
use Rattle.cse_value.specs.declared.number.Num.TheVariants.{Whole}
use Rattle.cse_image_parts.specs.Image.{Image, ArrayLists}
use Rattle.cse_image.specs.Spelling.{Fits}
use Rattle.cse_value.specs.Gathering.{line}
use Rattle.cse_decks.specs.declared.due.Due.{Due}
use Rattle.cse_decks.specs.declared.due.Due.TheVariants.{Heading, Opening, Cell, Nothing}
use Rattle.cse_decks.specs.declared.error.DeckError.{DeckError}
use Rattle.cse_decks.specs.Store.{Kept, first_kept}
use Rattle.cse_decks.specs.Deck.{heading, ending, cell_line}
use Rattle.cse_decks.specs.DeckText.{IsDeckText}
use Rattle.cse_decks.specs.FirstFault.{IsLine, Begins, HasFaultyLine, LacksLine, FirstFault, TellsFirstFault}
use Rattle.cse_decks.specs.Inside.{CellInside}
use Rattle.cse_decks.specs.Loading.{Reading, Answers, due_at, line_read, go_on, fault, joined, cut, read_from, read_text, unread, with_arrays, loaded}
use Rattle.cse_decks.proofs.AcceptLaws.{at_opening, end_is_read, deck_text_is_read}
use Rattle.cse_decks.proofs.FillLaws.{due_inside, filling, cells_then}
use Rattle.cse_decks.proofs.LineLaws.{read_line, uncut-cut}
use Rattle.cse_decks.proofs.ToldLaws.{Good, stays_good, first_good, read_is_deck_text}
use Rattle.cse_decks.proofs.StoreLaws.{zeros_fit}

abbrev Answer : Type 0
Answer = Result (List (List Num)) DeckError

-- ---- what was read can be made a deck text

-- a text that completes the reading
record Completes (arrays : List ArrayLists) (r : Reading) : Type 0 where
  more : List ℕ
  after : List (List Num)
  reads : (n : ℕ) → read_text arrays r n more ≡ Ok after

abbrev reading : List (List Num) → List Bool → Due → Reading
reading base came due = record { due = due; arrays = base; came = came }

heading_read : (arrays : List ArrayLists) (base : List (List Num)) (came : List Bool) → line_read arrays (reading base came Heading) heading ≡ Ok (at_opening base came)
unfolding line_read
heading_read arrays base came = refl

completes_heading : (arrays : List ArrayLists) (base : List (List Num)) (came : List Bool) (n : ℕ) → read_text arrays (reading base came Heading) n (line heading ++ line ending) ≡ Ok base
completes_heading arrays base came n =
    let go : Reading → Answer = λ (t : Reading). read_text arrays t (n + 1) (line ending) in
    read_line arrays (reading base came Heading) n heading (line ending) (refl, (refl, (refl, (refl, (refl, (refl, (refl, (refl, (refl, (refl, (refl, (refl, tt))))))))))))
    ∙ (ap (λ (o : Result Reading ℕ). go_on n o go) (heading_read arrays base came) ∙ end_is_read arrays base came (n + 1))

completes_cell : (arrays : List ArrayLists) (base : List (List Num)) (came : List Bool) (i place : ℕ) → place < length (slice_index_or base i []) → Completes arrays (reading base came (Cell i place))
completes_cell arrays base came i place h =
    let cells : List Num = slice_index_or base i [] in
    let done : List Num = take place cells in
    let rest : List Num = drop place cells in
    let zeros : List Num = replicate (length cells - place) (Whole (pos 0)) in
    let all : done ++ rest ≡ cells = take-append-drop place cells in
    let there : length done ≡ place = length-take-le place cells (omega arith) in
    let long : length rest ≡ length zeros = length-drop place cells ∙ sym (length-replicate {A = Num} (length cells - place) (Whole (pos 0))) in
    let due : Cell i place ≡ due_at i (length done) (length (done ++ rest)) =
    sym (due_inside i place (length cells) h) ∙ (ap (λ m. due_at i m (length cells)) (sym there) ∙ ap (λ (l : List Num). due_at i (length done) (length l)) (sym all)) in
    let arrays_are : base ≡ set base i (done ++ rest) = sym (ap (λ (l : List Num). set base i l) all ∙ set-get_or base i []) in
    let same : reading base came (Cell i place) ≡ filling base came i done rest = ap (λ (d : Due). reading base came d) due ∙ ap (λ (l : List (List Num)). reading l came (due_at i (length done) (length (done ++ rest)))) arrays_are in
    let after : List (List Num) = set base i (done ++ zeros) in
    let answer : Answer = Ok after in
    record {
      more = flat_map cell_line zeros ++ line ending;
      after = after;
      reads = λ n. ap (λ (r : Reading). read_text arrays r n (flat_map cell_line zeros ++ line ending)) same
          ∙ cells_then arrays base came i done rest zeros n (line ending) answer (within_from_row base i place h) long (zeros_fit (length cells - place)) (λ m. end_is_read arrays after came m);
    }

completes : (arrays : List ArrayLists) (base : List (List Num)) (came : List Bool) (due : Due) → CellInside base due → Completes arrays (reading base came due)
completes arrays base came Heading h = record { more = line heading ++ line ending; after = base; reads = λ n. completes_heading arrays base came n }
completes arrays base came Opening h = record { more = line ending; after = base; reads = λ n. end_is_read arrays base came n }
completes arrays base came (Cell i place) h = completes_cell arrays base came i place h
completes arrays base came Nothing h = record { more = []; after = base; reads = λ n. refl }

-- ---- line after line, up to the fault

-- reading the lines leads from the one to the other
abbrev Reaches : List ArrayLists → Reading → List (List ℕ) → Reading → Type 0
Reaches arrays r [] s = r ≡ s
Reaches arrays r (l ∷ ls) s = (m : Reading) × ((line_read arrays r l ≡ Ok m) × Reaches arrays m ls s)

reaches_good : (arrays : List ArrayLists) (r s : Reading) (ls : List (List ℕ)) → Good arrays r → Reaches arrays r ls s → Good arrays s
reaches_good arrays r s [] good h = subst (λ (t : Reading). Good arrays t) h good
reaches_good arrays r s (l ∷ ls) good h = reaches_good arrays h.0 s ls (stays_good arrays r l h.0 good h.1.0) h.1.1

-- what holds of all that follows the lines holds of the lines with it
after_lines : (arrays : List ArrayLists) (r s : Reading) (ls : List (List ℕ)) (n : ℕ) (more : List ℕ) (P : Answer → Type 0)
    → AllByRecursion IsLine ls → Reaches arrays r ls s → ((m : ℕ) → P (read_text arrays s m more)) → P (read_text arrays r n (flat_map line ls ++ more))
after_lines arrays r s [] n more P are h then = subst (λ (t : Reading). P (read_text arrays t n more)) (sym h) (then n)
after_lines arrays r s (l ∷ ls) n more P are h then =
    let text = flat_map line ls ++ more in
    let go : Reading → Answer = λ (t : Reading). read_text arrays t (n + 1) text in
    let e : read_text arrays r n ((line l ++ flat_map line ls) ++ more) ≡ read_text arrays h.0 (n + 1) text =
    ap (λ m. read_text arrays r n m) (append_assoc (line l) (flat_map line ls) more)
    ∙ (read_line arrays r n l text are.0 ∙ ap (λ (o : Result Reading ℕ). go_on n o go) h.1.0) in
    subst P (sym e) (after_lines arrays h.0 s ls (n + 1) more P are.1 h.1.1 then)

-- the first of the lines is no line of the reading
record IsStuck (arrays : List ArrayLists) (last : Reading) (others : List (List ℕ)) : Type 0 where
  faulty : List ℕ
  more : List (List ℕ)
  code : ℕ
  is : others ≡ faulty ∷ more
  refused : line_read arrays last faulty ≡ Err code

-- the lines before a fault, and the line of the fault if it is there
record Stops (arrays : List ArrayLists) (r : Reading) (n : ℕ) (lines : List (List ℕ)) (e : DeckError) : Type 0 where
  before : List (List ℕ)
  others : List (List ℕ)
  lines_are : lines ≡ before ++ others
  last : Reading
  reaches : Reaches arrays r before last
  number : e.line ≡ n + length before
  stuck : (others ≡ []) ⊎ IsStuck arrays last others

stops_by : (arrays : List ArrayLists) (r : Reading) (n : ℕ) (l : List ℕ) (lines : List (List ℕ)) (rest : List ℕ) (e : DeckError) (answer : Result Reading ℕ) → line_read arrays r l ≡ answer
    → ((s : Reading) → read_from arrays s (n + 1) lines rest ≡ Err e → Stops arrays s (n + 1) lines e)
    → go_on n answer (λ (s : Reading). read_from arrays s (n + 1) lines rest) ≡ Err e → Stops arrays r n (l ∷ lines) e
stops_by arrays r n l lines rest e (Ok s) is more h =
    let t = more s h in
    record {
      before = l ∷ t.before;
      others = t.others;
      lines_are = ap (λ (m : List (List ℕ)). l ∷ m) t.lines_are;
      last = t.last;
      reaches = (s, (is, t.reaches));
      number = t.number ∙ omega arith;
      stuck = t.stuck;
    }
stops_by arrays r n l lines rest e (Err number) is more h =
    let same : fault number n ≡ e = cc in
    record {
      before = [];
      others = l ∷ lines;
      lines_are = refl;
      last = r;
      reaches = refl;
      number = sym (ap (λ (f : DeckError). f.line) same) ∙ omega arith;
      stuck = inr (record { faulty = l; more = lines; code = number; is = refl; refused = is });
    }

at_end : (base : List (List Num)) (number n : ℕ) (e : DeckError) (b : Bool) → cond b (Ok base) (Err (fault number n)) ≡ Err e → e.line ≡ n
at_end base number n e true h = cc
at_end base number n e false h = let same : fault number n ≡ e = cc in sym (ap (λ (f : DeckError). f.line) same)

stops : (arrays : List ArrayLists) (r : Reading) (n : ℕ) (lines : List (List ℕ)) (rest : List ℕ) (e : DeckError) → read_from arrays r n lines rest ≡ Err e → Stops arrays r n lines e
stops arrays r n [] rest e h = record {
  before = [];
  others = [];
  lines_are = refl;
  last = r;
  reaches = refl;
  number = at_end r.arrays _ n e _ h ∙ omega arith;
  stuck = inl refl;
}
stops arrays r n (l ∷ lines) rest e h = stops_by arrays r n l lines rest e (line_read arrays r l) refl (λ s k. stops arrays s (n + 1) lines rest e k) h

-- ---- lines that were cut have no LF

record AreLines (lines : List (List ℕ)) (rest : List ℕ) : Type 0 where
  each : AllByRecursion IsLine lines
  last : IsLine rest

lines_joined : (c : ℕ) (lines : List (List ℕ)) (rest : List ℕ) → eqb c 10 ≡ false → AreLines lines rest → AreLines (joined c lines rest).lines (joined c lines rest).rest
lines_joined c [] rest e h = record { each = tt; last = (e, h.last) }
lines_joined c (l ∷ ls) rest e h = record { each = ((e, h.each.0), h.each.1); last = h.last }

cut_by : (c : ℕ) (cs : List ℕ) (b : Bool) → eqb c 10 ≡ b → AreLines (cut cs).lines (cut cs).rest
    → AreLines (cond b (record { lines = [] ∷ (cut cs).lines; rest = (cut cs).rest }) (joined c (cut cs).lines (cut cs).rest)).lines (cond b (record { lines = [] ∷ (cut cs).lines; rest = (cut cs).rest }) (joined c (cut cs).lines (cut cs).rest)).rest
cut_by c cs true e h = record { each = (tt, h.each); last = h.last }
cut_by c cs false e h = lines_joined c (cut cs).lines (cut cs).rest e h

are_lines : (text : List ℕ) → AreLines (cut text).lines (cut text).rest
are_lines [] = record { each = tt; last = tt }
are_lines (c ∷ cs) = cut_by c cs (eqb c 10) refl (are_lines cs)

-- ---- the first fault

abbrev IsNoYes : Answer → Type 0
IsNoYes answer = (after : List (List Num)) → answer ≡ Ok after → ⊥

no_yes : (e : DeckError) → IsNoYes (Err e)
no_yes e after h = cc

loaded_reads : (x : Image) (text : List ℕ) (s : Kept) (answer : Answer) → read_text x.lists.arrays (unread x) 1 text ≡ answer → with_arrays x answer ≡ Ok s → IsNoYes (read_text x.lists.arrays (unread x) 1 text) → ⊥
loaded_reads x text s (Ok after) is h never = never after is
loaded_reads x text s (Err e) is h never = cc

none_of : (x : Image) (text : List ℕ) (s : Kept) → Fits x → IsNoYes (read_text x.lists.arrays (unread x) 1 text) → IsDeckText x text s → ⊥
unfolding loaded
none_of x text s fits never says = loaded_reads x text s (read_text x.lists.arrays (unread x) 1 text) refl (deck_text_is_read x text s fits says) never

begins_of : (x : Image) (before : List (List ℕ)) (last : Reading) → Fits x → AllByRecursion IsLine before → Reaches x.lists.arrays (unread x) before last → Begins x (flat_map line before)
unfolding loaded
begins_of x before last fits are reaches =
    let arrays = x.lists.arrays in
    let good = reaches_good arrays (unread x) last before (first_good x fits) reaches in
    let c = completes arrays last.arrays last.came last.due good.inside in
    let P : Answer → Type 0 = λ answer. answer ≡ Ok c.after in
    let reads = after_lines arrays (unread x) last before 1 c.more P are reaches c.reads in
    let s : Kept = record { globals = (first_kept x).globals; arrays = c.after } in
    record {
      more = c.more;
      store = s;
      is = read_is_deck_text x (flat_map line before ++ c.more) s fits (ap (λ (o : Answer). with_arrays x o) reads);
    }

none_with : (x : Image) (before : List (List ℕ)) (last : Reading) (l : List ℕ) (number : ℕ) → Fits x → AllByRecursion IsLine before → IsLine l → Reaches x.lists.arrays (unread x) before last
    → line_read x.lists.arrays last l ≡ Err number → Begins x (flat_map line before ++ line l) → ⊥
none_with x before last l number fits are is reaches stuck begins =
    let arrays = x.lists.arrays in
    let more = line l ++ begins.more in
    let go : ℕ → Reading → Answer = λ (m : ℕ) (t : Reading). read_text arrays t (m + 1) begins.more in
    let here : (m : ℕ) → IsNoYes (read_text arrays last m more) =
    λ m. subst IsNoYes (sym (read_line arrays last m l begins.more is ∙ ap (λ (o : Result Reading ℕ). go_on m o (go m)) stuck)) (no_yes (fault number m)) in
    let never = after_lines arrays (unread x) last before 1 more IsNoYes are reaches here in
    let text : (flat_map line before ++ line l) ++ begins.more ≡ flat_map line before ++ more = append_assoc (flat_map line before) (line l) begins.more in
    none_of x (flat_map line before ++ more) begins.store fits never (subst (λ (t : List ℕ). IsDeckText x t begins.store) text begins.is)

first_fault_by : (x : Image) (text : List ℕ) (e : DeckError) → Fits x → read_text x.lists.arrays (unread x) 1 text ≡ Err e → FirstFault x text e.line
first_fault_by x text e fits h =
    let arrays = x.lists.arrays in
    let lines = (cut text).lines in
    let rest = (cut text).rest in
    let all = are_lines text in
    let t = stops arrays (unread x) 1 lines rest e h in
    let each = subst (λ (m : List (List ℕ)). AllByRecursion IsLine m) t.lines_are all.each in
    let are = AllByRecursion-front IsLine t.before t.others each in
    let front = flat_map line t.before in
    let tail = flat_map line t.others ++ rest in
    let text_is : text ≡ front ++ tail =
    sym (uncut-cut text) ∙ (ap (λ (m : List (List ℕ)). flat_map line m ++ rest) t.lines_are
    ∙ (ap (λ (m : List ℕ). m ++ rest) (flat_map-append line t.before t.others) ∙ append_assoc front (flat_map line t.others) rest)) in
    let never : IsNoYes (read_text arrays (unread x) 1 text) = subst IsNoYes (sym h) (no_yes e) in
    let lacks : (t.others ≡ []) → HasFaultyLine x front tail ⊎ LacksLine x front tail =
    λ none.
    let end : tail ≡ rest = ap (λ (m : List (List ℕ)). flat_map line m ++ rest) none in
    inr (record {
      is_line = subst (λ (m : List ℕ). IsLine m) (sym end) all.last;
      none = λ s says. none_of x text s fits never (subst (λ (m : List ℕ). IsDeckText x m s) (sym text_is) says);
    }) in
    let has : IsStuck arrays t.last t.others → HasFaultyLine x front tail ⊎ LacksLine x front tail =
    λ stuck.
    let own = subst (λ (m : List (List ℕ)). AllByRecursion IsLine m) stuck.is (AllByRecursion-back IsLine t.before t.others each) in
    inl (record {
      faulty = stuck.faulty;
      more = flat_map line stuck.more ++ rest;
      is_line = own.0;
      rest_is = ap (λ (m : List (List ℕ)). flat_map line m ++ rest) stuck.is ∙ append_assoc (line stuck.faulty) (flat_map line stuck.more) rest;
      none = none_with x t.before t.last stuck.faulty stuck.code fits are own.0 t.reaches stuck.refused;
    }) in
    record {
      before = t.before;
      rest = tail;
      are_lines = are;
      text_is = text_is;
      number = t.number ∙ omega arith;
      begins = begins_of x t.before t.last fits are t.reaches;
      fault = ⊎_elim lacks has t.stuck;
    }

reads_err : (x : Image) (answer : Answer) (e : DeckError) → with_arrays x answer ≡ Err e → answer ≡ Err e
reads_err x (Ok after) e h = cc
reads_err x (Err f) e h = let same : f ≡ e = cc in ap (λ (g : DeckError). let o : Answer = Err g in o) same

pub first_fault : (x : Image) (text : List ℕ) (e : DeckError) → Fits x → loaded x text ≡ Err e → FirstFault x text e.line
unfolding loaded
first_fault x text e fits h = first_fault_by x text e fits (reads_err x (read_text x.lists.arrays (unread x) 1 text) e h)

pub tells_first_fault : (x : Image) (text : List ℕ) (answer : Result Kept DeckError) → Fits x → Answers (λ (k : Kept). k) answer (loaded x text) → TellsFirstFault x text answer
tells_first_fault x text (Ok s) fits h = tt
tells_first_fault x text (Err e) fits h = ⊎_elim (λ k. inl k) (λ k. inr (first_fault x text e fits k)) h
