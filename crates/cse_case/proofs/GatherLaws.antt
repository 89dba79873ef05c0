-- What a reader knows of the lines that it has cut, line by line.
use Rattle.std.proofs.Common.{◌≡◌, ℕ, ◌+◌, ◌<◌, ◌≤◌, Bool, true, false, cond, eqb, ltb, List, [], ◌∷◌, ◌++◌, length, take, drop, map, refl, ap, sym, ◌∙◌, subst, arith, Some, None, Option, append_assoc, inl, inr, append-nil, length-drop, take-append-drop}
use Rattle.std.specs.Prelude.{◌&&◌, ◌||◌, ◌⊎◌}
use Rattle.std.specs.Option.{is_some}
use Rattle.std.proofs.lemmas.Bool.{eqb-true, ltb-true, false_from_ne_true}
use Rattle.std.proofs.lemmas.List.{length_push, length-map, map-append}
use Rattle.cse_lemmas.proofs.Booleans.{or-false}
use Rattle.cse_dict.specs.Dictionary.{DictionaryText}
use Rattle.cse_case.specs.Line.{FileLine, is_marked, lines_in}
use Rattle.cse_case.specs.Columns.{id_of, line_text}
use Rattle.cse_case.specs.NamedColumns.{least_width}
use Rattle.cse_case.specs.Cutting.{HasNoFeed, IsFirstLine}
use Rattle.cse_case.specs.Run.{RunText, begins_marked, line_at, run_text, with_line, written_run}
use Rattle.cse_case.specs.Runs.{AreSound, MayFollow, fault_in, fault_of, first_fault, given_of, later_by, line_fault, place_after}
use Rattle.cse_case.specs.Gathering.{Gathered, IsRunOf, StandsFrom, bytes_of, first_id, front_after}
use Rattle.cse_case.specs.Taking.{CutsPast, EndsRun, Gathers, GivesFirst, GoesOn, Refuses, RefusesAt, run_id}
use Rattle.cse_case.proofs.DecodeLaws.{short_line}
use Rattle.cse_case.proofs.TakeLaws.{id_of_is, least_fits}
use Rattle.cse_case.proofs.WrittenLaws.{written-run}
use Rattle.cse_case.proofs.RunLaws.{IsRunOf-push, first_fault-found, first_fault-run, given_of-fault, given_of-step, place-first}

pub own_sound : (place : ℕ) (line : FileLine) → fault_of place line ≡ None → line_fault line ≡ None
own_sound place line h = by_cases (line_fault line) (cond {A = Option ℕ} (ltb 10000 place) (Some 22) None) h
  where
    by_cases : (fault later : Option ℕ) → cond {A = Option ℕ} (is_some fault) fault later ≡ None → fault ≡ None
    by_cases None later h = refl
    by_cases (Some x) later h = h

fine_at : (place : ℕ) (line : FileLine) → line_fault line ≡ None → place ≤ 10000 → fault_of place line ≡ None
fine_at place line h low =
    let few : ltb 10000 place ≡ false = false_from_ne_true _ (λ e. let above : 10000 < place = ltb-true 10000 place e in absurd (omega arith)) in
    rw (h, few) refl

pub are_sound : (d : DictionaryText) (id : List ℕ) (n : ℕ) (lines : List FileLine) → IsRunOf d id n lines → AreSound lines
are_sound d id n [] h = tt
are_sound d id n (l ∷ ls) h = (own_sound (n + 1) l h.1, are_sound d id (n + 1) ls h.2)

pub bytes_of-push : (lines : List FileLine) (line : FileLine) → bytes_of (lines ++ line ∷ []) ≡ bytes_of lines ++ line.1
bytes_of-push [] line = append-nil (line.1)
bytes_of-push (l ∷ ls) line = ap (λ rest. l.1 ++ rest) (bytes_of-push ls line) ∙ sym (append_assoc (l.1) (bytes_of ls) (line.1))

begins_marked-push : (front : Bool) (done : List FileLine) (line : List ℕ)
    → begins_marked (done ++ (front_after front done, line) ∷ []) ≡ begins_marked done || is_marked (front_after front done, line)
begins_marked-push front [] line = refl
begins_marked-push front (x ∷ xs) line = sym (or-false (is_marked x))

run_text-push : (d : DictionaryText) (front : Bool) (number : ℕ) (done : List FileLine) (line : List ℕ)
    → with_line (run_text d number done) (is_marked (front_after front done, line)) (line_text d (front_after front done, line))
    ≡ run_text d number (done ++ (front_after front done, line) ∷ [])
run_text-push d front number done line =
    let l : FileLine = (front_after front done, line) in
    ap (λ ls. (let r : RunText = record { lines = ls; marked = begins_marked done || is_marked l; first_line = number } in r)) (sym (map-append (line_text d) done (l ∷ [])))
    ∙ ap (λ m. (let r : RunText = record { lines = map (line_text d) (done ++ l ∷ []); marked = m; first_line = number } in r)) (sym (begins_marked-push front done line))

front_after-push : (front : Bool) (done : List FileLine) (line : FileLine) → front_after front (done ++ line ∷ []) ≡ false
front_after-push front [] line = refl
front_after-push front (x ∷ xs) line = refl

pub front_after-some : (front : Bool) (done : List FileLine) → 0 < length done → front_after front done ≡ false
front_after-some front [] some = absurd (omega arith)
front_after-some front (x ∷ xs) some = refl

pub front_is : (front : Bool) (done : List FileLine) → front && eqb (length done) 0 ≡ front_after front done
front_is true [] = refl
front_is false [] = refl
front_is true (x ∷ xs) = false_from_ne_true (eqb (length (x ∷ xs)) 0) (λ e. let none : length (x ∷ xs) ≡ 0 = eqb-true (length (x ∷ xs)) 0 e in absurd (omega arith))
front_is false (x ∷ xs) = refl

front_after-inside : (done : List FileLine) → front_after false done ≡ false
front_after-inside [] = refl
front_after-inside (x ∷ xs) = refl

StandsFrom-push : (front b : Bool) (done : List FileLine) (line : List ℕ) → b ≡ front_after front done → StandsFrom front done → StandsFrom front (done ++ (b, line) ∷ [])
StandsFrom-push front b [] line e s = (e, tt)
StandsFrom-push front b (x ∷ xs) line e s = (s.0, StandsFrom-push false b xs line (e ∙ sym (front_after-inside xs)) s.1)

run_id-is : (d : DictionaryText) (number : ℕ) (done : List FileLine) → 0 < length done → run_id d (run_text d number done) ≡ first_id d done
run_id-is d number [] some = absurd (omega arith)
run_id-is d number (x ∷ xs) some = id_of_is d x

same-push : (d : DictionaryText) (done : List FileLine) (line : FileLine) → IsRunOf d (first_id d done) 0 done → (0 < length done → first_id d done ≡ id_of d line)
    → fault_of (length done + 1) line ≡ None → IsRunOf d (first_id d (done ++ line ∷ [])) 0 (done ++ line ∷ [])
same-push d [] line run same fine = (refl, fine, tt)
same-push d (x ∷ xs) line run same fine = IsRunOf-push d (id_of d x) 0 (x ∷ xs) line (length (x ∷ xs) + 1) run (sym (same (omega arith))) (omega arith) fine

fault-is : (d : DictionaryText) (number : ℕ) (done : List FileLine) (line : FileLine) (fault : ℕ)
    → fault_of (place_after d (run_id d (run_text d number done)) (length done) line) line ≡ Some fault → fault_of (place_after d (first_id d done) (length done) line) line ≡ Some fault
fault-is d number [] line fault h = rw place-first (rw place-first at h)
fault-is d number (x ∷ xs) line fault h = rw (← id_of_is d x) h

module _ (d : DictionaryText) (front ended : Bool) (number : ℕ) (run : RunText) (uncut : List ℕ) (g : Gathered d front ended number run uncut) where
  -- the bytes of the lines
  pub held_bytes : written_run run ≡ bytes_of g.done
  held_bytes = ap written_run g.is ∙ written-run d front number g.done (are_sound d (first_id d g.done) 0 g.done g.same) g.stands

  pub length-done : length run.lines ≡ length g.done
  length-done = ap (λ r. length r.lines) g.is ∙ length-map g.done (line_text d)

  pub run_id-done : 0 < length g.done → run_id d run ≡ first_id d g.done
  run_id-done some = ap (run_id d) g.is ∙ run_id-is d number g.done some

-- the bytes of a first line and the others
line_and_rest : (front ended : Bool) (uncut line : List ℕ) → IsFirstLine front ended uncut line → line ++ drop (length line) uncut ≡ uncut
line_and_rest front ended uncut line first = ap (λ x. x ++ drop (length line) uncut) first.part ∙ take-append-drop (length line) uncut

step : (d : DictionaryText) (ended : Bool) (id : List ℕ) (done : List FileLine) (next : FileLine) (lines : List FileLine) → IsRunOf d id 0 done → 0 < length done
    → (id_of d next ≡ id → ⊥) → fault_of 1 next ≡ None → given_of d ended (done ++ next ∷ lines) ≡ done ∷ given_of d ended (next ∷ lines)
step d ended id [] next lines run some other sound = absurd (omega arith)
step d ended id (l ∷ ls) next lines run some other sound = given_of-step d ended id l ls next lines run other sound

fault_step : (d : DictionaryText) (later front inside : Bool) (id : List ℕ) (done : List FileLine) (next : FileLine) (lines : List FileLine) (all back : List ℕ) → IsRunOf d id 0 done
    → (id_of d next ≡ id → ⊥) → lines_in front later all ≡ done ++ next ∷ lines → lines_in inside later back ≡ next ∷ lines
    → fault_in d front later all ≡ later_by (length done) (fault_in d inside later back)
unfolding fault_in
fault_step d later front inside id done next lines all back run other a b =
    ap (first_fault d [] 0) a ∙ first_fault-run d id done (next ∷ lines) run other ∙ ap (λ x. later_by (length done) (first_fault d [] 0 x)) (sym b)

past_from : (uncut begun line : List ℕ) (b ended : Bool) → IsFirstLine b ended uncut line → length (drop (length line) uncut) + length line ≡ length uncut
    → (uncut ≡ begun) ⊎ CutsPast begun uncut → CutsPast begun (drop (length line) uncut)
past_from uncut begun line b ended first shorter (inl same) n fits none =
    let reaches : n ≤ length line = first.reaches n (omega (arith, ap length same)) (subst (λ x. HasNoFeed (take n x)) (sym same) none) in
    omega (arith, ap length same)
past_from uncut begun line b ended first shorter (inr past) n fits none = omega (arith, past n fits none)

-- a line that goes on the run
module _ (d : DictionaryText) (front ended : Bool) (start : RunText) (begun : List ℕ) (old new : RunText) (uncut line : List ℕ) (h : Gathers d front ended start begun old uncut)
    (b : Bool) (at : b ≡ front_after front h.gathered.done) (first : IsFirstLine b ended uncut line) where
  count : length old.lines ≡ length h.gathered.done
  count = length-done d front ended old.first_line old uncut h.gathered

  shorter : length (drop (length line) uncut) + length line ≡ length uncut
  shorter = omega (arith, length-drop (length line) uncut, first.fits)

  -- what is left behind the line begins behind each front without a line feed
  cut_past : CutsPast begun (drop (length line) uncut)
  cut_past = past_from uncut begun line b ended first shorter h.past

  -- with a line more the bytes are the same
  more_bytes : (more : List ℕ) → bytes_of (h.gathered.done ++ (b, line) ∷ []) ++ (drop (length line) uncut ++ more) ≡ bytes_of h.gathered.done ++ (uncut ++ more)
  more_bytes more =
      let r = drop (length line) uncut in
      ap (λ x. x ++ (r ++ more)) (bytes_of-push h.gathered.done (b, line)) ∙ append_assoc (bytes_of h.gathered.done) line (r ++ more)
      ∙ ap (λ x. bytes_of h.gathered.done ++ x) (sym (append_assoc line r more) ∙ ap (λ u. u ++ more) (line_and_rest b ended uncut line first))

  more_lines : line_fault (b, line) ≡ None → (later : Bool) (more : List ℕ) → MayFollow ended later more
      → lines_in front later (bytes_of h.gathered.done ++ (uncut ++ more)) ≡ h.gathered.done ++ (b, line) ∷ lines_in false later (drop (length line) uncut ++ more)
  more_lines sound later more may =
      h.gathered.lines later more may ∙ ap (λ f. h.gathered.done ++ lines_in f later (uncut ++ more)) (sym at)
      ∙ ap (λ x. h.gathered.done ++ x) (first.goes_on (short_line (b, line) sound) later more may)

  pub Gathers-more : GoesOn d (b, line) old new → Gathers d front ended start begun new (drop (length line) uncut)
  Gathers-more on =
      let g = h.gathered in
      let r = drop (length line) uncut in
      let numbers : new.first_line ≡ old.first_line = ap (λ x. x.first_line) on.is in
      let is : new ≡ run_text d old.first_line (g.done ++ (b, line) ∷ []) =
      on.is ∙ ap (λ x. with_line x (is_marked (b, line)) (line_text d (b, line))) g.is
      ∙ subst (λ f. with_line (run_text d old.first_line g.done) (is_marked (f, line)) (line_text d (f, line)) ≡ run_text d old.first_line (g.done ++ (f, line) ∷ []))
      (sym at) (run_text-push d front old.first_line g.done line) in
      let same = same-push d g.done (b, line) g.same (λ some. sym (run_id-done d front ended old.first_line old uncut g some) ∙ on.same (omega (arith, count)))
      (fine_at (length g.done + 1) (b, line) on.sound (omega (arith, count, on.room))) in
      let stands = StandsFrom-push front b g.done line at g.stands in
      let now : Gathered d front ended new.first_line new r = record {
        done = g.done ++ (b, line) ∷ [];
        is = is ∙ ap (λ n. run_text d n (g.done ++ (b, line) ∷ [])) (sym numbers);
        same = same;
        few = omega (arith, length_push g.done (b, line), count, on.room);
        stands = stands;
        lines = λ later more may. ap (lines_in front later) (more_bytes more) ∙ more_lines on.sound later more may
            ∙ sym (append_assoc g.done ((b, line) ∷ []) (lines_in false later (r ++ more)))
            ∙ ap (λ f. (g.done ++ (b, line) ∷ []) ++ lines_in f later (r ++ more)) (sym (front_after-push front g.done (b, line)));
      } in
      let written : written_run new ≡ bytes_of (g.done ++ (b, line) ∷ []) =
      ap written_run is ∙ written-run d front old.first_line (g.done ++ (b, line) ∷ []) (are_sound d (first_id d (g.done ++ (b, line) ∷ [])) 0 (g.done ++ (b, line) ∷ []) same) stands in
      record {
        gathered = now;
        held = ap (λ x. x ++ r) written ∙ ap (λ x. bytes_of (g.done ++ (b, line) ∷ []) ++ x) (sym (append-nil r)) ∙ more_bytes []
            ∙ ap (λ x. bytes_of g.done ++ x) (append-nil uncut) ∙ ap (λ x. x ++ uncut) (sym (held_bytes d front ended old.first_line old uncut g)) ∙ h.held;
        first_line = numbers ∙ h.first_line;
        fewer = omega (arith, ap (λ x. length x.lines) on.is, length_push old.lines (line_text d (b, line)), h.fewer, shorter, first.some);
        past = inr cut_past;
      }

  -- and one that ends it
  pub GivesFirst-here : (run : RunText) → b ≡ false → EndsRun d (b, line) old new run → GivesFirst d front ended start begun new (drop (length line) uncut) run
  GivesFirst-here run inside e =
      let g = h.gathered in
      let r = drop (length line) uncut in
      let id = first_id d g.done in
      let some : 0 < length g.done = omega (arith, count, e.some) in
      let other : id_of d (b, line) ≡ id → ⊥ = λ same. e.other (run_id-done d front ended old.first_line old uncut g some ∙ sym same) in
      let fine : fault_of 1 (b, line) ≡ None = fine_at 1 (b, line) e.sound (omega arith) in
      let number : new.first_line ≡ old.first_line + length old.lines = ap (λ x. x.first_line) e.next in
      let own : written_run new ≡ line =
      ap written_run e.next ∙ written-run d b (old.first_line + length old.lines) ((b, line) ∷ []) (e.sound, tt) (refl, tt) ∙ append-nil line in
      let back : written_run new ++ r ≡ uncut = ap (λ x. x ++ r) own ∙ line_and_rest b ended uncut line first in
      let all : written_run start ++ begun ≡ bytes_of g.done ++ uncut = sym h.held ∙ ap (λ x. x ++ uncut) (held_bytes d front ended old.first_line old uncut g) in
      let front_lines : (later : Bool) (more : List ℕ) → MayFollow ended later more
      → lines_in front later ((written_run start ++ begun) ++ more) ≡ g.done ++ (b, line) ∷ lines_in false later (r ++ more) =
      λ later more may. ap (λ x. lines_in front later (x ++ more)) all ∙ ap (lines_in front later) (append_assoc (bytes_of g.done) uncut more) ∙ more_lines e.sound later more may in
      let back_lines : (later : Bool) (more : List ℕ) → MayFollow ended later more → lines_in false later ((written_run new ++ r) ++ more) ≡ (b, line) ∷ lines_in false later (r ++ more) =
      λ later more may. ap (λ x. lines_in false later (x ++ more)) back ∙ ap (λ f. lines_in f later (uncut ++ more)) (sym inside)
      ∙ first.goes_on (short_line (b, line) e.sound) later more may in
      record {
        gives = record {
          lines = g.done;
          some = some;
          sound = are_sound d id 0 g.done g.same;
          is = e.is ∙ g.is ∙ ap (λ n. run_text d n g.done) h.first_line;
          written = ap written_run e.is ∙ held_bytes d front ended old.first_line old uncut g;
          whole = sym h.held ∙ ap (λ x. x ++ uncut) (ap written_run (sym e.is)) ∙ ap (λ x. written_run run ++ x) (sym back);
          first = λ later more may. ap (given_of d later) (front_lines later more may) ∙ step d later id g.done (b, line) (lines_in false later (r ++ more)) g.same some other fine
              ∙ ap (λ x. g.done ∷ given_of d later x) (sym (back_lines later more may));
          fault = λ later more may. fault_step d later front false id g.done (b, line) (lines_in false later (r ++ more)) _ _ g.same other
              (front_lines later more may) (back_lines later more may);
        };
        gathered = record {
          done = (b, line) ∷ [];
          is = e.next ∙ ap (λ n. run_text d n ((b, line) ∷ [])) (sym number);
          same = (refl, fine, tt);
          few = omega arith;
          stands = (inside, tt);
          lines = λ later more may. ap (λ x. lines_in false later (x ++ (r ++ more))) (append-nil line) ∙ ap (lines_in false later) (sym (append_assoc line r more))
              ∙ ap (λ x. lines_in false later (x ++ more)) (line_and_rest b ended uncut line first) ∙ ap (λ f. lines_in f later (uncut ++ more)) (sym inside)
              ∙ first.goes_on (short_line (b, line) e.sound) later more may;
        };
        one = ap (λ x. length x.lines) e.next;
        first_line = number ∙ ap (λ n. n + length old.lines) h.first_line ∙ ap (λ x. start.first_line + length x.lines) (sym e.is);
        fewer = omega (arith, ap (λ x. length x.lines) e.is, ap (λ x. length x.lines) e.next, h.fewer, shorter, first.some);
        past = cut_past;
      }

  pub GivesFirst-found : (run : RunText) → EndsRun d (b, line) old new run → GivesFirst d front ended start begun new (drop (length line) uncut) run
  GivesFirst-found run e = GivesFirst-here run (at ∙ front_after-some front h.gathered.done (omega (arith, count, e.some))) e

  -- and a faulty one
  pub RefusesAt-found : (number : ℕ) → Refuses d (b, line) old new number → RefusesAt d front ended start begun new number
  unfolding fault_in
  RefusesAt-found number e =
      let g = h.gathered in
      let id = first_id d g.done in
      let lines = lines_in false ended (drop (length line) uncut) in
      let all : written_run start ++ begun ≡ bytes_of g.done ++ (uncut ++ []) =
      sym h.held ∙ ap (λ x. x ++ uncut) (held_bytes d front ended old.first_line old uncut g) ∙ ap (λ x. bytes_of g.done ++ x) (sym (append-nil uncut)) in
      let cut : lines_in front ended (written_run start ++ begun) ≡ g.done ++ (b, line) ∷ lines =
      ap (lines_in front ended) all ∙ g.lines ended [] (λ e. (e, refl)) ∙ ap (λ x. g.done ++ lines_in (front_after front g.done) ended x) (append-nil uncut)
      ∙ ap (λ f. g.done ++ lines_in f ended uncut) (sym at) ∙ ap (λ x. g.done ++ x) first.lines in
      let there : fault_of (place_after d id (length g.done) (b, line)) (b, line) ≡ Some number =
      fault-is d old.first_line g.done (b, line) number
      (ap (λ x. fault_of (place_after d (run_id d x) (length g.done) (b, line)) (b, line)) (sym g.is)
      ∙ ap (λ n. fault_of (place_after d (run_id d old) n (b, line)) (b, line)) (sym count) ∙ e.fault) in
      let place : length g.done ≡ length new.lines = sym count ∙ ap (λ x. length x.lines) (sym e.same) in
      record {
        fault = ap (first_fault d [] 0) cut ∙ first_fault-found d id g.done (b, line) lines number g.same there ∙ ap (λ k. Some (k, number)) place;
        none = ap (given_of d ended) cut ∙ given_of-fault d ended id g.done (b, line) lines number g.same there;
        few = omega (arith, ap (λ x. length x.lines) e.same, h.fewer);
        low = e.low;
      }

-- what is known before a line is cut
pub Gathers-none : (d : DictionaryText) (front ended : Bool) (run : RunText) (uncut : List ℕ) → Gathered d front ended run.first_line run uncut → Gathers d front ended run uncut run uncut
Gathers-none d front ended run uncut g = record { gathered = g; held = refl; first_line = refl; fewer = omega arith; past = inl refl }

-- the first line of a run is wide enough for the id columns
pub wide_line : (d : DictionaryText) (front ended : Bool) (number : ℕ) (run : RunText) (uncut : List ℕ) → Gathered d front ended number run uncut → 0 < length run.lines
    → least_width d ≤ length (line_at run 0).columns
wide_line d front ended number run uncut g some = rw g.is (by_cases g.done (omega (arith, length-done d front ended number run uncut g)))
  where
    by_cases : (done : List FileLine) → 0 < length done → least_width d ≤ length (line_at (run_text d number done) 0).columns
    by_cases [] some = absurd (omega arith)
    by_cases (x ∷ xs) some = least_fits d x

pub first_at : (b other ended : Bool) (bytes buffer line : List ℕ) → b ≡ other → bytes ≡ buffer → IsFirstLine b ended bytes line → IsFirstLine other ended buffer line
first_at b other ended bytes buffer line e f h = subst (λ x. IsFirstLine x ended buffer line) e (subst (λ x. IsFirstLine b ended x line) f h)

pub front_at : (d : DictionaryText) (front ended : Bool) (number : ℕ) (run : RunText) (uncut : List ℕ) (g : Gathered d front ended number run uncut) (b : Bool)
    → b ≡ front && eqb (length run.lines) 0 → b ≡ front_after front g.done
front_at d front ended number run uncut g b e = e ∙ ap (λ n. front && eqb n 0) (length-done d front ended number run uncut g) ∙ front_is front g.done

-- lines that were gathered after others
past_more : (begun uncut rest : List ℕ) → (uncut ≡ begun) ⊎ CutsPast begun uncut → (rest ≡ uncut) ⊎ CutsPast uncut rest → (rest ≡ begun) ⊎ CutsPast begun rest
past_more begun uncut rest (inl same) (inl last) = inl (last ∙ same)
past_more begun uncut rest (inl same) (inr past) = inr (subst (λ x. CutsPast x rest) same past)
past_more begun uncut rest (inr before) (inl last) = inr (subst (CutsPast begun) (sym last) before)
past_more begun uncut rest (inr before) (inr past) = inr (λ n fits none. (let no_more : length rest + 0 ≤ length uncut = past 0 (omega arith) (λ k h. absurd (omega arith)) in omega (arith, before n fits none)))

pub Gathers-trans : (d : DictionaryText) (front ended : Bool) (start : RunText) (begun : List ℕ) (old : RunText) (uncut : List ℕ) (new : RunText) (rest : List ℕ)
    → Gathers d front ended start begun old uncut → Gathers d front ended old uncut new rest → Gathers d front ended start begun new rest
Gathers-trans d front ended start begun old uncut new rest h k = record {
  gathered = k.gathered;
  held = k.held ∙ h.held;
  first_line = k.first_line ∙ h.first_line;
  fewer = omega (arith, h.fewer, k.fewer);
  past = past_more begun uncut rest h.past k.past;
}
