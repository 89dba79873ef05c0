-- Laws of the runs of a list of lines.
use Rattle.std.proofs.Common.{◌≡◌, ℕ, suc, ◌+◌, Bool, true, false, cond, List, [], ◌∷◌, ◌++◌, length, take, refl, ap, sym, ◌∙◌, subst, arith, Some, None, Option, add-zero, zero-add, add-one, append-nil, add_assoc}
use Rattle.std.specs.Str.{bytes_eq}
use Rattle.std.proofs.lemmas.Slice.Eq.{bytes_eq-Decides}
use Rattle.std.proofs.Math.Seq.{take-append-add, take-append_seam}
use Rattle.std.proofs.lemmas.Bool.{false_from_ne_true}
use Rattle.cse_dict.specs.Dictionary.{DictionaryText}
use Rattle.cse_case.specs.Line.{FileLine, lines_in}
use Rattle.cse_case.specs.Columns.{id_of}
use Rattle.cse_case.specs.Gathering.{IsRunOf}
use Rattle.cse_case.specs.Runs.{fault_of, place_after, or_later, later_by, first_fault, onto_run, runs_of, all_but_last, given_before, given_of, given_runs, fault_in, MayFollow}

-- these lines don't go on a run of the id
abbrev pub Differs : DictionaryText → List ℕ → List FileLine → Type 0
Differs d id [] = Unit {0}
Differs d id (line ∷ lines) = id_of d line ≡ id → ⊥

same_id : (id : List ℕ) → bytes_eq id id ≡ true
same_id id = (bytes_eq-Decides id id).1 refl

other_id : (id other : List ℕ) → (other ≡ id → ⊥) → bytes_eq id other ≡ false
other_id id other h = false_from_ne_true _ (λ same. h (sym ((bytes_eq-Decides id other).0 same)))

pub place-same : (d : DictionaryText) (id : List ℕ) (n : ℕ) (line : FileLine) → id_of d line ≡ id → place_after d id n line ≡ n + 1
place-same d id n line same = rw (same, same_id id) refl

pub place-other : (d : DictionaryText) (id : List ℕ) (n : ℕ) (line : FileLine) → (id_of d line ≡ id → ⊥) → place_after d id n line ≡ 1
place-other d id n line other = rw (other_id id (id_of d line) other) refl

pub place-first : (d : DictionaryText) (id : List ℕ) (line : FileLine) → place_after d id 0 line ≡ 1
place-first d id line = elim (bytes_eq id (id_of d line)) as (λ b. cond b (0 + 1) 1 ≡ 1) [ true ↦ refl | false ↦ refl ]

-- one more line
pub IsRunOf-push : (d : DictionaryText) (id : List ℕ) (n : ℕ) (lines : List FileLine) (line : FileLine) (place : ℕ) → IsRunOf d id n lines → id_of d line ≡ id
    → place ≡ n + length lines + 1 → fault_of place line ≡ None → IsRunOf d id n (lines ++ line ∷ [])
IsRunOf-push d id n [] line place run same at sound =
    (same, subst (λ k. fault_of k line ≡ None) (omega arith) sound, tt)
IsRunOf-push d id n (l ∷ ls) line place run same at sound =
    (run.0, run.1, IsRunOf-push d id (n + 1) ls line place run.2 same (omega arith) sound)

pub later_by-zero : (fault : Option (ℕ × ℕ)) → later_by 0 fault ≡ fault
later_by-zero None = refl
later_by-zero (Some f) = rw zero-add refl

pub later_by-later_by : (a b : ℕ) (f : Option (ℕ × ℕ)) → later_by a (later_by b f) ≡ later_by (a + b) f
later_by-later_by a b None = refl
later_by-later_by a b (Some f) = ap (λ n. Some (n, f.1)) (sym (add_assoc a b (f.0)))

later_by-suc : (k : ℕ) (fault : Option (ℕ × ℕ)) → or_later None (later_by k fault) ≡ later_by (suc k) fault
later_by-suc k None = refl
later_by-suc k (Some f) = let e : k + f.0 + 1 ≡ suc k + f.0 = omega arith in ap (λ m. Some (m, f.1)) e

-- the first fault comes after the lines of a run
first_fault-more : (d : DictionaryText) (id : List ℕ) (n : ℕ) (run lines : List FileLine) → IsRunOf d id n run
    → first_fault d id n (run ++ lines) ≡ later_by (length run) (first_fault d id (n + length run) lines)
first_fault-more d id n [] lines h = rw add-zero (sym (later_by-zero (first_fault d id n lines)))
first_fault-more d id n (l ∷ ls) lines h =
    let place : place_after d id n l ≡ n + 1 = place-same d id n l h.0 in
    let on : n + 1 + length ls ≡ n + suc (length ls) = omega arith in
    let rest = first_fault-more d id (n + 1) ls lines h.2 in
    rw (place, h.1, h.0, rest, on) (later_by-suc (length ls) (first_fault d id (n + suc (length ls)) lines))

-- at a line of another id it counts afresh
first_fault-start : (d : DictionaryText) (id other : List ℕ) (lines : List FileLine) → first_fault d id 0 lines ≡ first_fault d other 0 lines
first_fault-start d id other [] = refl
first_fault-start d id other (l ∷ ls) = rw (place-first d id l, place-first d other l) refl

first_fault-afresh : (d : DictionaryText) (id : List ℕ) (n : ℕ) (lines : List FileLine) → Differs d id lines → first_fault d id n lines ≡ first_fault d [] 0 lines
first_fault-afresh d id n [] h = refl
first_fault-afresh d id n (l ∷ ls) h = rw (place-other d id n l h, place-first d [] l) refl

pub first_fault-run : (d : DictionaryText) (id : List ℕ) (run lines : List FileLine) → IsRunOf d id 0 run → Differs d id lines
    → first_fault d [] 0 (run ++ lines) ≡ later_by (length run) (first_fault d [] 0 lines)
first_fault-run d id run lines h o =
    first_fault-start d [] id (run ++ lines) ∙ first_fault-more d id 0 run lines h
    ∙ ap (later_by (length run)) (first_fault-afresh d id (0 + length run) lines o)

-- these runs begin with a run that begins with this line
record Begins (line : FileLine) (runs : List (List FileLine)) : Type 0 where
  run : List FileLine
  more : List (List FileLine)
  is : runs ≡ (line ∷ run) ∷ more

onto_run-begins : (d : DictionaryText) (line : FileLine) (runs : List (List FileLine)) → Begins line (onto_run d line runs)
onto_run-begins d line [] = record { run = []; more = []; is = refl }
onto_run-begins d line ([] ∷ runs) = record { run = []; more = runs; is = refl }
onto_run-begins d line ((next ∷ run) ∷ runs) =
    elim (bytes_eq (id_of d line) (id_of d next)) as (λ b. Begins line (cond b ((line ∷ next ∷ run) ∷ runs) ((line ∷ []) ∷ (next ∷ run) ∷ runs))) [
      | true ↦ record { run = next ∷ run; more = runs; is = refl }
      | false ↦ record { run = []; more = (next ∷ run) ∷ runs; is = refl }
    ]

-- a line of another id before the runs
onto_run-other : (d : DictionaryText) (line : FileLine) (lines : List FileLine) → Differs d (id_of d line) lines → onto_run d line (runs_of d lines) ≡ (line ∷ []) ∷ runs_of d lines
onto_run-other d line [] h = refl
onto_run-other d line (next ∷ lines) h =
    let b = onto_run-begins d next (runs_of d lines) in
    let e : bytes_eq (id_of d line) (id_of d next) ≡ false = other_id (id_of d line) (id_of d next) h in
    rw b.is (rw e refl)

-- a run and then lines of another id
runs_of-run : (d : DictionaryText) (id : List ℕ) (n : ℕ) (l : FileLine) (ls lines : List FileLine) → IsRunOf d id n (l ∷ ls) → Differs d id lines
    → runs_of d ((l ∷ ls) ++ lines) ≡ (l ∷ ls) ∷ runs_of d lines
runs_of-run d id n l [] lines h o = onto_run-other d l lines (rw h.0 o)
runs_of-run d id n l (m ∷ ls) lines h o =
    let rest = runs_of-run d id (n + 1) m ls lines h.2 o in
    let e : bytes_eq (id_of d l) (id_of d m) ≡ true = rw (h.0, h.2.0) (same_id id) in
    rw rest (rw e refl)

all_but_last-more : (d : DictionaryText) (run : List FileLine) (line : FileLine) (lines : List FileLine) → all_but_last (run ∷ runs_of d (line ∷ lines)) ≡ run ∷ all_but_last (runs_of d (line ∷ lines))
all_but_last-more d run line lines = let b = onto_run-begins d line (runs_of d lines) in rw b.is refl

-- what is given of a run and of a line of another id after it, wherever the fault after that line is
given_before-step : (d : DictionaryText) (run : List FileLine) (next : FileLine) (lines : List FileLine) → ((xs : List FileLine) → runs_of d (run ++ next ∷ xs) ≡ run ∷ runs_of d (next ∷ xs))
    → (fault : Option (ℕ × ℕ)) (ended : Bool)
    → given_before d (later_by (length run) (or_later None fault)) ended (run ++ next ∷ lines) ≡ run ∷ given_before d (or_later None fault) ended (next ∷ lines)
given_before-step d run next lines runs None true = runs lines
given_before-step d run next lines runs None false = rw (runs lines) (all_but_last-more d run next lines)
given_before-step d run next lines runs (Some g) ended =
    let cut = take-append-add run (next ∷ lines) (g.0 + 1) in
    rw (cut, add-one, runs (take (g.0) lines)) (all_but_last-more d run next (take (g.0) lines))

-- a run before a sound line of another id is given, and then what is given of the rest
pub given_of-step : (d : DictionaryText) (ended : Bool) (id : List ℕ) (l : FileLine) (ls : List FileLine) (next : FileLine) (lines : List FileLine) → IsRunOf d id 0 (l ∷ ls)
    → (id_of d next ≡ id → ⊥) → fault_of 1 next ≡ None
    → given_of d ended ((l ∷ ls) ++ next ∷ lines) ≡ (l ∷ ls) ∷ given_of d ended (next ∷ lines)
unfolding given_of
given_of-step d ended id l ls next lines h o sound =
    let runs : (xs : List FileLine) → runs_of d ((l ∷ ls) ++ next ∷ xs) ≡ (l ∷ ls) ∷ runs_of d (next ∷ xs) = λ xs. runs_of-run d id 0 l ls (next ∷ xs) h o in
    let fault = first_fault-run d id (l ∷ ls) (next ∷ lines) h o in
    let here : first_fault d [] 0 (next ∷ lines) ≡ or_later None (first_fault d (id_of d next) 1 lines) = rw (place-first d [] next, sound) refl in
    ap (λ f. given_before d f ended ((l ∷ ls) ++ next ∷ lines)) (fault ∙ ap (later_by (length (l ∷ ls))) here)
    ∙ given_before-step d (l ∷ ls) next lines runs (first_fault d (id_of d next) 1 lines) ended
    ∙ ap (λ f. (l ∷ ls) ∷ given_before d f ended (next ∷ lines)) (sym here)

-- no fault in a run alone
pub first_fault-none : (d : DictionaryText) (id : List ℕ) (run : List FileLine) → IsRunOf d id 0 run → first_fault d [] 0 run ≡ None
first_fault-none d id run h = ap (first_fault d [] 0) (sym (append-nil run)) ∙ first_fault-run d id run [] h tt

-- the run alone
runs_of-alone : (d : DictionaryText) (id : List ℕ) (l : FileLine) (ls : List FileLine) → IsRunOf d id 0 (l ∷ ls) → runs_of d (l ∷ ls) ≡ (l ∷ ls) ∷ []
runs_of-alone d id l ls h = ap (runs_of d) (sym (append-nil (l ∷ ls))) ∙ runs_of-run d id 0 l ls [] h tt

-- a run at the end is given
pub given_of-last : (d : DictionaryText) (id : List ℕ) (l : FileLine) (ls : List FileLine) → IsRunOf d id 0 (l ∷ ls) → given_of d true (l ∷ ls) ≡ (l ∷ ls) ∷ []
unfolding given_of
given_of-last d id l ls h = ap (λ f. given_before d f true (l ∷ ls)) (first_fault-none d id (l ∷ ls) h) ∙ runs_of-alone d id l ls h

nothing_else : (d : DictionaryText) (id : List ℕ) (run : List FileLine) → IsRunOf d id 0 run → all_but_last (runs_of d run) ≡ []
nothing_else d id [] h = refl
nothing_else d id (l ∷ ls) h = ap all_but_last (runs_of-alone d id l ls h)

-- a run that may go on isn't given
pub given_of-open : (d : DictionaryText) (id : List ℕ) (run : List FileLine) → IsRunOf d id 0 run → given_of d false run ≡ []
unfolding given_of
given_of-open d id run h = ap (λ f. given_before d f false run) (first_fault-none d id run h) ∙ nothing_else d id run h

-- the first fault after a run
pub first_fault-found : (d : DictionaryText) (id : List ℕ) (run : List FileLine) (bad : FileLine) (lines : List FileLine) (number : ℕ) → IsRunOf d id 0 run
    → fault_of (place_after d id (length run) bad) bad ≡ Some number → first_fault d [] 0 (run ++ bad ∷ lines) ≡ Some (length run, number)
first_fault-found d id run bad lines number h f =
    let more = first_fault-start d [] id (run ++ bad ∷ lines) ∙ first_fault-more d id 0 run (bad ∷ lines) h in
    let here : first_fault d id (0 + length run) (bad ∷ lines) ≡ Some (0, number) = rw (zero-add, f) refl in
    more ∙ ap (later_by (length run)) here ∙ rw add-zero refl

-- a run before a faulty line isn't given
pub given_of-fault : (d : DictionaryText) (ended : Bool) (id : List ℕ) (run : List FileLine) (bad : FileLine) (lines : List FileLine) (number : ℕ) → IsRunOf d id 0 run
    → fault_of (place_after d id (length run) bad) bad ≡ Some number → given_of d ended (run ++ bad ∷ lines) ≡ []
unfolding given_of
given_of-fault d ended id run bad lines number h f =
    ap (λ f. given_before d f ended (run ++ bad ∷ lines)) (first_fault-found d id run bad lines number h f)
    ∙ ap (λ xs. all_but_last (runs_of d xs)) (take-append_seam run (bad ∷ lines))
    ∙ nothing_else d id run h

-- nothing is given of nothing
pub given_of-nil : (d : DictionaryText) (ended : Bool) → given_of d ended [] ≡ []
unfolding given_of
given_of-nil d true = refl
given_of-nil d false = refl

pub nothing_given : (d : DictionaryText) (front : Bool) → given_runs d front true [] ≡ []
unfolding given_of lines_in
nothing_given d front = refl

pub nothing_faulty : (d : DictionaryText) (front : Bool) → fault_in d front true [] ≡ None
unfolding fault_in lines_in
nothing_faulty d front = refl

-- what may follow what was read may follow what was held
pub may_follow : (ended ended' later : Bool) (taken more : List ℕ) → (ended ≡ true → (taken ≡ []) × (ended' ≡ true)) → MayFollow ended' later more → MayFollow ended later (taken ++ more)
may_follow ended ended' later taken more stays h = λ e.
    let s = stays e in
    let f = h (s.1) in
    (f.0, ap (λ l. l ++ more) (s.0) ∙ f.1)
