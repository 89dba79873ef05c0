-- The runs that are given of a file: each has a line, no line has a fault by itself, and only the first may stand at the front.
use Rattle.std.proofs.Common.{◌≡◌, ℕ, zero, suc, ◌+◌, ◌<◌, Bool, true, false, cond, eqb, List, [], ◌∷◌, ◌++◌, length, take, map, Option, Some, None, refl, ap, ◌∙◌, subst, arith, append_assoc, append-nil}
use Rattle.std.specs.Prelude.{filter}
use Rattle.std.specs.List.{flat_map, onto_first}
use Rattle.std.specs.Option.{option_map_or}
use Rattle.std.specs.Str.{bytes_eq}
use Rattle.cse_dict.specs.Dictionary.{DictionaryText}
use Rattle.cse_case.specs.Line.{FileLine, counts, flagged, lines_in, pieces_of}
use Rattle.cse_case.specs.Columns.{id_of}
use Rattle.cse_case.specs.Runs.{AreSound, all_but_last, fault_in, fault_of, first_fault, given_runs, given_before, given_of, line_fault, onto_run, or_later, place_after, runs_of}
use Rattle.cse_case.specs.Gathering.{StandsFrom, bytes_of}
use Rattle.cse_case.proofs.GatherLaws.{own_sound}

-- runs with lines, sound ones, of which the first stands at the front of the file or not
abbrev pub AreGood : Bool → List (List FileLine) → Type 0
AreGood front [] = Unit {0}
AreGood front (run ∷ runs) = (0 < length run) × AreSound run × StandsFrom front run × AreGood false runs

-- ---- cutting into runs

onto : (d : DictionaryText) (front : Bool) (line : FileLine) (runs : List (List FileLine)) → line.0 ≡ front → line_fault line ≡ None → AreGood false runs → AreGood front (onto_run d line runs)
onto d front line [] e s g = (omega arith, (s, tt), (e, tt), tt)
onto d front line ([] ∷ runs) e s g = let none = g.0 in absurd (omega arith)
onto d front line ((next ∷ run) ∷ runs) e s g = by_ids (bytes_eq (id_of d line) (id_of d next))
  where
    by_ids : (b : Bool) → AreGood front (cond b ((line ∷ next ∷ run) ∷ runs) ((line ∷ []) ∷ (next ∷ run) ∷ runs))
    by_ids true = (omega arith, (s, g.1), (e, g.2), g.3)
    by_ids false = (omega arith, (s, tt), (e, tt), g)

runs_good : (d : DictionaryText) (front : Bool) (lines : List FileLine) → AreSound lines → StandsFrom front lines → AreGood front (runs_of d lines)
runs_good d front [] s f = tt
runs_good d front (line ∷ lines) s f = onto d front line (runs_of d lines) f.0 s.0 (runs_good d false lines s.1 f.1)

but_last : (front : Bool) (runs : List (List FileLine)) → AreGood front runs → AreGood front (all_but_last runs)
but_last front [] g = tt
but_last front (run ∷ []) g = tt
but_last front (run ∷ next ∷ runs) g = (g.0, g.1, g.2, but_last false (next ∷ runs) g.3)

-- ---- before the first faulty line

none_later : (o : Option (ℕ × ℕ)) → or_later None o ≡ None → o ≡ None
none_later None e = refl
none_later (Some f) e = cc

sound_without : (d : DictionaryText) (id : List ℕ) (n : ℕ) (lines : List FileLine) → first_fault d id n lines ≡ None → AreSound lines
sound_without d id n [] e = tt
sound_without d id n (line ∷ lines) e = by_fault (λ f. sound_without d (id_of d line) (place_after d id n line) lines f) (fault_of (place_after d id n line) line) refl e
  where
    by_fault : (first_fault d (id_of d line) (place_after d id n line) lines ≡ None → AreSound lines) → (o : Option ℕ) → fault_of (place_after d id n line) line ≡ o
        → or_later o (first_fault d (id_of d line) (place_after d id n line) lines) ≡ None → AreSound (line ∷ lines)
    by_fault rest (Some f) is e = cc
    by_fault rest None is e = (own_sound (place_after d id n line) line is, rest (none_later (first_fault d (id_of d line) (place_after d id n line) lines) e))

sound_before : (d : DictionaryText) (id : List ℕ) (n : ℕ) (lines : List FileLine) (f : ℕ × ℕ) → first_fault d id n lines ≡ Some f → AreSound (take (f.0) lines)
sound_before d id n [] f e = cc
sound_before d id n (line ∷ lines) f e =
    by_fault (λ g h. sound_before d (id_of d line) (place_after d id n line) lines g h) (fault_of (place_after d id n line) line) refl e
  where
    later : ((g : ℕ × ℕ) → first_fault d (id_of d line) (place_after d id n line) lines ≡ Some g → AreSound (take (g.0) lines)) → fault_of (place_after d id n line) line ≡ None → (o : Option (ℕ × ℕ)) → first_fault d (id_of d line) (place_after d id n line) lines ≡ o → or_later None o ≡ Some f → AreSound (take (f.0) (line ∷ lines))
    later rest is None first e = cc
    later rest is (Some g) first e =
        let one : g.0 + 1 ≡ f.0 = ap (λ (o : Option (ℕ × ℕ)). option_map_or (λ x. x.0) o 0) e in
        let next : suc (g.0) ≡ f.0 = omega (arith, one) in
        subst (λ k. AreSound (take k (line ∷ lines))) next (own_sound (place_after d id n line) line is, rest g first)

    by_fault : ((g : ℕ × ℕ) → first_fault d (id_of d line) (place_after d id n line) lines ≡ Some g → AreSound (take (g.0) lines)) → (o : Option ℕ) → fault_of (place_after d id n line) line ≡ o → or_later o (first_fault d (id_of d line) (place_after d id n line) lines) ≡ Some f → AreSound (take (f.0) (line ∷ lines))
    by_fault rest (Some x) is e =
        let none : 0 ≡ f.0 = ap (λ (o : Option (ℕ × ℕ)). option_map_or (λ y. y.0) o 0) e in
        subst (λ k. AreSound (take k (line ∷ lines))) none tt
    by_fault rest None is e = later rest is (first_fault d (id_of d line) (place_after d id n line) lines) refl e

-- ---- where the lines stand

inside : (p : FileLine → Bool) (pieces : List (List ℕ)) → StandsFrom false (filter p (map (λ x. (false, x)) pieces))
inside p [] = tt
inside p (x ∷ xs) = by_test (inside p xs) (p (false, x))
  where
    by_test : StandsFrom false (filter p (map (λ y. (false, y)) xs)) → (b : Bool) → StandsFrom false (cond b ((false, x) ∷ filter p (map (λ y. (false, y)) xs)) (filter p (map (λ y. (false, y)) xs)))
    by_test rest true = (refl, rest)
    by_test rest false = rest

-- the first line that counts stands at the front, or none does
at_front : (p : FileLine → Bool) (front : Bool) (pieces : List (List ℕ)) → (f : Bool) × StandsFrom f (filter p (flagged front pieces))
at_front p front [] = (front, tt)
at_front p front (x ∷ xs) = by_test (p (front, x))
  where
    by_test : (b : Bool) → (f : Bool) × StandsFrom f (cond b ((front, x) ∷ filter p (map (λ y. (false, y)) xs)) (filter p (map (λ y. (false, y)) xs)))
    by_test true = (front, (refl, inside p xs))
    by_test false = (false, inside p xs)

stands_before : (k : ℕ) (front : Bool) (lines : List FileLine) → StandsFrom front lines → StandsFrom front (take k lines)
stands_before zero front lines s = tt
stands_before (suc k) front [] s = tt
stands_before (suc k) front (line ∷ lines) s = (s.0, stands_before k false lines s.1)

-- ---- the runs that are given

given_good : (d : DictionaryText) (ended front : Bool) (lines : List FileLine) → StandsFrom front lines → AreGood front (given_of d ended lines)
unfolding given_of
given_good d ended front lines s = by_fault (first_fault d [] 0 lines) refl ended
  where
    by_fault : (o : Option (ℕ × ℕ)) → first_fault d [] 0 lines ≡ o → (ended : Bool) → AreGood front (given_before d o ended lines)
    by_fault (Some f) e ended = but_last front (runs_of d (take (f.0) lines)) (runs_good d front (take (f.0) lines) (sound_before d [] 0 lines f e) (stands_before (f.0) front lines s))
    by_fault None e true = runs_good d front lines (sound_without d [] 0 lines e) s
    by_fault None e false = but_last front (runs_of d lines) (runs_good d front lines (sound_without d [] 0 lines e) s)

pub given_are_good : (d : DictionaryText) (ended : Bool) (bytes : List ℕ) → (front : Bool) × AreGood front (given_runs d true ended bytes)
unfolding lines_in
given_are_good d ended bytes =
    let s = at_front (counts ended) true (pieces_of bytes) in
    (s.0, given_good d ended (s.0) (filter (counts ended) (flagged true (pieces_of bytes))) (s.1))

-- ---- the runs of sound data that has ended are all of it

all_pass : (p : FileLine → Bool) → ((line : FileLine) → p line ≡ true) → (lines : List FileLine) → filter p lines ≡ lines
all_pass p f [] = refl
all_pass p f (line ∷ lines) = ap (λ b. cond b (line ∷ filter p lines) (filter p lines)) (f line) ∙ ap (λ l. line ∷ l) (all_pass p f lines)

bytes_of_onto : (b : ℕ) (pieces : List (List ℕ)) → flat_map (λ piece. piece) (onto_first b pieces) ≡ b ∷ flat_map (λ piece. piece) pieces
bytes_of_onto b [] = refl
bytes_of_onto b (piece ∷ pieces) = refl

bytes_of_pieces : (bytes : List ℕ) → flat_map (λ piece. piece) (pieces_of bytes) ≡ bytes
bytes_of_pieces [] = refl
bytes_of_pieces (b ∷ bs) = by_feed (bytes_of_pieces bs) (eqb b 10)
  where
    by_feed : flat_map (λ piece. piece) (pieces_of bs) ≡ bs → (feed : Bool) → flat_map (λ piece. piece) (cond feed ((b ∷ []) ∷ pieces_of bs) (onto_first b (pieces_of bs))) ≡ b ∷ bs
    by_feed rest true = ap (λ l. b ∷ l) rest
    by_feed rest false = bytes_of_onto b (pieces_of bs) ∙ ap (λ l. b ∷ l) rest

bytes_of_later : (pieces : List (List ℕ)) → bytes_of (map (λ piece. (false, piece)) pieces) ≡ flat_map (λ piece. piece) pieces
bytes_of_later [] = refl
bytes_of_later (piece ∷ pieces) = ap (λ l. piece ++ l) (bytes_of_later pieces)

bytes_of_flagged : (front : Bool) (pieces : List (List ℕ)) → bytes_of (flagged front pieces) ≡ flat_map (λ piece. piece) pieces
bytes_of_flagged front [] = refl
bytes_of_flagged front (piece ∷ pieces) = ap (λ l. piece ++ l) (bytes_of_later pieces)

bytes_of_onto_run : (d : DictionaryText) (line : FileLine) (runs : List (List FileLine)) → flat_map bytes_of (onto_run d line runs) ≡ line.1 ++ flat_map bytes_of runs
bytes_of_onto_run d line [] = ap (λ l. l ++ []) (append-nil (line.1))
bytes_of_onto_run d line ([] ∷ runs) = ap (λ l. l ++ flat_map bytes_of runs) (append-nil (line.1))
bytes_of_onto_run d line ((next ∷ run) ∷ runs) = by_ids (bytes_eq (id_of d line) (id_of d next))
  where
    by_ids : (b : Bool) → flat_map bytes_of (cond b ((line ∷ next ∷ run) ∷ runs) ((line ∷ []) ∷ (next ∷ run) ∷ runs)) ≡ line.1 ++ flat_map bytes_of ((next ∷ run) ∷ runs)
    by_ids true = append_assoc (line.1) (bytes_of (next ∷ run)) (flat_map bytes_of runs)
    by_ids false = ap (λ l. l ++ flat_map bytes_of ((next ∷ run) ∷ runs)) (append-nil (line.1))

bytes_of_runs : (d : DictionaryText) (lines : List FileLine) → flat_map bytes_of (runs_of d lines) ≡ bytes_of lines
bytes_of_runs d [] = refl
bytes_of_runs d (line ∷ lines) = bytes_of_onto_run d line (runs_of d lines) ∙ ap (λ l. line.1 ++ l) (bytes_of_runs d lines)

pub all_given : (d : DictionaryText) (bytes : List ℕ) → fault_in d true true bytes ≡ None → flat_map bytes_of (given_runs d true true bytes) ≡ bytes
unfolding given_of fault_in lines_in
all_given d bytes sound =
    let lines = filter (counts true) (flagged true (pieces_of bytes)) in
    ap (λ f. flat_map bytes_of (given_before d f true lines)) sound
    ∙ (bytes_of_runs d lines ∙ (ap bytes_of (all_pass (counts true) (λ line. refl) (flagged true (pieces_of bytes))) ∙ (bytes_of_flagged true (pieces_of bytes) ∙ bytes_of_pieces bytes)))
