-- The sums over events, as a loop makes them, and by the bounds of the routines.
use Rattle.std.proofs.Common.{◌≡◌, ℕ, zero, suc, ◌+◌, ◌*◌, ◌<◌, ◌≤◌, List, [], ◌∷◌, length, take, get_or, Option, Some, None, refl, sym, ap, ◌∙◌, ⊎_elim, arith}
use Rattle.std.specs.Prelude.{sum_by, slice_index, IfSome, IfNone}
use Rattle.std.proofs.lemmas.Bool.{cases_lt}
use Rattle.std.specs.Option.{option_map_or}
use Rattle.std.proofs.lemmas.List.{get_or_past, length_push, get_or_append_left, get_or_push}
use Rattle.std.proofs.lemmas.List.Sums.{sum_by-take-le, sum_by_more}
use Rattle.std.proofs.lemmas.Option.{slice_get_past}
use Rattle.cse_lemmas.proofs.Lists.{sum_by_same}
use Rattle.cse_image_parts.specs.declared.entries.EventEntry.{EventEntry}
use Rattle.cse_image_parts.specs.Image.{Image, Lists, RoutineLists}
use Rattle.cse_code_typing.specs.Code.{part, start_of, code_of}
use Rattle.cse_code_typing.specs.Skeleton.{skeleton}
use Rattle.cse_verify.specs.Limit.{step_limit}
use Rattle.cse_verify.specs.Bound.{partial, bounds_below, bound, AreBoundedBelow}
use Rattle.cse_verify.specs.EventBound.{times_in_case, times_in_run, case_bound, run_bound}
use Rattle.cse_verify.specs.Running.{case_sum, run_sum}

-- ---- the table of bounds

pub length-bounds : (x : Image) (n : ℕ) → length (bounds_below x n) ≡ n
unfolding bounds_below
length-bounds x zero = refl
length-bounds x (suc n) = let ih = length-bounds x n in length_push (bounds_below x n) (bound x n) ∙ omega arith

pub bounds_at : (x : Image) (n r : ℕ) → r < n → get_or (bounds_below x n) r 0 ≡ bound x r
unfolding bounds_below
bounds_at x zero r lt = absurd (omega arith)
bounds_at x (suc n) r lt =
    let len = length-bounds x n in
    ⊎_elim
    (λ (l : r < n). get_or_append_left (bounds_below x n) (bound x n ∷ []) 0 r (omega arith) ∙ bounds_at x n r l)
    (λ (l : n ≤ r). let e : n ≡ r = omega arith in get_or_push (bounds_below x n) (bound x n) 0 r (omega arith) ∙ ap (bound x) e)
    (cases_lt r n)

-- each keeps to the limit
pub table_small : (x : Image) (n : ℕ) (bounds : List ℕ) → bounds ≡ bounds_below x n → AreBoundedBelow x n → (r : ℕ) → r < length bounds → get_or bounds r 0 ≤ step_limit
table_small x n bounds is bounded r lt =
    let within : r < n = let len = ap (λ (l : List ℕ). length l) is ∙ length-bounds x n in omega arith in
    let e = ap (λ (l : List ℕ). get_or l r 0) is ∙ bounds_at x n r within in
    let s = bounded r within in
    omega arith

-- a routine that isn't there has no places
bound_past : (x : Image) (r : ℕ) → length x.lists.routines ≤ r → bound x r ≡ 0
unfolding code_of partial
bound_past x r past =
    ap (λ (o : Option RoutineLists). let code = skeleton x.lists (part (start_of x.lists.routines r) (option_map_or (λ y. y.instructions) o 0) x.code) in partial (bounds_below x r) code (length code))
    (slice_get_past x.lists.routines r past)

-- the table tells the bound of each routine
pub bound_told : (x : Image) (bounds : List ℕ) (r : ℕ) → bounds ≡ bounds_below x (length x.lists.routines) → get_or bounds r 0 ≡ bound x r
bound_told x bounds r is =
    ap (λ (l : List ℕ). get_or l r 0) is
    ∙ ⊎_elim
    (λ (l : r < length x.lists.routines). bounds_at x (length x.lists.routines) r l)
    (λ (l : length x.lists.routines ≤ r).
    get_or_past (bounds_below x (length x.lists.routines)) r 0 (let n = length-bounds x (length x.lists.routines) in omega arith) ∙ sym (bound_past x r l))
    (cases_lt r (length x.lists.routines))

-- each keeps to the limit, those that aren't there too
pub bound_small : (x : Image) → AreBoundedBelow x (length x.lists.routines) → (r : ℕ) → bound x r ≤ step_limit
bound_small x bounded r =
    ⊎_elim
    (λ (l : r < length x.lists.routines). bounded r l)
    (λ (l : length x.lists.routines ≤ r). let none = bound_past x r l in omega arith)
    (cases_lt r (length x.lists.routines))

-- ---- sums

pub case_sum_is : (x : Image) (lists : Lists) (bounds : List ℕ) → lists ≡ x.lists → bounds ≡ bounds_below x (length x.lists.routines) → case_sum lists bounds ≡ case_bound x
case_sum_is x lists bounds same is =
    ap (λ (l : Lists). case_sum l bounds) same
    ∙ sum_by_same (λ e. times_in_case x.lists e.code e.index * get_or bounds e.routine 0) (λ e. times_in_case x.lists e.code e.index * bound x e.routine)
    (λ e. ap (λ n. times_in_case x.lists e.code e.index * n) (bound_told x bounds e.routine is)) x.lists.events

pub run_sum_is : (x : Image) (events : List EventEntry) (bounds : List ℕ) → events ≡ x.lists.events → bounds ≡ bounds_below x (length x.lists.routines) → run_sum events bounds ≡ run_bound x
run_sum_is x events bounds same is =
    ap (λ (l : List EventEntry). run_sum l bounds) same
    ∙ sum_by_same (λ e. times_in_run e.code * get_or bounds e.routine 0) (λ e. times_in_run e.code * bound x e.routine)
    (λ e. ap (λ n. times_in_run e.code * n) (bound_told x bounds e.routine is)) x.lists.events

-- a sum of the first terms that is above the limit
pub too_many : {X : Type 0} (f : X → ℕ) (xs : List X) (i total : ℕ) (d : X) → i < length xs → total ≡ sum_by f (take i xs) → step_limit < total + f (get_or xs i d) → step_limit < sum_by f xs
too_many f xs i total d lt is more =
    let next = sum_by_more f xs i d lt in
    let le = sum_by-take-le f xs (i + 1) in
    omega arith

-- an answer by a sum is one by an equal sum
pub some_same : (o : Option ℕ) (m n : ℕ) → m ≡ n → IfSome o (λ k. k ≡ m) → IfSome o (λ k. k ≡ n)
some_same None m n same h = tt
some_same (Some k) m n same h = h ∙ same

pub none_same : (o : Option ℕ) (m n : ℕ) → m ≡ n → IfNone o (step_limit < m) → IfNone o (step_limit < n)
none_same None m n same h = omega arith
none_same (Some k) m n same h = tt

pub case_too_many : (lists : Lists) (bounds : List ℕ) (events : List EventEntry) (i total times b : ℕ) (d : EventEntry) → events ≡ lists.events → i < length events → total ≡ sum_by (λ e. times_in_case lists e.code e.index * slice_index bounds e.routine) (take i events)
    → times ≡ times_in_case lists (get_or events i d).code (get_or events i d).index → b ≡ slice_index bounds (get_or events i d).routine → step_limit < total + times * b → step_limit < case_sum lists bounds
case_too_many lists bounds events i total times b d same lt is often cost more =
    let share : EventEntry → ℕ = λ e. times_in_case lists e.code e.index * slice_index bounds e.routine in
    let here : times * b ≡ share (get_or events i d) = cc in
    let k = too_many share events i total d lt is (omega arith) in
    let e = ap (sum_by share) same in
    omega arith

-- a sum of the first terms with the next one is no more than the whole
pub run_fits : (bounds : List ℕ) (events : List EventEntry) (i total times b : ℕ) (d : EventEntry) → i < length events → total ≡ sum_by (λ e. times_in_run e.code * slice_index bounds e.routine) (take i events)
    → times ≡ times_in_run (get_or events i d).code → b ≡ slice_index bounds (get_or events i d).routine → total + times * b ≤ run_sum events bounds
run_fits bounds events i total times b d lt is often cost =
    let share : EventEntry → ℕ = λ e. times_in_run e.code * slice_index bounds e.routine in
    let here : times * b ≡ share (get_or events i d) = cc in
    let next = sum_by_more share events i d lt in
    let le = sum_by-take-le share events (i + 1) in
    omega arith
