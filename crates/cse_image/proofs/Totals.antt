-- The instructions of routines that fit are at most 1,000,000 in all, and sums over entries.
use Rattle.std.proofs.Common.{◌≡◌, ℕ, ◌+◌, ◌≤◌, ◌<◌, leb, List, [], ◌∷◌, ◌++◌, map, refl, subst, arith}
use Rattle.std.specs.List.{sum_by, sum}
use Rattle.std.proofs.lemmas.Bool.{leb-true, and_parts}
use Rattle.std.proofs.lemmas.List.{append-nil}
use Rattle.std.proofs.lemmas.List.Sums.{sum_by_push, sum-map}
use Rattle.cse_image_parts.specs.declared.entries.Routine.{Routine}
use Rattle.cse_image_parts.specs.Image.{RoutineLists, routine_lists, Lists}
use Rattle.std.proofs.Common.{take, get_or, length}
use Rattle.std.proofs.lemmas.List.{take_more, map_push}
use Rattle.cse_image_parts.specs.Fields.{instructions_in, is_room_for_code}
use Rattle.cse_image_parts.specs.declared.version.Version.{Version}
use Rattle.cse_image_parts.specs.Reader.{AllAfter}
use Rattle.cse_image.specs.Spelling.{RoutineFits, ListsFit}
use Rattle.std.proofs.Common.{append_assoc, sym, true, ap, ◌∙◌}

after_small : (version : Version) (before xs : List RoutineLists) → instructions_in before ≤ 1000000 → AllAfter (λ before. RoutineFits version (instructions_in before)) before xs → instructions_in (before ++ xs) ≤ 1000000
after_small version before [] small h = rw append-nil small
after_small version before (x ∷ xs) small h =
    let p : (leb 1 x.instructions ≡ true) × (leb (instructions_in before + x.instructions) 1000000 ≡ true) = and_parts _ _ h.0.room in
    let step : instructions_in (before ++ x ∷ []) ≤ 1000000 = omega (arith, sum_by_push (λ r. r.instructions) before x, leb-true (instructions_in before + x.instructions) 1000000 p.1) in
    subst (λ (ys : List RoutineLists). instructions_in ys ≤ 1000000) (append_assoc before (x ∷ []) xs) (after_small version (before ++ x ∷ []) xs step h.1)

pub total_small : (version : Version) (x : Lists) → ListsFit version x → instructions_in x.routines ≤ 1000000
total_small version x fits = after_small version [] x.routines (omega arith) fits.routines.each

numbers : (xs : List Routine) → map (λ r. r.instructions) (map routine_lists xs) ≡ map (λ r. r.instructions) xs
numbers [] = refl
numbers (x ∷ xs) = ap (λ (ns : List ℕ). x.instructions ∷ ns) (numbers xs)

pub total_is : (xs : List Routine) → instructions_in (map routine_lists xs) ≡ sum_by (λ r. r.instructions) xs
total_is xs = sym (sum-map (λ r. r.instructions) (map routine_lists xs)) ∙ ap sum (numbers xs) ∙ sum-map (λ r. r.instructions) xs

pub room_left : (before n : ℕ) → is_room_for_code before n ≡ true → before + n ≤ 1000000
room_left before n e = let p : (leb 1 n ≡ true) × (leb (before + n) 1000000 ≡ true) = and_parts _ _ e in leb-true (before + n) 1000000 p.1

-- one entry more
pub sum_next : {X A : Type 0} (view : X → A) (f : A → ℕ) (xs : List X) (i : ℕ) (x : X) (so_far : ℕ) → i < length xs → x ≡ get_or xs i x → so_far ≡ sum_by f (map view (take i xs)) → so_far + f (view x) ≡ sum_by f (map view (take (i + 1) xs))
sum_next {X} view f xs i x so_far lt is e =
    let more : take (i + 1) xs ≡ take i xs ++ x ∷ [] = subst (λ (y : X). take (i + 1) xs ≡ take i xs ++ y ∷ []) (sym is) (take_more xs i x lt) in
    let all : map view (take (i + 1) xs) ≡ map view (take i xs) ++ view x ∷ [] = ap (map view) more ∙ map_push view (take i xs) x in
    rw (e, all) (sym (sum_by_push f (map view (take i xs)) (view x)))
