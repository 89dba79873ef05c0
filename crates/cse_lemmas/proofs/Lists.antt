-- Lists: an element at a place, what is left behind a place, and what holds of each element.
use Rattle.std.proofs.Common.{◌≡◌, ℕ, zero, suc, ◌+◌, ◌<◌, Bool, true, false, cond, List, [], ◌∷◌, ◌++◌, length, map, reverse, take, drop, get_or, Some, IsSome, sum_by, refl, sym, ap, subst, ◌∙◌, arith, not, None, add-one, append_assoc, replicate, ◌-◌, ◌≤◌}
use Rattle.std.specs.Prelude.{slice_get, slice_index_or, position, nat_lt}
use Rattle.std.specs.List.{AllByRecursion, list_all, prefix_len, range_with_len, position_or_len}
use Rattle.std.proofs.lemmas.Bool.{and_from, and_parts}
use Rattle.std.proofs.lemmas.List.{drop_more, reverse-append, length-map, length_push, length-append, length-replicate}
use Rattle.std.proofs.lemmas.List.Folds.{list_all-append}
use Rattle.std.proofs.lemmas.List.Sums.{sum_by-cons}
use Rattle.std.proofs.lemmas.Option.{same_Some}

-- ---- an element at a place

-- within its length a list has an element
pub slice_get_some : {X : Type 0} (xs : List X) (i : ℕ) → i < length xs → (x : X) × (slice_get xs i ≡ Some x)
slice_get_some [] i h = absurd (omega arith)
slice_get_some (x ∷ xs) zero h = (x, refl)
slice_get_some (x ∷ xs) (suc i) h = slice_get_some xs i (omega arith)

-- where it has one is within its length
pub within_from_IsSome : {X : Type 0} (xs : List X) (i : ℕ) → IsSome (slice_get xs i) → i < length xs
within_from_IsSome [] zero h = (let f : false ≡ true = h in absurd cc)
within_from_IsSome [] (suc i) h = (let f : false ≡ true = h in absurd cc)
within_from_IsSome (x ∷ xs) zero h = omega arith
within_from_IsSome (x ∷ xs) (suc i) h = let n = within_from_IsSome xs i h in omega (arith, n)

pub within_from_row : {X : Type 0} (xss : List (List X)) (i k : ℕ) → k < length (slice_index_or xss i []) → i < length xss
within_from_row [] i k h = absurd (omega arith)
within_from_row (xs ∷ xss) zero k h = omega arith
within_from_row (xs ∷ xss) (suc i) k h = omega (arith, within_from_row xss i k h)

pub slice_get_at : {X : Type 0} (xs : List X) (y : X) (ys : List X) → slice_get (xs ++ y ∷ ys) (length xs) ≡ Some y
slice_get_at [] y ys = refl
slice_get_at (x ∷ xs) y ys = slice_get_at xs y ys

pub slice_get_push : {X : Type 0} (xs : List X) (y : X) (i : ℕ) → i ≡ length xs → slice_get (xs ++ y ∷ []) i ≡ Some y
slice_get_push xs y i e = ap (slice_get (xs ++ y ∷ [])) e ∙ slice_get_at xs y []

pub slice_get_push_below : {X : Type 0} (xs : List X) (y : X) (i : ℕ) → i < length xs → slice_get (xs ++ y ∷ []) i ≡ slice_get xs i
slice_get_push_below [] y i h = absurd (omega arith)
slice_get_push_below (x ∷ xs) y zero h = refl
slice_get_push_below (x ∷ xs) y (suc i) h = slice_get_push_below xs y i (omega arith)

pub slice_get_append_left : {X : Type 0} (xs ys : List X) (i : ℕ) (x : X) → slice_get xs i ≡ Some x → slice_get (xs ++ ys) i ≡ Some x
slice_get_append_left [] ys i x h = cc
slice_get_append_left (z ∷ xs) ys zero x h = h
slice_get_append_left (z ∷ xs) ys (suc i) x h = slice_get_append_left xs ys i x h

pub slice_get-append-add : {X : Type 0} (xs ys : List X) (i : ℕ) → slice_get (xs ++ ys) (length xs + i) ≡ slice_get ys i
slice_get-append-add [] ys i = ap (slice_get ys) (omega arith)
slice_get-append-add (x ∷ xs) ys i =
    let e : suc (length xs) + i ≡ suc (length xs + i) = omega arith in
    ap (slice_get (x ∷ xs ++ ys)) e ∙ slice_get-append-add xs ys i

pub slice_get-take : {X : Type 0} (n : ℕ) (xs : List X) (i : ℕ) → i < n → slice_get (take n xs) i ≡ slice_get xs i
slice_get-take zero xs i h = absurd (omega arith)
slice_get-take (suc n) [] i h = refl
slice_get-take (suc n) (x ∷ xs) zero h = refl
slice_get-take (suc n) (x ∷ xs) (suc i) h = slice_get-take n xs i (omega arith)

pub slice_get-range_with_len : (a n i : ℕ) → i < n → slice_get (range_with_len a n) i ≡ Some (a + i)
slice_get-range_with_len a zero i h = absurd (omega arith)
slice_get-range_with_len a (suc n) zero h = ap Some (omega arith)
slice_get-range_with_len a (suc n) (suc i) h = slice_get-range_with_len (a + 1) n i (omega arith) ∙ ap Some (omega arith)

-- the default is mapped along, so it may lie past the end
pub get_or-map_default : {X Y : Type 0} (f : X → Y) (xs : List X) (i : ℕ) (d : X) → get_or (map f xs) i (f d) ≡ f (get_or xs i d)
get_or-map_default f [] i d = refl
get_or-map_default f (x ∷ xs) zero d = refl
get_or-map_default f (x ∷ xs) (suc i) d = get_or-map_default f xs i d

-- ---- the first that passes

position_or_len-map : {X Y : Type 0} (f : X → Y) (test : Y → Bool) (xs : List X) → position_or_len test (map f xs) ≡ position_or_len (λ x. test (f x)) xs
position_or_len-map f test [] = refl
position_or_len-map f test (x ∷ xs) = ap (λ n. cond (not (test (f x))) (1 + n) 0) (position_or_len-map f test xs)

pub position-map : {X Y : Type 0} (f : X → Y) (test : Y → Bool) (xs : List X) → position test (map f xs) ≡ position (λ x. test (f x)) xs
position-map f test xs =
    ap (λ n. cond (nat_lt n (length (map f xs))) (Some n) None) (position_or_len-map f test xs)
    ∙ ap (λ m. cond (nat_lt (position_or_len (λ x. test (f x)) xs) m) (Some (position_or_len (λ x. test (f x)) xs)) None) (length-map xs f)

-- ---- what is left behind a place, and what stands before it

pub drop_some : {X : Type 0} (xs : List X) (i : ℕ) (x : X) → slice_get xs i ≡ Some x → drop i xs ≡ x ∷ drop (suc i) xs
drop_some [] i x h = cc
drop_some (y ∷ xs) zero x h = cc
drop_some (y ∷ xs) (suc i) x h = drop_some xs i x h

pub drop_read : {X : Type 0} (xs : List X) (i : ℕ) (x : X) → i < length xs → x ≡ get_or xs i x → drop i xs ≡ x ∷ drop (i + 1) xs
drop_read {X} xs i x lt is = drop_more xs i x lt ∙ ap (λ (y : X). y ∷ drop (i + 1) xs) (sym is)

pub take_some : {X : Type 0} (xs : List X) (i : ℕ) (x : X) → slice_get xs i ≡ Some x → take (i + 1) xs ≡ take i xs ++ x ∷ []
take_some [] i x h = absurd cc
take_some {X} (y ∷ xs) zero x h = let same : y ≡ x = cc in ap (λ (z : X). z ∷ []) same
take_some {X} (y ∷ xs) (suc i) x h = rw add-one (ap (λ (zs : List X). y ∷ zs) (rw add-one at (take_some xs i x h)))

-- the next element goes from the one list onto the other
pub reverse-append-cons : {X : Type 0} (x : X) (xs ys : List X) → reverse xs ++ (x ∷ ys) ≡ reverse (x ∷ xs) ++ ys
reverse-append-cons x xs ys = sym (ap (λ l. l ++ ys) (reverse-append (x ∷ []) xs) ∙ append_assoc (reverse xs) (x ∷ []) ys)

pub length_after_push : {X : Type 0} (xs ys : List X) (x : X) (n : ℕ) → length xs ≡ n → ys ≡ xs ++ x ∷ [] → length ys ≡ n + 1
length_after_push xs ys x n size e = let longer : length ys ≡ length xs + 1 = ap length e ∙ length_push xs x in omega (arith, longer, size)

pub length-padded : {X : Type 0} (n : ℕ) (xs : List X) (x : X) → length xs ≤ n → length (xs ++ replicate (n - length xs) x) ≡ n
length-padded n xs x h = omega (arith, length-append xs (replicate (n - length xs) x), length-replicate (n - length xs) x)

-- ---- what holds of each element

pub AllByRecursion-at : {X : Type 0} (P : X → Type 0) (xs : List X) (i : ℕ) (x : X) → AllByRecursion P xs → slice_get xs i ≡ Some x → P x
AllByRecursion-at P [] i x h e = cc
AllByRecursion-at P (y ∷ xs) zero x h e = subst P (same_Some _ _ e) h.0
AllByRecursion-at P (y ∷ xs) (suc i) x h e = AllByRecursion-at P xs i x h.1 e

pub AllByRecursion-append : {X : Type 0} (P : X → Type 0) (xs ys : List X) → AllByRecursion P xs → AllByRecursion P ys → AllByRecursion P (xs ++ ys)
AllByRecursion-append P [] ys h k = k
AllByRecursion-append P (x ∷ xs) ys h k = (h.0, AllByRecursion-append P xs ys h.1 k)

pub AllByRecursion-front : {X : Type 0} (P : X → Type 0) (xs ys : List X) → AllByRecursion P (xs ++ ys) → AllByRecursion P xs
AllByRecursion-front P [] ys h = tt
AllByRecursion-front P (x ∷ xs) ys h = (h.0, AllByRecursion-front P xs ys h.1)

pub AllByRecursion-back : {X : Type 0} (P : X → Type 0) (xs ys : List X) → AllByRecursion P (xs ++ ys) → AllByRecursion P ys
AllByRecursion-back P [] ys h = h
AllByRecursion-back P (x ∷ xs) ys h = AllByRecursion-back P xs ys h.1

pub AllByRecursion-map : {X Y : Type 0} (P : Y → Type 0) (f : X → Y) (xs : List X) → AllByRecursion (λ x. P (f x)) xs → AllByRecursion P (map f xs)
AllByRecursion-map P f [] h = tt
AllByRecursion-map P f (x ∷ xs) h = (h.0, AllByRecursion-map P f xs h.1)

pub AllByRecursion-weaker : {X : Type 0} (P Q : X → Type 0) → ((x : X) → P x → Q x) → (xs : List X) → AllByRecursion P xs → AllByRecursion Q xs
AllByRecursion-weaker P Q f [] h = tt
AllByRecursion-weaker P Q f (x ∷ xs) h = (f x h.0, AllByRecursion-weaker P Q f xs h.1)

pub sum_by_same : {X : Type 0} (f g : X → ℕ) → ((x : X) → f x ≡ g x) → (xs : List X) → sum_by f xs ≡ sum_by g xs
sum_by_same f g same [] = refl
sum_by_same f g same (x ∷ xs) = omega (arith, sum_by-cons f x xs, sum_by-cons g x xs, same x, sum_by_same f g same xs)

pub list_all-reverse : {X : Type 0} (p : X → Bool) (xs : List X) → list_all p xs ≡ true → list_all p (reverse xs) ≡ true
list_all-reverse p [] h = refl
list_all-reverse p (x ∷ xs) h =
    let parts = and_parts (p x) (list_all p xs) h in
    ap (list_all p) (reverse-append (x ∷ []) xs) ∙ list_all-append p (reverse xs) (x ∷ [])
    ∙ and_from (list_all p (reverse xs)) (list_all p (x ∷ [])) (list_all-reverse p xs parts.1) (and_from (p x) true parts.0 refl)

-- the front that passes a test passes it
pub list_all-prefix : {X : Type 0} (p : X → Bool) (xs : List X) → list_all p (take (prefix_len p xs) xs) ≡ true
list_all-prefix p [] = refl
list_all-prefix {X} p (x ∷ xs) =
    let s : 1 + prefix_len p xs ≡ suc (prefix_len p xs) = omega arith in
    let by : (b : Bool) → p x ≡ b → list_all p (take (cond b (1 + prefix_len p xs) 0) (x ∷ xs)) ≡ true = λ b. elim b as (λ b. p x ≡ b → list_all p (take (cond b (1 + prefix_len p xs) 0) (x ∷ xs)) ≡ true) [
      | true ↦ λ h. subst (λ (n : ℕ). list_all p (take n (x ∷ xs)) ≡ true) (sym s) (rw h (list_all-prefix p xs))
      | false ↦ λ h. refl
    ] in by (p x) refl
