-- Lists that are judged from the left.
use Rattle.std.specs.Prelude.{Bool, true, false, ◌&&◌, ◌==◌}
use Rattle.std.proofs.Common.{◌-◌, zero, ◌≤◌, ◌<◌, get_or, drop, ◌≡◌, ℕ, suc, ◌+◌, List, [], ◌∷◌, ◌++◌, length, map, Option, Some, None, refl, ap, sym, ◌∙◌, arith, option_map, append_assoc, is_some}
use Rattle.std.proofs.lemmas.Bool.{false≢true, eqb-true}
use Rattle.std.proofs.lemmas.List.{append-nil, drop_all, map_push}
use Rattle.cse_lemmas.proofs.Lists.{drop_read}
use Rattle.cse_logic_names.specs.Walk.{walk, so_far, found_more, joined, is_there}

more_found : {B : Type 0} (xs : List B) (y : B) (rest : Option (List B)) → option_map (λ ys. (xs ++ y ∷ []) ++ ys) rest ≡ option_map (λ ys. xs ++ ys) (joined (λ y ys. y ∷ ys) (Some y) rest)
more_found xs y None = refl
more_found xs y (Some rest) = ap Some (append_assoc xs (y ∷ []) rest)

-- one member more
pub turn_is : {B : Type 0} (b : Bool) (xs : List B) (y : Option B) (rest : Option (List B)) → so_far (b && is_there y) (found_more xs y) rest ≡ so_far b xs (joined (λ y ys. y ∷ ys) y rest)
turn_is true xs (Some y) rest = more_found xs y rest
turn_is true xs None rest = refl
turn_is false xs y rest = refl

-- the invariant of a loop, after one member
pub step_value : {A B : Type 0} (f : A → List A → Option B) (items : List A) (i : ℕ) (x : A) (b there : Bool) (xs xs' : List B) (y : Option B) (all : Option (List B))
    → i < length items → x ≡ get_or items i x → so_far b xs (walk f (drop i items)) ≡ all → y ≡ f x (drop (i + 1) items) → xs' ≡ found_more xs y → there ≡ is_there y
    → so_far (b && there) xs' (walk f (drop (i + 1) items)) ≡ all
step_value f items i x b there xs xs' y all lt is inv e g h =
    let rest = walk f (drop (i + 1) items) in
    ap (λ k. so_far (b && k) xs' rest) h
    ∙ ap (λ l. so_far (b && is_there y) l rest) g
    ∙ turn_is b xs y rest
    ∙ ap (λ z. so_far b xs (joined (λ y ys. y ∷ ys) z rest)) e
    ∙ ap (λ l. so_far b xs (walk f l)) (sym (drop_read items i x lt is))
    ∙ inv

pub end_is : {B : Type 0} (b : Bool) (xs : List B) (o : Option (List B)) → so_far b xs (Some []) ≡ o → (b ≡ true → o ≡ Some xs) × (b ≡ false → o ≡ None) × (is_there o ≡ b)
end_is true xs o e = (λ t. sym e ∙ ap Some (append-nil xs), λ t. absurd (false≢true (sym t)), ap is_there (sym e))
end_is false xs o e = (λ t. absurd (false≢true t), λ t. sym e, ap is_there (sym e))

-- that invariant at the end
pub at_end : {A B : Type 0} (f : A → List A → Option B) (items : List A) (i : ℕ) (b : Bool) (xs : List B) (all : Option (List B)) → length items ≤ i → so_far b xs (walk f (drop i items)) ≡ all
    → (b ≡ true → all ≡ Some xs) × (b ≡ false → all ≡ None) × (is_there all ≡ b)
at_end f items i b xs all le inv = end_is b xs all (sym (ap (λ l. so_far b xs (walk f l)) (drop_all i items le)) ∙ inv)

-- a walk that looks at each member alone, over members made of others
pub walk_made : {A B C : Type 0} (f : B → Option C) (g : A → B) (xs : List A) → walk (λ x rest. f x) (map g xs) ≡ walk (λ x rest. f (g x)) xs
walk_made f g [] = refl
walk_made f g (x ∷ xs) = ap (joined (λ y ys. y ∷ ys) (f (g x))) (walk_made f g xs)

pub there_map : {A B : Type 0} (g : A → B) (y : Option A) → is_there (option_map g y) ≡ is_there y
there_map g None = refl
there_map g (Some y) = refl

pub map_found : {A B : Type 0} (g : A → B) (xs : List A) (y : Option A) → map g (found_more xs y) ≡ found_more (map g xs) (option_map g y)
map_found g xs None = refl
map_found g xs (Some y) = map_push g xs y

-- the invariant of a loop that keeps what is made into members, after one of them
pub step_made : {A R B : Type 0} (f : A → List A → Option B) (g : R → B) (items : List A) (i : ℕ) (x : A) (b both there : Bool) (xs xs' : List R) (y : Option R) (all : Option (List B))
    → i < length items → x ≡ get_or items i x → so_far b (map g xs) (walk f (drop i items)) ≡ all → option_map g y ≡ f x (drop (i + 1) items) → xs' ≡ found_more xs y → there ≡ is_there y → both ≡ (b && there)
    → so_far both (map g xs') (walk f (drop (i + 1) items)) ≡ all
step_made f g items i x b both there xs xs' y all lt is inv e k h j =
    ap (λ c. so_far c (map g xs') (walk f (drop (i + 1) items))) j
    ∙ step_value f items i x b there (map g xs) (map g xs') (option_map g y) all lt is inv e (ap (map g) k ∙ map_found g xs y) (h ∙ sym (there_map g y))

abbrev pub is_none : {A : Type 0} → List A → Bool
is_none [] = true
is_none (x ∷ xs) = false

not_eqb : (m n : ℕ) → (m ≡ n → ⊥) → (m == n) ≡ false
not_eqb m n h = by (m == n) refl
  where
    by : (b : Bool) → (m == n) ≡ b → (m == n) ≡ false
    by true e = absurd (h (eqb-true m n e))
    by false e = e

-- nothing is left behind the last
pub none_left : {A : Type 0} (items : List A) (n left : ℕ) → left + n ≡ length items → (left == 0) ≡ is_none (drop n items)
none_left [] zero zero h = refl
none_left [] (suc n) zero h = refl
none_left [] zero (suc k) h = absurd (omega (arith, h))
none_left [] (suc n) (suc k) h = absurd (omega (arith, h))
none_left (x ∷ xs) zero zero h = absurd (omega (arith, h))
none_left (x ∷ xs) zero (suc k) h = not_eqb (suc k) 0 (λ e. absurd (omega (arith, e)))
none_left (x ∷ xs) (suc n) left h = none_left xs n left (omega (arith, h))

pub step_left : (l k i n : ℕ) → k ≡ l - 1 → l + i ≡ n → i < n → k + (i + 1) ≡ n
step_left l k i n e h lt = omega (arith, e, h, lt)

pub joined_there : {A B C : Type 0} (f : A → B → C) (a : Option A) (b : Option B) → is_there (joined f a b) ≡ true → (is_there a ≡ true) × (is_there b ≡ true)
joined_there f (Some x) (Some y) h = (refl, refl)
joined_there f (Some x) None h = absurd (false≢true h)
joined_there f None b h = absurd (false≢true h)

pub some_there : {A : Type 0} (o : Option A) → is_some o ≡ is_there o
some_there None = refl
some_there (Some x) = refl
