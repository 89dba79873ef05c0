-- Lists that are judged from the left, where each member gives so many messages, and the next is judged behind them.
use Rattle.std.specs.Prelude.{Bool, true, false, ◌&&◌}
use Rattle.std.proofs.Common.{◌≡◌, ℕ, ◌+◌, ◌<◌, ◌≤◌, get_or, drop, List, [], ◌∷◌, ◌++◌, length, map, Option, Some, None, ap, sym, ◌∙◌, option_map, append_assoc, length-append}
use Rattle.std.proofs.lemmas.List.{length-map, append-nil, drop_all}
use Rattle.cse_lemmas.proofs.Lists.{drop_read}
use Rattle.cse_types.specs.declared.told.Told.{Told}
use Rattle.cse_logic_names.specs.Walk.{so_far, found_more, joined, is_there}
use Rattle.cse_logic_names.proofs.Walks.{map_found, there_map, turn_is, end_is}

-- each member, where so many messages stand before it
abbrev pub walk_from : {A B : Type 0} → (ℕ → A → Option B) → (A → ℕ) → ℕ → List A → Option (List B)
walk_from f c n [] = Some []
walk_from f c n (x ∷ xs) = joined (λ y ys. y ∷ ys) (f n x) (walk_from f c (n + c x) xs)

-- what each member gives, in order
abbrev pub gathered : {A M : Type 0} → (A → List M) → List A → List M
gathered h [] = []
gathered h (x ∷ xs) = h x ++ gathered h xs

pub from_step : {A R B : Type 0} (f : ℕ → A → Option B) (c : A → ℕ) (g : R → B) (items : List A) (i n m : ℕ) (x : A) (b both there : Bool) (xs xs' : List R) (y : Option R) (all : Option (List B))
    → i < length items → x ≡ get_or items i x → so_far b (map g xs) (walk_from f c n (drop i items)) ≡ all → option_map g y ≡ f n x → m ≡ n + c x → xs' ≡ found_more xs y → there ≡ is_there y → both ≡ (b && there)
    → so_far both (map g xs') (walk_from f c m (drop (i + 1) items)) ≡ all
from_step f c g items i n m x b both there xs xs' y all lt is inv e more k h j =
    let rest = walk_from f c m (drop (i + 1) items) in
    ap (λ t. so_far t (map g xs') rest) (j ∙ ap (λ t. b && t) (h ∙ sym (there_map g y)))
    ∙ ap (λ l. so_far (b && is_there (option_map g y)) l rest) (ap (map g) k ∙ map_found g xs y)
    ∙ turn_is b (map g xs) (option_map g y) rest
    ∙ ap (λ z. so_far b (map g xs) (joined (λ y ys. y ∷ ys) z rest)) e
    ∙ ap (λ o. so_far b (map g xs) (joined (λ y ys. y ∷ ys) (f n x) (walk_from f c o (drop (i + 1) items)))) more
    ∙ ap (λ zs. so_far b (map g xs) (walk_from f c n zs)) (sym (drop_read items i x lt is))
    ∙ inv

pub from_end : {A B : Type 0} (f : ℕ → A → Option B) (c : A → ℕ) (items : List A) (i n : ℕ) (b : Bool) (xs : List B) (all : Option (List B)) → length items ≤ i → so_far b xs (walk_from f c n (drop i items)) ≡ all
    → (b ≡ true → all ≡ Some xs) × (b ≡ false → all ≡ None) × (is_there all ≡ b)
from_end f c items i n b xs all le inv = end_is b xs all (sym (ap (λ l. so_far b xs (walk_from f c n l)) (drop_all i items le)) ∙ inv)

pub told_step : {A M : Type 0} (h : A → List M) (items : List A) (i : ℕ) (x : A) (old new all : List M)
    → i < length items → x ≡ get_or items i x → old ++ gathered h (drop i items) ≡ all → new ≡ old ++ h x → new ++ gathered h (drop (i + 1) items) ≡ all
told_step h items i x old new all lt is inv e =
    ap (λ t. t ++ gathered h (drop (i + 1) items)) e
    ∙ append_assoc old (h x) (gathered h (drop (i + 1) items))
    ∙ ap (λ zs. old ++ gathered h zs) (sym (drop_read items i x lt is))
    ∙ inv

pub told_end : {A M : Type 0} (h : A → List M) (items : List A) (i : ℕ) (old all : List M) → length items ≤ i → old ++ gathered h (drop i items) ≡ all → old ≡ all
told_end h items i old all le inv = sym (append-nil old) ∙ ap (λ zs. old ++ gathered h zs) (sym (drop_all i items le)) ∙ inv

-- how many were told
pub told_count : {M : Type 0} (f : Told → M) (new old : List Told) (ms : List M) → map f new ≡ map f old ++ ms → length new ≡ length old + length ms
told_count f new old ms e =
    sym (length-map new f) ∙ ap length e ∙ length-append (map f old) ms ∙ ap (λ n. n + length ms) (length-map old f)
