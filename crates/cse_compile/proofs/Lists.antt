-- Lists of children, as trees have them.
use Rattle.std.proofs.Common.{◌≡◌, ◌≤◌, ◌<◌, ℕ, suc, ◌+◌, ◌-◌, Bool, true, false, if◌then◌else◌, List, [], ◌∷◌, ◌++◌, length, map, get_or, take, drop, refl, ap, ◌∙◌, arith, append_assoc}
use Rattle.std.specs.Prelude.{min}
use Rattle.std.proofs.lemmas.List.{take_rest}
use Rattle.cse_logic_tree.specs.declared.tree.Number as rust
use Rattle.cse_logic_tree.specs.Typed.{number, numbers}
use Rattle.cse_logic_tree.specs.declared.tree.Pick.{Pick}
use Rattle.cse_image_parts.specs.declared.instruction.Op.TheVariants as ops
use Rattle.cse_compile.specs.Wide.{Wide, with_a, pops}
use Rattle.cse_compile.specs.Expressions.{behind, count, can_fail, deepest, picks_size, present_size, number_of_item, row, picks_code}

pub count_is : (xs : List rust.Number) → count (numbers (map number xs)) ≡ length xs
count_is [] = refl
count_is (x ∷ xs) = let e = count_is xs in omega (arith, e)

pub behind_is : (xs : List rust.Number) → behind (numbers (map number xs)) ≡ length xs - 1
behind_is [] = refl
behind_is (x ∷ xs) = let e = count_is xs in omega (arith, e)

pub deepest_at_most : (xs : List Pick) → deepest xs ≤ picks_size xs
deepest_at_most [] = omega (arith)
deepest_at_most (x ∷ xs) = deepest_step x xs (can_fail xs) (deepest_at_most xs)
  where
    deepest_step : (x : Pick) (xs : List Pick) (fails : Bool) → deepest xs ≤ picks_size xs → (if fails then deepest xs + 1 else 0) ≤ picks_size (x ∷ xs)
    deepest_step x xs true h = omega (arith, h)
    deepest_step x xs false h = omega (arith, h)

pops_more : (n : ℕ) → pops (suc n) ≡ with_a ops.Pop 2 ∷ pops n
pops_more n = refl

pub pops_less : (n : ℕ) → 0 < n → pops n ≡ with_a ops.Pop 2 ∷ pops (n - 1)
pops_less n h = let e : n ≡ suc (n - 1) = omega (arith, h) in ap pops e ∙ pops_more (n - 1)

-- ---- the code of picks, from the first on

picks_step : (drops q : ℕ) (x : Pick) (xs : List Pick) (old mid with_row new : List Wide) (at deep : ℕ)
    → mid ≡ old ++ number_of_item q x.item
    → at ≡ q + present_size x.item
    → deep ≡ deepest (x ∷ xs)
    → with_row ≡ mid ++ row x (drops + deep) ∷ []
    → new ≡ with_row ++ picks_code drops (at + 1) xs
    → new ≡ old ++ picks_code drops q (x ∷ xs)
picks_step drops q x xs old mid with_row new at deep item_is at_is deep_is row_is rest_is =
    rest_is
    ∙ ap (λ l. l ++ picks_code drops (at + 1) xs) row_is
    ∙ append_assoc mid (row x (drops + deep) ∷ []) (picks_code drops (at + 1) xs)
    ∙ ap (λ l. l ++ (row x (drops + deep) ∷ picks_code drops (at + 1) xs)) item_is
    ∙ append_assoc old (number_of_item q x.item) (row x (drops + deep) ∷ picks_code drops (at + 1) xs)
    ∙ ap (λ n. old ++ (number_of_item q x.item ++ (row x (drops + n) ∷ picks_code drops (at + 1) xs))) deep_is
    ∙ ap (λ n. old ++ (number_of_item q x.item ++ (row x (drops + deepest (x ∷ xs)) ∷ picks_code drops (n + 1) xs))) at_is

pub picks_are : (drops q : ℕ) (xs : List Pick) (d : Pick) (old mid with_row new : List Wide) (at deep : ℕ)
    → 1 ≤ length xs
    → deepest xs ≤ 1000000
    → mid ≡ old ++ number_of_item q (get_or xs 0 d).item
    → at ≡ q + present_size (get_or xs 0 d).item
    → deep ≡ min (deepest xs) 1000001
    → with_row ≡ mid ++ row (get_or xs 0 d) (drops + deep) ∷ []
    → new ≡ with_row ++ picks_code drops (at + 1) (take (length xs - 1) (drop 1 xs))
    → new ≡ old ++ picks_code drops q xs
picks_are drops q [] d old mid with_row new at deep some least item_is at_is deep_is row_is rest_is = absurd (omega (arith, some))
picks_are drops q (x ∷ xs) d old mid with_row new at deep some least item_is at_is deep_is row_is rest_is =
    picks_step drops q x xs old mid with_row new at deep item_is at_is (omega (arith, least, deep_is)) row_is
    (rest_is ∙ ap (λ ys. with_row ++ picks_code drops (at + 1) ys) (take_rest (x ∷ xs) 1))
