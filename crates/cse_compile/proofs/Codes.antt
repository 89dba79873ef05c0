-- The code of nodes that hold others in a `Vec`.
use Rattle.std.proofs.Common.{◌≡◌, ℕ, ◌+◌, ◌<◌, ◌≤◌, List, ◌∷◌, ◌++◌, length, get_or, drop, ap, sym, subst, ◌∙◌, arith, append_assoc}
use Rattle.std.specs.Prelude.{min}
use Rattle.std.proofs.lemmas.List.{drop_more}
use Rattle.cse_syntax_tree.specs.declared.tree.Operator.{Operator}
use Rattle.cse_logic_tree.specs.Typed.{Number, Numbers, number_and, Operations, operation_and, Chain}
use Rattle.cse_compile.specs.Wide.{Wide}
use Rattle.cse_compile.specs.Setting.{Setting}
use Rattle.cse_compile.specs.Expressions.{number_size, number_code, numbers_size, indexes_size, operations_size, operations_code}

pub chain_code : (s : Setting) (q : ℕ) (x : Number) (xs : Operations) (old mid new : List Wide) (at : ℕ)
    → mid ≡ old ++ number_code s q x
    → at ≡ q + number_size x
    → new ≡ mid ++ operations_code s at xs
    → new ≡ old ++ number_code s q (Chain x xs)
unfolding number_code
chain_code s q x xs old mid new at first_is at_is others_are =
    others_are
    ∙ ap (λ l. l ++ operations_code s at xs) first_is
    ∙ append_assoc old (number_code s q x) (operations_code s at xs)
    ∙ ap (λ n. old ++ (number_code s q x ++ operations_code s n xs)) at_is

-- ---- one turn of a loop over a list: the element, and what is left

pub left_at : {X : Type 0} (xs ys : List X) (i : ℕ) (x : X) → ys ≡ xs → i < length ys → x ≡ get_or ys i x → drop i xs ≡ x ∷ drop (i + 1) xs
left_at {X} xs ys i x same inside x_is =
    let there : drop i ys ≡ x ∷ drop (i + 1) ys = drop_more ys i x inside ∙ ap (λ (y : X). y ∷ drop (i + 1) ys) (sym x_is) in
    subst (λ (zs : List X). drop i zs ≡ x ∷ drop (i + 1) zs) same there

-- ---- one turn of a loop that adds sizes: what is above a million is told as a million and one

pub numbers_size_told : (x : Number) (xs all : Numbers) (size one next whole : ℕ)
    → all ≡ number_and x xs
    → one ≡ min (number_size x) 1000001
    → next ≡ min (size + one) 1000001
    → min (size + numbers_size all) 1000001 ≡ whole
    → (next ≤ 1000001) × (min (next + numbers_size xs) 1000001 ≡ whole)
unfolding numbers_size
numbers_size_told x xs all size one next whole split one_is next_is whole_is =
    let e : numbers_size all ≡ number_size x + numbers_size xs = ap numbers_size split in
    (omega (arith, next_is), omega (arith, e, one_is, next_is, whole_is))

pub indexes_size_told : (x : Number) (xs all : Numbers) (size one index next whole : ℕ)
    → all ≡ number_and x xs
    → one ≡ min (number_size x) 1000001
    → index ≡ min (one + 1) 1000001
    → next ≡ min (size + index) 1000001
    → min (size + indexes_size all) 1000001 ≡ whole
    → (next ≤ 1000001) × (min (next + indexes_size xs) 1000001 ≡ whole)
unfolding indexes_size
indexes_size_told x xs all size one index next whole split one_is index_is next_is whole_is =
    let e : indexes_size all ≡ number_size x + (indexes_size xs + 1) = ap indexes_size split in
    (omega (arith, next_is), omega (arith, e, one_is, index_is, next_is, whole_is))

pub operations_size_told : (o : Operator) (x : Number) (xs all : Operations) (size one operation next whole : ℕ)
    → all ≡ operation_and o x xs
    → one ≡ min (number_size x) 1000001
    → operation ≡ min (one + 1) 1000001
    → next ≡ min (size + operation) 1000001
    → min (size + operations_size all) 1000001 ≡ whole
    → (next ≤ 1000001) × (min (next + operations_size xs) 1000001 ≡ whole)
unfolding operations_size
operations_size_told o x xs all size one operation next whole split one_is operation_is next_is whole_is =
    let e : operations_size all ≡ number_size x + (operations_size xs + 1) = ap operations_size split in
    (omega (arith, next_is), omega (arith, e, one_is, operation_is, next_is, whole_is))
