-- The faults of a node that holds others in a `Vec`.
use Rattle.std.proofs.Common.{◌≡◌, ℕ, ◌+◌, ◌-◌, ◌<◌, get_or, drop, Bool, false, List, [], ◌∷◌, ◌++◌, length, map, refl, ap, sym, ◌∙◌, arith, append_assoc}
use Rattle.std.specs.Prelude.{◌==◌}
use Rattle.std.proofs.lemmas.List.{length-map}
use Rattle.std.specs.Global.{Vec}
use Rattle.cse_lemmas.proofs.Lists.{drop_read}
use Rattle.cse_syntax_tree.specs.declared.tree.Lexeme.{Lexeme}
use Rattle.cse_syntax_tree.specs.declared.tree.Operation as rustop
use Rattle.cse_syntax_tree.specs.declared.tree.Expression as rust
use Rattle.cse_syntax_tree.specs.declared.tree.ExpressionKind.TheVariants as e
use Rattle.cse_syntax_tree.specs.Tree as syntax
use Rattle.cse_syntax_tree.specs.Tree.{written, expr, expr_kind, exprs, operations, operation_tree}
use Rattle.cse_syntax_tree.proofs.Rows.{indexed_is, chain_is}
use Rattle.cse_logic_names.specs.Scope.{Scope, meant}
use Rattle.cse_syntax_tree.specs.First.{expr_token}
use Rattle.cse_logic_names.specs.WellTyped.{may_divide}
use Rattle.cse_logic_names.proofs.Walks.{is_none, none_left, step_left}
use Rattle.cse_logic_faults.specs.Faults.{Fault, unless, Counts, ANumber, sort_of, indexed_sort}
use Rattle.cse_logic_faults.specs.Operators.{operation_faults}
use Rattle.cse_logic_faults.specs.FaultsOfExpressions.{expr_faults, numbers_faults, number_faults, operations_faults, indexed_faults, count_of, is_end}

pub count_is : (xs : List syntax.Expr) → count_of (exprs xs) ≡ length xs
count_is [] = refl
count_is (x ∷ xs) = omega (arith, count_is xs)

pub values_count : (xs : List rust.Expression) → count_of (exprs (map expr xs)) ≡ length xs
values_count xs = count_is (map expr xs) ∙ length-map xs expr

pub indexed_sort_is : (s : Scope) (name : Lexeme) (arguments : Vec rust.Expression) → sort_of s (expr_kind (e.Indexed name arguments)) ≡ indexed_sort s (meant s (written name))
unfolding sort_of
indexed_sort_is s name arguments = refl

pub chain_sort_is : (s : Scope) (first : rust.Expression) (others : Vec rustop.Operation) → sort_of s (expr_kind (e.Chain first others)) ≡ ANumber
unfolding sort_of
chain_sort_is s first others = refl

pub indexed_found : (c : Counts) (s : Scope) (top : Bool) (name : Lexeme) (arguments : Vec rust.Expression)
    → expr_faults c s top (expr_kind (e.Indexed name arguments)) ≡ numbers_faults c s (exprs (map expr arguments.items)) ++ indexed_faults c s name.token (length arguments.items) (meant s (written name))
unfolding expr_faults
indexed_found c s top name arguments =
    ap (expr_faults c s top) (indexed_is name arguments)
    ∙ ap (λ n. numbers_faults c s (exprs (map expr arguments.items)) ++ indexed_faults c s name.token n (meant s (written name))) (values_count arguments.items)

pub chain_found : (c : Counts) (s : Scope) (top : Bool) (first : rust.Expression) (others : Vec rustop.Operation)
    → expr_faults c s top (expr_kind (e.Chain first others)) ≡ number_faults c s false (expr first) ++ operations_faults c s top (operations (map operation_tree others.items))
unfolding expr_faults
chain_found c s top first others = ap (expr_faults c s top) (chain_is first others)

pub numbers_more : (c : Counts) (s : Scope) (x : rust.Expression) (xs : List rust.Expression)
    → numbers_faults c s (exprs (map expr (x ∷ xs))) ≡ number_faults c s false (expr x) ++ numbers_faults c s (exprs (map expr xs))
unfolding numbers_faults
numbers_more c s x xs = refl

pub numbers_none : (c : Counts) (s : Scope) → numbers_faults c s (exprs []) ≡ []
unfolding numbers_faults
numbers_none c s = refl

end_of : (xs : List rustop.Operation) → is_end (operations (map operation_tree xs)) ≡ is_none xs
end_of [] = refl
end_of (x ∷ xs) = refl

operations_more : (c : Counts) (s : Scope) (top : Bool) (x : rustop.Operation) (xs : List rustop.Operation)
    → operations_faults c s top (operations (map operation_tree (x ∷ xs))) ≡ operation_faults c s top (operation_tree x) (is_none xs) ++ operations_faults c s top (operations (map operation_tree xs))
unfolding operations_faults
operations_more c s top x xs =
    sym (append_assoc (unless (may_divide top x.operator (is_end (operations (map operation_tree xs)))) 46 (expr_token (expr x.operand) - 1)) (number_faults c s false (expr x.operand)) (operations_faults c s top (operations (map operation_tree xs))))
    ∙ ap (λ b. (unless (may_divide top x.operator b) 46 (expr_token (expr x.operand) - 1) ++ number_faults c s false (expr x.operand)) ++ operations_faults c s top (operations (map operation_tree xs))) (end_of xs)

pub operations_end : (c : Counts) (s : Scope) (top : Bool) → operations_faults c s top (operations []) ≡ []
unfolding operations_faults
operations_end c s top = refl

-- one operator more, and how many are left
pub operations_turn : (c : Counts) (s : Scope) (top : Bool) (items : List rustop.Operation) (i : ℕ) (x : rustop.Operation) → i < length items → x ≡ get_or items i x
    → (g g' total : List Fault) (l k : ℕ) → g ++ operations_faults c s top (operations (map operation_tree (drop i items))) ≡ total → l + i ≡ length items → k ≡ l - 1
    → g' ≡ g ++ operation_faults c s top (operation_tree x) (k == 0)
    → (g' ++ operations_faults c s top (operations (map operation_tree (drop (i + 1) items))) ≡ total) × (k + (i + 1) ≡ length items)
operations_turn c s top items i x lt is g g' total l k inv left less e =
    let next = step_left l k i (length items) less left lt in
    let rest = operations_faults c s top (operations (map operation_tree (drop (i + 1) items))) in
    let own = operation_faults c s top (operation_tree x) in (
      ap (λ z. z ++ rest) (e ∙ ap (λ b. g ++ own b) (none_left items (i + 1) k next))
          ∙ append_assoc g (own (is_none (drop (i + 1) items))) rest
          ∙ ap (λ z. g ++ z) (sym (operations_more c s top x (drop (i + 1) items)))
          ∙ ap (λ z. g ++ operations_faults c s top (operations (map operation_tree z))) (sym (drop_read items i x lt is))
          ∙ inv,
      next,
    )
