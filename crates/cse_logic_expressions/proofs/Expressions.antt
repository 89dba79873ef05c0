-- What a node of an expression that holds others is judged to be.
use Rattle.std.proofs.Common.{◌≡◌, ℕ, ◌≤◌, Bool, true, false, List, [], ◌∷◌, length, map, Option, Some, None, refl, ap, ◌∙◌, arith}
use Rattle.std.specs.Prelude.{option_map}
use Rattle.std.proofs.lemmas.Bool.{leb-true, and_parts}
use Rattle.std.specs.Global.{Vec}
use Rattle.cse_syntax_tree.specs.declared.tree.Lexeme.{Lexeme}
use Rattle.cse_syntax_tree.specs.declared.tree.Operator.{Operator}
use Rattle.cse_syntax_tree.specs.declared.tree.Operation as rustop
use Rattle.cse_syntax_tree.specs.declared.tree.Expression as rust
use Rattle.cse_syntax_tree.specs.declared.tree.ExpressionKind.TheVariants as e
use Rattle.cse_syntax_tree.specs.Leaf.{is_within, is_digits, number_of, MOST}
use Rattle.cse_syntax_tree.specs.Tree as syntax
use Rattle.cse_syntax_tree.specs.Tree.{written, expr, expr_kind, exprs, operation_tree}
use Rattle.cse_syntax_tree.proofs.Rows.{indexed_is, chain_is}
use Rattle.cse_logic_tree.specs.Typed as typed
use Rattle.cse_logic_names.specs.Scope.{Scope, meant}
use Rattle.cse_logic_names.specs.WellTyped.{may_divide}
use Rattle.cse_logic_expressions.specs.Judge.{AsNumber, as_number, expr_count, indexed, is_end, judge, judge_all, judge_operation, judge_operations}
use Rattle.cse_logic_names.specs.Walk.{joined, only_if, walk}
use Rattle.cse_logic_names.proofs.Walks.{walk_made, is_none}

pub count_is : (xs : List syntax.Expr) → expr_count (exprs xs) ≡ length xs
count_is [] = refl
count_is (x ∷ xs) = omega (arith, count_is xs)

pub indexed_judged : (s : Scope) (top : Bool) (name : Lexeme) (arguments : Vec rust.Expression)
    → judge s top (expr_kind (e.Indexed name arguments)) ≡ indexed s (written name) (meant s (written name)) (expr_count (exprs (map expr arguments.items))) (judge_all s (exprs (map expr arguments.items)))
unfolding judge
indexed_judged s top name arguments = ap (judge s top) (indexed_is name arguments)

pub chain_judged : (s : Scope) (top : Bool) (first : rust.Expression) (others : Vec rustop.Operation)
    → judge s top (expr_kind (e.Chain first others)) ≡ AsNumber (joined typed.Chain (as_number (judge s false (expr first))) (judge_operations s top (syntax.operations (map operation_tree others.items))))
unfolding judge
chain_judged s top first others = ap (judge s top) (chain_is first others)

-- the numbers of a list of expressions, as a walk
pub all_walked : (s : Scope) (xs : List syntax.Expr) → judge_all s (exprs xs) ≡ option_map typed.numbers (walk (λ x rest. as_number (judge s false x)) xs)
unfolding judge_all
all_walked s [] = refl
all_walked s (x ∷ xs) = ap (joined typed.number_and (as_number (judge s false x))) (all_walked s xs) ∙ by (as_number (judge s false x)) (walk (λ x rest. as_number (judge s false x)) xs)
  where
    by : (y : Option typed.Number) (ys : Option (List typed.Number)) → joined typed.number_and y (option_map typed.numbers ys) ≡ option_map typed.numbers (joined (λ y ys. y ∷ ys) y ys)
    by (Some y) (Some ys) = refl
    by (Some y) None = refl
    by None ys = refl

pub within_most : (digits : List ℕ) → is_within 0 MOST digits ≡ true → number_of digits ≤ 9223372036854775807
unfolding is_within
within_most digits h = leb-true (number_of digits) 9223372036854775807 (and_parts _ _ (and_parts (is_digits digits) _ h).1).1

pub values_walked : (s : Scope) (xs : List rust.Expression) → judge_all s (exprs (map expr xs)) ≡ option_map typed.numbers (walk (λ x rest. as_number (judge s false (expr x))) xs)
values_walked s xs = all_walked s (map expr xs) ∙ ap (option_map typed.numbers) (walk_made (λ x. as_number (judge s false x)) expr xs)

end_of : (xs : List rustop.Operation) → is_end (syntax.operations (map operation_tree xs)) ≡ is_none xs
end_of [] = refl
end_of (x ∷ xs) = refl

one_walked : (ok : Bool) (op : Operator) (y : Option typed.Number) (ys : Option (List (Operator × typed.Number)))
    → only_if ok (joined (typed.operation_and op) y (option_map typed.operations ys)) ≡ option_map typed.operations (joined (λ y ys. y ∷ ys) (only_if ok (option_map (λ y. (op, y)) y)) ys)
one_walked true op (Some y) (Some ys) = refl
one_walked true op (Some y) None = refl
one_walked true op None ys = refl
one_walked false op y ys = refl

-- operators with their operands, as a walk
pub operations_walked : (s : Scope) (top : Bool) (xs : List rustop.Operation)
    → judge_operations s top (syntax.operations (map operation_tree xs)) ≡ option_map typed.operations (walk (λ x rest. judge_operation s top (operation_tree x) (is_none rest)) xs)
unfolding judge_operations
operations_walked s top [] = refl
operations_walked s top (x ∷ xs) =
    ap (λ b. only_if (may_divide top x.operator b) (joined (typed.operation_and x.operator) (as_number (judge s false (expr x.operand))) (judge_operations s top (syntax.operations (map operation_tree xs))))) (end_of xs)
    ∙ ap (λ r. only_if (may_divide top x.operator (is_none xs)) (joined (typed.operation_and x.operator) (as_number (judge s false (expr x.operand))) r)) (operations_walked s top xs)
    ∙ one_walked (may_divide top x.operator (is_none xs)) x.operator (as_number (judge s false (expr x.operand))) (walk (λ x rest. judge_operation s top (operation_tree x) (is_none rest)) xs)
