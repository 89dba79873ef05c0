-- The values of a message, each beside its placeholder's kind.
use Rattle.std.specs.Prelude.{Bool, true, false, ◌&&◌, MatchOption}
use Rattle.std.proofs.Common.{◌≡◌, ℕ, ◌+◌, ◌<◌, ◌≤◌, get_or, drop, List, [], ◌∷◌, length, map, Option, Some, None, ap, sym, ◌∙◌, option_map}
use Rattle.std.proofs.lemmas.List.{drop_all}
use Rattle.cse_lemmas.proofs.Lists.{drop_read}
use Rattle.cse_image_parts.specs.declared.placeholders.ArgumentKind.{ArgumentKind}
use Rattle.cse_syntax_tree.specs.declared.tree.Expression.{Expression}
use Rattle.cse_syntax_tree.specs.Tree.{expr, exprs}
use Rattle.cse_logic_tree.specs.declared.tree.Argument as rust
use Rattle.cse_logic_tree.specs.Typed.{Argument, argument}
use Rattle.cse_logic_names.specs.Scope.{Scope}
use Rattle.cse_logic_expressions.specs.Judge.{judge}
use Rattle.cse_logic_expressions.specs.JudgeStatement.{as_argument, first_kind, other_kinds, judge_arguments}
use Rattle.cse_logic_names.specs.Walk.{so_far, found_more, joined, is_there}
use Rattle.cse_logic_names.proofs.Walks.{map_found, there_map, turn_is, end_is}

pub kinds_next : (ks others : List ArgumentKind) (k : Option ArgumentKind) → MatchOption k ((ks ≡ []) × (others ≡ [])) (λ x. ks ≡ x ∷ others) → (k ≡ first_kind ks) × (others ≡ other_kinds ks)
kinds_next ks others None h = (sym (ap first_kind h.0), h.1 ∙ sym (ap other_kinds h.0))
kinds_next ks others (Some x) h = (sym (ap first_kind h), sym (ap other_kinds h))

pub arguments_step : (s : Scope) (items : List Expression) (i : ℕ) (x : Expression) (b both there : Bool) (xs xs' : List rust.Argument) (y : Option rust.Argument) (all : Option (List Argument)) (ks others : List ArgumentKind) (k : Option ArgumentKind)
    → i < length items → x ≡ get_or items i x → so_far b (map argument xs) (judge_arguments s ks (exprs (map expr (drop i items)))) ≡ all
    → MatchOption k ((ks ≡ []) × (others ≡ [])) (λ x. ks ≡ x ∷ others)
    → option_map argument y ≡ as_argument k (judge s false (expr x)) → xs' ≡ found_more xs y → there ≡ is_there y → both ≡ (b && there)
    → so_far both (map argument xs') (judge_arguments s others (exprs (map expr (drop (i + 1) items)))) ≡ all
arguments_step s items i x b both there xs xs' y all ks others k lt is inv next e more h j =
    let n = kinds_next ks others k next in
    let rest = judge_arguments s others (exprs (map expr (drop (i + 1) items))) in
    ap (λ t. so_far t (map argument xs') rest) (j ∙ ap (λ t. b && t) (h ∙ sym (there_map argument y)))
    ∙ ap (λ l. so_far (b && is_there (option_map argument y)) l rest) (ap (map argument) more ∙ map_found argument xs y)
    ∙ turn_is b (map argument xs) (option_map argument y) rest
    ∙ ap (λ z. so_far b (map argument xs) (joined (λ y ys. y ∷ ys) z rest)) (e ∙ ap (λ o. as_argument o (judge s false (expr x))) n.0)
    ∙ ap (λ o. so_far b (map argument xs) (joined (λ y ys. y ∷ ys) (as_argument (first_kind ks) (judge s false (expr x))) (judge_arguments s o (exprs (map expr (drop (i + 1) items)))))) n.1
    ∙ ap (λ zs. so_far b (map argument xs) (judge_arguments s ks (exprs (map expr zs)))) (sym (drop_read items i x lt is))
    ∙ inv

pub arguments_end : (s : Scope) (items : List Expression) (i : ℕ) (b : Bool) (xs : List Argument) (all : Option (List Argument)) (ks : List ArgumentKind) → length items ≤ i → so_far b xs (judge_arguments s ks (exprs (map expr (drop i items)))) ≡ all
    → (b ≡ true → all ≡ Some xs) × (b ≡ false → all ≡ None) × (is_there all ≡ b)
arguments_end s items i b xs all ks le inv = end_is b xs all (sym (ap (λ l. so_far b xs (judge_arguments s ks (exprs (map expr l)))) (drop_all i items le)) ∙ inv)
