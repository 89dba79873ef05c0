-- The values of a message, each beside its placeholder's kind.
use Rattle.std.specs.Prelude.{MatchOption, false}
use Rattle.std.proofs.Common.{◌≡◌, ℕ, ◌+◌, ◌<◌, ◌≤◌, get_or, drop, List, [], ◌∷◌, ◌++◌, length, map, Option, Some, None, refl, ap, sym, ◌∙◌, append_assoc}
use Rattle.std.proofs.lemmas.List.{append-nil, drop_all}
use Rattle.cse_lemmas.proofs.Lists.{drop_read}
use Rattle.cse_image_parts.specs.declared.placeholders.ArgumentKind.{ArgumentKind}
use Rattle.cse_syntax_tree.specs.declared.tree.Expression.{Expression}
use Rattle.cse_syntax_tree.specs.Tree.{expr, exprs}
use Rattle.cse_logic_names.specs.Scope.{Scope}
use Rattle.cse_logic_faults.specs.Faults.{Fault, Counts}
use Rattle.cse_logic_faults.specs.FaultsOfExpressions.{expr_faults}
use Rattle.cse_logic_faults.specs.FaultsOfStatements.{values_faults, arguments_faults}
use Rattle.cse_logic_faults.specs.Operators.{argument_faults}

-- without placeholders
no_kinds : (c : Counts) (s : Scope) (xs : List Expression) → values_faults c s (exprs (map expr xs)) ≡ arguments_faults c s [] (exprs (map expr xs))
no_kinds c s [] = refl
no_kinds c s (x ∷ xs) = refl

-- one value more
more : (c : Counts) (s : Scope) (ks others : List ArgumentKind) (k : Option ArgumentKind) (x : Expression) (xs : List Expression) → MatchOption k ((ks ≡ []) × (others ≡ [])) (λ y. ks ≡ y ∷ others)
    → argument_faults c s k (expr x) ++ arguments_faults c s others (exprs (map expr xs)) ≡ arguments_faults c s ks (exprs (map expr (x ∷ xs)))
more c s ks others None x xs h =
    ap (λ o. expr_faults c s false (expr x) ++ arguments_faults c s o (exprs (map expr xs))) h.1
    ∙ ap (λ l. expr_faults c s false (expr x) ++ l) (sym (no_kinds c s xs))
    ∙ ap (λ o. arguments_faults c s o (exprs (map expr (x ∷ xs)))) (sym h.0)
more c s ks others (Some k) x xs h = ap (λ o. arguments_faults c s o (exprs (map expr (x ∷ xs)))) (sym h)

pub arguments_turn : (c : Counts) (s : Scope) (items : List Expression) (i : ℕ) (x : Expression) → i < length items → x ≡ get_or items i x
    → (g g' total : List Fault) (ks others : List ArgumentKind) (k : Option ArgumentKind) → g ++ arguments_faults c s ks (exprs (map expr (drop i items))) ≡ total
    → MatchOption k ((ks ≡ []) × (others ≡ [])) (λ y. ks ≡ y ∷ others) → g' ≡ g ++ argument_faults c s k (expr x)
    → g' ++ arguments_faults c s others (exprs (map expr (drop (i + 1) items))) ≡ total
arguments_turn c s items i x lt is g g' total ks others k inv next e =
    let rest = drop (i + 1) items in
    ap (λ z. z ++ arguments_faults c s others (exprs (map expr rest))) e
    ∙ append_assoc g (argument_faults c s k (expr x)) (arguments_faults c s others (exprs (map expr rest)))
    ∙ ap (λ z. g ++ z) (more c s ks others k x rest next)
    ∙ ap (λ zs. g ++ arguments_faults c s ks (exprs (map expr zs))) (sym (drop_read items i x lt is))
    ∙ inv

none_left : (c : Counts) (s : Scope) (ks : List ArgumentKind) → arguments_faults c s ks (exprs []) ≡ []
none_left c s [] = refl
none_left c s (k ∷ ks) = refl

pub arguments_end : (c : Counts) (s : Scope) (items : List Expression) (i : ℕ) → length items ≤ i → (g total : List Fault) (ks : List ArgumentKind)
    → g ++ arguments_faults c s ks (exprs (map expr (drop i items))) ≡ total → g ≡ total
arguments_end c s items i le g total ks inv =
    sym (append-nil g)
    ∙ ap (λ z. g ++ z) (sym (ap (λ zs. arguments_faults c s ks (exprs (map expr zs))) (drop_all i items le) ∙ none_left c s ks))
    ∙ inv
