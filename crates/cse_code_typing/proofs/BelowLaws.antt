-- What lies below some kinds on a stack.
use Rattle.std.proofs.Common.{◌≡◌, ℕ, ◌+◌, Bool, true, false, List, [], ◌∷◌, ◌++◌, take, reverse, Some, None, refl, sym, ap, ◌∙◌}
use Rattle.std.specs.Prelude.{slice_get, option_and_then, if◌then◌else◌}
use Rattle.std.proofs.lemmas.List.{take_more, reverse-append}
use Rattle.std.proofs.lemmas.Option.{get_or_from_slice_get, slice_get_within}
use Rattle.cse_code_typing.specs.declared.kind.Kind.{Kind}
use Rattle.cse_code_typing.specs.Kinds.{same_kind, below}

-- below some kinds and then others
pub below-append : (a b stack : List Kind) → below (a ++ b) stack ≡ option_and_then (below b) (below a stack)
below-append [] b stack = refl
below-append (x ∷ a) b [] = refl
below-append (x ∷ a) b (k ∷ stack) = by (same_kind x k) (below-append a b stack)
  where
    by : (c : Bool) → below (a ++ b) stack ≡ option_and_then (below b) (below a stack) → (if c then below (a ++ b) stack else None) ≡ option_and_then (below b) (if c then below a stack else None)
    by true ih = ih
    by false ih = refl

-- the kinds up to a place, from the last one on
pub reverse_more : (kinds : List Kind) (n : ℕ) (k : Kind) → slice_get kinds n ≡ Some k → reverse (take (n + 1) kinds) ≡ k ∷ reverse (take n kinds)
reverse_more kinds n k at =
    ap reverse (take_more kinds n k (slice_get_within kinds n k at) ∙ ap (λ x. take n kinds ++ x ∷ []) (get_or_from_slice_get kinds n k k at))
    ∙ reverse-append (take n kinds) (k ∷ [])

-- one kind less to take
pub one_less : (kinds stack : List Kind) (left n : ℕ) (k : Kind) → left ≡ n + 1 → slice_get kinds n ≡ Some k
    → below (reverse (take left kinds)) stack ≡ option_and_then (below (reverse (take n kinds))) (below (k ∷ []) stack)
one_less kinds stack left n k e at =
    ap (λ m. below (reverse (take m kinds)) stack) e
    ∙ ap (λ l. below l stack) (reverse_more kinds n k at)
    ∙ below-append (k ∷ []) (reverse (take n kinds)) stack

pub one_less_none : (kinds stack : List Kind) (left n : ℕ) (k : Kind) → left ≡ n + 1 → slice_get kinds n ≡ Some k → None ≡ below (k ∷ []) stack → below (reverse (take left kinds)) stack ≡ None
one_less_none kinds stack left n k e at none = one_less kinds stack left n k e at ∙ ap (option_and_then (below (reverse (take n kinds)))) (sym none)

pub one_less_some : (kinds stack rest : List Kind) (left n : ℕ) (k : Kind) → left ≡ n + 1 → slice_get kinds n ≡ Some k → Some rest ≡ below (k ∷ []) stack → below (reverse (take left kinds)) stack ≡ below (reverse (take n kinds)) rest
one_less_some kinds stack rest left n k e at some = one_less kinds stack left n k e at ∙ ap (option_and_then (below (reverse (take n kinds)))) (sym some)
