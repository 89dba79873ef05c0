-- How many instructions blocks and arms have.
use Rattle.std.proofs.Common.{◌≡◌, ℕ, List, [], ◌∷◌, refl, ap, ◌∙◌, arith}
use Rattle.std.specs.Prelude.{min}
use Rattle.cse_logic_tree.specs.Typed.{Number, Statements, Arms, arms}
use Rattle.cse_compile.specs.Setting.{Setting}
use Rattle.cse_compile.specs.Expressions.{number_size}
use Rattle.cse_compile.specs.Statements.{guard_size, block_size, arms_size, all_arms_size}

-- a size that is told up to a limit
pub guard_capped : (a b c a' b' c' r : ℕ) → a' ≡ min a 1000001 → b' ≡ min b 1000001 → c' ≡ min c 1000001 → r ≡ min (guard_size a' b' c') 1000001 → r ≡ min (guard_size a b c) 1000001
guard_capped a b c a' b' c' r ea eb ec er = omega (arith, ea, eb, ec, er)

guard_same : (a b x y : ℕ) → min x 1000001 ≡ min y 1000001 → min (guard_size a b x) 1000001 ≡ min (guard_size a b y) 1000001
guard_same a b x y h = omega (arith, h)

pub all_arms_capped : (s : Setting) (xs : List (Number × Statements)) (n : ℕ) → min (all_arms_size s xs (min n 1000001)) 1000001 ≡ min (all_arms_size s xs n) 1000001
all_arms_capped s [] n = omega (arith)
all_arms_capped s (x ∷ xs) n = guard_same (number_size x.0) (block_size s x.1) (all_arms_size s xs (min n 1000001)) (all_arms_size s xs n) (all_arms_capped s xs n)

pub all_arms_are : (s : Setting) (xs : List (Number × Statements)) (last : Arms) → all_arms_size s xs (arms_size s last) ≡ arms_size s (arms xs last)
unfolding arms_size
all_arms_are s [] last = refl
all_arms_are s (x ∷ xs) last = ap (guard_size (number_size x.0) (block_size s x.1)) (all_arms_are s xs last)

pub choice_size : (s : Setting) (x : Number × Statements) (xs : List (Number × Statements)) (last : Arms) (condition body others behind whole : ℕ)
    → condition ≡ min (number_size x.0) 1000001
    → body ≡ min (block_size s x.1) 1000001
    → behind ≡ min (arms_size s last) 1000001
    → others ≡ min (all_arms_size s xs behind) 1000001
    → whole ≡ min (guard_size condition body others) 1000001
    → whole ≡ min (guard_size (number_size x.0) (block_size s x.1) (arms_size s (arms xs last))) 1000001
choice_size s x xs last condition body others behind whole condition_is body_is behind_is others_are whole_is =
    let told : others ≡ min (arms_size s (arms xs last)) 1000001 =
    others_are
    ∙ ap (λ n. min (all_arms_size s xs n) 1000001) behind_is
    ∙ all_arms_capped s xs (arms_size s last)
    ∙ ap (λ n. min n 1000001) (all_arms_are s xs last) in
    guard_capped (number_size x.0) (block_size s x.1) (arms_size s (arms xs last)) condition body others whole condition_is body_is told whole_is
