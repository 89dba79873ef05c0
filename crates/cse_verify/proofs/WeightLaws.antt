-- How the weights at hand change from one place to the next.
use Rattle.std.proofs.Common.{◌≡◌, ℕ, suc, ◌*◌, ◌^◌, ◌<◌, ◌≤◌, List, [], ◌∷◌, length, drop, Some, refl, sym, ap, ◌∙◌, arith}
use Rattle.std.specs.Prelude.{slice_get}
use Rattle.std.proofs.Math.Nat.{mul-le-mul_left, mul-le-mul_right}
use Rattle.std.proofs.lemmas.Option.{same_Some, slice_get_within}
use Rattle.cse_code_typing.specs.declared.control.Control.{Control}
use Rattle.cse_code_typing.specs.declared.control.Control.TheVariants.{Open, End}
use Rattle.cse_code_typing.specs.Bracket.{first, around, IsNestedBelow, KeepsRulesAt, KeepsRules}
use Rattle.cse_code_typing.proofs.Around.{nested_before, around_start}
use Rattle.cse_code_typing.proofs.Checks.{pass_shallow, pass_opener, pass_some, pass_end, pass_plain}
use Rattle.cse_verify.specs.Limit.{step_limit}
use Rattle.cse_verify.specs.Weight.{limit_in, product, weight}
use Rattle.cse_verify.specs.Running.{weights_in, weights_at}

-- a weight within the limit, times a limit of turns, fits
pub small_product : (b w : ℕ) → b < 2 ^ 32 → w ≤ step_limit → b * w < 2 ^ 128
small_product b w few small =
    let k = mul-le-mul_left b small in
    let few : b ≤ 4294967295 = omega arith in
    let m = mul-le-mul_right step_limit few in
    omega arith

-- ---- of a list of openers

first_weight : (code : List Control) (l : List ℕ) → first (weights_in code l) ≡ Some (product code l)
first_weight code [] = refl
first_weight code (s ∷ ss) = refl

length-weights : (code : List Control) (l : List ℕ) → length (weights_in code l) ≡ suc (length l)
length-weights code [] = refl
length-weights code (s ∷ ss) = let ih = length-weights code ss in ap suc ih

some_weights : (code : List Control) (l : List ℕ) → weights_in code l ≡ [] → ⊥
some_weights code [] h = cc
some_weights code (s ∷ ss) h = cc

outer_weights : (code : List Control) (l : List ℕ) → (l ≡ [] → ⊥) → drop 1 (weights_in code l) ≡ weights_in code (drop 1 l)
outer_weights code [] some = absurd (some refl)
outer_weights code (s ∷ ss) some = refl

-- ---- of a place

pub weights_start : (code : List Control) (weights : List ℕ) → weights ≡ 1 ∷ [] → weights ≡ weights_at code 0
weights_start code weights e = e ∙ sym (ap (weights_in code) (around_start code))

pub some_weights_at : (code : List Control) (p : ℕ) (weights : List ℕ) → weights ≡ weights_at code p → weights ≡ [] → ⊥
some_weights_at code p weights is none = some_weights code (around code p) (sym is ∙ none)

-- the one on top is the weight of the place
pub top_weight : (code : List Control) (p w : ℕ) (weights : List ℕ) → weights ≡ weights_at code p → first weights ≡ Some w → w ≡ weight code p
top_weight code p w weights is top = same_Some w (weight code p) (sym top ∙ ap first is ∙ first_weight code (around code p))

module _ (code : List Control) (keeps : KeepsRules code) (p : ℕ) (i : Control) (at : slice_get code p ≡ Some i) where
  here : KeepsRulesAt code p
  here = keeps p (slice_get_within code p i at)

  nest : IsNestedBelow code p
  nest = nested_before code p (λ q lt j there. (keeps q (slice_get_within code q j there) j there).0)

  pub room_for_weight : (b e : ℕ) (weights : List ℕ) → i ≡ Open b e → weights ≡ weights_at code p → length weights < 65
  room_for_weight b e weights opens is =
      let few = pass_shallow code p nest here b e (around code p) (at ∙ ap Some opens) refl in
      let n = ap length is ∙ length-weights code (around code p) in
      omega arith

  pub weights_open : (b e w : ℕ) (weights next : List ℕ) → i ≡ Open b e → weights ≡ weights_at code p → first weights ≡ Some w → next ≡ (b * w) ∷ weights → next ≡ weights_at code (suc p)
  weights_open b e w weights next opens is top pushed =
      let there = at ∙ ap Some opens in
      let inner = pass_opener code p nest here b e (around code p) (p ∷ around code p) there refl refl in
      let heavy : b * w ≡ product code (p ∷ around code p) =
      ap (λ n. b * n) (top_weight code p w weights is top) ∙ sym (ap (λ o. limit_in o * weight code p) there)
      in
      pushed ∙ ap (λ n. n ∷ weights) heavy ∙ ap (λ l. product code (p ∷ around code p) ∷ l) is ∙ ap (weights_in code) inner

  pub weights_end : (s : ℕ) (weights next : List ℕ) → i ≡ End s → weights ≡ weights_at code p → next ≡ drop 1 weights → next ≡ weights_at code (suc p)
  weights_end s weights next ends is popped =
      let there = at ∙ ap Some ends in
      popped
      ∙ ap (drop 1) is
      ∙ outer_weights code (around code p) (pass_some code p nest here s (around code p) there refl)
      ∙ ap (weights_in code) (pass_end code p nest here s (around code p) (drop 1 (around code p)) there refl refl)

  pub weights_plain : (weights : List ℕ) → ((b e : ℕ) → i ≡ Open b e → ⊥) → ((s : ℕ) → i ≡ End s → ⊥) → weights ≡ weights_at code p → weights ≡ weights_at code (suc p)
  weights_plain weights no_open no_end is =
      is ∙ ap (weights_in code) (pass_plain code p nest here i (around code p) at refl no_open no_end)
