-- How the sum of a routine grows from one place to the next.
use Rattle.std.proofs.Common.{◌≡◌, ℕ, zero, suc, ◌+◌, ◌*◌, ◌<◌, ◌≤◌, List, [], ◌∷◌, Option, Some, None, refl, ap, ◌∙◌, ⊎_elim, arith}
use Rattle.std.specs.Prelude.{slice_get}
use Rattle.std.proofs.Math.Nat.{mul-le-mul_left}
use Rattle.std.proofs.lemmas.Bool.{cases_lt}
use Rattle.std.proofs.lemmas.Option.{slice_get_within}
use Rattle.cse_code_typing.specs.declared.control.Control.{Control}
use Rattle.cse_code_typing.specs.declared.control.Control.TheVariants.{Step, Jump, Branch, Open, End, Break, Call, Return}
use Rattle.cse_code_typing.specs.Bracket.{first}
use Rattle.cse_verify.specs.Limit.{step_limit}
use Rattle.cse_verify.specs.Weight.{weight}
use Rattle.cse_verify.specs.Bound.{cost, partial, PassesLimit}
use Rattle.cse_verify.specs.Running.{weights_at}
use Rattle.cse_verify.proofs.WeightLaws.{weights_start, top_weight}

cost_some : (bounds : List ℕ) (o : Option Control) → 1 ≤ cost bounds o
cost_some bounds None = omega arith
cost_some bounds (Some Step) = omega arith
cost_some bounds (Some (Jump c)) = omega arith
cost_some bounds (Some (Branch c)) = omega arith
cost_some bounds (Some (Open b e)) = omega arith
cost_some bounds (Some (End s)) = omega arith
cost_some bounds (Some (Break e)) = omega arith
cost_some bounds (Some (Call c)) = omega arith
cost_some bounds (Some Return) = omega arith

partial_next : (bounds : List ℕ) (code : List Control) (p : ℕ) (i : Control) → slice_get code p ≡ Some i → partial bounds code (suc p) ≡ partial bounds code p + weight code p * cost bounds (Some i)
unfolding partial
partial_next bounds code p i at = ap (λ o. partial bounds code p + weight code p * cost bounds o) at

-- the sum with a place is no less than the place's weight
weight_in_partial : (bounds : List ℕ) (code : List Control) (p : ℕ) → weight code p ≤ partial bounds code (suc p)
unfolding partial
weight_in_partial bounds code p =
    let k = mul-le-mul_left (weight code p) (cost_some bounds (slice_get code p)) in
    omega arith

-- what a pass has at the place p: the weights there, and the sum over the places before it
pub record IsAt (bounds : List ℕ) (code : List Control) (p total : ℕ) (weights : List ℕ) : Type 0 where
  pub weights_are : weights ≡ weights_at code p
  pub total_is : total ≡ partial bounds code p
  pub small : total ≤ step_limit

pub at_start : (bounds : List ℕ) (code : List Control) (weights : List ℕ) → weights ≡ 1 ∷ [] → IsAt bounds code 0 0 weights
unfolding partial
at_start bounds code weights e = record { weights_are = weights_start code weights e; total_is = refl; small = omega arith }

-- the weight alone is above the limit
pub too_heavy : (bounds : List ℕ) (code : List Control) (p w total : ℕ) (weights : List ℕ) (i : Control) → IsAt bounds code p total weights → slice_get code p ≡ Some i → first weights ≡ Some w → step_limit < w → PassesLimit bounds code p
too_heavy bounds code p w total weights i at there top more =
    let k = weight_in_partial bounds code p in
    let a = top_weight code p w weights at.weights_are top in
    let b = at.total_is in
    let s = at.small in
    record { within = slice_get_within code p i there; before = omega arith; after = omega arith }

-- the sum with this place
pub with_place : (bounds : List ℕ) (code : List Control) (p w total spent : ℕ) (weights : List ℕ) (i : Control) → IsAt bounds code p total weights → slice_get code p ≡ Some i → first weights ≡ Some w → spent ≡ cost bounds (Some i) → total + w * spent ≡ partial bounds code (suc p)
with_place bounds code p w total spent weights i at there top e =
    let a = top_weight code p w weights at.weights_are top in
    let b = at.total_is in
    let n = partial_next bounds code p i there in
    let m : w * spent ≡ weight code p * cost bounds (Some i) = cc in
    omega arith

-- it is above the limit
pub too_long : (bounds : List ℕ) (code : List Control) (p w total spent : ℕ) (weights : List ℕ) (i : Control) → IsAt bounds code p total weights → slice_get code p ≡ Some i → first weights ≡ Some w → spent ≡ cost bounds (Some i) → step_limit < total + w * spent → PassesLimit bounds code p
too_long bounds code p w total spent weights i at there top e more =
    let sum = with_place bounds code p w total spent weights i at there top e in
    let b = at.total_is in
    let s = at.small in
    record { within = slice_get_within code p i there; before = omega arith; after = omega arith }

-- or it isn't
pub at_next : (bounds : List ℕ) (code : List Control) (p w total spent : ℕ) (weights next : List ℕ) (i : Control) → IsAt bounds code p total weights → slice_get code p ≡ Some i → first weights ≡ Some w → spent ≡ cost bounds (Some i) → total + w * spent ≤ step_limit → next ≡ weights_at code (suc p) → IsAt bounds code (p + 1) (total + w * spent) next
at_next bounds code p w total spent weights next i at there top e small passed =
    let one : suc p ≡ p + 1 = omega arith in
    record {
      weights_are = passed ∙ ap (weights_at code) one;
      total_is = with_place bounds code p w total spent weights i at there top e ∙ ap (partial bounds code) one;
      small = small;
    }

-- sums grow
pub partial_grows : (bounds : List ℕ) (code : List Control) (p q : ℕ) → p ≤ q → partial bounds code p ≤ partial bounds code q
unfolding partial
partial_grows bounds code p zero le = let e = ap (partial bounds code) (let k : p ≡ 0 = omega arith in k) in omega arith
partial_grows bounds code p (suc q) le =
    ⊎_elim
    (λ (l : p < suc q). let ih = partial_grows bounds code p q (omega arith) in omega arith)
    (λ (l : suc q ≤ p). let e : p ≡ suc q = omega arith in let k = ap (partial bounds code) e in omega arith)
    (cases_lt p (suc q))
