-- The steps of a stretch of code, by what is around its first place.
use Rattle.std.proofs.Common.{◌≡◌, ℕ, suc, ◌+◌, ◌*◌, ◌≤◌, List, Some, ap, ◌∙◌, arith}
use Rattle.std.specs.Prelude.{slice_get}
use Rattle.cse_code_typing.specs.declared.control.Control.{Control}
use Rattle.cse_code_typing.specs.declared.control.Control.TheVariants.{Open, End}
use Rattle.cse_code_typing.specs.Bracket.{IsBracket}
use Rattle.cse_verify.specs.Weight.{limit_in, product, weight}
use Rattle.cse_verify.specs.Bound.{cost, partial}
use Rattle.cse_meaning.proofs.Spans.{IsSealed, sealed_around, around_inside}

module _ (bounds : List ℕ) (sk : List Control) where
  -- so many steps for each visit of the stretch
  pub record Counts (a b n : ℕ) : Type 0 where
    pub by : partial bounds sk b ≡ partial bounds sk a + weight sk a * n

  pub counts_join : (a b d m n : ℕ) → a ≤ b → IsSealed sk a b → Counts a b m → Counts b d n → Counts a d (m + n)
  counts_join a b d m n le sealed f g =
      let same : weight sk b ≡ weight sk a = ap (product sk) (sealed_around sk a b le sealed) in
      let e : weight sk b * n ≡ weight sk a * n = ap (λ w. w * n) same in
      record { by = omega (arith, f.by, g.by, e) }

  pub counts_none : (a : ℕ) → Counts a a 0
  counts_none a = record { by = omega arith }

  pub counts_one : (a : ℕ) (c : Control) → slice_get sk a ≡ Some c → Counts a (a + 1) (cost bounds (Some c))
  unfolding partial
  counts_one a c h =
      let one : a + 1 ≡ suc a = omega arith in
      record { by = ap (partial bounds sk) one ∙ ap (λ o. partial bounds sk a + weight sk a * cost bounds o) h }

  -- a loop: its opener once, its body and its end as often as its limit allows
  pub counts_loop : (s e limit n : ℕ) → IsBracket sk s e → slice_get sk s ≡ Some (Open limit e) → slice_get sk e ≡ Some (End s) → IsSealed sk (s + 1) e → Counts (s + 1) e n → Counts s (e + 1) (1 + limit * (n + 1))
  counts_loop s e limit n br h k sealed body =
      let lt = br.0 in
      let opener = counts_one s (Open limit e) h in
      let ending = counts_one e (End s) k in
      let inside : weight sk (s + 1) ≡ limit * weight sk s = ap (product sk) (around_inside sk s e br) ∙ ap (λ o. limit_in o * weight sk s) h in
      let at_end : weight sk e ≡ weight sk (s + 1) = ap (product sk) (sealed_around sk (s + 1) e (omega arith) sealed) in
      let w1 : weight sk (s + 1) * n ≡ limit * weight sk s * n = ap (λ w. w * n) inside in
      let w2 : weight sk e * 1 ≡ limit * weight sk s * 1 = ap (λ w. w * 1) (at_end ∙ inside) in
      record { by = omega (arith, opener.by, body.by, ending.by, w1, w2) }
