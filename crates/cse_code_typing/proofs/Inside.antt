-- The innermost bracket around a place, from that around the place before it.
use Rattle.std.proofs.Common.{◌≡◌, ℕ, zero, suc, ◌+◌, ◌-◌, ◌<◌, ◌≤◌, List, [], ◌∷◌, ◌++◌, length, Option, Some, None, refl, sym, ap, ◌∙◌, subst, ⊎_elim, arith}
use Rattle.std.specs.Prelude.{slice_get}
use Rattle.std.proofs.lemmas.Bool.{cases_lt, cases_eq}
use Rattle.std.proofs.lemmas.List.{length-append}
use Rattle.cse_lemmas.proofs.Lists.{slice_get_push_below, slice_get_push}
use Rattle.cse_code_typing.specs.declared.control.Control.{Control}
use Rattle.cse_code_typing.specs.Bracket.{IsBracket, IsAround, IsJump, around, innermost}
use Rattle.cse_code_typing.specs.Innermost.{innermost_below, Reaches, reach}
use Rattle.cse_code_typing.proofs.Around.{first_least, innermost_around, is_around_from}

module _ (code : List Control) where
  -- a bracket around a place begins no later than the innermost one
  pub reached : (p s : ℕ) → IsAround code s p → Reaches (innermost code p) s
  unfolding around
  reached p s a =
      let r = first_least code p p s (is_around_from code s p a) a.2 in
      subst (λ o. Reaches o s) (sym r.1) r.2

  pub innermost_before : (p t : ℕ) → innermost code p ≡ Some t → t < p
  innermost_before p t h = (innermost_around code p t h).2

  -- the one around a place that reaches every other is the innermost
  pub innermost_is : (p t : ℕ) → IsAround code t p → ((s : ℕ) → IsAround code s p → s ≤ t) → innermost code p ≡ Some t
  unfolding around
  innermost_is p t a all =
      let r = first_least code p p t (is_around_from code t p a) a.2 in
      let le = all r.0 (innermost_around code p r.0 r.1) in
      let ge = r.2 in
      let same : r.0 ≡ t = omega arith in
      r.1 ∙ ap Some same

  none_by : (p : ℕ) (o : Option ℕ) → innermost code p ≡ o → ((s : ℕ) → IsAround code s p → ⊥) → innermost code p ≡ None
  none_by p None h never = h
  none_by p (Some t) h never = absurd (never t (innermost_around code p t h))

  pub innermost_none : (p : ℕ) → ((s : ℕ) → IsAround code s p → ⊥) → innermost code p ≡ None
  innermost_none p never = none_by p (innermost code p) refl never

  -- a bracket that begins is the innermost one around the next place
  pub begun : (p e : ℕ) → IsBracket code p e → innermost code (suc p) ≡ Some p
  begun p e b = innermost_is (suc p) p (e, b, omega arith, (let lt = b.0 in omega arith)) (λ s a. let lt = a.2 in omega arith)

  -- where none begins, what is around the next place was around this one
  pub went_on : (p s : ℕ) → ((e : ℕ) → IsBracket code p e → ⊥) → IsAround code s (suc p) → IsAround code s p
  went_on p s never (e, b, lt, le) =
      ⊎_elim
      (λ (same : s ≡ p). absurd (never e (subst (λ n. IsBracket code n e) same b)))
      (λ (ne : s ≡ p → ⊥). (e, b, omega arith, omega arith))
      (cases_eq s p)

  -- one opener further out
  pub outward : (t q s : ℕ) → (IsAround code t q → ⊥) → IsAround code s q → s ≤ t → t < q → Reaches (innermost code t) s
  outward t q s never a le before =
      ⊎_elim
      (λ (same : s ≡ t). absurd (never (subst (λ n. IsAround code n q) same a)))
      (λ (ne : s ≡ t → ⊥). let f = a.3 in reached t s (a.0, a.1, omega arith, omega arith))
      (cases_eq s t)

  -- ---- the table

  pub length-innermost_below : (n : ℕ) → length (innermost_below code n) ≡ n
  unfolding innermost_below
  length-innermost_below zero = refl
  length-innermost_below (suc n) =
      let ih = length-innermost_below n in
      let l = length-append (innermost_below code n) (innermost code n ∷ []) in
      omega arith

  pub innermost_at : (n p : ℕ) → p < n → slice_get (innermost_below code n) p ≡ Some (innermost code p)
  unfolding innermost_below
  innermost_at zero p lt = absurd (omega arith)
  innermost_at (suc n) p lt =
      let size = length-innermost_below n in
      ⊎_elim
      (λ (l : p < n). slice_get_push_below (innermost_below code n) (innermost code n) p (omega arith) ∙ innermost_at n p l)
      (λ (l : n ≤ p).
      let same : n ≡ p = omega arith in
      slice_get_push (innermost_below code n) (innermost code n) p (omega arith) ∙ ap (λ k. Some (innermost code k)) same)
      (cases_lt p n)

  pub innermost_start : innermost code 0 ≡ None
  innermost_start = innermost_none 0 (λ s a. let lt = a.2 in omega arith)

  pub table_more : (n : ℕ) (table more : List (Option ℕ)) (inner : Option ℕ) → table ≡ innermost_below code n → inner ≡ innermost code n → more ≡ table ++ inner ∷ [] → more ≡ innermost_below code (suc n)
  unfolding innermost_below
  table_more n table more inner is here grown = grown ∙ ap (λ l. l ++ inner ∷ []) is ∙ ap (λ o. innermost_below code n ++ o ∷ []) here

  pub table_none : [] ≡ innermost_below code 0
  unfolding innermost_below
  table_none = refl

  shorter_by : (t : ℕ) (o : Option ℕ) → innermost code t ≡ o → reach o < t + 1
  shorter_by t None h = omega arith
  shorter_by t (Some u) h = let lt = innermost_before t u h in omega arith

  pub shorter : (t : ℕ) (opener next : Option ℕ) → opener ≡ Some t → next ≡ innermost code t → reach next < reach opener
  shorter t opener next is told = subst (λ o. reach next < reach o) (sym is) (shorter_by t next (sym told))

-- ---- without a table: a walk outward from where a jump leads

module _ (code : List Control) where
  pub none_from_end : (to s : ℕ) → to ≤ s → IsAround code s to → ⊥
  none_from_end to s le a = let lt = a.2 in omega arith

  pub one_place_more : (to opener : ℕ) → 0 < opener → ((s : ℕ) → opener ≤ s → IsAround code s to → ⊥) → (IsAround code (opener - 1) to → ⊥) → (s : ℕ) → opener - 1 ≤ s → IsAround code s to → ⊥
  one_place_more to opener some never here s le a =
      ⊎_elim
      (λ (same : s ≡ opener - 1). here (subst (λ n. IsAround code n to) same a))
      (λ (ne : s ≡ opener - 1 → ⊥). never s (omega arith) a)
      (cases_eq s (opener - 1))

  -- the innermost bracket around a jump that keeps it is around where the jump leads
  pub still_there : (from to : ℕ) (top : Option ℕ) → top ≡ innermost code from → IsJump code from to → (t : ℕ) → top ≡ Some t → IsAround code t to
  still_there from to top is jump t there = innermost_around code to t (jump.2 ∙ sym is ∙ there)

  begins_before : (from s : ℕ) (o : Option ℕ) → innermost code from ≡ o → Reaches o s → s < from
  begins_before from s None is reaches = absurd reaches
  begins_before from s (Some t) is reaches =
      let lt = innermost_before code from t is in
      let le : s ≤ t = reaches in
      omega arith

  -- and none that begins at the jump or behind it is
  pub none_begins : (from to : ℕ) → IsJump code from to → (s : ℕ) → from ≤ s → IsAround code s to → ⊥
  none_begins from to jump s le a =
      let lt = begins_before from s (innermost code to) (sym jump.2) (reached code to s a) in omega arith

  -- a bracket around where a jump leads that begins before the jump is around the jump
  around_jump : (from to s : ℕ) → from < to → ((q : ℕ) → from ≤ q → IsAround code q to → ⊥) → IsAround code s to → IsAround code s from
  around_jump from to s lt never a =
      ⊎_elim (λ (before : s < from). let le = a.3 in (a.0, a.1, before, omega arith)) (λ (le : from ≤ s). absurd (never s le a)) (cases_lt s from)

  kept_by : (from to : ℕ) (top : Option ℕ) → innermost code from ≡ top → from < to → ((t : ℕ) → top ≡ Some t → IsAround code t to) → ((s : ℕ) → from ≤ s → IsAround code s to → ⊥) → innermost code to ≡ top
  kept_by from to None is lt stays never =
      innermost_none code to (λ s a. subst (λ o. Reaches o s) is (reached code from s (around_jump from to s lt never a)))
  kept_by from to (Some t) is lt stays never =
      innermost_is code to t (stays t refl) (λ s a. subst (λ o. Reaches o s) is (reached code from s (around_jump from to s lt never a)))

  -- a jump keeps its innermost bracket where that is around its target, and no other begins in between
  pub keeps_innermost : (from to : ℕ) (top : Option ℕ) → top ≡ innermost code from → from < to → to < length code → ((t : ℕ) → top ≡ Some t → IsAround code t to) → ((s : ℕ) → from ≤ s → IsAround code s to → ⊥) → IsJump code from to
  keeps_innermost from to top is lt within stays never = (lt, within, kept_by from to top (sym is) lt stays never ∙ is)

pub none_left : (opener : Option ℕ) (s : ℕ) → ((t : ℕ) → opener ≡ Some t → ⊥) → Reaches opener s → ⊥
none_left None s never r = r
none_left (Some t) s never r = never t refl
