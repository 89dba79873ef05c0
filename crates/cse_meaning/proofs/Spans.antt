-- Stretches of code: what holds of each place of one, and which brackets lie in one.
use Rattle.std.proofs.Common.{◌≡◌, ℕ, suc, ◌+◌, ◌<◌, ◌≤◌, List, ◌∷◌, length, Option, Some, None, refl, sym, ap, ◌∙◌, subst, ⊎_elim, arith}
use Rattle.std.specs.Prelude.{slice_get}
use Rattle.std.proofs.lemmas.Bool.{cases_lt, cases_eq}
use Rattle.cse_code_typing.specs.declared.control.Control.{Control}
use Rattle.cse_code_typing.specs.declared.control.Control.TheVariants.{Step, Jump, Branch, Open, End, Break, Call, Return}
use Rattle.cse_code_typing.specs.Bracket.{named_end, named_opener, IsBracket, around_below, around, first, IsJump, IsOpener}
use Rattle.cse_code_typing.proofs.Around.{same_around, not_around, below_same, below_none, below_here, is_around_from, same_opener, same_end}

abbrev pub Span : (ℕ → Type 0) → ℕ → ℕ → Type 0
Span P a b = (q : ℕ) → a ≤ q → q < b → P q

pub joined : (P : ℕ → Type 0) (a b c : ℕ) → Span P a b → Span P b c → Span P a c
joined P a b c f g q le lt = ⊎_elim (λ (l : q < b). f q le l) (λ (l : b ≤ q). g q l lt) (cases_lt q b)

pub single : (P : ℕ → Type 0) (a : ℕ) → P a → Span P a (a + 1)
single P a h q le lt = let e : a ≡ q = omega arith in subst P e h

-- brackets that begin in a stretch end in it, and brackets that end in it begin in it
pub record IsSealed (sk : List Control) (a b : ℕ) : Type 0 where
  pub begins : (s e : ℕ) → IsBracket sk s e → a ≤ s → s < b → e < b
  pub ends : (s e : ℕ) → IsBracket sk s e → a ≤ e → e < b → a ≤ s

module _ (sk : List Control) where
  pub sealed_join : (a b c : ℕ) → a ≤ b → b ≤ c → IsSealed sk a b → IsSealed sk b c → IsSealed sk a c
  sealed_join a b c ab bc f g = record {
    begins = λ s e br le lt. ⊎_elim (λ (l : s < b). let k = f.begins s e br le l in omega arith) (λ (l : b ≤ s). g.begins s e br l lt) (cases_lt s b);
    ends = λ s e br le lt. ⊎_elim (λ (l : e < b). f.ends s e br le l) (λ (l : b ≤ e). let k = g.ends s e br l lt in omega arith) (cases_lt e b);
  }

  pub sealed_none : (a : ℕ) → IsSealed sk a a
  sealed_none a = record { begins = λ s e br le lt. absurd (omega arith); ends = λ s e br le lt. absurd (omega arith) }

  -- an instruction that neither begins nor ends a bracket
  pub sealed_one : (a : ℕ) (c : Control) → slice_get sk a ≡ Some c → named_end (Some c) ≡ None → named_opener (Some c) ≡ None → IsSealed sk a (a + 1)
  sealed_one a c at no_end no_opener = record {
    begins = λ s e br le lt.
        let z : a ≡ s = omega arith in
        let h = subst (λ n. named_end (slice_get sk n) ≡ Some e) (sym z) br.1 in
        let k = ap named_end at ∙ no_end in cc;
    ends = λ s e br le lt.
        let z : a ≡ e = omega arith in
        let h = subst (λ n. named_opener (slice_get sk n) ≡ Some s) (sym z) br.2 in
        let k = ap named_opener at ∙ no_opener in cc;
  }

  -- the brackets around both ends of a sealed stretch are the same
  pub sealed_around : (a b : ℕ) → a ≤ b → IsSealed sk a b → around sk b ≡ around sk a
  unfolding around
  sealed_around a b le h =
      below_none sk b a b le
      (λ t l m. not_around sk t b (λ (f, bt, x, y). let k = h.begins t f bt l m in omega arith))
      ∙ below_same sk a b a
      (λ t l.
      same_around sk t b a
      (λ (f, bt, x, y). (f, bt, l, omega arith))
      (λ (f, bt, x, y).
      ⊎_elim
      (λ (m : f < b). let k = h.ends t f bt y m in absurd (omega arith))
      (λ (m : b ≤ f). (f, bt, omega arith, m))
      (cases_lt f b)))

  pub jump_fine : (q c : ℕ) → q < c → c < length sk → IsSealed sk q c → IsJump sk q c
  jump_fine q c lt within h = (lt, within, ap first (sealed_around q c (omega arith) h))

  -- a loop: its opener, its sealed body and its end
  no_opener_at : (s e : ℕ) (o : Option Control) → named_end o ≡ Some e → named_opener o ≡ None
  no_opener_at s e None h = refl
  no_opener_at s e (Some Step) h = refl
  no_opener_at s e (Some (Jump c)) h = refl
  no_opener_at s e (Some (Branch c)) h = refl
  no_opener_at s e (Some (Open b c)) h = refl
  no_opener_at s e (Some (End c)) h = cc
  no_opener_at s e (Some (Break c)) h = refl
  no_opener_at s e (Some (Call c)) h = refl
  no_opener_at s e (Some Return) h = refl

  ends_none : (s e t : ℕ) → IsBracket sk s e → IsBracket sk t s → ⊥
  ends_none s e t a b = let k = no_opener_at s e (slice_get sk s) a.1 in let h = b.2 in cc

  begins_none : (s e f : ℕ) → IsBracket sk s e → IsBracket sk e f → ⊥
  begins_none s e f a b = ends_none e f s b a

  pub around_inside : (s e : ℕ) → IsBracket sk s e → around sk (s + 1) ≡ s ∷ around sk s
  unfolding around
  around_inside s e br =
      let one : s + 1 ≡ suc s = omega arith in
      let lt = br.0 in
      ap (λ n. around_below sk n n) one
      ∙ below_here sk s (suc s) (is_around_from sk s (suc s) (e, br, omega arith, omega arith))
      ∙ ap (λ l. s ∷ l) (below_same sk s (suc s) s
      (λ t l.
      same_around sk t (suc s) s
      (λ (f, bt, x, y). (f, bt, l, omega arith))
      (λ (f, bt, x, y).
      ⊎_elim
      (λ (z : f ≡ s). absurd (ends_none s e t br (subst (λ n. IsBracket sk t n) z bt)))
      (λ (z : f ≡ s → ⊥). (f, bt, omega arith, omega arith))
      (cases_eq f s))))

  pub loop_sealed : (s e : ℕ) → IsBracket sk s e → IsSealed sk (s + 1) e → IsSealed sk s (e + 1)
  loop_sealed s e br body =
      let lt = br.0 in
      record {
        begins = λ t f bt le l.
            ⊎_elim
            (λ (z : s ≡ t). let k : e ≡ f = same_end sk s e f br (subst (λ n. IsBracket sk n f) (sym z) bt) in omega arith)
            (λ (z : s ≡ t → ⊥).
            ⊎_elim
            (λ (y : e ≡ t). absurd (begins_none s e f br (subst (λ n. IsBracket sk n f) (sym y) bt)))
            (λ (y : e ≡ t → ⊥). let k = body.begins t f bt (omega arith) (omega arith) in omega arith)
            (cases_eq e t))
            (cases_eq s t);
        ends = λ t f bt le l.
            ⊎_elim
            (λ (z : f ≡ s). absurd (ends_none s e t br (subst (λ n. IsBracket sk t n) z bt)))
            (λ (z : f ≡ s → ⊥).
            ⊎_elim
            (λ (y : f ≡ e). let k : s ≡ t = same_opener sk s t e br (subst (λ n. IsBracket sk t n) y bt) in omega arith)
            (λ (y : f ≡ e → ⊥). let k = body.ends t f bt (omega arith) (omega arith) in omega arith)
            (cases_eq f e))
            (cases_eq f s);
      }

  pub opener_fine : (s e : ℕ) → IsBracket sk s e → IsSealed sk (s + 1) e → length (around sk s) ≤ 63 → IsOpener sk s e
  opener_fine s e br body few = record {
    bracket = br;
    shallow = few;
    nested = λ t f bt lt le.
        ⊎_elim
        (λ (l : f < e).
        ⊎_elim
        (λ (z : f ≡ s). absurd (ends_none s e t br (subst (λ n. IsBracket sk t n) z bt)))
        (λ (z : f ≡ s → ⊥). let k = body.ends t f bt (omega arith) l in absurd (omega arith))
        (cases_eq f s))
        (λ (l : e ≤ f). l)
        (cases_lt f e);
  }
