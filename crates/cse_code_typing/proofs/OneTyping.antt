-- All typings of the same places have the same stacks.
use Rattle.std.proofs.Common.{◌≡◌, ℕ, zero, suc, ◌<◌, ◌≤◌, List, [], ◌∷◌, Some, refl, sym, ap, ◌∙◌, subst, ⊎_elim, arith}
use Rattle.std.proofs.lemmas.Bool.{cases_lt, cases_Bool, false≢true}
use Rattle.std.proofs.lemmas.Option.{same_Some}
use Rattle.cse_image_parts.specs.declared.instruction.Instr.{Instr}
use Rattle.cse_code_typing.specs.declared.kind.Kind.{Kind}
use Rattle.cse_code_typing.specs.Rule.{Edge, Rule}
use Rattle.cse_code_typing.specs.Pass.{same_kinds}
use Rattle.cse_code_typing.specs.Typing.{Stacks, AgreesBelow, LeadsTo, IsLedTo, IsTypingBelow}
use Rattle.cse_code_typing.proofs.Merges.{same_kinds-eq, same_kinds-refl}

-- equal, where they can't differ
unless_apart : (a b : List Kind) → ((a ≡ b → ⊥) → ⊥) → a ≡ b
unless_apart a b never =
    ⊎_elim (λ same. same_kinds-eq a b same)
    (λ differ. absurd (never (λ e. false≢true (sym differ ∙ ap (same_kinds a) (sym e) ∙ same_kinds-refl a))))
    (cases_Bool (same_kinds a b))

both_agree : (n : ℕ) (t u : Stacks) (es : List Edge) (k : ℕ) → AgreesBelow n t es → AgreesBelow n u es → LeadsTo k es → k < n → t k ≡ u k
both_agree n t u [] k a b leads lt = absurd leads
both_agree n t u (e ∷ es) k a b leads lt =
    ⊎_elim
    (λ (here : e.0 ≡ k).
    let within : e.0 < n = subst (λ m. m < n) (sym here) lt in
    ap t (sym here) ∙ a.0 within ∙ sym (b.0 within) ∙ ap u here)
    (λ later. both_agree n t u es k a.1 b.1 later lt)
    leads

module _ (rule : Rule) (code : List Instr) (n : ℕ) where
  -- a place to which a smaller one leads, where the smaller ones have the same stacks
  led_same : (t u : Stacks) → IsTypingBelow rule code n t → IsTypingBelow rule code n u → (k : ℕ) → k < n → ((j : ℕ) → j < k → t j ≡ u j) → IsLedTo rule code t k → t k ≡ u k
  led_same t u typing other k lt before led =
      let smaller = led.smaller in
      let f = typing.follows led.from led.instr (omega arith) led.there in
      let g = other.follows led.from led.instr (omega arith) led.there in
      let fs : f.edges ≡ led.edges = same_Some f.edges led.edges (sym f.ruled ∙ led.ruled) in
      let gs : g.edges ≡ led.edges = same_Some g.edges led.edges (sym g.ruled ∙ ap (rule led.from led.instr) (sym (before led.from smaller)) ∙ led.ruled) in
      both_agree n t u led.edges k (subst (AgreesBelow n t) fs f.agrees) (subst (AgreesBelow n u) gs g.agrees) led.leads lt

  same_below : (t u : Stacks) → IsTypingBelow rule code n t → IsTypingBelow rule code n u → (m : ℕ) → m ≤ n → (k : ℕ) → k < m → t k ≡ u k
  same_below t u typing other zero le k lt = absurd (omega arith)
  same_below t u typing other (suc m) le k lt =
      let before : (j : ℕ) → j < m → t j ≡ u j = same_below t u typing other m (omega arith) in
      ⊎_elim (λ (l : k < m). before k l)
      (λ (l : m ≤ k).
      let within : k < n = omega arith in
      let smaller : (j : ℕ) → j < k → t j ≡ u j = λ j jl. before j (omega arith) in
      unless_apart (t k) (u k) (λ apart.
      let no_t = typing.others k within (λ led. apart (led_same t u typing other k within smaller led)) in
      let no_u = other.others k within (λ led. apart (sym (led_same u t other typing k within (λ j jl. sym (smaller j jl)) led))) in
      apart (no_t ∙ sym no_u)))
      (cases_lt k m)

  pub one_typing : (t u : Stacks) → IsTypingBelow rule code n t → IsTypingBelow rule code n u → (k : ℕ) → k < n → t k ≡ u k
  one_typing t u typing other k lt = same_below t u typing other n (omega arith) k lt
