-- A token is the longest one.
use Rattle.std.proofs.Common.{◌≡◌, ℕ, zero, suc, ◌+◌, ◌≤◌, ◌<◌, Bool, true, false, cond, ◌||◌, ◌&&◌, ◌==◌, List, [], ◌∷◌, length, take, drop, Option, Some, refl, sym, ap, subst, ◌∙◌, arith, inl, inr}
use Rattle.std.specs.Prelude.{nat_le}
use Rattle.std.specs.List.{prefix_len, count_by}
use Rattle.std.specs.Char.{is_ascii_alphabetic, is_ascii_digit}
use Rattle.std.proofs.lemmas.Option.{same_Some}
use Rattle.cse_syntax_tree.specs.declared.token.Kind.{Kind}
use Rattle.cse_syntax_tree.specs.declared.token.Mark.{Mark}
use Rattle.cse_syntax_tree.specs.Leaf.{begins, is_word_byte, is_inside, is_start}
use Rattle.cse_syntax.specs.Text.{symbol, symbol_at, text_len, token_at}
use Rattle.cse_syntax.proofs.Steps.{bind_some, if_some, test_some}

abbrev found : ℕ → Kind → Option (ℕ × Kind)
found n kind = Some (n, kind)

len_is : {a x : ℕ} {b y : Kind} → found a b ≡ found x y → a ≡ x
len_is e = ap (λ (q : ℕ × Kind). q.0) (same_Some _ _ e)

-- a run that goes to the end of a front
run_longest : (p : ℕ → Bool) (bs : List ℕ) (m : ℕ) → m ≤ length bs → prefix_len p (take m bs) ≡ m → m ≤ prefix_len p bs
run_longest p [] m le e = omega (arith, le)
run_longest p (b ∷ bs) zero le e = omega arith
run_longest p (b ∷ bs) (suc m) le e =
    let by : (x : Bool) → cond x (1 + prefix_len p (take m bs)) 0 ≡ suc m → suc m ≤ cond x (1 + prefix_len p bs) 0 = λ x. elim x as (λ x. cond x (1 + prefix_len p (take m bs)) 0 ≡ suc m → suc m ≤ cond x (1 + prefix_len p bs) 0) [
      | true ↦ λ h. let same : prefix_len p (take m bs) ≡ m = omega (arith, h) in omega (arith, run_longest p bs m (omega (arith, le)) same)
      | false ↦ λ h. absurd (omega (arith, h))
    ] in by (p b) e

-- a run that ends in a front
run_ends : (p : ℕ → Bool) (bs : List ℕ) (m : ℕ) → prefix_len p (take m bs) < m → m ≤ length bs → prefix_len p bs ≡ prefix_len p (take m bs)
run_ends p [] m lt le = absurd (omega (arith, lt, le))
run_ends p (b ∷ bs) zero lt le = absurd (omega (arith, lt))
run_ends p (b ∷ bs) (suc m) lt le =
    let by : (x : Bool) → cond x (1 + prefix_len p (take m bs)) 0 < suc m → cond x (1 + prefix_len p bs) 0 ≡ cond x (1 + prefix_len p (take m bs)) 0 = λ x. elim x as (λ x. cond x (1 + prefix_len p (take m bs)) 0 < suc m → cond x (1 + prefix_len p bs) 0 ≡ cond x (1 + prefix_len p (take m bs)) 0) [
      | true ↦ λ h. ap (λ (n : ℕ). 1 + n) (run_ends p bs m (omega (arith, h)) (omega (arith, le)))
      | false ↦ λ h. refl
    ] in by (p b) lt

run_case : (p : ℕ → Bool) (bs : List ℕ) (n m : ℕ) → prefix_len p bs ≡ n → prefix_len p (take m bs) ≡ m → n < m → m ≤ length bs → ⊥
run_case p bs n m e f lt le = omega (arith, e, lt, run_longest p bs m le f)

text_is : (q : ℕ) (bs : List ℕ) (n : ℕ) → text_len q bs ≡ Some n → prefix_len (is_inside q) bs + 2 ≡ n
text_is q bs n e = same_Some _ _ (test_some (begins q (drop (prefix_len (is_inside q) bs) bs) && nat_le (count_by is_start (take (prefix_len (is_inside q) bs) bs)) 255) (prefix_len (is_inside q) bs + 2) n e).1

text_case : (q : ℕ) (bs : List ℕ) (n m : ℕ) → text_len q bs ≡ Some n → text_len q (take m bs) ≡ Some (suc m) → n < suc m → m ≤ length bs → ⊥
text_case q bs n m e f lt le =
    let a = text_is q bs n e in
    let b = text_is q (take m bs) (suc m) f in
    let same = run_ends (is_inside q) bs m (omega (arith, b)) le in
    omega (arith, a, b, same, lt)

symbol_one : (b : ℕ) (bs : List ℕ) → symbol_at b (take 1 bs) ≡ symbol_at b bs
symbol_one b [] = refl
symbol_one b (c ∷ bs) = refl

symbol_small : (b : ℕ) (bs : List ℕ) (t : ℕ × Mark) → symbol_at b bs ≡ Some t → t.0 ≤ 2
symbol_small b bs t e =
    let two : (mark : Mark) → Some (2, mark) ≡ Some t → t.0 ≤ 2 = λ mark i. subst (λ (v : ℕ × Mark). v.0 ≤ 2) (same_Some _ _ i) (omega arith) in
    let one : (mark : Mark) → Some (1, mark) ≡ Some t → t.0 ≤ 2 = λ mark i. subst (λ (v : ℕ × Mark). v.0 ≤ 2) (same_Some _ _ i) (omega arith) in
    elim (if_some (b == 60) _ _ _ e) [
      | inl h ↦
          elim (if_some (begins 62 bs) _ _ _ h.1) [
            | inl i ↦ two _ i.1
            | inr i ↦ elim (if_some (begins 61 bs) _ _ _ i.1) [ inl k ↦ two _ k.1 | inr k ↦ one _ k.1 ]
          ]
      | inr h ↦
          elim (if_some (b == 62) _ _ _ h.1) [
            | inl i ↦ elim (if_some (begins 61 bs) _ _ _ i.1) [ inl k ↦ two _ k.1 | inr k ↦ one _ k.1 ]
            | inr i ↦ let m = bind_some (symbol b) _ _ i.1 in one m.0 m.2
          ]
    ]

symbol_case : (b : ℕ) (bs : List ℕ) (s t : ℕ × Mark) (m : ℕ) → symbol_at b bs ≡ Some s → symbol_at b (take m bs) ≡ Some t → 1 ≤ s.0 → s.0 < t.0 → t.0 ≡ suc m → ⊥
symbol_case b bs s t zero e f pos lt is = omega (arith, pos, lt, is)
symbol_case b bs s t (suc zero) e f pos lt is =
    let same : s ≡ t = same_Some _ _ (sym e ∙ sym (symbol_one b bs) ∙ f) in
    let len : s.0 ≡ t.0 = ap (λ (v : ℕ × Mark). v.0) same in
    omega (arith, len, lt)
symbol_case b bs s t (suc (suc m)) e f pos lt is = omega (arith, symbol_small b (take (suc (suc m)) bs) t f, is)

symbol_some : (b : ℕ) (bs : List ℕ) (t : ℕ × Mark) → symbol_at b bs ≡ Some t → 1 ≤ t.0
symbol_some b bs t e =
    let two : (mark : Mark) → Some (2, mark) ≡ Some t → 1 ≤ t.0 = λ mark i. subst (λ (v : ℕ × Mark). 1 ≤ v.0) (same_Some _ _ i) (omega arith) in
    let one : (mark : Mark) → Some (1, mark) ≡ Some t → 1 ≤ t.0 = λ mark i. subst (λ (v : ℕ × Mark). 1 ≤ v.0) (same_Some _ _ i) (omega arith) in
    elim (if_some (b == 60) _ _ _ e) [
      | inl h ↦
          elim (if_some (begins 62 bs) _ _ _ h.1) [
            | inl i ↦ two _ i.1
            | inr i ↦ elim (if_some (begins 61 bs) _ _ _ i.1) [ inl k ↦ two _ k.1 | inr k ↦ one _ k.1 ]
          ]
      | inr h ↦
          elim (if_some (b == 62) _ _ _ h.1) [
            | inl i ↦ elim (if_some (begins 61 bs) _ _ _ i.1) [ inl k ↦ two _ k.1 | inr k ↦ one _ k.1 ]
            | inr i ↦ let m = bind_some (symbol b) _ _ i.1 in one m.0 m.2
          ]
    ]

pub longest : (text : List ℕ) (n m : ℕ) (kind other : Kind) → token_at text ≡ Some (n, kind) → n < m → m ≤ length text → token_at (take m text) ≡ Some (m, other) → ⊥
unfolding token_at
longest [] n m kind other e lt le f = absurd cc
longest (b ∷ bs) n zero kind other e lt le f = omega (arith, lt)
longest (b ∷ bs) n (suc m) kind other e lt le f =
    elim (if_some (is_ascii_alphabetic b) _ _ _ e) [
      | inl h ↦
          elim (if_some (is_ascii_alphabetic b) _ _ _ f) [
            | inl g ↦ run_case is_word_byte (b ∷ bs) n (suc m) (len_is h.1) (len_is g.1) lt le
            | inr g ↦ absurd cc
          ]
      | inr h ↦
          elim (if_some (is_ascii_alphabetic b) _ _ _ f) [
            | inl g ↦ absurd cc
            | inr g ↦
                elim (if_some (is_ascii_digit b) _ _ _ h.1) [
                  | inl i ↦
                      elim (if_some (is_ascii_digit b) _ _ _ g.1) [
                        | inl k ↦ run_case is_ascii_digit (b ∷ bs) n (suc m) (len_is i.1) (len_is k.1) lt le
                        | inr k ↦ absurd cc
                      ]
                  | inr i ↦
                      elim (if_some (is_ascii_digit b) _ _ _ g.1) [
                        | inl k ↦ absurd cc
                        | inr k ↦
                            elim (if_some (b == 39 || b == 34) _ _ _ i.1) [
                              | inl t ↦
                                  elim (if_some (b == 39 || b == 34) _ _ _ k.1) [
                                    | inl u ↦
                                        let x = bind_some (text_len b bs) _ _ t.1 in
                                        let y = bind_some (text_len b (take m bs)) _ _ u.1 in
                                        text_case b bs n m (x.1 ∙ ap Some (len_is x.2)) (y.1 ∙ ap Some (len_is y.2)) lt (omega (arith, le))
                                    | inr u ↦ absurd cc
                                  ]
                              | inr t ↦
                                  elim (if_some (b == 39 || b == 34) _ _ _ k.1) [
                                    | inl u ↦ absurd cc
                                    | inr u ↦
                                        let x = bind_some (symbol_at b bs) _ _ t.1 in
                                        let y = bind_some (symbol_at b (take m bs)) _ _ u.1 in
                                        symbol_case b bs x.0 y.0 m x.1 y.1 (symbol_some b bs x.0 x.1) (omega (arith, len_is x.2, len_is y.2, lt)) (len_is y.2)
                                  ]
                            ]
                      ]
                ]
          ]
    ]
