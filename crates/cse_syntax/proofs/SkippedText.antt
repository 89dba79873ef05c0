-- What is skipped is blanks and comments, which nest.
use Rattle.std.proofs.Common.{◌≡◌, ℕ, zero, suc, Bool, true, false, cond, ◌&&◌, ◌==◌, List, [], ◌∷◌, ◌++◌, Option, Some, None, refl, sym, ap, subst, ◌∙◌, inl, inr, ◌⊎◌}
use Rattle.std.specs.List.{list_all}
use Rattle.std.proofs.lemmas.Bool.{eqb-true}
use Rattle.cse_syntax.specs.declared.lexer.Gap.{Gap}
use Rattle.cse_syntax.specs.declared.lexer.Gap.TheVariants as g
use Rattle.cse_syntax_tree.specs.Leaf.{begins, or_else}
use Rattle.cse_syntax.specs.Text.{is_blank, skip}
use Rattle.cse_syntax.specs.BlankText.{Inside, close, byte, nested, Blanks, nothing, blank, braces, line, last_line, spell_inside, spell_blanks, in_line, IsInside, AreBlanks}

abbrev Made : List ℕ → Type 0
Made bs = (x : Blanks) × AreBlanks x × (bs ≡ spell_blanks x)

-- the rest of a line, and what stands behind it
abbrev Lined : List ℕ → Type 0
Lined bs = (bytes : List ℕ) × (list_all in_line bytes ≡ true) × ((bs ≡ bytes) ⊎ ((x : Blanks) × AreBlanks x × (bs ≡ bytes ++ 10 ∷ spell_blanks x)))

-- the rest of a comment, and what stands behind it
abbrev Commented : (List ℕ → Type 0) → List ℕ → Type 0
Commented Behind bs = (x : Inside) × (rest : List ℕ) × IsInside x × (bs ≡ spell_inside x rest) × Behind rest

abbrev InBraces : ℕ → List ℕ → Type 0
InBraces zero bs = Commented Made bs
InBraces (suc n) bs = Commented (InBraces n) bs

abbrev From : Gap → List ℕ → Type 0
From g.Between bs = Made bs
From g.Slash bs = begins 47 bs ≡ true → Made (47 ∷ bs)
From g.Line bs = Lined bs
From (g.Braces n) bs = InBraces n bs

-- one byte in a comment
commented_byte : (Behind : List ℕ → Type 0) (b : ℕ) (bs : List ℕ) → (b == 123) ≡ false → (b == 125) ≡ false → Commented Behind bs → Commented Behind (b ∷ bs)
commented_byte Behind b bs h i c = (byte b c.0, c.1, (h, i, c.2), ap (λ (r : List ℕ). b ∷ r) c.3, c.4)

in_braces_byte : (n : ℕ) (b : ℕ) (bs : List ℕ) → (b == 123) ≡ false → (b == 125) ≡ false → InBraces n bs → InBraces n (b ∷ bs)
in_braces_byte zero b bs h i c = commented_byte Made b bs h i c
in_braces_byte (suc n) b bs h i c = commented_byte (InBraces n) b bs h i c

commented_nested : (Behind : List ℕ → Type 0) (b : ℕ) (bs : List ℕ) → b ≡ 123 → Commented (Commented Behind) bs → Commented Behind (b ∷ bs)
commented_nested Behind b bs h c =
    let words : b ∷ bs ≡ 123 ∷ spell_inside c.0 (spell_inside c.4.0 c.4.1) = ap (λ (v : ℕ). v ∷ bs) h ∙ ap (λ (r : List ℕ). 123 ∷ r) (c.3 ∙ ap (spell_inside c.0) c.4.3) in
    (nested c.0 c.4.0, c.4.1, (c.2, c.4.2), words, c.4.4)

in_braces_nested : (n : ℕ) (b : ℕ) (bs : List ℕ) → b ≡ 123 → InBraces (suc n) bs → InBraces n (b ∷ bs)
in_braces_nested zero b bs h c = commented_nested Made b bs h c
in_braces_nested (suc n) b bs h c = commented_nested (InBraces n) b bs h c

commented_close : (Behind : List ℕ → Type 0) (b : ℕ) (bs : List ℕ) → b ≡ 125 → Behind bs → Commented Behind (b ∷ bs)
commented_close Behind b bs h c = (close, bs, tt, ap (λ (v : ℕ). v ∷ bs) h, c)

made_braces : (b : ℕ) (bs : List ℕ) → b ≡ 123 → Commented Made bs → Made (b ∷ bs)
made_braces b bs h c =
    (braces c.0 c.4.0, (c.2, c.4.1), ap (λ (v : ℕ). v ∷ bs) h ∙ ap (λ (r : List ℕ). 123 ∷ r) (c.3 ∙ ap (spell_inside c.0) c.4.2))

lined_byte : (b : ℕ) (bs : List ℕ) → (b == 10) ≡ false → Lined bs → Lined (b ∷ bs)
lined_byte b bs h c = (
  b ∷ c.0,
  rw h c.1,
  elim c.2 [
    | inl e ↦ inl (ap (λ (r : List ℕ). b ∷ r) e)
    | inr e ↦ inr (e.0, e.1, ap (λ (r : List ℕ). b ∷ r) e.2)
  ],
)

lined_end : (b : ℕ) (bs : List ℕ) → b ≡ 10 → Made bs → Lined (b ∷ bs)
lined_end b bs h c = ([], refl, inr (c.0, c.1, ap (λ (v : ℕ). v ∷ bs) h ∙ ap (λ (r : List ℕ). 10 ∷ r) c.2))

made_line : (bs : List ℕ) → Lined bs → Made (47 ∷ 47 ∷ bs)
made_line bs c =
    elim c.2 [
      | inl e ↦ (last_line c.0, c.1, ap (λ (r : List ℕ). 47 ∷ 47 ∷ r) e)
      | inr e ↦ (line c.0 e.0, (c.1, e.1), ap (λ (r : List ℕ). 47 ∷ 47 ∷ r) e.2)
    ]

-- the text that a byte begins, by the state behind it
abbrev Continue : List ℕ → List ℕ → Option Gap → Type 0
Continue all bs o = or_else o (λ (d : Gap). skip d bs) (Some all) ≡ Some []

from : (bs : List ℕ) (state : Gap) → skip state bs ≡ Some [] → From state bs
from [] g.Between e = (nothing, tt, refl)
from [] g.Slash e = absurd cc
from [] g.Line e = ([], refl, inl refl)
from [] (g.Braces n) e = absurd cc
from (b ∷ bs) g.Between e =
    let slash : (x : Bool) → (b == 47) ≡ x → (y : Bool) → begins 47 bs ≡ y → Continue (b ∷ bs) bs (cond (x && y) (Some g.Slash) None) → Made (b ∷ bs) = λ x. elim x as (λ x. (b == 47) ≡ x → (y : Bool) → begins 47 bs ≡ y → Continue (b ∷ bs) bs (cond (x && y) (Some g.Slash) None) → Made (b ∷ bs)) [
      | true ↦ λ h y. elim y as (λ y. begins 47 bs ≡ y → Continue (b ∷ bs) bs (cond y (Some g.Slash) None) → Made (b ∷ bs)) [
        | true ↦ λ i e. subst (λ (v : ℕ). Made (v ∷ bs)) (sym (eqb-true b 47 h)) (from bs g.Slash e i)
        | false ↦ λ i e. absurd cc
      ]
      | false ↦ λ h y i e. absurd cc
    ] in
    let blanks : (x : Bool) → is_blank b ≡ x → Continue (b ∷ bs) bs (cond x (Some g.Between) (cond ((b == 47) && begins 47 bs) (Some g.Slash) None)) → Made (b ∷ bs) = λ x. elim x as (λ x. is_blank b ≡ x → Continue (b ∷ bs) bs (cond x (Some g.Between) (cond ((b == 47) && begins 47 bs) (Some g.Slash) None)) → Made (b ∷ bs)) [
      | true ↦ λ h e. let m = from bs g.Between e in (blank b m.0, (h, m.1), ap (λ (r : List ℕ). b ∷ r) m.2)
      | false ↦ λ h e. slash (b == 47) refl (begins 47 bs) refl e
    ] in
    let by : (x : Bool) → (b == 123) ≡ x → Continue (b ∷ bs) bs (cond x (Some (g.Braces 0)) (cond (is_blank b) (Some g.Between) (cond ((b == 47) && begins 47 bs) (Some g.Slash) None))) → Made (b ∷ bs) = λ x. elim x as (λ x. (b == 123) ≡ x → Continue (b ∷ bs) bs (cond x (Some (g.Braces 0)) (cond (is_blank b) (Some g.Between) (cond ((b == 47) && begins 47 bs) (Some g.Slash) None))) → Made (b ∷ bs)) [
      | true ↦ λ h e. made_braces b bs (eqb-true b 123 h) (from bs (g.Braces 0) e)
      | false ↦ λ h e. blanks (is_blank b) refl e
    ] in by (b == 123) refl e
from (b ∷ bs) g.Slash e = λ t. subst (λ (v : ℕ). Made (47 ∷ v ∷ bs)) (sym (eqb-true b 47 t)) (made_line bs (from bs g.Line e))
from (b ∷ bs) g.Line e =
    let by : (x : Bool) → (b == 10) ≡ x → Continue (b ∷ bs) bs (cond x (Some g.Between) (Some g.Line)) → Lined (b ∷ bs) = λ x. elim x as (λ x. (b == 10) ≡ x → Continue (b ∷ bs) bs (cond x (Some g.Between) (Some g.Line)) → Lined (b ∷ bs)) [
      | true ↦ λ h e. lined_end b bs (eqb-true b 10 h) (from bs g.Between e)
      | false ↦ λ h e. lined_byte b bs h (from bs g.Line e)
    ] in by (b == 10) refl e
from (b ∷ bs) (g.Braces zero) e =
    let other : (x : Bool) → (b == 123) ≡ false → (b == 125) ≡ x → Continue (b ∷ bs) bs (cond x (Some g.Between) (Some (g.Braces 0))) → InBraces 0 (b ∷ bs) = λ x. elim x as (λ x. (b == 123) ≡ false → (b == 125) ≡ x → Continue (b ∷ bs) bs (cond x (Some g.Between) (Some (g.Braces 0))) → InBraces 0 (b ∷ bs)) [
      | true ↦ λ i h e. commented_close Made b bs (eqb-true b 125 h) (from bs g.Between e)
      | false ↦ λ i h e. in_braces_byte 0 b bs i h (from bs (g.Braces 0) e)
    ] in
    let by : (x : Bool) → (b == 123) ≡ x → Continue (b ∷ bs) bs (cond x (Some (g.Braces 1)) (cond (b == 125) (Some g.Between) (Some (g.Braces 0)))) → InBraces 0 (b ∷ bs) = λ x. elim x as (λ x. (b == 123) ≡ x → Continue (b ∷ bs) bs (cond x (Some (g.Braces 1)) (cond (b == 125) (Some g.Between) (Some (g.Braces 0)))) → InBraces 0 (b ∷ bs)) [
      | true ↦ λ h e. in_braces_nested 0 b bs (eqb-true b 123 h) (from bs (g.Braces 1) e)
      | false ↦ λ h e. other (b == 125) h refl e
    ] in by (b == 123) refl e
from (b ∷ bs) (g.Braces (suc n)) e =
    let other : (x : Bool) → (b == 123) ≡ false → (b == 125) ≡ x → Continue (b ∷ bs) bs (cond x (Some (g.Braces n)) (Some (g.Braces (suc n)))) → InBraces (suc n) (b ∷ bs) = λ x. elim x as (λ x. (b == 123) ≡ false → (b == 125) ≡ x → Continue (b ∷ bs) bs (cond x (Some (g.Braces n)) (Some (g.Braces (suc n)))) → InBraces (suc n) (b ∷ bs)) [
      | true ↦ λ i h e. commented_close (InBraces n) b bs (eqb-true b 125 h) (from bs (g.Braces n) e)
      | false ↦ λ i h e. in_braces_byte (suc n) b bs i h (from bs (g.Braces (suc n)) e)
    ] in
    let by : (x : Bool) → (b == 123) ≡ x → Continue (b ∷ bs) bs (cond x (Some (g.Braces (suc (suc n)))) (cond (b == 125) (Some (g.Braces n)) (Some (g.Braces (suc n))))) → InBraces (suc n) (b ∷ bs) = λ x. elim x as (λ x. (b == 123) ≡ x → Continue (b ∷ bs) bs (cond x (Some (g.Braces (suc (suc n)))) (cond (b == 125) (Some (g.Braces n)) (Some (g.Braces (suc n))))) → InBraces (suc n) (b ∷ bs)) [
      | true ↦ λ h e. in_braces_nested (suc n) b bs (eqb-true b 123 h) (from bs (g.Braces (suc (suc n))) e)
      | false ↦ λ h e. other (b == 125) h refl e
    ] in by (b == 123) refl e

pub skipped : (gap : List ℕ) → skip g.Between gap ≡ Some [] → (x : Blanks) × AreBlanks x × (gap ≡ spell_blanks x)
skipped gap e = from gap g.Between e
