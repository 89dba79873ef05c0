-- The first line of a text.
use Rattle.std.proofs.Common.{◌≡◌, ◌≢◌, ℕ, zero, suc, ◌+◌, ◌<◌, false, eqb, List, [], ◌∷◌, length, take, drop, get_or, Option, Some, None, refl, ap, ◌∙◌, arith, add-one}
use Rattle.std.specs.Prelude.{MatchOption}
use Rattle.std.proofs.lemmas.Bool.{cond-true, cond-false, eq-eqb, ne_eqb, eqb-true}
use Rattle.memchr.specs.Find.{IsFirstByte, is_byte}
use Rattle.cse_decks.specs.Loading.{Cut, joined, cut}

abbrev first_line : List ℕ → Cut → Cut
first_line line more = record { lines = line ∷ more.lines; rest = more.rest }

cut_none : (text : List ℕ) → ((k : ℕ) → k < length text → get_or text k 0 ≢ 10) → cut text ≡ record { lines = []; rest = text }
cut_none [] h = refl
cut_none (c ∷ cs) h =
    let other : eqb c 10 ≡ false = ne_eqb c 10 (h 0 (omega arith)) in
    let more = cut_none cs (λ k lt. h (suc k) (omega arith)) in
    cond-false (eqb c 10) (first_line [] (cut cs)) (joined c (cut cs).lines (cut cs).rest) other ∙ ap (λ (r : Cut). joined c r.lines r.rest) more

pub cut_at : (text : List ℕ) (i : ℕ) → i < length text → get_or text i 0 ≡ 10 → ((k : ℕ) → k < i → get_or text k 0 ≢ 10) → cut text ≡ first_line (take i text) (cut (drop (suc i) text))
cut_at [] i h at before = absurd (omega arith)
cut_at (c ∷ cs) zero h at before = cond-true (eqb c 10) (first_line [] (cut cs)) (joined c (cut cs).lines (cut cs).rest) (eq-eqb c 10 at)
cut_at (c ∷ cs) (suc i) h at before =
    let other : eqb c 10 ≡ false = ne_eqb c 10 (before 0 (omega arith)) in
    let more = cut_at cs i (omega arith) at (λ k lt. before (suc k) (omega arith)) in
    cond-false (eqb c 10) (first_line [] (cut cs)) (joined c (cut cs).lines (cut cs).rest) other ∙ ap (λ (r : Cut). joined c r.lines r.rest) more

pub line_end_is : (text : List ℕ) (r : Option ℕ) → IsFirstByte (is_byte 10) text r
    → MatchOption r (cut text ≡ record { lines = []; rest = text }) (λ i. (i < length text) × (cut text ≡ first_line (take i text) (cut (drop (i + 1) text))))
line_end_is text None h = cut_none text (λ k lt e. h k (omega arith) lt (eq-eqb (get_or text k 0) 10 e))
line_end_is text (Some i) h = (h.0.high, rw add-one (cut_at text i h.0.high (eqb-true (get_or text i 0) 10 h.1) (λ k lt e. h.0.before k (omega arith) lt (eq-eqb (get_or text k 0) 10 e))))
