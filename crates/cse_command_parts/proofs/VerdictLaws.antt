-- What `verify` prints of the routines of a program, line by line.
use Rattle.std.proofs.Common.{◌≡◌, ℕ, zero, suc, ◌+◌, ◌<◌, ◌≤◌, List, [], ◌++◌, refl, ap, sym, ◌∙◌, subst, arith, inl, inr, add-one, append_assoc}
use Rattle.cse_value.specs.Device.{Appends}
use Rattle.cse_value.proofs.WriteLaws.{Appends-nil, Appends-trans}
use Rattle.std.proofs.lemmas.Bool.{cases_lt}
use Rattle.std.proofs.lemmas.List.{append-nil}
use Rattle.cse_value.specs.Writing.{AppendsFront}
use Rattle.cse_value.proofs.WriteLaws.{AppendsFront-more, AppendsFront-after}
use Rattle.cse_image_parts.specs.Image.{Image}
use Rattle.cse_verify.specs.Bound.{bound}
use Rattle.cse_verify.specs.declared.depth.Depth.{Depth}
use Rattle.cse_command_parts.specs.Verdict.{routine_line, routine_lines, last_lines}

-- before the first line
pub no_lines : (x : Image) (a : List ℕ) → Appends a a (routine_lines x 0)
unfolding routine_lines
no_lines x a = Appends-nil a

lines_more : (x : Image) (n : ℕ) → routine_lines x (suc n) ≡ routine_lines x n ++ routine_line n (bound x n)
unfolding routine_lines
lines_more x n = refl

-- one line more
pub line_more : (x : Image) (n r steps : ℕ) (a b c : List ℕ) → r ≡ n → steps ≡ bound x r → Appends a b (routine_lines x n) → Appends b c (routine_line r steps)
    → Appends a c (routine_lines x (n + 1))
line_more x n r steps a b c e told before line =
    let known : steps ≡ bound x n = told ∙ ap (bound x) e in
    let same : routine_line r steps ≡ routine_line n (bound x n) = ap (λ k. routine_line k steps) e ∙ ap (routine_line n) known in
    rw add-one (subst (λ l. Appends a c l) (ap (λ l. routine_lines x n ++ l) same ∙ sym (lines_more x n)) (Appends-trans a b c (routine_lines x n) (routine_line r steps) before line))

-- the lines of more routines begin with those of fewer
lines_rest : (x : Image) (n m : ℕ) → n ≤ m → (rest : List ℕ) × (routine_lines x m ≡ routine_lines x n ++ rest)
lines_rest x n zero h = let none : n ≡ 0 = omega arith in ([], ap (routine_lines x) (sym none) ∙ sym (append-nil (routine_lines x n)))
lines_rest x n (suc m) h =
    elim (cases_lt m n) [
      | inl past ↦ let same : n ≡ suc m = omega arith in ([], ap (routine_lines x) (sym same) ∙ sym (append-nil (routine_lines x n)))
      | inr more ↦ let r = lines_rest x n m more in
          (r.0 ++ routine_line m (bound x m), lines_more x m ∙ ap (λ l. l ++ routine_line m (bound x m)) r.1 ∙ append_assoc (routine_lines x n) r.0 (routine_line m (bound x m)))
    ]

-- a line that was not written whole
pub line_front : (x : Image) (n m r steps : ℕ) (a b c : List ℕ) → r ≡ n → steps ≡ bound x r → n < m → Appends a b (routine_lines x n) → AppendsFront b c (routine_line r steps)
    → AppendsFront a c (routine_lines x m)
line_front x n m r steps a b c e told h before front =
    let known : steps ≡ bound x n = told ∙ ap (bound x) e in
    let same : routine_line r steps ≡ routine_line n (bound x n) = ap (λ k. routine_line k steps) e ∙ ap (routine_line n) known in
    let two = AppendsFront-after a b c (routine_lines x n) (routine_line r steps) before front in
    let rest = lines_rest x (suc n) m (omega arith) in
    let whole : (routine_lines x n ++ routine_line r steps) ++ rest.0 ≡ routine_lines x m =
    ap (λ l. (routine_lines x n ++ l) ++ rest.0) same ∙ ap (λ l. l ++ rest.0) (sym (lines_more x n)) ∙ sym rest.1 in
    subst (λ l. AppendsFront a c l) whole (AppendsFront-more a c (routine_lines x n ++ routine_line r steps) rest.0 two)

-- the last lines, by equal numbers
pub last_same : (case known run run_known : ℕ) (d : Depth) → case ≡ known → run ≡ run_known → last_lines case run d ≡ last_lines known run_known d
last_same case known run run_known d e f = ap (λ n. last_lines n run d) e ∙ ap (λ n. last_lines known n d) f
