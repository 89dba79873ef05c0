-- The upgrade of a program of version 1 and its code as it stands name the same limits.
use Rattle.std.proofs.Common.{◌≡◌, ℕ, zero, suc, ◌-◌, ◌<◌, ◌≤◌, ◌^◌, Bool, true, false, cond, ltb, eqb, List, [], ◌∷◌, Some, refl, sym, ap, ◌∙◌, subst, ⊎_elim, arith}
use Rattle.std.specs.Prelude.{slice_get, not, ◌&&◌}
use Rattle.std.specs.List.{AllByRecursion}
use Rattle.std.proofs.lemmas.Bool.{and_parts, cases_Bool, cases_eq, cond-true, cond-false, lt-ltb, ltb-true, ltb-false, eq-eqb, false≢true}
use Rattle.cse_lemmas.proofs.Lists.{slice_get-range_with_len}
use Rattle.cse_image_parts.specs.declared.instruction.Instr.{Instr}
use Rattle.cse_image_parts.specs.declared.instruction.Op.{Op}
use Rattle.cse_image_parts.specs.declared.instruction.Op.TheVariants as ops
use Rattle.cse_image_parts.specs.declared.version.Version.TheVariants as versions
use Rattle.cse_image_parts.specs.Versions.{is_counting}
use Rattle.cse_image_parts.specs.Opcodes.{shape, lies_in}
use Rattle.cse_image_parts.specs.Upgrade.{greater, own_limit, greatest_limit, one_to, zero_below, upgrade_instr}
use Rattle.cse_image_parts.specs.Turns.{limit_of}
use Rattle.cse_image_parts.proofs.UpgradeLaws.{at_most_greatest}
use Rattle.cse_image.specs.Spelling.{InstrFits}
use Rattle.cse_code_typing.proofs.Twins.{FindsSame, AreTwins, AllTwins}

-- the limit b is at the place one less in 1, 2, .., and at its own in 0, 1, ..
same_limit : (n b : ℕ) → 1 ≤ b → b ≤ n → b < 65536 → limit_of (one_to n) (b - 1) ≡ limit_of (zero_below 65536) b
unfolding one_to zero_below
same_limit n b some le small =
    slice_get-range_with_len 1 n (b - 1) (omega arith) ∙ ap Some (omega arith) ∙ sym (slice_get-range_with_len 0 65536 b small)

left_greater : (a b : ℕ) → a ≤ greater a b
left_greater a b =
    ⊎_elim
    (λ (less : ltb a b ≡ true). let lt = ltb-true a b less in let is : greater a b ≡ b = cond-true (ltb a b) b a less in omega arith)
    (λ (more : ltb a b ≡ false). let is : greater a b ≡ a = cond-false (ltb a b) b a more in omega arith)
    (cases_Bool (ltb a b))

right_greater : (a b : ℕ) → b ≤ greater a b
right_greater a b =
    ⊎_elim
    (λ (less : ltb a b ≡ true). let is : greater a b ≡ b = cond-true (ltb a b) b a less in omega arith)
    (λ (more : ltb a b ≡ false). let le : b ≤ a = ltb-false a b more in let is : greater a b ≡ a = cond-false (ltb a b) b a more in omega arith)
    (cases_Bool (ltb a b))

fits_there : (code : List Instr) (p : ℕ) (j : Instr) → AllByRecursion (InstrFits versions.One) code → slice_get code p ≡ Some j → InstrFits versions.One j
fits_there [] p j all at = cc
fits_there (x ∷ code) zero j all at = let same : x ≡ j = cc in subst (InstrFits versions.One) same all.0
fits_there (x ∷ code) (suc p) j all at = fits_there code p j all.1 at

not_true : (b : Bool) → not b ≡ true → b ≡ true → ⊥
not_true true h e = cc
not_true false h e = cc

-- a counting loop of version 1 has a limit of 1 at least
some_limit : (j : Instr) → is_counting j.op ≡ true → InstrFits versions.One j → 1 ≤ j.b
some_limit j is h =
    let p = and_parts (lies_in (shape j.op).b j.b) (not (is_counting j.op && eqb j.b 0)) h.b in
    ⊎_elim
    (λ (zero_b : j.b ≡ 0). absurd (not_true (is_counting j.op && eqb j.b 0) p.1 (ap (λ c. c && eqb j.b 0) is ∙ eq-eqb j.b 0 zero_b)))
    (λ (some : j.b ≡ 0 → ⊥). omega arith)
    (cases_eq j.b 0)

-- only one opcode counts
finds : (l m : List ℕ) (op : Op) (b : ℕ) → is_counting op ≡ true → limit_of l (b - 1) ≡ limit_of m b → FindsSame l m op (b - 1) b
finds l m ops.LoopCount b is same = same
finds l m op b is same = absurd (false≢true is)

keeps_b : (l m : List ℕ) (op : Op) (b : ℕ) → is_counting op ≡ false → FindsSame l m op b b
keeps_b l m ops.LoopCount b is = absurd (false≢true (sym is))
keeps_b l m op b is = refl

counted : (l m : List ℕ) (j : Instr) → is_counting j.op ≡ true → limit_of l (j.b - 1) ≡ limit_of m j.b → AreTwins l m (upgrade_instr j) j
counted l m j is same =
    subst (λ (i : Instr). AreTwins l m i j) (sym (cond-true (is_counting j.op) (record { op = j.op; a = j.a; b = j.b - 1; c = j.c }) j is))
    (record { op = refl; a = refl; b = finds l m j.op j.b is same; c = refl })

others : (l m : List ℕ) (j : Instr) → is_counting j.op ≡ false → AreTwins l m (upgrade_instr j) j
others l m j is =
    subst (λ (i : Instr). AreTwins l m i j) (sym (cond-false (is_counting j.op) (record { op = j.op; a = j.a; b = j.b - 1; c = j.c }) j is))
    (record { op = refl; a = refl; b = keeps_b l m j.op j.b is; c = refl })

own_is : (j : Instr) → is_counting j.op ≡ true → own_limit j ≡ j.b
own_is j is = cond-true (is_counting j.op) j.b 0 is

pub upgrade_twins : (code : List Instr) → AllByRecursion (InstrFits versions.One) code → AllTwins upgrade_instr (one_to (greatest_limit code)) (zero_below 65536) code
upgrade_twins code all = record {
  each = λ p j at.
      let h = fits_there code p j all at in
      ⊎_elim
      (λ (is : is_counting j.op ≡ true).
      let up = at_most_greatest code p j at in
      let own = own_is j is in
      let some = some_limit j is h in
      let small : j.b < 2 ^ 16 = h.b_size in
      counted (one_to (greatest_limit code)) (zero_below 65536) j is (same_limit (greatest_limit code) j.b some (omega arith) (omega arith)))
      (λ (is : is_counting j.op ≡ false). others (one_to (greatest_limit code)) (zero_below 65536) j is)
      (cases_Bool (is_counting j.op));
}
