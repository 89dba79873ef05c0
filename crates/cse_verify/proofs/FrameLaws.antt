-- How the number of open brackets changes from one place to the next.
use Rattle.std.proofs.Common.{◌≡◌, ℕ, suc, ◌+◌, ◌*◌, ◌-◌, ◌<◌, ◌≤◌, List, [], ◌∷◌, length, drop, Some, refl, sym, ap, ◌∙◌, arith}
use Rattle.std.specs.Prelude.{slice_get, max}
use Rattle.std.proofs.lemmas.Option.{slice_get_within}
use Rattle.cse_code_typing.specs.declared.control.Control.{Control}
use Rattle.cse_code_typing.specs.declared.control.Control.TheVariants.{Open, End}
use Rattle.cse_code_typing.specs.Bracket.{around, IsNestedBelow, KeepsRulesAt, KeepsRules}
use Rattle.cse_code_typing.proofs.Around.{nested_before, around_start}
use Rattle.cse_code_typing.proofs.Checks.{pass_shallow, pass_opener, pass_some, pass_end, pass_plain}
use Rattle.cse_verify.specs.Frames.{frames_in_call, most_frames}

-- what a pass has at the place p
pub record AreOpen (table : List ℕ) (code : List Control) (p open_here most : ℕ) : Type 0 where
  pub open_is : open_here ≡ length (around code p)
  pub most_is : most ≡ most_frames table code p
  pub few : open_here ≤ 64
  pub small : most ≤ 64 * (length table + 1)

pub open_at_start : (table : List ℕ) (code : List Control) → AreOpen table code 0 0 0
unfolding most_frames
open_at_start table code = record { open_is = sym (ap (λ (l : List ℕ). length l) (around_start code)); most_is = refl; few = omega arith; small = omega arith }

pub open_next : (table : List ℕ) (code : List Control) (p open_here most call next greater : ℕ) (i : Control) → AreOpen table code p open_here most → slice_get code p ≡ Some i → call ≡ frames_in_call table (Some i) → call ≤ 64 * length table
    → next ≡ length (around code (suc p)) → next ≤ 64 → greater ≡ max most (open_here + call) → AreOpen table code (p + 1) next greater
unfolding most_frames
open_next table code p open_here most call next greater i at there value small passed few is =
    let one : suc p ≡ p + 1 = omega arith in
    let a = at.few in
    let b = at.small in
    let here : open_here + call ≡ length (around code p) + frames_in_call table (slice_get code p) =
    ap (λ n. n + call) at.open_is ∙ ap (λ n. length (around code p) + n) (value ∙ ap (frames_in_call table) (sym there))
    in
    let more : max most (open_here + call) ≡ most_frames table code (suc p) =
    ap (λ n. max n (open_here + call)) at.most_is ∙ ap (λ n. max (most_frames table code p) n) here
    in
    record {
      open_is = passed ∙ ap (λ k. length (around code k)) one;
      most_is = is ∙ more ∙ ap (most_frames table code) one;
      few = few;
      small = omega arith;
    }

length_rest : (l : List ℕ) → (l ≡ [] → ⊥) → (length (drop 1 l) ≡ length l - 1) × (0 < length l)
length_rest [] some = absurd (some refl)
length_rest (s ∷ ss) some = (omega arith, omega arith)

module _ (code : List Control) (keeps : KeepsRules code) (p : ℕ) (i : Control) (at : slice_get code p ≡ Some i) where
  here : KeepsRulesAt code p
  here = keeps p (slice_get_within code p i at)

  nest : IsNestedBelow code p
  nest = nested_before code p (λ q lt j there. (keeps q (slice_get_within code q j there) j there).0)

  pub one_more : (b e : ℕ) → i ≡ Open b e → (suc (length (around code p)) ≡ length (around code (suc p))) × (length (around code p) < 64)
  one_more b e opens =
      let there = at ∙ ap Some opens in (
        ap (λ (l : List ℕ). length l) (pass_opener code p nest here b e (around code p) (p ∷ around code p) there refl refl),
        pass_shallow code p nest here b e (around code p) there refl,
      )

  pub one_less : (s : ℕ) → i ≡ End s → (length (around code p) - 1 ≡ length (around code (suc p))) × (0 < length (around code p))
  one_less s ends =
      let there = at ∙ ap Some ends in
      let rest = length_rest (around code p) (pass_some code p nest here s (around code p) there refl) in
      (sym rest.0 ∙ ap (λ (l : List ℕ). length l) (pass_end code p nest here s (around code p) (drop 1 (around code p)) there refl refl), rest.1)

  pub no_change : ((b e : ℕ) → i ≡ Open b e → ⊥) → ((s : ℕ) → i ≡ End s → ⊥) → length (around code p) ≡ length (around code (suc p))
  no_change no_open no_end = ap (λ (l : List ℕ). length l) (pass_plain code p nest here i (around code p) at refl no_open no_end)
