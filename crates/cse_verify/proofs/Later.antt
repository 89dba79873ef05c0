-- A jump to a later place with the same brackets around it skips steps and adds none.
use Rattle.std.proofs.Common.{◌≡◌, ℕ, zero, suc, ◌+◌, ◌*◌, ◌<◌, ◌≤◌, List, length, get_or, Some, None, refl, sym, ap, ◌∙◌, ⊎_elim, ◌≢◌, arith}
use Rattle.std.specs.Prelude.{slice_get}
use Rattle.std.proofs.lemmas.Option.{same_Some, slice_get_within}
use Rattle.std.proofs.lemmas.Bool.{cases_eq}
use Rattle.cse_lemmas.proofs.Lists.{slice_get_some}
use Rattle.cse_code_typing.specs.declared.control.Control.{Control}
use Rattle.cse_code_typing.specs.declared.control.Control.TheVariants.{Step, Jump, Branch, Open, End, Break, Call, Return}
use Rattle.cse_code_typing.specs.Bracket.{named_end, named_opener, IsBracket, around, KeepsRules}
use Rattle.cse_code_typing.proofs.Around.{around_behind, around_plain, begins_between, ends_between, ends_within}
use Rattle.cse_verify.specs.Rest.{steps_from, tail}
use Rattle.cse_verify.proofs.Tails.{tail_at, no_begin, no_end, fine_at, last_at, nested_in}

module _ (bounds : List ℕ) (code : List Control) (keeps : KeepsRules code) where
  pub tail_plain : (q : ℕ) (i : Control) → slice_get code q ≡ Some i → named_end (Some i) ≡ None → tail bounds code q ≡ steps_from bounds (tail bounds code) q i
  tail_plain q i at n = tail_at bounds code q i at (λ e h. absurd (let m = n in cc))

  pub tail_opener : (q b e : ℕ) → slice_get code q ≡ Some (Open b e) → tail bounds code q ≡ 1 + b * tail bounds code (suc q) + tail bounds code (suc e)
  tail_opener q b e at =
      tail_at bounds code q (Open b e) at (λ f h. let ef : e ≡ f = same_Some e f h in let o = (fine_at code keeps q (Open b e) at).bracket in omega (arith, o.0))

  step_plain : (q c : ℕ) (i : Control) → ((d : ℕ) → q < d → d ≤ c → around code c ≡ around code d → tail bounds code c ≤ tail bounds code d) → slice_get code q ≡ Some i → named_end (Some i) ≡ None → named_opener (Some i) ≡ None → q < c → around code c ≡ around code q → (k : ℕ) → steps_from bounds (tail bounds code) q i ≡ 1 + k + tail bounds code (suc q) → tail bounds code c ≤ tail bounds code q
  step_plain q c i go at nb ne lt same k w =
      let next = around_plain code q (no_begin code q i at nb) (no_end code q i at ne) in
      let h = go (suc q) (omega arith) (omega arith) (same ∙ sym next) in
      let t = tail_plain q i at nb in
      omega arith

  -- one place on, or behind a bracket that begins here; go is the claim from there
  step_over : (q c : ℕ) (i : Control) → ((d : ℕ) → q < d → d ≤ c → around code c ≡ around code d → tail bounds code c ≤ tail bounds code d) → slice_get code q ≡ Some i → q < c → around code c ≡ around code q → tail bounds code c ≤ tail bounds code q
  step_over q c (Open b e) go at lt same =
      let br = (fine_at code keeps q (Open b e) at).bracket in
      let l : e < c = begins_between code q c e same br lt in
      let h = go (suc e) (omega (arith, br.0)) (omega arith) (same ∙ sym (around_behind code (nested_in code keeps) q e br)) in
      let t = tail_opener q b e at in
      omega arith
  step_over q c (End s) go at lt same = absurd (ends_between code (nested_in code keeps) q c s same (fine_at code keeps q (End s) at) lt)
  step_over q c (Call d) go at lt same = step_plain q c (Call d) go at refl refl lt same (get_or bounds d 0) refl
  step_over q c Step go at lt same = step_plain q c Step go at refl refl lt same 0 refl
  step_over q c (Jump d) go at lt same = step_plain q c (Jump d) go at refl refl lt same 0 refl
  step_over q c (Branch d) go at lt same = step_plain q c (Branch d) go at refl refl lt same 0 refl
  step_over q c (Break d) go at lt same = step_plain q c (Break d) go at refl refl lt same 0 refl
  step_over q c Return go at lt same = step_plain q c Return go at refl refl lt same 0 refl

  tail_later : (n q c : ℕ) → c ≤ q + n → q ≤ c → c < length code → around code c ≡ around code q → tail bounds code c ≤ tail bounds code q
  tail_later zero q c near le lt same = let e : c ≡ q = omega arith in let f = ap (tail bounds code) e in omega arith
  tail_later (suc n) q c near le lt same =
      ⊎_elim
      (λ (e : q ≡ c). let f = ap (tail bounds code) e in omega arith)
      (λ ne.
      let here = slice_get_some code q (omega arith) in
      step_over q c here.0 (λ d a b k. tail_later n d c (omega arith) b lt k) here.1 (omega arith) same)
      (cases_eq q c)

  -- a jump from p to c takes at least one step off
  pub tail_jump : (p c : ℕ) (i : Control) → slice_get code p ≡ Some i → named_end (Some i) ≡ None → named_opener (Some i) ≡ None → steps_from bounds (tail bounds code) p i ≡ 1 + tail bounds code (suc p) → p < c → c < length code → around code c ≡ around code p → tail bounds code c < tail bounds code p
  tail_jump p c i at nb ne w lt within same =
      let next = around_plain code p (no_begin code p i at nb) (no_end code p i at ne) in
      let h = tail_later c (suc p) c (omega arith) (omega arith) within (same ∙ sym next) in
      let t = tail_plain p i at nb in
      omega arith

  -- behind a bracket there is more code
  pub behind_within : (s e : ℕ) → IsBracket code s e → suc e < length code
  behind_within s e b =
      let here = slice_get_some code e (ends_within code s e b) in
      let at : slice_get code e ≡ Some here.0 = here.1 in
      let ne : suc e ≢ length code =
      λ k. let l : here.0 ≡ Return = last_at code keeps e here.0 at (omega arith) in
      let m : named_opener (slice_get code e) ≡ None = ap named_opener at ∙ ap (λ i. named_opener (Some i)) l in
      let h = b.2 in cc
      in
      let w : e < length code = ends_within code s e b in
      omega arith

  -- and behind any place but that of a return
  pub next_within : (p : ℕ) (i : Control) → slice_get code p ≡ Some i → i ≢ Return → suc p < length code
  next_within p i at ne =
      let w = slice_get_within code p i at in
      let no : suc p ≢ length code = λ k. ne (last_at code keeps p i at (omega arith)) in
      omega arith
