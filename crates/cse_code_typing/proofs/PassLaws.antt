-- The pass over the places of a routine: what it has found when it comes to a place.
use Rattle.std.proofs.Common.{◌≡◌, ℕ, zero, suc, ◌+◌, ◌<◌, ◌≤◌, Bool, true, false, List, [], ◌∷◌, length, replicate, Option, Some, None, refl, sym, ap, ◌∙◌, subst, ⊎_elim, arith}
use Rattle.std.specs.Prelude.{slice_get, if◌then◌else◌}
use Rattle.std.specs.List.{list_any}
use Rattle.std.proofs.lemmas.Bool.{cases_lt}
use Rattle.std.proofs.lemmas.Option.{same_Some, slice_get-map, slice_get_within}
use Rattle.std.specs.Option.{option_map}
use Rattle.cse_image_parts.specs.declared.instruction.Instr.{Instr}
use Rattle.cse_code_typing.specs.declared.control.Control.{Control}
use Rattle.cse_code_typing.specs.declared.piles.PileEntry.{PileEntry}
use Rattle.cse_code_typing.specs.declared.piles.Expected.{Expected}
use Rattle.cse_code_typing.specs.declared.piles.Expected.TheVariants as numbered
use Rattle.cse_code_typing.specs.Skeleton.{control, skeleton}
use Rattle.cse_code_typing.specs.Bracket.{around, KeepsRules, KeepsRulesAt, IsNestedBelow}
use Rattle.cse_code_typing.specs.Signature.{Scene, loops_over}
use Rattle.cse_code_typing.specs.Rule.{rule, rule_by}
use Rattle.cse_code_typing.specs.Calls.{may_stand, MayStandBelow}
use Rattle.cse_code_typing.specs.Pass.{Free, Known, pass_at}
use Rattle.cse_code_typing.specs.Edges.{known_of}
use Rattle.cse_code_typing.specs.Within.{AreWithin, IsWithin, expected_in}
use Rattle.cse_code_typing.specs.Judged.{StopsAtInstr, StopsAtStack, Judges}
use Rattle.cse_code_typing.proofs.Around.{around_start, nested_before}
use Rattle.cse_code_typing.proofs.Sound.{IsKnown, next_known, typing_found, no_stack, first_known}

-- what is at hand at place p
pub record IsPassed (s : Scene) (r : ℕ) (code : List Instr) (openers : List ℕ) (piles : List PileEntry) (known : List Expected) (p : ℕ) : Type 0 where
  pub openers_are : openers ≡ around (skeleton s.lists code) p
  pub within : AreWithin (length piles) known
  pub known_is : IsKnown (rule s code) code p (known_of piles known)
  pub calls : MayStandBelow s.lists.routines r s.routine.ambient code p

free_within : (m n k : ℕ) → IsWithin m (expected_in (replicate n numbered.Free) k)
free_within m zero k = tt
free_within m (suc n) zero = tt
free_within m (suc n) (suc k) = free_within m n k

known_of-free : (n : ℕ) → known_of [] (replicate n numbered.Free) ≡ replicate n Free
known_of-free zero = refl
known_of-free (suc n) = ap (λ l. Free ∷ l) (known_of-free n)

module _ (s : Scene) (r : ℕ) (code : List Instr) where
  pub passed_start : (n : ℕ) (openers : List ℕ) (piles : List PileEntry) (known : List Expected) → openers ≡ [] → piles ≡ [] → known ≡ replicate n numbered.Free → n ≡ length code → IsPassed s r code openers piles known 0
  passed_start n openers piles known no_openers no_piles free size = record {
    openers_are = no_openers ∙ sym (around_start (skeleton s.lists code));
    within = subst (AreWithin (length piles)) (sym free) (record { each = λ k. free_within (length piles) n k });
    known_is = subst (IsKnown (rule s code) code 0) (sym (ap (λ (t : List PileEntry). known_of t known) no_piles ∙ ap (known_of []) free ∙ known_of-free n)) (first_known (rule s code) code n size);
    calls = λ q i lt at. absurd (omega arith);
  }

  pub calls_more : (p : ℕ) (i : Instr) → slice_get code p ≡ Some i → may_stand s.lists.routines r s.routine.ambient i ≡ true → MayStandBelow s.lists.routines r s.routine.ambient code p → MayStandBelow s.lists.routines r s.routine.ambient code (p + 1)
  calls_more p i there stands before q j lt at =
      ⊎_elim (λ (l : q < p). before q j l at)
      (λ (l : p ≤ q).
      let same : p ≡ q = omega arith in
      let instr : i ≡ j = same_Some i j (sym there ∙ ap (slice_get code) same ∙ at) in
      subst (λ x. may_stand s.lists.routines r s.routine.ambient x ≡ true) instr stands) (cases_lt q p)

  -- the pass in the code is that of the rule
  pub turn_is : (p : ℕ) (i : Instr) (openers : List ℕ) (c : Control) (in_loop : Bool) (known : Known) (o : Option Known) → openers ≡ around (skeleton s.lists code) p
      → c ≡ control s.lists i → in_loop ≡ list_any (λ opener. loops_over i.a (slice_get code opener)) openers
      → pass_at (rule_by s in_loop c) p i known ≡ o → pass_at (rule s code) p i known ≡ o
  turn_is p i openers c in_loop known o are is loops went =
      ap (λ (b : Bool). pass_at (rule_by s b (control s.lists i)) p i known) (sym (loops ∙ ap (list_any (λ opener. loops_over i.a (slice_get code opener))) are))
      ∙ ap (λ (x : Control). pass_at (rule_by s in_loop x) p i known) (sym is) ∙ went

  pub stuck_is : (p : ℕ) (i : Instr) (openers : List ℕ) (c : Control) (in_loop goes : Bool) (known after : Known) → openers ≡ around (skeleton s.lists code) p
      → c ≡ control s.lists i → in_loop ≡ list_any (λ opener. loops_over i.a (slice_get code opener)) openers
      → pass_at (rule_by s in_loop c) p i known ≡ (if goes then Some after else None) → goes ≡ false → pass_at (rule s code) p i known ≡ None
  stuck_is p i openers c in_loop goes known after are is loops went stops =
      turn_is p i openers c in_loop known None are is loops (went ∙ ap (λ (b : Bool). if b then Some after else None) stops)

  pub went_is : (p : ℕ) (i : Instr) (openers : List ℕ) (c : Control) (in_loop goes : Bool) (known after : Known) → openers ≡ around (skeleton s.lists code) p
      → c ≡ control s.lists i → in_loop ≡ list_any (λ opener. loops_over i.a (slice_get code opener)) openers
      → pass_at (rule_by s in_loop c) p i known ≡ (if goes then Some after else None) → goes ≡ true → pass_at (rule s code) p i known ≡ Some after
  went_is p i openers c in_loop goes known after are is loops went holds =
      turn_is p i openers c in_loop known (Some after) are is loops (went ∙ ap (λ (b : Bool). if b then Some after else None) holds)

  pub control_there : (p : ℕ) (i : Instr) (c : Control) → slice_get code p ≡ Some i → c ≡ control s.lists i → slice_get (skeleton s.lists code) p ≡ Some c
  control_there p i c there is = slice_get-map (control s.lists) code p ∙ ap (option_map (control s.lists)) there ∙ ap Some (sym is)

  pub keeps_there : (p : ℕ) (c : Control) → KeepsRules (skeleton s.lists code) → slice_get (skeleton s.lists code) p ≡ Some c → KeepsRulesAt (skeleton s.lists code) p
  keeps_there p c keeps there = keeps p (slice_get_within (skeleton s.lists code) p c there)

  pub nested_there : (p : ℕ) (c : Control) → KeepsRules (skeleton s.lists code) → slice_get (skeleton s.lists code) p ≡ Some c → IsNestedBelow (skeleton s.lists code) p
  nested_there p c keeps there =
      let within = slice_get_within (skeleton s.lists code) p c there in
      nested_before (skeleton s.lists code) p (λ q lt j at. (keeps q (omega arith) j at).0)

  pub stops_instr : (p : ℕ) (i : Instr) (openers : List ℕ) (piles : List PileEntry) (known : List Expected) → IsPassed s r code openers piles known p → slice_get code p ≡ Some i → may_stand s.lists.routines r s.routine.ambient i ≡ false → StopsAtInstr s r code p
  stops_instr p i openers piles known so there fails =
      let within = slice_get_within code p i there in
      record { instr = i; there = there; fails = fails; calls = so.calls; typing = typing_found (rule s code) code p (known_of piles known) (omega arith) so.known_is }

  pub stops_stack : (p : ℕ) (i : Instr) (openers : List ℕ) (piles : List PileEntry) (known : List Expected) → IsPassed s r code openers piles known p → slice_get code p ≡ Some i → may_stand s.lists.routines r s.routine.ambient i ≡ true → pass_at (rule s code) p i (known_of piles known) ≡ None → StopsAtStack s r code p
  stops_stack p i openers piles known so there stands stuck =
      record { calls = calls_more p i there stands so.calls; at = no_stack (rule s code) code p i (known_of piles known) there so.known_is stuck }

  pub passed_more : (p : ℕ) (i : Instr) (openers next : List ℕ) (piles grown : List PileEntry) (known after : List Expected) → IsPassed s r code openers piles known p → slice_get code p ≡ Some i → may_stand s.lists.routines r s.routine.ambient i ≡ true
      → pass_at (rule s code) p i (known_of piles known) ≡ Some (known_of grown after) → AreWithin (length grown) after → next ≡ around (skeleton s.lists code) (suc p) → IsPassed s r code next grown after (p + 1)
  passed_more p i openers next piles grown known after so there stands went within opened =
      let one : suc p ≡ p + 1 = omega arith in
      record {
        openers_are = opened ∙ ap (around (skeleton s.lists code)) one;
        within = within;
        known_is = next_known (rule s code) code p i (known_of piles known) (known_of grown after) there so.known_is went;
        calls = calls_more p i there stands so.calls;
      }

  pub passed_all : (p : ℕ) (openers : List ℕ) (piles : List PileEntry) (known : List Expected) → p ≡ length code → IsPassed s r code openers piles known p → Judges s r code None
  passed_all p openers piles known end so = (
    subst (MayStandBelow s.lists.routines r s.routine.ambient code) end so.calls,
    typing_found (rule s code) code (length code) (known_of piles known) (omega arith) (subst (λ n. IsKnown (rule s code) code n (known_of piles known)) end so.known_is),
  )
