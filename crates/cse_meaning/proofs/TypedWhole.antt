-- Whole routines are typed, and their steps are counted.
use Rattle.std.proofs.Common.{◌≡◌, ℕ, ◌+◌, ◌*◌, false, List, [], ◌∷◌, ◌++◌, length, Option, Some, None, refl, sym, ap, ◌∙◌, subst, arith, length-append}
use Rattle.std.specs.Prelude.{slice_get, ◌==◌, unwrap_or}
use Rattle.std.specs.List.{list_any}
use Rattle.std.proofs.lemmas.Bool.{false≢true}
use Rattle.std.proofs.lemmas.List.{length-map}
use Rattle.std.proofs.lemmas.Option.{slice_get_past}
use Rattle.cse_image_parts.specs.declared.instruction.Op.TheVariants as ops
use Rattle.cse_image_parts.specs.declared.instruction.Instr.{Instr}
use Rattle.cse_code_typing.specs.declared.control.Control.{Control}
use Rattle.cse_code_typing.specs.Bracket.{around, KeepsRules}
use Rattle.cse_code_typing.specs.Skeleton.{control_by, skeleton}
use Rattle.cse_code_typing.specs.Signature.{signature_by}
use Rattle.cse_code_typing.specs.Rule.{rule}
use Rattle.cse_code_typing.specs.Typing.{IsTypedCode}
use Rattle.cse_code_typing.proofs.Around.{around_start}
use Rattle.cse_verify.specs.Weight.{product, weight}
use Rattle.cse_code_typing.specs.Code.{code_of}
use Rattle.cse_verify.specs.Bound.{partial, bounds_below}
use Rattle.cse_logic_tree.specs.Typed.{Statements}
use Rattle.cse_compile.specs.Wide.{Wide, bare, with_c, undefined}
use Rattle.cse_compile.specs.Statements.{block_size, block_code, exit_size_by, exit_code_by}
use Rattle.cse_compile.specs.Routines.{no_loop, entry_size_by, entry_code_by, routine_code}
use Rattle.cse_compile.proofs.Small.{exit_some}
use Rattle.cse_meaning.specs.Stands.{AllStand}
use Rattle.cse_meaning.specs.Fit.{Spot, IsExit, IsSettled, BlockFits}
use Rattle.cse_meaning.specs.Steps.{block_steps, routine_steps}
use Rattle.cse_meaning.specs.Emitted.{BracketsKeepRules, CodeIsTyped, StepsAreCounted, spot_of, RoutineIsTyped, RoutineIsCounted}
use Rattle.cse_meaning.proofs.At.{HasAt, has_front, has_back, has_self}
use Rattle.cse_meaning.proofs.Spans.{sealed_around}
use Rattle.cse_meaning.proofs.WideRule.{Stack, wide_control, wide_skeleton}
use Rattle.cse_meaning.proofs.StatementStacks.{N, exit_stacks_by, block_stacks, block_stacks_length, block_start, exit_stacks_length}
use Rattle.cse_meaning.proofs.TypedBlocks.{entry_length, exit_length, block_length}
use Rattle.cse_meaning.proofs.Rules.{store_local}
use Rattle.cse_meaning.proofs.TypedParts.{stack_at, stack_is}
use Rattle.cse_meaning.proofs.Chains.{Part, join, none, to, step, moved}
use Rattle.cse_meaning.proofs.TypedLoops.{exit_part}
use Rattle.cse_meaning.proofs.TypedStatements.{block_part}
use Rattle.cse_meaning.proofs.Standing.{instructions_may_stand}
use Rattle.cse_meaning.proofs.Transport.{skeletons, keeps, typed}

abbrev entry_stacks_by : Option ℕ → List Stack
entry_stacks_by None = []
entry_stacks_by (Some result) = [] ∷ N ∷ []

entry_stacks_length : (o : Option ℕ) → length (entry_stacks_by o) ≡ entry_size_by o
entry_stacks_length None = refl
entry_stacks_length (Some r) = refl

-- in a routine of such a body; `r` is the local of the result, if it has one
module _ (s : Spot) (body : Statements) (r : Option ℕ) (bounds : List ℕ) where
  abbrev wides : List Wide
  wides = entry_code_by r ++ (block_code s.setting no_loop (entry_size_by r) body ++ exit_code_by r)

  abbrev all : List Stack
  all = entry_stacks_by r ++ (block_stacks s body ++ exit_stacks_by r)

  abbrev K : List Control
  K = wide_skeleton s.scene.lists wides

  abbrev P : ℕ → ℕ → ℕ → Type 0
  P a b n = Part s wides all bounds a b n

  abbrev n : ℕ
  n = entry_size_by r

  abbrev m : ℕ
  m = block_size s.setting body

  size : length wides ≡ n + (m + exit_size_by r)
  size = omega (arith, length-append (entry_code_by r) (block_code s.setting no_loop n body ++ exit_code_by r), length-append (block_code s.setting no_loop n body) (exit_code_by r), entry_length r, block_length s.setting no_loop n body, exit_length r)

  stacks_size : length all ≡ n + (m + exit_size_by r)
  stacks_size = omega (arith, length-append (entry_stacks_by r) (block_stacks s body ++ exit_stacks_by r), length-append (block_stacks s body) (exit_stacks_by r), entry_stacks_length r, block_stacks_length s body, exit_stacks_length r)

  body_code : HasAt wides n (block_code s.setting no_loop n body ++ exit_code_by r)
  body_code = let z : 0 + n ≡ n = omega arith in subst (λ q. HasAt wides q (block_code s.setting no_loop n body ++ exit_code_by r)) z (has_back wides 0 n (entry_code_by r) _ (entry_length r) (has_self wides))

  body_stacks : HasAt all n (block_stacks s body ++ exit_stacks_by r)
  body_stacks = let z : 0 + n ≡ n = omega arith in subst (λ q. HasAt all q (block_stacks s body ++ exit_stacks_by r)) z (has_back all 0 n (entry_stacks_by r) _ (entry_stacks_length r) (has_self all))

  exit_code : HasAt wides (n + m) (exit_code_by r)
  exit_code = has_back wides n m (block_code s.setting no_loop n body) _ (block_length s.setting no_loop n body) body_code

  exit_stacks : HasAt all (n + m) (exit_stacks_by r)
  exit_stacks = has_back all n m (block_stacks s body) _ (block_stacks_length s body) body_stacks

  exit_start : (o : Option ℕ) (q : ℕ) → HasAt all q (exit_stacks_by o) → stack_at all q ≡ []
  exit_start None q h = stack_is all q [] h.0
  exit_start (Some x) q h = stack_is all q [] h.0

  behind_body : stack_at all (n + m) ≡ []
  behind_body = exit_start r (n + m) exit_stacks

  before_body : stack_at all n ≡ []
  before_body = block_start s all n body (has_front all n (block_stacks s body) _ body_stacks) behind_body

  past : stack_at all (length wides) ≡ []
  past = ap (λ o. unwrap_or o []) (slice_get_past all (length wides) (omega (arith, size, stacks_size)))

  entry_part : (o : Option ℕ) → IsExit s o → HasAt wides 0 (entry_code_by o) → HasAt all 0 (entry_stacks_by o) → stack_at all (entry_size_by o) ≡ [] → P 0 (entry_size_by o) (entry_size_by o)
  unfolding signature_by control_by
  entry_part None f h s' e = none s wides all bounds 0
  entry_part (Some x) f h s' e =
      let t1 = stack_is all 1 _ s'.1.0 in
      let a = step s wides all bounds 0 undefined [] N h.0 (stack_is all 0 _ s'.0) refl t1 refl in
      let b = step s wides all bounds 1 (with_c ops.StoreLocal x) N [] h.1.0 t1 (store_local s wides 1 x [] f.1) e refl in
      join s wides all bounds 0 1 2 1 1 a b

  last_of : (o : Option ℕ) (q : ℕ) → HasAt wides q (exit_code_by o) → (last : ℕ) × (last + 1 ≡ q + exit_size_by o) × (slice_get wides last ≡ Some (bare ops.Return))
  last_of None q h = (q, refl, h.0)
  last_of (Some x) q h = (q + 1, omega arith, h.1.0)

  module _ (settled : IsSettled s) (same : s.setting.result_at ≡ r) (outside : s.loops ≡ []) (fits : BlockFits s 64 false body) where
    exits : IsExit s r
    exits = subst (IsExit s) same settled.exit

    whole_part : P 0 (length wides) (routine_steps bounds s.setting body)
    unfolding routine_steps
    whole_part =
        let sk_len = length-map wides (wide_control s.scene.lists) in
        let a = entry_part r exits (has_front wides 0 (entry_code_by r) _ (has_self wides)) (has_front all 0 (entry_stacks_by r) _ (has_self all)) before_body in
        let outer : around K n ≡ [] = sealed_around K 0 n (omega arith) a.sealed ∙ around_start K in
        let b = block_part wides all bounds body s 64 false no_loop [] n fits (record {
          settled = settled;
          around_it = outer;
          looped = λ of h. absurd (false≢true (sym (ap (list_any (λ o. o == of)) outside) ∙ h));
          few = omega arith;
          breaks = λ e. absurd (false≢true e);
          within = omega (arith, sk_len, size, exit_some r);
          behind = behind_body;
        }) (has_front wides n (block_code s.setting no_loop n body) _ body_code) (has_front all n (block_stacks s body) _ body_stacks) in
        let z : n + m + exit_size_by r ≡ length wides = omega (arith, size) in
        let c = exit_part s wides all bounds r (n + m) exits exit_code exit_stacks (moved s wides all bounds _ _ [] (sym z) past) in
        let steps : entry_size_by r + (block_steps bounds s.setting body + exit_size_by r) ≡ routine_steps bounds s.setting body = ap (λ o. entry_size_by o + (block_steps bounds s.setting body + exit_size_by o)) (sym same) in
        to s wides all bounds 0 (n + m + exit_size_by r) (length wides) _ _ z steps (join s wides all bounds 0 n _ _ _ a (join s wides all bounds n (n + m) _ _ _ b c))

    start_is : (o : Option ℕ) → HasAt all 0 (entry_stacks_by o) → stack_at all (entry_size_by o) ≡ [] → stack_at all 0 ≡ []
    start_is None h e = e
    start_is (Some x) h e = stack_is all 0 [] h.0

    start : stack_at all 0 ≡ []
    start = start_is r (has_front all 0 (entry_stacks_by r) _ (has_self all)) before_body

    module _ (code : List Instr) (stands : AllStand s.scene.lists code wides) where
      brackets_of : KeepsRules (skeleton s.scene.lists code)
      brackets_of =
          let l = last_of r (n + m) exit_code in
          let e = l.1 in
          keeps s.scene code wides stands all bounds _ whole_part l.0 (omega (arith, size, e)) l.2

      typing_of : IsTypedCode (rule s.scene code) code
      typing_of = typed s.scene code wides stands all bounds _ whole_part start

      steps_of : partial bounds (skeleton s.scene.lists code) (length (skeleton s.scene.lists code)) ≡ routine_steps bounds s.setting body
      unfolding partial
      steps_of =
          let sk_len = length-map wides (wide_control s.scene.lists) in
          let w : weight K 0 ≡ 1 = ap (product K) (around_start K) in
          let e : weight K 0 * routine_steps bounds s.setting body ≡ 1 * routine_steps bounds s.setting body = ap (λ k. k * routine_steps bounds s.setting body) w in
          let total : partial bounds K (length wides) ≡ routine_steps bounds s.setting body = omega (arith, whole_part.counts.by, e) in
          ap (λ k. partial bounds k (length k)) (skeletons s.scene code wides stands) ∙ ap (partial bounds K) sk_len ∙ total

pub brackets_keep_rules : BracketsKeepRules
unfolding routine_code
brackets_keep_rules s body code h = brackets_of s body s.setting.result_at [] h.settled refl h.outside h.fits code h.stands

pub code_is_typed : CodeIsTyped
unfolding routine_code
code_is_typed s body code h = typing_of s body s.setting.result_at [] h.settled refl h.outside h.fits code h.stands

pub steps_are_counted : StepsAreCounted
unfolding routine_code
steps_are_counted bounds s body code h = steps_of s body s.setting.result_at bounds h.settled refl h.outside h.fits code h.stands

pub routine_is_typed : RoutineIsTyped
routine_is_typed shape x r y setting body h =
    let s = spot_of shape x r y setting in
    record {
      brackets = brackets_keep_rules s body (code_of x r) h;
      calls = instructions_may_stand s body (code_of x r) h;
      typing = code_is_typed s body (code_of x r) h;
    }

pub routine_is_counted : RoutineIsCounted
routine_is_counted shape x r y setting body h = steps_are_counted (bounds_below x r) (spot_of shape x r y setting) body (code_of x r) h
