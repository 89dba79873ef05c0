-- Loops, conditions and exits: what a part of code is made of where statements stand in it.
use Rattle.std.proofs.Common.{◌≡◌, ℕ, ◌+◌, ◌*◌, ◌<◌, ◌≤◌, ℤ, Bool, true, false, List, [], ◌∷◌, length, Option, Some, None, refl, sym, ap, ◌∙◌, subst, inl, arith, ⊎_elim}
use Rattle.std.specs.Prelude.{slice_get, ◌==◌, ◌||◌, if◌then◌else◌}
use Rattle.std.specs.List.{list_any}
use Rattle.std.proofs.lemmas.Bool.{or_right}
use Rattle.cse_value.specs.declared.number.Num.{Num}
use Rattle.cse_value.specs.declared.number.Num.TheVariants as num
use Rattle.cse_image_parts.specs.declared.entries.Gift.TheVariants as gifts
use Rattle.cse_image_parts.specs.declared.instruction.Op.TheVariants as ops
use Rattle.cse_syntax_tree.specs.declared.tree.Count.TheVariants as counts
use Rattle.cse_code_typing.specs.declared.kind.Kind.TheVariants as k
use Rattle.cse_code_typing.specs.declared.control.Control.{Control}
use Rattle.cse_code_typing.specs.declared.control.Control.TheVariants as c
use Rattle.cse_code_typing.specs.Bracket.{IsBracket, IsFine, around}
use Rattle.cse_code_typing.specs.Kinds.{gift_kinds}
use Rattle.cse_code_typing.specs.Skeleton.{control_by}
use Rattle.cse_code_typing.specs.Signature.{◌⇒◌, provided, signature_by, loops_by, is_record}
use Rattle.cse_logic_tree.specs.Typed.{Limit, Fixed, Counted, Counting}
use Rattle.cse_compile.specs.Wide as w
use Rattle.cse_compile.specs.Wide.{Wide, bare, with_a, with_c, jump, jump_size, jump_over, value}
use Rattle.cse_compile.specs.Expressions.{load, store}
use Rattle.cse_compile.specs.Statements.{known, limit_code, turns, turns_size_by, turns_code_by, head_size, head_code, step_code, exit_size_by, exit_code_by, front_size, guard_size}
use Rattle.cse_meaning.specs.Fit.{Spot, IsExit, LimitFits, CountingFits, over}
use Rattle.cse_meaning.proofs.At.{HasAt}
use Rattle.cse_meaning.proofs.Spans.{joined, single, IsSealed, sealed_join, sealed_one, sealed_around, jump_fine, loop_sealed, opener_fine}
use Rattle.cse_meaning.proofs.TypedCounts.{counts_loop}
use Rattle.cse_meaning.proofs.WideRule.{Stack, wide_control, wide_rule, wide_loops, wide_in_loop}
use Rattle.cse_meaning.proofs.StatementStacks.{N, NN, turns_stacks_by, head_stacks, step_stacks, exit_stacks_by, jump_by}
use Rattle.cse_meaning.proofs.Rules.{ruled, load_local, total_rule, load_rule, load_steps, store_rule, store_steps}
use Rattle.cse_meaning.proofs.TypedParts.{stack_is, IsBare, Led, Fine, Neat, part_one, part_branch, part_jump, fine_one, neat_one, control_at, bare_sealed}
use Rattle.cse_meaning.proofs.Chains.{sk, t, Part, join, none, to, step, moved}

module _ (s : Spot) (ws : List Wide) (all : List Stack) (bounds : List ℕ) where
  abbrev K : List Control
  K = sk s ws all bounds

  abbrev P : ℕ → ℕ → ℕ → Type 0
  P a b n = Part s ws all bounds a b n

  abbrev T : ℕ → Stack
  T q = t s ws all bounds q

  -- ---- leaving the routine

  return_rule : (q : ℕ) → s.scene.routine.gives ≡ gifts.Nothing → wide_rule s.scene ws q (bare ops.Return) [] ≡ Some []
  unfolding signature_by control_by
  return_rule q e = ruled s ws q (bare ops.Return) [] [] [] [] (ap (λ g. gift_kinds g ⇒ []) e) refl

  give_rule : (q : ℕ) → s.scene.routine.gives ≡ gifts.Number → wide_rule s.scene ws q (bare ops.Return) N ≡ Some []
  unfolding signature_by control_by
  give_rule q e = ruled s ws q (bare ops.Return) N N [] [] (ap (λ g. gift_kinds g ⇒ []) e) refl

  pub exit_part : (o : Option ℕ) (p : ℕ) → IsExit s o → HasAt ws p (exit_code_by o) → HasAt all p (exit_stacks_by o) → T (p + exit_size_by o) ≡ [] → P p (p + exit_size_by o) (exit_size_by o)
  unfolding control_by
  exit_part None p f h s' e = part_one s.scene ws all bounds p (bare ops.Return) [] [] h.0 (stack_is all p _ s'.0) (return_rule p f) tt (inl e) tt refl
  exit_part (Some r) p f h s' e =
      let z : p + 1 + 1 ≡ p + 2 = omega arith in
      let t1 = stack_is all (p + 1) _ s'.1.0 in
      let a = step s ws all bounds p (with_c ops.LoadLocal r) [] N h.0 (stack_is all p _ s'.0) (load_local s ws p r k.Number [] f.1) t1 refl in
      let b : P (p + 1) (p + 1 + 1) 1 = part_one s.scene ws all bounds (p + 1) (bare ops.Return) N [] h.1.0 t1 (give_rule (p + 1) f.0) tt (inl (moved s ws all bounds _ _ [] (sym z) e)) tt refl in
      to s ws all bounds p (p + 1 + 1) (p + 2) 2 2 z refl (join s ws all bounds p (p + 1) (p + 1 + 1) 1 1 a b)

  -- ---- loops that are around

  -- each record of a `for` around has its opener among these
  abbrev pub Looped : Spot → List ℕ → Type 0
  Looped u os = (of : ℕ) → list_any (λ o. o == of) u.loops ≡ true → list_any (λ o. wide_loops of (slice_get ws o)) os ≡ true

  or_mono : (a b c d : Bool) → a ≡ c → (b ≡ true → d ≡ true) → (a || b) ≡ true → (c || d) ≡ true
  or_mono true b c d e f h = ap (λ c. c || d) (sym e)
  or_mono false b c d e f h = or_right c d (f h)

  pub looped_more : (os : List ℕ) (o : ℕ) → Looped s os → Looped s (o ∷ os)
  looped_more os o f of h = or_right _ _ (f of h)

  pub looped_over : (os : List ℕ) (o of e : ℕ) → slice_get ws o ≡ Some (w.Plain ops.LoopOccurrences of 0 e) → Looped s os → Looped (over s of) (o ∷ os)
  unfolding loops_by
  looped_over os o of e at f r h =
      or_mono (of == r) (list_any (λ o. o == r) s.loops) (wide_loops r (slice_get ws o)) (list_any (λ o. wide_loops r (slice_get ws o)) os) (sym (ap (wide_loops r) at)) (f r) h

  -- in a stretch without brackets
  pub looped_here : (p hi : ℕ) (os : List ℕ) → IsBare s.scene ws all bounds p hi → around K p ≡ os → Looped s os → (q of : ℕ) → p ≤ q → q < hi → list_any (λ o. o == of) s.loops ≡ true → wide_in_loop s.scene.lists ws q of ≡ true
  looped_here p hi os bare' ar f q of le lt h =
      ap (list_any (λ o. wide_loops of (slice_get ws o))) (sealed_around K p q le (bare_sealed s.scene ws all bounds p hi p q bare' (omega arith) (omega arith)) ∙ ar) ∙ f of h

  -- ---- conditions

  jumps_part : (u k' end rest_steps : ℕ) → end ≡ u + jump_size k' + k' → end < length K → T u ≡ [] → T (u + jump_size k') ≡ [] → T end ≡ [] → HasAt ws u (jump_over end k') → P (u + jump_size k') end rest_steps → P u (u + jump_size k') (jump_size k')
  unfolding control_by
  jumps_part u k' end rest_steps e lt tu tv te h others = ⊎_elim
      (λ (x : (k' ≡ 0) × (k' == 0 ≡ true)). let z = x.0 in to s ws all bounds u u (u + jump_size k') 0 (jump_size k') (omega arith) (omega arith) (none s ws all bounds u))
      (λ (x : (1 ≤ k') × (k' == 0 ≡ false)).
      let some = x.0 in
      let h' = subst (HasAt ws u) (ap (λ b. if b then [] else jump end ∷ []) x.1) h in
      let z : u + jump_size k' ≡ u + 1 = omega arith in
      let one : IsSealed K u (u + 1) = sealed_one K u (c.Jump end) (control_at s.scene ws all bounds u (jump end) h'.0) refl refl in
      let rest = subst (λ v. IsSealed K v end) z others.sealed in
      let sealed = sealed_join K u (u + 1) end (omega arith) (omega arith) one rest in
      let j = part_jump s.scene ws all bounds u end [] h'.0 tu te (inl (moved s ws all bounds _ _ [] z tv)) (jump_fine K u end (omega arith) lt sealed) in
      to s ws all bounds u (u + 1) (u + jump_size k') 1 (jump_size k') (sym z) (omega arith) j)
      (jump_by k')

  -- a condition, what it guards, a jump, and what stands behind
  pub guard_part : (p m n k' end mc nb rest_steps : ℕ) → end ≡ p + guard_size m n k' → end < length K → P p (p + m) mc → T (p + m) ≡ N → slice_get ws (p + m) ≡ Some (with_c ops.JumpUnless (p + front_size m n k')) → T (p + m + 1) ≡ [] → P (p + m + 1) (p + m + 1 + n) nb → T (p + m + 1 + n) ≡ [] → HasAt ws (p + m + 1 + n) (jump_over end k') → T (p + front_size m n k') ≡ [] → P (p + front_size m n k') (p + front_size m n k' + k') rest_steps → T end ≡ [] → P p (p + guard_size m n k') (mc + (1 + (nb + (jump_size k' + rest_steps))))
  unfolding signature_by control_by
  guard_part p m n k' end mc nb rest_steps e lt cond tq h t1 body tu hj tv others te =
      let q = p + m in
      let u = q + 1 + n in
      let v = p + front_size m n k' in
      let z : v ≡ u + jump_size k' = omega arith in
      let y : v + k' ≡ end = omega (arith, e) in
      let others' : P (u + jump_size k') end rest_steps = subst (λ a. P a end rest_steps) z (subst (λ b. P v b rest_steps) y others) in
      let tv' = moved s ws all bounds _ _ [] z tv in
      let pj = jumps_part u k' end rest_steps (omega (arith, e)) lt tu tv' te hj others' in
      let one : IsSealed K q (q + 1) = sealed_one K q (c.Branch v) (control_at s.scene ws all bounds q (with_c ops.JumpUnless v) h) refl refl in
      let sj = subst (λ b. IsSealed K u b) (sym z) pj.sealed in
      let sealed = sealed_join K q (q + 1) v (omega arith) (omega arith) one (sealed_join K (q + 1) u v (omega arith) (omega arith) body.sealed sj) in
      let p0 : P q (q + 1) 1 = part_branch s.scene ws all bounds q v (with_c ops.JumpUnless v) N [] [] h tq refl tv t1 refl (jump_fine K q v (omega arith) (omega (arith, e)) sealed) in
      let x = join s ws all bounds u (u + jump_size k') end _ _ pj others' in
      let w' = join s ws all bounds (q + 1) u end _ _ body x in
      let v' = join s ws all bounds q (q + 1) end 1 _ p0 w' in
      to s ws all bounds p end _ _ _ e refl (join s ws all bounds p q end _ _ cond v')

  -- ---- loops

  pub loop_part : (a e limit n : ℕ) (i : Wide) (st : Stack) → a < e → slice_get ws a ≡ Some i → wide_control s.scene.lists i ≡ c.Open limit e → wide_rule s.scene ws a i st ≡ Some ((a + 1, []) ∷ (e + 1, []) ∷ []) → slice_get ws e ≡ Some (with_c ops.End a) → T a ≡ st → T (a + 1) ≡ [] → T e ≡ [] → T (e + 1) ≡ [] → length (around K a) ≤ 63 → IsBracket K a e → P (a + 1) e n → P a (e + 1) (1 + limit * (n + 1))
  unfolding signature_by control_by
  loop_part a e limit n i st lt h ctl rule k' ta t1 te tb few br body =
      let open_fine = fine_one s.scene ws all bounds a i st ((a + 1, []) ∷ (e + 1, []) ∷ []) h ta rule ((λ lt. t1), ((λ lt. tb), tt)) in
      let end_fine = fine_one s.scene ws all bounds e (with_c ops.End a) [] ((a + 1, []) ∷ (e + 1, []) ∷ []) k' te refl ((λ lt. t1), ((λ lt. tb), tt)) in
      let open_neat = neat_one s.scene ws all bounds a i h (subst (IsFine K a) (sym ctl) (opener_fine K a e br body.sealed few)) in
      let end_neat = neat_one s.scene ws all bounds e (with_c ops.End a) k' br in
      let led1 : Led s.scene ws all bounds (a + 1) = inl t1 in
      let led2 : Led s.scene ws all bounds (e + 1) = inl tb in
      let F = Fine s.scene ws all bounds in
      let L = Led s.scene ws all bounds in
      let M = Neat s.scene ws all bounds in
      record {
        order = omega arith;
        fine = joined F a (a + 1) (e + 1) (single F a open_fine) (joined F (a + 1) e (e + 1) body.fine (single F e end_fine));
        led = joined L (a + 1) (a + 1 + 1) (e + 1 + 1) (single L (a + 1) led1) (joined L (a + 1 + 1) (e + 1) (e + 1 + 1) body.led (single L (e + 1) led2));
        neat = joined M a (a + 1) (e + 1) (single M a open_neat) (joined M (a + 1) e (e + 1) body.neat (single M e end_neat));
        sealed = loop_sealed K a e br body.sealed;
        counts = counts_loop bounds K a e limit n br (control_at s.scene ws all bounds a i h ∙ ap Some ctl) (control_at s.scene ws all bounds e (with_c ops.End a) k') body.sealed body.counts;
      }

  pub each_rule : (q of e : ℕ) → is_record s.scene.shape of ≡ true → wide_rule s.scene ws q (w.Plain ops.LoopOccurrences of 0 e) [] ≡ Some ((q + 1, []) ∷ (e + 1, []) ∷ [])
  unfolding signature_by control_by
  each_rule q of e h = ruled s ws q (w.Plain ops.LoopOccurrences of 0 e) [] [] [] [] (ap (λ b. provided b ([] ⇒ [])) h) refl

  -- ---- the head of a `do`

  limit_rule : (x : Limit) (q : ℕ) (st : Stack) → LimitFits s x → wide_rule s.scene ws q (limit_code s.setting.records x) st ≡ Some ((q + 1, k.Number ∷ st) ∷ [])
  limit_rule (Fixed x) q st f = refl
  limit_rule (Counted counts.MaxOcc name of) q st f = refl
  limit_rule (Counted counts.TotOcc name of) q st f = total_rule s ws q of st f.1

  limit_steps : (x : Limit) → wide_control s.scene.lists (limit_code s.setting.records x) ≡ c.Step
  unfolding control_by
  limit_steps (Fixed x) = refl
  limit_steps (Counted counts.MaxOcc name of) = refl
  limit_steps (Counted counts.TotOcc name of) = refl

  value_rule : (x : Num) (q : ℕ) → wide_rule s.scene ws q (value x) [] ≡ Some ((q + 1, N) ∷ [])
  unfolding signature_by control_by
  value_rule (num.Whole z) q = refl
  value_rule num.NotAppl q = refl
  value_rule num.Missing q = refl
  value_rule num.Undef q = refl

  value_steps : (x : Num) → wide_control s.scene.lists (value x) ≡ c.Step
  unfolding control_by
  value_steps (num.Whole z) = refl
  value_steps num.NotAppl = refl
  value_steps num.Missing = refl
  value_steps num.Undef = refl

  -- each instruction with the stack before it, up to a stack behind
  many_part : (p : ℕ) (a b e f g h' i : Stack) (w1 w2 w3 w4 w5 w6 w7 : Wide) → HasAt ws p (w1 ∷ w2 ∷ w3 ∷ w4 ∷ w5 ∷ w6 ∷ w7 ∷ []) → HasAt all p (a ∷ b ∷ e ∷ f ∷ g ∷ h' ∷ i ∷ []) → ((q : ℕ) → wide_rule s.scene ws q w1 a ≡ Some ((q + 1, b) ∷ [])) → ((q : ℕ) → wide_rule s.scene ws q w2 b ≡ Some ((q + 1, e) ∷ [])) → ((q : ℕ) → wide_rule s.scene ws q w3 e ≡ Some ((q + 1, f) ∷ [])) → ((q : ℕ) → wide_rule s.scene ws q w4 f ≡ Some ((q + 1, g) ∷ [])) → ((q : ℕ) → wide_rule s.scene ws q w5 g ≡ Some ((q + 1, h') ∷ [])) → ((q : ℕ) → wide_rule s.scene ws q w6 h' ≡ Some ((q + 1, i) ∷ [])) → ((q : ℕ) → wide_rule s.scene ws q w7 i ≡ Some ((q + 1, N) ∷ [])) → wide_control s.scene.lists w1 ≡ c.Step → wide_control s.scene.lists w2 ≡ c.Step → wide_control s.scene.lists w3 ≡ c.Step → wide_control s.scene.lists w4 ≡ c.Step → wide_control s.scene.lists w5 ≡ c.Step → wide_control s.scene.lists w6 ≡ c.Step → wide_control s.scene.lists w7 ≡ c.Step → T (p + 7) ≡ N → P p (p + 7) 7
  many_part p a b e f g h' i w1 w2 w3 w4 w5 w6 w7 h s' r1 r2 r3 r4 r5 r6 r7 c1 c2 c3 c4 c5 c6 c7 end =
      let p1 = p + 1 in
      let p2 = p1 + 1 in
      let p3 = p2 + 1 in
      let p4 = p3 + 1 in
      let p5 = p4 + 1 in
      let p6 = p5 + 1 in
      let p7 = p6 + 1 in
      let z : p7 ≡ p + 7 = omega arith in
      let t1 = stack_is all p1 b s'.1.0 in
      let t2 = stack_is all p2 e s'.1.1.0 in
      let t3 = stack_is all p3 f s'.1.1.1.0 in
      let t4 = stack_is all p4 g s'.1.1.1.1.0 in
      let t5 = stack_is all p5 h' s'.1.1.1.1.1.0 in
      let t6 = stack_is all p6 i s'.1.1.1.1.1.1.0 in
      let a1 = step s ws all bounds p w1 a b h.0 (stack_is all p a s'.0) (r1 p) t1 c1 in
      let a2 = step s ws all bounds p1 w2 b e h.1.0 t1 (r2 p1) t2 c2 in
      let a3 = step s ws all bounds p2 w3 e f h.1.1.0 t2 (r3 p2) t3 c3 in
      let a4 = step s ws all bounds p3 w4 f g h.1.1.1.0 t3 (r4 p3) t4 c4 in
      let a5 = step s ws all bounds p4 w5 g h' h.1.1.1.1.0 t4 (r5 p4) t5 c5 in
      let a6 = step s ws all bounds p5 w6 h' i h.1.1.1.1.1.0 t5 (r6 p5) t6 c6 in
      let a7 = step s ws all bounds p6 w7 i N h.1.1.1.1.1.1.0 t6 (r7 p6) (moved s ws all bounds _ _ N (sym z) end) c7 in
      let b6 = join s ws all bounds p5 p6 p7 1 1 a6 a7 in
      let b5 = join s ws all bounds p4 p5 p7 1 2 a5 b6 in
      let b4 = join s ws all bounds p3 p4 p7 1 3 a4 b5 in
      let b3 = join s ws all bounds p2 p3 p7 1 4 a3 b4 in
      let b2 = join s ws all bounds p1 p2 p7 1 5 a2 b3 in
      to s ws all bounds p p7 (p + 7) 7 7 z refl (join s ws all bounds p p1 p7 1 6 a1 b2)

  long_part : (x : Counting) (p : ℕ) → LimitFits s x.start → LimitFits s x.stop → HasAt ws p (limit_code s.setting.records x.stop ∷ limit_code s.setting.records x.start ∷ bare ops.Subtract ∷ w.Constant x.step ∷ bare ops.Add ∷ w.Constant x.step ∷ bare ops.Quotient ∷ []) → HasAt all p ([] ∷ N ∷ NN ∷ N ∷ NN ∷ N ∷ NN ∷ []) → T (p + 7) ≡ N → P p (p + 7) 7
  unfolding signature_by control_by
  long_part x p f g h s' e =
      many_part p [] N NN N NN N NN (limit_code s.setting.records x.stop) (limit_code s.setting.records x.start) (bare ops.Subtract) (w.Constant x.step) (bare ops.Add) (w.Constant x.step) (bare ops.Quotient) h s' (λ q. limit_rule x.stop q [] g) (λ q. limit_rule x.start q N f) (λ q. refl) (λ q. refl) (λ q. refl) (λ q. refl) (λ q. refl) (limit_steps x.stop) (limit_steps x.start) refl refl refl refl refl e

  turns_part : (x : Counting) (a b : Option ℤ) (p : ℕ) → LimitFits s x.start → LimitFits s x.stop → HasAt ws p (turns_code_by s.setting.records x a b) → HasAt all p (turns_stacks_by a b) → T (p + turns_size_by a b) ≡ N → P p (p + turns_size_by a b) (turns_size_by a b)
  turns_part x (Some a) (Some b) p f g h s' e = step s ws all bounds p (value (turns a b x.step)) [] N h.0 (stack_is all p _ s'.0) (value_rule (turns a b x.step) p) e (value_steps (turns a b x.step))
  turns_part x (Some a) None p f g h s' e = long_part x p f g h s' e
  turns_part x None b p f g h s' e = long_part x p f g h s' e

  pub head_part : (x : Counting) (p : ℕ) → CountingFits s x → HasAt ws p (head_code s.setting x) → HasAt all p (head_stacks s x) → T (p + head_size s.setting.records x) ≡ N → P p (p + head_size s.setting.records x) (head_size s.setting.records x)
  head_part x p f h s' e =
      let a = known s.setting.records x.start in
      let b = known s.setting.records x.stop in
      let n = turns_size_by a b in
      let q = p + 1 + 1 in
      let z : p + (n + 2) ≡ q + n = omega arith in
      let t1 = stack_is all (p + 1) _ s'.1.0 in
      let tq = turns_first a b q s'.1.1 in
      let c1 = step s ws all bounds p (limit_code s.setting.records x.start) [] N h.0 (stack_is all p _ s'.0) (limit_rule x.start p [] f.1) t1 (limit_steps x.start) in
      let c2 = step s ws all bounds (p + 1) (store s.setting x.variable) N [] h.1.0 t1 (store_rule s ws (p + 1) x.variable [] f.0) tq (store_steps s ws x.variable) in
      let c3 = turns_part x a b q f.1 f.2 h.1.1 s'.1.1 (moved s ws all bounds _ _ N z e) in
      to s ws all bounds p (q + n) _ (1 + (1 + n)) _ (sym z) (omega arith) (join s ws all bounds p (p + 1) (q + n) 1 _ c1 (join s ws all bounds (p + 1) q (q + n) 1 n c2 c3))
    where
      turns_first : (a b : Option ℤ) (q : ℕ) → HasAt all q (turns_stacks_by a b) → T q ≡ []
      turns_first (Some a) (Some b) q h = stack_is all q [] h.0
      turns_first (Some a) None q h = stack_is all q [] h.0
      turns_first None b q h = stack_is all q [] h.0

  -- the end of a turn: the variable is counted on
  pub count_part : (x : Counting) (p : ℕ) → CountingFits s x → HasAt ws p (step_code s.setting x) → HasAt all p step_stacks → T (p + 4) ≡ [] → P p (p + 4) 4
  unfolding signature_by control_by
  count_part x p f h s' e =
      let p1 = p + 1 in
      let p2 = p1 + 1 in
      let p3 = p2 + 1 in
      let p4 = p3 + 1 in
      let z : p4 ≡ p + 4 = omega arith in
      let t1 = stack_is all p1 _ s'.1.0 in
      let t2 = stack_is all p2 _ s'.1.1.0 in
      let t3 = stack_is all p3 _ s'.1.1.1.0 in
      let a1 = step s ws all bounds p (load s.setting x.variable) [] N h.0 (stack_is all p _ s'.0) (load_rule s ws p x.variable [] f.0) t1 (load_steps s ws x.variable) in
      let a2 = step s ws all bounds p1 (w.Constant x.step) N NN h.1.0 t1 refl t2 refl in
      let a3 = step s ws all bounds p2 (bare ops.Add) NN N h.1.1.0 t2 refl t3 refl in
      let a4 = step s ws all bounds p3 (store s.setting x.variable) N [] h.1.1.1.0 t3 (store_rule s ws p3 x.variable [] f.0) (moved s ws all bounds _ _ [] (sym z) e) (store_steps s ws x.variable) in
      to s ws all bounds p p4 (p + 4) 4 4 z refl (join s ws all bounds p p1 p4 1 3 a1 (join s ws all bounds p1 p2 p4 1 2 a2 (join s ws all bounds p2 p3 p4 1 1 a3 a4)))
