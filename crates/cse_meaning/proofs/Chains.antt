-- Stretches of the code of expressions: they have no brackets, so that each jump forward in them is fine.
use Rattle.std.proofs.Common.{◌≡◌, ℕ, ◌+◌, ◌<◌, ◌≤◌, true, List, [], ◌∷◌, ◌++◌, length, Some, refl, sym, ap, ◌∙◌, subst, arith}
use Rattle.std.specs.Prelude.{slice_get, pos, ◌==◌}
use Rattle.cse_meaning.proofs.Lengths.{pops_length}
use Rattle.std.specs.List.{list_any}
use Rattle.cse_image_parts.specs.declared.instruction.Op.TheVariants as ops
use Rattle.cse_code_typing.specs.declared.kind.Kind.{Kind}
use Rattle.cse_code_typing.specs.declared.kind.Kind.TheVariants as k
use Rattle.cse_code_typing.specs.declared.control.Control.{Control}
use Rattle.cse_code_typing.specs.declared.control.Control.TheVariants as c
use Rattle.cse_code_typing.specs.Bracket.{IsJump}
use Rattle.cse_code_typing.specs.Skeleton.{control_by}
use Rattle.cse_code_typing.specs.Signature.{Scene, is_record, signature_by}
use Rattle.cse_logic_tree.specs.declared.tree.Found.{Found}
use Rattle.cse_logic_tree.specs.declared.tree.Found.TheVariants as h
use Rattle.cse_logic_tree.specs.declared.tree.Present.{Present}
use Rattle.cse_logic_tree.specs.declared.tree.Present.TheVariants as p
use Rattle.cse_compile.specs.Wide as w
use Rattle.cse_compile.specs.Wide.{Wide, with_a, with_b, with_c, jump, undefined, occurrence, pops}
use Rattle.cse_compile.specs.Expressions.{guarded, here_code, here_size, present_size, number_of_item, text_of_item}
use Rattle.cse_meaning.specs.Fit.{Spot, IsFound, IsNumberPresent, IsTextPresent}
use Rattle.cse_meaning.proofs.At.{HasAt, has_front, has_back}
use Rattle.cse_meaning.proofs.WideRule.{Stack, wide_control, wide_skeleton, wide_rule, wide_in_loop}
use Rattle.cse_meaning.proofs.Stacks.{guarded_stacks, here_stacks, present_stacks}
use Rattle.cse_meaning.proofs.Rules.{occurrence_rule, current_rule, load_local, item_number_rule, item_text_rule, id_number_rule, id_text_rule, pop_rule}
use Rattle.cse_meaning.proofs.TypedParts.{stack_at, stack_is, IsBare, IsPart, Led, part_join, part_none, part_to, part_step, part_branch, part_jump, led_branch, at_place, led_place, bare_jump}

-- ---- the stacks before indexes are dropped

abbrev pub next_of : List Stack → Stack → Stack
next_of [] st = st
next_of (a ∷ l) st = a

-- each is the next one with an index on top
abbrev pub Descends : List Stack → Stack → Type 0
Descends [] st = Unit {0}
Descends (a ∷ l) st = (n : ℕ) × (a ≡ k.Index n ∷ next_of l st) × Descends l st

next_behind : (l : List Stack) (a st : Stack) → next_of l a ≡ next_of (l ++ a ∷ []) st
next_behind [] a st = refl
next_behind (b ∷ l) a st = refl

pub descends_behind : (l : List Stack) (n : ℕ) (st : Stack) → Descends l (k.Index n ∷ st) → Descends (l ++ (k.Index n ∷ st) ∷ []) st
descends_behind [] n st d = (n, refl, tt)
descends_behind (a ∷ l) n st d = (d.0, d.1 ∙ ap (λ r. k.Index d.0 ∷ r) (next_behind l (k.Index n ∷ st) st), descends_behind l n st d.2)

module _ (s : Spot) (ws : List Wide) (all : List Stack) (bounds : List ℕ) where
  abbrev pub sc : Scene
  sc = s.scene

  abbrev pub sk : List Control
  sk = wide_skeleton s.scene.lists ws

  abbrev pub t : ℕ → Stack
  t q = stack_at all q

  abbrev pub Part : ℕ → ℕ → ℕ → Type 0
  Part a b n = IsPart s.scene ws all bounds a b n

  pub join : (a b d m n : ℕ) → Part a b m → Part b d n → Part a d (m + n)
  join = part_join s.scene ws all bounds

  pub none : (a : ℕ) → Part a a 0
  none = part_none s.scene ws all bounds

  pub to : (a b d n m : ℕ) → b ≡ d → n ≡ m → Part a b n → Part a d m
  to = part_to s.scene ws all bounds

  pub step : (q : ℕ) (i : Wide) (st after : Stack) → slice_get ws q ≡ Some i → t q ≡ st → wide_rule s.scene ws q i st ≡ Some ((q + 1, after) ∷ []) → t (q + 1) ≡ after → wide_control s.scene.lists i ≡ c.Step → Part q (q + 1) 1
  step = part_step s.scene ws all bounds

  pub moved : (p q : ℕ) (st : Stack) → p ≡ q → t p ≡ st → t q ≡ st
  moved = at_place s.scene ws all bounds

  -- a stretch, and one instruction that goes on
  pub then_step : (p n m : ℕ) (i : Wide) (st after : Stack) → Part p (p + n) m → slice_get ws (p + n) ≡ Some i → t (p + n) ≡ st → wide_rule s.scene ws (p + n) i st ≡ Some ((p + n + 1, after) ∷ []) → t (p + (n + 1)) ≡ after → wide_control s.scene.lists i ≡ c.Step → Part p (p + (n + 1)) (m + 1)
  then_step p n m i st after f h e r e' g =
      let z : p + (n + 1) ≡ p + n + 1 = omega arith in
      to p (p + n + 1) (p + (n + 1)) (m + 1) (m + 1) (sym z) refl (join p (p + n) (p + n + 1) m 1 f (step (p + n) i st after h e r (moved _ _ after z e') g))

  -- in a stretch without brackets
  module _ (lo hi : ℕ) (bare : IsBare s.scene ws all bounds lo hi) (inside : hi < length sk) where
    pub jumps : (q n : ℕ) → lo ≤ q → n ≤ hi → q < n → IsJump sk q n
    jumps q n l r lt = bare_jump s.scene ws all bounds lo hi q n bare l r lt inside

    pub guarded_part : (of q : ℕ) (taken none' : Wide) (kind : Kind) (st : Stack) → lo ≤ q → q + 4 ≤ hi → is_record s.scene.shape of ≡ true → ((q : ℕ) → wide_rule s.scene ws q taken (k.Occurrence of ∷ st) ≡ Some ((q + 1, kind ∷ st) ∷ [])) → ((q : ℕ) → wide_rule s.scene ws q none' st ≡ Some ((q + 1, kind ∷ st) ∷ [])) → wide_control s.scene.lists taken ≡ c.Step → wide_control s.scene.lists none' ≡ c.Step → HasAt ws q (guarded taken none' of q) → HasAt all q (guarded_stacks st kind of) → t (q + 4) ≡ kind ∷ st → Part q (q + 4) 4
    unfolding signature_by control_by
    guarded_part of q taken none' kind st l r rec rt rn ct cn h s' e =
        let s0 = stack_is all q _ s'.0 in
        let s1 = stack_is all (q + 1) _ s'.1.0 in
        let s2 = stack_is all (q + 1 + 1) _ s'.1.1.0 in
        let s3 = stack_is all (q + 1 + 1 + 1) _ s'.1.1.1.0 in
        let z3 : q + 1 + 1 + 1 ≡ q + 3 = omega arith in
        let z4 : q + 1 + 1 + 1 + 1 ≡ q + 4 = omega arith in
        let s3' = moved _ _ st z3 s3 in
        let e' = moved (q + 4) (q + 1 + 1 + 1 + 1) (kind ∷ st) (sym z4) e in
        let rule = occurrence_rule s ws q of (q + 3) st rec in
        let a : Part q (q + 1) 1 = part_branch s.scene ws all bounds q (q + 3) (occurrence of (q + 3)) (k.Number ∷ st) st (k.Occurrence of ∷ st) h.0 s0 rule s3' s1 refl (jumps q (q + 3) l (omega arith) (omega arith)) in
        let b : Part (q + 1) (q + 1 + 1) 1 = step (q + 1) taken (k.Occurrence of ∷ st) (kind ∷ st) h.1.0 s1 (rt (q + 1)) s2 ct in
        let led3 = led_place s.scene ws all bounds (q + 3) (q + 1 + 1 + 1) (sym z3) (led_branch s.scene ws all bounds q (q + 3) (occurrence of (q + 3)) (k.Number ∷ st) st (k.Occurrence of ∷ st) h.0 s0 rule (omega arith)) in
        let d : Part (q + 1 + 1) (q + 1 + 1 + 1) 1 = part_jump s.scene ws all bounds (q + 1 + 1) (q + 4) (kind ∷ st) h.1.1.0 s2 e led3 (jumps (q + 1 + 1) (q + 4) (omega arith) r (omega arith)) in
        let f : Part (q + 1 + 1 + 1) (q + 1 + 1 + 1 + 1) 1 = step (q + 1 + 1 + 1) none' st (kind ∷ st) h.1.1.1.0 s3 (rn (q + 1 + 1 + 1)) e' cn in
        to q _ (q + 4) 4 4 z4 refl (join q (q + 1) _ 1 3 a (join (q + 1) (q + 1 + 1) _ 1 2 b (join (q + 1 + 1) (q + 1 + 1 + 1) _ 1 1 d f)))

    -- the indexes are dropped, one after the other
    next_at : (l : List Stack) (st : Stack) (q : ℕ) → HasAt all q l → t (q + length l) ≡ st → t q ≡ next_of l st
    next_at [] st q h e = moved (q + 0) q st (omega arith) e
    next_at (a ∷ l) st q h e = stack_is all q a h.0

    pub pops_part : (l : List Stack) (st : Stack) (q : ℕ) → Descends l st → HasAt ws q (pops (length l)) → HasAt all q l → t (q + length l) ≡ st → Part q (q + length l) (length l)
    unfolding control_by
    pops_part [] st q d h s' e = to q q (q + 0) 0 0 (omega arith) refl (none q)
    pops_part (a ∷ l) st q d h s' e =
        let z : q + length (a ∷ l) ≡ q + 1 + length l = omega arith in
        let e' = moved _ (q + 1 + length l) st z e in
        let s0 : t q ≡ k.Index d.0 ∷ next_of l st = stack_is all q a s'.0 ∙ d.1 in
        let one = step q (with_a ops.Pop 2) (k.Index d.0 ∷ next_of l st) (next_of l st) h.0 s0 (pop_rule s ws q d.0 (next_of l st)) (next_at l st (q + 1) s'.1 e') refl in
        let rest = pops_part l st (q + 1) d.2 h.1 s'.1 e' in
        to q (q + 1 + length l) (q + length (a ∷ l)) (1 + length l) (length (a ∷ l)) (omega arith) (omega arith) (join q (q + 1) (q + 1 + length l) 1 (length l) one rest)

    -- a value is loaded by indexes; where a later one fails, the earlier ones are dropped, and the value is `default`
    pub tail_part : (q n end : ℕ) (i : Wide) (st after : Stack) (l : List Stack) → length l ≡ n → Descends l st → lo ≤ q → q + (n + 3) ≤ hi → end ≡ q + (n + 3) → wide_rule s.scene ws q i after ≡ Some ((q + 1, k.Number ∷ st) ∷ []) → wide_control s.scene.lists i ≡ c.Step → HasAt ws q (i ∷ jump end ∷ (pops n ++ undefined ∷ [])) → HasAt all q (after ∷ (k.Number ∷ st) ∷ (l ++ st ∷ [])) → Led s.scene ws all bounds (q + 1 + 1) → t (q + (n + 3)) ≡ k.Number ∷ st → Part q (q + (n + 3)) (n + 3)
    unfolding signature_by control_by
    tail_part q n end i st after l len d lo' hi' ends rule ctl h s' led e =
        let s0 = stack_is all q _ s'.0 in
        let s1 = stack_is all (q + 1) _ s'.1.0 in
        let u = q + 1 + 1 in
        let hp = subst (λ n. HasAt ws u (pops n ++ undefined ∷ [])) (sym len) h.1.1 in
        let v = u + length l in
        let hu = has_back ws u (length l) (pops (length l)) (undefined ∷ []) (pops_length (length l)) hp in
        let su = has_back all u (length l) l (st ∷ []) refl s'.1.1 in
        let sv = stack_is all v st su.0 in
        let z : v + 1 ≡ q + (n + 3) = omega (arith, len) in
        let a : Part q (q + 1) 1 = step q i after (k.Number ∷ st) h.0 s0 rule s1 ctl in
        let b : Part (q + 1) u 1 = part_jump s.scene ws all bounds (q + 1) end (k.Number ∷ st) h.1.0 s1 (moved _ _ _ (sym ends) e) led (jumps (q + 1) end (omega arith) (omega (arith, ends)) (omega (arith, ends))) in
        let f : Part u v (length l) = pops_part l st u d (has_front ws u (pops (length l)) (undefined ∷ []) hp) (has_front all u l (st ∷ []) s'.1.1) sv in
        let g : Part v (v + 1) 1 = step v undefined st (k.Number ∷ st) hu.0 sv refl (moved _ _ _ (sym z) e) refl in
        to q (v + 1) _ (1 + (1 + (length l + 1))) _ z (omega (arith, len)) (join q (q + 1) (v + 1) 1 _ a (join (q + 1) u (v + 1) 1 _ b (join u v (v + 1) (length l) 1 f g)))

    -- ---- items

    module _ (looped : (q of : ℕ) → lo ≤ q → q < hi → list_any (λ o. o == of) s.loops ≡ true → wide_in_loop s.scene.lists ws q of ≡ true) where
      -- the occurrence of an event or of a loop
      pub here_part : (of q : ℕ) (found : Found) (taken none' : Wide) (kind : Kind) (st : Stack) → lo ≤ q → q + here_size found ≤ hi → is_record s.scene.shape of ≡ true → IsFound s of found → ((q : ℕ) → wide_rule s.scene ws q taken (k.Occurrence of ∷ st) ≡ Some ((q + 1, kind ∷ st) ∷ [])) → ((q : ℕ) → wide_rule s.scene ws q none' st ≡ Some ((q + 1, kind ∷ st) ∷ [])) → wide_control s.scene.lists taken ≡ c.Step → wide_control s.scene.lists none' ≡ c.Step → HasAt ws q (here_code taken none' of q found) → HasAt all q (here_stacks st kind of found) → t (q + here_size found) ≡ kind ∷ st → Part q (q + here_size found) (here_size found)
      unfolding signature_by control_by
      here_part of q h.Loop taken none' kind st l r rec fo rt rn ct cn h s' e =
          let z : q + 1 + 1 ≡ q + 2 = omega arith in
          let s1 = stack_is all (q + 1) _ s'.1.0 in
          let a = step q (with_a ops.CurrentOccurrence of) st (k.Occurrence of ∷ st) h.0 (stack_is all q _ s'.0) (current_rule s ws q of st rec (looped q of l (omega arith) fo)) s1 refl in
          let b = step (q + 1) taken (k.Occurrence of ∷ st) (kind ∷ st) h.1.0 s1 (rt (q + 1)) (moved _ _ _ (sym z) e) ct in
          to q (q + 1 + 1) (q + 2) 2 2 z refl (join q (q + 1) (q + 1 + 1) 1 1 a b)
      here_part of q h.Event taken none' kind st l r rec fo rt rn ct cn h s' e =
          let z : q + 1 + 1 ≡ q + 2 = omega arith in
          let s1 = stack_is all (q + 1) _ s'.1.0 in
          let a = step q (with_c ops.LoadLocal 0) st (k.Occurrence of ∷ st) h.0 (stack_is all q _ s'.0) (load_local s ws q 0 (k.Occurrence of) st fo) s1 refl in
          let b = step (q + 1) taken (k.Occurrence of ∷ st) (kind ∷ st) h.1.0 s1 (rt (q + 1)) (moved _ _ _ (sym z) e) ct in
          to q (q + 1 + 1) (q + 2) 2 2 z refl (join q (q + 1) (q + 1 + 1) 1 1 a b)
      here_part of q h.First taken none' kind st l r rec fo rt rn ct cn h s' e =
          let z : q + 1 + 4 ≡ q + 5 = omega arith in
          let a = step q (w.Constant (pos 1)) st (k.Number ∷ st) h.0 (stack_is all q _ s'.0) refl (stack_is all (q + 1) _ s'.1.0) refl in
          let b = guarded_part of (q + 1) taken none' kind st (omega arith) (omega arith) rec rt rn ct cn h.1 s'.1 (moved _ _ _ (sym z) e) in
          to q (q + 1 + 4) (q + 5) 5 5 z refl (join q (q + 1) (q + 1 + 4) 1 4 a b)

      pub item_part : (x : Present) (q : ℕ) (st : Stack) → IsNumberPresent s x → lo ≤ q → q + present_size x ≤ hi → HasAt ws q (number_of_item q x) → HasAt all q (present_stacks st k.Number x) → t (q + present_size x) ≡ k.Number ∷ st → Part q (q + present_size x) (present_size x)
      unfolding signature_by control_by
      item_part (p.Id item) q st f l r h s' e = step q (with_c ops.IdNumber item) st (k.Number ∷ st) h.0 (stack_is all q _ s'.0) (id_number_rule s ws q item f.1.0 st f.1.1) e refl
      item_part (p.Here field found) q st f l r h s' e = here_part field.owner q found (with_c ops.ItemNumber field.item) undefined k.Number st l r f.0.0.1 f.1 (λ q. item_number_rule s ws q field.item field.owner st f.0.1) (λ q. refl) refl refl h s' e

      pub text_item_part : (x : Present) (q : ℕ) (st : Stack) → IsTextPresent s x → lo ≤ q → q + present_size x ≤ hi → HasAt ws q (text_of_item q x) → HasAt all q (present_stacks st k.Text x) → t (q + present_size x) ≡ k.Text ∷ st → Part q (q + present_size x) (present_size x)
      unfolding signature_by control_by
      text_item_part (p.Id item) q st f l r h s' e = step q (with_c ops.IdText item) st (k.Text ∷ st) h.0 (stack_is all q _ s'.0) (id_text_rule s ws q item f.1.0 st f.1.1) e refl
      text_item_part (p.Here field found) q st f l r h s' e = here_part field.owner q found (with_c ops.ItemText field.item) (w.Chars []) k.Text st l r f.0.0.1 f.1 (λ q. item_text_rule s ws q field.item field.owner st f.0.1) (λ q. refl) refl refl h s' e
