-- The code of statements is typed, and its brackets keep the rules.
use Rattle.std.proofs.Common.{◌≡◌, ℕ, zero, suc, ◌+◌, ◌*◌, ◌<◌, ◌≤◌, Bool, true, false, List, [], ◌∷◌, ◌++◌, length, Some, refl, sym, ap, ◌∙◌, subst, inl, arith, ⊎_elim}
use Rattle.std.specs.Prelude.{◌==◌, ◌||◌, if◌then◌else◌}
use Rattle.std.specs.List.{list_any}
use Rattle.std.proofs.lemmas.Bool.{eq-eqb}
use Rattle.cse_value.specs.Occurrences.{most_occurrences}
use Rattle.cse_image_parts.specs.declared.instruction.Op.TheVariants as ops
use Rattle.cse_syntax_tree.specs.declared.tree.Jump.{Jump}
use Rattle.cse_syntax_tree.specs.declared.tree.Jump.TheVariants as j
use Rattle.cse_code_typing.specs.declared.kind.Kind.TheVariants as k
use Rattle.cse_code_typing.specs.declared.control.Control.{Control}
use Rattle.cse_code_typing.specs.Bracket.{IsBracket, around, first}
use Rattle.cse_code_typing.specs.Skeleton.{control_by}
use Rattle.cse_code_typing.specs.Signature.{signature_by}
use Rattle.cse_logic_tree.specs.Typed.{Number, Statement, Statements, Arms}
use Rattle.cse_logic_tree.specs.Typed.{Empty, Set, SetText, SetItem, SetTextItem, SetCell, CallOf, If, For, Do, Jump', Impute, PutDeck, ErrMsg, no_statement, statement_and, no_arm, else_of, arm}
use Rattle.cse_compile.specs.Wide as w
use Rattle.cse_compile.specs.Wide.{Wide, with_a, with_c, jump, jump_size, jump_over}
use Rattle.cse_compile.specs.declared.setting.Loop.{Loop}
use Rattle.cse_compile.specs.Expressions.{store, number_size, words_size, number_code, words_code}
use Rattle.cse_compile.specs.Statements.{which_size, head_size, head_code, turn_limit, step_code, front_size, front_code, guard_size, guard_code, loop_to, jump_code, jump_code_size, statement_size, block_size, arms_size, statement_code, block_code, arms_code}
use Rattle.cse_meaning.specs.Fit.{Spot, NumberFits, IsSettled, JumpFits, Within, over, StatementFits, BlockFits, ArmsFit}
use Rattle.cse_meaning.specs.Steps.{number_calls, statement_steps, block_steps, arms_steps}
use Rattle.cse_meaning.proofs.At.{HasAt, has_front, has_back}
use Rattle.cse_meaning.proofs.Spans.{IsSealed, sealed_join, sealed_around, around_inside}
use Rattle.cse_meaning.proofs.WideRule.{Stack}
use Rattle.cse_meaning.proofs.Stacks.{number_stacks, words_stacks}
use Rattle.cse_meaning.proofs.StatementStacks.{N, head_stacks, step_stacks, jump_code_stacks, jump_stacks, front_stacks, front_stacks_length, head_stacks_length, statement_stacks, block_stacks, arms_stacks, statement_stacks_length, block_stacks_length, block_start, arms_start, jump_by}
use Rattle.cse_meaning.proofs.Lengths.{number_length, words_length, number_stacks_length, words_stacks_length}
use Rattle.cse_meaning.proofs.Begins.{number_begins, words_begin}
use Rattle.cse_meaning.proofs.TypedBlocks.{IsSimple, simple_plain, head_length, front_length, statement_length, block_length}
use Rattle.cse_meaning.proofs.TypedPlain.{plain_more, plain_self, number_plain, store_plain}
use Rattle.cse_meaning.proofs.Rules.{store_rule, store_steps, store_global, current_rule, number_rule, put_number_rule, put_text_rule, impute_rule}
use Rattle.cse_meaning.proofs.TypedParts.{stack_is, IsBare, bare_sealed, part_one, part_jump}
use Rattle.cse_meaning.proofs.Chains.{sk, t, Part, join, none, to, step, moved}
use Rattle.cse_meaning.proofs.TypedExpressions.{use_value, number_part, words_part}
use Rattle.cse_meaning.proofs.Simple.{put_part, cell_part, deck_part, called_part, message_part}
use Rattle.cse_meaning.proofs.Seals.{plain_bare, opened, front_sealed, block_sealed}
use Rattle.cse_meaning.proofs.TypedLoops.{exit_part, Looped, looped_more, looped_over, looped_here, guard_part, loop_part, each_rule, head_part, count_part}

module _ (ws : List Wide) (all : List Stack) (bounds : List ℕ) where
  abbrev K : Spot → List Control
  K s = sk s ws all bounds

  abbrev P : Spot → ℕ → ℕ → ℕ → Type 0
  P s a b n = Part s ws all bounds a b n

  abbrev T : Spot → ℕ → Stack
  T s q = t s ws all bounds q

  -- a loop is around: where a break and a `next` lead
  abbrev pub Breaks : Spot → Bool → Loop → List ℕ → ℕ → Type 0
  Breaks s inside l os b = inside ≡ true → (o : ℕ) × (first os ≡ Some o) × IsBracket (K s) o l.end × (T s (l.end + 1) ≡ []) × (around (K s) l.turn_end ≡ os) × (T s l.turn_end ≡ []) × (b ≤ l.turn_end) × (l.turn_end < length (K s))

  -- the same of what ends before
  breaks_before : (s : Spot) (inside : Bool) (l : Loop) (os : List ℕ) (a b : ℕ) → a ≤ b → Breaks s inside l os b → Breaks s inside l os a
  breaks_before s inside l os a b le h e = let k = h e in let m = k.6 in (k.0, k.1, k.2, k.3, k.4, k.5, omega arith, k.7)

  -- one loop more
  with_room : (room : ℕ) (Q : ℕ → Type 0) (R : Type 0) → Within room Q → ((m : ℕ) → room ≡ suc m → Q m → R) → R
  with_room zero Q R h f = absurd h
  with_room (suc m) Q R h f = f m refl h

  -- what is known of a place where a statement begins
  pub record Stands (s : Spot) (room : ℕ) (inside : Bool) (l : Loop) (os : List ℕ) (p n : ℕ) : Type 0 where
    pub settled : IsSettled s
    pub around_it : around (K s) p ≡ os
    pub looped : Looped s ws all bounds s os
    pub few : length os + room ≤ 64
    pub breaks : Breaks s inside l os (p + n)
    pub within : p + n < length (K s)
    pub behind : T s (p + n) ≡ []

  jump_part : (x : Jump) (s : Spot) (room : ℕ) (inside : Bool) (l : Loop) (os : List ℕ) (p : ℕ) → JumpFits inside x → Stands s room inside l os p (jump_code_size s.setting x) → HasAt ws p (jump_code s.setting l x) → HasAt all p (jump_code_stacks s x) → P s p (p + jump_code_size s.setting x) (jump_code_size s.setting x)
  unfolding signature_by control_by
  jump_part j.Break s room inside l os p f b h s' =
      let k = b.breaks f in
      part_one s.scene ws all bounds p (with_c ops.Break l.end) [] ((l.end + 1, []) ∷ []) h.0 (stack_is all p _ s'.0) refl ((λ lt. k.3), tt) (inl b.behind) (k.0, ap first b.around_it ∙ k.1, k.2) refl
  jump_part j.Next s room inside l os p f b h s' =
      let k = b.breaks f in
      let before = k.6 in
      part_jump s.scene ws all bounds p l.turn_end [] h.0 (stack_is all p _ s'.0) k.5 (inl b.behind) (omega arith, k.7, ap first (k.4 ∙ sym b.around_it))
  jump_part j.Exit s room inside l os p f b h s' = exit_part s ws all bounds s.setting.result_at p b.settled.exit h s' b.behind

  bare_simple : (x : Statement) (s : Spot) (l : Loop) (p : ℕ) → IsSimple s.scene.lists x → HasAt ws p (statement_code s.setting l p x) → IsBare s.scene ws all bounds p (p + statement_size s.setting x)
  bare_simple x s l p f h = plain_bare s.scene ws all bounds (statement_code s.setting l p x) (statement_size s.setting x) p (statement_length s.setting l p x) (simple_plain s.scene.lists s.setting l p x f) h

  -- a condition, and what it guards; the parts of the others are handed in
  choice_part : (s : Spot) (room : ℕ) (inside : Bool) (l : Loop) (os : List ℕ) (condition : Number) (body : Statements) (others : Arms) (p end nb no' : ℕ) → end ≡ p + guard_size (number_size condition) (block_size s.setting body) (arms_size s.setting others) → NumberFits s condition → Stands s room inside l os p (guard_size (number_size condition) (block_size s.setting body) (arms_size s.setting others)) → HasAt ws p (guard_code end p (number_size condition) (block_size s.setting body) (arms_size s.setting others) (number_code s.setting p condition) (block_code s.setting l (p + number_size condition + 1) body) (arms_code s.setting l end (p + front_size (number_size condition) (block_size s.setting body) (arms_size s.setting others)) others)) → HasAt all p (front_stacks (arms_size s.setting others) (number_stacks s [] condition) (block_stacks s body) ++ arms_stacks s others) → ((q : ℕ) → q ≡ p + number_size condition + 1 → Stands s room inside l os q (block_size s.setting body) → HasAt ws q (block_code s.setting l q body) → HasAt all q (block_stacks s body) → P s q (q + block_size s.setting body) nb) → ((q : ℕ) → q + arms_size s.setting others ≡ end → Stands s room inside l os q (arms_size s.setting others) → HasAt ws q (arms_code s.setting l end q others) → HasAt all q (arms_stacks s others) → P s q (q + arms_size s.setting others) no') → P s p (p + guard_size (number_size condition) (block_size s.setting body) (arms_size s.setting others)) (number_size condition + number_calls bounds condition + (1 + (nb + (jump_size (arms_size s.setting others) + no'))))
  unfolding control_by
  choice_part s room inside l os condition body others p end nb no' e f b h s' body_claim others_claim =
      let m = number_size condition in
      let n = block_size s.setting body in
      let k' = arms_size s.setting others in
      let q = p + m in
      let u = q + 1 + n in
      let v = p + front_size m n k' in
      let size = guard_size m n k' in
      let cc = number_code s.setting p condition in
      let bc = block_code s.setting l (q + 1) body in
      let lc = number_length s.setting p condition in
      let lb = block_length s.setting l (q + 1) body in
      let hf = has_front ws p (front_code end p m n k' cc bc) _ h in
      let ho = has_back ws p (front_size m n k') (front_code end p m n k' cc bc) _ (front_length end p m n k' cc bc lc lb) h in
      let fs = front_stacks k' (number_stacks s [] condition) (block_stacks s body) in
      let sf = has_front all p fs _ s' in
      let so = has_back all p (front_size m n k') fs _ (front_stacks_length k' (number_stacks s [] condition) (block_stacks s body) m n (number_stacks_length s [] condition) (block_stacks_length s body)) s' in
      let h1 = has_back ws p m cc _ lc hf in
      let s1 = has_back all p m (number_stacks s [] condition) _ (number_stacks_length s [] condition) sf in
      let hc = has_front ws p cc _ hf in
      let hb = has_front ws (q + 1) bc _ h1.1 in
      let sb = has_front all (q + 1) (block_stacks s body) _ s1.1 in
      let hj = has_back ws (q + 1) n bc _ lb h1.1 in
      let sj = has_back all (q + 1) n (block_stacks s body) _ (block_stacks_length s body) s1.1 in
      let tq = stack_is all q _ s1.0 in
      let within = b.within in
      let te = moved s ws all bounds (p + size) end [] (sym e) b.behind in
      let tve = moved s ws all bounds (p + size) (v + k') [] (omega arith) b.behind in
      let tv = arms_start s all v others so tve in
      let tu = jump_first u k' sj (moved s ws all bounds v (u + jump_size k') [] (omega arith) tv) in
      let t1 = block_start s all (q + 1) body sb tu in
      let bare = plain_bare s.scene ws all bounds cc m p lc (number_plain s.scene.lists s.setting p condition) hc in
      let pc = number_part s ws all bounds p q bare (omega arith) (looped_here s ws all bounds p q os bare b.around_it b.looped) condition f p [] (omega arith) (omega arith) hc (has_front all p (number_stacks s [] condition) _ sf) tq in
      let plain = plain_bare s.scene ws all bounds (with_c ops.JumpUnless v ∷ []) 1 q refl (plain_more s.scene.lists _ [] refl (plain_self s.scene.lists [] refl)) (h1.0, tt) in
      let one = bare_sealed s.scene ws all bounds q (q + 1) q (q + 1) plain (omega arith) (omega arith) in
      let a1 = sealed_around (K s) p (q + 1) (omega arith) (sealed_join (K s) p q (q + 1) (omega arith) (omega arith) pc.sealed one) ∙ b.around_it in
      let av = sealed_around (K s) p v (omega arith) (front_sealed s.scene ws all bounds end p m n k' cc bc lc lb (number_plain s.scene.lists s.setting p condition) (λ hb. block_sealed s.scene ws all bounds body s.setting l (p + m + 1) hb) hf) ∙ b.around_it in
      let pb = body_claim (q + 1) refl (record { settled = b.settled; around_it = a1; looped = b.looped; few = b.few; breaks = breaks_before s inside l os (q + 1 + n) (p + size) (omega arith) b.breaks; within = omega arith; behind = tu }) hb sb in
      let po = others_claim v (omega (arith, e)) (record { settled = b.settled; around_it = av; looped = b.looped; few = b.few; breaks = breaks_before s inside l os (v + k') (p + size) (omega arith) b.breaks; within = omega arith; behind = tve }) ho so in
      guard_part s ws all bounds p m n k' end _ nb no' e (omega (arith, e)) pc tq h1.0 t1 pb tu hj tv po te
    where
      jump_first : (u k' : ℕ) → HasAt all u (jump_stacks k') → T s (u + jump_size k') ≡ [] → T s u ≡ []
      jump_first u k' h e = ⊎_elim
          (λ (x : (k' ≡ 0) × (k' == 0 ≡ true)). let z = x.0 in moved s ws all bounds (u + jump_size k') u [] (omega arith) e)
          (λ (x : (1 ≤ k') × (k' == 0 ≡ false)). let h' = subst (HasAt all u) (ap (λ b. if b then [] else [] ∷ []) x.1) h in stack_is all u [] h'.0)
          (jump_by k')

  -- a `for` over a record is around its body
  self_looped : (of : ℕ) (loops : List ℕ) → list_any (λ o. o == of) (of ∷ loops) ≡ true
  self_looped of loops = ap (λ b. b || list_any (λ o. o == of) loops) (eq-eqb of of refl)

  mutual
    unfolding statement_size block_size arms_size statement_code block_code arms_code statement_stacks block_stacks arms_stacks statement_steps block_steps arms_steps signature_by control_by

    pub statement_part : (x : Statement) (s : Spot) (room : ℕ) (inside : Bool) (l : Loop) (os : List ℕ) (p : ℕ) → StatementFits s room inside x → Stands s room inside l os p (statement_size s.setting x) → HasAt ws p (statement_code s.setting l p x) → HasAt all p (statement_stacks s x) → P s p (p + statement_size s.setting x) (statement_steps bounds s.setting x)
    statement_part Empty s room inside l os p f b h s' = to s ws all bounds p p (p + 0) 0 0 (omega arith) refl (none s ws all bounds p)
    statement_part (Set name variable x) s room inside l os p f b h s' =
        let n = number_size x in
        let hi = p + (n + 1) in
        let bare = bare_simple (Set name variable x) s l p tt h in
        to s ws all bounds p _ _ _ _ refl (omega arith) (use_value s ws all bounds (number_code s.setting p x) (number_stacks s [] x) n _ p (store s.setting variable) N [] (number_length s.setting p x) (number_stacks_length s [] x) h s' (λ hx sx tx. number_part s ws all bounds p hi bare b.within (looped_here s ws all bounds p hi os bare b.around_it b.looped) x f.1 p [] (omega arith) (omega arith) hx sx tx) (store_rule s ws (p + n) variable [] f.0) b.behind (store_steps s ws variable))
    statement_part (SetText name variable x) s room inside l os p f b h s' =
        let n = words_size x in
        let hi = p + (n + 1) in
        let bare = bare_simple (SetText name variable x) s l p tt h in
        to s ws all bounds p _ _ _ _ refl (omega arith) (use_value s ws all bounds (words_code s.setting p x) (words_stacks s [] x) n _ p (with_c ops.StoreGlobal variable) (k.Text ∷ []) [] (words_length s.setting p x) (words_stacks_length s [] x) h s' (λ hx sx tx. words_part s ws all bounds p hi bare b.within (looped_here s ws all bounds p hi os bare b.around_it b.looped) x f.1 p [] (omega arith) (omega arith) hx sx tx) (store_global s ws (p + n) variable k.Text [] f.0) b.behind refl)
    statement_part (SetItem name field which x) s room inside l os p f b h s' =
        let n = number_size x in
        let hi = p + (which_size which + (n + 1)) in
        let st = k.Occurrence field.owner ∷ [] in
        let q = p + which_size which in
        let bare = bare_simple (SetItem name field which x) s l p tt h in
        let looped = looped_here s ws all bounds p hi os bare b.around_it b.looped in
        to s ws all bounds p _ _ _ _ refl (omega arith) (put_part s ws all bounds p hi bare b.within looped which field.owner p n _ (number_code s.setting q x) (number_stacks s st x) (with_c ops.StoreNumber field.item) k.Number f.0.0 f.1 (omega arith) (omega arith) (number_length s.setting q x) (number_stacks_length s st x) (number_begins s st x) h s' (λ hx sx tx. number_part s ws all bounds p hi bare b.within looped x f.2 q st (omega arith) (omega arith) hx sx tx) (put_number_rule s ws (q + n) field.item field.owner [] f.0.1) refl b.behind)
    statement_part (SetTextItem name field which x) s room inside l os p f b h s' =
        let n = words_size x in
        let hi = p + (which_size which + (n + 1)) in
        let st = k.Occurrence field.owner ∷ [] in
        let q = p + which_size which in
        let bare = bare_simple (SetTextItem name field which x) s l p tt h in
        let looped = looped_here s ws all bounds p hi os bare b.around_it b.looped in
        to s ws all bounds p _ _ _ _ refl (omega arith) (put_part s ws all bounds p hi bare b.within looped which field.owner p n _ (words_code s.setting q x) (words_stacks s st x) (with_c ops.StoreText field.item) k.Text f.0.0 f.1 (omega arith) (omega arith) (words_length s.setting q x) (words_stacks_length s st x) (words_begin s st x) h s' (λ hx sx tx. words_part s ws all bounds p hi bare b.within looped x f.2 q st (omega arith) (omega arith) hx sx tx) (put_text_rule s ws (q + n) field.item field.owner [] f.0.1) refl b.behind)
    statement_part (SetCell name array xs x) s room inside l os p f b h s' =
        let bare = bare_simple (SetCell name array xs x) s l p tt h in
        cell_part s ws all bounds p _ bare b.within (looped_here s ws all bounds p _ os bare b.around_it b.looped) array p xs x f.0 f.1 f.2 (omega arith) (omega arith) h s' b.behind
    statement_part (CallOf name function xs) s room inside l os p f b h s' =
        let bare = bare_simple (CallOf name function xs) s l p tt h in
        called_part s ws all bounds p _ bare b.within (looped_here s ws all bounds p _ os bare b.around_it b.looped) function p xs f.0 f.1 (omega arith) (omega arith) h s' b.behind
    statement_part (If condition body others) s room inside l os p f b h s' =
        choice_part s room inside l os condition body others p (p + guard_size (number_size condition) (block_size s.setting body) (arms_size s.setting others)) _ _ refl f.0 b h s'
        (λ q e b hq sq. block_part body s room inside l os q f.1 b hq sq)
        (λ q e b hq sq. arms_part others s room inside l os _ q e f.2 b hq sq)
    statement_part (For name variable record_name of body) s room inside l os p f b h s' =
        let n = block_size s.setting body in
        let e = p + 4 + n in
        let p1 = p + 1 in
        let p2 = p1 + 1 in
        let p3 = p2 + 1 in
        let p4 = p3 + 1 in
        let z : p4 ≡ p + 4 = omega arith in
        let o = over s of in
        let lp = loop_to e e in
        let c' = block_code s.setting lp (p + 4) body in
        let h' = subst (λ q. HasAt ws q (c' ++ with_c ops.End p ∷ [])) z h.1.1.1.1 in
        let s'' = subst (λ q. HasAt all q (block_stacks o body ++ [] ∷ [])) z s'.1.1.1.1 in
        let h2 = has_back ws (p + 4) n c' _ (block_length s.setting lp (p + 4) body) h' in
        let s2 = has_back all (p + 4) n (block_stacks o body) _ (block_stacks_length o body) s'' in
        let hb = has_front ws (p + 4) c' _ h' in
        let sb = has_front all (p + 4) (block_stacks o body) _ s'' in
        let zz : p + (n + 5) ≡ e + 1 = omega arith in
        let within = b.within in
        let tend = moved s ws all bounds _ (e + 1) [] zz b.behind in
        let te = stack_is all e _ s2.0 in
        let t1 = stack_is all p1 _ s'.1.0 in
        let t2 = stack_is all p2 _ s'.1.1.0 in
        let t3 = stack_is all p3 _ s'.1.1.1.0 in
        let tb = block_start o all (p + 4) body sb te in
        let t4 = moved s ws all bounds (p + 4) p4 [] (sym z) tb in
        let i = w.Plain ops.LoopOccurrences of 0 e in
        let br = opened s.scene ws all bounds p e i (omega arith) h.0 refl h2.0 in
        let a1 : around (K s) p1 ≡ p ∷ os = around_inside (K s) p e br ∙ ap (λ l. p ∷ l) b.around_it in
        let start = with_a ops.CurrentOccurrence of ∷ with_a ops.OccurrenceNumber of ∷ store s.setting variable ∷ [] in
        let bare = plain_bare s.scene ws all bounds start 3 p1 refl (plain_more s.scene.lists _ _ refl (plain_more s.scene.lists _ _ refl (plain_more s.scene.lists _ _ (store_plain s.scene.lists s.setting variable) (plain_self s.scene.lists [] refl)))) (h.1.0, (h.1.1.0, (h.1.1.1.0, tt))) in
        let sa : IsSealed (K s) p1 (p + 4) = bare_sealed s.scene ws all bounds p1 (p1 + 3) p1 (p + 4) bare (omega arith) (omega arith) in
        let a4 = sealed_around (K s) p1 (p + 4) (omega arith) sa ∙ a1 in
        let ae = sealed_around (K s) (p + 4) e (omega arith) (block_sealed s.scene ws all bounds body s.setting lp (p + 4) hb) ∙ a4 in
        let more = looped_over s ws all bounds os p of e h.0 b.looped in
        let in_loop = looped_here o ws all bounds p1 (p1 + 3) (p ∷ os) bare a1 more p1 of (omega arith) (omega arith) (self_looped of s.loops) in
        let c1 = step s ws all bounds p1 (with_a ops.CurrentOccurrence of) [] (k.Occurrence of ∷ []) h.1.0 t1 (current_rule s ws p1 of [] f.0.1 in_loop) t2 refl in
        let c2 = step s ws all bounds p2 (with_a ops.OccurrenceNumber of) (k.Occurrence of ∷ []) N h.1.1.0 t2 (number_rule s ws p2 of [] f.0.1) t3 refl in
        let c3 = step s ws all bounds p3 (store s.setting variable) N [] h.1.1.1.0 t3 (store_rule s ws p3 variable [] f.1) t4 (store_steps s ws variable) in
        let starts = to s ws all bounds p1 p4 (p + 4) 3 3 z refl (join s ws all bounds p1 p2 p4 1 2 c1 (join s ws all bounds p2 p3 p4 1 1 c2 c3)) in
        let few = b.few in
        let lengths : length (around (K s) p) ≡ length os = ap length b.around_it in
        let inner : P s (p + 4) e (block_steps bounds s.setting body) = with_room room (λ m. BlockFits o m true body) (P s (p + 4) e (block_steps bounds s.setting body)) f.2
        (λ m same fits. block_part body o m true lp (p ∷ os) (p + 4) fits (record { settled = record { exit = b.settled.exit; records = b.settled.records }; around_it = a4; looped = more; few = omega arith; breaks = λ e'. (p, refl, br, tend, ae, te, omega arith, omega arith); within = omega arith; behind = te }) hb sb) in
        let room_left : length (around (K s) p) ≤ 63 = with_room room (λ m. BlockFits o m true body) (length (around (K s) p) ≤ 63) f.2 (λ m same fits. omega arith) in
        let whole = loop_part s ws all bounds p e (most_occurrences s.scene.lists.records of) (3 + block_steps bounds s.setting body) i [] (omega arith) h.0 refl (each_rule s ws all bounds p of e f.0.1) h2.0 (stack_is all p _ s'.0) t1 te tend room_left br (join s ws all bounds p1 (p + 4) e 3 _ starts inner) in
        to s ws all bounds p (e + 1) _ _ _ (sym zz) (ap (λ r. 1 + most_occurrences r of * (3 + block_steps bounds s.setting body + 1)) (sym b.settled.records)) whole
    statement_part (Do counting body) s room inside l os p f b h s' =
        let n = block_size s.setting body in
        let hs = head_size s.setting.records counting in
        let o = p + hs in
        let u = o + 1 + n in
        let e = u + 4 in
        let lp = loop_to u e in
        let limit = turn_limit s.setting.records counting in
        let i = w.Turns limit e in
        let c' = block_code s.setting lp (o + 1) body in
        let hh = has_front ws p (head_code s.setting counting) _ h in
        let sh = has_front all p (head_stacks s counting) _ s' in
        let h1 = has_back ws p hs (head_code s.setting counting) _ (head_length s.setting counting) h in
        let s1 = has_back all p hs (head_stacks s counting) _ (head_stacks_length s counting) s' in
        let hb = has_front ws (o + 1) c' _ h1.1 in
        let sb = has_front all (o + 1) (block_stacks s body) _ s1.1 in
        let h2 = has_back ws (o + 1) n c' _ (block_length s.setting lp (o + 1) body) h1.1 in
        let s2 = has_back all (o + 1) n (block_stacks s body) _ (block_stacks_length s body) s1.1 in
        let hstep = has_front ws u (step_code s.setting counting) (with_c ops.End o ∷ []) h2 in
        let sstep = has_front all u step_stacks ([] ∷ []) s2 in
        let h3 = has_back ws u 4 (step_code s.setting counting) (with_c ops.End o ∷ []) refl h2 in
        let s3 = has_back all u 4 step_stacks ([] ∷ []) refl s2 in
        let zz : p + (hs + (n + 6)) ≡ e + 1 = omega arith in
        let within = b.within in
        let tend = moved s ws all bounds _ (e + 1) [] zz b.behind in
        let te = stack_is all e _ s3.0 in
        let to' = stack_is all o _ s1.0 in
        let tu = stack_is all u _ s2.0 in
        let t1 = block_start s all (o + 1) body sb tu in
        let br = opened s.scene ws all bounds o e i (omega arith) h1.0 refl h3.0 in
        let heads = head_part s ws all bounds counting p f.0 hh sh to' in
        let ao = sealed_around (K s) p o (omega arith) heads.sealed ∙ b.around_it in
        let a1 : around (K s) (o + 1) ≡ o ∷ os = around_inside (K s) o e br ∙ ap (λ l. o ∷ l) ao in
        let au = sealed_around (K s) (o + 1) u (omega arith) (block_sealed s.scene ws all bounds body s.setting lp (o + 1) hb) ∙ a1 in
        let few = b.few in
        let lengths : length (around (K s) o) ≡ length os = ap length ao in
        let inner : P s (o + 1) u (block_steps bounds s.setting body) = with_room room (λ m. BlockFits s m true body) (P s (o + 1) u (block_steps bounds s.setting body)) f.1
        (λ m same fits. block_part body s m true lp (o ∷ os) (o + 1) fits (record { settled = b.settled; around_it = a1; looped = looped_more s ws all bounds os o b.looped; few = omega arith; breaks = λ e'. (o, refl, br, tend, au, tu, omega arith, omega arith); within = omega arith; behind = tu }) hb sb) in
        let room_left : length (around (K s) o) ≤ 63 = with_room room (λ m. BlockFits s m true body) (length (around (K s) o) ≤ 63) f.1 (λ m same fits. omega arith) in
        let counts = count_part s ws all bounds counting u f.0 hstep sstep te in
        let whole = loop_part s ws all bounds o e limit (block_steps bounds s.setting body + 4) i N (omega arith) h1.0 refl refl h3.0 to' t1 te tend room_left br (join s ws all bounds (o + 1) u e _ 4 inner counts) in
        to s ws all bounds p (e + 1) _ _ _ (sym zz) refl (join s ws all bounds p o (e + 1) hs _ heads whole)
    statement_part (Jump' token x) s room inside l os p f b h s' = jump_part x s room inside l os p f b h s'
    statement_part (Impute name field which x) s room inside l os p f b h s' =
        let n = number_size x in
        let hi = p + (which_size which + (n + 1)) in
        let st = k.Occurrence field.owner ∷ [] in
        let q = p + which_size which in
        let bare = bare_simple (Impute name field which x) s l p tt h in
        let looped = looped_here s ws all bounds p hi os bare b.around_it b.looped in
        to s ws all bounds p _ _ _ _ refl (omega arith) (put_part s ws all bounds p hi bare b.within looped which field.owner p n _ (number_code s.setting q x) (number_stacks s st x) (with_c ops.Impute field.item) k.Number f.0.0 f.1 (omega arith) (omega arith) (number_length s.setting q x) (number_stacks_length s st x) (number_begins s st x) h s' (λ hx sx tx. number_part s ws all bounds p hi bare b.within looped x f.2 q st (omega arith) (omega arith) hx sx tx) (impute_rule s ws (q + n) field.item field.owner [] f.0.1) refl b.behind)
    statement_part (PutDeck name array picks x) s room inside l os p f b h s' =
        let bare = bare_simple (PutDeck name array picks x) s l p tt h in
        deck_part s ws all bounds p _ bare b.within (looped_here s ws all bounds p _ os bare b.around_it b.looped) array p picks x f.0 f.1 (omega arith) (omega arith) h s' b.behind
    statement_part (ErrMsg message index xs summary) s room inside l os p f b h s' =
        let bare = bare_simple (ErrMsg message index xs summary) s l p tt h in
        message_part s ws all bounds p _ bare b.within (looped_here s ws all bounds p _ os bare b.around_it b.looped) index p xs f.0 f.1 (omega arith) (omega arith) h s' b.behind

    pub block_part : (xs : Statements) (s : Spot) (room : ℕ) (inside : Bool) (l : Loop) (os : List ℕ) (p : ℕ) → BlockFits s room inside xs → Stands s room inside l os p (block_size s.setting xs) → HasAt ws p (block_code s.setting l p xs) → HasAt all p (block_stacks s xs) → P s p (p + block_size s.setting xs) (block_steps bounds s.setting xs)
    block_part no_statement s room inside l os p f b h s' = to s ws all bounds p p (p + 0) 0 0 (omega arith) refl (none s ws all bounds p)
    block_part (statement_and x xs) s room inside l os p f b h s' =
        let n = statement_size s.setting x in
        let m = block_size s.setting xs in
        let q = p + n in
        let h' = has_back ws p n (statement_code s.setting l p x) _ (statement_length s.setting l p x) h in
        let s'' = has_back all p n (statement_stacks s x) _ (statement_stacks_length s x) s' in
        let z : p + (n + m) ≡ q + m = omega arith in
        let within = b.within in
        let te = moved s ws all bounds _ (q + m) [] z b.behind in
        let tq = block_start s all q xs s'' te in
        let px = statement_part x s room inside l os p f.0 (record { settled = b.settled; around_it = b.around_it; looped = b.looped; few = b.few; breaks = breaks_before s inside l os q (p + (n + m)) (omega arith) b.breaks; within = omega arith; behind = tq }) (has_front ws p (statement_code s.setting l p x) _ h) (has_front all p (statement_stacks s x) _ s') in
        let aq = sealed_around (K s) p q (omega arith) px.sealed ∙ b.around_it in
        let pxs = block_part xs s room inside l os q f.1 (record { settled = b.settled; around_it = aq; looped = b.looped; few = b.few; breaks = breaks_before s inside l os (q + m) (p + (n + m)) (omega arith) b.breaks; within = omega arith; behind = te }) h' s'' in
        to s ws all bounds p (q + m) _ _ _ (sym z) refl (join s ws all bounds p q (q + m) _ _ px pxs)

    pub arms_part : (xs : Arms) (s : Spot) (room : ℕ) (inside : Bool) (l : Loop) (os : List ℕ) (end p : ℕ) → p + arms_size s.setting xs ≡ end → ArmsFit s room inside xs → Stands s room inside l os p (arms_size s.setting xs) → HasAt ws p (arms_code s.setting l end p xs) → HasAt all p (arms_stacks s xs) → P s p (p + arms_size s.setting xs) (arms_steps bounds s.setting xs)
    arms_part no_arm s room inside l os end p e f b h s' = to s ws all bounds p p (p + 0) 0 0 (omega arith) refl (none s ws all bounds p)
    arms_part (else_of body) s room inside l os end p e f b h s' = block_part body s room inside l os p f b h s'
    arms_part (arm condition body others) s room inside l os end p e f b h s' =
        choice_part s room inside l os condition body others p end _ _ (sym e) f.0 b h s'
        (λ q e b hq sq. block_part body s room inside l os q f.1 b hq sq)
        (λ q e b hq sq. arms_part others s room inside l os end q e f.2 b hq sq)
