-- The code of statements is sealed: its brackets begin and end in it.
use Rattle.std.proofs.Common.{◌≡◌, ℕ, ◌+◌, ◌<◌, true, List, [], ◌∷◌, ◌++◌, length, Some, refl, ap, ◌∙◌, subst, arith}
use Rattle.std.specs.Prelude.{slice_get}
use Rattle.cse_image_parts.specs.declared.instruction.Op.TheVariants as ops
use Rattle.cse_code_typing.specs.declared.control.Control.{Control}
use Rattle.cse_code_typing.specs.Bracket.{named_end, named_opener, IsBracket}
use Rattle.cse_code_typing.specs.Skeleton.{control_by}
use Rattle.cse_code_typing.specs.Signature.{Scene}
use Rattle.cse_logic_tree.specs.Typed.{Statement, Statements, Arms}
use Rattle.cse_logic_tree.specs.Typed.{Empty, Set, SetText, SetItem, SetTextItem, SetCell, CallOf, If, For, Do, Jump', Impute, PutDeck, ErrMsg, no_statement, statement_and, no_arm, else_of, arm}
use Rattle.cse_compile.specs.Wide as w
use Rattle.cse_compile.specs.Wide.{Wide, with_a, with_c, jump, jump_over, jump_size}
use Rattle.cse_compile.specs.Setting.{Setting}
use Rattle.cse_compile.specs.declared.setting.Loop.{Loop}
use Rattle.cse_compile.specs.Expressions.{store, number_size, number_code}
use Rattle.cse_compile.specs.Statements.{head_size, head_code, turn_limit, step_code, front_size, front_code, loop_to, statement_size, block_size, arms_size, statement_code, block_code, arms_code}
use Rattle.cse_meaning.proofs.At.{HasAt, has_front, has_back}
use Rattle.cse_meaning.proofs.WideRule.{Stack, wide_control, wide_skeleton}
use Rattle.cse_meaning.proofs.Spans.{IsSealed, sealed_join, sealed_none, loop_sealed}
use Rattle.cse_meaning.proofs.TypedParts.{is_plain, IsBare, bare_code, bare_sealed, control_at}
use Rattle.cse_meaning.proofs.TypedPlain.{ArePlain, plain_more, plain_self, number_plain, store_plain}
use Rattle.cse_meaning.proofs.Lengths.{number_length}
use Rattle.cse_meaning.proofs.StatementStacks.{jump_length}
use Rattle.cse_meaning.proofs.TypedBlocks.{IsSimple, simple_plain, head_plain, step_plain, jump_over_plain, head_length, front_length, statement_length, block_length}

module _ (sc : Scene) (ws : List Wide) (all : List Stack) (bounds : List ℕ) where
  abbrev sk : List Control
  sk = wide_skeleton sc.lists ws

  pub plain_bare : (l : List Wide) (n p : ℕ) → length l ≡ n → ArePlain sc.lists l → HasAt ws p l → IsBare sc ws all bounds p (p + n)
  plain_bare l n p e f h = subst (λ n. IsBare sc ws all bounds p (p + n)) e (bare_code sc ws all bounds l p h f.by)

  plain_sealed : (l : List Wide) (n p : ℕ) → length l ≡ n → ArePlain sc.lists l → HasAt ws p l → IsSealed sk p (p + n)
  plain_sealed l n p e f h = bare_sealed sc ws all bounds p (p + n) p (p + n) (plain_bare l n p e f h) (omega arith) (omega arith)

  one_sealed : (i : Wide) (p : ℕ) → is_plain sc.lists i ≡ true → slice_get ws p ≡ Some i → IsSealed sk p (p + 1)
  one_sealed i p f h = plain_sealed (i ∷ []) 1 p refl (plain_more sc.lists i [] f (plain_self sc.lists [] refl)) (h, tt)

  sealed_to : (a b d : ℕ) → b ≡ d → IsSealed sk a b → IsSealed sk a d
  sealed_to a b d e h = subst (IsSealed sk a) e h

  -- a bracket, by what stands at its ends
  pub opened : (a e : ℕ) (i : Wide) → a < e → slice_get ws a ≡ Some i → named_end (Some (wide_control sc.lists i)) ≡ Some e → slice_get ws e ≡ Some (with_c ops.End a) → IsBracket sk a e
  unfolding control_by
  opened a e i lt h n k = (lt, ap named_end (control_at sc ws all bounds a i h) ∙ n, ap named_opener (control_at sc ws all bounds e (with_c ops.End a) k))

  pub front_sealed : (end p m n k : ℕ) (c b : List Wide) → length c ≡ m → length b ≡ n → ArePlain sc.lists c → (HasAt ws (p + m + 1) b → IsSealed sk (p + m + 1) (p + m + 1 + n)) → HasAt ws p (front_code end p m n k c b) → IsSealed sk p (p + front_size m n k)
  unfolding control_by
  front_sealed end p m n k c b lc lb plain body h =
      let q = p + m in
      let u = q + 1 + n in
      let h' = has_back ws p m c _ lc h in
      let h'' = has_back ws (q + 1) n b _ lb h'.1 in
      let sc' = plain_sealed c m p lc plain (has_front ws p c _ h) in
      let so = one_sealed (with_c ops.JumpUnless (p + front_size m n k)) q refl h'.0 in
      let sb = body (has_front ws (q + 1) b _ h'.1) in
      let sj = plain_sealed (jump_over end k) (jump_size k) u (jump_length (jump end) k) (jump_over_plain sc.lists end k) h'' in
      let x = sealed_join sk (q + 1) u (u + jump_size k) (omega arith) (omega arith) sb sj in
      let y = sealed_join sk q (q + 1) (u + jump_size k) (omega arith) (omega arith) so x in
      sealed_to p (u + jump_size k) _ (omega arith) (sealed_join sk p q (u + jump_size k) (omega arith) (omega arith) sc' y)

  simple : (x : Statement) (s : Setting) (l : Loop) (p : ℕ) → IsSimple sc.lists x → HasAt ws p (statement_code s l p x) → IsSealed sk p (p + statement_size s x)
  simple x s l p f h = plain_sealed (statement_code s l p x) (statement_size s x) p (statement_length s l p x) (simple_plain sc.lists s l p x f) h

  mutual
    unfolding statement_size block_size arms_size statement_code block_code arms_code control_by

    pub statement_sealed : (x : Statement) (s : Setting) (l : Loop) (p : ℕ) → HasAt ws p (statement_code s l p x) → IsSealed sk p (p + statement_size s x)
    statement_sealed (If condition body others) s l p h =
        let m = number_size condition in
        let n = block_size s body in
        let k = arms_size s others in
        let end = p + (front_size m n k + k) in
        let v = p + front_size m n k in
        let lf = front_length end p m n k (number_code s p condition) (block_code s l (p + m + 1) body) (number_length s p condition) (block_length s l (p + m + 1) body) in
        let f = front_sealed end p m n k (number_code s p condition) (block_code s l (p + m + 1) body) (number_length s p condition) (block_length s l (p + m + 1) body) (number_plain sc.lists s p condition) (λ hb. block_sealed body s l (p + m + 1) hb) (has_front ws p (front_code end p m n k (number_code s p condition) (block_code s l (p + m + 1) body)) _ h) in
        let g = arms_sealed others s l end v (has_back ws p (front_size m n k) (front_code end p m n k (number_code s p condition) (block_code s l (p + m + 1) body)) _ lf h) in
        sealed_to p (v + k) _ (omega arith) (sealed_join sk p v (v + k) (omega arith) (omega arith) f g)
    statement_sealed (For name variable record_name of body) s l p h =
        let n = block_size s body in
        let e = p + 4 + n in
        let z : p + 1 + 1 + 1 + 1 ≡ p + 4 = omega arith in
        let c = block_code s (loop_to e e) (p + 4) body in
        let h' = subst (λ q. HasAt ws q (c ++ with_c ops.End p ∷ [])) z h.1.1.1.1 in
        let h'' = has_back ws (p + 4) n c _ (block_length s (loop_to e e) (p + 4) body) h' in
        let start = with_a ops.CurrentOccurrence of ∷ with_a ops.OccurrenceNumber of ∷ store s variable ∷ [] in
        let sa = plain_sealed start 3 (p + 1) refl (plain_more sc.lists _ _ refl (plain_more sc.lists _ _ refl (plain_more sc.lists _ _ (store_plain sc.lists s variable) (plain_self sc.lists [] refl)))) (h.1.0, (h.1.1.0, (h.1.1.1.0, tt))) in
        let sa' = sealed_to (p + 1) (p + 1 + 3) (p + 4) (omega arith) sa in
        let sb = block_sealed body s (loop_to e e) (p + 4) (has_front ws (p + 4) c _ h') in
        let br = opened p e (w.Plain ops.LoopOccurrences of 0 e) (omega arith) h.0 refl h''.0 in
        sealed_to p (e + 1) _ (omega arith) (loop_sealed sk p e br (sealed_join sk (p + 1) (p + 4) e (omega arith) (omega arith) sa' sb))
    statement_sealed (Do counting body) s l p h =
        let n = block_size s body in
        let o = p + head_size s.records counting in
        let u = o + 1 + n in
        let e = u + 4 in
        let i = w.Turns (turn_limit s.records counting) e in
        let h' = has_back ws p (head_size s.records counting) (head_code s counting) _ (head_length s counting) h in
        let c = block_code s (loop_to u e) (o + 1) body in
        let h'' = has_back ws (o + 1) n c _ (block_length s (loop_to u e) (o + 1) body) h'.1 in
        let h3 = has_back ws u 4 (step_code s counting) (with_c ops.End o ∷ []) refl h'' in
        let sh = plain_sealed (head_code s counting) (head_size s.records counting) p (head_length s counting) (head_plain sc.lists s counting) (has_front ws p (head_code s counting) _ h) in
        let sb = block_sealed body s (loop_to u e) (o + 1) (has_front ws (o + 1) c _ h'.1) in
        let ss = plain_sealed (step_code s counting) 4 u refl (step_plain sc.lists s counting) (has_front ws u (step_code s counting) (with_c ops.End o ∷ []) h'') in
        let br = opened o e i (omega arith) h'.0 refl h3.0 in
        let lp = loop_sealed sk o e br (sealed_join sk (o + 1) u e (omega arith) (omega arith) sb ss) in
        sealed_to p (e + 1) _ (omega arith) (sealed_join sk p o (e + 1) (omega arith) (omega arith) sh lp)
    statement_sealed Empty s l p h = simple Empty s l p tt h
    statement_sealed (Set name variable x) s l p h = simple (Set name variable x) s l p tt h
    statement_sealed (SetText name variable x) s l p h = simple (SetText name variable x) s l p tt h
    statement_sealed (SetItem name field which x) s l p h = simple (SetItem name field which x) s l p tt h
    statement_sealed (SetTextItem name field which x) s l p h = simple (SetTextItem name field which x) s l p tt h
    statement_sealed (SetCell name array xs x) s l p h = simple (SetCell name array xs x) s l p tt h
    statement_sealed (CallOf name function xs) s l p h = simple (CallOf name function xs) s l p tt h
    statement_sealed (Jump' token x) s l p h = simple (Jump' token x) s l p tt h
    statement_sealed (Impute name field which x) s l p h = simple (Impute name field which x) s l p tt h
    statement_sealed (PutDeck name array picks x) s l p h = simple (PutDeck name array picks x) s l p tt h
    statement_sealed (ErrMsg message index xs summary) s l p h = simple (ErrMsg message index xs summary) s l p tt h

    pub block_sealed : (xs : Statements) (s : Setting) (l : Loop) (p : ℕ) → HasAt ws p (block_code s l p xs) → IsSealed sk p (p + block_size s xs)
    block_sealed no_statement s l p h = sealed_to p p _ (omega arith) (sealed_none sk p)
    block_sealed (statement_and x xs) s l p h =
        let q = p + statement_size s x in
        let a = statement_sealed x s l p (has_front ws p (statement_code s l p x) _ h) in
        let b = block_sealed xs s l q (has_back ws p (statement_size s x) (statement_code s l p x) _ (statement_length s l p x) h) in
        sealed_to p (q + block_size s xs) _ (omega arith) (sealed_join sk p q _ (omega arith) (omega arith) a b)

    pub arms_sealed : (xs : Arms) (s : Setting) (l : Loop) (end p : ℕ) → HasAt ws p (arms_code s l end p xs) → IsSealed sk p (p + arms_size s xs)
    arms_sealed no_arm s l end p h = sealed_to p p _ (omega arith) (sealed_none sk p)
    arms_sealed (else_of body) s l end p h = block_sealed body s l p h
    arms_sealed (arm condition body others) s l end p h =
        let m = number_size condition in
        let n = block_size s body in
        let k = arms_size s others in
        let v = p + front_size m n k in
        let lf = front_length end p m n k (number_code s p condition) (block_code s l (p + m + 1) body) (number_length s p condition) (block_length s l (p + m + 1) body) in
        let f = front_sealed end p m n k (number_code s p condition) (block_code s l (p + m + 1) body) (number_length s p condition) (block_length s l (p + m + 1) body) (number_plain sc.lists s p condition) (λ hb. block_sealed body s l (p + m + 1) hb) (has_front ws p (front_code end p m n k (number_code s p condition) (block_code s l (p + m + 1) body)) _ h) in
        let g = arms_sealed others s l end v (has_back ws p (front_size m n k) (front_code end p m n k (number_code s p condition) (block_code s l (p + m + 1) body)) _ lf h) in
        sealed_to p (v + k) _ (omega arith) (sealed_join sk p v (v + k) (omega arith) (omega arith) f g)
