-- The code of statements that hold no others is typed, part by part.
use Rattle.std.proofs.Common.{◌≡◌, ℕ, ◌+◌, ◌<◌, ◌≤◌, true, false, List, [], ◌∷◌, ◌++◌, length, map, Some, refl, sym, ap, ◌∙◌, subst, arith, ⊎_elim}
use Rattle.std.specs.Prelude.{slice_index, pos, ◌==◌, not, reverse, if◌then◌else◌}
use Rattle.std.proofs.lemmas.Bool.{cases_Bool, or_right}
use Rattle.std.specs.List.{list_any}
use Rattle.cse_image_parts.specs.declared.instruction.Op.TheVariants as ops
use Rattle.cse_code_typing.specs.declared.kind.Kind.{Kind}
use Rattle.cse_code_typing.specs.declared.kind.Kind.TheVariants as k
use Rattle.cse_code_typing.specs.declared.control.Control.TheVariants as c
use Rattle.cse_code_typing.specs.Kinds.{below}
use Rattle.cse_code_typing.specs.Skeleton.{control_by}
use Rattle.cse_code_typing.specs.Signature.{signature_by, arguments_of}
use Rattle.cse_logic_tree.specs.declared.tree.Found.TheVariants as h
use Rattle.cse_logic_tree.specs.declared.tree.Pick.{Pick}
use Rattle.cse_logic_tree.specs.Typed.{Number, Numbers, Which, Here, At, Argument, OfNumber, OfWords}
use Rattle.cse_compile.specs.Wide as w
use Rattle.cse_compile.specs.Wide.{Wide, bare, with_a, with_b, with_c, jump, jump_size, jump_over, occurrence, pops}
use Rattle.cse_compile.specs.Expressions.{can_fail, deepest, picks_size, picks_code, behind, count, number_size, numbers_size, indexes_size, number_code, numbers_code, indexes_code}
use Rattle.cse_compile.specs.Statements.{which_size, which_code, drops_size, drops_code, argument_size, argument_code, arguments_size, arguments_code}
use Rattle.cse_meaning.specs.Fit.{Spot, IsRecord, IsArray, IsDeck, IsFunction, IsMessage, kind_of, WhichFits, ArgumentFits, ArgumentsFit, NumberFits, NumbersFit}
use Rattle.cse_meaning.specs.Steps.{number_calls, numbers_calls, which_calls, argument_calls, arguments_calls}
use Rattle.cse_meaning.proofs.At.{HasAt, has_front, has_back}
use Rattle.cse_meaning.proofs.WideRule.{Stack, wide_control, wide_rule, wide_in_loop}
use Rattle.cse_meaning.proofs.Stacks.{picks_stacks, picks_after, picks_left, indexes_after, indexes_left, numbers_after, number_stacks, numbers_stacks, indexes_stacks}
use Rattle.cse_meaning.proofs.StatementStacks.{N, which_stacks, drops_stacks, argument_stacks, arguments_stacks, arguments_after, jump_by, which_stacks_length, argument_stacks_length, arguments_stacks_length}
use Rattle.cse_meaning.proofs.Lengths.{number_length, numbers_length, indexes_length, picks_length, number_stacks_length, numbers_stacks_length, indexes_stacks_length, picks_stacks_length, picks_left_length, indexes_left_length}
use Rattle.cse_meaning.proofs.TypedBlocks.{which_length, argument_length, arguments_length}
use Rattle.cse_meaning.proofs.Begins.{Begins, begins_at, number_start, words_start}
use Rattle.cse_meaning.proofs.Piles.{below_piled}
use Rattle.cse_meaning.proofs.Rules.{piled, load_local, current_rule, occurrence_rule, store_cell_rule, call_rule, message_rule}
use Rattle.cse_meaning.proofs.TypedParts.{stack_is, IsBare, Led, part_branch, part_jump, part_call, led_place}
use Rattle.cse_meaning.proofs.Chains.{Descends, sk, t, Part, join, none, to, step, moved, then_step, jumps, pops_part}
use Rattle.cse_meaning.proofs.TypedExpressions.{cell_below, deck_below, call_below, descends_indexes, descends_picks, left_start, some_led, count_behind, picks_led, picks_part, PicksLeftAt, indexes_part, number_part, words_part, numbers_part}

module _ (s : Spot) (ws : List Wide) (all : List Stack) (bounds : List ℕ) where
  abbrev P : ℕ → ℕ → ℕ → Type 0
  P a b n = Part s ws all bounds a b n

  abbrev T : ℕ → Stack
  T q = t s ws all bounds q

  deep_fails : (xs : List Pick) → 1 ≤ deepest xs → can_fail xs ≡ true
  deep_fails [] h = absurd (omega arith)
  deep_fails (x ∷ xs) h = ⊎_elim
      (λ (e : can_fail xs ≡ true). or_right (not x.has_leftover) (can_fail xs) e)
      (λ (e : can_fail xs ≡ false). let z : deepest (x ∷ xs) ≡ 0 = ap (λ b. if b then deepest xs + 1 else 0) e in absurd (omega arith))
      (cases_Bool (can_fail xs))

  arguments_piled : (st : Stack) (xs : List Argument) → arguments_after st xs ≡ piled (map kind_of xs) st
  arguments_piled st [] = refl
  arguments_piled st (x ∷ xs) = arguments_piled (kind_of x ∷ st) xs

  message_below : (index : ℕ) (st : Stack) (xs : List Argument) (f : IsMessage s index xs) → below (arguments_of f.0) (arguments_after st xs) ≡ Some st
  message_below index st xs f =
      ap (λ l. below (reverse l) (arguments_after st xs)) f.2 ∙ ap (below (reverse (map kind_of xs))) (arguments_piled st xs) ∙ below_piled (map kind_of xs) st

  argument_start : (p : ℕ) (st : Stack) (xs : List Argument) → HasAt all p (arguments_stacks s st xs) → T (p + arguments_size xs) ≡ arguments_after st xs → T p ≡ st
  unfolding arguments_stacks arguments_size
  argument_start p st [] h e = moved s ws all bounds (p + 0) p st (omega arith) e
  argument_start p st (x ∷ xs) h e = first x (has_front all p (argument_stacks s st x) _ h)
    where
      first : (x : Argument) → HasAt all p (argument_stacks s st x) → T p ≡ st
      first (OfNumber x) h = number_start s all p st x h
      first (OfWords x) h = words_start s all p st x h

  drops_left : (l : List Stack) (n q : ℕ) → length l ≡ n → HasAt all q (drops_stacks l) → HasAt all (q + jump_size n) l
  drops_left [] n q e h = tt
  drops_left (a ∷ l) n q e h = let z : q + 1 ≡ q + jump_size n = omega (arith, e) in subst (λ q. HasAt all q (a ∷ l)) z h.1

  drops_start : (l : List Stack) (n q : ℕ) → length l ≡ n → HasAt all q (drops_stacks l) → T (q + drops_size n) ≡ [] → T q ≡ []
  drops_start [] n q e h end = let z : q + drops_size n ≡ q = omega (arith, e) in moved s ws all bounds _ q [] z end
  drops_start (a ∷ l) n q e h end = stack_is all q [] h.0

  module _ (lo hi : ℕ) (bare' : IsBare s.scene ws all bounds lo hi) (inside : hi < length (sk s ws all bounds)) (looped : (q of : ℕ) → lo ≤ q → q < hi → list_any (λ o. o == of) s.loops ≡ true → wide_in_loop s.scene.lists ws q of ≡ true) where
    -- ---- the place of an item

    pub which_part : (which : Which) (of p fail : ℕ) → IsRecord s of → WhichFits s of which → lo ≤ p → p + which_size which ≤ fail → fail ≤ hi → HasAt ws p (which_code s.setting of fail p which) → HasAt all p (which_stacks s of which) → T (p + which_size which) ≡ k.Occurrence of ∷ [] → T fail ≡ [] → P p (p + which_size which) (which_size which + which_calls bounds which)
    unfolding signature_by control_by
    which_part (Here h.Loop) of p fail rec f l d r h s' e te = step s ws all bounds p (with_a ops.CurrentOccurrence of) [] (k.Occurrence of ∷ []) h.0 (stack_is all p _ s'.0) (current_rule s ws p of [] rec.1 (looped p of l (omega arith) f)) e refl
    which_part (Here h.Event) of p fail rec f l d r h s' e te = step s ws all bounds p (with_c ops.LoadLocal 0) [] (k.Occurrence of ∷ []) h.0 (stack_is all p _ s'.0) (load_local s ws p 0 (k.Occurrence of) [] f) e refl
    which_part (Here h.First) of p fail rec f l d r h s' e te =
        let z : p + 1 + 1 ≡ p + 2 = omega arith in
        let t1 = stack_is all (p + 1) _ s'.1.0 in
        let a = step s ws all bounds p (w.Constant (pos 1)) [] N h.0 (stack_is all p _ s'.0) refl t1 refl in
        let b : P (p + 1) (p + 1 + 1) 1 = part_branch s.scene ws all bounds (p + 1) fail (occurrence of fail) N [] (k.Occurrence of ∷ []) h.1.0 t1 (occurrence_rule s ws (p + 1) of fail [] rec.1) te (moved s ws all bounds _ _ _ (sym z) e) refl (jumps s ws all bounds lo hi bare' inside (p + 1) fail (omega arith) r (omega arith)) in
        to s ws all bounds p (p + 1 + 1) (p + 2) 2 2 z refl (join s ws all bounds p (p + 1) (p + 1 + 1) 1 1 a b)
    which_part (At x) of p fail rec f l d r h s' e te =
        let n = number_size x in
        let q = p + n in
        let h' = has_back ws p n (number_code s.setting p x) _ (number_length s.setting p x) h in
        let s'' = has_back all p n (number_stacks s [] x) _ (number_stacks_length s [] x) s' in
        let tq = stack_is all q _ s''.0 in
        let z : p + (n + 1) ≡ q + 1 = omega arith in
        let a = number_part s ws all bounds lo hi bare' inside looped x f p [] l (omega arith) (has_front ws p (number_code s.setting p x) _ h) (has_front all p (number_stacks s [] x) _ s') tq in
        let b : P q (q + 1) 1 = part_branch s.scene ws all bounds q fail (occurrence of fail) N [] (k.Occurrence of ∷ []) h'.0 tq (occurrence_rule s ws q of fail [] rec.1) te (moved s ws all bounds _ _ _ z e) refl (jumps s ws all bounds lo hi bare' inside q fail (omega arith) r (omega arith)) in
        to s ws all bounds p (q + 1) _ _ _ (sym z) (omega arith) (join s ws all bounds p q (q + 1) _ 1 a b)

    -- a place, a value, and the instruction that puts the value there
    pub put_part : (which : Which) (of p n m : ℕ) (code : List Wide) (stacks : List Stack) (i : Wide) (kind : Kind) → IsRecord s of → WhichFits s of which → lo ≤ p → p + (which_size which + (n + 1)) ≤ hi → length code ≡ n → length stacks ≡ n → Begins (k.Occurrence of ∷ []) stacks → HasAt ws p (which_code s.setting of (p + (which_size which + (n + 1))) p which ++ (code ++ i ∷ [])) → HasAt all p (which_stacks s of which ++ (stacks ++ (kind ∷ k.Occurrence of ∷ []) ∷ [])) → (HasAt ws (p + which_size which) code → HasAt all (p + which_size which) stacks → T (p + which_size which + n) ≡ kind ∷ k.Occurrence of ∷ [] → P (p + which_size which) (p + which_size which + n) m) → wide_rule s.scene ws (p + which_size which + n) i (kind ∷ k.Occurrence of ∷ []) ≡ Some ((p + which_size which + n + 1, []) ∷ []) → wide_control s.scene.lists i ≡ c.Step → T (p + (which_size which + (n + 1))) ≡ [] → P p (p + (which_size which + (n + 1))) (which_size which + which_calls bounds which + (m + 1))
    put_part which of p n m code stacks i kind rec f l r lc ls beg h s' value rule ctl e =
        let end = p + (which_size which + (n + 1)) in
        let q = p + which_size which in
        let h' = has_back ws p (which_size which) (which_code s.setting of end p which) _ (which_length s.setting of end p which) h in
        let s'' = has_back all p (which_size which) (which_stacks s of which) _ (which_stacks_length s of which) s' in
        let hc = has_front ws q code _ h' in
        let sc = has_front all q stacks _ s'' in
        let h3 = has_back ws q n code _ lc h' in
        let s3 = has_back all q n stacks _ ls s'' in
        let tu = stack_is all (q + n) _ s3.0 in
        let z : end ≡ q + (n + 1) = omega arith in
        let a = which_part which of p end rec f l (omega arith) r (has_front ws p (which_code s.setting of end p which) _ h) (has_front all p (which_stacks s of which) _ s') (begins_at all q (k.Occurrence of ∷ []) stacks beg sc) e in
        let b = then_step s ws all bounds q n m i (kind ∷ k.Occurrence of ∷ []) [] (value hc sc tu) h3.0 tu rule (moved s ws all bounds _ _ _ z e) ctl in
        to s ws all bounds p (q + (n + 1)) end _ _ (sym z) refl (join s ws all bounds p q (q + (n + 1)) _ _ a b)

    -- ---- cells of arrays

    drops_part : (q n : ℕ) (l : List Stack) → length l ≡ n → Descends l [] → lo ≤ q → q + drops_size n ≤ hi → HasAt ws q (drops_code q n) → HasAt all q (drops_stacks l) → (1 ≤ n → Led s.scene ws all bounds (q + 1)) → T (q + drops_size n) ≡ [] → P q (q + drops_size n) (drops_size n)
    drops_part q n [] e d l' r h s' led te = to s ws all bounds q q _ 0 _ (omega (arith, e)) (omega (arith, e)) (none s ws all bounds q)
    drops_part q n (a ∷ l) e d l' r h s' led te =
        let end = q + drops_size n in
        let some : 1 ≤ n = omega (arith, e) in
        let over = ⊎_elim
        (λ (x : (n ≡ 0) × (n == 0 ≡ true)). let y = x.0 in absurd (omega arith))
        (λ (x : (1 ≤ n) × (n == 0 ≡ false)). ap (λ b. if b then [] else jump end ∷ []) x.1)
        (jump_by n) in
        let h' : HasAt ws q (jump end ∷ pops n) = subst (λ j. HasAt ws q (j ++ pops n)) over h in
        let hp = subst (λ n. HasAt ws (q + 1) (pops n)) (sym e) h'.1 in
        let z : end ≡ q + 1 + length (a ∷ l) = omega (arith, e) in
        let j : P q (q + 1) 1 = part_jump s.scene ws all bounds q end [] h'.0 (stack_is all q [] s'.0) te (led some) (jumps s ws all bounds lo hi bare' inside q end l' r (omega arith)) in
        let p = pops_part s ws all bounds lo hi bare' inside (a ∷ l) [] (q + 1) d hp s'.1 (moved s ws all bounds _ _ _ z te) in
        to s ws all bounds q (q + 1 + length (a ∷ l)) end (1 + length (a ∷ l)) _ (sym z) (omega (arith, e)) (join s ws all bounds q (q + 1) _ 1 (length (a ∷ l)) j p)

    pub cell_part : (array p : ℕ) (xs : Numbers) (x : Number) → IsArray s array (count xs) → NumbersFit s xs → NumberFits s x → lo ≤ p → p + (indexes_size xs + (number_size x + (drops_size (behind xs) + 1))) ≤ hi → HasAt ws p (indexes_code s.setting array (p + indexes_size xs + number_size x + 1 + jump_size (behind xs)) 0 p xs ++ (number_code s.setting (p + indexes_size xs) x ++ (with_c ops.StoreCell array ∷ drops_code (p + indexes_size xs + number_size x + 1) (behind xs)))) → HasAt all p (indexes_stacks s array 0 [] xs ++ (number_stacks s (indexes_after s array 0 [] xs) x ++ ((k.Number ∷ indexes_after s array 0 [] xs) ∷ drops_stacks (indexes_left s array 0 [] xs)))) → T (p + (indexes_size xs + (number_size x + (drops_size (behind xs) + 1)))) ≡ [] → P p (p + (indexes_size xs + (number_size x + (drops_size (behind xs) + 1)))) (indexes_size xs + (number_size x + (drops_size (behind xs) + 1)) + (numbers_calls bounds xs + number_calls bounds x))
    unfolding control_by
    cell_part array p xs x fa fs fx l r h s' e =
        let n = indexes_size xs in
        let m = number_size x in
        let b = behind xs in
        let q = p + n in
        let u = q + m in
        let drops = u + 1 + jump_size b in
        let after = indexes_after s array 0 [] xs in
        let left = indexes_left s array 0 [] xs in
        let h' = has_back ws p n (indexes_code s.setting array drops 0 p xs) _ (indexes_length s.setting array drops 0 p xs) h in
        let s'' = has_back all p n (indexes_stacks s array 0 [] xs) _ (indexes_stacks_length s array 0 [] xs) s' in
        let h3 = has_back ws q m (number_code s.setting q x) _ (number_length s.setting q x) h' in
        let s3 = has_back all q m (number_stacks s after x) _ (number_stacks_length s after x) s'' in
        let hi' = has_front ws p (indexes_code s.setting array drops 0 p xs) _ h in
        let si = has_front all p (indexes_stacks s array 0 [] xs) _ s' in
        let sx = has_front all q (number_stacks s after x) _ s'' in
        let z : p + (n + (m + (drops_size b + 1))) ≡ u + 1 + drops_size b = omega arith in
        let te = moved s ws all bounds _ (u + 1 + drops_size b) [] z e in
        let len = indexes_left_length s array 0 [] xs in
        let t1 = drops_start left b (u + 1) len s3.1 te in
        let tu = stack_is all u _ s3.0 in
        let fails = left_start s ws all bounds array [] drops xs (drops_left left b (u + 1) len s3.1) (moved s ws all bounds _ _ _ (omega arith) te) in
        let few = count_behind s ws all bounds lo hi bare' inside looped xs in
        let a = indexes_part s ws all bounds lo hi bare' inside looped xs fs array drops 0 p [] l (omega arith) (omega arith) (omega arith) hi' si fails (number_start s all q after x sx) in
        let v = number_part s ws all bounds lo hi bare' inside looped x fx q after (omega arith) (omega arith) (has_front ws q (number_code s.setting q x) _ h') sx tu in
        let st = step s ws all bounds u (with_c ops.StoreCell array) (k.Number ∷ after) [] h3.0 tu (store_cell_rule s ws u array fa.0 [] after fa.1 (cell_below s ws all bounds array [] xs fa)) t1 refl in
        let led : 1 ≤ b → Led s.scene ws all bounds (u + 1 + 1) = λ some. led_place s.scene ws all bounds drops (u + 1 + 1) (omega arith) (some_led s ws all bounds lo hi bare' inside looped xs array drops p [] fa.4 (omega arith) hi' si) in
        let d = drops_part (u + 1) b left len (descends_indexes s ws all bounds array [] xs) (omega arith) (omega arith) h3.1 s3.1 led te in
        to s ws all bounds p (u + 1 + drops_size b) _ _ _ (sym z) (omega arith) (join s ws all bounds p q _ _ _ a (join s ws all bounds q u _ _ _ v (join s ws all bounds u (u + 1) _ 1 _ st d)))

    pub deck_part : (array p : ℕ) (picks : List Pick) (x : Number) → IsDeck s array picks → NumberFits s x → lo ≤ p → p + (picks_size picks + (number_size x + (drops_size (deepest picks) + 1))) ≤ hi → HasAt ws p (picks_code (p + picks_size picks + number_size x + 1 + jump_size (deepest picks)) p picks ++ (number_code s.setting (p + picks_size picks) x ++ (with_c ops.StoreCell array ∷ drops_code (p + picks_size picks + number_size x + 1) (deepest picks)))) → HasAt all p (picks_stacks s [] picks ++ (number_stacks s (picks_after s [] picks) x ++ ((k.Number ∷ picks_after s [] picks) ∷ drops_stacks (picks_left s [] picks)))) → T (p + (picks_size picks + (number_size x + (drops_size (deepest picks) + 1)))) ≡ [] → P p (p + (picks_size picks + (number_size x + (drops_size (deepest picks) + 1)))) (picks_size picks + (number_size x + (drops_size (deepest picks) + 1)) + number_calls bounds x)
    unfolding control_by
    deck_part array p picks x fa fx l r h s' e =
        let n = picks_size picks in
        let m = number_size x in
        let b = deepest picks in
        let q = p + n in
        let u = q + m in
        let drops = u + 1 + jump_size b in
        let after = picks_after s [] picks in
        let left = picks_left s [] picks in
        let h' = has_back ws p n (picks_code drops p picks) _ (picks_length drops p picks) h in
        let s'' = has_back all p n (picks_stacks s [] picks) _ (picks_stacks_length s [] picks) s' in
        let h3 = has_back ws q m (number_code s.setting q x) _ (number_length s.setting q x) h' in
        let s3 = has_back all q m (number_stacks s after x) _ (number_stacks_length s after x) s'' in
        let hp = has_front ws p (picks_code drops p picks) _ h in
        let sp = has_front all p (picks_stacks s [] picks) _ s' in
        let sx = has_front all q (number_stacks s after x) _ s'' in
        let z : p + (n + (m + (drops_size b + 1))) ≡ u + 1 + drops_size b = omega arith in
        let te = moved s ws all bounds _ (u + 1 + drops_size b) [] z e in
        let len = picks_left_length s [] picks in
        let t1 = drops_start left b (u + 1) len s3.1 te in
        let tu = stack_is all u _ s3.0 in
        let tf = moved s ws all bounds _ (drops + b) [] (omega arith) te in
        let fails : PicksLeftAt s ws all bounds lo hi bare' inside looped [] drops picks = λ can. (drops_left left b (u + 1) len s3.1, tf) in
        let a = picks_part s ws all bounds lo hi bare' inside looped picks fa.0.dimensions drops p [] fa.2 l (omega arith) (omega arith) (λ can. omega arith) hp sp fails (number_start s all q after x sx) in
        let v = number_part s ws all bounds lo hi bare' inside looped x fx q after (omega arith) (omega arith) (has_front ws q (number_code s.setting q x) _ h') sx tu in
        let st = step s ws all bounds u (with_c ops.StoreCell array) (k.Number ∷ after) [] h3.0 tu (store_cell_rule s ws u array fa.0 [] after fa.1 (deck_below s ws all bounds array [] picks fa)) t1 refl in
        let led : 1 ≤ b → Led s.scene ws all bounds (u + 1 + 1) = λ some. led_place s.scene ws all bounds drops (u + 1 + 1) (omega arith) (picks_led s ws all bounds lo hi bare' inside looped picks fa.0.dimensions drops p [] fa.2 (omega arith) hp sp (deep_fails picks some)) in
        let d = drops_part (u + 1) b left len (descends_picks s ws all bounds [] picks) (omega arith) (omega arith) h3.1 s3.1 led te in
        to s ws all bounds p (u + 1 + drops_size b) _ _ _ (sym z) (omega arith) (join s ws all bounds p q _ _ _ a (join s ws all bounds q u _ _ _ v (join s ws all bounds u (u + 1) _ 1 _ st d)))

    -- ---- calls and messages

    pub called_part : (function p : ℕ) (xs : Numbers) → IsFunction s function xs → NumbersFit s xs → lo ≤ p → p + (numbers_size xs + 2) ≤ hi → HasAt ws p (numbers_code s.setting p xs ++ (with_c ops.Call function ∷ with_a ops.Pop 0 ∷ [])) → HasAt all p (numbers_stacks s [] xs ++ (numbers_after [] xs ∷ N ∷ [])) → T (p + (numbers_size xs + 2)) ≡ [] → P p (p + (numbers_size xs + 2)) (numbers_size xs + 2 + (numbers_calls bounds xs + slice_index bounds function))
    unfolding signature_by control_by
    called_part function p xs ff fs l r h s' e =
        let n = numbers_size xs in
        let q = p + n in
        let h' = has_back ws p n (numbers_code s.setting p xs) _ (numbers_length s.setting p xs) h in
        let s'' = has_back all p n (numbers_stacks s [] xs) _ (numbers_stacks_length s [] xs) s' in
        let tq = stack_is all q _ s''.0 in
        let t1 = stack_is all (q + 1) _ s''.1.0 in
        let z : p + (n + 2) ≡ q + 1 + 1 = omega arith in
        let a = numbers_part s ws all bounds lo hi bare' inside looped xs fs p [] l (omega arith) (has_front ws p (numbers_code s.setting p xs) _ h) (has_front all p (numbers_stacks s [] xs) _ s') tq in
        let b = part_call s.scene ws all bounds q function (with_c ops.Call function) (numbers_after [] xs) N h'.0 tq (call_rule s ws q function ff.0 [] (numbers_after [] xs) ff.1 ff.2 (call_below s ws all bounds function [] xs ff)) t1 refl in
        let d = step s ws all bounds (q + 1) (with_a ops.Pop 0) N [] h'.1.0 t1 refl (moved s ws all bounds _ _ _ z e) refl in
        to s ws all bounds p (q + 1 + 1) _ _ _ (sym z) (omega arith) (join s ws all bounds p q _ _ _ a (join s ws all bounds q (q + 1) _ _ 1 b d))

    argument_part : (x : Argument) (p : ℕ) (st : Stack) → ArgumentFits s x → lo ≤ p → p + argument_size x ≤ hi → HasAt ws p (argument_code s.setting p x) → HasAt all p (argument_stacks s st x) → T (p + argument_size x) ≡ kind_of x ∷ st → P p (p + argument_size x) (argument_size x + argument_calls bounds x)
    argument_part (OfNumber x) p st f l r h s' e = number_part s ws all bounds lo hi bare' inside looped x f p st l r h s' e
    argument_part (OfWords x) p st f l r h s' e = words_part s ws all bounds lo hi bare' inside looped x f p st l r h s' e

    arguments_part : (xs : List Argument) (p : ℕ) (st : Stack) → ArgumentsFit s xs → lo ≤ p → p + arguments_size xs ≤ hi → HasAt ws p (arguments_code s.setting p xs) → HasAt all p (arguments_stacks s st xs) → T (p + arguments_size xs) ≡ arguments_after st xs → P p (p + arguments_size xs) (arguments_size xs + arguments_calls bounds xs)
    unfolding arguments_size arguments_code arguments_stacks
    arguments_part [] p st f l r h s' e = to s ws all bounds p p (p + 0) 0 _ (omega arith) refl (none s ws all bounds p)
    arguments_part (x ∷ xs) p st f l r h s' e =
        let n = argument_size x in
        let m = arguments_size xs in
        let q = p + n in
        let h' = has_back ws p n (argument_code s.setting p x) _ (argument_length s.setting p x) h in
        let s'' = has_back all p n (argument_stacks s st x) _ (argument_stacks_length s st x) s' in
        let z : p + (n + m) ≡ q + m = omega arith in
        let e' = moved s ws all bounds _ (q + m) _ z e in
        let tq = argument_start q (kind_of x ∷ st) xs s'' e' in
        let a = argument_part x p st f.0 l (omega arith) (has_front ws p (argument_code s.setting p x) _ h) (has_front all p (argument_stacks s st x) _ s') tq in
        let b = arguments_part xs q (kind_of x ∷ st) f.1 (omega arith) (omega arith) h' s'' e' in
        to s ws all bounds p (q + m) _ _ _ (sym z) (omega arith) (join s ws all bounds p q _ _ _ a b)

    pub message_part : (index p : ℕ) (xs : List Argument) → IsMessage s index xs → ArgumentsFit s xs → lo ≤ p → p + (arguments_size xs + 1) ≤ hi → HasAt ws p (arguments_code s.setting p xs ++ with_c ops.Message index ∷ []) → HasAt all p (arguments_stacks s [] xs ++ arguments_after [] xs ∷ []) → T (p + (arguments_size xs + 1)) ≡ [] → P p (p + (arguments_size xs + 1)) (arguments_size xs + 1 + arguments_calls bounds xs)
    unfolding control_by
    message_part index p xs fm fs l r h s' e =
        let n = arguments_size xs in
        let q = p + n in
        let h' = has_back ws p n (arguments_code s.setting p xs) _ (arguments_length s.setting p xs) h in
        let s'' = has_back all p n (arguments_stacks s [] xs) _ (arguments_stacks_length s [] xs) s' in
        let tq = stack_is all q _ s''.0 in
        let a = arguments_part xs p [] fs l (omega arith) (has_front ws p (arguments_code s.setting p xs) _ h) (has_front all p (arguments_stacks s [] xs) _ s') tq in
        to s ws all bounds p _ _ _ _ refl (omega arith) (then_step s ws all bounds p n _ (with_c ops.Message index) (arguments_after [] xs) [] a h'.0 tq (message_rule s ws q index fm.0 [] (arguments_after [] xs) fm.1 (message_below index [] xs fm)) e refl)
