-- The code of expressions is typed: it leaves its value.
use Rattle.std.proofs.Common.{◌≡◌, ℕ, ◌+◌, ◌<◌, ◌≤◌, Bool, true, false, List, [], ◌∷◌, ◌++◌, length, map, Some, refl, sym, ap, ◌∙◌, subst, arith, ⊎_elim}
use Rattle.std.specs.Prelude.{slice_get, ◌==◌, not, ◌||◌, reverse, unwrap_or, if◌then◌else◌}
use Rattle.std.specs.List.{list_any}
use Rattle.std.proofs.lemmas.Bool.{cases_Bool, or_right, false≢true, not-true}
use Rattle.cse_image_parts.specs.declared.instruction.Op.TheVariants as ops
use Rattle.cse_syntax_tree.specs.declared.tree.Operator.{Operator}
use Rattle.cse_syntax_tree.specs.declared.tree.Operator.TheVariants as operators
use Rattle.cse_code_typing.specs.declared.kind.Kind.TheVariants as k
use Rattle.cse_code_typing.specs.declared.control.Control.TheVariants as c
use Rattle.cse_code_typing.specs.Kinds.{below}
use Rattle.cse_code_typing.specs.Skeleton.{control_by}
use Rattle.cse_code_typing.specs.Signature.{signature_by, indexes_of, parameters_of, rows_of}
use Rattle.cse_logic_tree.specs.declared.tree.Pick.{Pick}
use Rattle.cse_logic_tree.specs.Typed.{Number, Words, Numbers, Operations, Constant, Special', Variable', Item, ItemAt, Cell, Call, Group, Int, IsSpecial, Deck, TotOcc, MaxOcc, CurOcc, InSet, Minus, Not, Compare, CompareTexts, Chain}
use Rattle.cse_logic_tree.specs.Typed.{Quoted, TextGlobal, TextItem, TextItemAt, TextGroup, no_number, number_and, no_operation, operation_and}
use Rattle.cse_compile.specs.Wide as w
use Rattle.cse_compile.specs.Wide.{Wide, bare, with_a, with_b, with_c, jump, undefined, occurrence, pops}
use Rattle.cse_compile.specs.Setting.{size_at}
use Rattle.cse_compile.specs.Expressions.{load, special_number, relation_number, operation_of, present_size, number_of_item, can_fail, deepest, row, picks_size, picks_code, deck_size, deck_code, count, behind, number_size, words_size, numbers_size, indexes_size, operations_size, number_code, words_code, numbers_code, indexes_code, operations_code}
use Rattle.cse_meaning.specs.Fit.{Spot, IsArray, IsDeck, ArePicks, IsFunction, row_count, numbers_kinds, NumberFits, WordsFit, NumbersFit, OperationsFit}
use Rattle.cse_meaning.specs.Steps.{number_calls, words_calls, numbers_calls, operations_calls}
use Rattle.cse_meaning.proofs.At.{HasAt, has_front, has_back}
use Rattle.cse_meaning.proofs.WideRule.{Stack, wide_control, wide_rule, wide_in_loop}
use Rattle.cse_meaning.proofs.Stacks.{present_stacks, pick_index, picks_stacks, picks_after, picks_left, deck_stacks, cell_index, indexes_after, left_behind, indexes_left, numbers_after, number_stacks, words_stacks, numbers_stacks, indexes_stacks, operations_stacks}
use Rattle.cse_meaning.proofs.Lengths.{item_length, number_length, words_length, numbers_length, indexes_length, picks_length, present_stacks_length, number_stacks_length, words_stacks_length, numbers_stacks_length, indexes_stacks_length, picks_stacks_length, picks_left_length, left_behind_length, indexes_left_length}
use Rattle.cse_meaning.proofs.Begins.{number_start, words_start, numbers_start, indexes_start, picks_start, operations_start}
use Rattle.cse_meaning.proofs.Piles.{below_piled, numbers_piled, picks_piled, indexes_piled}
use Rattle.cse_meaning.proofs.Rules.{load_rule, load_steps, load_global, total_rule, number_rule, set_rule, item_number_rule, item_text_rule, row_rule, leftover_rule, load_cell_rule, call_rule}
use Rattle.cse_meaning.proofs.TypedParts.{stack_is, IsBare, Led, part_call, part_branch, led_branch, led_place}
use Rattle.cse_meaning.proofs.Chains.{Descends, descends_behind, sk, t, Part, join, none, to, step, moved, then_step, jumps, guarded_part, tail_part, here_part, item_part, text_item_part}

module _ (s : Spot) (ws : List Wide) (all : List Stack) (bounds : List ℕ) where
  pub operator_rule : (operator : Operator) (q : ℕ) (st : Stack) → wide_rule s.scene ws q (bare (operation_of operator)) (k.Number ∷ k.Number ∷ st) ≡ Some ((q + 1, k.Number ∷ st) ∷ [])
  unfolding signature_by control_by
  operator_rule operators.Or q st = refl
  operator_rule operators.And q st = refl
  operator_rule operators.Add q st = refl
  operator_rule operators.Subtract q st = refl
  operator_rule operators.Multiply q st = refl
  operator_rule operators.Divide q st = refl
  operator_rule operators.Remainder q st = refl

  pub operator_steps : (operator : Operator) → wide_control s.scene.lists (bare (operation_of operator)) ≡ c.Step
  unfolding control_by
  operator_steps operators.Or = refl
  operator_steps operators.And = refl
  operator_steps operators.Add = refl
  operator_steps operators.Subtract = refl
  operator_steps operators.Multiply = refl
  operator_steps operators.Divide = refl
  operator_steps operators.Remainder = refl

  -- a value, and one instruction that takes it
  pub use_value : (a : List Wide) (b : List Stack) (n m p : ℕ) (i : Wide) (st after : Stack) → length a ≡ n → length b ≡ n → HasAt ws p (a ++ i ∷ []) → HasAt all p (b ++ st ∷ []) → (HasAt ws p a → HasAt all p b → t s ws all bounds (p + n) ≡ st → Part s ws all bounds p (p + n) m) → wide_rule s.scene ws (p + n) i st ≡ Some ((p + n + 1, after) ∷ []) → t s ws all bounds (p + (n + 1)) ≡ after → wide_control s.scene.lists i ≡ c.Step → Part s ws all bounds p (p + (n + 1)) (m + 1)
  use_value a b n m p i st after la lb h s' value rule e ctl =
      let h' = has_back ws p n a (i ∷ []) la h in
      let s'' = has_back all p n b (st ∷ []) lb s' in
      let tq = stack_is all (p + n) st s''.0 in
      then_step s ws all bounds p n m i st after (value (has_front ws p a (i ∷ []) h) (has_front all p b (st ∷ []) s') tq) h'.0 tq rule e ctl

  pub descends_left : (array j : ℕ) (st : Stack) (xs : Numbers) → Descends (left_behind s array j st xs) st
  descends_left array j st no_number = tt
  descends_left array j st (number_and x xs) = descends_behind (left_behind s array (j + 1) (cell_index s array j ∷ st) xs) (size_at s.setting array j) st (descends_left array (j + 1) (cell_index s array j ∷ st) xs)

  pub descends_indexes : (array : ℕ) (st : Stack) (xs : Numbers) → Descends (indexes_left s array 0 st xs) st
  descends_indexes array st no_number = tt
  descends_indexes array st (number_and x xs) = descends_left array 0 st xs

  descends_if : (b : Bool) (l : List Stack) (st : Stack) → Descends l st → Descends (if b then l else []) st
  descends_if true l st d = d
  descends_if false l st d = tt

  pub descends_picks : (st : Stack) (xs : List Pick) → Descends (picks_left s st xs) st
  descends_picks st [] = tt
  descends_picks st (x ∷ xs) =
      let d = descends_behind (picks_left s (pick_index s x ∷ st) xs) (row_count x.has_leftover (unwrap_or (rows_of s.scene.shape x.set) 0)) st (descends_picks (pick_index s x ∷ st) xs) in
      descends_if (can_fail xs) (picks_left s (pick_index s x ∷ st) xs ++ (pick_index s x ∷ st) ∷ []) st d

  -- where a failing index leads
  abbrev pub LeftAt : ℕ → ℕ → Stack → ℕ → Numbers → Type 0
  LeftAt array j st drops no_number = Unit {0}
  LeftAt array j st drops (number_and x xs) = HasAt all drops (left_behind s array j st xs) × (t s ws all bounds (drops + count xs) ≡ st)

  left_next : (array j : ℕ) (st : Stack) (drops : ℕ) (x : Number) (xs : Numbers) → LeftAt array j st drops (number_and x xs) → LeftAt array (j + 1) (cell_index s array j ∷ st) drops xs
  left_next array j st drops x no_number h = tt
  left_next array j st drops x (number_and y ys) h =
      let l = left_behind s array (j + 1) (cell_index s array j ∷ st) ys in
      (has_front all drops l _ h.0, stack_is all (drops + count ys) _ (has_back all drops (count ys) l _ (left_behind_length s array (j + 1) (cell_index s array j ∷ st) ys) h.0).0)

  pub left_start : (array : ℕ) (st : Stack) (drops : ℕ) (xs : Numbers) → HasAt all drops (indexes_left s array 0 st xs) → t s ws all bounds (drops + behind xs) ≡ st → LeftAt array 0 st drops xs
  left_start array st drops no_number h e = tt
  left_start array st drops (number_and x xs) h e = (h, e)

  pub cell_below : (array : ℕ) (st : Stack) (xs : Numbers) (f : IsArray s array (count xs)) → below (indexes_of f.0) (indexes_after s array 0 st xs) ≡ Some st
  cell_below array st xs f = ap (below (indexes_of f.0)) (indexes_piled s array 0 st xs [] f.0.dimensions refl f.2 f.3) ∙ below_piled (map k.Index f.0.dimensions) st

  pub deck_below : (array : ℕ) (st : Stack) (xs : List Pick) (f : IsDeck s array xs) → below (indexes_of f.0) (picks_after s st xs) ≡ Some st
  deck_below array st xs f = ap (below (indexes_of f.0)) (picks_piled s st f.0.dimensions xs f.2) ∙ below_piled (map k.Index f.0.dimensions) st

  pub call_below : (function : ℕ) (st : Stack) (xs : Numbers) (f : IsFunction s function xs) → below (parameters_of f.0) (numbers_after st xs) ≡ Some st
  call_below function st xs f =
      ap (λ l. below (reverse l) (numbers_after st xs)) f.3 ∙ ap (below (reverse (numbers_kinds xs))) (numbers_piled st xs) ∙ below_piled (numbers_kinds xs) st

  -- in a stretch without brackets
  module _ (lo hi : ℕ) (bare' : IsBare s.scene ws all bounds lo hi) (inside : hi < length (sk s ws all bounds)) (looped : (q of : ℕ) → lo ≤ q → q < hi → list_any (λ o. o == of) s.loops ≡ true → wide_in_loop s.scene.lists ws q of ≡ true) where
    abbrev P : ℕ → ℕ → ℕ → Type 0
    P a b n = Part s ws all bounds a b n

    abbrev T : ℕ → Stack
    T q = t s ws all bounds q

    -- ---- hot decks

    or_left : (a b : Bool) → (a || b) ≡ true → b ≡ false → a ≡ true
    or_left true b h e = refl
    or_left false b h e = absurd (false≢true (sym e ∙ h))

    row_part : (x : Pick) (b : Bool) (q fail n : ℕ) (st : Stack) → x.has_leftover ≡ b → rows_of s.scene.shape x.set ≡ Some n → lo ≤ q → (b ≡ false → (q < fail) × (fail ≤ hi) × (T fail ≡ st)) → slice_get ws q ≡ Some (row x fail) → T q ≡ k.Number ∷ st → T (q + 1) ≡ pick_index s x ∷ st → P q (q + 1) 1
    unfolding control_by
    row_part x true q fail n st e rows l f h tq t1 =
        let i : row x fail ≡ w.Plain ops.Row 1 x.set 0 = ap (λ b. if b then w.Plain ops.Row 1 x.set 0 else w.Plain ops.Row 0 x.set fail) e in
        let j : pick_index s x ≡ k.Index (n + 1) = ap (λ b. k.Index (row_count b (unwrap_or (rows_of s.scene.shape x.set) 0))) e ∙ ap (λ o. k.Index (row_count true (unwrap_or o 0))) rows in
        step s ws all bounds q (w.Plain ops.Row 1 x.set 0) (k.Number ∷ st) (k.Index (n + 1) ∷ st) (h ∙ ap Some i) tq (leftover_rule s ws q x.set n st rows) (t1 ∙ ap (λ j. j ∷ st) j) refl
    row_part x false q fail n st e rows l f h tq t1 =
        let i : row x fail ≡ w.Plain ops.Row 0 x.set fail = ap (λ b. if b then w.Plain ops.Row 1 x.set 0 else w.Plain ops.Row 0 x.set fail) e in
        let j : pick_index s x ≡ k.Index n = ap (λ b. k.Index (row_count b (unwrap_or (rows_of s.scene.shape x.set) 0))) e ∙ ap (λ o. k.Index (row_count false (unwrap_or o 0))) rows in
        let g = f refl in
        part_branch s.scene ws all bounds q fail (w.Plain ops.Row 0 x.set fail) (k.Number ∷ st) st (k.Index n ∷ st) (h ∙ ap Some i) tq (row_rule s ws q x.set fail n st rows) g.2 (t1 ∙ ap (λ j. j ∷ st) j) refl (jumps s ws all bounds lo hi bare' inside q fail l g.1 g.0)

    -- where a failing pick leads
    abbrev pub PicksLeftAt : Stack → ℕ → List Pick → Type 0
    PicksLeftAt st drops xs = can_fail xs ≡ true → HasAt all drops (picks_left s st xs) × (T (drops + deepest xs) ≡ st)

    picks_next : (st : Stack) (drops : ℕ) (x : Pick) (xs : List Pick) → PicksLeftAt st drops (x ∷ xs) → PicksLeftAt (pick_index s x ∷ st) drops xs
    picks_next st drops x xs f e =
        let g = (f (or_right (not x.has_leftover) (can_fail xs) e)).0 in
        let l = picks_left s (pick_index s x ∷ st) xs in
        let z : picks_left s st (x ∷ xs) ≡ l ++ (pick_index s x ∷ st) ∷ [] = ap (λ b. if b then l ++ (pick_index s x ∷ st) ∷ [] else []) e in
        let g' = subst (HasAt all drops) z g in
        (has_front all drops l _ g', stack_is all (drops + deepest xs) _ (has_back all drops (deepest xs) l _ (picks_left_length s (pick_index s x ∷ st) xs) g').0)

    deepest_less : (x : Pick) (xs : List Pick) → deepest xs ≤ deepest (x ∷ xs)
    deepest_less x xs = ⊎_elim
        (λ (e : can_fail xs ≡ true). let k : deepest (x ∷ xs) ≡ deepest xs + 1 = ap (λ b. if b then deepest xs + 1 else 0) e in omega arith)
        (λ (e : can_fail xs ≡ false). let k = no_depth xs e in omega arith)
        (cases_Bool (can_fail xs))
      where
        no_depth : (xs : List Pick) → can_fail xs ≡ false → deepest xs ≡ 0
        no_depth [] e = refl
        no_depth (y ∷ ys) e = ap (λ b. if b then deepest ys + 1 else 0) (or_none (not y.has_leftover) (can_fail ys) e)
          where
            or_none : (a b : Bool) → (a || b) ≡ false → b ≡ false
            or_none true b h = absurd (false≢true (sym h))
            or_none false b h = h

    pub picks_part : (xs : List Pick) (ds : List ℕ) (drops p : ℕ) (st : Stack) → ArePicks s ds xs → lo ≤ p → p + picks_size xs ≤ hi → p + picks_size xs ≤ drops → (can_fail xs ≡ true → drops + deepest xs ≤ hi) → HasAt ws p (picks_code drops p xs) → HasAt all p (picks_stacks s st xs) → PicksLeftAt st drops xs → T (p + picks_size xs) ≡ picks_after s st xs → P p (p + picks_size xs) (picks_size xs)
    picks_part [] ds drops p st f l r d d' h s' left e = to s ws all bounds p p (p + 0) 0 0 (omega arith) refl (none s ws all bounds p)
    picks_part (x ∷ xs) [] drops p st f l r d d' h s' left e = absurd f
    picks_part (x ∷ xs) (y ∷ ys) drops p st f l r d d' h s' left e =
        let n = present_size x.item in
        let q = p + n in
        let h' = has_back ws p n (number_of_item p x.item) _ (item_length p x.item) h in
        let s'' = has_back all p n (present_stacks st k.Number x.item) _ (present_stacks_length st k.Number x.item) s' in
        let z : p + (n + 1 + picks_size xs) ≡ q + 1 + picks_size xs = omega arith in
        let e' = moved s ws all bounds _ (q + 1 + picks_size xs) _ z e in
        let tq = stack_is all q _ s''.0 in
        let t1 = picks_start s all (q + 1) (pick_index s x ∷ st) xs s''.1 e' in
        let a = item_part s ws all bounds lo hi bare' inside looped x.item p st f.0 l (omega arith) (has_front ws p (number_of_item p x.item) _ h) (has_front all p (present_stacks st k.Number x.item) _ s') tq in
        let fails : x.has_leftover ≡ false → (q < drops + deepest (x ∷ xs)) × (drops + deepest (x ∷ xs) ≤ hi) × (T (drops + deepest (x ∷ xs)) ≡ st) = λ b.
        let can : can_fail (x ∷ xs) ≡ true = ap (λ b. not b || can_fail xs) b in
        let least = d' can in
        (omega arith, least, (left can).1) in
        let b = row_part x x.has_leftover q (drops + deepest (x ∷ xs)) f.1.0 st refl f.1.1 (omega arith) fails h'.0 tq t1 in
        let more = deepest_less x xs in
        let c' = picks_part xs ys drops (q + 1) (pick_index s x ∷ st) f.2 (omega arith) (omega arith) (omega arith) (λ can. let k = d' (or_right (not x.has_leftover) (can_fail xs) can) in omega arith) h'.1 s''.1 (picks_next st drops x xs left) e' in
        to s ws all bounds p (q + 1 + picks_size xs) _ (n + (1 + picks_size xs)) _ (sym z) (omega arith) (join s ws all bounds p q _ n _ a (join s ws all bounds q (q + 1) _ 1 (picks_size xs) b c'))

    pub picks_led : (xs : List Pick) (ds : List ℕ) (drops p : ℕ) (st : Stack) → ArePicks s ds xs → p + picks_size xs ≤ drops → HasAt ws p (picks_code drops p xs) → HasAt all p (picks_stacks s st xs) → can_fail xs ≡ true → Led s.scene ws all bounds drops
    picks_led [] ds drops p st f d h s' can = absurd (false≢true can)
    picks_led (x ∷ xs) [] drops p st f d h s' can = absurd f
    picks_led (x ∷ xs) (y ∷ ys) drops p st f d h s' can =
        let n = present_size x.item in
        let q = p + n in
        let h' = has_back ws p n (number_of_item p x.item) _ (item_length p x.item) h in
        let s'' = has_back all p n (present_stacks st k.Number x.item) _ (present_stacks_length st k.Number x.item) s' in
        ⊎_elim
        (λ (e : can_fail xs ≡ true). picks_led xs ys drops (q + 1) (pick_index s x ∷ st) f.2 (omega arith) h'.1 s''.1 e)
        (λ (e : can_fail xs ≡ false).
        let b = not-true x.has_leftover (or_left (not x.has_leftover) (can_fail xs) can e) in
        let z : deepest (x ∷ xs) ≡ 0 = ap (λ b. if b then deepest xs + 1 else 0) e in
        let fail = drops + deepest (x ∷ xs) in
        let i : row x fail ≡ w.Plain ops.Row 0 x.set fail = ap (λ b. if b then w.Plain ops.Row 1 x.set 0 else w.Plain ops.Row 0 x.set fail) b in
        led_place s.scene ws all bounds fail drops (omega arith) (led_branch s.scene ws all bounds q fail (w.Plain ops.Row 0 x.set fail) (k.Number ∷ st) st (k.Index f.1.0 ∷ st) (h'.0 ∙ ap Some i) (stack_is all q _ s''.0) (row_rule s ws q x.set fail f.1.0 st f.1.1) (omega arith)))
        (cases_Bool (can_fail xs))

    deck_part : (array p : ℕ) (st : Stack) (picks : List Pick) (b : Bool) → can_fail picks ≡ b → IsDeck s array picks → lo ≤ p → p + (picks_size picks + deck_size picks) ≤ hi → HasAt ws p (picks_code (p + picks_size picks + 2) p picks ++ deck_code array (p + picks_size picks) picks) → HasAt all p (picks_stacks s st picks ++ deck_stacks s st picks) → T (p + (picks_size picks + deck_size picks)) ≡ k.Number ∷ st → P p (p + (picks_size picks + deck_size picks)) (picks_size picks + deck_size picks)
    unfolding control_by
    deck_part array p st picks true can f l r h s' e =
        let n = picks_size picks in
        let m = deepest picks in
        let q = p + n in
        let drops = p + n + 2 in
        let size : deck_size picks ≡ m + 3 = ap (λ b. if b then m + 3 else 1) can in
        let code : deck_code array q picks ≡ with_c ops.LoadCell array ∷ jump (q + m + 3) ∷ (pops m ++ undefined ∷ []) = ap (λ b. if b then with_c ops.LoadCell array ∷ jump (q + m + 3) ∷ (pops m ++ undefined ∷ []) else with_c ops.LoadCell array ∷ []) can in
        let stacks : deck_stacks s st picks ≡ picks_after s st picks ∷ (k.Number ∷ st) ∷ (picks_left s st picks ++ st ∷ []) = ap (λ b. if b then picks_after s st picks ∷ (k.Number ∷ st) ∷ (picks_left s st picks ++ st ∷ []) else picks_after s st picks ∷ []) can in
        let hp = has_front ws p (picks_code drops p picks) _ h in
        let sp = has_front all p (picks_stacks s st picks) _ s' in
        let h' = subst (HasAt ws q) code (has_back ws p n (picks_code drops p picks) _ (picks_length drops p picks) h) in
        let s'' = subst (HasAt all q) stacks (has_back all p n (picks_stacks s st picks) _ (picks_stacks_length s st picks) s') in
        let z : p + (n + deck_size picks) ≡ q + (m + 3) = omega (arith, size) in
        let e' = moved s ws all bounds _ (q + (m + 3)) _ z e in
        let y : q + 1 + 1 ≡ drops = omega arith in
        let lefts = subst (λ n. HasAt all n (picks_left s st picks ++ st ∷ [])) y s''.1.1 in
        let left : PicksLeftAt st drops picks = λ can. (has_front all drops (picks_left s st picks) _ lefts, stack_is all (drops + m) _ (has_back all drops m (picks_left s st picks) _ (picks_left_length s st picks) lefts).0) in
        let a = picks_part picks f.0.dimensions drops p st f.2 l (omega (arith, size)) (omega arith) (λ can. omega (arith, size)) hp sp left (stack_is all q _ s''.0) in
        let led = led_place s.scene ws all bounds drops (q + 1 + 1) (sym y) (picks_led picks f.0.dimensions drops p st f.2 (omega arith) hp sp can) in
        let b = tail_part s ws all bounds lo hi bare' inside q m (q + m + 3) (with_c ops.LoadCell array) st (picks_after s st picks) (picks_left s st picks) (picks_left_length s st picks) (descends_picks st picks) (omega arith) (omega (arith, size)) (omega arith) (load_cell_rule s ws q array f.0 st (picks_after s st picks) f.1 (deck_below array st picks f)) refl h' s'' led e' in
        to s ws all bounds p (q + (m + 3)) _ (n + (m + 3)) _ (sym z) (omega (arith, size)) (join s ws all bounds p q _ n (m + 3) a b)
    deck_part array p st picks false can f l r h s' e =
        let n = picks_size picks in
        let q = p + n in
        let drops = p + n + 2 in
        let size : deck_size picks ≡ 1 = ap (λ b. if b then deepest picks + 3 else 1) can in
        let code : deck_code array q picks ≡ with_c ops.LoadCell array ∷ [] = ap (λ b. if b then with_c ops.LoadCell array ∷ jump (q + deepest picks + 3) ∷ (pops (deepest picks) ++ undefined ∷ []) else with_c ops.LoadCell array ∷ []) can in
        let stacks : deck_stacks s st picks ≡ picks_after s st picks ∷ [] = ap (λ b. if b then picks_after s st picks ∷ (k.Number ∷ st) ∷ (picks_left s st picks ++ st ∷ []) else picks_after s st picks ∷ []) can in
        let hp = has_front ws p (picks_code drops p picks) _ h in
        let sp = has_front all p (picks_stacks s st picks) _ s' in
        let h' = subst (HasAt ws q) code (has_back ws p n (picks_code drops p picks) _ (picks_length drops p picks) h) in
        let s'' = subst (HasAt all q) stacks (has_back all p n (picks_stacks s st picks) _ (picks_stacks_length s st picks) s') in
        let z : p + (n + deck_size picks) ≡ q + 1 = omega (arith, size) in
        let e' = moved s ws all bounds _ (q + 1) _ z e in
        let left : PicksLeftAt st drops picks = λ yes. absurd (false≢true (sym can ∙ yes)) in
        let a = picks_part picks f.0.dimensions drops p st f.2 l (omega (arith, size)) (omega arith) (λ yes. absurd (false≢true (sym can ∙ yes))) hp sp left (stack_is all q _ s''.0) in
        let b = step s ws all bounds q (with_c ops.LoadCell array) (picks_after s st picks) (k.Number ∷ st) h'.0 (stack_is all q _ s''.0) (load_cell_rule s ws q array f.0 st (picks_after s st picks) f.1 (deck_below array st picks f)) e' refl in
        to s ws all bounds p (q + 1) _ (n + 1) _ (sym z) (omega (arith, size)) (join s ws all bounds p q _ n 1 a b)

    -- ---- indexes of an array: the last one leads to the first place that drops one

    pub indexes_led : (xs : Numbers) (x : Number) (array drops j p : ℕ) (st : Stack) → p + indexes_size (number_and x xs) ≤ drops → HasAt ws p (indexes_code s.setting array drops j p (number_and x xs)) → HasAt all p (indexes_stacks s array j st (number_and x xs)) → Led s.scene ws all bounds drops
    unfolding indexes_size indexes_code indexes_stacks signature_by control_by
    indexes_led no_number x array drops j p st d h s' =
        let n = number_size x in
        let q = p + n in
        let h' = has_back ws p n (number_code s.setting p x) _ (number_length s.setting p x) h in
        let s'' = has_back all p n (number_stacks s st x) _ (number_stacks_length s st x) s' in
        led_place s.scene ws all bounds (drops + 0) drops (omega arith) (led_branch s.scene ws all bounds q (drops + 0) (w.Plain ops.Index 0 (size_at s.setting array j) (drops + 0)) (k.Number ∷ st) st (cell_index s array j ∷ st) h'.0 (stack_is all q _ s''.0) refl (omega arith))
    indexes_led (number_and y ys) x array drops j p st d h s' =
        let n = number_size x in
        let q = p + n in
        let h' = has_back ws p n (number_code s.setting p x) _ (number_length s.setting p x) h in
        let s'' = has_back all p n (number_stacks s st x) _ (number_stacks_length s st x) s' in
        indexes_led ys y array drops (j + 1) (q + 1) (cell_index s array j ∷ st) (omega arith) h'.1 s''.1

    pub some_led : (xs : Numbers) (array drops p : ℕ) (st : Stack) → 1 ≤ count xs → p + indexes_size xs ≤ drops → HasAt ws p (indexes_code s.setting array drops 0 p xs) → HasAt all p (indexes_stacks s array 0 st xs) → Led s.scene ws all bounds drops
    some_led no_number array drops p st some d h s' = absurd (omega arith)
    some_led (number_and x xs) array drops p st some d h s' = indexes_led xs x array drops 0 p st d h s'

    pub count_behind : (xs : Numbers) → count xs ≤ behind xs + 1
    count_behind no_number = omega arith
    count_behind (number_and x xs) = omega arith

    -- ---- all expressions

    mutual
      unfolding number_size words_size numbers_size indexes_size operations_size number_code words_code numbers_code indexes_code operations_code number_stacks words_stacks numbers_stacks indexes_stacks operations_stacks number_calls words_calls numbers_calls operations_calls signature_by control_by

      pub number_part : (x : Number) → NumberFits s x → (p : ℕ) (st : Stack) → lo ≤ p → p + number_size x ≤ hi → HasAt ws p (number_code s.setting p x) → HasAt all p (number_stacks s st x) → T (p + number_size x) ≡ k.Number ∷ st → P p (p + number_size x) (number_size x + number_calls bounds x)
      number_part (Constant digits value) f p st l r h s' e = step s ws all bounds p (w.Constant value) st (k.Number ∷ st) h.0 (stack_is all p _ s'.0) refl e refl
      number_part (Special' token value) f p st l r h s' e = step s ws all bounds p (with_a ops.Special (special_number value)) st (k.Number ∷ st) h.0 (stack_is all p _ s'.0) refl e refl
      number_part (Variable' name variable) f p st l r h s' e = step s ws all bounds p (load s.setting variable) st (k.Number ∷ st) h.0 (stack_is all p _ s'.0) (load_rule s ws p variable st f) e (load_steps s ws variable)
      number_part (Item name item) f p st l r h s' e = to s ws all bounds p _ _ _ _ refl (omega arith) (item_part s ws all bounds lo hi bare' inside looped item p st f l r h s' e)
      number_part (ItemAt name field x) f p st l r h s' e =
          let n = number_size x in
          let q = p + n in
          let h' = has_back ws p n (number_code s.setting p x) _ (number_length s.setting p x) h in
          let s'' = has_back all p n (number_stacks s st x) _ (number_stacks_length s st x) s' in
          let z : p + (n + 4) ≡ q + 4 = omega arith in
          let a = number_part x f.1 p st l (omega arith) (has_front ws p (number_code s.setting p x) _ h) (has_front all p (number_stacks s st x) _ s') (stack_is all q _ s''.0) in
          let b = guarded_part s ws all bounds lo hi bare' inside field.owner q (with_c ops.ItemNumber field.item) undefined k.Number st (omega arith) (omega arith) f.0.0.1 (λ q. item_number_rule s ws q field.item field.owner st f.0.1) (λ q. refl) refl refl h' s'' (moved s ws all bounds _ (q + 4) _ z e) in
          to s ws all bounds p (q + 4) _ _ _ (sym z) (omega arith) (join s ws all bounds p q (q + 4) _ 4 a b)
      number_part (Cell name array xs) f p st l r h s' e =
          let n = indexes_size xs in
          let m = behind xs in
          let q = p + n in
          let drops = p + n + 2 in
          let hi' = has_front ws p (indexes_code s.setting array drops 0 p xs) _ h in
          let si = has_front all p (indexes_stacks s array 0 st xs) _ s' in
          let h' = has_back ws p n (indexes_code s.setting array drops 0 p xs) _ (indexes_length s.setting array drops 0 p xs) h in
          let s'' = has_back all p n (indexes_stacks s array 0 st xs) _ (indexes_stacks_length s array 0 st xs) s' in
          let z : p + (n + (m + 3)) ≡ q + (m + 3) = omega arith in
          let e' = moved s ws all bounds _ (q + (m + 3)) _ z e in
          let y : q + 1 + 1 ≡ drops = omega arith in
          let lefts = subst (λ n. HasAt all n (indexes_left s array 0 st xs ++ st ∷ [])) y s''.1.1 in
          let left = left_start array st drops xs (has_front all drops (indexes_left s array 0 st xs) _ lefts) (stack_is all (drops + m) _ (has_back all drops m (indexes_left s array 0 st xs) _ (indexes_left_length s array 0 st xs) lefts).0) in
          let few = count_behind xs in
          let a = indexes_part xs f.1 array drops 0 p st l (omega arith) (omega arith) (omega arith) hi' si left (stack_is all q _ s''.0) in
          let led = led_place s.scene ws all bounds drops (q + 1 + 1) (sym y) (some_led xs array drops p st f.0.4 (omega arith) hi' si) in
          let b = tail_part s ws all bounds lo hi bare' inside q m (q + (m + 3)) (with_c ops.LoadCell array) st (indexes_after s array 0 st xs) (indexes_left s array 0 st xs) (indexes_left_length s array 0 st xs) (descends_indexes array st xs) (omega arith) (omega arith) refl (load_cell_rule s ws q array f.0.0 st (indexes_after s array 0 st xs) f.0.1 (cell_below array st xs f.0)) refl h' s'' led e' in
          to s ws all bounds p (q + (m + 3)) _ _ _ (sym z) (omega arith) (join s ws all bounds p q _ _ (m + 3) a b)
      number_part (Call name function xs) f p st l r h s' e =
          let n = numbers_size xs in
          let q = p + n in
          let h' = has_back ws p n (numbers_code s.setting p xs) _ (numbers_length s.setting p xs) h in
          let s'' = has_back all p n (numbers_stacks s st xs) _ (numbers_stacks_length s st xs) s' in
          let tq = stack_is all q _ s''.0 in
          let z : p + (n + 1) ≡ q + 1 = omega arith in
          let a = numbers_part xs f.1 p st l (omega arith) (has_front ws p (numbers_code s.setting p xs) _ h) (has_front all p (numbers_stacks s st xs) _ s') tq in
          let b = part_call s.scene ws all bounds q function (with_c ops.Call function) (numbers_after st xs) (k.Number ∷ st) h'.0 tq (call_rule s ws q function f.0.0 st (numbers_after st xs) f.0.1 f.0.2 (call_below function st xs f.0)) (moved s ws all bounds _ (q + 1) _ z e) refl in
          to s ws all bounds p (q + 1) _ _ _ (sym z) (omega arith) (join s ws all bounds p q (q + 1) _ _ a b)
      number_part (Group x) f p st l r h s' e = number_part x f p st l r h s' e
      number_part (Int x) f p st l r h s' e = number_part x f p st l r h s' e
      number_part (IsSpecial x) f p st l r h s' e =
          to s ws all bounds p _ _ _ _ refl (omega arith) (use_value (number_code s.setting p x) (number_stacks s st x) (number_size x) _ p (bare ops.IsSpecial) (k.Number ∷ st) (k.Number ∷ st) (number_length s.setting p x) (number_stacks_length s st x) h s' (λ hx sx tx. number_part x f p st l (omega arith) hx sx tx) refl e refl)
      number_part (Deck name array picks) f p st l r h s' e = to s ws all bounds p _ _ _ _ refl (omega arith) (deck_part array p st picks (can_fail picks) refl f l r h s' e)
      number_part (TotOcc name of) f p st l r h s' e = step s ws all bounds p (with_a ops.TotalOccurrences of) st (k.Number ∷ st) h.0 (stack_is all p _ s'.0) (total_rule s ws p of st f.1) e refl
      number_part (MaxOcc name of) f p st l r h s' e = step s ws all bounds p (w.Constant _) st (k.Number ∷ st) h.0 (stack_is all p _ s'.0) refl e refl
      number_part (CurOcc name of found) f p st l r h s' e =
          to s ws all bounds p _ _ _ _ refl (omega arith) (here_part s ws all bounds lo hi bare' inside looped of p found (with_a ops.OccurrenceNumber of) undefined k.Number st l r f.0.1 f.1 (λ q. number_rule s ws q of st f.0.1) (λ q. refl) refl refl h s' e)
      number_part (InSet name item set_name set) f p st l r h s' e =
          to s ws all bounds p _ _ _ _ refl (omega arith) (use_value (number_of_item p item) (present_stacks st k.Number item) (present_size item) _ p (with_b ops.InSet set) (k.Number ∷ st) (k.Number ∷ st) (item_length p item) (present_stacks_length st k.Number item) h s' (λ hx sx tx. item_part s ws all bounds lo hi bare' inside looped item p st f.0 l (omega arith) hx sx tx) (set_rule s ws (p + present_size item) set f.1.0 st f.1.1) e refl)
      number_part (Minus x) f p st l r h s' e =
          to s ws all bounds p _ _ _ _ refl (omega arith) (use_value (number_code s.setting p x) (number_stacks s st x) (number_size x) _ p (bare ops.Negate) (k.Number ∷ st) (k.Number ∷ st) (number_length s.setting p x) (number_stacks_length s st x) h s' (λ hx sx tx. number_part x f p st l (omega arith) hx sx tx) refl e refl)
      number_part (Not x) f p st l r h s' e =
          to s ws all bounds p _ _ _ _ refl (omega arith) (use_value (number_code s.setting p x) (number_stacks s st x) (number_size x) _ p (bare ops.Not) (k.Number ∷ st) (k.Number ∷ st) (number_length s.setting p x) (number_stacks_length s st x) h s' (λ hx sx tx. number_part x f p st l (omega arith) hx sx tx) refl e refl)
      number_part (Compare relation x y) f p st l r h s' e =
          let n = number_size x in
          let m = number_size y in
          let q = p + n in
          let h' = has_back ws p n (number_code s.setting p x) _ (number_length s.setting p x) h in
          let s'' = has_back all p n (number_stacks s st x) _ (number_stacks_length s st x) s' in
          let z : p + (n + (m + 1)) ≡ q + (m + 1) = omega arith in
          let tq = number_start s all q (k.Number ∷ st) y (has_front all q (number_stacks s (k.Number ∷ st) y) _ s'') in
          let a = number_part x f.0 p st l (omega arith) (has_front ws p (number_code s.setting p x) _ h) (has_front all p (number_stacks s st x) _ s') tq in
          let b = use_value (number_code s.setting q y) (number_stacks s (k.Number ∷ st) y) m _ q (with_a ops.Compare (relation_number relation)) (k.Number ∷ k.Number ∷ st) (k.Number ∷ st) (number_length s.setting q y) (number_stacks_length s (k.Number ∷ st) y) h' s'' (λ hy sy ty. number_part y f.1 q (k.Number ∷ st) (omega arith) (omega arith) hy sy ty) refl (moved s ws all bounds _ (q + (m + 1)) _ z e) refl in
          to s ws all bounds p (q + (m + 1)) _ _ _ (sym z) (omega arith) (join s ws all bounds p q _ _ _ a b)
      number_part (CompareTexts relation x y) f p st l r h s' e =
          let n = words_size x in
          let m = words_size y in
          let q = p + n in
          let h' = has_back ws p n (words_code s.setting p x) _ (words_length s.setting p x) h in
          let s'' = has_back all p n (words_stacks s st x) _ (words_stacks_length s st x) s' in
          let z : p + (n + (m + 1)) ≡ q + (m + 1) = omega arith in
          let tq = words_start s all q (k.Text ∷ st) y (has_front all q (words_stacks s (k.Text ∷ st) y) _ s'') in
          let a = words_part x f.0 p st l (omega arith) (has_front ws p (words_code s.setting p x) _ h) (has_front all p (words_stacks s st x) _ s') tq in
          let b = use_value (words_code s.setting q y) (words_stacks s (k.Text ∷ st) y) m _ q (with_a ops.CompareText (relation_number relation)) (k.Text ∷ k.Text ∷ st) (k.Number ∷ st) (words_length s.setting q y) (words_stacks_length s (k.Text ∷ st) y) h' s'' (λ hy sy ty. words_part y f.1 q (k.Text ∷ st) (omega arith) (omega arith) hy sy ty) refl (moved s ws all bounds _ (q + (m + 1)) _ z e) refl in
          to s ws all bounds p (q + (m + 1)) _ _ _ (sym z) (omega arith) (join s ws all bounds p q _ _ _ a b)
      number_part (Chain x xs) f p st l r h s' e =
          let n = number_size x in
          let m = operations_size xs in
          let q = p + n in
          let h' = has_back ws p n (number_code s.setting p x) _ (number_length s.setting p x) h in
          let s'' = has_back all p n (number_stacks s st x) _ (number_stacks_length s st x) s' in
          let z : p + (n + m) ≡ q + m = omega arith in
          let e' = moved s ws all bounds _ (q + m) _ z e in
          let tq = operations_start s all q st xs s'' e' in
          let a = number_part x f.0 p st l (omega arith) (has_front ws p (number_code s.setting p x) _ h) (has_front all p (number_stacks s st x) _ s') tq in
          let b = operations_part xs f.1 q st (omega arith) (omega arith) h' s'' e' in
          to s ws all bounds p (q + m) _ _ _ (sym z) (omega arith) (join s ws all bounds p q _ _ _ a b)

      pub words_part : (x : Words) → WordsFit s x → (p : ℕ) (st : Stack) → lo ≤ p → p + words_size x ≤ hi → HasAt ws p (words_code s.setting p x) → HasAt all p (words_stacks s st x) → T (p + words_size x) ≡ k.Text ∷ st → P p (p + words_size x) (words_size x + words_calls bounds x)
      words_part (Quoted text) f p st l r h s' e = step s ws all bounds p (w.Chars _) st (k.Text ∷ st) h.0 (stack_is all p _ s'.0) refl e refl
      words_part (TextGlobal name variable) f p st l r h s' e = step s ws all bounds p (with_c ops.LoadGlobal variable) st (k.Text ∷ st) h.0 (stack_is all p _ s'.0) (load_global s ws p variable k.Text st f) e refl
      words_part (TextItem name item) f p st l r h s' e = to s ws all bounds p _ _ _ _ refl (omega arith) (text_item_part s ws all bounds lo hi bare' inside looped item p st f l r h s' e)
      words_part (TextItemAt name field x) f p st l r h s' e =
          let n = number_size x in
          let q = p + n in
          let h' = has_back ws p n (number_code s.setting p x) _ (number_length s.setting p x) h in
          let s'' = has_back all p n (number_stacks s st x) _ (number_stacks_length s st x) s' in
          let z : p + (n + 4) ≡ q + 4 = omega arith in
          let a = number_part x f.1 p st l (omega arith) (has_front ws p (number_code s.setting p x) _ h) (has_front all p (number_stacks s st x) _ s') (stack_is all q _ s''.0) in
          let b = guarded_part s ws all bounds lo hi bare' inside field.owner q (with_c ops.ItemText field.item) (w.Chars []) k.Text st (omega arith) (omega arith) f.0.0.1 (λ q. item_text_rule s ws q field.item field.owner st f.0.1) (λ q. refl) refl refl h' s'' (moved s ws all bounds _ (q + 4) _ z e) in
          to s ws all bounds p (q + 4) _ _ _ (sym z) (omega arith) (join s ws all bounds p q (q + 4) _ 4 a b)
      words_part (TextGroup x) f p st l r h s' e = words_part x f p st l r h s' e

      pub numbers_part : (xs : Numbers) → NumbersFit s xs → (p : ℕ) (st : Stack) → lo ≤ p → p + numbers_size xs ≤ hi → HasAt ws p (numbers_code s.setting p xs) → HasAt all p (numbers_stacks s st xs) → T (p + numbers_size xs) ≡ numbers_after st xs → P p (p + numbers_size xs) (numbers_size xs + numbers_calls bounds xs)
      numbers_part no_number f p st l r h s' e = to s ws all bounds p p (p + 0) 0 _ (omega arith) refl (none s ws all bounds p)
      numbers_part (number_and x xs) f p st l r h s' e =
          let n = number_size x in
          let m = numbers_size xs in
          let q = p + n in
          let h' = has_back ws p n (number_code s.setting p x) _ (number_length s.setting p x) h in
          let s'' = has_back all p n (number_stacks s st x) _ (number_stacks_length s st x) s' in
          let z : p + (n + m) ≡ q + m = omega arith in
          let e' = moved s ws all bounds _ (q + m) _ z e in
          let tq = numbers_start s all q (k.Number ∷ st) xs s'' e' in
          let a = number_part x f.0 p st l (omega arith) (has_front ws p (number_code s.setting p x) _ h) (has_front all p (number_stacks s st x) _ s') tq in
          let b = numbers_part xs f.1 q (k.Number ∷ st) (omega arith) (omega arith) h' s'' e' in
          to s ws all bounds p (q + m) _ _ _ (sym z) (omega arith) (join s ws all bounds p q _ _ _ a b)

      pub indexes_part : (xs : Numbers) → NumbersFit s xs → (array drops j p : ℕ) (st : Stack) → lo ≤ p → p + indexes_size xs ≤ hi → p + indexes_size xs ≤ drops → drops + count xs ≤ hi + 1 → HasAt ws p (indexes_code s.setting array drops j p xs) → HasAt all p (indexes_stacks s array j st xs) → LeftAt array j st drops xs → T (p + indexes_size xs) ≡ indexes_after s array j st xs → P p (p + indexes_size xs) (indexes_size xs + numbers_calls bounds xs)
      indexes_part no_number f array drops j p st l r d d' h s' left e = to s ws all bounds p p (p + 0) 0 _ (omega arith) refl (none s ws all bounds p)
      indexes_part (number_and x xs) f array drops j p st l r d d' h s' left e =
          let n = number_size x in
          let m = indexes_size xs in
          let q = p + n in
          let h' = has_back ws p n (number_code s.setting p x) _ (number_length s.setting p x) h in
          let s'' = has_back all p n (number_stacks s st x) _ (number_stacks_length s st x) s' in
          let z : p + (n + (m + 1)) ≡ q + 1 + m = omega arith in
          let e' = moved s ws all bounds _ (q + 1 + m) _ z e in
          let i = cell_index s array j in
          let tq = stack_is all q _ s''.0 in
          let t1 = indexes_start s all array (j + 1) (q + 1) (i ∷ st) xs s''.1 e' in
          let tf = left.1 in
          let a = number_part x f.0 p st l (omega arith) (has_front ws p (number_code s.setting p x) _ h) (has_front all p (number_stacks s st x) _ s') tq in
          let b : P q (q + 1) 1 = part_branch s.scene ws all bounds q (drops + count xs) (w.Plain ops.Index 0 (size_at s.setting array j) (drops + count xs)) (k.Number ∷ st) st (i ∷ st) h'.0 tq refl tf t1 refl (jumps s ws all bounds lo hi bare' inside q (drops + count xs) (omega arith) (omega arith) (omega arith)) in
          let g = indexes_part xs f.1 array drops (j + 1) (q + 1) (i ∷ st) (omega arith) (omega arith) (omega arith) (omega arith) h'.1 s''.1 (left_next array j st drops x xs left) e' in
          to s ws all bounds p (q + 1 + m) _ _ _ (sym z) (omega arith) (join s ws all bounds p q _ _ _ a (join s ws all bounds q (q + 1) _ 1 _ b g))

      pub operations_part : (xs : Operations) → OperationsFit s xs → (p : ℕ) (st : Stack) → lo ≤ p → p + operations_size xs ≤ hi → HasAt ws p (operations_code s.setting p xs) → HasAt all p (operations_stacks s st xs) → T (p + operations_size xs) ≡ k.Number ∷ st → P p (p + operations_size xs) (operations_size xs + operations_calls bounds xs)
      operations_part no_operation f p st l r h s' e = to s ws all bounds p p (p + 0) 0 _ (omega arith) refl (none s ws all bounds p)
      operations_part (operation_and operator x xs) f p st l r h s' e =
          let n = number_size x in
          let m = operations_size xs in
          let q = p + n in
          let h' = has_back ws p n (number_code s.setting p x) _ (number_length s.setting p x) h in
          let s'' = has_back all p n (number_stacks s (k.Number ∷ st) x) _ (number_stacks_length s (k.Number ∷ st) x) s' in
          let z : p + (n + (m + 1)) ≡ q + 1 + m = omega arith in
          let e' = moved s ws all bounds _ (q + 1 + m) _ z e in
          let tq = stack_is all q _ s''.0 in
          let t1 = operations_start s all (q + 1) st xs s''.1 e' in
          let a = number_part x f.0 p (k.Number ∷ st) l (omega arith) (has_front ws p (number_code s.setting p x) _ h) (has_front all p (number_stacks s (k.Number ∷ st) x) _ s') tq in
          let b = step s ws all bounds q (bare (operation_of operator)) (k.Number ∷ k.Number ∷ st) (k.Number ∷ st) h'.0 tq (operator_rule operator q st) t1 (operator_steps operator) in
          let g = operations_part xs f.1 (q + 1) st (omega arith) (omega arith) h'.1 s''.1 e' in
          to s ws all bounds p (q + 1 + m) _ _ _ (sym z) (omega arith) (join s ws all bounds p q _ _ _ a (join s ws all bounds q (q + 1) _ 1 _ b g))
