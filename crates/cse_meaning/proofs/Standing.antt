-- Each instruction of the code of a tree that fits may stand in its routine: calls go to smaller routines, and what needs a case stands in
-- routines of a case.
use Rattle.std.proofs.Common.{◌≡◌, ℕ, ◌+◌, ℤ, Bool, true, false, ◌&&◌, ◌<◌, ◌≤◌, List, [], ◌∷◌, ◌++◌, length, Option, Some, None, refl, sym, ap, ◌∙◌, subst, ⊎_elim, arith}
use Rattle.std.specs.Prelude.{slice_get, zero, suc, not, ◌==◌, if◌then◌else◌}
use Rattle.std.specs.List.{list_all}
use Rattle.std.proofs.lemmas.Bool.{and_from, and_parts, cases_eq}
use Rattle.std.proofs.lemmas.Option.{same_Some, slice_get_within}
use Rattle.std.proofs.lemmas.List.Folds.{list_all-append}
use Rattle.cse_value.specs.declared.number.Num.{Num}
use Rattle.cse_value.specs.declared.number.Num.TheVariants as num
use Rattle.cse_image_parts.specs.declared.instruction.Op.{Op}
use Rattle.cse_image_parts.specs.declared.instruction.Op.TheVariants as ops
use Rattle.cse_syntax_tree.specs.declared.tree.Operator.{Operator}
use Rattle.cse_syntax_tree.specs.declared.tree.Operator.TheVariants as operators
use Rattle.cse_syntax_tree.specs.declared.tree.Count.TheVariants as counts
use Rattle.cse_syntax_tree.specs.declared.tree.Jump.{Jump}
use Rattle.cse_syntax_tree.specs.declared.tree.Jump.TheVariants as j
use Rattle.cse_image_parts.specs.declared.instruction.Instr.{Instr}
use Rattle.cse_code_typing.specs.Calls.{needs_case, calls_well, may_stand}
use Rattle.cse_code_typing.specs.Order.{is_run}
use Rattle.cse_logic_tree.specs.declared.tree.Variable.{Variable}
use Rattle.cse_logic_tree.specs.declared.tree.Variable.TheVariants as v
use Rattle.cse_logic_tree.specs.declared.tree.Found.{Found}
use Rattle.cse_logic_tree.specs.declared.tree.Found.TheVariants as h
use Rattle.cse_logic_tree.specs.declared.tree.Present.{Present}
use Rattle.cse_logic_tree.specs.declared.tree.Present.TheVariants as p
use Rattle.cse_logic_tree.specs.declared.tree.Pick.{Pick}
use Rattle.cse_logic_tree.specs.Typed.{Number, Words, Numbers, Operations, Constant, Special', Variable', Item, ItemAt, Cell, Call, Group, Int, IsSpecial, Deck, TotOcc, MaxOcc, CurOcc, InSet, Minus, Not, Compare, CompareTexts, Chain}
use Rattle.cse_logic_tree.specs.Typed.{Quoted, TextGlobal, TextItem, TextItemAt, TextGroup, no_number, number_and, no_operation, operation_and}
use Rattle.cse_logic_tree.specs.Typed.{Which, Here, At, Argument, OfNumber, OfWords, Limit, Fixed, Counted, Counting, Statement, Statements, Arms}
use Rattle.cse_logic_tree.specs.Typed.{Empty, Set, SetText, SetItem, SetTextItem, SetCell, CallOf, If, For, Do, Jump', Impute, PutDeck, ErrMsg, no_statement, statement_and, no_arm, else_of, arm}
use Rattle.cse_compile.specs.Wide as w
use Rattle.cse_compile.specs.Wide.{Wide, bare, with_a, with_b, with_c, pops, undefined, jump, jump_over, value}
use Rattle.cse_compile.specs.declared.setting.Loop.{Loop}
use Rattle.cse_compile.specs.Expressions.{load, store, operation_of, guarded, here_code, present_size, number_of_item, text_of_item, can_fail, deepest, row, picks_size, picks_code, deck_code, behind, number_size, words_size, indexes_size, number_code, words_code, numbers_code, indexes_code, operations_code}
use Rattle.cse_compile.specs.Statements.{limit_code, which_code, drops_size, drops_code, argument_size, argument_code, arguments_code, turns_code_by, head_code, step_code, exit_code_by, jump_code, front_code, loop_to, opener_at, turn_end_at, statement_size, block_size, arms_size, statement_code, block_code, arms_code}
use Rattle.cse_compile.specs.Routines.{no_loop, entry_size_by, entry_code_by, routine_code}
use Rattle.cse_meaning.specs.Stands.{Stands}
use Rattle.cse_meaning.specs.Emitted.{InstructionsMayStand}
use Rattle.cse_meaning.proofs.At.{HasAt, has_self}
use Rattle.cse_meaning.proofs.Transport.{each_stands}
use Rattle.cse_meaning.specs.Fit.{Spot, HasCase, IsRecord, IsNumberPresent, IsTextPresent, IsFunction, ArePicks, WhichFits, ArgumentFits, ArgumentsFit, LimitFits, CountingFits, Within, over, NumberFits, WordsFit, NumbersFit, OperationsFit, StatementFits, BlockFits, ArmsFit}

abbrev pub op_of : Wide → Op
op_of (w.Constant z) = ops.Number
op_of (w.Chars text) = ops.Text
op_of (w.Turns limit end) = ops.LoopCount
op_of (w.Plain op a b d) = op

abbrev pub field_c : Wide → ℕ
field_c (w.Plain op a b d) = d
field_c _ = 0

-- in this routine
abbrev pub wide_stands : Spot → Wide → Bool
wide_stands s i =
    not (is_run s.scene.routine.ambient && needs_case (op_of i)) && calls_well s.scene.lists.routines s.number (is_run s.scene.routine.ambient) (op_of i) (field_c i)

module _ (s : Spot) where
  pub record May (i : Wide) : Type 0 where
    pub by : wide_stands s i ≡ true

  pub record AllMay (l : List Wide) : Type 0 where
    pub by : list_all (wide_stands s) l ≡ true

  pub may_two : (a b : List Wide) → AllMay a → AllMay b → AllMay (a ++ b)
  may_two a b e f = record { by = list_all-append (wide_stands s) a b ∙ and_from _ _ e.by f.by }

  pub may_more : (i : Wide) (b : List Wide) → May i → AllMay b → AllMay (i ∷ b)
  may_more i b e f = record { by = and_from _ _ e.by f.by }

  pub may_none : AllMay []
  may_none = record { by = refl }

  pub may_one : (i : Wide) → May i → AllMay (i ∷ [])
  may_one i e = may_more i [] e may_none

  no_case : (b : Bool) → not (b && false) ≡ true
  no_case true = refl
  no_case false = refl

  -- an instruction that needs no case and calls nothing
  pub free : (i : Wide) → needs_case (op_of i) ≡ false → calls_well s.scene.lists.routines s.number (is_run s.scene.routine.ambient) (op_of i) (field_c i) ≡ true → May i
  free i e f = record { by = and_from _ _ (ap (λ b. not (is_run s.scene.routine.ambient && b)) e ∙ no_case (is_run s.scene.routine.ambient)) f }

  -- one that stands in a routine of a case
  pub cased : (i : Wide) → HasCase s → calls_well s.scene.lists.routines s.number (is_run s.scene.routine.ambient) (op_of i) (field_c i) ≡ true → May i
  cased i e f = record { by = and_from _ _ (ap (λ b. not (b && needs_case (op_of i))) e) f }

  if_may : (b : Bool) (l m : List Wide) → AllMay l → AllMay m → AllMay (if b then l else m)
  if_may true l m e f = e
  if_may false l m e f = f

  undefined_may : May undefined
  unfolding needs_case calls_well
  undefined_may = free undefined refl refl

  guarded_may : (taken none : Wide) (of q : ℕ) → HasCase s → May taken → May none → AllMay (guarded taken none of q)
  unfolding needs_case calls_well
  guarded_may taken none of q f e g = may_more _ _ (cased _ f refl) (may_more taken _ e (may_more _ _ (free _ refl refl) (may_one none g)))

  here_may : (taken none : Wide) (of q : ℕ) (found : Found) → HasCase s → May taken → May none → AllMay (here_code taken none of q found)
  unfolding needs_case calls_well
  here_may taken none of q h.Loop f e g = may_more _ _ (cased _ f refl) (may_one taken e)
  here_may taken none of q h.Event f e g = may_more _ _ (free _ refl refl) (may_one taken e)
  here_may taken none of q h.First f e g = may_more _ _ (free _ refl refl) (guarded_may taken none of (q + 1) f e g)

  item_may : (q : ℕ) (y : Present) → IsNumberPresent s y → AllMay (number_of_item q y)
  unfolding needs_case calls_well
  item_may q (p.Id item) f = may_one _ (cased _ f.0 refl)
  item_may q (p.Here field found) f = here_may _ _ field.owner q found f.0.0.0 (cased _ f.0.0.0 refl) undefined_may

  text_item_may : (q : ℕ) (y : Present) → IsTextPresent s y → AllMay (text_of_item q y)
  unfolding needs_case calls_well
  text_item_may q (p.Id item) f = may_one _ (cased _ f.0 refl)
  text_item_may q (p.Here field found) f = here_may _ _ field.owner q found f.0.0.0 (cased _ f.0.0.0 refl) (free _ refl refl)

  pops_may : (n : ℕ) → AllMay (pops n)
  unfolding needs_case calls_well
  pops_may zero = may_none
  pops_may (suc n) = may_more _ _ (free _ refl refl) (pops_may n)

  tail_may : (a b : Wide) (n : ℕ) → May a → May b → AllMay (a ∷ b ∷ (pops n ++ undefined ∷ []))
  tail_may a b n e f = may_more a _ e (may_more b _ f (may_two (pops n) (undefined ∷ []) (pops_may n) (may_one undefined undefined_may)))

  row_by : (b : Bool) (set fail : ℕ) → May (row (record { item = p.Id 0; set = set; has_leftover = b }) fail)
  unfolding needs_case calls_well
  row_by true set fail = free _ refl refl
  row_by false set fail = free _ refl refl

  picks_may : (drops q : ℕ) (ds : List ℕ) (xs : List Pick) → ArePicks s ds xs → AllMay (picks_code drops q xs)
  picks_may drops q ds [] f = may_none
  picks_may drops q [] (y ∷ ys) f = absurd f
  picks_may drops q (d ∷ ds) (y ∷ ys) f = may_two (number_of_item q y.item) _ (item_may q y.item f.0) (may_more (row y _) _ (row_by y.has_leftover y.set _) (picks_may drops (q + present_size y.item + 1) ds ys f.2))

  deck_may : (array q : ℕ) (xs : List Pick) → AllMay (deck_code array q xs)
  unfolding needs_case calls_well
  deck_may array q xs = if_may (can_fail xs) _ _ (tail_may (with_c ops.LoadCell array) (jump (q + deepest xs + 3)) (deepest xs) (free _ refl refl) (free _ refl refl)) (may_one _ (free (with_c ops.LoadCell array) refl refl))

  load_may : (y : Variable) → May (load s.setting y)
  unfolding needs_case calls_well
  load_may (v.Global g) = free _ refl refl
  load_may (v.Parameter n) = free _ refl refl
  load_may v.Result = free _ refl refl

  store_may : (y : Variable) → May (store s.setting y)
  unfolding needs_case calls_well
  store_may (v.Global g) = free _ refl refl
  store_may (v.Parameter n) = free _ refl refl
  store_may v.Result = free _ refl refl

  operator_may : (operator : Operator) → May (bare (operation_of operator))
  unfolding needs_case calls_well
  operator_may operators.Or = free _ refl refl
  operator_may operators.And = free _ refl refl
  operator_may operators.Add = free _ refl refl
  operator_may operators.Subtract = free _ refl refl
  operator_may operators.Multiply = free _ refl refl
  operator_may operators.Divide = free _ refl refl
  operator_may operators.Remainder = free _ refl refl

  call_may : (function : ℕ) (ys : Numbers) → IsFunction s function ys → May (with_c ops.Call function)
  unfolding needs_case
  call_may function ys f = free (with_c ops.Call function) refl f.4

  mutual
    unfolding number_size words_size indexes_size number_code words_code numbers_code indexes_code operations_code needs_case calls_well

    pub number_may : (q : ℕ) (y : Number) → NumberFits s y → AllMay (number_code s.setting q y)
    number_may q (Constant digits z) f = may_one _ (free _ refl refl)
    number_may q (Special' token z) f = may_one _ (free _ refl refl)
    number_may q (Variable' name variable) f = may_one _ (load_may variable)
    number_may q (Item name item) f = item_may q item f
    number_may q (ItemAt name field y) f = may_two _ _ (number_may q y f.1) (guarded_may _ _ field.owner _ f.0.0.0 (cased _ f.0.0.0 refl) undefined_may)
    number_may q (Cell name array ys) f = may_two _ _ (indexes_may array (q + indexes_size ys + 2) 0 q ys f.1) (tail_may (with_c ops.LoadCell array) (jump (q + indexes_size ys + (behind ys + 3))) (behind ys) (free _ refl refl) (free _ refl refl))
    number_may q (Call name function ys) f = may_two _ _ (numbers_may q ys f.1) (may_one _ (call_may function ys f.0))
    number_may q (Group y) f = number_may q y f
    number_may q (Int y) f = number_may q y f
    number_may q (IsSpecial y) f = may_two _ _ (number_may q y f) (may_one _ (free _ refl refl))
    number_may q (Deck name array picks) f = may_two _ _ (picks_may (q + picks_size picks + 2) q f.0.dimensions picks f.2) (deck_may array (q + picks_size picks) picks)
    number_may q (TotOcc name of) f = may_one _ (cased _ f.0 refl)
    number_may q (MaxOcc name of) f = may_one _ (free _ refl refl)
    number_may q (CurOcc name of found) f = here_may _ _ of q found f.0.0 (cased _ f.0.0 refl) undefined_may
    number_may q (InSet name item set_name set) f = may_two _ _ (item_may q item f.0) (may_one _ (free _ refl refl))
    number_may q (Minus y) f = may_two _ _ (number_may q y f) (may_one _ (free _ refl refl))
    number_may q (Not y) f = may_two _ _ (number_may q y f) (may_one _ (free _ refl refl))
    number_may q (Compare relation y z) f = may_two _ _ (number_may q y f.0) (may_two _ _ (number_may (q + number_size y) z f.1) (may_one _ (free _ refl refl)))
    number_may q (CompareTexts relation y z) f = may_two _ _ (words_may q y f.0) (may_two _ _ (words_may (q + words_size y) z f.1) (may_one _ (free _ refl refl)))
    number_may q (Chain y ys) f = may_two _ _ (number_may q y f.0) (operations_may (q + number_size y) ys f.1)

    pub words_may : (q : ℕ) (y : Words) → WordsFit s y → AllMay (words_code s.setting q y)
    words_may q (Quoted text) f = may_one _ (free _ refl refl)
    words_may q (TextGlobal name variable) f = may_one _ (free _ refl refl)
    words_may q (TextItem name item) f = text_item_may q item f
    words_may q (TextItemAt name field y) f = may_two _ _ (number_may q y f.1) (guarded_may _ _ field.owner _ f.0.0.0 (cased _ f.0.0.0 refl) (free _ refl refl))
    words_may q (TextGroup y) f = words_may q y f

    pub numbers_may : (q : ℕ) (ys : Numbers) → NumbersFit s ys → AllMay (numbers_code s.setting q ys)
    numbers_may q no_number f = may_none
    numbers_may q (number_and y ys) f = may_two _ _ (number_may q y f.0) (numbers_may (q + number_size y) ys f.1)

    pub indexes_may : (array drops j q : ℕ) (ys : Numbers) → NumbersFit s ys → AllMay (indexes_code s.setting array drops j q ys)
    indexes_may array drops j q no_number f = may_none
    indexes_may array drops j q (number_and y ys) f = may_two _ _ (number_may q y f.0) (may_more _ _ (free _ refl refl) (indexes_may array drops (j + 1) (q + number_size y + 1) ys f.1))

    pub operations_may : (q : ℕ) (ys : Operations) → OperationsFit s ys → AllMay (operations_code s.setting q ys)
    operations_may q no_operation f = may_none
    operations_may q (operation_and operator y ys) f = may_two _ _ (number_may q y f.0) (may_more _ _ (operator_may operator) (operations_may (q + number_size y + 1) ys f.1))

  -- ---- statements

  which_may : (of fail q : ℕ) (y : Which) → IsRecord s of → WhichFits s of y → AllMay (which_code s.setting of fail q y)
  unfolding needs_case calls_well
  which_may of fail q (Here h.Loop) r f = may_one _ (cased _ r.0 refl)
  which_may of fail q (Here h.Event) r f = may_one _ (free _ refl refl)
  which_may of fail q (Here h.First) r f = may_more _ _ (free _ refl refl) (may_one _ (cased _ r.0 refl))
  which_may of fail q (At y) r f = may_two _ _ (number_may q y f) (may_one _ (cased _ r.0 refl))

  jump_over_may : (q n : ℕ) → AllMay (jump_over q n)
  unfolding needs_case calls_well
  jump_over_may q n = if_may (n == 0) [] (jump q ∷ []) may_none (may_one _ (free _ refl refl))

  drops_may : (q n : ℕ) → AllMay (drops_code q n)
  drops_may q n = may_two _ _ (jump_over_may (q + drops_size n) n) (pops_may n)

  argument_may : (q : ℕ) (y : Argument) → ArgumentFits s y → AllMay (argument_code s.setting q y)
  argument_may q (OfNumber y) f = number_may q y f
  argument_may q (OfWords y) f = words_may q y f

  arguments_may : (q : ℕ) (ys : List Argument) → ArgumentsFit s ys → AllMay (arguments_code s.setting q ys)
  unfolding arguments_code
  arguments_may q [] f = may_none
  arguments_may q (y ∷ ys) f = may_two _ _ (argument_may q y f.0) (arguments_may (q + argument_size y) ys f.1)

  limit_may : (y : Limit) → LimitFits s y → May (limit_code s.setting.records y)
  unfolding needs_case calls_well
  limit_may (Fixed y) f = free _ refl refl
  limit_may (Counted counts.MaxOcc name of) f = free _ refl refl
  limit_may (Counted counts.TotOcc name of) f = cased _ f.0 refl

  value_may : (n : Num) → May (value n)
  unfolding needs_case calls_well
  value_may (num.Whole z) = free _ refl refl
  value_may num.NotAppl = free _ refl refl
  value_may num.Missing = free _ refl refl
  value_may num.Undef = free _ refl refl

  long_may : (y : Counting) (rest : List Wide) → CountingFits s y → AllMay rest → AllMay (limit_code s.setting.records y.stop ∷ limit_code s.setting.records y.start ∷ rest)
  long_may y rest f g = may_more _ _ (limit_may y.stop f.2) (may_more _ _ (limit_may y.start f.1) g)

  sums_may : (y : Counting) → AllMay (bare ops.Subtract ∷ w.Constant y.step ∷ bare ops.Add ∷ w.Constant y.step ∷ bare ops.Quotient ∷ [])
  unfolding needs_case calls_well
  sums_may y = may_more _ _ (free _ refl refl) (may_more _ _ (free _ refl refl) (may_more _ _ (free _ refl refl) (may_more _ _ (free _ refl refl) (may_one _ (free _ refl refl)))))

  turns_may : (y : Counting) (a b : Option ℤ) → CountingFits s y → AllMay (turns_code_by s.setting.records y a b)
  turns_may y (Some a) (Some b) f = may_one _ (value_may _)
  turns_may y (Some a) None f = long_may y _ f (sums_may y)
  turns_may y None b f = long_may y _ f (sums_may y)

  head_may : (y : Counting) → CountingFits s y → AllMay (head_code s.setting y)
  head_may y f = may_more _ _ (limit_may y.start f.1) (may_more _ _ (store_may y.variable) (turns_may y _ _ f))

  step_may : (y : Counting) → AllMay (step_code s.setting y)
  unfolding needs_case calls_well
  step_may y = may_more _ _ (load_may y.variable) (may_more _ _ (free _ refl refl) (may_more _ _ (free _ refl refl) (may_one _ (store_may y.variable))))

  pub exit_may : (o : Option ℕ) → AllMay (exit_code_by o)
  unfolding needs_case calls_well
  exit_may None = may_one _ (free _ refl refl)
  exit_may (Some r) = may_more _ _ (free _ refl refl) (may_one _ (free _ refl refl))

  jump_code_may : (l : Loop) (y : Jump) → AllMay (jump_code s.setting l y)
  unfolding needs_case calls_well
  jump_code_may l j.Break = may_one _ (free _ refl refl)
  jump_code_may l j.Next = may_one _ (free _ refl refl)
  jump_code_may l j.Exit = exit_may s.setting.result_at

  front_may : (end q m n k' : ℕ) (c b : List Wide) → AllMay c → AllMay b → AllMay (front_code end q m n k' c b)
  unfolding needs_case calls_well
  front_may end q m n k' c b e f = may_two c _ e (may_more _ _ (free _ refl refl) (may_two b _ f (jump_over_may end k')))

-- what may stand does so with one loop more around
may_over : (s : Spot) (of : ℕ) (l : List Wide) → AllMay (over s of) l → AllMay s l
may_over s of l e = record { by = e.by }

pub within_may : (room : ℕ) (Q : ℕ → Type 0) (R : Type 0) → Within room Q → ((m : ℕ) → Q m → R) → R
within_may zero Q R h f = absurd h
within_may (suc m) Q R h f = f m h

pub inside : (room : ℕ) (P : ℕ → Type 0) → Within room P → (n : ℕ) × P n
inside zero P h = absurd h
inside (suc room) P h = (room, h)

mutual
  unfolding statement_size block_size arms_size statement_code block_code arms_code needs_case calls_well

  pub statement_may : (y : Statement) (s : Spot) (room : ℕ) (inside : Bool) (l : Loop) (q : ℕ) → StatementFits s room inside y → AllMay s (statement_code s.setting l q y)
  statement_may Empty s room inside l q f = may_none s
  statement_may (Set name variable y) s room inside l q f = may_two s _ _ (number_may s q y f.1) (may_one s _ (store_may s variable))
  statement_may (SetText name variable y) s room inside l q f = may_two s _ _ (words_may s q y f.1) (may_one s _ (free s _ refl refl))
  statement_may (SetItem name field which y) s room inside l q f = may_two s _ _ (which_may s field.owner _ q which f.0.0 f.1) (may_two s _ _ (number_may s _ y f.2) (may_one s _ (cased s _ f.0.0.0 refl)))
  statement_may (SetTextItem name field which y) s room inside l q f = may_two s _ _ (which_may s field.owner _ q which f.0.0 f.1) (may_two s _ _ (words_may s _ y f.2) (may_one s _ (cased s _ f.0.0.0 refl)))
  statement_may (SetCell name array ys y) s room inside l q f = may_two s _ _ (indexes_may s array _ 0 q ys f.1) (may_two s _ _ (number_may s _ y f.2) (may_more s _ _ (free s _ refl refl) (drops_may s _ (behind ys))))
  statement_may (CallOf name function ys) s room inside l q f = may_two s _ _ (numbers_may s q ys f.1) (may_more s _ _ (call_may s function ys f.0) (may_one s _ (free s _ refl refl)))
  statement_may (If condition body others) s room inside l q f = may_two s _ _ (front_may s _ q _ _ _ _ _ (number_may s q condition f.0) (block_may body s room inside l _ f.1)) (arms_may others s room inside l _ _ f.2)
  statement_may (For name variable record_name of body) s room inside l q f =
      let n = block_size s.setting body in
      let lp = loop_to (q + 4 + n) (q + 4 + n) in
      let c = block_code s.setting lp (q + 4) body in
      let inner = within_may room (λ m. BlockFits (over s of) m true body) (AllMay s c) f.2 (λ m fits. may_over s of c (block_may body (over s of) m true lp (q + 4) fits)) in
      may_more s _ _ (cased s _ f.0.0 refl) (may_more s _ _ (cased s _ f.0.0 refl) (may_more s _ _ (cased s _ f.0.0 refl) (may_more s _ _ (store_may s variable) (may_two s _ _ inner (may_one s _ (free s _ refl refl))))))
  statement_may (Do counting body) s room inside l q f =
      let n = block_size s.setting body in
      let lp = loop_to (turn_end_at s.setting q counting n) (turn_end_at s.setting q counting n + 4) in
      let c = block_code s.setting lp (opener_at s.setting q counting + 1) body in
      let inner = within_may room (λ m. BlockFits s m true body) (AllMay s c) f.1 (λ m fits. block_may body s m true lp (opener_at s.setting q counting + 1) fits) in
      may_two s _ _ (head_may s counting f.0) (may_more s _ _ (free s _ refl refl) (may_two s _ _ inner (may_two s _ _ (step_may s counting) (may_one s _ (free s _ refl refl)))))
  statement_may (Jump' token y) s room inside l q f = jump_code_may s l y
  statement_may (Impute name field which y) s room inside l q f = may_two s _ _ (which_may s field.owner _ q which f.0.0 f.1) (may_two s _ _ (number_may s _ y f.2) (may_one s _ (cased s _ f.0.0.0 refl)))
  statement_may (PutDeck name array picks y) s room inside l q f = may_two s _ _ (picks_may s _ q f.0.0.dimensions picks f.0.2) (may_two s _ _ (number_may s _ y f.1) (may_more s _ _ (free s _ refl refl) (drops_may s _ (deepest picks))))
  statement_may (ErrMsg message index ys summary) s room inside l q f = may_two s _ _ (arguments_may s q ys f.1) (may_one s _ (free s _ refl refl))

  pub block_may : (ys : Statements) (s : Spot) (room : ℕ) (inside : Bool) (l : Loop) (q : ℕ) → BlockFits s room inside ys → AllMay s (block_code s.setting l q ys)
  block_may no_statement s room inside l q f = may_none s
  block_may (statement_and y ys) s room inside l q f = may_two s _ _ (statement_may y s room inside l q f.0) (block_may ys s room inside l (q + statement_size s.setting y) f.1)

  pub arms_may : (ys : Arms) (s : Spot) (room : ℕ) (inside : Bool) (l : Loop) (end q : ℕ) → ArmsFit s room inside ys → AllMay s (arms_code s.setting l end q ys)
  arms_may no_arm s room inside l end q f = may_none s
  arms_may (else_of body) s room inside l end q f = block_may body s room inside l q f
  arms_may (arm condition body others) s room inside l end q f = may_two s _ _ (front_may s end q _ _ _ _ _ (number_may s q condition f.0) (block_may body s room inside l _ f.1)) (arms_may others s room inside l end _ f.2)

entry_may : (s : Spot) (o : Option ℕ) → AllMay s (entry_code_by o)
unfolding needs_case calls_well
entry_may s None = may_none s
entry_may s (Some r) = may_more s _ _ (undefined_may s) (may_one s _ (free s _ refl refl))

pub routine_may : (s : Spot) (body : Statements) → BlockFits s 64 false body → AllMay s (routine_code s.setting body)
unfolding routine_code
routine_may s body f = may_two s _ _ (entry_may s s.setting.result_at) (may_two s _ _ (block_may body s 64 false no_loop (entry_size_by s.setting.result_at) f) (exit_may s s.setting.result_at))

-- ---- of the instructions that stand for the code

instr_may : (s : Spot) (i : Instr) (y : Wide) → Stands s.scene.lists i y → wide_stands s y ≡ true → may_stand s.scene.lists.routines s.number s.scene.routine.ambient i ≡ true
unfolding calls_well
instr_may s i (w.Constant z) f e = ap (λ o. not (is_run s.scene.routine.ambient && needs_case o) && calls_well s.scene.lists.routines s.number (is_run s.scene.routine.ambient) o i.c) f.0 ∙ e
instr_may s i (w.Chars text) f e = ap (λ o. not (is_run s.scene.routine.ambient && needs_case o) && calls_well s.scene.lists.routines s.number (is_run s.scene.routine.ambient) o i.c) f.0 ∙ e
instr_may s i (w.Turns limit end) f e = ap (λ o. not (is_run s.scene.routine.ambient && needs_case o) && calls_well s.scene.lists.routines s.number (is_run s.scene.routine.ambient) o i.c) f.0 ∙ e
instr_may s i (w.Plain op a b d) f e = ap (may_stand s.scene.lists.routines s.number s.scene.routine.ambient) f ∙ e

each_passes : (test : Wide → Bool) (ws l : List Wide) (p : ℕ) → HasAt ws p l → list_all test l ≡ true → (q : ℕ) (y : Wide) → p ≤ q → q < p + length l → slice_get ws q ≡ Some y → test y ≡ true
each_passes test ws [] p h e q y le lt at = absurd (omega arith)
each_passes test ws (x ∷ xs) p h e q y le lt at =
    let k = and_parts (test x) (list_all test xs) e in
    ⊎_elim
    (λ (z : p ≡ q). let same : x ≡ y = same_Some x y (sym h.0 ∙ subst (λ n. slice_get ws n ≡ Some y) (sym z) at) in subst (λ y. test y ≡ true) same k.0)
    (λ (z : p ≡ q → ⊥). each_passes test ws xs (p + 1) h.1 k.1 q y (omega arith) (omega arith) at)
    (cases_eq p q)

pub instructions_may_stand : InstructionsMayStand
instructions_may_stand s body code h q i lt at =
    let ws = routine_code s.setting body in
    let b = each_stands s.scene code ws h.stands q i lt at in
    let within = slice_get_within ws q b.0 b.1 in
    instr_may s i b.0 b.2 (each_passes (wide_stands s) ws ws 0 (has_self ws) (routine_may s body h.fits).by q b.0 (omega arith) (omega (arith, within)) b.1)
