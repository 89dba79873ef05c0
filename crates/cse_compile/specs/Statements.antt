-- The code of statements, from a place of their routine on. Statements begin and end with the empty stack.
use Rattle.std.specs.Prelude.{ℕ, ◌+◌, ℤ, pos, min, max, List, [], ◌∷◌, ◌++◌, Option, Some, None}
use Rattle.cse_value.specs.Occurrences.{most_occurrences}
use Rattle.cse_value.specs.declared.shape.RecordShape.{RecordShape}
use Rattle.cse_value.specs.declared.number.Num.{Num}
use Rattle.cse_value.specs.declared.number.Num.TheVariants.{Whole}
use Rattle.cse_value.specs.Number.{sum_of, difference_of, quotient_of}
use Rattle.cse_image_parts.specs.declared.instruction.Op.TheVariants as ops
use Rattle.cse_syntax_tree.specs.declared.tree.Count.TheVariants as counts
use Rattle.cse_syntax_tree.specs.declared.tree.Jump.{Jump}
use Rattle.cse_syntax_tree.specs.declared.tree.Jump.TheVariants as j
use Rattle.cse_logic_tree.specs.declared.tree.Variable.{Variable}
use Rattle.cse_logic_tree.specs.declared.tree.Found.TheVariants as h
use Rattle.cse_logic_tree.specs.Typed.{Number, Which, Here, At, Argument, OfNumber, OfWords, Limit, Fixed, Counted, Counting, Statement, Statements, Arms}
use Rattle.cse_logic_tree.specs.Typed.{Empty, Set, SetText, SetItem, SetTextItem, SetCell, CallOf, If, For, Do, Jump', Impute, PutDeck, ErrMsg, no_statement, statement_and, no_arm, else_of, arm}
use Rattle.cse_compile.specs.Wide as w
use Rattle.cse_compile.specs.Wide.{Wide, bare, with_a, with_b, with_c, jump, undefined, occurrence, value, pops, jump_size, jump_over}
use Rattle.cse_compile.specs.declared.setting.Loop.{Loop}
use Rattle.cse_compile.specs.Setting.{Setting}
use Rattle.cse_compile.specs.Expressions.{load, store, behind, number_size, number_code, words_size, words_code, numbers_size, numbers_code, indexes_size, indexes_code, picks_size, picks_code, deepest}

-- ---- places

abbrev pub which_size : Which → ℕ
which_size (Here h.Loop) = 1
which_size (Here h.Event) = 1
which_size (Here h.First) = 2
which_size (At x) = number_size x + 1

-- an occurrence of the record; where it isn't there, to the place
abbrev pub which_code : Setting → ℕ → ℕ → ℕ → Which → List Wide
which_code s of fail q (Here h.Loop) = with_a ops.CurrentOccurrence of ∷ []
which_code s of fail q (Here h.Event) = with_c ops.LoadLocal 0 ∷ []
which_code s of fail q (Here h.First) = w.Constant (pos 1) ∷ occurrence of fail ∷ []
which_code s of fail q (At x) = number_code s q x ++ occurrence of fail ∷ []

-- the end of a statement that puts a value where so many indexes lead: those that a later one leaves behind are dropped
abbrev pub drops_size : ℕ → ℕ
drops_size n = jump_size n + n

abbrev pub drops_code : ℕ → ℕ → List Wide
drops_code q n = jump_over (q + drops_size n) n ++ pops n

-- ---- messages

abbrev pub argument_size : Argument → ℕ
argument_size (OfNumber x) = number_size x
argument_size (OfWords x) = words_size x

abbrev pub argument_code : Setting → ℕ → Argument → List Wide
argument_code s q (OfNumber x) = number_code s q x
argument_code s q (OfWords x) = words_code s q x

unfoldable pub arguments_size : List Argument → ℕ
arguments_size [] = 0
arguments_size (x ∷ xs) = argument_size x + arguments_size xs

unfoldable pub arguments_code : Setting → ℕ → List Argument → List Wide
arguments_code s q [] = []
arguments_code s q (x ∷ xs) = argument_code s q x ++ arguments_code s (q + argument_size x) xs

-- ---- the head of a `do`

-- a limit that is known before the run
abbrev pub known : List RecordShape → Limit → Option ℤ
known records (Fixed x) = Some x.value
known records (Counted counts.MaxOcc name of) = Some (pos (most_occurrences records of))
known records (Counted counts.TotOcc name of) = None

abbrev pub limit_code : List RecordShape → Limit → Wide
limit_code records (Fixed x) = w.Constant x.value
limit_code records (Counted counts.MaxOcc name of) = w.Constant (pos (most_occurrences records of))
limit_code records (Counted counts.TotOcc name of) = with_a ops.TotalOccurrences of

-- the least and the greatest that a limit may be
abbrev pub least : List RecordShape → Limit → ℤ
least records (Fixed x) = x.value
least records (Counted counts.MaxOcc name of) = pos (most_occurrences records of)
least records (Counted counts.TotOcc name of) = pos 0

abbrev pub greatest : List RecordShape → Limit → ℤ
greatest records (Fixed x) = x.value
greatest records (Counted count name of) = pos (most_occurrences records of)

-- how many turns from a to b by k: (b - a + k) / k
abbrev pub turns : ℤ → ℤ → ℤ → Num
turns a b k = quotient_of (sum_of (difference_of (Whole b) (Whole a)) (Whole k)) (Whole k)

-- as a loop's limit: from 1, in 32 bits
abbrev pub as_limit : Num → ℕ
as_limit (Whole (pos n)) = max 1 (min n 4294967295)
as_limit _ = 1

-- the most turns that the limits of a `do` allow
abbrev pub turn_limit : List RecordShape → Counting → ℕ
turn_limit records x = as_limit (turns (least records x.start) (greatest records x.stop) x.step)

abbrev pub turns_size_by : Option ℤ → Option ℤ → ℕ
turns_size_by (Some a) (Some b) = 1
turns_size_by _ _ = 7

abbrev pub turns_size : List RecordShape → Counting → ℕ
turns_size records x = turns_size_by (known records x.start) (known records x.stop)

abbrev pub turns_code_by : List RecordShape → Counting → Option ℤ → Option ℤ → List Wide
turns_code_by records x (Some a) (Some b) = value (turns a b x.step) ∷ []
turns_code_by records x _ _ =
    limit_code records x.stop
    ∷ limit_code records x.start
    ∷ bare ops.Subtract
    ∷ w.Constant x.step
    ∷ bare ops.Add
    ∷ w.Constant x.step
    ∷ bare ops.Quotient
    ∷ []

-- how many turns the loop takes
abbrev pub turns_code : List RecordShape → Counting → List Wide
turns_code records x = turns_code_by records x (known records x.start) (known records x.stop)

-- the variable is set to its start, and the number of turns is laid down
abbrev pub head_size : List RecordShape → Counting → ℕ
head_size records x = turns_size records x + 2

abbrev pub head_code : Setting → Counting → List Wide
head_code s x = limit_code s.records x.start ∷ store s x.variable ∷ turns_code s.records x

-- the variable is counted on
abbrev pub step_code : Setting → Counting → List Wide
step_code s x = load s x.variable ∷ w.Constant x.step ∷ bare ops.Add ∷ store s x.variable ∷ []

-- ---- leaving

abbrev pub exit_size_by : Option ℕ → ℕ
exit_size_by None = 1
exit_size_by (Some result) = 2

abbrev pub exit_size : Setting → ℕ
exit_size s = exit_size_by s.result_at

abbrev pub exit_code_by : Option ℕ → List Wide
exit_code_by None = bare ops.Return ∷ []
exit_code_by (Some result) = with_c ops.LoadLocal result ∷ bare ops.Return ∷ []

-- a function gives its result
abbrev pub exit_code : Setting → List Wide
exit_code s = exit_code_by s.result_at

abbrev pub jump_code_size : Setting → Jump → ℕ
jump_code_size s j.Break = 1
jump_code_size s j.Next = 1
jump_code_size s j.Exit = exit_size s

abbrev pub jump_code : Setting → Loop → Jump → List Wide
jump_code s l j.Break = with_c ops.Break l.end ∷ []
jump_code s l j.Next = jump l.turn_end ∷ []
jump_code s l j.Exit = exit_code s

-- ---- how many instructions

-- a condition, the statements that it guards, and the jump over what stands behind them
abbrev pub front_size : ℕ → ℕ → ℕ → ℕ
front_size condition body others = condition + 1 + body + jump_size others

-- with what stands behind them
abbrev pub guard_size : ℕ → ℕ → ℕ → ℕ
guard_size condition body others = front_size condition body others + others

unfoldable mutual
  pub statement_size : Setting → Statement → ℕ
  statement_size s Empty = 0
  statement_size s (Set name variable x) = number_size x + 1
  statement_size s (SetText name variable x) = words_size x + 1
  statement_size s (SetItem name field which x) = which_size which + (number_size x + 1)
  statement_size s (SetTextItem name field which x) = which_size which + (words_size x + 1)
  statement_size s (SetCell name array xs x) = indexes_size xs + (number_size x + (drops_size (behind xs) + 1))
  statement_size s (CallOf name function xs) = numbers_size xs + 2
  statement_size s (If condition body others) = guard_size (number_size condition) (block_size s body) (arms_size s others)
  statement_size s (For name variable record_name of body) = block_size s body + 5
  statement_size s (Do counting body) = head_size s.records counting + (block_size s body + 6)
  statement_size s (Jump' token x) = jump_code_size s x
  statement_size s (Impute name field which x) = which_size which + (number_size x + 1)
  statement_size s (PutDeck name array picks x) = picks_size picks + (number_size x + (drops_size (deepest picks) + 1))
  statement_size s (ErrMsg message index xs summary) = arguments_size xs + 1

  pub block_size : Setting → Statements → ℕ
  block_size s no_statement = 0
  block_size s (statement_and x xs) = statement_size s x + block_size s xs

  pub arms_size : Setting → Arms → ℕ
  arms_size s no_arm = 0
  arms_size s (else_of body) = block_size s body
  arms_size s (arm condition body others) = guard_size (number_size condition) (block_size s body) (arms_size s others)

-- arms, with so many instructions behind them
abbrev pub all_arms_size : Setting → List (Number × Statements) → ℕ → ℕ
all_arms_size s [] last = last
all_arms_size s (x ∷ xs) last = guard_size (number_size x.0) (block_size s x.1) (all_arms_size s xs last)

-- ---- the code

-- A condition at q and the statements that it guards, which jump to the end of the `if` over what stands behind them, if it is anything;
-- with the sizes of these.
abbrev pub front_code : ℕ → ℕ → ℕ → ℕ → ℕ → List Wide → List Wide → List Wide
front_code end q condition body others condition_code body_code =
    condition_code
    ++ (with_c ops.JumpUnless (q + front_size condition body others)
    ∷ (body_code ++ jump_over end others))

abbrev pub guard_code : ℕ → ℕ → ℕ → ℕ → ℕ → List Wide → List Wide → List Wide → List Wide
guard_code end q condition body others condition_code body_code others_code =
    front_code end q condition body others condition_code body_code ++ others_code

abbrev pub loop_to : ℕ → ℕ → Loop
loop_to turn_end end = record { turn_end = turn_end; end = end }

-- over the occurrences of a record, with the size of the body; a turn ends at the END
abbrev pub over_code : Setting → ℕ → Variable → ℕ → ℕ → List Wide → List Wide
over_code s q variable of body body_code =
    w.Plain ops.LoopOccurrences of 0 (q + 4 + body)
    ∷ with_a ops.CurrentOccurrence of
    ∷ with_a ops.OccurrenceNumber of
    ∷ store s variable
    ∷ (body_code ++ with_c ops.End q ∷ [])

-- where the opener of a `do` stands, and where its turn ends
abbrev pub opener_at : Setting → ℕ → Counting → ℕ
opener_at s q counting = q + head_size s.records counting

abbrev pub turn_end_at : Setting → ℕ → Counting → ℕ → ℕ
turn_end_at s q counting body = opener_at s q counting + 1 + body

-- so many turns as the head says
abbrev pub counted_code : Setting → ℕ → Counting → ℕ → List Wide → List Wide
counted_code s q counting body body_code =
    head_code s counting
    ++ (w.Turns (turn_limit s.records counting) (turn_end_at s q counting body + 4)
    ∷ (body_code ++ (step_code s counting ++ with_c ops.End (opener_at s q counting) ∷ [])))

unfoldable mutual
  pub statement_code : Setting → Loop → ℕ → Statement → List Wide
  statement_code s l q Empty = []
  statement_code s l q (Set name variable x) = number_code s q x ++ store s variable ∷ []
  statement_code s l q (SetText name variable x) = words_code s q x ++ with_c ops.StoreGlobal variable ∷ []
  statement_code s l q (SetItem name field which x) =
      which_code s field.owner (q + (which_size which + (number_size x + 1))) q which
      ++ (number_code s (q + which_size which) x ++ with_c ops.StoreNumber field.item ∷ [])
  statement_code s l q (SetTextItem name field which x) =
      which_code s field.owner (q + (which_size which + (words_size x + 1))) q which
      ++ (words_code s (q + which_size which) x ++ with_c ops.StoreText field.item ∷ [])
  statement_code s l q (SetCell name array xs x) =
      indexes_code s array (q + indexes_size xs + number_size x + 1 + jump_size (behind xs)) 0 q xs
      ++ (number_code s (q + indexes_size xs) x
      ++ (with_c ops.StoreCell array ∷ drops_code (q + indexes_size xs + number_size x + 1) (behind xs)))
  statement_code s l q (CallOf name function xs) = numbers_code s q xs ++ (with_c ops.Call function ∷ with_a ops.Pop 0 ∷ [])
  statement_code s l q (If condition body others) =
      guard_code
      (q + guard_size (number_size condition) (block_size s body) (arms_size s others))
      q
      (number_size condition)
      (block_size s body)
      (arms_size s others)
      (number_code s q condition)
      (block_code s l (q + number_size condition + 1) body)
      (arms_code s l (q + guard_size (number_size condition) (block_size s body) (arms_size s others)) (q + front_size (number_size condition) (block_size s body) (arms_size s others)) others)
  statement_code s l q (For name variable record_name of body) =
      over_code s q variable of (block_size s body) (block_code s (loop_to (q + 4 + block_size s body) (q + 4 + block_size s body)) (q + 4) body)
  statement_code s l q (Do counting body) =
      counted_code
      s
      q
      counting
      (block_size s body)
      (block_code s (loop_to (turn_end_at s q counting (block_size s body)) (turn_end_at s q counting (block_size s body) + 4)) (opener_at s q counting + 1) body)
  statement_code s l q (Jump' token x) = jump_code s l x
  statement_code s l q (Impute name field which x) =
      which_code s field.owner (q + (which_size which + (number_size x + 1))) q which
      ++ (number_code s (q + which_size which) x ++ with_c ops.Impute field.item ∷ [])
  statement_code s l q (PutDeck name array picks x) =
      picks_code (q + picks_size picks + number_size x + 1 + jump_size (deepest picks)) q picks
      ++ (number_code s (q + picks_size picks) x
      ++ (with_c ops.StoreCell array ∷ drops_code (q + picks_size picks + number_size x + 1) (deepest picks)))
  statement_code s l q (ErrMsg message index xs summary) = arguments_code s q xs ++ with_c ops.Message index ∷ []

  pub block_code : Setting → Loop → ℕ → Statements → List Wide
  block_code s l q no_statement = []
  block_code s l q (statement_and x xs) = statement_code s l q x ++ block_code s l (q + statement_size s x) xs

  -- the end of the `if`, and the place of the next arm
  pub arms_code : Setting → Loop → ℕ → ℕ → Arms → List Wide
  arms_code s l end q no_arm = []
  arms_code s l end q (else_of body) = block_code s l q body
  arms_code s l end q (arm condition body others) =
      guard_code
      end
      q
      (number_size condition)
      (block_size s body)
      (arms_size s others)
      (number_code s q condition)
      (block_code s l (q + number_size condition + 1) body)
      (arms_code s l end (q + front_size (number_size condition) (block_size s body) (arms_size s others)) others)

-- ---- arms without what stands behind them

abbrev pub arm_size : Setting → Number × Statements → ℕ → ℕ
arm_size s x others = front_size (number_size x.0) (block_size s x.1) others

abbrev pub arm_code : Setting → Loop → ℕ → ℕ → Number × Statements → ℕ → List Wide
arm_code s l end q x others = front_code end q (number_size x.0) (block_size s x.1) others (number_code s q x.0) (block_code s l (q + number_size x.0 + 1) x.1)

-- one after the other, with so many instructions behind them
abbrev pub arms_alone_size : Setting → List (Number × Statements) → ℕ → ℕ
arms_alone_size s [] last = 0
arms_alone_size s (x ∷ xs) last = arm_size s x (all_arms_size s xs last) + arms_alone_size s xs last

abbrev pub arms_alone_code : Setting → Loop → ℕ → ℕ → List (Number × Statements) → ℕ → List Wide
arms_alone_code s l end q [] last = []
arms_alone_code s l end q (x ∷ xs) last =
    arm_code s l end q x (all_arms_size s xs last)
    ++ arms_alone_code s l end (q + arm_size s x (all_arms_size s xs last)) xs last
