-- A code names at most as many entries of a table as its tree has tokens.
use Rattle.std.proofs.Common.{◌≡◌, ◌≤◌, ℕ, zero, suc, ◌+◌, ℤ, Bool, true, false, List, [], ◌∷◌, ◌++◌, length, Option, Some, None, refl, arith}
use Rattle.std.specs.Prelude.{if◌then◌else◌, ◌==◌}
use Rattle.cse_value.specs.declared.shape.RecordShape.{RecordShape}
use Rattle.cse_image_parts.specs.declared.instruction.Op.TheVariants as ops
use Rattle.cse_syntax_tree.specs.declared.tree.Jump.{Jump}
use Rattle.cse_syntax_tree.specs.declared.tree.Jump.TheVariants as j
use Rattle.cse_logic_tree.specs.declared.tree.Variable.{Variable}
use Rattle.cse_logic_tree.specs.declared.tree.Variable.TheVariants as v
use Rattle.cse_logic_tree.specs.declared.tree.Found.{Found}
use Rattle.cse_logic_tree.specs.declared.tree.Found.TheVariants as h
use Rattle.cse_logic_tree.specs.declared.tree.Present.{Present}
use Rattle.cse_logic_tree.specs.declared.tree.Present.TheVariants as p
use Rattle.cse_logic_tree.specs.declared.tree.Pick.{Pick}
use Rattle.cse_logic_tree.specs.Typed.{Number, Words, Numbers, Operations, Constant, Special', Variable', Item, ItemAt, Cell, Call, Group, Int, IsSpecial, Deck, TotOcc, MaxOcc, CurOcc, InSet, Minus, Not, Compare, CompareTexts, Chain}
use Rattle.cse_logic_tree.specs.Typed.{Quoted, TextGlobal, TextItem, TextItemAt, TextGroup, no_number, number_and, no_operation, operation_and}
use Rattle.cse_logic_tree.specs.Typed.{Which, Here, At, Argument, OfNumber, OfWords, Counting, Statement, Statements, Arms}
use Rattle.cse_logic_tree.specs.Typed.{Empty, Set, SetText, SetItem, SetTextItem, SetCell, CallOf, If, For, Do, Jump', Impute, PutDeck, ErrMsg, no_statement, statement_and, no_arm, else_of, arm}
use Rattle.cse_logic_tree.specs.Erase.{erase, erase_words, erase_all, erase_operations, erase_which, erase_argument, erase_arguments, erase_statement, erase_block, erase_arms}
use Rattle.cse_logic_tree.specs.Tokens.{expr_tokens, exprs_tokens, others_tokens, operations_tokens, subscripts_tokens, stmt_tokens, stmts_tokens, arms_tokens}
use Rattle.cse_compile.specs.Wide as w
use Rattle.cse_compile.specs.Wide.{Wide, bare, with_a, with_b, with_c, jump, undefined, occurrence, value, pops, jump_size, jump_over}
use Rattle.cse_compile.specs.declared.setting.Loop.{Loop}
use Rattle.cse_compile.specs.Setting.{Setting, size_at}
use Rattle.cse_compile.specs.Expressions.{relation_number, operation_of, load, store, here_code, present_size, number_of_item, text_of_item, guarded, can_fail, deepest, row, picks_size, picks_code, deck_code, count, behind, number_size, words_size, indexes_size, number_code, words_code, numbers_code, indexes_code, operations_code}
use Rattle.cse_compile.specs.Statements.{known, limit_code, turns, which_size, which_code, drops_size, drops_code, argument_size, argument_code, arguments_code, turns_code_by, turn_limit, head_code, step_code, exit_code_by, exit_code, jump_code, guard_size, front_size, front_code, guard_code, over_code, counted_code, loop_to, opener_at, turn_end_at, statement_size, block_size, arms_size, statement_code, block_code, arms_code}
use Rattle.cse_compile.specs.Routines.{no_loop, entry_size_by, entry_code_by, routine_code}
use Rattle.cse_meaning.specs.Few.{NumberIsFew, WordsAreFew, NumbersAreFew, OperationsAreFew, WhichIsFew, ArgumentIsFew, ArgumentsAreFew, StatementIsFew, BlockIsFew, ArmsAreFew}
use Rattle.cse_meaning.specs.Entries.{Table, Constants, Limits, Texts, a_constant, a_text, named, entries}
use Rattle.cse_meaning.specs.Measure.{tokens}

-- ---- lists of instructions

pub both : (k : Table) (a b : List Wide) → entries k (a ++ b) ≡ entries k a + entries k b
both k [] b = omega arith
both k (i ∷ is) b = let ih = both k is b in omega (arith, ih)

-- an instruction names one entry, of one table
one_entry : (k : Table) → a_constant k + a_text k ≤ 1
one_entry Constants = omega arith
one_entry Limits = omega arith
one_entry Texts = omega arith

at_most_one : (k : Table) (i : Wide) → named k i ≤ 1
at_most_one Constants (w.Constant z) = omega arith
at_most_one Limits (w.Constant z) = omega arith
at_most_one Texts (w.Constant z) = omega arith
at_most_one Constants (w.Chars t) = omega arith
at_most_one Limits (w.Chars t) = omega arith
at_most_one Texts (w.Chars t) = omega arith
at_most_one Constants (w.Turns limit end) = omega arith
at_most_one Limits (w.Turns limit end) = omega arith
at_most_one Texts (w.Turns limit end) = omega arith
at_most_one k (w.Plain op a b c) = omega arith

pops_none : (k : Table) (n : ℕ) → entries k (pops n) ≡ 0
pops_none k zero = refl
pops_none k (suc n) = let ih = pops_none k n in omega (arith, ih)

either_none : (k : Table) (b : Bool) (x y : List Wide) → entries k x ≡ 0 → entries k y ≡ 0 → entries k (if b then x else y) ≡ 0
either_none k true x y e f = e
either_none k false x y e f = f

jump_none : (k : Table) (end n : ℕ) → entries k (jump_over end n) ≡ 0
jump_none k end n = either_none k (n == 0) [] (jump end ∷ []) refl refl

-- pops, and an instruction behind them
pops_and : (k : Table) (n : ℕ) (i : Wide) → entries k (pops n ++ i ∷ []) ≡ named k i
pops_and k n i = omega (arith, both k (pops n) (i ∷ []), pops_none k n)

drops_none : (k : Table) (q n : ℕ) → entries k (drops_code q n) ≡ 0
drops_none k q n = omega (arith, both k (jump_over (q + drops_size n) n) (pops n), jump_none k (q + drops_size n) n, pops_none k n)

load_none : (k : Table) (s : Setting) (x : Variable) → named k (load s x) ≡ 0
load_none k s (v.Global g) = refl
load_none k s (v.Parameter n) = refl
load_none k s v.Result = refl

store_none : (k : Table) (s : Setting) (x : Variable) → named k (store s x) ≡ 0
store_none k s (v.Global g) = refl
store_none k s (v.Parameter n) = refl
store_none k s v.Result = refl

-- ---- items and hot decks

here_entries : (k : Table) (taken none : Wide) (of q : ℕ) (x : Found) → named k taken ≡ 0 → a_constant k + named k none ≤ 1 → entries k (here_code taken none of q x) ≤ 1
here_entries k taken none of q h.Loop e f = omega (arith, e)
here_entries k taken none of q h.Event e f = omega (arith, e)
here_entries k taken none of q h.First e f = omega (arith, e, f)

item_entries : (k : Table) (q : ℕ) (x : Present) → entries k (number_of_item q x) ≤ 1
item_entries k q (p.Id item) = omega arith
item_entries k q (p.Here field found) = here_entries k (with_c ops.ItemNumber field.item) undefined field.owner q found refl (omega (arith, one_entry k))

text_entries : (k : Table) (q : ℕ) (x : Present) → entries k (text_of_item q x) ≤ 1
text_entries k q (p.Id item) = omega arith
text_entries k q (p.Here field found) = here_entries k (with_c ops.ItemText field.item) (w.Chars []) field.owner q found refl (one_entry k)

row_none : (k : Table) (x : Pick) (fail : ℕ) → named k (row x fail) ≡ 0
row_none k x fail = by x.has_leftover
  where
    by : (b : Bool) → named k (if b then w.Plain ops.Row 1 x.set 0 else w.Plain ops.Row 0 x.set fail) ≡ 0
    by true = refl
    by false = refl

picks_entries : (k : Table) (drops q : ℕ) (xs : List Pick) → entries k (picks_code drops q xs) ≤ length xs
picks_entries k drops q [] = omega arith
picks_entries k drops q (x ∷ xs) =
    omega (
      arith,
      both k (number_of_item q x.item) (row x (drops + deepest (x ∷ xs)) ∷ picks_code drops (q + present_size x.item + 1) xs),
      item_entries k q x.item,
      row_none k x (drops + deepest (x ∷ xs)),
      picks_entries k drops (q + present_size x.item + 1) xs,
    )

deck_none : (k : Table) (array q : ℕ) (xs : List Pick) → entries k (deck_code array q xs) ≡ 0
deck_none k array q xs =
    let tail = pops_and k (deepest xs) undefined in
    let all : entries k (with_c ops.LoadCell array ∷ jump (q + deepest xs + 3) ∷ (pops (deepest xs) ++ undefined ∷ [])) ≡ 0 = omega (arith, tail) in
    either_none k (can_fail xs) (with_c ops.LoadCell array ∷ jump (q + deepest xs + 3) ∷ (pops (deepest xs) ++ undefined ∷ [])) (with_c ops.LoadCell array ∷ []) all refl

-- ---- expressions

mutual
  unfolding number_code words_code numbers_code indexes_code operations_code

  pub number_entries : (k : Table) (s : Setting) (q : ℕ) (x : Number) → NumberIsFew x → entries k (number_code s q x) ≤ expr_tokens (erase x)
  number_entries k s q (Constant digits z) f = omega (arith, one_entry k)
  number_entries k s q (Special' token special) f = omega arith
  number_entries k s q (Variable' name variable) f = omega (arith, load_none k s variable)
  number_entries k s q (Item name item) f = item_entries k q item
  number_entries k s q (ItemAt name field x) f =
      omega (arith, both k (number_code s q x) (guarded (with_c ops.ItemNumber field.item) undefined field.owner (q + number_size x)), number_entries k s q x f)
  number_entries k s q (Cell name array xs) f =
      let tail = with_c ops.LoadCell array ∷ jump (q + indexes_size xs + (behind xs + 3)) ∷ (pops (behind xs) ++ undefined ∷ []) in
      omega (
        arith,
        both k (indexes_code s array (q + indexes_size xs + 2) 0 q xs) tail,
        indexes_entries k s array (q + indexes_size xs + 2) 0 q xs f,
        pops_and k (behind xs) undefined,
      )
  number_entries k s q (Call name function xs) f = omega (arith, both k (numbers_code s q xs) (with_c ops.Call function ∷ []), numbers_entries k s q xs f)
  number_entries k s q (Group x) f = omega (arith, number_entries k s q x f)
  number_entries k s q (Int x) f = omega (arith, number_entries k s q x f)
  number_entries k s q (IsSpecial x) f = omega (arith, both k (number_code s q x) (bare ops.IsSpecial ∷ []), number_entries k s q x f)
  number_entries k s q (Deck name array picks) f =
      omega (
        arith,
        f,
        both k (picks_code (q + picks_size picks + 2) q picks) (deck_code array (q + picks_size picks) picks),
        picks_entries k (q + picks_size picks + 2) q picks,
        deck_none k array (q + picks_size picks) picks,
      )
  number_entries k s q (TotOcc name of) f = omega arith
  number_entries k s q (MaxOcc name of) f = omega (arith, one_entry k)
  number_entries k s q (CurOcc name of found) f =
      let e = here_entries k (with_a ops.OccurrenceNumber of) undefined of q found refl (omega (arith, one_entry k)) in
      omega (arith, e)
  number_entries k s q (InSet name item set_name set) f = omega (arith, both k (number_of_item q item) (with_b ops.InSet set ∷ []), item_entries k q item)
  number_entries k s q (Minus x) f = omega (arith, both k (number_code s q x) (bare ops.Negate ∷ []), number_entries k s q x f)
  number_entries k s q (Not x) f = omega (arith, both k (number_code s q x) (bare ops.Not ∷ []), number_entries k s q x f)
  number_entries k s q (Compare relation x y) f =
      let last = with_a ops.Compare (relation_number relation) ∷ [] in
      omega (
        arith,
        both k (number_code s q x) (number_code s (q + number_size x) y ++ last),
        both k (number_code s (q + number_size x) y) last,
        number_entries k s q x f.0,
        number_entries k s (q + number_size x) y f.1,
      )
  number_entries k s q (CompareTexts relation x y) f =
      let last = with_a ops.CompareText (relation_number relation) ∷ [] in
      omega (
        arith,
        both k (words_code s q x) (words_code s (q + words_size x) y ++ last),
        both k (words_code s (q + words_size x) y) last,
        words_entries k s q x f.0,
        words_entries k s (q + words_size x) y f.1,
      )
  number_entries k s q (Chain x xs) f =
      omega (arith, both k (number_code s q x) (operations_code s (q + number_size x) xs), number_entries k s q x f.0, operations_entries k s (q + number_size x) xs f.1)

  pub words_entries : (k : Table) (s : Setting) (q : ℕ) (x : Words) → WordsAreFew x → entries k (words_code s q x) ≤ expr_tokens (erase_words x)
  words_entries k s q (Quoted text) f = omega (arith, one_entry k)
  words_entries k s q (TextGlobal name variable) f = omega arith
  words_entries k s q (TextItem name item) f = text_entries k q item
  words_entries k s q (TextItemAt name field x) f =
      omega (arith, both k (number_code s q x) (guarded (with_c ops.ItemText field.item) (w.Chars []) field.owner (q + number_size x)), number_entries k s q x f, one_entry k)
  words_entries k s q (TextGroup x) f = omega (arith, words_entries k s q x f)

  numbers_entries : (k : Table) (s : Setting) (q : ℕ) (xs : Numbers) → NumbersAreFew xs → entries k (numbers_code s q xs) ≤ exprs_tokens (erase_all xs)
  numbers_entries k s q no_number f = omega arith
  numbers_entries k s q (number_and x xs) f =
      omega (arith, both k (number_code s q x) (numbers_code s (q + number_size x) xs), number_entries k s q x f.0, other_numbers_entries k s (q + number_size x) xs f.1)

  other_numbers_entries : (k : Table) (s : Setting) (q : ℕ) (xs : Numbers) → NumbersAreFew xs → entries k (numbers_code s q xs) ≤ others_tokens (erase_all xs)
  other_numbers_entries k s q no_number f = omega arith
  other_numbers_entries k s q (number_and x xs) f =
      omega (arith, both k (number_code s q x) (numbers_code s (q + number_size x) xs), number_entries k s q x f.0, other_numbers_entries k s (q + number_size x) xs f.1)

  indexes_entries : (k : Table) (s : Setting) (array drops d q : ℕ) (xs : Numbers) → NumbersAreFew xs → entries k (indexes_code s array drops d q xs) ≤ exprs_tokens (erase_all xs)
  indexes_entries k s array drops d q no_number f = omega arith
  indexes_entries k s array drops d q (number_and x xs) f =
      omega (
        arith,
        both k (number_code s q x) (w.Plain ops.Index 0 (size_at s array d) (drops + count xs) ∷ indexes_code s array drops (d + 1) (q + number_size x + 1) xs),
        number_entries k s q x f.0,
        other_indexes_entries k s array drops (d + 1) (q + number_size x + 1) xs f.1,
      )

  other_indexes_entries : (k : Table) (s : Setting) (array drops d q : ℕ) (xs : Numbers) → NumbersAreFew xs → entries k (indexes_code s array drops d q xs) ≤ others_tokens (erase_all xs)
  other_indexes_entries k s array drops d q no_number f = omega arith
  other_indexes_entries k s array drops d q (number_and x xs) f =
      omega (
        arith,
        both k (number_code s q x) (w.Plain ops.Index 0 (size_at s array d) (drops + count xs) ∷ indexes_code s array drops (d + 1) (q + number_size x + 1) xs),
        number_entries k s q x f.0,
        other_indexes_entries k s array drops (d + 1) (q + number_size x + 1) xs f.1,
      )

  operations_entries : (k : Table) (s : Setting) (q : ℕ) (xs : Operations) → OperationsAreFew xs → entries k (operations_code s q xs) ≤ operations_tokens (erase_operations xs)
  operations_entries k s q no_operation f = omega arith
  operations_entries k s q (operation_and operator x xs) f =
      omega (
        arith,
        both k (number_code s q x) (bare (operation_of operator) ∷ operations_code s (q + number_size x + 1) xs),
        number_entries k s q x f.0,
        operations_entries k s (q + number_size x + 1) xs f.1,
      )

-- ---- shapes of statements

and_one : (k : Table) (a : List Wide) (i : Wide) → entries k (a ++ i ∷ []) ≡ entries k a + named k i
and_one k a i = omega (arith, both k a (i ∷ []))

and_two : (k : Table) (a b : List Wide) (i : Wide) → entries k (a ++ (b ++ i ∷ [])) ≡ entries k a + entries k b + named k i
and_two k a b i = omega (arith, both k a (b ++ i ∷ []), and_one k b i)

-- a value that is stored where indexes lead
and_drops : (k : Table) (a b : List Wide) (i : Wide) (q n : ℕ) → entries k (a ++ (b ++ (i ∷ drops_code q n))) ≡ entries k a + entries k b + named k i
and_drops k a b i q n = omega (arith, both k a (b ++ (i ∷ drops_code q n)), both k b (i ∷ drops_code q n), drops_none k q n)

guard_entries : (k : Table) (end q m n o : ℕ) (c b r : List Wide) → entries k (guard_code end q m n o c b r) ≡ entries k c + entries k b + entries k r
guard_entries k end q m n o c b r =
    omega (
      arith,
      both k (front_code end q m n o c b) r,
      both k c (with_c ops.JumpUnless (q + front_size m n o) ∷ (b ++ jump_over end o)),
      both k b (jump_over end o),
      jump_none k end o,
    )

subscripts_entries : (k : Table) (s : Setting) (array drops d q : ℕ) (xs : Numbers) → NumbersAreFew xs → entries k (indexes_code s array drops d q xs) ≤ subscripts_tokens (erase_all xs)
subscripts_entries k s array drops d q no_number f = let e = indexes_entries k s array drops d q no_number f in omega (arith, e)
subscripts_entries k s array drops d q (number_and x xs) f = let e = indexes_entries k s array drops d q (number_and x xs) f in omega (arith, e)

which_entries : (k : Table) (s : Setting) (of fail q : ℕ) (x : Which) → WhichIsFew x → entries k (which_code s of fail q x) ≤ subscripts_tokens (erase_which x) + 1
which_entries k s of fail q (Here h.Loop) f = omega arith
which_entries k s of fail q (Here h.Event) f = omega arith
which_entries k s of fail q (Here h.First) f = omega (arith, one_entry k)
which_entries k s of fail q (At x) f = omega (arith, and_one k (number_code s q x) (occurrence of fail), number_entries k s q x f)

argument_entries : (k : Table) (s : Setting) (q : ℕ) (x : Argument) → ArgumentIsFew x → entries k (argument_code s q x) ≤ expr_tokens (erase_argument x)
argument_entries k s q (OfNumber x) f = number_entries k s q x f
argument_entries k s q (OfWords x) f = words_entries k s q x f

arguments_entries : (k : Table) (s : Setting) (q : ℕ) (xs : List Argument) → ArgumentsAreFew xs → entries k (arguments_code s q xs) ≤ others_tokens (erase_arguments xs)
unfolding arguments_code
arguments_entries k s q [] f = omega arith
arguments_entries k s q (x ∷ xs) f =
    omega (
      arith,
      both k (argument_code s q x) (arguments_code s (q + argument_size x) xs),
      argument_entries k s q x f.0,
      arguments_entries k s (q + argument_size x) xs f.1,
    )

-- ---- the head of a `do`

turns_many : (k : Table) (records : List RecordShape) (x : Counting) → named k (limit_code records x.stop) + named k (limit_code records x.start) + a_constant k + a_constant k ≤ 4
turns_many k records x = omega (arith, at_most_one k (limit_code records x.stop), at_most_one k (limit_code records x.start), one_entry k)

turns_entries : (k : Table) (records : List RecordShape) (x : Counting) (a b : Option ℤ) → entries k (turns_code_by records x a b) ≤ 4
turns_entries k records x (Some a) (Some b) = omega (arith, at_most_one k (value (turns a b x.step)))
turns_entries k records x (Some a) None = omega (arith, turns_many k records x)
turns_entries k records x None b = omega (arith, turns_many k records x)

head_entries : (k : Table) (s : Setting) (x : Counting) → entries k (head_code s x) ≤ 5
head_entries k s x =
    omega (arith, at_most_one k (limit_code s.records x.start), store_none k s x.variable, turns_entries k s.records x (known s.records x.start) (known s.records x.stop))

step_entries : (k : Table) (s : Setting) (x : Counting) → entries k (step_code s x) ≤ 1
step_entries k s x = omega (arith, load_none k s x.variable, store_none k s x.variable, one_entry k)

counted_entries : (k : Table) (s : Setting) (q : ℕ) (x : Counting) (n : ℕ) (b : List Wide) → entries k (counted_code s q x n b) ≤ entries k b + 7
counted_entries k s q x n b =
    let end = with_c ops.End (opener_at s q x) ∷ [] in
    let opener = w.Turns (turn_limit s.records x) (turn_end_at s q x n + 4) in
    omega (
      arith,
      both k (head_code s x) (opener ∷ (b ++ (step_code s x ++ end))),
      at_most_one k opener,
      both k b (step_code s x ++ end),
      both k (step_code s x) end,
      head_entries k s x,
      step_entries k s x,
    )

over_entries : (k : Table) (s : Setting) (q : ℕ) (variable : Variable) (of n : ℕ) (b : List Wide) → entries k (over_code s q variable of n b) ≡ entries k b
over_entries k s q variable of n b = omega (arith, store_none k s variable, and_one k b (with_c ops.End q))

-- ---- leaving

exit_none : (k : Table) (o : Option ℕ) → entries k (exit_code_by o) ≡ 0
exit_none k None = refl
exit_none k (Some result) = refl

jump_code_none : (k : Table) (s : Setting) (l : Loop) (x : Jump) → entries k (jump_code s l x) ≡ 0
jump_code_none k s l j.Break = refl
jump_code_none k s l j.Next = refl
jump_code_none k s l j.Exit = exit_none k s.result_at

-- ---- statements

mutual
  unfolding statement_code block_code arms_code

  pub statement_entries : (k : Table) (s : Setting) (l : Loop) (q : ℕ) (x : Statement) → StatementIsFew x → entries k (statement_code s l q x) ≤ stmt_tokens (erase_statement x)
  statement_entries k s l q Empty f = omega arith
  statement_entries k s l q (Set name variable x) f = omega (arith, and_one k (number_code s q x) (store s variable), store_none k s variable, number_entries k s q x f)
  statement_entries k s l q (SetText name variable x) f = omega (arith, and_one k (words_code s q x) (with_c ops.StoreGlobal variable), words_entries k s q x f)
  statement_entries k s l q (SetItem name field which x) f =
      omega (
        arith,
        and_two k (which_code s field.owner (q + (which_size which + (number_size x + 1))) q which) (number_code s (q + which_size which) x) (with_c ops.StoreNumber field.item),
        which_entries k s field.owner (q + (which_size which + (number_size x + 1))) q which f.0,
        number_entries k s (q + which_size which) x f.1,
      )
  statement_entries k s l q (SetTextItem name field which x) f =
      omega (
        arith,
        and_two k (which_code s field.owner (q + (which_size which + (words_size x + 1))) q which) (words_code s (q + which_size which) x) (with_c ops.StoreText field.item),
        which_entries k s field.owner (q + (which_size which + (words_size x + 1))) q which f.0,
        words_entries k s (q + which_size which) x f.1,
      )
  statement_entries k s l q (SetCell name array xs x) f =
      let drops = q + indexes_size xs + number_size x + 1 + jump_size (behind xs) in
      omega (
        arith,
        and_drops k (indexes_code s array drops 0 q xs) (number_code s (q + indexes_size xs) x) (with_c ops.StoreCell array) (q + indexes_size xs + number_size x + 1) (behind xs),
        subscripts_entries k s array drops 0 q xs f.0,
        number_entries k s (q + indexes_size xs) x f.1,
      )
  statement_entries k s l q (CallOf name function xs) f =
      omega (arith, both k (numbers_code s q xs) (with_c ops.Call function ∷ with_a ops.Pop 0 ∷ []), numbers_entries k s q xs f)
  statement_entries k s l q (If condition body others) f =
      let end = q + guard_size (number_size condition) (block_size s body) (arms_size s others) in
      let next = q + front_size (number_size condition) (block_size s body) (arms_size s others) in
      omega (
        arith,
        guard_entries k end q (number_size condition) (block_size s body) (arms_size s others) (number_code s q condition) (block_code s l (q + number_size condition + 1) body) (arms_code s l end next others),
        number_entries k s q condition f.0,
        block_entries k s l (q + number_size condition + 1) body f.1,
        arms_entries k s l end next others f.2,
      )
  statement_entries k s l q (For name variable record_name of body) f =
      let loop = loop_to (q + 4 + block_size s body) (q + 4 + block_size s body) in
      omega (arith, over_entries k s q variable of (block_size s body) (block_code s loop (q + 4) body), block_entries k s loop (q + 4) body f)
  statement_entries k s l q (Do counting body) f =
      let loop = loop_to (turn_end_at s q counting (block_size s body)) (turn_end_at s q counting (block_size s body) + 4) in
      omega (
        arith,
        counted_entries k s q counting (block_size s body) (block_code s loop (opener_at s q counting + 1) body),
        block_entries k s loop (opener_at s q counting + 1) body f,
      )
  statement_entries k s l q (Jump' token x) f = omega (arith, jump_code_none k s l x)
  statement_entries k s l q (Impute name field which x) f =
      omega (
        arith,
        and_two k (which_code s field.owner (q + (which_size which + (number_size x + 1))) q which) (number_code s (q + which_size which) x) (with_c ops.Impute field.item),
        which_entries k s field.owner (q + (which_size which + (number_size x + 1))) q which f.0,
        number_entries k s (q + which_size which) x f.1,
      )
  statement_entries k s l q (PutDeck name array picks x) f =
      let drops = q + picks_size picks + number_size x + 1 + jump_size (deepest picks) in
      omega (
        arith,
        f.0,
        and_drops k (picks_code drops q picks) (number_code s (q + picks_size picks) x) (with_c ops.StoreCell array) (q + picks_size picks + number_size x + 1) (deepest picks),
        picks_entries k drops q picks,
        number_entries k s (q + picks_size picks) x f.1,
      )
  statement_entries k s l q (ErrMsg message index xs summary) f =
      omega (arith, and_one k (arguments_code s q xs) (with_c ops.Message index), arguments_entries k s q xs f)

  pub block_entries : (k : Table) (s : Setting) (l : Loop) (q : ℕ) (xs : Statements) → BlockIsFew xs → entries k (block_code s l q xs) ≤ stmts_tokens (erase_block xs)
  block_entries k s l q no_statement f = omega arith
  block_entries k s l q (statement_and x xs) f =
      omega (
        arith,
        both k (statement_code s l q x) (block_code s l (q + statement_size s x) xs),
        statement_entries k s l q x f.0,
        block_entries k s l (q + statement_size s x) xs f.1,
      )

  pub arms_entries : (k : Table) (s : Setting) (l : Loop) (end q : ℕ) (xs : Arms) → ArmsAreFew xs → entries k (arms_code s l end q xs) ≤ arms_tokens (erase_arms xs)
  arms_entries k s l end q no_arm f = omega arith
  arms_entries k s l end q (else_of body) f = omega (arith, block_entries k s l q body f)
  arms_entries k s l end q (arm condition body others) f =
      let next = q + front_size (number_size condition) (block_size s body) (arms_size s others) in
      omega (
        arith,
        guard_entries k end q (number_size condition) (block_size s body) (arms_size s others) (number_code s q condition) (block_code s l (q + number_size condition + 1) body) (arms_code s l end next others),
        number_entries k s q condition f.0,
        block_entries k s l (q + number_size condition + 1) body f.1,
        arms_entries k s l end next others f.2,
      )

-- ---- routines

entry_none : (k : Table) (o : Option ℕ) → entries k (entry_code_by o) ≡ 0
entry_none k None = refl
entry_none k (Some result) = refl

pub routine_entries : (k : Table) (s : Setting) (body : Statements) → BlockIsFew body → entries k (routine_code s body) ≤ tokens body
unfolding routine_code
routine_entries k s body f =
    let q = entry_size_by s.result_at in
    omega (
      arith,
      both k (entry_code_by s.result_at) (block_code s no_loop q body ++ exit_code s),
      both k (block_code s no_loop q body) (exit_code s),
      entry_none k s.result_at,
      exit_none k s.result_at,
      block_entries k s no_loop q body f,
    )
