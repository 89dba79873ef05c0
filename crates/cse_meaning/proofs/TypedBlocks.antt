-- The code of statements is as long as its size; which of it has no brackets.
use Rattle.std.proofs.Common.{◌≡◌, ℕ, ◌+◌, ℤ, Bool, true, false, List, [], ◌∷◌, ◌++◌, length, Option, Some, None, refl, arith}
use Rattle.std.specs.Prelude.{◌==◌, if◌then◌else◌}
use Rattle.cse_value.specs.declared.shape.RecordShape.{RecordShape}
use Rattle.cse_value.specs.declared.number.Num.{Num}
use Rattle.cse_value.specs.declared.number.Num.TheVariants as num
use Rattle.cse_image_parts.specs.Image.{Lists}
use Rattle.cse_image_parts.specs.declared.instruction.Op.TheVariants as ops
use Rattle.cse_syntax_tree.specs.declared.tree.Count.TheVariants as counts
use Rattle.cse_syntax_tree.specs.declared.tree.Jump.{Jump}
use Rattle.cse_syntax_tree.specs.declared.tree.Jump.TheVariants as j
use Rattle.cse_code_typing.specs.Skeleton.{control_by}
use Rattle.cse_logic_tree.specs.declared.tree.Found.TheVariants as h
use Rattle.cse_logic_tree.specs.Typed.{Which, Here, At, Argument, OfNumber, OfWords, Limit, Fixed, Counted, Counting, Statement, Statements, Arms}
use Rattle.cse_logic_tree.specs.Typed.{Empty, Set, SetText, SetItem, SetTextItem, SetCell, CallOf, If, For, Do, Jump', Impute, PutDeck, ErrMsg, no_statement, statement_and, no_arm, else_of, arm}
use Rattle.cse_compile.specs.Wide as w
use Rattle.cse_compile.specs.Wide.{Wide, bare, with_a, with_c, jump, value, pops, jump_size, jump_over}
use Rattle.cse_compile.specs.Setting.{Setting}
use Rattle.cse_compile.specs.declared.setting.Loop.{Loop}
use Rattle.cse_compile.specs.Expressions.{behind, deepest}
use Rattle.cse_compile.specs.Statements.{known, limit_code, which_size, which_code, drops_size, drops_code, argument_size, argument_code, arguments_size, arguments_code, turns_size_by, turns_code_by, turn_limit, head_size, head_code, step_code, exit_size_by, exit_code_by, jump_code_size, jump_code, front_size, front_code, loop_to, opener_at, turn_end_at, statement_size, block_size, arms_size, statement_code, block_code, arms_code}
use Rattle.cse_compile.specs.Routines.{no_loop, entry_size_by, entry_code_by, routine_size, routine_code}
use Rattle.cse_meaning.proofs.Lengths.{two, three, number_length, words_length, numbers_length, indexes_length, picks_length, pops_length}
use Rattle.cse_meaning.proofs.StatementStacks.{jump_length}
use Rattle.cse_meaning.proofs.TypedParts.{is_plain}
use Rattle.cse_meaning.proofs.TypedPlain.{ArePlain, plain_two, plain_more, plain_self, number_plain, words_plain, numbers_plain, indexes_plain, picks_plain, pops_plain, load_plain, store_plain}

-- ---- lengths

pub which_length : (s : Setting) (of fail q : ℕ) (x : Which) → length (which_code s of fail q x) ≡ which_size x
which_length s of fail q (Here h.Loop) = refl
which_length s of fail q (Here h.Event) = refl
which_length s of fail q (Here h.First) = refl
which_length s of fail q (At x) = two _ _ _ 1 (number_length s q x) refl

pub drops_length : (q n : ℕ) → length (drops_code q n) ≡ drops_size n
drops_length q n = two _ _ _ _ (jump_length (jump (q + drops_size n)) n) (pops_length n)

drops_tail_length : (i : Wide) (q n : ℕ) → length (i ∷ drops_code q n) ≡ drops_size n + 1
drops_tail_length i q n = let k = drops_length q n in omega (arith, k)

pub argument_length : (s : Setting) (q : ℕ) (x : Argument) → length (argument_code s q x) ≡ argument_size x
argument_length s q (OfNumber x) = number_length s q x
argument_length s q (OfWords x) = words_length s q x

pub arguments_length : (s : Setting) (q : ℕ) (xs : List Argument) → length (arguments_code s q xs) ≡ arguments_size xs
unfolding arguments_size arguments_code
arguments_length s q [] = refl
arguments_length s q (x ∷ xs) = two _ _ _ _ (argument_length s q x) (arguments_length s (q + argument_size x) xs)

turns_length : (records : List RecordShape) (x : Counting) (a b : Option ℤ) → length (turns_code_by records x a b) ≡ turns_size_by a b
turns_length records x (Some a) (Some b) = refl
turns_length records x (Some a) None = refl
turns_length records x None b = refl

pub head_length : (s : Setting) (x : Counting) → length (head_code s x) ≡ head_size s.records x
head_length s x = let e = turns_length s.records x (known s.records x.start) (known s.records x.stop) in omega (arith, e)

pub exit_length : (o : Option ℕ) → length (exit_code_by o) ≡ exit_size_by o
exit_length None = refl
exit_length (Some r) = refl

jump_code_length : (s : Setting) (l : Loop) (x : Jump) → length (jump_code s l x) ≡ jump_code_size s x
jump_code_length s l j.Break = refl
jump_code_length s l j.Next = refl
jump_code_length s l j.Exit = exit_length s.result_at

pub front_length : (end q m n k : ℕ) (c b : List Wide) → length c ≡ m → length b ≡ n → length (front_code end q m n k c b) ≡ front_size m n k
front_length end q m n k c b e f =
    let x = three c (b ++ jump_over end k) (with_c ops.JumpUnless (q + front_size m n k)) m _ e (two b (jump_over end k) n _ f (jump_length (jump end) k)) in
    omega (arith, x)

mutual
  unfolding statement_size block_size arms_size statement_code block_code arms_code

  pub statement_length : (s : Setting) (l : Loop) (q : ℕ) (x : Statement) → length (statement_code s l q x) ≡ statement_size s x
  statement_length s l q Empty = refl
  statement_length s l q (Set name variable x) = two _ _ _ 1 (number_length s q x) refl
  statement_length s l q (SetText name variable x) = two _ _ _ 1 (words_length s q x) refl
  statement_length s l q (SetItem name field which x) = two _ _ _ _ (which_length s field.owner _ q which) (two _ _ _ 1 (number_length s _ x) refl)
  statement_length s l q (SetTextItem name field which x) = two _ _ _ _ (which_length s field.owner _ q which) (two _ _ _ 1 (words_length s _ x) refl)
  statement_length s l q (SetCell name array xs x) = two _ _ _ _ (indexes_length s array _ 0 q xs) (two _ _ _ _ (number_length s _ x) (drops_tail_length (with_c ops.StoreCell array) _ (behind xs)))
  statement_length s l q (CallOf name function xs) = two _ _ _ 2 (numbers_length s q xs) refl
  statement_length s l q (If condition body others) = two _ _ _ _ (front_length _ q _ _ _ _ _ (number_length s q condition) (block_length s l _ body)) (arms_length s l _ _ others)
  statement_length s l q (For name variable record_name of body) =
      let e = two (block_code s (loop_to (q + 4 + block_size s body) (q + 4 + block_size s body)) (q + 4) body) (with_c ops.End q ∷ []) _ 1 (block_length s (loop_to (q + 4 + block_size s body) (q + 4 + block_size s body)) (q + 4) body) refl in omega (arith, e)
  statement_length s l q (Do counting body) =
      let n = loop_to (turn_end_at s q counting (block_size s body)) (turn_end_at s q counting (block_size s body) + 4) in
      let e = two (block_code s n (opener_at s q counting + 1) body) (step_code s counting ++ with_c ops.End (opener_at s q counting) ∷ []) _ 5 (block_length s n (opener_at s q counting + 1) body) refl in
      let f : length (w.Turns (turn_limit s.records counting) (turn_end_at s q counting (block_size s body) + 4) ∷ (block_code s n (opener_at s q counting + 1) body ++ (step_code s counting ++ with_c ops.End (opener_at s q counting) ∷ []))) ≡ block_size s body + 6 = omega (arith, e) in
      two (head_code s counting) _ _ _ (head_length s counting) f
  statement_length s l q (Jump' token x) = jump_code_length s l x
  statement_length s l q (Impute name field which x) = two _ _ _ _ (which_length s field.owner _ q which) (two _ _ _ 1 (number_length s _ x) refl)
  statement_length s l q (PutDeck name array picks x) = two _ _ _ _ (picks_length _ q picks) (two _ _ _ _ (number_length s _ x) (drops_tail_length (with_c ops.StoreCell array) _ (deepest picks)))
  statement_length s l q (ErrMsg message index xs summary) = two _ _ _ 1 (arguments_length s q xs) refl

  pub block_length : (s : Setting) (l : Loop) (q : ℕ) (xs : Statements) → length (block_code s l q xs) ≡ block_size s xs
  block_length s l q no_statement = refl
  block_length s l q (statement_and x xs) = two _ _ _ _ (statement_length s l q x) (block_length s l (q + statement_size s x) xs)

  pub arms_length : (s : Setting) (l : Loop) (end q : ℕ) (xs : Arms) → length (arms_code s l end q xs) ≡ arms_size s xs
  arms_length s l end q no_arm = refl
  arms_length s l end q (else_of body) = block_length s l q body
  arms_length s l end q (arm condition body others) = two _ _ _ _ (front_length _ q _ _ _ _ _ (number_length s q condition) (block_length s l _ body)) (arms_length s l _ _ others)

pub entry_length : (o : Option ℕ) → length (entry_code_by o) ≡ entry_size_by o
entry_length None = refl
entry_length (Some r) = refl

pub routine_length : (s : Setting) (body : Statements) → length (routine_code s body) ≡ routine_size s body
unfolding routine_code routine_size
routine_length s body =
    two _ _ _ _ (entry_length s.result_at) (two _ _ _ _ (block_length s no_loop (entry_size_by s.result_at) body) (exit_length s.result_at))

-- ---- without brackets

module _ (x : Lists) where
  pub which_plain : (s : Setting) (of fail q : ℕ) (y : Which) → ArePlain x (which_code s of fail q y)
  unfolding control_by
  which_plain s of fail q (Here h.Loop) = plain_self x _ refl
  which_plain s of fail q (Here h.Event) = plain_self x _ refl
  which_plain s of fail q (Here h.First) = plain_self x _ refl
  which_plain s of fail q (At y) = plain_two x _ _ (number_plain x s q y) (plain_self x _ refl)

  if_plain : (b : Bool) (l m : List Wide) → ArePlain x l → ArePlain x m → ArePlain x (if b then l else m)
  if_plain true l m e f = e
  if_plain false l m e f = f

  pub jump_over_plain : (q n : ℕ) → ArePlain x (jump_over q n)
  unfolding control_by
  jump_over_plain q n = if_plain (n == 0) [] (jump q ∷ []) (plain_self x _ refl) (plain_self x _ refl)

  drops_plain : (q n : ℕ) → ArePlain x (drops_code q n)
  drops_plain q n = plain_two x _ _ (jump_over_plain (q + drops_size n) n) (pops_plain x n)

  argument_plain : (s : Setting) (q : ℕ) (y : Argument) → ArePlain x (argument_code s q y)
  argument_plain s q (OfNumber y) = number_plain x s q y
  argument_plain s q (OfWords y) = words_plain x s q y

  arguments_plain : (s : Setting) (q : ℕ) (ys : List Argument) → ArePlain x (arguments_code s q ys)
  unfolding arguments_code
  arguments_plain s q [] = plain_self x _ refl
  arguments_plain s q (y ∷ ys) = plain_two x _ _ (argument_plain s q y) (arguments_plain s (q + argument_size y) ys)

  limit_plain : (records : List RecordShape) (y : Limit) → is_plain x (limit_code records y) ≡ true
  unfolding control_by
  limit_plain records (Fixed y) = refl
  limit_plain records (Counted counts.MaxOcc name of) = refl
  limit_plain records (Counted counts.TotOcc name of) = refl

  value_plain : (n : Num) → is_plain x (value n) ≡ true
  unfolding control_by
  value_plain (num.Whole z) = refl
  value_plain num.NotAppl = refl
  value_plain num.Missing = refl
  value_plain num.Undef = refl

  turns_plain : (records : List RecordShape) (y : Counting) (a b : Option ℤ) → ArePlain x (turns_code_by records y a b)
  unfolding control_by
  turns_plain records y (Some a) (Some b) = plain_more x _ _ (value_plain _) (plain_self x [] refl)
  turns_plain records y (Some a) None = plain_more x _ _ (limit_plain records y.stop) (plain_more x _ _ (limit_plain records y.start) (plain_self x _ refl))
  turns_plain records y None b = plain_more x _ _ (limit_plain records y.stop) (plain_more x _ _ (limit_plain records y.start) (plain_self x _ refl))

  pub head_plain : (s : Setting) (y : Counting) → ArePlain x (head_code s y)
  head_plain s y = plain_more x _ _ (limit_plain s.records y.start) (plain_more x _ _ (store_plain x s y.variable) (turns_plain s.records y _ _))

  pub step_plain : (s : Setting) (y : Counting) → ArePlain x (step_code s y)
  unfolding control_by
  step_plain s y = plain_more x _ _ (load_plain x s y.variable) (plain_more x _ _ refl (plain_more x _ _ refl (plain_more x _ _ (store_plain x s y.variable) (plain_self x [] refl))))

  exit_plain : (o : Option ℕ) → ArePlain x (exit_code_by o)
  unfolding control_by
  exit_plain None = plain_self x _ refl
  exit_plain (Some r) = plain_self x _ refl

  jump_code_plain : (s : Setting) (l : Loop) (y : Jump) → ArePlain x (jump_code s l y)
  unfolding control_by
  jump_code_plain s l j.Break = plain_self x _ refl
  jump_code_plain s l j.Next = plain_self x _ refl
  jump_code_plain s l j.Exit = exit_plain s.result_at

  -- a statement that holds no others
  abbrev pub IsSimple : Statement → Type 0
  IsSimple (If condition body others) = ⊥
  IsSimple (For name variable record_name of body) = ⊥
  IsSimple (Do counting body) = ⊥
  IsSimple _ = Unit {0}

  pub simple_plain : (s : Setting) (l : Loop) (q : ℕ) (y : Statement) → IsSimple y → ArePlain x (statement_code s l q y)
  unfolding statement_code control_by
  simple_plain s l q Empty f = plain_self x _ refl
  simple_plain s l q (Set name variable y) f = plain_two x _ _ (number_plain x s q y) (plain_more x _ _ (store_plain x s variable) (plain_self x [] refl))
  simple_plain s l q (SetText name variable y) f = plain_two x _ _ (words_plain x s q y) (plain_self x _ refl)
  simple_plain s l q (SetItem name field which y) f = plain_two x _ _ (which_plain s field.owner _ q which) (plain_two x _ _ (number_plain x s _ y) (plain_self x _ refl))
  simple_plain s l q (SetTextItem name field which y) f = plain_two x _ _ (which_plain s field.owner _ q which) (plain_two x _ _ (words_plain x s _ y) (plain_self x _ refl))
  simple_plain s l q (SetCell name array ys y) f = plain_two x _ _ (indexes_plain x s array _ 0 q ys) (plain_two x _ _ (number_plain x s _ y) (plain_more x _ _ refl (drops_plain _ (behind ys))))
  simple_plain s l q (CallOf name function ys) f = plain_two x _ _ (numbers_plain x s q ys) (plain_self x _ refl)
  simple_plain s l q (If condition body others) f = absurd f
  simple_plain s l q (For name variable record_name of body) f = absurd f
  simple_plain s l q (Do counting body) f = absurd f
  simple_plain s l q (Jump' token y) f = jump_code_plain s l y
  simple_plain s l q (Impute name field which y) f = plain_two x _ _ (which_plain s field.owner _ q which) (plain_two x _ _ (number_plain x s _ y) (plain_self x _ refl))
  simple_plain s l q (PutDeck name array picks y) f = plain_two x _ _ (picks_plain x _ q picks) (plain_two x _ _ (number_plain x s _ y) (plain_more x _ _ refl (drops_plain _ (deepest picks))))
  simple_plain s l q (ErrMsg message index ys summary) f = plain_two x _ _ (arguments_plain s q ys) (plain_self x _ refl)
