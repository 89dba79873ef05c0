-- The stacks that stand before the instructions of statements: a statement begins and ends with the empty one.
use Rattle.std.proofs.Common.{◌≡◌, ℕ, ◌+◌, ℤ, true, false, List, [], ◌∷◌, ◌++◌, length, Option, Some, None, refl, sym, ap, ◌∙◌, subst, inl, inr, ⊎_elim, arith}
use Rattle.std.specs.Prelude.{◌==◌, ◌≤◌, if◌then◌else◌, ◌⊎◌}
use Rattle.std.proofs.lemmas.Bool.{cases_Bool, cases_eq, eqb-true, eq-eqb, false≢true}
use Rattle.cse_code_typing.specs.declared.kind.Kind.TheVariants as k
use Rattle.cse_syntax_tree.specs.declared.tree.Jump.{Jump}
use Rattle.cse_syntax_tree.specs.declared.tree.Jump.TheVariants as j
use Rattle.cse_logic_tree.specs.declared.tree.Found.TheVariants as h
use Rattle.cse_logic_tree.specs.Typed.{Number}
use Rattle.cse_logic_tree.specs.Typed.{Which, Here, At, Argument, OfNumber, OfWords, Counting, Statement, Statements, Arms}
use Rattle.cse_logic_tree.specs.Typed.{Empty, Set, SetText, SetItem, SetTextItem, SetCell, CallOf, If, For, Do, Jump', Impute, PutDeck, ErrMsg, no_statement, statement_and, no_arm, else_of, arm}
use Rattle.cse_compile.specs.Wide.{jump_size}
use Rattle.cse_compile.specs.Expressions.{behind, deepest}
use Rattle.cse_compile.specs.Statements.{known, which_size, drops_size, argument_size, arguments_size, turns_size_by, head_size, exit_size_by, jump_code_size, front_size, statement_size, block_size, arms_size}
use Rattle.cse_meaning.specs.Fit.{Spot, over, kind_of}
use Rattle.cse_meaning.proofs.At.{HasAt, has_front, has_back}
use Rattle.cse_meaning.proofs.WideRule.{Stack}
use Rattle.cse_meaning.proofs.TypedParts.{stack_at, stack_is}
use Rattle.cse_meaning.proofs.Stacks.{picks_stacks, picks_after, picks_left, indexes_after, indexes_left, numbers_after, number_stacks, words_stacks, numbers_stacks, indexes_stacks}
use Rattle.cse_meaning.proofs.Lengths.{two, three, number_stacks_length, words_stacks_length, numbers_stacks_length, indexes_stacks_length, picks_stacks_length, picks_left_length, indexes_left_length}
use Rattle.cse_meaning.proofs.Begins.{Begins, begins_self, begins_front, begins_at, number_begins, words_begin, numbers_begin, indexes_begin, picks_begin}

abbrev pub N : Stack
N = k.Number ∷ []

abbrev pub NN : Stack
NN = k.Number ∷ k.Number ∷ []

abbrev pub which_stacks : Spot → ℕ → Which → List Stack
which_stacks s of (Here h.Loop) = [] ∷ []
which_stacks s of (Here h.Event) = [] ∷ []
which_stacks s of (Here h.First) = [] ∷ N ∷ []
which_stacks s of (At x) = number_stacks s [] x ++ N ∷ []

abbrev pub drops_stacks : List Stack → List Stack
drops_stacks [] = []
drops_stacks (a ∷ l) = [] ∷ a ∷ l

abbrev pub argument_stacks : Spot → Stack → Argument → List Stack
argument_stacks s st (OfNumber x) = number_stacks s st x
argument_stacks s st (OfWords x) = words_stacks s st x

unfoldable pub arguments_stacks : Spot → Stack → List Argument → List Stack
arguments_stacks s st [] = []
arguments_stacks s st (x ∷ xs) = argument_stacks s st x ++ arguments_stacks s (kind_of x ∷ st) xs

abbrev pub arguments_after : Stack → List Argument → Stack
arguments_after st [] = st
arguments_after st (x ∷ xs) = arguments_after (kind_of x ∷ st) xs

abbrev pub turns_stacks_by : Option ℤ → Option ℤ → List Stack
turns_stacks_by (Some a) (Some b) = [] ∷ []
turns_stacks_by _ _ = [] ∷ N ∷ NN ∷ N ∷ NN ∷ N ∷ NN ∷ []

abbrev pub head_stacks : Spot → Counting → List Stack
head_stacks s x = [] ∷ N ∷ turns_stacks_by (known s.setting.records x.start) (known s.setting.records x.stop)

abbrev pub step_stacks : List Stack
step_stacks = [] ∷ N ∷ NN ∷ N ∷ []

abbrev pub exit_stacks_by : Option ℕ → List Stack
exit_stacks_by None = [] ∷ []
exit_stacks_by (Some result) = [] ∷ N ∷ []

abbrev pub jump_code_stacks : Spot → Jump → List Stack
jump_code_stacks s j.Break = [] ∷ []
jump_code_stacks s j.Next = [] ∷ []
jump_code_stacks s j.Exit = exit_stacks_by s.setting.result_at

abbrev pub jump_stacks : ℕ → List Stack
jump_stacks n = if n == 0 then [] else [] ∷ []

abbrev pub front_stacks : ℕ → List Stack → List Stack → List Stack
front_stacks others condition body = condition ++ (N ∷ (body ++ jump_stacks others))

unfoldable mutual
  pub statement_stacks : Spot → Statement → List Stack
  statement_stacks s Empty = []
  statement_stacks s (Set name variable x) = number_stacks s [] x ++ N ∷ []
  statement_stacks s (SetText name variable x) = words_stacks s [] x ++ (k.Text ∷ []) ∷ []
  statement_stacks s (SetItem name field which x) = which_stacks s field.owner which ++ (number_stacks s (k.Occurrence field.owner ∷ []) x ++ (k.Number ∷ k.Occurrence field.owner ∷ []) ∷ [])
  statement_stacks s (SetTextItem name field which x) = which_stacks s field.owner which ++ (words_stacks s (k.Occurrence field.owner ∷ []) x ++ (k.Text ∷ k.Occurrence field.owner ∷ []) ∷ [])
  statement_stacks s (SetCell name array xs x) = indexes_stacks s array 0 [] xs ++ (number_stacks s (indexes_after s array 0 [] xs) x ++ ((k.Number ∷ indexes_after s array 0 [] xs) ∷ drops_stacks (indexes_left s array 0 [] xs)))
  statement_stacks s (CallOf name function xs) = numbers_stacks s [] xs ++ (numbers_after [] xs ∷ N ∷ [])
  statement_stacks s (If condition body others) = front_stacks (arms_size s.setting others) (number_stacks s [] condition) (block_stacks s body) ++ arms_stacks s others
  statement_stacks s (For name variable record_name of body) = [] ∷ [] ∷ (k.Occurrence of ∷ []) ∷ N ∷ (block_stacks (over s of) body ++ [] ∷ [])
  statement_stacks s (Do counting body) = head_stacks s counting ++ (N ∷ (block_stacks s body ++ (step_stacks ++ [] ∷ [])))
  statement_stacks s (Jump' token x) = jump_code_stacks s x
  statement_stacks s (Impute name field which x) = which_stacks s field.owner which ++ (number_stacks s (k.Occurrence field.owner ∷ []) x ++ (k.Number ∷ k.Occurrence field.owner ∷ []) ∷ [])
  statement_stacks s (PutDeck name array picks x) = picks_stacks s [] picks ++ (number_stacks s (picks_after s [] picks) x ++ ((k.Number ∷ picks_after s [] picks) ∷ drops_stacks (picks_left s [] picks)))
  statement_stacks s (ErrMsg message index xs summary) = arguments_stacks s [] xs ++ arguments_after [] xs ∷ []

  pub block_stacks : Spot → Statements → List Stack
  block_stacks s no_statement = []
  block_stacks s (statement_and x xs) = statement_stacks s x ++ block_stacks s xs

  pub arms_stacks : Spot → Arms → List Stack
  arms_stacks s no_arm = []
  arms_stacks s (else_of body) = block_stacks s body
  arms_stacks s (arm condition body others) = front_stacks (arms_size s.setting others) (number_stacks s [] condition) (block_stacks s body) ++ arms_stacks s others

-- ---- their lengths

pub which_stacks_length : (s : Spot) (of : ℕ) (x : Which) → length (which_stacks s of x) ≡ which_size x
which_stacks_length s of (Here h.Loop) = refl
which_stacks_length s of (Here h.Event) = refl
which_stacks_length s of (Here h.First) = refl
which_stacks_length s of (At x) = two _ _ _ 1 (number_stacks_length s [] x) refl

pub drops_stacks_length : (l : List Stack) (n : ℕ) → length l ≡ n → length (drops_stacks l) ≡ drops_size n
drops_stacks_length [] n e = omega (arith, e)
drops_stacks_length (a ∷ l) n e = omega (arith, e)

drops_tail_length : (a : Stack) (l : List Stack) (n : ℕ) → length l ≡ n → length (a ∷ drops_stacks l) ≡ drops_size n + 1
drops_tail_length a l n e = let k = drops_stacks_length l n e in omega (arith, k)

pub argument_stacks_length : (s : Spot) (st : Stack) (x : Argument) → length (argument_stacks s st x) ≡ argument_size x
argument_stacks_length s st (OfNumber x) = number_stacks_length s st x
argument_stacks_length s st (OfWords x) = words_stacks_length s st x

pub arguments_stacks_length : (s : Spot) (st : Stack) (xs : List Argument) → length (arguments_stacks s st xs) ≡ arguments_size xs
unfolding arguments_stacks arguments_size
arguments_stacks_length s st [] = refl
arguments_stacks_length s st (x ∷ xs) = two _ _ _ _ (argument_stacks_length s st x) (arguments_stacks_length s (kind_of x ∷ st) xs)

turns_stacks_length : (a b : Option ℤ) → length (turns_stacks_by a b) ≡ turns_size_by a b
turns_stacks_length (Some a) (Some b) = refl
turns_stacks_length (Some a) None = refl
turns_stacks_length None b = refl

pub head_stacks_length : (s : Spot) (x : Counting) → length (head_stacks s x) ≡ head_size s.setting.records x
head_stacks_length s x = let e = turns_stacks_length (known s.setting.records x.start) (known s.setting.records x.stop) in omega (arith, e)

pub exit_stacks_length : (o : Option ℕ) → length (exit_stacks_by o) ≡ exit_size_by o
exit_stacks_length None = refl
exit_stacks_length (Some r) = refl

jump_code_stacks_length : (s : Spot) (x : Jump) → length (jump_code_stacks s x) ≡ jump_code_size s.setting x
jump_code_stacks_length s j.Break = refl
jump_code_stacks_length s j.Next = refl
jump_code_stacks_length s j.Exit = exit_stacks_length s.setting.result_at

-- a jump over nothing is left out
pub jump_by : (n : ℕ) → ((n ≡ 0) × (n == 0 ≡ true)) ⊎ ((1 ≤ n) × (n == 0 ≡ false))
jump_by n = ⊎_elim
    (λ (e : n == 0 ≡ true). inl (eqb-true n 0 e, e))
    (λ (e : n == 0 ≡ false). inr (⊎_elim (λ (z : n ≡ 0). absurd (false≢true (sym e ∙ eq-eqb n 0 z))) (λ (z : n ≡ 0 → ⊥). omega arith) (cases_eq n 0), e))
    (cases_Bool (n == 0))

pub jump_length : {A : Type 0} (x : A) (n : ℕ) → length (if n == 0 then [] else x ∷ []) ≡ jump_size n
jump_length x n = ⊎_elim
    (λ (e : (n ≡ 0) × (n == 0 ≡ true)). let k = ap (λ b. length (if b then [] else x ∷ [])) e.1 in let z = e.0 in omega (arith, k))
    (λ (e : (1 ≤ n) × (n == 0 ≡ false)). let k = ap (λ b. length (if b then [] else x ∷ [])) e.1 in let z = e.0 in omega (arith, k))
    (jump_by n)

jump_stacks_length : (n : ℕ) → length (jump_stacks n) ≡ jump_size n
jump_stacks_length n = jump_length [] n

pub front_stacks_length : (n : ℕ) (c b : List Stack) (m k' : ℕ) → length c ≡ m → length b ≡ k' → length (front_stacks n c b) ≡ front_size m k' n
front_stacks_length n c b m k' e f =
    let x = three c (b ++ jump_stacks n) N m _ e (two b (jump_stacks n) k' _ f (jump_stacks_length n)) in
    omega (arith, x)

mutual
  unfolding statement_size block_size arms_size statement_stacks block_stacks arms_stacks

  pub statement_stacks_length : (s : Spot) (x : Statement) → length (statement_stacks s x) ≡ statement_size s.setting x
  statement_stacks_length s Empty = refl
  statement_stacks_length s (Set name variable x) = two _ _ _ 1 (number_stacks_length s [] x) refl
  statement_stacks_length s (SetText name variable x) = two _ _ _ 1 (words_stacks_length s [] x) refl
  statement_stacks_length s (SetItem name field which x) = two _ _ _ _ (which_stacks_length s field.owner which) (two _ _ _ 1 (number_stacks_length s _ x) refl)
  statement_stacks_length s (SetTextItem name field which x) = two _ _ _ _ (which_stacks_length s field.owner which) (two _ _ _ 1 (words_stacks_length s _ x) refl)
  statement_stacks_length s (SetCell name array xs x) = two _ _ _ _ (indexes_stacks_length s array 0 [] xs) (two _ _ _ _ (number_stacks_length s _ x) (drops_tail_length (k.Number ∷ indexes_after s array 0 [] xs) (indexes_left s array 0 [] xs) (behind xs) (indexes_left_length s array 0 [] xs)))
  statement_stacks_length s (CallOf name function xs) = two _ _ _ 2 (numbers_stacks_length s [] xs) refl
  statement_stacks_length s (If condition body others) = two _ _ _ _ (front_stacks_length (arms_size s.setting others) (number_stacks s [] condition) (block_stacks s body) _ _ (number_stacks_length s [] condition) (block_stacks_length s body)) (arms_stacks_length s others)
  statement_stacks_length s (For name variable record_name of body) = let e = two (block_stacks (over s of) body) ([] ∷ []) _ 1 (block_stacks_length (over s of) body) refl in omega (arith, e)
  statement_stacks_length s (Do counting body) =
      let e = two (block_stacks s body) (step_stacks ++ [] ∷ []) _ 5 (block_stacks_length s body) refl in
      let f : length (N ∷ (block_stacks s body ++ (step_stacks ++ [] ∷ []))) ≡ block_size s.setting body + 6 = omega (arith, e) in
      two (head_stacks s counting) _ _ _ (head_stacks_length s counting) f
  statement_stacks_length s (Jump' token x) = jump_code_stacks_length s x
  statement_stacks_length s (Impute name field which x) = two _ _ _ _ (which_stacks_length s field.owner which) (two _ _ _ 1 (number_stacks_length s _ x) refl)
  statement_stacks_length s (PutDeck name array picks x) = two _ _ _ _ (picks_stacks_length s [] picks) (two _ _ _ _ (number_stacks_length s _ x) (drops_tail_length (k.Number ∷ picks_after s [] picks) (picks_left s [] picks) (deepest picks) (picks_left_length s [] picks)))
  statement_stacks_length s (ErrMsg message index xs summary) = two _ _ _ 1 (arguments_stacks_length s [] xs) refl

  pub block_stacks_length : (s : Spot) (xs : Statements) → length (block_stacks s xs) ≡ block_size s.setting xs
  block_stacks_length s no_statement = refl
  block_stacks_length s (statement_and x xs) = two _ _ _ _ (statement_stacks_length s x) (block_stacks_length s xs)

  pub arms_stacks_length : (s : Spot) (xs : Arms) → length (arms_stacks s xs) ≡ arms_size s.setting xs
  arms_stacks_length s no_arm = refl
  arms_stacks_length s (else_of body) = block_stacks_length s body
  arms_stacks_length s (arm condition body others) = two _ _ _ _ (front_stacks_length (arms_size s.setting others) (number_stacks s [] condition) (block_stacks s body) _ _ (number_stacks_length s [] condition) (block_stacks_length s body)) (arms_stacks_length s others)

-- ---- the first of them

pub which_begins : (s : Spot) (of : ℕ) (x : Which) → Begins [] (which_stacks s of x)
which_begins s of (Here h.Loop) = begins_self [] _
which_begins s of (Here h.Event) = begins_self [] _
which_begins s of (Here h.First) = begins_self [] _
which_begins s of (At x) = begins_front [] (number_stacks s [] x) _ (number_begins s [] x)

argument_begins : (s : Spot) (st : Stack) (x : Argument) → Begins st (argument_stacks s st x)
argument_begins s st (OfNumber x) = number_begins s st x
argument_begins s st (OfWords x) = words_begin s st x

pub arguments_begin : (s : Spot) (st : Stack) (xs : List Argument) (rest : List Stack) → Begins (arguments_after st xs) rest → Begins st (arguments_stacks s st xs ++ rest)
unfolding arguments_stacks
arguments_begin s st [] rest f = f
arguments_begin s st (x ∷ xs) rest f = begins_front st (arguments_stacks s st (x ∷ xs)) rest (begins_front st (argument_stacks s st x) (arguments_stacks s (kind_of x ∷ st) xs) (argument_begins s st x))

jump_begins : (s : Spot) (x : Jump) → Begins [] (jump_code_stacks s x)
jump_begins s j.Break = begins_self [] _
jump_begins s j.Next = begins_self [] _
jump_begins s j.Exit = exit_begins s.setting.result_at
  where
    exit_begins : (o : Option ℕ) → Begins [] (exit_stacks_by o)
    exit_begins None = begins_self [] _
    exit_begins (Some r) = begins_self [] _

front_begins : (s : Spot) (x : Number) (n : ℕ) (b rest : List Stack) → Begins [] (front_stacks n (number_stacks s [] x) b ++ rest)
front_begins s x n b rest = begins_front [] (front_stacks n (number_stacks s [] x) b) rest (begins_front [] (number_stacks s [] x) (N ∷ (b ++ jump_stacks n)) (number_begins s [] x))

module _ (s : Spot) (all : List Stack) where
  pub statement_start : (p : ℕ) (x : Statement) → HasAt all p (statement_stacks s x) → stack_at all (p + statement_size s.setting x) ≡ [] → stack_at all p ≡ []
  unfolding statement_size statement_stacks
  statement_start p Empty h e = let z : p + 0 ≡ p = omega arith in subst (λ n. stack_at all n ≡ []) z e
  statement_start p (Set name variable x) h e = begins_at all p [] _ (begins_front [] (number_stacks s [] x) (N ∷ []) (number_begins s [] x)) h
  statement_start p (SetText name variable x) h e = begins_at all p [] _ (begins_front [] (words_stacks s [] x) ((k.Text ∷ []) ∷ []) (words_begin s [] x)) h
  statement_start p (SetItem name field which x) h e = begins_at all p [] _ (begins_front [] (which_stacks s field.owner which) (number_stacks s (k.Occurrence field.owner ∷ []) x ++ (k.Number ∷ k.Occurrence field.owner ∷ []) ∷ []) (which_begins s field.owner which)) h
  statement_start p (SetTextItem name field which x) h e = begins_at all p [] _ (begins_front [] (which_stacks s field.owner which) (words_stacks s (k.Occurrence field.owner ∷ []) x ++ (k.Text ∷ k.Occurrence field.owner ∷ []) ∷ []) (which_begins s field.owner which)) h
  statement_start p (SetCell name array xs x) h e =
      let st = indexes_after s array 0 [] xs in
      let rest = number_stacks s st x ++ ((k.Number ∷ st) ∷ drops_stacks (indexes_left s array 0 [] xs)) in
      begins_at all p [] _ (indexes_begin s array 0 [] xs rest (begins_front st (number_stacks s st x) ((k.Number ∷ st) ∷ drops_stacks (indexes_left s array 0 [] xs)) (number_begins s st x))) h
  statement_start p (CallOf name function xs) h e = begins_at all p [] _ (numbers_begin s [] xs (numbers_after [] xs ∷ N ∷ []) (begins_self _ _)) h
  statement_start p (If condition body others) h e = begins_at all p [] _ (front_begins s condition (arms_size s.setting others) (block_stacks s body) (arms_stacks s others)) h
  statement_start p (For name variable record_name of body) h e = stack_is all p [] h.0
  statement_start p (Do counting body) h e = stack_is all p [] h.0
  statement_start p (Jump' token x) h e = begins_at all p [] _ (jump_begins s x) h
  statement_start p (Impute name field which x) h e = begins_at all p [] _ (begins_front [] (which_stacks s field.owner which) (number_stacks s (k.Occurrence field.owner ∷ []) x ++ (k.Number ∷ k.Occurrence field.owner ∷ []) ∷ []) (which_begins s field.owner which)) h
  statement_start p (PutDeck name array picks x) h e =
      let st = picks_after s [] picks in
      let rest = number_stacks s st x ++ ((k.Number ∷ st) ∷ drops_stacks (picks_left s [] picks)) in
      begins_at all p [] _ (picks_begin s [] picks rest (begins_front st (number_stacks s st x) ((k.Number ∷ st) ∷ drops_stacks (picks_left s [] picks)) (number_begins s st x))) h
  statement_start p (ErrMsg message index xs summary) h e = begins_at all p [] _ (arguments_begin s [] xs (arguments_after [] xs ∷ []) (begins_self _ _)) h

  pub block_start : (p : ℕ) (xs : Statements) → HasAt all p (block_stacks s xs) → stack_at all (p + block_size s.setting xs) ≡ [] → stack_at all p ≡ []
  unfolding block_size block_stacks
  block_start p no_statement h e = let z : p + 0 ≡ p = omega arith in subst (λ n. stack_at all n ≡ []) z e
  block_start p (statement_and x xs) h e =
      let z : p + (statement_size s.setting x + block_size s.setting xs) ≡ p + statement_size s.setting x + block_size s.setting xs = omega arith in
      statement_start p x (has_front all p (statement_stacks s x) _ h) (block_start (p + statement_size s.setting x) xs (has_back all p (statement_size s.setting x) (statement_stacks s x) _ (statement_stacks_length s x) h) (subst (λ n. stack_at all n ≡ []) z e))

  pub arms_start : (p : ℕ) (xs : Arms) → HasAt all p (arms_stacks s xs) → stack_at all (p + arms_size s.setting xs) ≡ [] → stack_at all p ≡ []
  unfolding arms_size arms_stacks
  arms_start p no_arm h e = let z : p + 0 ≡ p = omega arith in subst (λ n. stack_at all n ≡ []) z e
  arms_start p (else_of body) h e = block_start p body h e
  arms_start p (arm condition body others) h e = begins_at all p [] _ (front_begins s condition (arms_size s.setting others) (block_stacks s body) (arms_stacks s others)) h
