-- The first stack beside the code of an expression is the one that it begins with.
use Rattle.std.proofs.Common.{◌≡◌, ℕ, ◌+◌, List, [], ◌∷◌, ◌++◌, refl, ap, subst, arith}
use Rattle.std.specs.Prelude.{Bool, true, false, if◌then◌else◌}
use Rattle.cse_code_typing.specs.declared.kind.Kind.{Kind}
use Rattle.cse_code_typing.specs.declared.kind.Kind.TheVariants as k
use Rattle.cse_logic_tree.specs.declared.tree.Found.{Found}
use Rattle.cse_logic_tree.specs.declared.tree.Found.TheVariants as h
use Rattle.cse_logic_tree.specs.declared.tree.Present.{Present}
use Rattle.cse_logic_tree.specs.declared.tree.Present.TheVariants as p
use Rattle.cse_logic_tree.specs.declared.tree.Pick.{Pick}
use Rattle.cse_logic_tree.specs.Typed.{Number, Words, Numbers, Operations, Constant, Special', Variable', Item, ItemAt, Cell, Call, Group, Int, IsSpecial, Deck, TotOcc, MaxOcc, CurOcc, InSet, Minus, Not, Compare, CompareTexts, Chain}
use Rattle.cse_logic_tree.specs.Typed.{Quoted, TextGlobal, TextItem, TextItemAt, TextGroup, no_number, number_and, no_operation, operation_and}
use Rattle.cse_compile.specs.Expressions.{can_fail, indexes_size, numbers_size, operations_size, picks_size}
use Rattle.cse_meaning.specs.Fit.{Spot}
use Rattle.cse_meaning.proofs.At.{HasAt}
use Rattle.cse_meaning.proofs.WideRule.{Stack}
use Rattle.cse_meaning.proofs.TypedParts.{stack_at, stack_is}
use Rattle.cse_meaning.proofs.Stacks.{here_stacks, present_stacks, pick_index, picks_stacks, picks_after, deck_stacks, cell_index, indexes_after, indexes_left, numbers_after, number_stacks, words_stacks, numbers_stacks, indexes_stacks, operations_stacks}

pub record Begins (st : Stack) (l : List Stack) : Type 0 where
  pub rest : List Stack
  pub is : l ≡ st ∷ rest

pub begins_self : (st : Stack) (l : List Stack) → Begins st (st ∷ l)
begins_self st l = record { rest = l; is = refl }

pub begins_front : (st : Stack) (a b : List Stack) → Begins st a → Begins st (a ++ b)
begins_front st a b f = record { rest = f.rest ++ b; is = ap (λ l. l ++ b) f.is }

pub begins_at : (all : List Stack) (q : ℕ) (st : Stack) (l : List Stack) → Begins st l → HasAt all q l → stack_at all q ≡ st
begins_at all q st l f h = let k = subst (HasAt all q) f.is h in stack_is all q st k.0

here_begins : (st : Stack) (kind : Kind) (of : ℕ) (found : Found) → Begins st (here_stacks st kind of found)
here_begins st kind of h.Loop = begins_self st _
here_begins st kind of h.Event = begins_self st _
here_begins st kind of h.First = begins_self st _

pub present_begins : (st : Stack) (kind : Kind) (x : Present) → Begins st (present_stacks st kind x)
present_begins st kind (p.Id item) = begins_self st _
present_begins st kind (p.Here field found) = here_begins st kind field.owner found

pub picks_begin : (s : Spot) (st : Stack) (xs : List Pick) (rest : List Stack) → Begins (picks_after s st xs) rest → Begins st (picks_stacks s st xs ++ rest)
picks_begin s st [] rest f = f
picks_begin s st (x ∷ xs) rest f = begins_front st (picks_stacks s st (x ∷ xs)) rest (begins_front st (present_stacks st k.Number x.item) ((k.Number ∷ st) ∷ picks_stacks s (pick_index s x ∷ st) xs) (present_begins st k.Number x.item))

if_begins : (st : Stack) (b : Bool) (x y : List Stack) → Begins st x → Begins st y → Begins st (if b then x else y)
if_begins st true x y f g = f
if_begins st false x y f g = g

mutual
  unfolding number_stacks words_stacks numbers_stacks indexes_stacks operations_stacks

  pub number_begins : (s : Spot) (st : Stack) (x : Number) → Begins st (number_stacks s st x)
  number_begins s st (Constant digits value) = begins_self st _
  number_begins s st (Special' token value) = begins_self st _
  number_begins s st (Variable' name variable) = begins_self st _
  number_begins s st (Item name item) = present_begins st k.Number item
  number_begins s st (ItemAt name field x) = begins_front st (number_stacks s st x) _ (number_begins s st x)
  number_begins s st (Cell name array xs) = indexes_begin s array 0 st xs (indexes_after s array 0 st xs ∷ (k.Number ∷ st) ∷ (indexes_left s array 0 st xs ++ st ∷ [])) (begins_self _ _)
  number_begins s st (Call name function xs) = numbers_begin s st xs (numbers_after st xs ∷ []) (begins_self _ _)
  number_begins s st (Group x) = number_begins s st x
  number_begins s st (Int x) = number_begins s st x
  number_begins s st (IsSpecial x) = begins_front st (number_stacks s st x) _ (number_begins s st x)
  number_begins s st (Deck name array picks) = picks_begin s st picks (deck_stacks s st picks) (if_begins (picks_after s st picks) (can_fail picks) _ _ (begins_self _ _) (begins_self _ _))
  number_begins s st (TotOcc name of) = begins_self st _
  number_begins s st (MaxOcc name of) = begins_self st _
  number_begins s st (CurOcc name of found) = here_begins st k.Number of found
  number_begins s st (InSet name item set_name set) = begins_front st (present_stacks st k.Number item) _ (present_begins st k.Number item)
  number_begins s st (Minus x) = begins_front st (number_stacks s st x) _ (number_begins s st x)
  number_begins s st (Not x) = begins_front st (number_stacks s st x) _ (number_begins s st x)
  number_begins s st (Compare relation x y) = begins_front st (number_stacks s st x) _ (number_begins s st x)
  number_begins s st (CompareTexts relation x y) = begins_front st (words_stacks s st x) _ (words_begin s st x)
  number_begins s st (Chain x xs) = begins_front st (number_stacks s st x) _ (number_begins s st x)

  pub words_begin : (s : Spot) (st : Stack) (x : Words) → Begins st (words_stacks s st x)
  words_begin s st (Quoted text) = begins_self st _
  words_begin s st (TextGlobal name variable) = begins_self st _
  words_begin s st (TextItem name item) = present_begins st k.Text item
  words_begin s st (TextItemAt name field x) = begins_front st (number_stacks s st x) _ (number_begins s st x)
  words_begin s st (TextGroup x) = words_begin s st x

  pub numbers_begin : (s : Spot) (st : Stack) (xs : Numbers) (rest : List Stack) → Begins (numbers_after st xs) rest → Begins st (numbers_stacks s st xs ++ rest)
  numbers_begin s st no_number rest f = f
  numbers_begin s st (number_and x xs) rest f = begins_front st (numbers_stacks s st (number_and x xs)) rest (begins_front st (number_stacks s st x) (numbers_stacks s (k.Number ∷ st) xs) (number_begins s st x))

  pub indexes_begin : (s : Spot) (array j : ℕ) (st : Stack) (xs : Numbers) (rest : List Stack) → Begins (indexes_after s array j st xs) rest → Begins st (indexes_stacks s array j st xs ++ rest)
  indexes_begin s array j st no_number rest f = f
  indexes_begin s array j st (number_and x xs) rest f = begins_front st (indexes_stacks s array j st (number_and x xs)) rest (begins_front st (number_stacks s st x) ((k.Number ∷ st) ∷ indexes_stacks s array (j + 1) (cell_index s array j ∷ st) xs) (number_begins s st x))

-- ---- where the stack behind is known

module _ (s : Spot) (all : List Stack) where
  pub number_start : (p : ℕ) (st : Stack) (x : Number) → HasAt all p (number_stacks s st x) → stack_at all p ≡ st
  number_start p st x h = begins_at all p st (number_stacks s st x) (number_begins s st x) h

  pub words_start : (p : ℕ) (st : Stack) (x : Words) → HasAt all p (words_stacks s st x) → stack_at all p ≡ st
  words_start p st x h = begins_at all p st (words_stacks s st x) (words_begin s st x) h

  same_place : (p q : ℕ) (st : Stack) → p ≡ q → stack_at all p ≡ st → stack_at all q ≡ st
  same_place p q st e h = subst (λ n. stack_at all n ≡ st) e h

  pub numbers_start : (p : ℕ) (st : Stack) (xs : Numbers) → HasAt all p (numbers_stacks s st xs) → stack_at all (p + numbers_size xs) ≡ numbers_after st xs → stack_at all p ≡ st
  unfolding numbers_stacks numbers_size
  numbers_start p st no_number h e = same_place (p + 0) p st (omega arith) e
  numbers_start p st (number_and x xs) h e = begins_at all p st _ (begins_front st (number_stacks s st x) (numbers_stacks s (k.Number ∷ st) xs) (number_begins s st x)) h

  pub indexes_start : (array j p : ℕ) (st : Stack) (xs : Numbers) → HasAt all p (indexes_stacks s array j st xs) → stack_at all (p + indexes_size xs) ≡ indexes_after s array j st xs → stack_at all p ≡ st
  unfolding indexes_stacks indexes_size
  indexes_start array j p st no_number h e = same_place (p + 0) p st (omega arith) e
  indexes_start array j p st (number_and x xs) h e = begins_at all p st _ (begins_front st (number_stacks s st x) ((k.Number ∷ st) ∷ indexes_stacks s array (j + 1) (cell_index s array j ∷ st) xs) (number_begins s st x)) h

  pub picks_start : (p : ℕ) (st : Stack) (xs : List Pick) → HasAt all p (picks_stacks s st xs) → stack_at all (p + picks_size xs) ≡ picks_after s st xs → stack_at all p ≡ st
  picks_start p st [] h e = same_place (p + 0) p st (omega arith) e
  picks_start p st (x ∷ xs) h e = begins_at all p st _ (begins_front st (present_stacks st k.Number x.item) ((k.Number ∷ st) ∷ picks_stacks s (pick_index s x ∷ st) xs) (present_begins st k.Number x.item)) h

  pub operations_start : (p : ℕ) (st : Stack) (xs : Operations) → HasAt all p (operations_stacks s st xs) → stack_at all (p + operations_size xs) ≡ k.Number ∷ st → stack_at all p ≡ k.Number ∷ st
  unfolding operations_stacks operations_size
  operations_start p st no_operation h e = same_place (p + 0) p (k.Number ∷ st) (omega arith) e
  operations_start p st (operation_and operator x xs) h e = begins_at all p (k.Number ∷ st) _ (begins_front (k.Number ∷ st) (number_stacks s (k.Number ∷ st) x) ((k.Number ∷ k.Number ∷ st) ∷ operations_stacks s st xs) (number_begins s (k.Number ∷ st) x)) h
