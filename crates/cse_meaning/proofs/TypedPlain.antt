-- The code of expressions has no brackets.
use Rattle.std.proofs.Common.{◌≡◌, ℕ, ◌+◌, Bool, true, false, List, [], ◌∷◌, ◌++◌, refl, ◌∙◌}
use Rattle.std.specs.Prelude.{if◌then◌else◌, zero, suc}
use Rattle.std.specs.List.{list_all}
use Rattle.std.proofs.lemmas.Bool.{and_from}
use Rattle.std.proofs.lemmas.List.Folds.{list_all-append}
use Rattle.cse_image_parts.specs.Image.{Lists}
use Rattle.cse_image_parts.specs.declared.instruction.Op.TheVariants as ops
use Rattle.cse_syntax_tree.specs.declared.tree.Operator.{Operator}
use Rattle.cse_syntax_tree.specs.declared.tree.Operator.TheVariants as operators
use Rattle.cse_code_typing.specs.Skeleton.{control_by}
use Rattle.cse_logic_tree.specs.declared.tree.Variable.{Variable}
use Rattle.cse_logic_tree.specs.declared.tree.Variable.TheVariants as v
use Rattle.cse_logic_tree.specs.declared.tree.Found.{Found}
use Rattle.cse_logic_tree.specs.declared.tree.Found.TheVariants as h
use Rattle.cse_logic_tree.specs.declared.tree.Present.{Present}
use Rattle.cse_logic_tree.specs.declared.tree.Present.TheVariants as p
use Rattle.cse_logic_tree.specs.declared.tree.Pick.{Pick}
use Rattle.cse_logic_tree.specs.Typed.{Number, Words, Numbers, Operations, Constant, Special', Variable', Item, ItemAt, Cell, Call, Group, Int, IsSpecial, Deck, TotOcc, MaxOcc, CurOcc, InSet, Minus, Not, Compare, CompareTexts, Chain}
use Rattle.cse_logic_tree.specs.Typed.{Quoted, TextGlobal, TextItem, TextItemAt, TextGroup, no_number, number_and, no_operation, operation_and}
use Rattle.cse_compile.specs.Wide.{Wide, bare, with_c, pops, undefined, jump}
use Rattle.cse_compile.specs.Setting.{Setting}
use Rattle.cse_compile.specs.Expressions.{load, store, operation_of, here_code, present_size, number_of_item, text_of_item, can_fail, deepest, row, picks_size, picks_code, deck_code, behind, number_size, words_size, indexes_size, number_code, words_code, numbers_code, indexes_code, operations_code}
use Rattle.cse_meaning.proofs.TypedParts.{is_plain}

module _ (x : Lists) where
  pub record ArePlain (l : List Wide) : Type 0 where
    pub by : list_all (is_plain x) l ≡ true

  pub plain_two : (a b : List Wide) → ArePlain a → ArePlain b → ArePlain (a ++ b)
  plain_two a b e f = record { by = list_all-append (is_plain x) a b ∙ and_from _ _ e.by f.by }

  pub plain_more : (i : Wide) (b : List Wide) → is_plain x i ≡ true → ArePlain b → ArePlain (i ∷ b)
  plain_more i b e f = record { by = and_from _ _ e f.by }

  pub plain_self : (l : List Wide) → list_all (is_plain x) l ≡ true → ArePlain l
  plain_self l e = record { by = e }

  here_plain : (taken none : Wide) (of q : ℕ) (found : Found) → is_plain x taken ≡ true → is_plain x none ≡ true → ArePlain (here_code taken none of q found)
  unfolding control_by
  here_plain taken none of q h.Loop e f = plain_more _ _ refl (plain_more _ _ e (plain_self [] refl))
  here_plain taken none of q h.Event e f = plain_more _ _ refl (plain_more _ _ e (plain_self [] refl))
  here_plain taken none of q h.First e f = plain_more _ _ refl (plain_more _ _ refl (plain_more _ _ e (plain_more _ _ refl (plain_more _ _ f (plain_self [] refl)))))

  pub item_plain : (q : ℕ) (y : Present) → ArePlain (number_of_item q y)
  unfolding control_by
  item_plain q (p.Id item) = plain_self _ refl
  item_plain q (p.Here field found) = here_plain _ _ field.owner q found refl refl

  pub text_item_plain : (q : ℕ) (y : Present) → ArePlain (text_of_item q y)
  unfolding control_by
  text_item_plain q (p.Id item) = plain_self _ refl
  text_item_plain q (p.Here field found) = here_plain _ _ field.owner q found refl refl

  pub pops_plain : (n : ℕ) → ArePlain (pops n)
  unfolding control_by
  pops_plain zero = plain_self _ refl
  pops_plain (suc n) = plain_more _ _ refl (pops_plain n)

  tail_plain : (a b : Wide) (n : ℕ) → is_plain x a ≡ true → is_plain x b ≡ true → ArePlain (a ∷ b ∷ (pops n ++ undefined ∷ []))
  unfolding control_by
  tail_plain a b n e f = plain_more _ _ e (plain_more _ _ f (plain_two (pops n) (undefined ∷ []) (pops_plain n) (plain_self _ refl)))

  if_plain : (b : Bool) (l m : List Wide) → ArePlain l → ArePlain m → ArePlain (if b then l else m)
  if_plain true l m e f = e
  if_plain false l m e f = f

  row_by : (b : Bool) (set fail : ℕ) → is_plain x (row (record { item = p.Id 0; set = set; has_leftover = b }) fail) ≡ true
  unfolding control_by
  row_by true set fail = refl
  row_by false set fail = refl

  pub picks_plain : (drops q : ℕ) (xs : List Pick) → ArePlain (picks_code drops q xs)
  picks_plain drops q [] = plain_self _ refl
  picks_plain drops q (y ∷ ys) = plain_two (number_of_item q y.item) _ (item_plain q y.item) (plain_more _ _ (row_by y.has_leftover y.set _) (picks_plain drops (q + present_size y.item + 1) ys))

  deck_plain : (array q : ℕ) (xs : List Pick) → ArePlain (deck_code array q xs)
  unfolding control_by
  deck_plain array q xs = if_plain (can_fail xs) _ _ (tail_plain (with_c ops.LoadCell array) (jump (q + deepest xs + 3)) (deepest xs) refl refl) (plain_self _ refl)

  pub load_plain : (s : Setting) (y : Variable) → is_plain x (load s y) ≡ true
  unfolding control_by
  load_plain s (v.Global g) = refl
  load_plain s (v.Parameter n) = refl
  load_plain s v.Result = refl

  pub store_plain : (s : Setting) (y : Variable) → is_plain x (store s y) ≡ true
  unfolding control_by
  store_plain s (v.Global g) = refl
  store_plain s (v.Parameter n) = refl
  store_plain s v.Result = refl

  operator_plain : (operator : Operator) → is_plain x (bare (operation_of operator)) ≡ true
  unfolding control_by
  operator_plain operators.Or = refl
  operator_plain operators.And = refl
  operator_plain operators.Add = refl
  operator_plain operators.Subtract = refl
  operator_plain operators.Multiply = refl
  operator_plain operators.Divide = refl
  operator_plain operators.Remainder = refl

  mutual
    unfolding number_size words_size indexes_size number_code words_code numbers_code indexes_code operations_code control_by

    pub number_plain : (s : Setting) (q : ℕ) (y : Number) → ArePlain (number_code s q y)
    number_plain s q (Constant digits value) = plain_self _ refl
    number_plain s q (Special' token value) = plain_self _ refl
    number_plain s q (Variable' name variable) = plain_more _ _ (load_plain s variable) (plain_self [] refl)
    number_plain s q (Item name item) = item_plain q item
    number_plain s q (ItemAt name field y) = plain_two _ _ (number_plain s q y) (plain_self _ refl)
    number_plain s q (Cell name array ys) = plain_two _ _ (indexes_plain s array (q + indexes_size ys + 2) 0 q ys) (tail_plain (with_c ops.LoadCell array) (jump (q + indexes_size ys + (behind ys + 3))) (behind ys) refl refl)
    number_plain s q (Call name function ys) = plain_two _ _ (numbers_plain s q ys) (plain_self _ refl)
    number_plain s q (Group y) = number_plain s q y
    number_plain s q (Int y) = number_plain s q y
    number_plain s q (IsSpecial y) = plain_two _ _ (number_plain s q y) (plain_self _ refl)
    number_plain s q (Deck name array picks) = plain_two _ _ (picks_plain (q + picks_size picks + 2) q picks) (deck_plain array (q + picks_size picks) picks)
    number_plain s q (TotOcc name of) = plain_self _ refl
    number_plain s q (MaxOcc name of) = plain_self _ refl
    number_plain s q (CurOcc name of found) = here_plain _ _ of q found refl refl
    number_plain s q (InSet name item set_name set) = plain_two _ _ (item_plain q item) (plain_self _ refl)
    number_plain s q (Minus y) = plain_two _ _ (number_plain s q y) (plain_self _ refl)
    number_plain s q (Not y) = plain_two _ _ (number_plain s q y) (plain_self _ refl)
    number_plain s q (Compare relation y z) = plain_two _ _ (number_plain s q y) (plain_two _ _ (number_plain s (q + number_size y) z) (plain_self _ refl))
    number_plain s q (CompareTexts relation y z) = plain_two _ _ (words_plain s q y) (plain_two _ _ (words_plain s (q + words_size y) z) (plain_self _ refl))
    number_plain s q (Chain y ys) = plain_two _ _ (number_plain s q y) (operations_plain s (q + number_size y) ys)

    pub words_plain : (s : Setting) (q : ℕ) (y : Words) → ArePlain (words_code s q y)
    words_plain s q (Quoted text) = plain_self _ refl
    words_plain s q (TextGlobal name variable) = plain_self _ refl
    words_plain s q (TextItem name item) = text_item_plain q item
    words_plain s q (TextItemAt name field y) = plain_two _ _ (number_plain s q y) (plain_self _ refl)
    words_plain s q (TextGroup y) = words_plain s q y

    pub numbers_plain : (s : Setting) (q : ℕ) (ys : Numbers) → ArePlain (numbers_code s q ys)
    numbers_plain s q no_number = plain_self _ refl
    numbers_plain s q (number_and y ys) = plain_two _ _ (number_plain s q y) (numbers_plain s (q + number_size y) ys)

    pub indexes_plain : (s : Setting) (array drops j q : ℕ) (ys : Numbers) → ArePlain (indexes_code s array drops j q ys)
    indexes_plain s array drops j q no_number = plain_self _ refl
    indexes_plain s array drops j q (number_and y ys) = plain_two _ _ (number_plain s q y) (plain_more _ _ refl (indexes_plain s array drops (j + 1) (q + number_size y + 1) ys))

    pub operations_plain : (s : Setting) (q : ℕ) (ys : Operations) → ArePlain (operations_code s q ys)
    operations_plain s q no_operation = plain_self _ refl
    operations_plain s q (operation_and operator y ys) = plain_two _ _ (number_plain s q y) (plain_more _ _ (operator_plain operator) (operations_plain s (q + number_size y + 1) ys))
