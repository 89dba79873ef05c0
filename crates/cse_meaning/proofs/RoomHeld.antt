-- The numbers of sound expressions are of 64 bits, and their texts are texts of the format, where the texts among the words are UTF-8.
use Rattle.std.proofs.Common.{◌≡◌, ◌≤◌, ℕ, zero, suc, ℤ, pos, neg_ℤ, Bool, true, false, List, ◌∷◌, Option, Some, None, refl, subst, arith}
use Rattle.std.specs.Prelude.{FitsSigned, if◌then◌else◌}
use Rattle.std.specs.Int.{w64}
use Rattle.std.specs.Option.{option_map}
use Rattle.std.proofs.lemmas.Int.{fits_signed_from_abs}
use Rattle.std.proofs.lemmas.Option.{same_Some, none-some}
use Rattle.cse_syntax_tree.specs.declared.token.Mark.TheVariants as mark
use Rattle.cse_syntax_tree.specs.Leaf.{number_of, is_within, MOST}
use Rattle.cse_syntax_tree.specs.Tree as syntax
use Rattle.cse_syntax_tree.specs.Tree.{Spelling}
use Rattle.cse_syntax_tree.specs.Word.{Word, Sign}
use Rattle.cse_syntax_tree.specs.Grammar.{IsExpr, AreInner, AreOperations, spell_expr, spell_exprs, spell_others, spell_operations, spell_set}
use Rattle.cse_syntax_tree.proofs.Rooms.{below}
use Rattle.cse_syntax_tree.proofs.Digits.{number_within}
use Rattle.cse_logic_tree.specs.Typed.{Number, Words, Numbers, Operations, Constant, Special', Variable', Item, ItemAt, Cell, Call, Group, Int, IsSpecial, Deck, TotOcc, MaxOcc, CurOcc, InSet, Minus, Not, Compare, CompareTexts, Chain}
use Rattle.cse_logic_tree.specs.Typed.{Quoted as QuotedText, TextGlobal, TextItem, TextItemAt, TextGroup, no_number, number_and, no_operation, operation_and}
use Rattle.cse_logic_tree.specs.Erase.{erase, erase_words, erase_all, erase_operations}
use Rattle.cse_logic_names.specs.Scope.{Scope}
use Rattle.cse_logic_names.specs.WellTyped.{value_of, signed_value, IsNumber, IsWords, AreNumbers, AreOperands}
use Rattle.cse_logic_names.specs.Texts.{AreUtf8}
use Rattle.cse_meaning.proofs.Leaves.{NumberHolds, WordsHold, NumbersHold, OperationsHold}
use Rattle.cse_meaning.proofs.Texts.{text_fits}

-- ---- numbers

record IsWritten (z : ℤ) : Type 0 where
  number : ℕ
  few : number ≤ MOST
  is : pos number ≡ z

written : (digits : Spelling) (z : ℤ) → value_of digits ≡ Some z → IsWritten z
unfolding value_of
written digits z e = by (is_within 0 MOST digits.text) refl e
  where
    by : (b : Bool) → is_within 0 MOST digits.text ≡ b → (if b then Some (pos (number_of digits.text)) else None) ≡ Some z → IsWritten z
    by true f g = record { number = number_of digits.text; few = (number_within 0 MOST digits.text f).1; is = same_Some (pos (number_of digits.text)) z g }
    by false f g = absurd (none-some z g)

positive_fits : (n : ℕ) → n ≤ MOST → FitsSigned w64 (pos n)
positive_fits n le = fits_signed_from_abs w64 (pos n) (omega (arith, le))

negative_fits : (n : ℕ) → n ≤ MOST → FitsSigned w64 (neg_ℤ (pos n))
negative_fits zero le = positive_fits 0 (omega arith)
negative_fits (suc n) le = omega (arith, le)

pub value_fits : (digits : Spelling) (z : ℤ) → value_of digits ≡ Some z → FitsSigned w64 z
value_fits digits z e = let h = written digits z e in subst (FitsSigned w64) h.is (positive_fits h.number h.few)

pub signed_fits : (x : syntax.Literal) (z : ℤ) → signed_value x ≡ Some z → FitsSigned w64 z
signed_fits x z e = by (value_of x.digits) refl e
  where
    sign : (v : ℤ) → IsWritten v → (b : Bool) → FitsSigned w64 (if b then neg_ℤ v else v)
    sign v h true = subst (λ (y : ℤ). FitsSigned w64 (neg_ℤ y)) h.is (negative_fits h.number h.few)
    sign v h false = subst (FitsSigned w64) h.is (positive_fits h.number h.few)

    by : (o : Option ℤ) → value_of x.digits ≡ o → option_map (λ value. if x.minus then neg_ℤ value else value) o ≡ Some z → FitsSigned w64 z
    by None f g = absurd (none-some z g)
    by (Some v) f g = subst (FitsSigned w64) (same_Some _ z g) (sign v (written x.digits v f) x.minus)

-- ---- expressions

set_rest : (set : Option Spelling) (rest : List Word) → AreUtf8 (spell_set set rest) → AreUtf8 rest
set_rest None rest w = w
set_rest (Some set) rest w = w.1.1

mutual
  pub number_held : (c : Scope) (top : Bool) (x : Number) (room : ℕ) (rest : List Word) → IsNumber c top x → IsExpr (erase x) room → AreUtf8 (spell_expr (erase x) rest) → NumberHolds x × AreUtf8 rest
  number_held c top (Constant digits value) room rest h g w = (value_fits digits value h, w.1)
  number_held c top (Special' token value) room rest h g w = (tt, w.1)
  number_held c top (Variable' name variable) room rest h g w = (tt, w.1)
  number_held c top (Item name item) room rest h g w = (tt, w.1)
  number_held c top (ItemAt name field place) room rest h g w =
      let b = below room (IsExpr (erase place)) g.2.0 in
      let r = number_held c false place b.0 (Sign mark.Close ∷ rest) h.2 b.1 w.1.1 in
      (r.0, r.1.1)
  number_held c top (Cell name array xs) room rest h g w = let r = numbers_held c xs room (Sign mark.Close ∷ rest) h.2 g.2 w.1.1 in (r.0, r.1.1)
  number_held c top (Call name function xs) room rest h g w = let r = numbers_held c xs room (Sign mark.Close ∷ rest) h.2 g.2 w.1.1 in (r.0, r.1.1)
  number_held c top (Group x) room rest h g w =
      let b = below room (IsExpr (erase x)) g in
      let r = number_held c false x b.0 (Sign mark.Close ∷ rest) h b.1 w.1 in
      (r.0, r.1.1)
  number_held c top (Int x) room rest h g w =
      let b = below room (IsExpr (erase x)) g in
      let r = number_held c true x b.0 (Sign mark.Close ∷ rest) h b.1 w.1.1 in
      (r.0, r.1.1)
  number_held c top (IsSpecial x) room rest h g w =
      let b = below room (IsExpr (erase x)) g in
      let r = number_held c false x b.0 (Sign mark.Close ∷ rest) h b.1 w.1.1 in
      (r.0, r.1.1)
  number_held c top (Deck name array picks) room rest h g w = (tt, w.1.1.1.1)
  number_held c top (TotOcc name of) room rest h g w = (tt, w.1.1.1.1)
  number_held c top (MaxOcc name of) room rest h g w = (tt, w.1.1.1.1)
  number_held c top (CurOcc name of found) room rest h g w = (tt, w.1.1.1.1)
  number_held c top (InSet name item set_name set) room rest h g w = let r = set_rest set_name (Sign mark.Close ∷ rest) w.1.1.1 in (tt, r.1)
  number_held c top (Minus x) room rest h g w = number_held c false x room rest h g.1 w.1
  number_held c top (Not x) room rest h g w = number_held c false x room rest h g.1 w.1
  number_held c top (Compare relation x y) room rest h g w =
      let a = number_held c false x room _ h.0 g.2 w in
      let b = number_held c false y room rest h.1 g.3 a.1.1 in
      ((a.0, b.0), b.1)
  number_held c top (CompareTexts relation x y) room rest h g w =
      let a = words_held c x room _ h.0 g.2 w in
      let b = words_held c y room rest h.1 g.3 a.1.1 in
      ((a.0, b.0), b.1)
  number_held c top (Chain x xs) room rest h g w =
      let a = number_held c false x room (spell_operations (erase_operations xs) rest) h.0 g.2 w in
      let b = operations_held c top xs _ room rest h.1 g.3 a.1 in
      ((a.0, b.0), b.1)

  pub words_held : (c : Scope) (x : Words) (room : ℕ) (rest : List Word) → IsWords c x → IsExpr (erase_words x) room → AreUtf8 (spell_expr (erase_words x) rest) → WordsHold x × AreUtf8 rest
  words_held c (QuotedText text) room rest h g w = (text_fits text.text w.0 g, w.1)
  words_held c (TextGlobal name variable) room rest h g w = (tt, w.1)
  words_held c (TextItem name item) room rest h g w = (tt, w.1)
  words_held c (TextItemAt name field place) room rest h g w =
      let b = below room (IsExpr (erase place)) g.2.0 in
      let r = number_held c false place b.0 (Sign mark.Close ∷ rest) h.2 b.1 w.1.1 in
      (r.0, r.1.1)
  words_held c (TextGroup x) room rest h g w =
      let b = below room (IsExpr (erase_words x)) g in
      let r = words_held c x b.0 (Sign mark.Close ∷ rest) h b.1 w.1 in
      (r.0, r.1.1)

  pub numbers_held : (c : Scope) (xs : Numbers) (room : ℕ) (rest : List Word) → AreNumbers c xs → AreInner (erase_all xs) room → AreUtf8 (spell_exprs (erase_all xs) rest) → NumbersHold xs × AreUtf8 rest
  numbers_held c no_number room rest h g w = (tt, w)
  numbers_held c (number_and x xs) room rest h g w =
      let b = below room (IsExpr (erase x)) g.0 in
      let a = number_held c false x b.0 (spell_others (erase_all xs) rest) h.0 b.1 w in
      let o = others_held c xs room rest h.1 g.1 a.1 in
      ((a.0, o.0), o.1)

  others_held : (c : Scope) (xs : Numbers) (room : ℕ) (rest : List Word) → AreNumbers c xs → AreInner (erase_all xs) room → AreUtf8 (spell_others (erase_all xs) rest) → NumbersHold xs × AreUtf8 rest
  others_held c no_number room rest h g w = (tt, w)
  others_held c (number_and x xs) room rest h g w =
      let b = below room (IsExpr (erase x)) g.0 in
      let a = number_held c false x b.0 (spell_others (erase_all xs) rest) h.0 b.1 w.1 in
      let o = others_held c xs room rest h.1 g.1 a.1 in
      ((a.0, o.0), o.1)

  operations_held : (c : Scope) (top : Bool) (xs : Operations) (n room : ℕ) (rest : List Word) → AreOperands c top xs → AreOperations (erase_operations xs) n room → AreUtf8 (spell_operations (erase_operations xs) rest) → OperationsHold xs × AreUtf8 rest
  operations_held c top no_operation n room rest h g w = (tt, w)
  operations_held c top (operation_and operator x xs) n room rest h g w =
      let a = number_held c false x room (spell_operations (erase_operations xs) rest) h.1 g.2 w.1 in
      let b = operations_held c top xs n room rest h.2 g.3 a.1 in
      ((a.0, b.0), b.1)
