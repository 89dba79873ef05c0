-- Which instructions without an entry of a table fit.
use Rattle.std.proofs.Common.{◌≡◌, ◌≤◌, ◌<◌, ◌^◌, ℕ, Bool, true, false, ◌&&◌, leb, refl, ap, ◌∙◌, arith}
use Rattle.std.specs.Prelude.{◌==◌, if◌then◌else◌}
use Rattle.std.proofs.lemmas.Bool.{le-leb}
use Rattle.cse_image_parts.specs.declared.instruction.Op.{Op}
use Rattle.cse_image_parts.specs.declared.instruction.Op.TheVariants as ops
use Rattle.cse_image_parts.specs.declared.version.Version.TheVariants as versions
use Rattle.cse_image_parts.specs.Opcodes.{Shape, Range, shape, lies_in, none, up_to, any, any_record}
use Rattle.cse_image.specs.Spelling.{InstrFits}
use Rattle.cse_syntax_tree.specs.declared.tree.Operator.{Operator}
use Rattle.cse_syntax_tree.specs.declared.tree.Operator.TheVariants as operators
use Rattle.cse_syntax_tree.specs.declared.tree.Relation.{Relation}
use Rattle.cse_syntax_tree.specs.declared.tree.Relation.TheVariants as relations
use Rattle.cse_syntax_tree.specs.declared.tree.Special.{Special}
use Rattle.cse_syntax_tree.specs.declared.tree.Special.TheVariants as specials
use Rattle.cse_compile.specs.Expressions.{operation_of, relation_number, special_number}
use Rattle.cse_compile.specs.Stands.{instr}

abbrev pub Fit : Op → ℕ → ℕ → ℕ → Type 0
Fit op a b c = InstrFits versions.Two (instr op a b c)

from_zero : (k n : ℕ) → k ≤ n → lies_in (up_to n) k ≡ true
from_zero k n le = ap (λ b. b && leb k n) (le-leb 0 k (omega arith)) ∙ le-leb k n le

-- ---- by the ranges of the fields

abbrev of_ranges : ℕ → Range → Range → Range → Range → Shape
of_ranges code a b c c_else = record { code = code; a = a; b = b; c = c; c_else = c_else }

module _ (op : Op) (code : ℕ) where
  pub bare_fits : shape op ≡ of_ranges code none none none none → Fit op 0 0 0
  bare_fits e = record {
    a_size = omega arith;
    a = ap (λ (s : Shape). lies_in s.a 0) e;
    b_size = omega arith;
    b = ap (λ (s : Shape). lies_in s.b 0 && true) e;
    c_size = omega arith;
    c = ap (λ (s : Shape). lies_in s.c 0) e;
  }

  pub c_fits : (c : ℕ) → shape op ≡ of_ranges code none none any any → c < 2 ^ 32 → Fit op 0 0 c
  c_fits c e small = record {
    a_size = omega arith;
    a = ap (λ (s : Shape). lies_in s.a 0) e;
    b_size = omega arith;
    b = ap (λ (s : Shape). lies_in s.b 0 && true) e;
    c_size = small;
    c = ap (λ (s : Shape). lies_in s.c c) e ∙ from_zero c 4294967295 (omega (arith, small));
  }

  no_c : (zero_a : Bool) → lies_in (if zero_a then none else none) 0 ≡ true
  no_c true = refl
  no_c false = refl

  any_c : (zero_a : Bool) (c : ℕ) → c < 2 ^ 32 → lies_in (if zero_a then any else any) c ≡ true
  any_c true c small = from_zero c 4294967295 (omega (arith, small))
  any_c false c small = from_zero c 4294967295 (omega (arith, small))

  pub a_fits : (top a : ℕ) → shape op ≡ of_ranges code (up_to top) none none none → a ≤ top → top ≤ 255 → Fit op a 0 0
  a_fits top a e le small = record {
    a_size = omega (arith, le, small);
    a = ap (λ (s : Shape). lies_in s.a a) e ∙ from_zero a top le;
    b_size = omega arith;
    b = ap (λ (s : Shape). lies_in s.b 0 && true) e;
    c_size = omega arith;
    c = ap (λ (s : Shape). lies_in (if a == 0 then s.c else s.c_else) 0) e ∙ no_c (a == 0);
  }

  pub place_fits : (a c : ℕ) → shape op ≡ of_ranges code any_record none any any → a < 256 → c < 2 ^ 32 → Fit op a 0 c
  place_fits a c e of small = record {
    a_size = omega (arith, of);
    a = ap (λ (s : Shape). lies_in s.a a) e ∙ from_zero a 255 (omega (arith, of));
    b_size = omega arith;
    b = ap (λ (s : Shape). lies_in s.b 0 && true) e;
    c_size = small;
    c = ap (λ (s : Shape). lies_in (if a == 0 then s.c else s.c_else) c) e ∙ any_c (a == 0) c small;
  }

-- ---- by the instruction

module _ (n : ℕ) (small : n < 2 ^ 32) where
  pub load_local : Fit ops.LoadLocal 0 0 n
  unfolding shape
  load_local = c_fits ops.LoadLocal 4 n refl small

  pub store_local : Fit ops.StoreLocal 0 0 n
  unfolding shape
  store_local = c_fits ops.StoreLocal 5 n refl small

  pub load_global : Fit ops.LoadGlobal 0 0 n
  unfolding shape
  load_global = c_fits ops.LoadGlobal 6 n refl small

  pub store_global : Fit ops.StoreGlobal 0 0 n
  unfolding shape
  store_global = c_fits ops.StoreGlobal 7 n refl small

  pub jump_fits : Fit ops.Jump 0 0 n
  unfolding shape
  jump_fits = c_fits ops.Jump 20 n refl small

  pub jump_unless : Fit ops.JumpUnless 0 0 n
  unfolding shape
  jump_unless = c_fits ops.JumpUnless 21 n refl small

  pub id_number_fits : Fit ops.IdNumber 0 0 n
  unfolding shape
  id_number_fits = c_fits ops.IdNumber 28 n refl small

  pub id_text_fits : Fit ops.IdText 0 0 n
  unfolding shape
  id_text_fits = c_fits ops.IdText 29 n refl small

  pub item_number : Fit ops.ItemNumber 0 0 n
  unfolding shape
  item_number = c_fits ops.ItemNumber 30 n refl small

  pub item_text : Fit ops.ItemText 0 0 n
  unfolding shape
  item_text = c_fits ops.ItemText 31 n refl small

  pub store_number : Fit ops.StoreNumber 0 0 n
  unfolding shape
  store_number = c_fits ops.StoreNumber 32 n refl small

  pub store_text : Fit ops.StoreText 0 0 n
  unfolding shape
  store_text = c_fits ops.StoreText 33 n refl small

  pub load_cell : Fit ops.LoadCell 0 0 n
  unfolding shape
  load_cell = c_fits ops.LoadCell 34 n refl small

  pub store_cell : Fit ops.StoreCell 0 0 n
  unfolding shape
  store_cell = c_fits ops.StoreCell 35 n refl small

  pub message_fits : Fit ops.Message 0 0 n
  unfolding shape
  message_fits = c_fits ops.Message 37 n refl small

  pub impute_fits : Fit ops.Impute 0 0 n
  unfolding shape
  impute_fits = c_fits ops.Impute 38 n refl small

  pub call_fits : Fit ops.Call 0 0 n
  unfolding shape
  call_fits = c_fits ops.Call 39 n refl small

  pub end_fits : Fit ops.End 0 0 n
  unfolding shape
  end_fits = c_fits ops.End 43 n refl small

  pub break_fits : Fit ops.Break 0 0 n
  unfolding shape
  break_fits = c_fits ops.Break 44 n refl small

module _ (of : ℕ) (there : of < 256) where
  pub current_fits : Fit ops.CurrentOccurrence of 0 0
  unfolding shape
  current_fits = a_fits ops.CurrentOccurrence 25 255 of refl (omega (arith, there)) (omega arith)

  pub number_of_fits : Fit ops.OccurrenceNumber of 0 0
  unfolding shape
  number_of_fits = a_fits ops.OccurrenceNumber 26 255 of refl (omega (arith, there)) (omega arith)

  pub total_fits : Fit ops.TotalOccurrences of 0 0
  unfolding shape
  total_fits = a_fits ops.TotalOccurrences 27 255 of refl (omega (arith, there)) (omega arith)

  pub occurrence_fits : (c : ℕ) → c < 2 ^ 32 → Fit ops.Occurrence of 0 c
  unfolding shape
  occurrence_fits c small = place_fits ops.Occurrence 23 of c refl there small

  pub over_fits : (c : ℕ) → c < 2 ^ 32 → Fit ops.LoopOccurrences of 0 c
  unfolding shape
  over_fits c small = place_fits ops.LoopOccurrences 42 of c refl there small

module _ (set : ℕ) (there : set < 65536) where
  pub row_or_place : (c : ℕ) → c < 2 ^ 32 → Fit ops.Row 0 set c
  unfolding shape
  row_or_place c small = record {
    a_size = omega arith;
    a = refl;
    b_size = omega (arith, there);
    b = ap (λ b. b && true) (from_zero set 65535 (omega (arith, there)));
    c_size = small;
    c = from_zero c 4294967295 (omega (arith, small));
  }

  pub row_or_leftover : Fit ops.Row 1 set 0
  unfolding shape
  row_or_leftover = record {
    a_size = omega arith;
    a = refl;
    b_size = omega (arith, there);
    b = ap (λ b. b && true) (from_zero set 65535 (omega (arith, there)));
    c_size = omega arith;
    c = refl;
  }

  pub in_set : Fit ops.InSet 0 set 0
  unfolding shape
  in_set = record {
    a_size = omega arith;
    a = refl;
    b_size = omega (arith, there);
    b = ap (λ b. b && true) (from_zero set 65535 (omega (arith, there)));
    c_size = omega arith;
    c = refl;
  }

pub index_fits : (size c : ℕ) → 0 < size → size < 65536 → c < 2 ^ 32 → Fit ops.Index 0 size c
unfolding shape
index_fits size c some few small = record {
  a_size = omega arith;
  a = refl;
  b_size = omega (arith, few);
  b = ap (λ b. b && leb size 65535 && true) (le-leb 1 size (omega (arith, some))) ∙ ap (λ b. b && true) (le-leb size 65535 (omega (arith, few)));
  c_size = small;
  c = from_zero c 4294967295 (omega (arith, small));
}

pub special_fits : (n : ℕ) → n ≤ 2 → Fit ops.Special n 0 0
unfolding shape
special_fits n le = a_fits ops.Special 2 2 n refl le (omega arith)

pub pop_fits : (n : ℕ) → n ≤ 2 → Fit ops.Pop n 0 0
unfolding shape
pop_fits n le = a_fits ops.Pop 45 2 n refl le (omega arith)

pub compare_fits : (n : ℕ) → n ≤ 5 → Fit ops.Compare n 0 0
unfolding shape
compare_fits n le = a_fits ops.Compare 14 5 n refl le (omega arith)

pub compare_text_fits : (n : ℕ) → n ≤ 5 → Fit ops.CompareText n 0 0
unfolding shape
compare_text_fits n le = a_fits ops.CompareText 15 5 n refl le (omega arith)

pub add_fits : Fit ops.Add 0 0 0
unfolding shape
add_fits = bare_fits ops.Add 8 refl

pub subtract_fits : Fit ops.Subtract 0 0 0
unfolding shape
subtract_fits = bare_fits ops.Subtract 9 refl

pub quotient_fits : Fit ops.Quotient 0 0 0
unfolding shape
quotient_fits = bare_fits ops.Quotient 11 refl

pub negate_fits : Fit ops.Negate 0 0 0
unfolding shape
negate_fits = bare_fits ops.Negate 13 refl

pub not_fits : Fit ops.Not 0 0 0
unfolding shape
not_fits = bare_fits ops.Not 18 refl

pub is_special_fits : Fit ops.IsSpecial 0 0 0
unfolding shape
is_special_fits = bare_fits ops.IsSpecial 19 refl

pub return_fits : Fit ops.Return 0 0 0
unfolding shape
return_fits = bare_fits ops.Return 40 refl

pub operation_fits : (x : Operator) → Fit (operation_of x) 0 0 0
unfolding shape
operation_fits operators.Or = bare_fits ops.Or 17 refl
operation_fits operators.And = bare_fits ops.And 16 refl
operation_fits operators.Add = bare_fits ops.Add 8 refl
operation_fits operators.Subtract = bare_fits ops.Subtract 9 refl
operation_fits operators.Multiply = bare_fits ops.Multiply 10 refl
operation_fits operators.Divide = bare_fits ops.Quotient 11 refl
operation_fits operators.Remainder = bare_fits ops.Remainder 12 refl

-- ---- words of logic

pub relation_small : (x : Relation) → relation_number x ≤ 5
relation_small relations.Equal = omega arith
relation_small relations.Differs = omega arith
relation_small relations.Less = omega arith
relation_small relations.AtMost = omega arith
relation_small relations.More = omega arith
relation_small relations.AtLeast = omega arith

pub special_small : (x : Special) → special_number x ≤ 2
special_small specials.NotAppl = omega arith
special_small specials.Missing = omega arith
special_small specials.Default = omega arith
