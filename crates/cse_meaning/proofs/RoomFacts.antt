-- What stands around instructions is small, and so are their fields.
use Rattle.std.proofs.Common.{◌≡◌, ◌≤◌, ◌<◌, ◌^◌, ℕ, zero, suc, ℤ, pos, negsuc, Bool, true, false, List, [], ◌∷◌, length, Option, Some, None, refl, ap, arith}
use Rattle.std.specs.Prelude.{slice_get, slice_index, FitsSigned, if◌then◌else◌, min, max, int_div}
use Rattle.std.specs.Int.{w64}
use Rattle.std.specs.List.{AllByRecursion}
use Rattle.std.specs.Option.{option_map, option_map_or}
use Rattle.std.proofs.lemmas.Bool.{ltb-true, lt-ltb}
use Rattle.std.proofs.lemmas.Int.{fits_signed_from_abs}
use Rattle.std.proofs.lemmas.Option.{none-some, slice_get_within}
use Rattle.std.proofs.lemmas.Str.{IsUtf8-nil, is_utf8-from_IsUtf8, chars-nil}
use Rattle.cse_value.specs.declared.shape.ItemShape.{ItemShape}
use Rattle.cse_value.specs.declared.shape.SetShape.{SetShape}
use Rattle.cse_value.specs.declared.number.Num.{Num}
use Rattle.cse_value.specs.declared.number.Num.TheVariants.{Whole, NotAppl, Missing, Undef}
use Rattle.cse_value.specs.Number.{fits_i64, cut, is_zero, quotient_of}
use Rattle.cse_value.specs.Occurrences.{most_occurrences}
use Rattle.cse_value.specs.Shape.{ShapeLists}
use Rattle.cse_image_parts.specs.Image.{ArrayLists}
use Rattle.cse_image_parts.specs.Texts.{is_text, is_short}
use Rattle.cse_image.specs.Spelling.{DimensionFits, LimitFits, TextFits}
use Rattle.cse_code_typing.specs.declared.kind.Kind.TheVariants as kind
use Rattle.cse_code_typing.specs.Signature.{Scene, item_where, rows_by, rows_of, is_record}
use Rattle.cse_logic_tree.specs.declared.tree.Variable.{Variable}
use Rattle.cse_logic_tree.specs.declared.tree.Variable.TheVariants as v
use Rattle.cse_compile.specs.Wide.{value}
use Rattle.cse_compile.specs.Setting.{Setting, size_at}
use Rattle.cse_compile.specs.Expressions.{load, store}
use Rattle.cse_compile.specs.Statements.{as_limit}
use Rattle.cse_meaning.specs.Fit.{Spot, IsNumberVariable, IsArray}
use Rattle.cse_meaning.proofs.RoomPlain.{special_fits, load_local, store_local, load_global, store_global}
use Rattle.cse_meaning.proofs.Pooled.{WideFits}

-- at most three dimensions, each of which an image may have
abbrev pub IsSized : ArrayLists → Type 0
IsSized y = (length y.dimensions ≤ 3) × AllByRecursion DimensionFits y.dimensions

pub record IsRoomy (sc : Scene) (st : Setting) : Type 0 where
  pub globals : length sc.lists.globals ≤ 65536
  pub locals : length sc.routine.locals ≤ 256
  pub records : length sc.shape.records ≤ 200
  pub items : length sc.shape.items ≤ 10000
  pub sets : length sc.shape.sets ≤ 10000
  pub arrays : length sc.lists.arrays ≤ 4096
  pub messages : length sc.lists.messages ≤ 65536
  pub routines : length sc.lists.routines ≤ 4096
  pub sizes : (a : ℕ) (y : ArrayLists) → slice_get sc.lists.arrays a ≡ Some y → IsSized y
  pub occurrences : (of : ℕ) → most_occurrences st.records of < 2 ^ 16
  pub result : (r : ℕ) → st.result_at ≡ Some r → r < 2 ^ 32

-- ---- what is there

pub mapped_within : {A B : Type 0} (f : A → B) (xs : List A) (k : ℕ) (y : B) → option_map f (slice_get xs k) ≡ Some y → k < length xs
mapped_within {A = A} {B = B} f xs k y e = by (slice_get xs k) refl e
  where
    by : (o : Option A) → slice_get xs k ≡ o → option_map f o ≡ Some y → k < length xs
    by None g e = absurd (none-some y e)
    by (Some x) g e = slice_get_within xs k x g

pub item_within : (test : ItemShape → Bool) (xs : List ItemShape) (k : ℕ) (y : ItemShape) → item_where test (slice_get xs k) ≡ Some y → k < length xs
item_within test xs k y e = by (slice_get xs k) refl e
  where
    by : (o : Option ItemShape) → slice_get xs k ≡ o → item_where test o ≡ Some y → k < length xs
    by None g e = absurd (none-some y e)
    by (Some x) g e = slice_get_within xs k x g

pub set_within : (s : ShapeLists) (k n : ℕ) → rows_of s k ≡ Some n → k < length s.sets
set_within s k n e = by (slice_get s.sets k) refl e
  where
    by : (o : Option SetShape) → slice_get s.sets k ≡ o → rows_by s o ≡ Some n → k < length s.sets
    by None g e = absurd (none-some n e)
    by (Some x) g e = slice_get_within s.sets k x g

index_has : (P : ℕ → Type 0) (xs : List ℕ) (k : ℕ) → AllByRecursion P xs → k < length xs → P (slice_index xs k)
index_has P [] k h lt = absurd (omega (arith, lt))
index_has P (x ∷ xs) zero h lt = h.0
index_has P (x ∷ xs) (suc k) h lt = index_has P xs k h.1 (omega (arith, lt))

-- ---- values

pub small_number : (n : ℕ) → n < 2 ^ 16 → FitsSigned w64 (pos n)
small_number n small = fits_signed_from_abs w64 (pos n) (omega (arith, small))

pub no_text : TextFits []
unfolding is_text is_short
no_text = record {
  size = omega arith;
  form = rw (is_utf8-from_IsUtf8 [] IsUtf8-nil, chars-nil) refl;
  short = rw chars-nil refl;
}

fits_if : (z : ℤ) → fits_i64 z ≡ true → FitsSigned w64 z
fits_if (pos n) e = let lt = ltb-true n (2 ^ 63) e in fits_signed_from_abs w64 (pos n) (omega (arith, lt))
fits_if (negsuc n) e = let lt = ltb-true n (2 ^ 63) e in omega (arith, lt)

cut_fits : (z : ℤ) → WideFits (value (cut z))
cut_fits z = by (fits_i64 z) refl
  where
    by : (b : Bool) → fits_i64 z ≡ b → WideFits (value (if b then Whole z else Undef))
    by true e = fits_if z e
    by false e = special_fits 2 (omega arith)

undefined_or : (b : Bool) (z : ℤ) → WideFits (value (if b then Undef else cut z))
undefined_or true z = special_fits 2 (omega arith)
undefined_or false z = cut_fits z

pub quotient_fits : (n m : Num) → WideFits (value (quotient_of n m))
quotient_fits (Whole x) (Whole y) = undefined_or (is_zero y) (int_div x y)
quotient_fits (Whole x) NotAppl = special_fits 2 (omega arith)
quotient_fits (Whole x) Missing = special_fits 2 (omega arith)
quotient_fits (Whole x) Undef = special_fits 2 (omega arith)
quotient_fits NotAppl m = special_fits 2 (omega arith)
quotient_fits Missing m = special_fits 2 (omega arith)
quotient_fits Undef m = special_fits 2 (omega arith)

limit_is : (n : ℕ) → 0 < n → n < 2 ^ 32 → LimitFits n
limit_is n some small = record { size = small; some = lt-ltb 0 n some }

pub limit_fits : (x : Num) → LimitFits (as_limit x)
limit_fits (Whole (pos n)) = limit_is (max 1 (min n 4294967295)) (omega arith) (omega arith)
limit_fits (Whole (negsuc n)) = limit_is 1 (omega arith) (omega arith)
limit_fits NotAppl = limit_is 1 (omega arith) (omega arith)
limit_fits Missing = limit_is 1 (omega arith) (omega arith)
limit_fits Undef = limit_is 1 (omega arith) (omega arith)

-- ---- fields

module _ (s : Spot) (m : IsRoomy s.scene s.setting) where
  pub load_fits : (x : Variable) → IsNumberVariable s x → WideFits (load s.setting x)
  load_fits (v.Global g) e = load_global g (omega (arith, m.globals, mapped_within _ s.scene.lists.globals g kind.Number e))
  load_fits (v.Parameter k) e = load_local k (omega (arith, m.locals, mapped_within _ s.scene.routine.locals k kind.Number e))
  load_fits v.Result e = load_local _ (omega (arith, m.locals, mapped_within _ s.scene.routine.locals _ kind.Number e))

  pub store_fits : (x : Variable) → IsNumberVariable s x → WideFits (store s.setting x)
  store_fits (v.Global g) e = store_global g (omega (arith, m.globals, mapped_within _ s.scene.lists.globals g kind.Number e))
  store_fits (v.Parameter k) e = store_local k (omega (arith, m.locals, mapped_within _ s.scene.routine.locals k kind.Number e))
  store_fits v.Result e = store_local _ (omega (arith, m.locals, mapped_within _ s.scene.routine.locals _ kind.Number e))

  pub record_small : (of : ℕ) → is_record s.scene.shape of ≡ true → of < 256
  record_small of e = omega (arith, m.records, ltb-true of (length s.scene.shape.records) e)

  -- the size of an array in a direction that it has
  pub size_fits : (array n k : ℕ) → IsArray s array n → k < n → (0 < size_at s.setting array k) × (size_at s.setting array k < 65536)
  size_fits array n k h lt =
      let d : DimensionFits (slice_index h.0.dimensions k) = index_has DimensionFits h.0.dimensions k (m.sizes array h.0 h.1).1 (omega (arith, lt, h.3)) in
      let e : size_at s.setting array k ≡ slice_index h.0.dimensions k = ap (λ o. option_map_or (λ sizes. slice_index sizes k) o 0) h.2 in
      (omega (arith, e, ltb-true 0 (slice_index h.0.dimensions k) d.some), omega (arith, e, d.size))
