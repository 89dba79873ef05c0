-- Which code the tables have room for: from instruction to instruction, and from routine to routine.
use Rattle.std.proofs.Common.{◌≡◌, ◌≤◌, ◌<◌, ℕ, zero, suc, ◌+◌, Bool, true, false, ◌||◌, if◌then◌else◌, List, [], ◌∷◌, ◌++◌, drop, get_or, map, length, nat_eq, refl, sym, ap, subst, ◌∙◌, arith, ℤ}
use Rattle.std.specs.Prelude.{nat_le}
use Rattle.std.specs.Cmp.{IsEquivalence}
use Rattle.std.specs.List.{AllByRecursion, IsDistinct, list_all, list_any}
use Rattle.std.specs.Ordering.{int_eq}
use Rattle.std.specs.Set.{is_member}
use Rattle.std.specs.Str.{IsUtf8, is_utf8, chars, bytes_eq}
use Rattle.std.proofs.lemmas.Bool.{leb-true, ltb-true, and_parts}
use Rattle.std.proofs.lemmas.Bool.Decides.{Decides-eqb}
use Rattle.std.proofs.lemmas.Cmp.{int_eq_equiv, nat_eq_equiv, nat_list_eq_equiv}
use Rattle.std.proofs.lemmas.List.{length-append, length-map, drop_more}
use Rattle.std.proofs.lemmas.List.Folds.{list_any-append}
use Rattle.std.proofs.lemmas.Map.Keys.{IsDistinct-push}
use Rattle.std.proofs.lemmas.Map.Made.{length-le_from_is_member}
use Rattle.std.proofs.lemmas.Map.Steps.{list_any_congr}
use Rattle.std.proofs.lemmas.Slice.Eq.{bytes_eq-Decides}
use Rattle.std.proofs.lemmas.Str.{IsUtf8-from_is_utf8}
use Rattle.indexmap.specs.IndexSet.{insert_key}
use Rattle.cse_image_parts.specs.Reader.{AllAfter}
use Rattle.cse_image.specs.Spelling.{TextFits, LimitFits}
use Rattle.cse_compile.specs.Pools.{PoolLists, PoolsFit, no_pools, with_constant, with_limit, with_text}
use Rattle.cse_compile.specs.Wide.{Wide, Constant, Chars, Turns, Plain, wide}
use Rattle.cse_compile.specs.declared.wide.Wide as rust
use Rattle.cse_value.specs.declared.shape.RecordShape.{RecordShape}
use Rattle.cse_image_parts.specs.Limits.{most_instructions}
use Rattle.cse_image_parts.specs.Texts.{is_text}
use Rattle.cse_compile.specs.Outline.{Outline, outline}
use Rattle.cse_compile.specs.declared.outlines.Outline as rustoutline
use Rattle.cse_compile.specs.Program.{all_code, code_of}
use Rattle.cse_compile.specs.Room.{with_entry, LacksRoom, IsHeld, IsPart, AreParts}

-- ---- entries, each once, that another table has too

module _ {A : Type 0} {eq : A → A → Bool} (laws : IsEquivalence eq) where
  pub part_none : (ys : List A) → IsPart eq [] ys
  unfolding IsDistinct
  part_none ys = record { distinct = tt; there = λ x h. absurd (never h) }
    where
      never : false ≡ true → ⊥
      never h = cc

  here_or_there : (xs ys : List A) (x z : A) → ((z : A) → is_member eq xs z ≡ true → is_member eq ys z ≡ true) → is_member eq ys x ≡ true → (list_any (eq z) xs || (eq z x || false)) ≡ true → is_member eq ys z ≡ true
  here_or_there xs ys x z each there h = by (list_any (eq z) xs) (eq z x) refl refl h
    where
      by : (b c : Bool) → list_any (eq z) xs ≡ b → eq z x ≡ c → (b || (c || false)) ≡ true → is_member eq ys z ≡ true
      by true c e f h = each z e
      by false true e f h = list_any_congr laws z x ys f ∙ there
      by false false e f h = cc

  pub part_added : (xs ys : List A) (x : A) → IsPart eq xs ys → is_member eq ys x ≡ true → IsPart eq (insert_key eq xs x) ys
  part_added xs ys x part there = by (list_any (eq x) xs) refl
    where
      by : (b : Bool) → list_any (eq x) xs ≡ b → IsPart eq (if b then xs else xs ++ x ∷ []) ys
      by true e = part
      by false e = record {
        distinct = IsDistinct-push laws xs x part.distinct e;
        there = λ z h. here_or_there xs ys x z part.there there (sym (list_any-append (eq z) xs (x ∷ [])) ∙ h);
      }

  pub part_short : (xs ys : List A) → IsPart eq xs ys → length xs ≤ length ys
  part_short xs ys part = length-le_from_is_member laws xs ys part.distinct part.there

pub parts_none : (p : PoolLists) → AreParts no_pools p
parts_none p = record { constants = part_none int_eq_equiv p.constants; limits = part_none nat_eq_equiv p.limits; texts = part_none nat_list_eq_equiv p.texts }

pub parts_added : (old p : PoolLists) (w : Wide) → AreParts old p → IsHeld p w → AreParts (with_entry old w) p
parts_added old p (Constant z) parts held = record { constants = part_added int_eq_equiv old.constants p.constants z parts.constants held; limits = parts.limits; texts = parts.texts }
parts_added old p (Chars text) parts held = record { constants = parts.constants; limits = parts.limits; texts = part_added nat_list_eq_equiv old.texts p.texts text parts.texts held }
parts_added old p (Turns limit end) parts held = record { constants = parts.constants; limits = part_added nat_eq_equiv old.limits p.limits limit parts.limits held.0; texts = parts.texts }
parts_added old p (Plain op a b c) parts held = parts

-- what holds of each entry holds of one that is there
member_has : {A : Type 0} (P : A → Type 0) (eq : A → A → Bool) (same : (x y : A) → eq x y ≡ true → x ≡ y) (before ys : List A) (x : A) → AllAfter (λ _. P) before ys → list_any (eq x) ys ≡ true → P x
member_has P eq same before [] x all h = cc
member_has P eq same before (y ∷ ys) x all h = by (eq x y) refl h (member_has P eq same (before ++ y ∷ []) ys x all.1)
  where
    by : (b : Bool) → eq x y ≡ b → (b || list_any (eq x) ys) ≡ true → (list_any (eq x) ys ≡ true → P x) → P x
    by true e h ih = subst P (sym (same x y e)) all.0
    by false e h ih = ih h

text_of_utf8 : (text : List ℕ) → TextFits text → IsUtf8 text
unfolding is_text
text_of_utf8 text fits = IsUtf8-from_is_utf8 text (and_parts (is_utf8 text) (list_all (λ c. nat_le 32 c) (chars text)) fits.form).0

-- tables that an image has and that have what the instruction names have room for it
pub never_lacks : (old p : PoolLists) (w : Wide) → AreParts old p → PoolsFit p → IsHeld p w → LacksRoom old w → ⊥
never_lacks old p (Constant z) parts fit held lacks =
    let short = part_short int_eq_equiv (with_constant old z).constants p.constants (part_added int_eq_equiv old.constants p.constants z parts.constants held) in
    let few = leb-true (length p.constants) 65536 fit.constants.count in
    omega (arith, short, few, lacks)
never_lacks old p (Chars text) parts fit held lacks =
    let short = part_short nat_list_eq_equiv (with_text old text).texts p.texts (part_added nat_list_eq_equiv old.texts p.texts text parts.texts held) in
    let few = leb-true (length p.texts) 65536 fit.texts.count in
    let fits : TextFits text = member_has TextFits bytes_eq (λ x y e. (bytes_eq-Decides x y).0 e) [] p.texts text fit.texts.each held in
    let long = lacks (text_of_utf8 text fits) fits in
    omega (arith, short, few, long)
never_lacks old p (Turns limit end) parts fit held lacks =
    let short = part_short nat_eq_equiv (with_limit old limit).limits p.limits (part_added nat_eq_equiv old.limits p.limits limit parts.limits held.0) in
    let few = leb-true (length p.limits) 65536 fit.limits.count in
    let fits : LimitFits limit = member_has LimitFits nat_eq (λ x y e. (Decides-eqb x y).0 e) [] p.limits limit fit.limits.each held.0 in
    let long = lacks (ltb-true 0 limit fits.some) held.1 in
    omega (arith, short, few, long)
never_lacks old p (Plain op a b c) parts fit held lacks = omega (arith, held, lacks)

-- ---- along a code

held_here : (p : PoolLists) (ws : List rust.Wide) (k : ℕ) (w d : rust.Wide) → k < length ws → w ≡ get_or ws k d → AllByRecursion (IsHeld p) (map wide (drop k ws)) → AllByRecursion (IsHeld p) (wide w ∷ map wide (drop (k + 1) ws))
held_here p ws k w d lt e h =
    subst (λ (y : rust.Wide). AllByRecursion (IsHeld p) (wide y ∷ map wide (drop (k + 1) ws))) (sym e) (subst (λ (l : List rust.Wide). AllByRecursion (IsHeld p) (map wide l)) (drop_more ws k d lt) h)

-- what is known of the tables and of the code that is left
pub record Stay (now p : PoolLists) (ws : List rust.Wide) (k : ℕ) : Type 0 where
  pub parts : AreParts now p
  pub left : AllByRecursion (IsHeld p) (map wide (drop k ws))

pub stay_next : (now next p : PoolLists) (ws : List rust.Wide) (k : ℕ) (w d : rust.Wide) → k < length ws → w ≡ get_or ws k d → next ≡ with_entry now (wide w) → Stay now p ws k → Stay next p ws (k + 1)
stay_next now next p ws k w d lt e grew stay =
    let h = held_here p ws k w d lt e stay.left in
    record { parts = subst (λ q. AreParts q p) (sym grew) (parts_added now p (wide w) stay.parts h.0); left = h.1 }

pub stay_never : (now p : PoolLists) (ws : List rust.Wide) (k : ℕ) (w d : rust.Wide) → k < length ws → w ≡ get_or ws k d → PoolsFit p → LacksRoom now (wide w) → Stay now p ws k → ⊥
stay_never now p ws k w d lt e fit lacks stay = never_lacks now p (wide w) stay.parts fit (held_here p ws k w d lt e stay.left).0 lacks

-- ---- along routines

pub small_at : (P : Outline → Type 0) (ws : List rustoutline.Outline) (k : ℕ) (w d : rustoutline.Outline) → k < length ws → w ≡ get_or ws k d → AllByRecursion P (map outline ws) → P (outline w)
small_at P [] k w d lt e h = absurd (omega (arith, lt))
small_at P (x ∷ ws) zero w d lt e h = subst (λ (y : rustoutline.Outline). P (outline y)) (sym e) h.0
small_at P (x ∷ ws) (suc k) w d lt e h = small_at P ws k w d (omega (arith, lt)) e h.1

module _ (records : List RecordShape) (arrays : List (List ℕ)) where
  -- the code so far is not longer than all of it
  pub too_long : (ws : List rustoutline.Outline) (k : ℕ) (w d : rustoutline.Outline) (before here there : List Wide) → k < length ws → w ≡ get_or ws k d
      → here ++ all_code records arrays (map outline (drop k ws)) ≡ before ++ all_code records arrays (map outline ws)
      → there ≡ here ++ code_of records arrays (outline w)
      → most_instructions < length there
      → length (before ++ all_code records arrays (map outline ws)) ≤ most_instructions
      → ⊥
  too_long ws k w d before here there lt e all f more most =
      let rest = all_code records arrays (map outline (drop (k + 1) ws)) in
      let here_is : here ++ (code_of records arrays (outline w) ++ rest) ≡ before ++ all_code records arrays (map outline ws) =
      ap (λ (y : rustoutline.Outline). here ++ (code_of records arrays (outline y) ++ rest)) e
      ∙ sym (ap (λ (l : List rustoutline.Outline). here ++ all_code records arrays (map outline l)) (drop_more ws k d lt))
      ∙ all
      in
      let a = ap (λ (l : List Wide). length l) here_is in
      let b = length-append here (code_of records arrays (outline w) ++ rest) in
      let c = length-append (code_of records arrays (outline w)) rest in
      let g = length-append here (code_of records arrays (outline w)) in
      let i = ap (λ (l : List Wide). length l) f in
      omega (arith, a, b, c, g, i, more, most)

pub longer : (ws : List rust.Wide) (there : List Wide) → map wide ws ≡ there → most_instructions < length ws → most_instructions < length there
longer ws there e lt = let a = length-map ws wide in let b = ap (λ (l : List Wide). length l) e in omega (arith, a, b, lt)
