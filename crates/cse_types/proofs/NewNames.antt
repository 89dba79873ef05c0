-- Names that are new, each once: what the test for them tells.
use Rattle.std.specs.Prelude.{Bool, true, false, ◌&&◌, ◌||◌, not}
use Rattle.std.specs.List.{AllByRecursion, IsDistinct, list_any}
use Rattle.std.specs.Str.{bytes_eq}
use Rattle.std.specs.Map.{lookup}
use Rattle.std.proofs.Common.{◌≡◌, ℕ, List, [], ◌∷◌, ◌++◌, map, Option, Some, None, refl, sym, ap, ◌∙◌}
use Rattle.std.proofs.lemmas.Bool.{false≢true, and_parts, not-true, or_from}
use Rattle.std.proofs.lemmas.Cmp.{nat_list_eq_equiv}
use Rattle.std.proofs.lemmas.List.Folds.{list_any-append}
use Rattle.std.proofs.lemmas.Map.Keys.{IsDistinct-cons, IsDistinct-head, IsDistinct-tail}
use Rattle.std.proofs.lemmas.Map.Made.{IsDistinct-from_count}
use Rattle.cse_lemmas.proofs.Lists.{AllByRecursion-weaker}
use Rattle.cse_types.specs.Names.{are_new}
use Rattle.cse_logic_names.specs.Walk.{is_there}

-- no name is one of those found
abbrev pub AreApart : List (List ℕ) → List (List ℕ) → Type 0
AreApart found xs = AllByRecursion (λ x. list_any (bytes_eq x) found ≡ false) xs

pub all_of_map : {A B : Type 0} (P : B → Type 0) (g : A → B) (xs : List A) → AllByRecursion P (map g xs) → AllByRecursion (λ x. P (g x)) xs
all_of_map P g [] h = tt
all_of_map P g (x ∷ xs) h = (h.0, all_of_map P g xs h.1)

neither : (a b : Bool) → (a || (b || false)) ≡ false → (a ≡ false) × (b ≡ false)
neither true b h = (h, absurd (false≢true (sym h)))
neither false true h = (refl, h)
neither false false h = (refl, refl)

before : (found : List (List ℕ)) (x y : List ℕ) → list_any (bytes_eq y) (found ++ x ∷ []) ≡ false → (list_any (bytes_eq y) found ≡ false) × (bytes_eq y x ≡ false)
before found x y h = neither (list_any (bytes_eq y) found) (bytes_eq y x) (sym (list_any-append (bytes_eq y) found (x ∷ [])) ∙ h)

flips : (x y : List ℕ) → bytes_eq x y ≡ bytes_eq y x
flips x y = nat_list_eq_equiv.symm x y

after_one : (found : List (List ℕ)) (x : List ℕ) (ys : List (List ℕ)) → AllByRecursion (λ y. bytes_eq x y ≡ false) ys → AreApart found ys → AreApart (found ++ x ∷ []) ys
after_one found x [] h k = tt
after_one found x (y ∷ ys) h k =
    (list_any-append (bytes_eq y) found (x ∷ []) ∙ or_from (list_any (bytes_eq y) found) ((bytes_eq y x) || false) k.0 (or_from (bytes_eq y x) false (flips y x ∙ h.0) refl), after_one found x ys h.1 k.1)

pub new_right : (test : List ℕ → Bool) (found xs : List (List ℕ)) → are_new test found xs ≡ true → AllByRecursion (λ x. test x ≡ true) xs × IsDistinct bytes_eq xs × AreApart found xs
new_right test found [] h = (tt, IsDistinct-from_count nat_list_eq_equiv [] refl, tt)
new_right test found (x ∷ xs) h =
    let a = and_parts (test x && not (list_any (bytes_eq x) found)) (are_new test (found ++ x ∷ []) xs) h in
    let b = and_parts (test x) (not (list_any (bytes_eq x) found)) a.0 in
    let c = new_right test (found ++ x ∷ []) xs a.1 in (
      (b.0, c.0),
      IsDistinct-cons bytes_eq x xs (AllByRecursion-weaker (λ y. list_any (bytes_eq y) (found ++ x ∷ []) ≡ false) (λ y. bytes_eq x y ≡ false) (λ y k. flips x y ∙ (before found x y k).1) xs c.2) c.1,
      (not-true (list_any (bytes_eq x) found) b.1, AllByRecursion-weaker (λ y. list_any (bytes_eq y) (found ++ x ∷ []) ≡ false) (λ y. list_any (bytes_eq y) found ≡ false) (λ y k. (before found x y k).0) xs c.2),
    )

pub new_complete : (test : List ℕ → Bool) (found xs : List (List ℕ)) → AllByRecursion (λ x. test x ≡ true) xs → IsDistinct bytes_eq xs → AreApart found xs → are_new test found xs ≡ true
new_complete test found [] h k a = refl
new_complete test found (x ∷ xs) h k a = rw (h.0, a.0) (new_complete test (found ++ x ∷ []) xs h.1 (IsDistinct-tail bytes_eq x xs k) (after_one found x xs (IsDistinct-head bytes_eq x xs k) a.1))

pub apart_of_none : (xs : List (List ℕ)) → AreApart [] xs
apart_of_none [] = tt
apart_of_none (x ∷ xs) = (refl, apart_of_none xs)

pub none_there : {A : Type 0} (o : Option A) → not (is_there o) ≡ true → o ≡ None
none_there None h = refl
none_there (Some x) h = absurd (false≢true h)

pub not_there : {A : Type 0} (o : Option A) → o ≡ None → not (is_there o) ≡ true
not_there o h = rw h refl
