-- Tables to which an entry is added, unless it is there.
use Rattle.std.proofs.Common.{◌≡◌, ℕ, ◌≤◌, ◌<◌, Bool, true, false, ◌||◌, if◌then◌else◌, List, [], ◌∷◌, ◌++◌, map, length, Some, slice_get, refl, sym, ap, subst, ◌∙◌, Bor, arith}
use Rattle.std.specs.List.{list_any}
use Rattle.std.specs.Option.{option_map}
use Rattle.std.specs.Str.{bytes_eq}
use Rattle.std.proofs.lemmas.List.{length-append, length-map, map-append}
use Rattle.std.proofs.lemmas.Option.{slice_get-map}
use Rattle.std.proofs.lemmas.Slice.Eq.{bytes_eq-Decides}
use Rattle.std.proofs.lemmas.Bool.{le-leb}
use Rattle.indexmap.specs.IndexSet.{insert_key}
use Rattle.cse_image_parts.specs.Reader.{AllAfter}
use Rattle.cse_image_parts.specs.Spelling.{SectionFits}

-- ---- texts behind references

abbrev there : Bor (List ℕ) → List ℕ
there t = t.now

any_same : (k : Bor (List ℕ)) (ks : List (Bor (List ℕ))) → list_any (λ x. bytes_eq k.now x.now) ks ≡ list_any (bytes_eq k.now) (map there ks)
any_same k [] = refl
any_same k (x ∷ xs) = ap (λ b. bytes_eq k.now x.now || b) (any_same k xs)

if_map : (b : Bool) (ks : List (Bor (List ℕ))) (k : Bor (List ℕ)) → map there (if b then ks else ks ++ k ∷ []) ≡ (if b then map there ks else map there ks ++ k.now ∷ [])
if_map true ks k = refl
if_map false ks k = map-append there ks (k ∷ [])

pub texts_added : (ks : List (Bor (List ℕ))) (k : Bor (List ℕ)) → map there (insert_key (λ x y. bytes_eq x.now y.now) ks k) ≡ insert_key bytes_eq (map there ks) k.now
texts_added ks k =
    if_map (list_any (λ x. bytes_eq k.now x.now) ks) ks k
    ∙ ap (λ b. if b then map there ks else map there ks ++ k.now ∷ []) (any_same k ks)

pub text_there : (ks : List (Bor (List ℕ))) (i : ℕ) (k value : Bor (List ℕ)) → slice_get ks i ≡ Some k → bytes_eq value.now k.now ≡ true → slice_get (map there ks) i ≡ Some value.now
text_there ks i k value at same =
    slice_get-map there ks i
    ∙ ap (option_map there) at
    ∙ ap Some (sym ((bytes_eq-Decides value.now k.now).0 same))

-- a table with a text that wasn't there is longer
pub text_longer : (n : ℕ) (ks : List (Bor (List ℕ))) (k : Bor (List ℕ)) → n ≤ length ks → list_any (λ x. bytes_eq k.now x.now) ks ≡ false → n < length (insert_key bytes_eq (map there ks) k.now)
text_longer n ks k room absent =
    let e = ap (λ b. length (if b then map there ks else map there ks ++ k.now ∷ [])) (sym (any_same k ks) ∙ absent) in
    let f = length-append (map there ks) (k.now ∷ []) in
    let g = length-map ks there in
    omega (arith, room, e, f, g)

-- ---- what fits

after_snoc : {A : Type 0} (P : A → Type 0) (before xs : List A) (x : A) → AllAfter (λ _. P) before xs → P x → AllAfter (λ _. P) before (xs ++ x ∷ [])
after_snoc P before [] x h p = (p, tt)
after_snoc P before (y ∷ ys) x h p = (h.0, after_snoc P (before ++ y ∷ []) ys x h.1 p)

pub section_added : {A : Type 0} (n : ℕ) (P : A → Type 0) (eq : A → A → Bool) (xs ys : List A) (x : A) → ys ≡ insert_key eq xs x → length ys ≤ n → P x → SectionFits n (λ _. P) xs → SectionFits n (λ _. P) ys
section_added n P eq xs ys x e room p h = by (list_any (eq x) xs) e
  where
    by : (b : Bool) → ys ≡ (if b then xs else xs ++ x ∷ []) → SectionFits n (λ _. P) ys
    by true f = subst (SectionFits n (λ _. P)) (sym f) h
    by false f = record { count = le-leb (length ys) n room; each = subst (AllAfter (λ _. P) []) (sym f) (after_snoc P [] xs x h.each p) }
