-- What holds of each entry after those before it, at a place of the list.
use Rattle.std.proofs.Common.{ℕ, zero, suc, ◌+◌, ◌<◌, List, [], ◌∷◌, ◌++◌, length, get_or, take, map, refl, sym, subst, arith, append_assoc}
use Rattle.std.proofs.lemmas.List.{append-nil}
use Rattle.std.proofs.Common.{◌≤◌, ◌≡◌, ◌∙◌, ap, Bool, false}
use Rattle.std.specs.Bool.{Decides}
use Rattle.std.proofs.lemmas.List.{take_more, map_push}
use Rattle.std.proofs.lemmas.Bool.{leb-true}
use Rattle.cse_image_parts.specs.Reader.{AllAfter}
use Rattle.std.proofs.Common.{leb}
use Rattle.std.specs.List.{AllByRecursion}
use Rattle.cse_image_parts.specs.Spelling.{SectionFits}
use Rattle.cse_image_parts.proofs.Algebra.{each_after}

after_at : {X A : Type 0} (f : X → A) (P : List A → A → Type 0) (xs : List X) (before : List A) → AllAfter P before (map f xs)
    → (i : ℕ) (d : X) → i < length xs → P (before ++ map f (take i xs)) (f (get_or xs i d))
after_at f P [] before h i d lt = absurd (omega arith)
after_at f P (x ∷ xs) before h zero d lt = rw append-nil h.0
after_at {X} {A} f P (x ∷ xs) before h (suc i) d lt =
    subst (λ (ys : List A). P ys (f (get_or xs i d))) (append_assoc before (f x ∷ []) (map f (take i xs))) (after_at f P xs (before ++ f x ∷ []) h.1 i d (omega arith))

pub at_place : {X A : Type 0} (f : X → A) (P : List A → A → Type 0) (xs : List X) → AllAfter P [] (map f xs) → (i : ℕ) (d : X) → i < length xs → P (map f (take i xs)) (f (get_or xs i d))
at_place f P xs h i d lt = after_at f P xs [] h i d lt

pub count_small : {A : Type 0} (limit : ℕ) (P : List A → A → Type 0) (xs : List A) → SectionFits limit P xs → length xs ≤ limit
count_small limit P xs fits = leb-true (length xs) limit fits.count

-- ---- a loop that checks each entry after those before it

after_snoc : {A : Type 0} (P : List A → A → Type 0) (before xs : List A) (a : A) → AllAfter P before xs → P (before ++ xs) a → AllAfter P before (xs ++ a ∷ [])
after_snoc P before [] a h p = (rw append-nil at p, tt)
after_snoc {A} P before (x ∷ xs) a h p = (h.0, after_snoc P (before ++ x ∷ []) xs a h.1 (subst (λ (ys : List A). P ys a) (sym (append_assoc before (x ∷ []) xs)) p))

-- one entry more
pub grow : {X A : Type 0} (f : X → A) (P : List A → A → Type 0) (xs : List X) (i : ℕ) (x : X) → i < length xs → x ≡ get_or xs i x
    → AllAfter P [] (map f (take i xs)) → P (map f (take i xs)) (f x) → AllAfter P [] (map f (take (i + 1) xs))
grow {X} {A} f P xs i x lt is h p =
    let more : take (i + 1) xs ≡ take i xs ++ x ∷ [] = subst (λ (y : X). take (i + 1) xs ≡ take i xs ++ y ∷ []) (sym is) (take_more xs i x lt) in
    subst (λ (ys : List A). AllAfter P [] ys) (sym (ap (map f) more ∙ map_push f (take i xs) x)) (after_snoc P [] (map f (take i xs)) (f x) h p)

-- an entry that does not fit
pub refuse : {X A : Type 0} (f : X → A) (P : List A → A → Type 0) (xs : List X) (i : ℕ) (x : X) (r : Bool) → i < length xs → x ≡ get_or xs i x
    → Decides r (P (map f (take i xs)) (f x)) → r ≡ false → Decides false (AllAfter P [] (map f xs))
refuse {X} {A} f P xs i x r lt is d e = (λ no. absurd cc, λ all. sym e ∙ d.1 (subst (λ (y : X). P (map f (take i xs)) (f y)) (sym is) (at_place f P xs all i x lt)))

plain : {A : Type 0} (xs : List A) → map (λ x. x) xs ≡ xs
plain [] = refl
plain {A} (x ∷ xs) = ap (λ (ys : List A). x ∷ ys) (plain xs)

pub grow_plain : {A : Type 0} (P : List A → A → Type 0) (xs : List A) (i : ℕ) (x : A) → i < length xs → x ≡ get_or xs i x
    → AllAfter P [] (take i xs) → P (take i xs) x → AllAfter P [] (take (i + 1) xs)
grow_plain {A} P xs i x lt is h p =
    subst (λ (ys : List A). AllAfter P [] ys) (plain (take (i + 1) xs))
    (grow (λ y. y) P xs i x lt is (subst (λ (ys : List A). AllAfter P [] ys) (sym (plain (take i xs))) h) (subst (λ (ys : List A). P ys x) (sym (plain (take i xs))) p))

pub refuse_plain : {A : Type 0} (P : List A → A → Type 0) (xs : List A) (i : ℕ) (x : A) (r : Bool) → i < length xs → x ≡ get_or xs i x
    → Decides r (P (take i xs) x) → r ≡ false → Decides false (AllAfter P [] xs)
refuse_plain {A} P xs i x r lt is d e =
    subst (λ (ys : List A). Decides false (AllAfter P [] ys)) (plain xs)
    (refuse (λ y. y) P xs i x r lt is (subst (λ (ys : List A). Decides r (P ys x)) (sym (plain (take i xs))) d) e)

pub at_place_plain : {A : Type 0} (P : List A → A → Type 0) (xs : List A) → AllAfter P [] xs → (i : ℕ) (d : A) → i < length xs → P (take i xs) (get_or xs i d)
at_place_plain {A} P xs h i d lt =
    subst (λ (ys : List A). P ys (get_or xs i d)) (plain (take i xs)) (at_place (λ y. y) P xs (subst (λ (ys : List A). AllAfter P [] ys) (sym (plain xs)) h) i d lt)

-- a section whose entries fit, whatever the entries before them, is judged by its count
pub section_decided : {A : Type 0} (limit : ℕ) (P : A → Type 0) (xs : List A) (r : Bool) → AllByRecursion P xs → r ≡ leb (length xs) limit → Decides r (SectionFits limit (λ _. P) xs)
section_decided limit P xs r all is = (λ e. record { count = sym is ∙ e; each = each_after P [] xs all }, λ fits. is ∙ fits.count)
