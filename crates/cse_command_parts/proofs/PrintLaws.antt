-- What is written part by part, where a part fails.
use Rattle.std.proofs.Common.{◌≡◌, ℕ, suc, ◌+◌, ◌<◌, ◌≤◌, List, [], ◌∷◌, ◌++◌, length, get_or, take, drop, None, Some, Result, ap, sym, ◌∙◌, subst, append_assoc, append-nil, arith, add-one, take-append-drop, take-suc, drop-cons, ⊎_elim}
use Rattle.std.specs.Prelude.{slice_get}
use Rattle.std.specs.List.{flat_map}
use Rattle.cse_lemmas.proofs.Options.{none_and_some}
use Rattle.cse_value.specs.Device.{Appends}
use Rattle.std.proofs.lemmas.Grind.{flat_map-append}
use Rattle.std.proofs.lemmas.List.Concat.{flat_map-cons}
use Rattle.std.proofs.lemmas.Option.{same_Some, slice_get_cases, slice_get_within, slice_get-get_or}
use Rattle.cse_value.proofs.WriteLaws.{Appends-trans}
use Rattle.std.proofs.Math.Seq.{take-length}
use Rattle.cse_value.specs.Writing.{AppendsFront, WritesAll}
use Rattle.cse_value.proofs.WriteLaws.{AppendsFront-more, AppendsFront-after, WritesAll-after}

-- what the entries before, one, and those after it make
cut_at : {X : Type 0} (f : X → List ℕ) (xs : List X) (i : ℕ) (d : X) → i < length xs
    → (flat_map f (take i xs) ++ f (get_or xs i d)) ++ flat_map f (drop (suc i) xs) ≡ flat_map f xs
cut_at f xs i d h =
    append_assoc (flat_map f (take i xs)) (f (get_or xs i d)) (flat_map f (drop (suc i) xs))
    ∙ (ap (λ l. flat_map f (take i xs) ++ l) (sym (flat_map-cons f (get_or xs i d) (drop (suc i) xs)))
    ∙ (ap (λ l. flat_map f (take i xs) ++ flat_map f l) (sym (drop-cons xs i d h))
    ∙ (sym (flat_map-append f (take i xs) (drop i xs)) ∙ ap (flat_map f) (take-append-drop i xs))))

-- one entry was not written whole
pub front_or : {X : Type 0} (f : X → List ℕ) (xs : List X) (i : ℕ) (d : X) (a b c : List ℕ) → i < length xs
    → Appends a b (flat_map f (take i xs)) → AppendsFront b c (f (get_or xs i d)) → AppendsFront a c (flat_map f xs)
front_or f xs i d a b c h before front =
    let two = AppendsFront-after a b c (flat_map f (take i xs)) (f (get_or xs i d)) before front in
    subst (λ l. AppendsFront a c l) (cut_at f xs i d h) (AppendsFront-more a c (flat_map f (take i xs) ++ f (get_or xs i d)) (flat_map f (drop (suc i) xs)) two)

-- ---- entries, one after the other

read_at : {X : Type 0} (xs : List X) (i : ℕ) (x : X) → slice_get xs i ≡ Some x → get_or xs i x ≡ x
read_at xs i x e = same_Some _ _ (sym (slice_get-get_or xs i x (slice_get_within xs i x e)) ∙ e)

-- the entry at a place was not written whole
pub front_at : {X : Type 0} (f : X → List ℕ) (xs : List X) (i : ℕ) (x : X) (a b c : List ℕ) → slice_get xs i ≡ Some x
    → Appends a b (flat_map f (take i xs)) → AppendsFront b c (f x) → AppendsFront a c (flat_map f xs)
front_at f xs i x a b c e before front =
    front_or f xs i x a b c (slice_get_within xs i x e) before (subst (λ y. AppendsFront b c (f y)) (sym (read_at xs i x e)) front)

one_more : {X : Type 0} (f : X → List ℕ) (xs : List X) (i : ℕ) (x : X) → slice_get xs i ≡ Some x → flat_map f (take (suc i) xs) ≡ flat_map f (take i xs) ++ f x
one_more f xs i x e =
    ap (flat_map f) (take-suc xs i x (slice_get_within xs i x e) ∙ ap (λ y. take i xs ++ y ∷ []) (read_at xs i x e))
    ∙ (flat_map-append f (take i xs) (x ∷ []) ∙ ap (λ l. flat_map f (take i xs) ++ l) (flat_map-cons f x [] ∙ append-nil (f x)))

-- and was
pub whole_at : {X : Type 0} (f : X → List ℕ) (xs : List X) (i : ℕ) (x : X) (a b c : List ℕ) → slice_get xs i ≡ Some x
    → Appends a b (flat_map f (take i xs)) → Appends b c (f x) → Appends a c (flat_map f (take (i + 1) xs))
whole_at f xs i x a b c e before one =
    rw (add-one) (subst (λ l. Appends a c l) (sym (one_more f xs i x e)) (Appends-trans a b c (flat_map f (take i xs)) (f x) before one))

at_end : {X : Type 0} (xs : List X) (i : ℕ) → slice_get xs i ≡ None → i ≤ length xs → i ≡ length xs
at_end xs i e h = ⊎_elim (λ found. absurd (none_and_some _ _ e found.2)) (λ past. omega (arith, h, past.0)) (slice_get_cases xs i).1

-- no entry is left
pub whole_end : {X : Type 0} (f : X → List ℕ) (xs : List X) (i : ℕ) (a b : List ℕ) → slice_get xs i ≡ None → i ≤ length xs → Appends a b (flat_map f (take i xs)) → Appends a b (flat_map f xs)
whole_end f xs i a b e h before = subst (λ l. Appends a b (flat_map f l)) (ap (λ n. take n xs) (at_end xs i e h) ∙ take-length xs) before

-- ---- a line

-- its text, or its end, was not written whole
pub line_front : (text known : List ℕ) (a b : List ℕ) → text ≡ known → AppendsFront a b text → AppendsFront a b (known ++ 10 ∷ [])
line_front text known a b e front = AppendsFront-more a b known (10 ∷ []) (subst (λ l. AppendsFront a b l) e front)

pub line_whole : {T E : Type 0} (r : Result T E) (text known : List ℕ) (a b c : List ℕ) → text ≡ known → Appends a b text → WritesAll r b c (10 ∷ []) → WritesAll r a c (known ++ 10 ∷ [])
line_whole r text known a b c e before w = WritesAll-after r a b c known (10 ∷ []) (subst (λ l. Appends a b l) e before) w
