-- Sections of entries: what fits tells of each entry, and entries that are seen by a view are spelled as what is seen.
use Rattle.std.proofs.Common.{◌≡◌, ℕ, List, [], ◌∷◌, ◌++◌, map, refl, sym, subst, ap, ◌∙◌, append_assoc}
use Rattle.std.specs.List.{All, AllByRecursion}
use Rattle.std.proofs.lemmas.List.{length-map}
use Rattle.std.proofs.lemmas.List.Elements.{All-from_recursion}
use Rattle.std.proofs.lemmas.List.Folds.{flat_map-map}
use Rattle.cse_image_parts.specs.Reader.{AllAfter}
use Rattle.cse_image_parts.specs.Spelling.{section, SectionFits}

each_fits : {X A : Type 0} (view : X → A) (P : List A → A → Type 0) (Q : X → Type 0) → ((before : List A) (x : X) → P before (view x) → Q x)
    → (before : List A) (xs : List X) → AllAfter P before (map view xs) → AllByRecursion Q xs
each_fits view P Q fits before [] h = tt
each_fits view P Q fits before (x ∷ xs) h = (fits before x h.0, each_fits view P Q fits (before ++ view x ∷ []) xs h.1)

-- what each entry tells of itself, whatever the entries before it
pub all_fit : {X A : Type 0} (view : X → A) (limit : ℕ) (P : List A → A → Type 0) (Q : X → Type 0) → ((before : List A) (x : X) → P before (view x) → Q x)
    → (xs ys : List X) → xs ≡ ys → SectionFits limit P (map view ys) → All Q xs
all_fit {X} view limit P Q fits xs ys same h = subst (λ (zs : List X). All Q zs) (sym same) (All-from_recursion Q ys (each_fits view P Q fits [] ys h.each))

-- a section of what is seen
section_seen : {X A : Type 0} (view : X → A) (entry : A → List ℕ) (xs : List X) → section (λ x. entry (view x)) xs ≡ section entry (map view xs)
unfolding section
section_seen view entry xs = rw (length-map xs view, flat_map-map entry view xs) refl

-- such a section was written before the rest
pub seen : {X A : Type 0} (view : X → A) (entry : A → List ℕ) (xs ys : List X) (n m rest : List ℕ) → xs ≡ ys → n ≡ m ++ section (λ x. entry (view x)) xs
    → n ++ rest ≡ m ++ (section entry (map view ys) ++ rest)
seen {X} view entry xs ys n m rest same is =
    ap (λ (z : List ℕ). z ++ rest) is ∙ append_assoc m (section (λ x. entry (view x)) xs) rest
    ∙ ap (λ (z : List ℕ). m ++ (z ++ rest)) (ap (λ (zs : List X). section (λ x. entry (view x)) zs) same ∙ section_seen view entry ys)

pub plain : {X : Type 0} (entry : X → List ℕ) (xs ys : List X) (n m rest : List ℕ) → xs ≡ ys → n ≡ m ++ section entry xs → n ++ rest ≡ m ++ (section entry ys ++ rest)
plain {X} entry xs ys n m rest same is =
    ap (λ (z : List ℕ). z ++ rest) is ∙ append_assoc m (section entry xs) rest ∙ ap (λ (zs : List X). m ++ (section entry zs ++ rest)) same
