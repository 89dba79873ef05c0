-- Where lists of faults are empty, and where parts are there: the same truths on both sides.
use Rattle.std.specs.Prelude.{Bool, true, false, ◌&&◌, not}
use Rattle.std.proofs.Common.{◌≡◌, ℕ, List, [], ◌∷◌, ◌++◌, Option, Some, None, refl, sym, ap, ◌∙◌}
use Rattle.std.proofs.lemmas.Bool.{false≢true}
use Rattle.cse_lemmas.proofs.Booleans.{and-false, and_assoc, and-true}
use Rattle.cse_logic_names.specs.Walk.{is_there, joined, only_if}
use Rattle.cse_logic_faults.specs.Faults.{Fault, unless, least_of}

abbrev pub none : List Fault → Bool
none [] = true
none (x ∷ xs) = false

pub empty_where_none : (xs : List Fault) → none xs ≡ true → xs ≡ []
empty_where_none [] h = refl
empty_where_none (x ∷ xs) h = absurd (false≢true h)

-- a fault is told where there is one
pub least_there : (xs : List Fault) → is_there (least_of xs) ≡ not (none xs)
unfolding least_of
least_there [] = refl
least_there (x ∷ xs) = refl

-- ---- truths

pub and_both : {a b x y : Bool} → a ≡ x → b ≡ y → (a && b) ≡ (x && y)
and_both {b = b} {x = x} h k = ap (λ t. t && b) h ∙ ap (λ t. x && t) k

pub and_flip : (a b : Bool) → (a && b) ≡ (b && a)
and_flip true b = sym (and-true b)
and_flip false b = sym (and-false b)

-- the first of three goes behind the second
pub and_second : (a b c : Bool) → (a && (b && c)) ≡ (b && (a && c))
and_second true b c = refl
and_second false b c = sym (and-false b)

pub and_pairs : (a b c d : Bool) → ((a && b) && (c && d)) ≡ ((a && c) && (b && d))
and_pairs a b c d = and_assoc a b (c && d) ∙ ap (λ t. a && t) (and_second b c d) ∙ sym (and_assoc a c (b && d))

-- ---- faults

pub none_both : (xs ys : List Fault) → none (xs ++ ys) ≡ (none xs && none ys)
none_both [] ys = refl
none_both (x ∷ xs) ys = refl

pub none_unless : (b : Bool) (number token : ℕ) → none (unless b number token) ≡ b
unfolding unless
none_unless true number token = refl
none_unless false number token = refl

pub none_beside : (b : Bool) (number token : ℕ) (xs : List Fault) → none (unless b number token ++ xs) ≡ (b && none xs)
none_beside b number token xs = none_both (unless b number token) xs ∙ ap (λ t. t && none xs) (none_unless b number token)

pub none_of_two : (a b : Bool) (m x n y : ℕ) → none (unless a m x ++ unless b n y) ≡ (a && b)
none_of_two a b m x n y = none_beside a m x (unless b n y) ∙ ap (λ t. a && t) (none_unless b n y)

-- ---- parts

pub there_if : {A : Type 0} (b : Bool) (o : Option A) → is_there (only_if b o) ≡ (b && is_there o)
there_if true o = refl
there_if false o = refl

pub there_both : {A B C : Type 0} (f : A → B → C) (a : Option A) (b : Option B) → is_there (joined f a b) ≡ (is_there a && is_there b)
there_both f (Some x) (Some y) = refl
there_both f (Some x) None = refl
there_both f None b = refl

-- both are there where both have no fault
pub told_both : {A B C : Type 0} (f : A → B → C) (a : Option A) (b : Option B) (xs ys : List Fault) → is_there a ≡ none xs → is_there b ≡ none ys → is_there (joined f a b) ≡ none (xs ++ ys)
told_both f a b xs ys h k = there_both f a b ∙ and_both h k ∙ sym (none_both xs ys)

pub told_if : {A : Type 0} (b : Bool) (o : Option A) (number token : ℕ) (xs : List Fault) → is_there o ≡ none xs → is_there (only_if b o) ≡ none (unless b number token ++ xs)
told_if b o number token xs h = there_if b o ∙ ap (λ t. b && t) h ∙ sym (none_beside b number token xs)
