-- Faults that are found one list after the other.
use Rattle.std.proofs.Common.{◌≡◌, ℕ, ◌+◌, ◌<◌, ◌≤◌, get_or, drop, List, [], ◌∷◌, ◌++◌, length, ap, sym, ◌∙◌, append_assoc}
use Rattle.std.proofs.lemmas.List.{append-nil, drop_all}
use Rattle.cse_lemmas.proofs.Lists.{drop_read}
use Rattle.cse_logic_faults.specs.Faults.{Fault}

-- none more
pub append_none : {X : Type 0} (xs : List X) → xs ++ [] ≡ xs
append_none xs = append-nil xs

-- two lists, one behind the other
pub behind : (old us vs : List Fault) → old ++ (us ++ vs) ≡ (old ++ us) ++ vs
behind old us vs = sym (append_assoc old us vs)

-- one member of a list more, where what is known changes
pub turn_with : {S A : Type 0} (step : S → A → S) (f : S → A → List Fault) (k : S → List A → List Fault) → ((s : S) (x : A) (xs : List A) → k s (x ∷ xs) ≡ f s x ++ k (step s x) xs) → (here rest : List A) (x : A) → here ≡ x ∷ rest
    → (s s' : S) (g g' total : List Fault) → g ++ k s here ≡ total → s' ≡ step s x → g' ≡ g ++ f s x → g' ++ k s' rest ≡ total
turn_with step f k h here rest x next s s' g g' total inv e found =
    ap (λ z. z ++ k s' rest) found
    ∙ append_assoc g (f s x) (k s' rest)
    ∙ ap (λ z. g ++ (f s x ++ k z rest)) e
    ∙ ap (λ l. g ++ l) (sym (h s x rest))
    ∙ ap (λ l. g ++ k s l) (sym next)
    ∙ inv

-- what is known
pub state_turn : {S A : Type 0} (step : S → A → S) (k : S → List A → S) → ((s : S) (x : A) (xs : List A) → k s (x ∷ xs) ≡ k (step s x) xs) → (here rest : List A) (x : A) → here ≡ x ∷ rest
    → (s s' total : S) → k s here ≡ total → s' ≡ step s x → k s' rest ≡ total
state_turn step k h here rest x next s s' total inv e =
    ap (λ z. k z rest) e ∙ sym (h s x rest) ∙ ap (k s) (sym next) ∙ inv

-- one member of a list more
pub turn : {A : Type 0} (f : A → List Fault) (k : List A → List Fault) → ((x : A) (xs : List A) → k (x ∷ xs) ≡ f x ++ k xs) → (items : List A) (i : ℕ) (x : A) → i < length items → x ≡ get_or items i x
    → (g g' total : List Fault) → g ++ k (drop i items) ≡ total → g' ≡ g ++ f x → g' ++ k (drop (i + 1) items) ≡ total
turn f k h items i x lt is g g' total inv e =
    ap (λ z. z ++ k (drop (i + 1) items)) e
    ∙ append_assoc g (f x) (k (drop (i + 1) items))
    ∙ ap (λ l. g ++ l) (sym (h x (drop (i + 1) items)))
    ∙ ap (λ l. g ++ k l) (sym (drop_read items i x lt is))
    ∙ inv

pub found_end : {A : Type 0} (k : List A → List Fault) → k [] ≡ [] → (items : List A) (i : ℕ) → length items ≤ i → (g total : List Fault) → g ++ k (drop i items) ≡ total → g ≡ total
found_end k h items i le g total inv =
    sym (append-nil g) ∙ ap (λ l. g ++ l) (sym (ap k (drop_all i items le) ∙ h)) ∙ inv
