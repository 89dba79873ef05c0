-- Faults of names that are found one after the other.
use Rattle.std.proofs.Common.{◌≡◌, ℕ, ◌+◌, ◌<◌, ◌≤◌, get_or, List, [], ◌∷◌, ◌++◌, length, map, drop, refl, ap, sym, ◌∙◌}
use Rattle.std.proofs.lemmas.List.{drop_all, drop_more}
use Rattle.cse_dict.specs.Dictionary.{DictionaryText}
use Rattle.cse_dict.specs.Keys.{kept_name}
use Rattle.cse_syntax_tree.specs.Tree as syntax
use Rattle.cse_syntax_tree.specs.Tree.{written}
use Rattle.cse_syntax_tree.specs.declared.tree.Lexeme.{Lexeme}
use Rattle.cse_syntax_tree.specs.declared.tree.Parameter.{Parameter}
use Rattle.cse_syntax_tree.specs.declared.tree.Declaration.{Declaration}
use Rattle.cse_logic_faults.specs.Faults.{Fault}
use Rattle.cse_logic_faults.proofs.Lists.{turn_with, state_turn}
use Rattle.cse_types.specs.NameFaults.{and_name, and_names, kept_names, name_faults, new_names_faults, spelled, declared_faults, names_behind, parameters_behind, names_faults}

abbrev pub pair : {A B : Type 0} → A → B → A × B
pair a b = (a, b)

pub pair_is : {A B : Type 0} (a a' : A) (b b' : B) → a ≡ a' → b ≡ b' → pair a b ≡ pair a' b'
pair_is a a' b b' e f = ap (λ x. pair x b) e ∙ ap (λ y. pair a' y) f

-- the next member of a list, where it is copied
pub next_in : {A : Type 0} (copied items : List A) → copied ≡ items → (i : ℕ) (x : A) → i < length copied → drop i items ≡ get_or copied i x ∷ drop (i + 1) items
next_in copied items same i x lt = sym (ap (drop i) same) ∙ drop_more copied i x lt ∙ ap (λ ys. get_or copied i x ∷ drop (i + 1) ys) same

pub state_end : {S A : Type 0} (k : S → List A → S) → ((s : S) → k s [] ≡ s) → (items : List A) (i : ℕ) → length items ≤ i → (s total : S) → k s (drop i items) ≡ total → s ≡ total
state_end k h items i le s total inv = sym (h s) ∙ ap (k s) (sym (drop_all i items le)) ∙ inv

-- ---- names

pub names_turn : (d : DictionaryText) (others : List (List ℕ)) (copied items : List Lexeme) → copied ≡ items → (i : ℕ) (x : Lexeme) → i < length copied → (s s' : List (List ℕ)) (g g' total : List Fault)
    → g ++ new_names_faults d s others (map written (drop i items)) ≡ total → s' ≡ and_name s (kept_name (get_or copied i x).text.now) → g' ≡ g ++ name_faults d s others (written (get_or copied i x))
    → g' ++ new_names_faults d s' others (map written (drop (i + 1) items)) ≡ total
names_turn d others copied items same i x lt = turn_with (λ s (y : Lexeme). and_name s (kept_name y.text.now)) (λ s (y : Lexeme). name_faults d s others (written y)) (λ s (ys : List Lexeme). new_names_faults d s others (map written ys)) (λ s y ys. refl)
    _ _ (get_or copied i x) (next_in copied items same i x lt)

pub known_turn : (copied items : List Lexeme) → copied ≡ items → (i : ℕ) (x : Lexeme) → i < length copied → (s s' total : List (List ℕ)) → and_names s (kept_names (map written (drop i items))) ≡ total
    → s' ≡ and_name s (kept_name (get_or copied i x).text.now) → and_names s' (kept_names (map written (drop (i + 1) items))) ≡ total
known_turn copied items same i x lt = state_turn (λ s (y : Lexeme). and_name s (kept_name y.text.now)) (λ s (ys : List Lexeme). and_names s (kept_names (map written ys))) (λ s y ys. refl) _ _ (get_or copied i x) (next_in copied items same i x lt)

-- ---- parameters

pub parameters_turn : (d : DictionaryText) (others : List (List ℕ)) (copied items : List Parameter) → copied ≡ items → (i : ℕ) (x : Parameter) → i < length copied → (s s' : List (List ℕ)) (g g' total : List Fault)
    → g ++ new_names_faults d s others (spelled (map syntax.parameter (drop i items))) ≡ total → s' ≡ and_name s (kept_name (get_or copied i x).name.text.now) → g' ≡ g ++ name_faults d s others (written (get_or copied i x).name)
    → g' ++ new_names_faults d s' others (spelled (map syntax.parameter (drop (i + 1) items))) ≡ total
parameters_turn d others copied items same i x lt = turn_with (λ s (y : Parameter). and_name s (kept_name y.name.text.now)) (λ s (y : Parameter). name_faults d s others (written y.name)) (λ s (ys : List Parameter). new_names_faults d s others (spelled (map syntax.parameter ys))) (λ s y ys. refl)
    _ _ (get_or copied i x) (next_in copied items same i x lt)

pub added_turn : (copied items : List Parameter) → copied ≡ items → (i : ℕ) (x : Parameter) → i < length copied → (s s' total : List (List ℕ)) → and_names s (kept_names (spelled (map syntax.parameter (drop i items)))) ≡ total
    → s' ≡ and_name s (kept_name (get_or copied i x).name.text.now) → and_names s' (kept_names (spelled (map syntax.parameter (drop (i + 1) items)))) ≡ total
added_turn copied items same i x lt = state_turn (λ s (y : Parameter). and_name s (kept_name y.name.text.now)) (λ s (ys : List Parameter). and_names s (kept_names (spelled (map syntax.parameter ys)))) (λ s y ys. refl) _ _ (get_or copied i x) (next_in copied items same i x lt)

-- ---- declarations

abbrev pub Names : Type 0
Names = List (List ℕ) × List (List ℕ)

pub declared_turn : (d : DictionaryText) (here rest : List Declaration) (x : Declaration) → here ≡ x ∷ rest → (n n' p p' : List (List ℕ)) (g g' total : List Fault) → g ++ names_faults d n p (map syntax.declaration here) ≡ total
    → n' ≡ names_behind n (syntax.declaration x) → p' ≡ parameters_behind p (syntax.declaration x) → g' ≡ g ++ declared_faults d n p (syntax.declaration x) → g' ++ names_faults d n' p' (map syntax.declaration rest) ≡ total
declared_turn d here rest x next n n' p p' g g' total inv en ep found =
    turn_with (λ (s : Names) (x : Declaration). (names_behind s.0 (syntax.declaration x), parameters_behind s.1 (syntax.declaration x))) (λ (s : Names) (x : Declaration). declared_faults d s.0 s.1 (syntax.declaration x))
    (λ (s : Names) (xs : List Declaration). names_faults d s.0 s.1 (map syntax.declaration xs)) (λ s x xs. refl) here rest x next (n, p) (n', p') g g' total inv (pair_is n' _ p' _ en ep) found
