-- Marks of one list of items and then of another.
use Rattle.std.proofs.Common.{◌≡◌, ℕ, ◌+◌, ◌<◌, ◌≤◌, List, [], ◌∷◌, ◌++◌, length, drop, get_or, refl, sym, ap, ◌∙◌, append_assoc}
use Rattle.std.specs.Prelude.{Bool, slice_set, true}
use Rattle.std.proofs.lemmas.List.{drop_all}
use Rattle.cse_lemmas.proofs.Lists.{drop_read}
use Rattle.cse_logic_tree.specs.Typed.{Number, Statements, Arms, Procedure, Tree, no_arm, arms}
use Rattle.cse_edit.specs.Items.{written_by_all, written_by_arms, written_by_globals, written_by_procedures, written_by_tree}
use Rattle.cse_edit.specs.Marks.{marked}

pub marked_both : (marks : List Bool) (xs ys : List ℕ) → marked marks (xs ++ ys) ≡ marked (marked marks xs) ys
unfolding marked
marked_both marks [] ys = refl
marked_both marks (x ∷ xs) ys = marked_both (slice_set marks x true) xs ys

pub marked_none : (marks : List Bool) → marked marks [] ≡ marks
unfolding marked
marked_none marks = refl

-- one member of a list more
pub marked_turn : {A : Type 0} (f : A → List ℕ) (k : List A → List ℕ) → ((x : A) (xs : List A) → k (x ∷ xs) ≡ f x ++ k xs) → (items : List A) (i : ℕ) (x : A) → i < length items → x ≡ get_or items i x
    → (marks marks' total : List Bool) → marked marks (k (drop i items)) ≡ total → marks' ≡ marked marks (f x) → marked marks' (k (drop (i + 1) items)) ≡ total
marked_turn f k h items i x lt is marks marks' total inv e =
    ap (λ z. marked z (k (drop (i + 1) items))) e
    ∙ sym (marked_both marks (f x) (k (drop (i + 1) items)))
    ∙ ap (marked marks) (sym (h x (drop (i + 1) items)))
    ∙ ap (λ l. marked marks (k l)) (sym (drop_read items i x lt is))
    ∙ inv

pub marked_end : {A : Type 0} (k : List A → List ℕ) → k [] ≡ [] → (items : List A) (i : ℕ) → length items ≤ i → (marks total : List Bool) → marked marks (k (drop i items)) ≡ total → marks ≡ total
marked_end k h items i le marks total inv =
    sym (marked_none marks) ∙ ap (marked marks) (sym (ap k (drop_all i items le) ∙ h)) ∙ inv

-- the arms, and then the `else`
pub arms_then : (xs : List (Number × Statements)) (last : Arms) → written_by_arms (arms xs last) ≡ written_by_arms (arms xs no_arm) ++ written_by_arms last
arms_then [] last = refl
arms_then (x ∷ xs) last =
    ap (λ is. written_by_all x.1 ++ is) (arms_then xs last)
    ∙ sym (append_assoc (written_by_all x.1) (written_by_arms (arms xs no_arm)) (written_by_arms last))

pub marked_if : (marks : List Bool) (body : Statements) (xs : List (Number × Statements)) (last : Arms)
    → marked marks (written_by_all body ++ written_by_arms (arms xs last)) ≡ marked (marked (marked marks (written_by_all body)) (written_by_arms (arms xs no_arm))) (written_by_arms last)
marked_if marks body xs last =
    marked_both marks (written_by_all body) (written_by_arms (arms xs last))
    ∙ ap (marked (marked marks (written_by_all body))) (arms_then xs last)
    ∙ marked_both (marked marks (written_by_all body)) (written_by_arms (arms xs no_arm)) (written_by_arms last)

-- the functions of a source, and then its procedures
pub marked_source : (marks behind all : List Bool) (t : Tree) (functions : List ℕ) (procedures : List Procedure) → functions ≡ written_by_globals t.globals → procedures ≡ t.procedures
    → behind ≡ marked marks functions → all ≡ marked behind (written_by_procedures procedures) → all ≡ marked marks (written_by_tree t)
marked_source marks behind all t functions procedures same_functions same_procedures e f =
    f
    ∙ ap (λ (ps : List Procedure). marked behind (written_by_procedures ps)) same_procedures
    ∙ ap (λ b. marked b (written_by_procedures t.procedures)) (e ∙ ap (marked marks) same_functions)
    ∙ sym (marked_both marks (written_by_globals t.globals) (written_by_procedures t.procedures))
