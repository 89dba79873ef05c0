-- The dimensions of all arrays, which are found one after the other, and what is made of the members of one.
use Rattle.std.specs.Prelude.{Bool, ◌&&◌}
use Rattle.std.proofs.Common.{◌≡◌, ℕ, ◌+◌, ◌<◌, ◌≤◌, List, [], ◌∷◌, ◌++◌, length, map, drop, get_or, Option, option_map, refl, sym, ap, subst, ◌∙◌, append_assoc}
use Rattle.std.proofs.lemmas.List.{append-nil, drop_all}
use Rattle.std.proofs.lemmas.Option.{slice_get-get_or, get_or_from_slice_get}
use Rattle.cse_lemmas.proofs.Lists.{drop_read}
use Rattle.cse_syntax_tree.specs.Tree as syntax
use Rattle.cse_syntax_tree.specs.declared.tree.Declaration as rust
use Rattle.cse_logic_tree.specs.Typed.{Dimension}
use Rattle.cse_logic_names.specs.Scope.{Scope}
use Rattle.cse_logic_names.specs.Walk.{walk, so_far, found_more, is_there}
use Rattle.cse_logic_names.proofs.Walks.{step_made}
use Rattle.cse_types.specs.JudgeTree.{arrays_judged}

first_array : (s : Scope) (d : syntax.Declaration) (ds : List syntax.Declaration) → arrays_judged s (d ∷ []) ++ arrays_judged s ds ≡ arrays_judged s (d ∷ ds)
first_array s (syntax.Numeric names) ds = refl
first_array s (syntax.Alpha size names) ds = refl
first_array s (syntax.Array' x) ds = refl
first_array s (syntax.Function' name parameters body) ds = refl

pub arrays_turn : (s : Scope) (items : List rust.Declaration) (i : ℕ) (x : rust.Declaration) → i < length items → x ≡ get_or items i x → (found found' total : List (Option (List Dimension)))
    → found ++ arrays_judged s (map syntax.declaration (drop i items)) ≡ total → found' ≡ found ++ arrays_judged s (syntax.declaration x ∷ [])
    → found' ++ arrays_judged s (map syntax.declaration (drop (i + 1) items)) ≡ total
arrays_turn s items i x lt is found found' total inv e =
    ap (λ l. l ++ arrays_judged s (map syntax.declaration (drop (i + 1) items))) e
    ∙ append_assoc found (arrays_judged s (syntax.declaration x ∷ [])) (arrays_judged s (map syntax.declaration (drop (i + 1) items)))
    ∙ ap (λ l. found ++ l) (first_array s (syntax.declaration x) (map syntax.declaration (drop (i + 1) items)))
    ∙ ap (λ l. found ++ arrays_judged s (map syntax.declaration l)) (sym (drop_read items i x lt is))
    ∙ inv

pub arrays_end : (s : Scope) (items : List rust.Declaration) (i : ℕ) → length items ≤ i → (found total : List (Option (List Dimension))) → found ++ arrays_judged s (map syntax.declaration (drop i items)) ≡ total → found ≡ total
arrays_end s items i le found total inv = sym (append-nil found) ∙ ap (λ l. found ++ arrays_judged s (map syntax.declaration l)) (sym (drop_all i items le)) ∙ inv

-- one member more is made
pub made_turn : {A R B : Type 0} (f : A → Option B) (g : R → B) (copied items : List A) → copied ≡ items → (i : ℕ) (d : A) → i < length copied → (b both there : Bool) (xs xs' : List R) (y : Option R) (all : Option (List B))
    → so_far b (map g xs) (walk (λ x rest. f x) (drop i items)) ≡ all → option_map g y ≡ f (get_or copied i d) → xs' ≡ found_more xs y → there ≡ is_there y → both ≡ (b && there)
    → so_far both (map g xs') (walk (λ x rest. f x) (drop (i + 1) items)) ≡ all
made_turn {A} f g copied items same i d lt b both there xs xs' y all inv e k h j =
    let x : A = get_or copied i d in
    let is = sym (get_or_from_slice_get copied i x x (slice_get-get_or copied i d lt)) ∙ ap (λ (l : List A). get_or l i x) same in
    step_made (λ (x : A) (rest : List A). f x) g items i x b both there xs xs' y all (subst (λ (l : List A). i < length l) same lt) is inv e k h j
