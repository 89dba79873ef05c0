-- Lists that are made one member after the other, and how many messages were told.
use Rattle.std.proofs.Common.{◌≡◌, ◌+◌, Bool, true, false, List, [], ◌∷◌, ◌++◌, length, map, Option, Some, None, sym, ap, ◌∙◌, subst, option_map}
use Rattle.std.specs.Prelude.{◌&&◌}
use Rattle.std.proofs.lemmas.List.{length-map, append-nil, length-append}
use Rattle.cse_syntax_tree.specs.Tree as syntax
use Rattle.cse_types.specs.declared.told.Told.{Told}
use Rattle.cse_types.specs.Told.{told_of}
use Rattle.cse_logic_names.specs.Walk.{is_there, joined, so_far, found_more}
use Rattle.cse_logic_names.proofs.Walks.{turn_is, there_map, map_found}

pub told_count : (ts ts' : List Told) (more : List (syntax.Message × Bool)) → map told_of ts' ≡ map told_of ts ++ more → length ts' ≡ length ts + length more
told_count ts ts' more e =
    sym (length-map ts' told_of) ∙ ap length e ∙ length-append (map told_of ts) more ∙ ap (λ n. n + length more) (length-map ts told_of)

-- one member of a list that is made more
pub made_turn : {R B : Type 0} (g : R → B) (b both there : Bool) (xs xs' : List R) (y : Option R) (judged : Option B) (head rest all : Option (List B)) → so_far b (map g xs) head ≡ all → head ≡ joined (λ y ys. y ∷ ys) judged rest → option_map g y ≡ judged
    → xs' ≡ found_more xs y → there ≡ is_there y → both ≡ (b && there) → so_far both (map g xs') rest ≡ all
made_turn g b both there xs xs' y judged head rest all inv h e k t j =
    ap (λ c. so_far c (map g xs') rest) (j ∙ ap (λ c. b && c) (t ∙ sym (there_map g y)))
    ∙ ap (λ l. so_far (b && is_there (option_map g y)) l rest) (ap (map g) k ∙ map_found g xs y)
    ∙ turn_is b (map g xs) (option_map g y) rest
    ∙ ap (λ z. so_far b (map g xs) (joined (λ y ys. y ∷ ys) z rest)) e
    ∙ ap (so_far b (map g xs)) (sym h)
    ∙ inv

-- the list at its end
pub made_end : {R B : Type 0} (g : R → B) (b : Bool) (xs : List R) (head all : Option (List B)) → head ≡ Some [] → so_far b (map g xs) head ≡ all → (b ≡ true → all ≡ Some (map g xs)) × (b ≡ false → all ≡ None) × (is_there all ≡ b)
made_end g true xs head all h inv =
    let is = sym inv ∙ ap (so_far true (map g xs)) h ∙ ap Some (append-nil (map g xs)) in
    (λ t. is, λ f. absurd (true_not_false f), ap is_there is)
  where
    true_not_false : true ≡ false → ⊥
    true_not_false e = subst (λ (b : Bool). if_true b) e tt
      where
        if_true : Bool → Type 0
        if_true true = Unit {0}
        if_true false = ⊥
made_end g false xs head all h inv = (λ t. absurd (false_not_true t), λ f. sym inv, ap is_there (sym inv))
  where
    false_not_true : false ≡ true → ⊥
    false_not_true e = subst (λ (b : Bool). if_false b) e tt
      where
        if_false : Bool → Type 0
        if_false false = Unit {0}
        if_false true = ⊥
