-- The dimensions of hot decks, one after the other.
use Rattle.std.proofs.Common.{◌≡◌, List, [], ◌∷◌, map, refl, ap}
use Rattle.std.specs.Prelude.{◌&&◌}
use Rattle.std.specs.List.{list_all}
use Rattle.cse_logic_tree.specs.declared.tree.Dimension as rust
use Rattle.cse_logic_tree.specs.declared.tree.Dimension.TheVariants as d
use Rattle.cse_logic_tree.specs.Typed.{dimension}
use Rattle.cse_logic_names.specs.Scope.{Scope}
use Rattle.cse_logic_faults.specs.FaultsOfExpressions.{is_deck, are_picked}
use Rattle.cse_logic_faults.specs.Decks.{is_set, is_pick}

pub deck_made : (xs : List rust.Dimension) → list_all (λ x. is_set (dimension x)) xs ≡ is_deck (map dimension xs)
deck_made [] = refl
deck_made (d.Number digits size ∷ xs) = refl
deck_made (d.Set name set one_more size ∷ xs) = deck_made xs

pub picks_made : (s : Scope) (xs : List rust.Dimension) → list_all (λ x. is_pick s (dimension x)) xs ≡ are_picked s (map dimension xs)
picks_made s [] = refl
picks_made s (d.Number digits size ∷ xs) = picks_made s xs
picks_made s (d.Set name set one_more size ∷ xs) = ap (λ b. is_pick s (dimension (d.Set name set one_more size)) && b) (picks_made s xs)
