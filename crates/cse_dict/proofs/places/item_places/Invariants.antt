use Rattle.std.proofs.Common.{◌≡◌, drop, map, []}
use Rattle.cse_dict.specs.Dictionary.{places_from}
use Rattle.cse_dict.proofs.places.item_places.Given as goal

abbrev pub invariant-items : goal.invariant-items
invariant-items l =
    (l.place ≡ l.item-index) × (places_from l.places l.place (map (λ x. x.name) (drop l.item-index l.items)) ≡ places_from [] 0 (map (λ x. x.name) l.items))
