use Rattle.std.proofs.Common.{◌≡◌, drop, map, []}
use Rattle.cse_dict.specs.Dictionary.{places_from}
use Rattle.cse_dict.proofs.places.set_places.Given as goal

abbrev pub invariant-sets : goal.invariant-sets
invariant-sets l =
    (l.place ≡ l.set-index) × (places_from l.places l.place (map (λ x. x.name) (drop l.set-index l.sets)) ≡ places_from [] 0 (map (λ x. x.name) l.sets))
