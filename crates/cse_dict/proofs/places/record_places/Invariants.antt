use Rattle.std.proofs.Common.{◌≡◌, drop, map, []}
use Rattle.cse_dict.specs.Dictionary.{places_from}
use Rattle.cse_dict.proofs.places.record_places.Given as goal

abbrev pub invariant-records : goal.invariant-records
invariant-records l =
    (l.place ≡ l.record-index) × (places_from l.places l.place (map (λ x. x.name) (drop l.record-index l.records)) ≡ places_from [] 0 (map (λ x. x.name) l.records))
