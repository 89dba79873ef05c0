-- Value sets and their shapes.
use Rattle.std.proofs.Common.{◌≡◌, ℕ, map}
use Rattle.std.specs.Prelude.{nat_eq, position}
use Rattle.cse_lemmas.proofs.Lists.{position-map}
use Rattle.cse_value.specs.declared.shape.SetShape.{SetShape}
use Rattle.cse_dict.specs.Dictionary.{DictionaryText, SetText}
use Rattle.cse_logic_names.specs.WellTyped.{first_set}

pub first_set_is : (d : DictionaryText) (item : ℕ) → position (λ (x : SetShape). nat_eq x.item item) (map (λ (s : SetText). s.shape) d.sets) ≡ first_set d item
first_set_is d item = position-map (λ (s : SetText). s.shape) (λ (x : SetShape). nat_eq x.item item) d.sets
