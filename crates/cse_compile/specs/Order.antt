-- The records in edit order.
use Rattle.std.specs.Prelude.{ℕ, Bool, nat_eq, List, [], ◌∷◌, ◌++◌, if◌then◌else◌}
use Rattle.std.specs.List.{list_any, flat_map, range_with_len}

abbrev pub is_named : List ℕ → ℕ → Bool
is_named named number = list_any (λ x. nat_eq x number) named

abbrev pub unless_named : List ℕ → ℕ → List ℕ
unless_named named number = if is_named named number then [] else number ∷ []

-- the named records first, in their order; the others of so many records follow in order of the dictionary
abbrev pub edit_order : ℕ → List ℕ → List ℕ
edit_order count named = named ++ flat_map (unless_named named) (range_with_len 0 count)
