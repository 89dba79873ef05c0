-- One dimension of an array as that of a hot deck.
use Rattle.std.specs.Prelude.{Bool, true, false, slice_get}
use Rattle.cse_logic_tree.specs.Typed.{Dimension, Sized, Rows}
use Rattle.cse_logic_names.specs.Scope.{Scope}
use Rattle.cse_logic_names.specs.WellTyped.{whole_set}
use Rattle.cse_logic_faults.specs.FaultsOfExpressions.{is_picked}

abbrev pub is_set : Dimension → Bool
is_set (Sized digits size) = false
is_set (Rows name set one_more size) = true

-- the item of a set has an occurrence
abbrev pub is_pick : Scope → Dimension → Bool
is_pick s (Sized digits size) = true
is_pick s (Rows name set one_more size) = is_picked s (whole_set (slice_get s.dictionary.sets set))
