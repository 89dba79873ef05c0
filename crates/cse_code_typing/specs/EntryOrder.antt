-- The order in which a map keeps entries: that of their kinds, and then that of the stacks below.
use Rattle.std.specs.Prelude.{ℕ, List, Option}
use Rattle.std.specs.Map.{lookup}
use Rattle.std.specs.BTreeMap.{is_at}
use Rattle.std.specs.declared.cmp.Ordering.{Ordering}
use Rattle.cse_code_typing.specs.declared.piles.PileEntry.{PileEntry}
use Rattle.cse_code_typing.specs.contracts.piles.PileEntryOrd.TheImpl as entry_ord

abbrev pub entry_cmp : PileEntry → PileEntry → Ordering
entry_cmp = (entry_ord.ghosts).cmp

-- the number of an entry among those that have one
abbrev pub number_of : List (PileEntry × ℕ) → PileEntry → Option ℕ
number_of numbers e = lookup (is_at (entry_cmp e)) numbers
