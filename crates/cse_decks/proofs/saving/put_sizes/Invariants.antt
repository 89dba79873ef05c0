use Rattle.std.proofs.Common.{take}
use Rattle.std.specs.List.{flat_map}
use Rattle.cse_decks.specs.Deck.{size_word}
use Rattle.cse_value.specs.Gathering.{behind, Puts}
use Rattle.cse_decks.proofs.saving.put_sizes.Given as goal

-- the sizes so far
abbrev pub invariant-sizes : goal.invariant-sizes
invariant-sizes g l =
    Puts (behind g.W.Output.taken g.W.Output.has_failed l.fn.out l.fn.gatherer)
    (behind g.W.Output.taken g.W.Output.has_failed l.out l.gatherer)
    (flat_map size_word (take l.size-index l.sizes))
