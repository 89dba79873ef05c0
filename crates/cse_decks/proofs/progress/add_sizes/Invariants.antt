use Rattle.std.proofs.Common.{◌≡◌, ◌++◌, take}
use Rattle.std.specs.List.{flat_map}
use Rattle.cse_decks.specs.Deck.{size_word}
use Rattle.cse_decks.proofs.progress.add_sizes.Given as goal

-- the sizes so far
abbrev pub invariant-sizes : goal.invariant-sizes
invariant-sizes l = l.line.items ≡ l.fn.line.items ++ flat_map size_word (take l.size-index l.sizes)
