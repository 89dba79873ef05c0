use Rattle.std.proofs.Common.{◌≡◌, ◌-◌, ◌≤◌, length}
use Rattle.cse_value.specs.Texts.{blanks}
use Rattle.cse_decks.proofs.starting.blank_text.Given as goal

-- blanks so far, which are not too many
abbrev pub invariant-blanks : goal.invariant-blanks
invariant-blanks l = (l.text.items ≡ blanks (length l.text.items)) × (length l.text.items ≤ l.length)

abbrev pub decreases-blanks : goal.decreases-blanks
decreases-blanks l = l.length - length l.text.items
