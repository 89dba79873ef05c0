use Rattle.std.proofs.Common.{◌≡◌, length}
use Rattle.cse_sections.specs.Text.{without_blanks}
use Rattle.cse_sections.proofs.text.without_front.Given as goal

abbrev pub invariant-blanks : goal.invariant-blanks
invariant-blanks l = without_blanks l.rest ≡ without_blanks l.fn.text

abbrev pub decreases-blanks : goal.decreases-blanks
decreases-blanks l = length l.rest
