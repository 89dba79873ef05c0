use Rattle.std.proofs.Common.{◌≡◌, ◌≤◌, ◌+◌, ℕ, List, [], length}
use Rattle.cse_sections.specs.Sections.{lines_of}
use Rattle.cse_logic_names.specs.MessageFile.{MessageText, messages_behind, first_fault}
use Rattle.cse_logic_names.proofs.messages.Found.read_lines.Given as goal

pub record Cut (found : List MessageText) (number : ℕ) (rest text : List ℕ) : Type 0 where
  pub messages : messages_behind found (lines_of rest) ≡ messages_behind [] (lines_of text)
  pub fault : first_fault (number + 1) (lines_of rest) ≡ first_fault 1 (lines_of text)
  pub room : number + length rest ≤ length text

abbrev pub invariant-lines : goal.invariant-lines
invariant-lines l = Cut l.found l.number l.rest l.fn.text

abbrev pub decreases-lines : goal.decreases-lines
decreases-lines l = length l.rest
