use Rattle.std.proofs.Common.{◌≡◌, ◌≤◌, ◌+◌, ℕ, [], length}
use Rattle.std.specs.Prelude.{List, fold}
use Rattle.std.specs.List.{enumerate_from}
use Rattle.cse_sections.specs.Sections.{SectionText, with_line, lines_of}
use Rattle.cse_sections.proofs.sections.sections_behind_mark.Given as goal

pub record Cut (sections : List SectionText) (number : ℕ) (rest text : List ℕ) : Type 0 where
  pub sections_so_far : fold with_line sections (enumerate_from (number + 1) (lines_of rest)) ≡ fold with_line [] (enumerate_from 1 (lines_of text))
  pub room : number + length rest ≤ length text

abbrev pub invariant-lines : goal.invariant-lines
invariant-lines l = Cut l.sections.items l.number l.rest l.fn.text

abbrev pub decreases-lines : goal.decreases-lines
decreases-lines l = length l.rest
