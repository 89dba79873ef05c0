use Rattle.std.proofs.Common.{◌≡◌, ◌≤◌, ◌+◌, length}
use Rattle.std.specs.Prelude.{map}
use Rattle.cse_image_parts.specs.Image.{array_lists}
use Rattle.cse_decks.specs.Loading.{read_text}
use Rattle.cse_decks.proofs.loading.read_text.Given as goal

-- reading goes on as it began, and line numbers stay small
abbrev pub invariant-lines : goal.invariant-lines
invariant-lines l = record {
  reads : read_text (map array_lists l.arrays) l.fn.progress 1 l.text ≡ read_text (map array_lists l.arrays) l.progress l.line l.rest;
  small : l.line + length l.rest ≤ length l.text + 1;
}

abbrev pub decreases-lines : goal.decreases-lines
decreases-lines l = length l.rest
