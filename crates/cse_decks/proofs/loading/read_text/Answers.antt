use Rattle.std.proofs.Common.{◌≡◌, true, List, length, Result, Ok, Err, ap, sym, ◌∙◌}
use Rattle.std.specs.Prelude.{map, ◌==◌, ◌&&◌, if◌then◌else◌}
use Rattle.cse_value.specs.declared.number.Num.{Num}
use Rattle.cse_image_parts.specs.Image.{array_lists}
use Rattle.cse_decks.specs.declared.error.DeckError.{DeckError}
use Rattle.cse_decks.specs.Loading.{Cut, fault, is_done, lacking, read_from}
use Rattle.cse_decks.proofs.loading.read_text.Goals as goal

pub returns : goal.returns
returns c =
    let read = c.lines.progress in
    let rest = c.lines.rest.now in
    let wrong : Result (List (List Num)) DeckError = Err (fault (lacking read.due) c.lines.line) in
    let done : is_done read.due ≡ true = sym c.is_done.ensures ∙ c.if-not-is_done.false in
    let empty : (length rest == 0) ≡ true = sym c.is_empty.ensures ∙ c.if-not-is_empty.false in
    c.lines.invariant.reads
    ∙ ap (λ (t : Cut). read_from (map array_lists c.args.arrays.now) read c.lines.line t.lines t.rest) c.in_default.ensures
    ∙ ap (λ b. if b && (length rest == 0) then Ok read.arrays else wrong) done
    ∙ ap (λ b. if b then Ok read.arrays else wrong) empty
    ∙ ap (λ (arrays : List (List Num)). Ok arrays) (sym c.into_arrays.ensures)
