use Rattle.std.proofs.Common.{rules, ◌≡◌, Ok, Err, true, length, [], ap, sym, ◌∙◌}
use Rattle.std.specs.Prelude.{◌&&◌, if◌then◌else◌, Result, ℕ}
use Rattle.std.specs.List.{slice_index_or}
use Rattle.std.specs.Str.{bytes_eq}
use Rattle.std.proofs.lemmas.Option.{gets}
use Rattle.cse_image_parts.specs.Image.{array_lists}
use Rattle.cse_decks.specs.declared.due.Due.{Due}
use Rattle.cse_decks.specs.Deck.{array_line}
use Rattle.cse_decks.specs.Loading.{due_at, is_open, opening}
use Rattle.cse_decks.proofs.progress.opening.Goals as goal

pub returns-clause-value : goal.returns-clause-value
unfolding opening
returns-clause-value c =
    let a = array_lists c.args.array.now in
    let due : Result Due ℕ = Ok (due_at c.args.i 0 (length (slice_index_or c.args.arrays.now c.args.i []))) in
    let is_free = is_open c.args.came.now c.args.i in
    let own : bytes_eq c.args.line.now (array_line a) ≡ true = search rules in
    let saved : a.saved ≡ true = search gets in
    ap (λ b. if b then (if a.saved && is_free then due else Err 53) else Err 52) own
    ∙ ap (λ b. if b && is_free then due else Err 53) saved
    ∙ ap (λ b. if b then due else Err 53) (sym c.if-not-is_open.ensures.value)
    ∙ ap (λ d. Ok d) (sym c.first_due.ensures.value)
