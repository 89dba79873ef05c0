use Rattle.std.proofs.Common.{sym, ◌∙◌}
use Rattle.std.specs.Str.{bytes_eq}
use Rattle.cse_lemmas.proofs.Lists.{position-map}
use Rattle.cse_image_parts.specs.Image.{ArrayLists, array_lists}
use Rattle.cse_decks.proofs.progress.array_named.Goals as goal

pub returns : goal.returns
returns c = c.place_named.ensures ∙ sym (position-map array_lists (λ (a : ArrayLists). bytes_eq a.name c.args.name.now) c.args.arrays.now)
