use Rattle.std.proofs.Common.{List, ℕ, [], ◌∷◌, ap, ◌∙◌}
use Rattle.cse_decks.specs.Deck.{size_word}
use Rattle.cse_value.proofs.GatherLaws.{Puts-then, Puts-as}
use Rattle.cse_decks.proofs.saving.put_size.Goals as goal

pub returns : goal.returns
returns g c =
    Puts-as _ _ (32 ∷ c.as_bytes.result.now) (size_word c.args.size) (ap (λ (l : List ℕ). 32 ∷ l) (c.as_bytes.ensures.value ∙ c.format.ensures.text))
    (Puts-then _ _ _ (32 ∷ []) c.as_bytes.result.now c.put.ensures c.put-2.ensures)
