use Rattle.std.proofs.Common.{◌≡◌, List, ℕ, [], ◌∷◌, ◌++◌, ap, ◌∙◌}
use Rattle.std.specs.Prelude.{codes}
use Rattle.std.specs.List.{flat_map}
use Rattle.std.specs.String.{string_bytes}
use Rattle.cse_image_parts.specs.Image.{array_lists}
use Rattle.cse_value.specs.Gathering.{line}
use Rattle.cse_decks.specs.Deck.{size_word, array_line}
use Rattle.cse_value.proofs.GatherLaws.{Puts-then, Puts-as}
use Rattle.cse_decks.proofs.saving.put_array_line.Goals as goal

pub returns : goal.returns
unfolding array_line
returns g c =
    let word : List ℕ = codes "ARRAY " in
    let name = c.as_bytes.result.now in
    let sizes = flat_map size_word c.deref.result.now in
    let e : ((word ++ name) ++ sizes) ++ (10 ∷ []) ≡ line (array_line (array_lists c.args.array.now)) =
    ap (λ (l : List ℕ). ((word ++ l) ++ sizes) ++ (10 ∷ [])) c.as_bytes.ensures.value
    ∙ ap (λ (l : List ℕ). ((word ++ string_bytes c.args.array.now.name) ++ flat_map size_word l) ++ (10 ∷ [])) c.deref.ensures.value in
    Puts-as _ _ _ _ e
    (Puts-then _ _ _ ((word ++ name) ++ sizes) (10 ∷ []) (Puts-then _ _ _ (word ++ name) sizes (Puts-then _ _ _ word name c.put.ensures c.put-2.ensures) c.put_sizes.ensures) c.put-3.ensures)
