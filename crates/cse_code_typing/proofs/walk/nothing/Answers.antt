use Rattle.std.proofs.Common.{List, ◌++◌, [], ◌∷◌, ap, ◌∙◌}
use Rattle.std.proofs.lemmas.List.{replicate_more}
use Rattle.cse_code_typing.specs.declared.piles.Expected.{Expected}
use Rattle.cse_code_typing.specs.declared.piles.Expected.TheVariants.{Free}
use Rattle.cse_code_typing.proofs.walk.nothing.Goals as goal

pub places-preserved : goal.places-preserved
places-preserved c = c.in_ok-push.ensures.items ∙ ap (λ (xs : List Expected). xs ++ Free ∷ []) c.places.invariant ∙ replicate_more c.places.counter Free
