use Rattle.std.proofs.Common.{ℕ, suc, ◌<◌, ◌^◌, List, [], ◌∷◌, get_or, refl, arith}
use Rattle.std.specs.List.{AllByRecursion}
use Rattle.cse_image.specs.Spelling.{OrderFits}
use Rattle.cse_image_parts.proofs.Places.{section_decided}
use Rattle.cse_image.proofs.fitting.order_fit.Goals as goal

each : (xs : List ℕ) → ((i : ℕ) → get_or xs i 0 < 2 ^ 32) → AllByRecursion OrderFits xs
each [] h = tt
each (x ∷ xs) h = (h 0, each xs (λ i. h (suc i)))

pub returns : goal.returns
returns c = section_decided 200 OrderFits c.args.order.now _ (each c.args.order.now (λ i. omega (arith, c.type_inv.order i))) refl
