use Rattle.std.proofs.Common.{◌++◌, ◌∷◌, [], List, ℕ, get_or, take, refl, subst, sym, ◌∙◌}
use Rattle.std.specs.List.{AllByRecursion}
use Rattle.std.proofs.lemmas.Bool.{false≢true}
use Rattle.std.proofs.lemmas.List.{take_all, take_more}
use Rattle.std.proofs.lemmas.Option.{slice_get-get_or}
use Rattle.cse_lemmas.proofs.Lists.{AllByRecursion-append, AllByRecursion-at}
use Rattle.cse_image.specs.Spelling.{DimensionFits}
use Rattle.cse_image.proofs.checking.dimensions_fit.Goals as goal

pub returns-then-not-dimension_fits : goal.returns-then-not-dimension_fits
returns-then-not-dimension_fits c =
    let xs = c.args.dimensions.now in
    let i = c.loop-dimension.dimension-index in (
      λ e. absurd (false≢true e),
      λ all. sym c.if-not-dimension_fits.true
          ∙ c.dimension_fits.ensures.1 (AllByRecursion-at DimensionFits xs i (get_or xs i 0) all (slice_get-get_or xs i 0 c.loop-dimension-test.true)),
    )

pub loop-dimension-preserved : goal.loop-dimension-preserved
loop-dimension-preserved c =
    let xs = c.args.dimensions.now in
    let i = c.loop-dimension.dimension-index in
    subst (λ (l : List ℕ). AllByRecursion DimensionFits l) (sym (take_more xs i 0 c.loop-dimension-test.true))
    (AllByRecursion-append DimensionFits (take i xs) (get_or xs i 0 ∷ []) c.loop-dimension.invariant (c.dimension_fits.ensures.0 c.if-not-dimension_fits.false, tt))

pub returns : goal.returns
returns c = (
  λ _. subst (λ (l : List ℕ). AllByRecursion DimensionFits l) (take_all c.loop-dimension.dimension-index c.args.dimensions.now c.loop-dimension-test.false) c.loop-dimension.invariant,
  λ _. refl,
)
