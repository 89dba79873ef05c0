use Rattle.std.proofs.Common.{◌≡◌, false, sym, ◌∙◌}
use Rattle.std.proofs.lemmas.Bool.{false≢true}
use Rattle.std.proofs.lemmas.Option.{gets}
use Rattle.cse_compile.proofs.resolve.text.Goals as goal

pub returns-then-not-text_fits-clause-room : goal.returns-then-not-text_fits-clause-room
returns-then-not-text_fits-clause-room c =
    let unfit : c.text_fits.result ≡ false = search gets in
    λ is utf8 fits. absurd (false≢true (sym unfit ∙ c.text_fits.ensures.1 fits))
