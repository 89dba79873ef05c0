use Rattle.std.proofs.Common.{◌≡◌, Ok, arith, rules}
use Rattle.std.proofs.lemmas.Grind.{common_steps}
use Rattle.cse_decks.specs.Store.{Kept, first_kept}
use Rattle.cse_decks.specs.Loading.{loaded}
use Rattle.cse_decks.proofs.LoadLaws.{loaded_fits}
use Rattle.cse_decks.proofs.loading.load_with.Goals as goal

pub returns-in-Ok-read_text-clause-fits : goal.returns-in-Ok-read_text-clause-fits
unfolding loaded
returns-in-Ok-read_text-clause-fits g c =
    loaded_fits c.args.program.now c.args.text.now c.in-Ok.first c.with.result c.in-Ok.ensures.first c.in-Ok.ensures.fits (first_of (search rules, grind (arith, common_steps)))

pub with-requires : goal.with-requires
unfolding loaded
with-requires g c =
    let x = c.args.program.now in
    let s : Kept = record { globals = (first_kept x).globals; arrays = c.in-Ok-read_text.arrays.items } in
    let same : loaded x c.args.text.now ≡ Ok s = first_of (search rules, grind (arith, common_steps)) in
    c.requires.held s same
