use Rattle.std.proofs.Common.{rules, ◌≤◌, length, arith}
use Rattle.std.specs.Prelude.{nat_eq}
use Rattle.std.proofs.lemmas.Bool.{leb-true}
use Rattle.std.proofs.lemmas.Grind.{common_steps}
use Rattle.cse_image_parts.specs.Limits.{most_limits}
use Rattle.cse_image.specs.Spelling.{LimitFits}
use Rattle.cse_compile.proofs.Entries.{section_added}
use Rattle.cse_compile.proofs.pools.limit_place.Goals as goal

pub returns-in-Ok-clause-fit : goal.returns-in-Ok-clause-fit
returns-in-Ok-clause-fit c =
    let few : length c.args.table.now.keys ≤ most_limits = leb-true _ _ c.requires.fit.count in
    let room : length c.insert_full.new.self.keys ≤ most_limits = grind (arith, common_steps) in
    let entry : LimitFits c.args.value = record { size = c.ranges.value.fits; some = search rules } in
    section_added most_limits LimitFits nat_eq c.args.table.now.keys c.insert_full.new.self.keys c.args.value c.in-Ok.ensures.keys room entry c.requires.fit
