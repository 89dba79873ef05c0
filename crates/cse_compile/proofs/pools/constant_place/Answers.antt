use Rattle.std.proofs.Common.{rules, ◌≡◌, ◌≤◌, length, arith, FitsSigned}
use Rattle.std.specs.Int.{w64}
use Rattle.std.specs.Ordering.{int_eq}
use Rattle.std.proofs.lemmas.Bool.{leb-true}
use Rattle.std.proofs.lemmas.Grind.{common_steps}
use Rattle.cse_image_parts.specs.Limits.{most_constants}
use Rattle.indexmap.specs.IndexSet.{insert_key}
use Rattle.cse_compile.proofs.Entries.{section_added}
use Rattle.cse_compile.proofs.pools.constant_place.Goals as goal

pub returns-in-Ok-clause-fit : goal.returns-in-Ok-clause-fit
returns-in-Ok-clause-fit c =
    let few : length c.args.table.now.keys ≤ most_constants = leb-true _ _ c.requires.fit.count in
    let room : length c.insert_full.new.self.keys ≤ most_constants = grind (arith, common_steps) in
    let keys : c.insert_full.new.self.keys ≡ insert_key int_eq c.args.table.now.keys c.args.value = search rules in
    let small : FitsSigned w64 c.args.value = search rules in
    section_added most_constants (FitsSigned w64) int_eq c.args.table.now.keys c.insert_full.new.self.keys c.args.value keys room small c.requires.fit
