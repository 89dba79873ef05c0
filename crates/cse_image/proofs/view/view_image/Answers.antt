use Rattle.std.proofs.Common.{arith}
use Rattle.cse_image_parts.specs.Image.{image_with}
use Rattle.cse_image.proofs.Upgrades.{standing_fits}
use Rattle.cse_image.proofs.Whole.{reading_found, reading_only, stopped_only}
use Rattle.cse_image.proofs.view.view_image.Goals as goal

pub with-requires : goal.with-requires
with-requires c = let x = image_with c.in-Ok.tables c.in-Ok.code in standing_fits x c.args.bytes.now (reading_found c.args.bytes.now x (λ i. omega (arith, c.type_inv.bytes i)) c.in-Ok.ensures)

pub returns-in-Ok-clause-found : goal.returns-in-Ok-clause-found
returns-in-Ok-clause-found c = rw c.with.ensures (reading_found c.args.bytes.now (image_with c.in-Ok.tables c.in-Ok.code) (λ i. omega (arith, c.type_inv.bytes i)) c.in-Ok.ensures)

pub returns-in-Ok-clause-only : goal.returns-in-Ok-clause-only
returns-in-Ok-clause-only c = λ x spells. let e = reading_only c.args.bytes.now x spells in cc (e, c.in-Ok.ensures, c.with.ensures)

pub returns-in-Err-clause-only : goal.returns-in-Err-clause-only
returns-in-Err-clause-only c = λ x spells. stopped_only (λ p. p) c.in-Err.stop _ c.error_within.result _ x c.in-Err.ensures (reading_only c.args.bytes.now x spells) c.error_within.ensures
