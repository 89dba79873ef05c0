use Rattle.cse_image_parts.specs.declared.version.Version.TheVariants as versions
use Rattle.cse_image_parts.specs.Image.{lists_of}
use Rattle.cse_image.proofs.Totals.{total_small}
use Rattle.cse_image.proofs.program.fits.Goals as goal

pub is_code_of-requires : goal.is_code_of-requires
is_code_of-requires c = rw c.deref.ensures.value (total_small versions.Two (lists_of c.args.tables.now) (c.tables_fit.ensures.0 c.if-tables_fit.true))
