use Rattle.std.proofs.Common.{inl, arith, ap, length}
use Rattle.cse_image_parts.proofs.PieceLaws.{few_kinds}
use Rattle.cse_image_parts.proofs.placeholders.count_placeholders.Goals as goal

pub count-requires-clause-fits : goal.count-requires-clause-fits
count-requires-clause-fits c = inl (omega (arith, ap length c.new.ensures, few_kinds c.args.text.now, c.well_formed.0.0))
