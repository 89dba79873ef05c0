-- what the ranges of the code stand for
use Rattle.cse_image_parts.specs.declared.opcodes.FieldRange.{FieldRange}
use Rattle.cse_image_parts.specs.Opcodes.{Range}

abbrev pub range : FieldRange → Range
range n = record { low = n.low; high = n.high }
