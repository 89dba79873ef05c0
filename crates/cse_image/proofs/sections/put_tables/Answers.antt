use Rattle.std.proofs.Common.{append_assoc}
use Rattle.cse_image.proofs.sections.put_tables.Goals as goal

pub returns : goal.returns
returns c = simp append_assoc at (rw c.in_ok-put_early.ensures at c.put_late.ensures)
