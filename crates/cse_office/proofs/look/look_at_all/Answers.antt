use Rattle.std.proofs.Common.{sym, ◌∙◌}
use Rattle.std.proofs.lemmas.Bool.{false≢true}
use Rattle.cse_office.proofs.look.look_at_all.Goals as goal

pub runs-init : goal.runs-init
runs-init g c = λ e. absurd (false≢true (sym c.new-reader.ensures.ended ∙ e))
