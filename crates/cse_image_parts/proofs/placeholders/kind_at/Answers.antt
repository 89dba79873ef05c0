use Rattle.std.proofs.Common.{sym, ◌∙◌}
use Rattle.std.proofs.lemmas.Iterator.Consumers.{nth_from_yields_List, YieldsList-from_first}
use Rattle.cse_image_parts.specs.Placeholders.{message_kinds}
use Rattle.cse_image_parts.specs.Pieces.{kinds_left}
use Rattle.cse_image_parts.proofs.PieceLaws.{unmapped}
use Rattle.cse_image_parts.proofs.placeholders.kind_at.Goals as goal

pub returns : goal.returns
returns c = sym (unmapped c.nth.result) ∙ nth_from_yields_List c.nth.result c.nth.new.self c.args.place c.nth.ensures.ran (YieldsList-from_first (λ x. x) kinds_left (message_kinds c.args.text.now) c.new.ensures)
