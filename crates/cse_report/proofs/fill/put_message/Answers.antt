use Rattle.std.proofs.Common.{List, sym, subst}
use Rattle.cse_image_parts.specs.declared.placeholders.Piece.{Piece}
use Rattle.cse_report.specs.Filling.{ArePlaced}
use Rattle.cse_report.proofs.Utf8Laws.{message_utf8}
use Rattle.cse_report.proofs.fill.put_message.Goals as goal

pub returns-clause-utf8 : goal.returns-clause-utf8
returns-clause-utf8 c =
    let none = c.in_default.ensures.steps.0 in
    message_utf8 c.args.text.now c.args.args.now c.utf8.text (c.pieces.invariant.utf8 (subst (λ (ps : List Piece). ArePlaced ps c.pieces.rest.now) (sym none) tt))
