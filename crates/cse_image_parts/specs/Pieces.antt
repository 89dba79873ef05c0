-- what the iterators over a message's text have left
use Rattle.std.specs.Prelude.{List}
use Rattle.std.specs.List.{filter_map}
use Rattle.cse_image_parts.specs.declared.placeholders.ArgumentKind.{ArgumentKind}
use Rattle.cse_image_parts.specs.declared.placeholders.Piece.{Piece}
use Rattle.cse_image_parts.specs.declared.placeholders.Pieces.{Pieces}
use Rattle.cse_image_parts.specs.declared.placeholders.Kinds.{Kinds}
use Rattle.cse_image_parts.specs.Placeholders.{pieces_of, argument_of}

abbrev pub pieces_left : Pieces → List Piece
pieces_left it = pieces_of it.rest.now

abbrev pub kinds_left : Kinds → List ArgumentKind
kinds_left it = filter_map argument_of (pieces_left it.pieces)
