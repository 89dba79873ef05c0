use Rattle.std.proofs.Common.{rules}
use Rattle.std.proofs.lemmas.Str.{chars_from_encodes}
use Rattle.cse_image_parts.specs.Texts.{is_short}
use Rattle.cse_image_parts.proofs.texts.is_short_text.Goals as goal

pub returns : goal.returns
unfolding is_short
returns c = search (rules, chars_from_encodes)
