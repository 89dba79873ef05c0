use Rattle.std.proofs.lemmas.Str.{is_utf8-from_IsUtf8}
use Rattle.cse_image_parts.specs.Texts.{is_text}
use Rattle.cse_image_parts.proofs.texts.is_plain_text.Goals as goal

pub returns : goal.returns
unfolding is_text
returns c = rw (is_utf8-from_IsUtf8 c.args.text.now c.utf8.text) c.is_plain.ensures
