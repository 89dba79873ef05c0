use Rattle.std.proofs.Common.{sym, ◌∙◌, refl}
use Rattle.std.proofs.lemmas.Str.{is_utf8-from_IsUtf8, IsUtf8-from_is_utf8}
use Rattle.std.proofs.lemmas.Bool.{false_from_ne_true}
use Rattle.cse_image_parts.specs.Texts.{is_text}
use Rattle.cse_image_parts.proofs.texts.plain_text.Goals as goal

pub returns-then-is_plain : goal.returns-then-is_plain
unfolding is_text
returns-then-is_plain c = let h = c.in-Ok.ensures.cases in (h.0, rw (is_utf8-from_IsUtf8 c.args.bytes.now h.1, ← h.0) (sym c.is_plain.ensures ∙ c.if-is_plain.true))

pub returns-in-Err : goal.returns-in-Err
unfolding is_text
returns-in-Err c = rw (false_from_ne_true _ (λ e. c.in-Err.ensures.cases.0 (IsUtf8-from_is_utf8 c.args.bytes.now e))) refl
