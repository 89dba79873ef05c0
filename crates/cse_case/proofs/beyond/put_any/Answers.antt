use Rattle.std.proofs.Common.{ap, refl, arith, length}
use Rattle.std.specs.Str.{chars}
use Rattle.std.proofs.lemmas.Str.{is_utf8-from_IsUtf8}
use Rattle.cse_lemmas.proofs.Texts.{is_utf8_false}
use Rattle.cse_case.proofs.DecodeLaws.{chars_fit}
use Rattle.cse_case.proofs.beyond.put_any.Goals as goal

pub put_text-requires : goal.put_text-requires
put_text-requires c =
    let fit = chars_fit c.args.text.now c.in-Ok.ensures.cases.1 in
    let same = ap (λ l. length (chars l)) c.in-Ok.ensures.cases.0 in
    omega (arith, fit, same, c.requires)

pub returns-in-Ok-clause-utf8 : goal.returns-in-Ok-clause-utf8
returns-in-Ok-clause-utf8 c = is_utf8-from_IsUtf8 c.args.text.now c.in-Ok.ensures.cases.1

pub returns-in-Err-clause-err : goal.returns-in-Err-clause-err
returns-in-Err-clause-err c = (refl, is_utf8_false c.args.text.now c.in-Err.ensures.cases.0)
