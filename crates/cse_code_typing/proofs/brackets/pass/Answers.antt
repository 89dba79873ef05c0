use Rattle.std.proofs.Common.{◌<◌, ap, ◌∙◌, Some, length, arith}
use Rattle.cse_code_typing.proofs.Checks.{pass_shallow, pass_opener, pass_some, pass_end, pass_plain}
use Rattle.cse_code_typing.proofs.brackets.pass.Goals as goal

pub push-requires : goal.push-requires
push-requires g c =
    let few : length c.args.openers.now < 64 = pass_shallow _ _ c.requires.nested c.requires.fine _ _ _ (c.requires.there ∙ ap Some c.in-Open.is) c.requires.openers in
    (omega arith, omega arith)

pub pop-requires : goal.pop-requires
pop-requires g c = (omega arith, pass_some _ _ c.requires.nested c.requires.fine _ _ (c.requires.there ∙ ap Some c.in-End.is) c.requires.openers)

pub returns-in-Open : goal.returns-in-Open
returns-in-Open g c = pass_opener _ _ c.requires.nested c.requires.fine _ _ _ _ (c.requires.there ∙ ap Some c.in-Open.is) c.requires.openers c.push.ensures

pub returns-in-End : goal.returns-in-End
returns-in-End g c = pass_end _ _ c.requires.nested c.requires.fine _ _ _ (c.requires.there ∙ ap Some c.in-End.is) c.requires.openers c.pop.ensures

pub returns-in_default : goal.returns-in_default
returns-in_default g c =
    pass_plain _ _ c.requires.nested c.requires.fine _ _ c.requires.there c.requires.openers c.in_default.not-Open c.in_default.not-End
