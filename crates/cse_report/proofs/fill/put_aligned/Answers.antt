use Rattle.std.proofs.Common.{◌-◌, length}
use Rattle.std.specs.Str.{IsUtf8}
use Rattle.cse_lemmas.proofs.Results.{OnOk_from}
use Rattle.cse_report.specs.MessageText.{aligned}
use Rattle.cse_report.proofs.Utf8Laws.{aligned_utf8}
use Rattle.cse_report.proofs.fill.put_aligned.Goals as goal

pub returns-clause-utf8 : goal.returns-clause-utf8
returns-clause-utf8 c =
    OnOk_from c.extend_from_slice.result (IsUtf8 (aligned c.args.width c.args.text.now)) (aligned_utf8 (c.args.width - length c.args.text.now) c.args.text.now c.utf8.text)
