use Rattle.cse_syntax.proofs.SkippedText.{skipped}
use Rattle.cse_syntax.proofs.laws.skipped_text.Goals as goal

pub returns : goal.returns
returns c = skipped
