use Rattle.cse_decks.proofs.CutLaws.{line_end_is}
use Rattle.cse_decks.proofs.lines.line_end.Goals as goal

pub returns : goal.returns
returns c = line_end_is c.args.text.now c.memchr.result c.memchr.ensures
