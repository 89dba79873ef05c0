use Rattle.cse_code_typing.proofs.OneTyping.{one_typing}
use Rattle.cse_code_typing.proofs.laws.typing_is_one.Goals as goal

pub returns : goal.returns
returns c = one_typing
