use Rattle.std.proofs.Common.{refl, sym, ◌∙◌}
use Rattle.std.proofs.lemmas.Option.{same_Some}
use Rattle.cse_code_typing.proofs.ListedLaws.{got}
use Rattle.cse_code_typing.proofs.innermost.opener_in.Goals as goal

pub returns-in-Some : goal.returns-in-Some
returns-in-Some c = λ o e. same_Some _ _ (sym (got c.args.table.now _ c.args.place _ refl c.in-Some.ensures.lookup.0 c.in-Some.ensures.lookup.1) ∙ e)
