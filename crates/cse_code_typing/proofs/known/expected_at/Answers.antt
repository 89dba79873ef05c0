use Rattle.std.proofs.Common.{refl, sym, ap}
use Rattle.cse_code_typing.specs.Within.{or_free}
use Rattle.cse_code_typing.proofs.ListedLaws.{got, lacks}
use Rattle.cse_code_typing.proofs.known.expected_at.Goals as goal

pub returns-in-None : goal.returns-in-None
returns-in-None c = sym (ap or_free (lacks c.args.known.now _ c.args.place refl c.in-None.ensures.lookup.0))

pub returns-in-Some : goal.returns-in-Some
returns-in-Some c = sym (ap or_free (got c.args.known.now _ c.args.place _ refl c.in-Some.ensures.lookup.0 c.in-Some.ensures.lookup.1))
