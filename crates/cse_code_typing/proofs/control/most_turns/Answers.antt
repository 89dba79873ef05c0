use Rattle.std.proofs.Common.{ℕ, Option, sym, ap}
use Rattle.std.specs.Option.{option_map_or}
use Rattle.cse_code_typing.proofs.ListedLaws.{got, lacks}
use Rattle.cse_code_typing.proofs.control.most_turns.Goals as goal

pub returns-in-Some : goal.returns-in-Some
returns-in-Some c =
    sym (ap (λ (o : Option ℕ). option_map_or (λ n. n) o 0) (got c.deref.result.now c.args.tables.now.limits.items c.args.place _ c.deref.ensures.value c.in-Some.ensures.lookup.0 c.in-Some.ensures.lookup.1))

pub returns-in-None : goal.returns-in-None
returns-in-None c =
    sym (ap (λ (o : Option ℕ). option_map_or (λ n. n) o 0) (lacks c.deref.result.now c.args.tables.now.limits.items c.args.place c.deref.ensures.value c.in-None.ensures.lookup.0))
