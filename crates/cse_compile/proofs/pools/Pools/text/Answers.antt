use Rattle.std.proofs.lemmas.Option.{gets}
use Rattle.cse_compile.proofs.pools.Pools.text.Goals as goal

pub returns-clause-full : goal.returns-clause-full
returns-clause-full c = rw (← c.self.view_is) (search gets)
