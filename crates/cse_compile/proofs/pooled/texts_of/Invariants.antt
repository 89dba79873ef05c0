use Rattle.std.proofs.Common.{◌≡◌, ◌++◌, drop, map}
use Rattle.std.specs.String.{string_bytes}
use Rattle.cse_compile.proofs.pooled.texts_of.Given as goal

abbrev pub invariant-all : goal.invariant-all
invariant-all l = map string_bytes l.owned.items ++ map (λ t. t.now) (drop l.text-index l.texts) ≡ map (λ t. t.now) l.texts
