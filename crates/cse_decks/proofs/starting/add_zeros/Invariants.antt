use Rattle.std.proofs.Common.{◌≡◌, ◌++◌, pos}
use Rattle.std.specs.Prelude.{replicate}
use Rattle.cse_value.specs.declared.number.Num.TheVariants.{Whole}
use Rattle.cse_decks.proofs.starting.add_zeros.Given as goal

-- zeros so far
abbrev pub invariant-loop-zero : goal.invariant-loop-zero
invariant-loop-zero l = l.values.items ≡ l.fn.values.items ++ replicate l._zero (Whole (pos 0))
