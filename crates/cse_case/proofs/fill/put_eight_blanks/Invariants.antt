use Rattle.std.proofs.Common.{◌≡◌, ◌<◌, ℕ, get_or}
use Rattle.cse_case.proofs.fill.put_eight_blanks.Given as goal

abbrev pub invariant-columns : goal.invariant-columns
invariant-columns l = (k : ℕ) → k < l.i → get_or l.columns k 0 ≡ 32
