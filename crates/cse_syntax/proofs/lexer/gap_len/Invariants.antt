use Rattle.std.proofs.Common.{◌≡◌, ◌≤◌, ◌<◌, ◌-◌, get_or, drop}
use Rattle.cse_syntax.specs.declared.lexer.Gap.TheVariants as g
use Rattle.cse_syntax.specs.Text as spec
use Rattle.cse_syntax.specs.Lexed.{depth}
use Rattle.cse_syntax.proofs.lexer.gap_len.Given as goal

abbrev pub invariant-loop-i : goal.invariant-loop-i
invariant-loop-i l = (depth l.gap ≤ l.i) × (spec.skip l.gap (drop l.i l.bytes) ≡ spec.skip g.Between l.bytes) × (l.gap ≡ g.Between → 0 < l.i → get_or l.bytes (l.i - 1) 0 < 128) × (l.outermost ≤ l.i)
