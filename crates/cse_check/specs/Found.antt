-- The order in which faults are told.
use Rattle.std.specs.declared.cmp.Ordering.{Ordering}
use Rattle.std.specs.Ordering.{nat_cmp, on, then_cmp}
use Rattle.cse_check.specs.declared.found.Finding.{Finding}

-- by place, and then by number
abbrev pub told_cmp : Finding → Finding → Ordering
told_cmp = then_cmp (on (λ f. f.start) nat_cmp) (on (λ f. f.number) nat_cmp)
