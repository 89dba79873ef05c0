use Rattle.std.proofs.Common.{◌≡◌, ◌-◌}
use Rattle.cse_image_parts.specs.Reader.{many, each, signed}
use Rattle.cse_image_parts.proofs.lists.i64s_at.Given as goal

abbrev pub invariant-loop : goal.invariant-loop
invariant-loop l = many (λ _. signed) l.numbers.items (l.count - l.counter) l.rest ≡ each signed l.count l.bytes
