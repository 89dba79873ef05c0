use Rattle.std.proofs.Common.{◌≡◌, ◌-◌}
use Rattle.cse_image_parts.specs.Reader.{many}
use Rattle.cse_image.specs.Reading.{limit_at}
use Rattle.cse_image.proofs.read_values.limits_in.Given as goal

abbrev pub invariant-loop : goal.invariant-loop
invariant-loop l = many (λ _. limit_at) l.limits.items (l.count - l.counter) l.rest ≡ many (λ _. limit_at) l.fn.limits.items l.count l.bytes
