use Rattle.std.proofs.Common.{◌≡◌, ◌-◌}
use Rattle.cse_image_parts.specs.Reader.{many, each, number}
use Rattle.cse_image_parts.proofs.lists.u32s_at.Given as goal

abbrev pub invariant-loop : goal.invariant-loop
invariant-loop l = many (λ _. number 4) l.numbers.items (l.count - l.counter) l.rest ≡ each (number 4) l.count l.bytes
