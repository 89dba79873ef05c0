use Rattle.std.proofs.Common.{◌≡◌, ◌+◌, drop}
use Rattle.std.specs.List.{prefix_len}
use Rattle.cse_image_parts.specs.Placeholders.{is_digit}
use Rattle.cse_image_parts.proofs.placeholders.count_digits.Given as goal

abbrev pub invariant-loop-i : goal.invariant-loop-i
invariant-loop-i l = prefix_len is_digit l.bytes ≡ l.i + prefix_len is_digit (drop l.i l.bytes)
