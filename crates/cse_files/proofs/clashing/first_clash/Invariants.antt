use Rattle.std.proofs.Common.{◌≡◌, ◌<◌, ℕ, None, take, slice_index_or}
use Rattle.cse_files.specs.declared.clashing.Named.{Named}
use Rattle.cse_files.specs.Clashes.{clash_before}
use Rattle.cse_files.proofs.clashing.first_clash.Given as goal

-- none so far
abbrev pub invariant-loop-later : goal.invariant-loop-later
invariant-loop-later l = record {
  none : (d : Named) (n : ℕ) → n < l.later → clash_before (take n l.files) (slice_index_or l.files n d) ≡ None;
}
