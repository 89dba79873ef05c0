use Rattle.std.proofs.Common.{◌≡◌, ◌+◌, ◌-◌, length}
use Rattle.cse_case.specs.Found.{GoesOnWith}
use Rattle.cse_case.proofs.seen.add_following.Given as goal

abbrev pub decreases-lines : goal.decreases-lines
decreases-lines l = length l.lines - l.next

abbrev pub invariant-lines : goal.invariant-lines
invariant-lines l = record {
  goes : GoesOnWith l.number l.most l.lines l.place l.fn.span l.fn.firsts.items l.next l.span l.firsts.items;
  fits : l.span.start + l.span.count ≡ length l.firsts.items;
}
