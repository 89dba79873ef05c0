use Rattle.std.proofs.Common.{◌≡◌, ℕ, ◌<◌, true, false, length, get_or}
use Rattle.cse_office.specs.Changes.{IsLike}
use Rattle.cse_office.proofs.alike.are_alike.Given as goal

abbrev pub invariant-lines : goal.invariant-lines
invariant-lines l = record {
  likes : (k : ℕ) → k < l.place → get_or l.likes k false ≡ true → IsLike l.before l.after k;
  as_many : l.is_alike ≡ true → length l.before ≡ length l.after;
  all : l.is_alike ≡ true → (k : ℕ) → k < l.place → IsLike l.before l.after k;
}
