-- Arrays that a line names, and that have not come.
use Rattle.std.proofs.Common.{◌≡◌, ℕ, zero, suc, ◌<◌, Bool, true, List, [], ◌∷◌, length, arith}
use Rattle.cse_decks.specs.Loading.{is_open}

pub open_there : (came : List Bool) (i : ℕ) → is_open came i ≡ true → i < length came
open_there [] i h = cc
open_there (c ∷ cs) zero h = omega arith
open_there (c ∷ cs) (suc i) h = omega (arith, open_there cs i h)
