-- What has room has it one level down.
use Rattle.std.proofs.Common.{ℕ, zero, suc}
use Rattle.cse_syntax_tree.specs.Grammar.{Below}

pub below : (room : ℕ) (P : ℕ → Type 0) → Below room P → (r : ℕ) × P r
below zero P h = absurd h
below (suc r) P h = (r, h)
