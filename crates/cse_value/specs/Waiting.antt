-- What a contract sees of the bytes that wait.
use Rattle.std.specs.Prelude.{ℕ, List}

-- the bytes, in order
pub record WaitingText : Type 0 where
  pub items : List ℕ
