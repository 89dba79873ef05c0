-- The greatest of a table, taken from the front.
use Rattle.std.proofs.Common.{◌≡◌, ℕ, List, drop}
use Rattle.std.specs.Prelude.{max}
use Rattle.cse_code_typing.specs.declared.depth.Depth.{Depth as Cells}
use Rattle.cse_code_typing.specs.Depth.{greatest}

-- the greatest so far, and what is to come, make the greatest of all
pub record AreGreatest (xs : List Cells) (i nums texts ords : ℕ) : Type 0 where
  pub nums_are : max nums (greatest (drop i xs)).numbers ≡ (greatest xs).numbers
  pub texts_are : max texts (greatest (drop i xs)).texts ≡ (greatest xs).texts
  pub ords_are : max ords (greatest (drop i xs)).ordinals ≡ (greatest xs).ordinals
