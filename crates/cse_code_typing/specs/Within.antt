-- Numbers of stacks that are in a table.
use Rattle.std.specs.Prelude.{◌≡◌, ◌≤◌, ℕ, List, length, Option, None, Some, slice_get}
use Rattle.cse_code_typing.specs.declared.piles.PileEntry.{PileEntry}
use Rattle.cse_code_typing.specs.declared.piles.Expected.{Expected}
use Rattle.cse_code_typing.specs.declared.piles.Expected.TheVariants.{Free, Is, Clash}
use Rattle.cse_code_typing.specs.declared.exits.Exits.{Exits}
use Rattle.cse_code_typing.specs.declared.exits.Exits.TheVariants.{Nowhere, One, Two}
use Rattle.cse_code_typing.specs.Piles.{stack_of}

-- the stack that is expected is one of the first n
abbrev pub IsWithin : ℕ → Expected → Type 0
IsWithin n Free = Unit {0}
IsWithin n (Is k) = k ≤ n
IsWithin n Clash = Unit {0}

abbrev pub or_free : Option Expected → Expected
or_free None = Free
or_free (Some x) = x

abbrev pub expected_in : List Expected → ℕ → Expected
expected_in known k = or_free (slice_get known k)

pub record AreWithin (n : ℕ) (known : List Expected) : Type 0 where
  pub each : (k : ℕ) → IsWithin n (expected_in known k)

-- so are the stacks where an instruction leads
abbrev pub ExitsWithin : ℕ → Exits → Type 0
ExitsWithin n Nowhere = Unit {0}
ExitsWithin n (One e) = e.stack ≤ n
ExitsWithin n (Two e f) = (e.stack ≤ n) × (f.stack ≤ n)

-- a table to which entries were added: the stacks that were there stay
pub record KeepsStacks (old new : List PileEntry) : Type 0 where
  pub longer : length old ≤ length new
  pub same : (n : ℕ) → n ≤ length old → stack_of new n ≡ stack_of old n
