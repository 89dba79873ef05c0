-- Abstract stacks by number: 0 is the empty one, and each entry of a table puts a kind on a stack that is
-- there already. The table is listed the newest entry first.
use Rattle.std.specs.Prelude.{◌≡◌, ◌≤◌, ℕ, ◌+◌, ◌==◌, ◌&&◌, Bool, Option, None, Some, List, [], ◌∷◌, ◌++◌, length, if◌then◌else◌}
use Rattle.cse_code_typing.specs.declared.kind.Kind.{Kind}
use Rattle.cse_code_typing.specs.declared.piles.PileEntry.{PileEntry}
use Rattle.cse_code_typing.specs.declared.piles.Expected.{Expected}
use Rattle.cse_code_typing.specs.declared.piles.Expected.TheVariants as numbered
use Rattle.cse_code_typing.specs.Kinds.{same_kind}
use Rattle.cse_code_typing.specs.Pass.{Expects, Free, Is, Clash}

-- the stack of a number
unfoldable pub stack_of : List PileEntry → ℕ → List Kind
stack_of [] n = []
stack_of (e ∷ older) n = if n == length older + 1 then e.kind ∷ stack_of older e.below else stack_of older n

-- one kind on one stack
abbrev pub same_entry : PileEntry → PileEntry → Bool
same_entry a b = same_kind a.kind b.kind && (a.below == b.below)

-- the entry of a number; none for 0, the empty stack
unfoldable pub entry_of : List PileEntry → ℕ → Option PileEntry
entry_of [] n = None
entry_of (e ∷ older) n = if n == length older + 1 then Some e else entry_of older n

-- each entry stands on a stack that was there before it
abbrev pub IsGrown : List PileEntry → Type 0
IsGrown [] = Unit {0}
IsGrown (e ∷ older) = (e.below ≤ length older) × IsGrown older

-- what a place expects, by the number of its stack
abbrev pub expects : List PileEntry → Expected → Expects
expects table numbered.Free = Free
expects table (numbered.Is n) = Is (stack_of table n)
expects table numbered.Clash = Clash

-- the stack that stands at a place where no stacks differ
abbrev pub stack_at : List PileEntry → Expected → List Kind
stack_at table numbered.Free = []
stack_at table (numbered.Is n) = stack_of table n
stack_at table numbered.Clash = []

-- more entries, and none changed
abbrev pub Grows : List PileEntry → List PileEntry → Type 0
Grows old new = (more : List PileEntry) × (new ≡ more ++ old)
