-- How long the code of small parts is, at most.
use Rattle.std.proofs.Common.{◌≤◌, ℕ, suc, ◌+◌, ◌*◌, ℤ, Bool, true, false, List, [], ◌∷◌, length, Option, Some, None, arith}
use Rattle.std.specs.Prelude.{if◌then◌else◌}
use Rattle.std.proofs.Math.Nat.{min-le_right}
use Rattle.cse_syntax_tree.specs.declared.tree.Jump.{Jump}
use Rattle.cse_syntax_tree.specs.declared.tree.Jump.TheVariants as j
use Rattle.cse_logic_tree.specs.declared.tree.Found.{Found}
use Rattle.cse_logic_tree.specs.declared.tree.Found.TheVariants as h
use Rattle.cse_logic_tree.specs.declared.tree.Present.{Present}
use Rattle.cse_logic_tree.specs.declared.tree.Present.TheVariants as p
use Rattle.cse_logic_tree.specs.declared.tree.Pick.{Pick}
use Rattle.cse_compile.specs.Wide.{jump_size}
use Rattle.cse_compile.specs.Setting.{Setting}
use Rattle.cse_compile.specs.Expressions.{here_size, present_size, can_fail, deepest, picks_size, deck_size}
use Rattle.cse_compile.specs.Statements.{turns_size_by, exit_size_by, jump_code_size}
use Rattle.cse_compile.specs.Routines.{entry_size_by}

-- ---- items and hot decks

pub here_small : (x : Found) → here_size x ≤ 5
here_small h.Loop = omega arith
here_small h.Event = omega arith
here_small h.First = omega arith

pub present_small : (x : Present) → present_size x ≤ 5
present_small (p.Id item) = omega arith
present_small (p.Here field found) = here_small found

pub picks_small : (xs : List Pick) → picks_size xs ≤ 6 * length xs
picks_small [] = omega arith
picks_small (x ∷ xs) = omega (arith, present_small x.item, picks_small xs)

pub deepest_small : (xs : List Pick) → deepest xs ≤ length xs
deepest_small [] = omega arith
deepest_small (x ∷ xs) = by (can_fail xs) (deepest_small xs)
  where
    by : (b : Bool) → deepest xs ≤ length xs → (if b then deepest xs + 1 else 0) ≤ suc (length xs)
    by true h = omega (arith, h)
    by false h = omega arith

pub deck_small : (xs : List Pick) → deck_size xs ≤ length xs + 3
deck_small xs = by (can_fail xs) (deepest_small xs)
  where
    by : (b : Bool) → deepest xs ≤ length xs → (if b then deepest xs + 3 else 1) ≤ length xs + 3
    by true h = omega (arith, h)
    by false h = omega arith

-- ---- turns, exits and jumps

pub turns_small : (a b : Option ℤ) → turns_size_by a b ≤ 7
turns_small (Some a) (Some b) = omega arith
turns_small (Some a) None = omega arith
turns_small None b = omega arith

pub exit_small : (o : Option ℕ) → exit_size_by o ≤ 2
exit_small None = omega arith
exit_small (Some r) = omega arith

pub exit_some : (o : Option ℕ) → 1 ≤ exit_size_by o
exit_some None = omega arith
exit_some (Some r) = omega arith

pub entry_small : (o : Option ℕ) → entry_size_by o ≤ 2
entry_small None = omega arith
entry_small (Some r) = omega arith

pub jump_small : (n : ℕ) → jump_size n ≤ 1
jump_small n = min-le_right n 1

pub jump_code_small : (s : Setting) (x : Jump) → jump_code_size s x ≤ 2
jump_code_small s j.Break = omega arith
jump_code_small s j.Next = omega arith
jump_code_small s j.Exit = exit_small s.result_at
