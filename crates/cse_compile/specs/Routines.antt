-- The code of routines.
use Rattle.std.specs.Prelude.{ℕ, ◌+◌, List, [], ◌∷◌, ◌++◌, Option, Some, None}
use Rattle.cse_image_parts.specs.declared.instruction.Op.TheVariants as ops
use Rattle.cse_logic_tree.specs.Typed.{Statements}
use Rattle.cse_compile.specs.Wide.{Wide, with_c, undefined}
use Rattle.cse_compile.specs.Setting.{Setting}
use Rattle.cse_compile.specs.declared.setting.Loop.{Loop}
use Rattle.cse_compile.specs.Statements.{block_size, block_code, exit_size, exit_code}

-- outside of loops: no statement leads there
abbrev pub no_loop : Loop
no_loop = record { turn_end = 0; end = 0 }

-- in a function the result begins as `default`
abbrev pub entry_size_by : Option ℕ → ℕ
entry_size_by None = 0
entry_size_by (Some result) = 2

abbrev pub entry_code_by : Option ℕ → List Wide
entry_code_by None = []
entry_code_by (Some result) = undefined ∷ with_c ops.StoreLocal result ∷ []

unfoldable pub routine_size : Setting → Statements → ℕ
routine_size s body = entry_size_by s.result_at + (block_size s body + exit_size s)

-- the code of a procedure, or of a function
unfoldable pub routine_code : Setting → Statements → List Wide
routine_code s body = entry_code_by s.result_at ++ (block_code s no_loop (entry_size_by s.result_at) body ++ exit_code s)
