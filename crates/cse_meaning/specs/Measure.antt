-- The laws: how long the code of a routine is, and how many entries it names.
use Rattle.std.specs.Prelude.{◌≤◌, ℕ, ◌+◌, ◌*◌}
use Rattle.cse_logic_tree.specs.Typed.{Statements}
use Rattle.cse_logic_tree.specs.Erase.{erase_block}
use Rattle.cse_logic_tree.specs.Tokens.{stmts_tokens}
use Rattle.cse_compile.specs.Setting.{Setting}
use Rattle.cse_compile.specs.Routines.{routine_size, routine_code}
use Rattle.cse_meaning.specs.Few.{BlockIsFew}
use Rattle.cse_meaning.specs.Entries.{Table, entries}

-- how many tokens the statements are written in
abbrev pub tokens : Statements → ℕ
tokens body = stmts_tokens (erase_block body)

abbrev pub CodeIsShort : Type 0
CodeIsShort = (s : Setting) (body : Statements) → BlockIsFew body → routine_size s body ≤ 16 * tokens body + 4

abbrev pub EntriesAreFew : Type 0
EntriesAreFew = (k : Table) (s : Setting) (body : Statements) → BlockIsFew body → entries k (routine_code s body) ≤ tokens body
