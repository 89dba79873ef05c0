use Rattle.std.proofs.Common.{◌≡◌, ◌+◌, ◌++◌, drop, map}
use Rattle.cse_logic_tree.specs.Typed.{argument}
use Rattle.cse_compile.specs.Setting.{setting}
use Rattle.cse_compile.specs.Statements.{arguments_size, arguments_code}
use Rattle.cse_compile.proofs.emitter.Emitter.arguments.Given as goal

-- what was written, and the code of what is left
abbrev pub invariant-all : goal.invariant-all
invariant-all l = record {
  size : l.at + arguments_size (map argument (drop l.x-index l.xs.items)) ≡ l.place + arguments_size (map argument l.xs.items);
  code : l.self ++ arguments_code (setting l.s) l.at (map argument (drop l.x-index l.xs.items)) ≡ l.initial.self ++ arguments_code (setting l.s) l.place (map argument l.xs.items);
}
