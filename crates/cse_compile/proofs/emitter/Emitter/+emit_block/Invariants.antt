use Rattle.std.proofs.Common.{◌≡◌, ◌+◌, ◌++◌, drop, length, map}
use Rattle.cse_logic_tree.specs.Typed.{block, arm_tree}
use Rattle.cse_compile.specs.Setting.{setting}
use Rattle.cse_compile.specs.Statements.{block_size, block_code, arms_alone_size, arms_alone_code}
use Rattle.cse_compile.proofs.emitter.Emitter.+emit_block.Given as goal

-- what was written, and the code of what is left
abbrev pub invariant-block-all : goal.invariant-block-all
invariant-block-all l = record {
  size : l.at + block_size (setting l.s) (block (drop l.x-index l.xs.items)) ≡ l.place + block_size (setting l.s) (block l.xs.items);
  code : l.self ++ block_code (setting l.s) l.around l.at (block (drop l.x-index l.xs.items)) ≡ l.initial.self ++ block_code (setting l.s) l.around l.place (block l.xs.items);
}

abbrev pub invariant-arms-all : goal.invariant-arms-all
invariant-arms-all l = record {
  left : l.left + l.x-index ≡ length l.others.items;
  size : l.at + arms_alone_size (setting l.s) (map arm_tree (drop l.x-index l.others.items)) l.last ≡ l.place + arms_alone_size (setting l.s) (map arm_tree l.others.items) l.last;
  code : l.self ++ arms_alone_code (setting l.s) l.around l.end l.at (map arm_tree (drop l.x-index l.others.items)) l.last ≡ l.initial.self ++ arms_alone_code (setting l.s) l.around l.end l.place (map arm_tree l.others.items) l.last;
}
