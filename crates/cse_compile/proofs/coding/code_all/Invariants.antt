use Rattle.std.proofs.Common.{◌≡◌, ◌++◌, drop, map}
use Rattle.cse_image_parts.specs.Image.{routine_lists}
use Rattle.cse_compile.specs.Setting.{sizes_of}
use Rattle.cse_compile.specs.Outline.{outline}
use Rattle.cse_compile.specs.Program.{all_code, entry_of}
use Rattle.cse_compile.proofs.coding.code_all.Given as goal

abbrev pub invariant-all : goal.invariant-all
invariant-all l = record {
  code : l.emitter ++ all_code l.records (map sizes_of l.arrays) (map outline (drop l.written-index l.outlines)) ≡ l.initial.emitter ++ all_code l.records (map sizes_of l.arrays) (map outline l.outlines);
  entries : map routine_lists l.routines.items ++ map (entry_of l.records (map sizes_of l.arrays)) (map outline (drop l.written-index l.outlines)) ≡ map (entry_of l.records (map sizes_of l.arrays)) (map outline l.outlines);
}
