-- The declarations and the procedures of a source.
use Rattle.std.specs.Prelude.{List, map, Option}
use Rattle.std.specs.Option.{option_map}
use Rattle.cse_logic_tree.specs.Typed as typed
use Rattle.cse_types.specs.declared.parts.Parts as rust

abbrev pub parts_tree : rust.Parts → Option (List typed.Declaration) × List typed.Procedure
parts_tree x = (option_map (λ v. map typed.declaration v.items) x.globals, map typed.procedure x.procedures.items)
