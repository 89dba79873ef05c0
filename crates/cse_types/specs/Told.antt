-- The messages of a source, as they are gathered.
use Rattle.std.specs.Prelude.{Bool}
use Rattle.cse_syntax_tree.specs.Tree as syntax
use Rattle.cse_syntax_tree.specs.Tree.{message}
use Rattle.cse_types.specs.declared.told.Told.{Told}

-- a message, and whether it is only counted
abbrev pub told_of : Told → syntax.Message × Bool
told_of x = (message x.message, x.is_summary)
