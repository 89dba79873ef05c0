-- What the checker answers.
use Rattle.std.specs.Prelude.{◌≡◌, Result, Ok, Err}
use Rattle.cse_logic_tree.specs.Typed as typed
use Rattle.cse_logic_names.specs.declared.error.TypeError.{TypeError}
use Rattle.cse_types.specs.declared.typed.Typed as rust
use Rattle.cse_types.specs.Checked.{Checked}
use Rattle.cse_logic_names.specs.Fault.{out_of_memory}

abbrev pub checked : rust.Typed → Checked
checked t = record { dictionary = t.dictionary.now; messages = t.messages.now; order = t.order.now; tree = typed.tree t.tree }

-- where this is the source's typed tree, the answer is that one, unless memory ran out
abbrev pub IsAnswer : Result rust.Typed TypeError → typed.Tree → Type 0
IsAnswer (Ok t) tree = (checked t).tree ≡ tree
IsAnswer (Err e) tree = e ≡ out_of_memory
