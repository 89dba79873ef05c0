-- The names of the declarations, one after the other, each if it is new.
use Rattle.std.specs.Prelude.{ℕ, ◌+◌, Bool, true, false, if◌then◌else◌, List, [], ◌∷◌, ◌++◌}
use Rattle.cse_dict.specs.Dictionary.{DictionaryText}
use Rattle.cse_dict.specs.Keys.{kept_name}
use Rattle.cse_syntax_tree.specs.Tree as syntax
use Rattle.cse_syntax_tree.specs.Tree.{Spelling}
use Rattle.cse_logic_tree.specs.declared.tree.Variable.TheVariants as v
use Rattle.cse_logic_names.specs.declared.meaning.Meaning.{Meaning}
use Rattle.cse_logic_names.specs.declared.meaning.Meaning.TheVariants as m
use Rattle.cse_types.specs.declared.table.Table.{Table}
use Rattle.cse_types.specs.Names.{is_new}
use Rattle.cse_types.specs.Fresh.{all_after}

abbrev pub with_name : DictionaryText → Table → List ℕ → Meaning → Table
with_name d t name meaning =
    if is_new d t.names name then record t { names = t.names ++ (name, meaning) ∷ [] } else record t { is_sound = false }

abbrev pub global_meaning : Bool → ℕ → Meaning
global_meaning true n = m.Text n
global_meaning false n = m.Variable (v.Global n)

abbrev pub with_global : DictionaryText → Bool → Table → Spelling → Table
with_global d is_text t x = with_name d (record t { globals = t.globals + 1 }) (kept_name x.text) (global_meaning is_text t.globals)

abbrev pub with_declaration : DictionaryText → Table → syntax.Declaration → Table
with_declaration d t (syntax.Numeric names) = all_after (with_global d false) t names
with_declaration d t (syntax.Alpha digits names) = all_after (with_global d true) t names
with_declaration d t (syntax.Array' x) = with_name d (record t { arrays = t.arrays + 1 }) (kept_name x.name.text) (m.Array t.arrays)
with_declaration d t (syntax.Function' name parameters body) = with_name d (record t { functions = t.functions + 1 }) (kept_name name.text) (m.Function t.functions)

abbrev pub no_table : Table
no_table = record { names = []; is_sound = true; globals = 0; arrays = 0; functions = 0 }

abbrev pub table_of : DictionaryText → List syntax.Declaration → Table
table_of d ds = all_after (with_declaration d) no_table ds
