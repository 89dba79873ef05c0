-- From the names of a source to its typed tree.
use Rattle.std.specs.Prelude.{ℕ, Bool, List, [], length, map, Option}
use Rattle.std.specs.Option.{option_map}
use Rattle.cse_dict.specs.Dictionary.{DictionaryText}
use Rattle.cse_syntax_tree.specs.Tree as syntax
use Rattle.cse_logic_tree.specs.declared.tree.Owner.TheVariants as o
use Rattle.cse_logic_tree.specs.Typed.{Declaration, Procedure, Tree}
use Rattle.cse_logic_names.specs.declared.meaning.Meaning.{Meaning}
use Rattle.cse_logic_names.specs.declared.meaning.Routine.TheVariants as r
use Rattle.cse_logic_names.specs.MessageFile.{MessageText}
use Rattle.cse_logic_names.specs.Scope.{Scope}
use Rattle.cse_logic_names.specs.WellTyped.{all_declarations, declared_messages, entry_of, tree_messages}
use Rattle.cse_types.specs.JudgeTree.{arrays_judged, behind_all, globals_judged, procedures_judged}
use Rattle.cse_logic_names.specs.Walk.{joined}

-- what is known where these names are declared
abbrev pub names_of : DictionaryText → List MessageText → List (List ℕ × Meaning) → Scope
names_of d messages declared = record {
  dictionary = d;
  messages = messages;
  declared = declared;
  arrays = [];
  functions = [];
  parameters = [];
  routine = r.Procedure o.Application;
  loops = [];
}

-- what is known before the first function ends
abbrev pub start_of : DictionaryText → List MessageText → List (List ℕ × Meaning) → List syntax.Declaration → Scope
start_of d messages declared ds = record (names_of d messages declared) { arrays = arrays_judged (names_of d messages declared) ds }

-- the declarations, if there are any, and the procedures
abbrev pub parts_of : Option (List Declaration) → List Procedure → Option (List Declaration) × List Procedure
parts_of globals procedures = (globals, procedures)

abbrev pub parts_judged : Scope → syntax.Tree → Option (Option (List Declaration) × List Procedure)
parts_judged s x =
    let ds = all_declarations x.globals in
    joined parts_of (globals_judged s x.globals) (procedures_judged (behind_all s 0 ds) (length (declared_messages ds)) x.procedures)

-- the parts as a tree, with the messages of the source
abbrev pub with_entries : List MessageText → List (syntax.Message × Bool) → Option (List Declaration) × List Procedure → Tree
with_entries messages said parts = record { globals = parts.0; procedures = parts.1; messages = map (entry_of messages) said }

-- the typed tree of a source whose declarations have these names, if its parts are sound
abbrev pub tree_over : DictionaryText → List MessageText → List (List ℕ × Meaning) → syntax.Tree → Option Tree
tree_over d messages names x =
    option_map (with_entries messages (tree_messages x)) (parts_judged (start_of d messages names (all_declarations x.globals)) x)
