-- The faults of whole sources: of their names, their declarations and their procedures.
use Rattle.std.specs.Prelude.{ℕ, List, [], ◌∷◌, ◌++◌}
use Rattle.cse_dict.specs.Dictionary.{DictionaryText}
use Rattle.cse_syntax_tree.specs.Tree as syntax
use Rattle.cse_logic_names.specs.MessageFile.{MessageText}
use Rattle.cse_logic_names.specs.Scope.{Scope}
use Rattle.cse_logic_names.specs.WellTyped.{all_declarations}
use Rattle.cse_logic_faults.specs.Faults.{Fault, Counts}
use Rattle.cse_types.specs.JudgeTree.{behind, behind_all, messages_past}
use Rattle.cse_types.specs.Table.{table_of}
use Rattle.cse_types.specs.NameFaults.{names_faults}
use Rattle.cse_types.specs.TreeOver.{start_of}
use Rattle.cse_types.specs.PartFaults.{declaration_faults, procedures_faults, counts_in}

-- declarations, in order; so many messages stand before them
abbrev pub declarations_faults : Counts → Scope → ℕ → List syntax.Declaration → List Fault
declarations_faults c s n [] = []
declarations_faults c s n (x ∷ xs) = declaration_faults c s x ++ declarations_faults c (behind s n x) (messages_past n x) xs

-- what is known before the first function ends: of two names that are one the first, and none that the dictionary has
abbrev pub first_known : DictionaryText → List MessageText → List syntax.Declaration → Scope
first_known d messages ds = start_of d messages (table_of d ds).names ds

-- The faults of names and kinds, 40 to 49, of a source's tree, for a dictionary and the messages of a message file.
unfoldable pub faults_of : DictionaryText → List MessageText → syntax.Tree → List Fault
faults_of d messages x =
    let ds = all_declarations x.globals in
    let c = counts_in ds in
    let s = first_known d messages ds in
    names_faults d [] [] ds ++ (declarations_faults c s 0 ds ++ procedures_faults c (behind_all s 0 ds) [] x.procedures)
