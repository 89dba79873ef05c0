-- Words for the clauses: the faults of declarations.
use Rattle.std.specs.Prelude.{◌++◌, ℕ, List, [], map}
use Rattle.cse_syntax_tree.specs.declared.tree.Declaration as parseddeclaration
use Rattle.cse_syntax_tree.specs.declared.tree.Tree as parsedtree
use Rattle.cse_syntax_tree.specs.Tree as syntax
use Rattle.cse_logic_names.specs.Scope.{Scope}
use Rattle.cse_logic_names.specs.WellTyped.{all_declarations}
use Rattle.cse_logic_faults.specs.Faults.{Fault, Counts}
use Rattle.cse_types.specs.JudgeTree.{behind_all}
use Rattle.cse_types.specs.PartFaults.{procedures_faults}
use Rattle.cse_types.specs.SourceFaults.{declarations_faults}
use Rattle.cse_types.specs.NameFaults.{names_faults}

-- of declarations; so many messages stand before them
abbrev pub faults_behind : Counts → Scope → ℕ → List parseddeclaration.Declaration → List Fault
faults_behind c s n all = declarations_faults c s n (map syntax.declaration all)

-- of the names of declarations, and of the declarations
abbrev pub all_faults : Counts → Scope → List syntax.Declaration → List Fault
all_faults c s all = names_faults s.dictionary [] [] all ++ declarations_faults c s 0 all

-- of a source's tree, in a scope of what is known before the first function ends
abbrev pub faults_within : Counts → Scope → parsedtree.Tree → List Fault
faults_within c s tree =
    let x = syntax.tree tree in
    let ds = all_declarations x.globals in
    names_faults s.dictionary [] [] ds ++ (declarations_faults c s 0 ds ++ procedures_faults c (behind_all s 0 ds) [] x.procedures)
