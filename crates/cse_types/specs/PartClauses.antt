-- Words for the clauses: parts of a source as they were parsed, and the faults of a function's statements.
use Rattle.std.specs.Prelude.{List, map}
use Rattle.cse_syntax_tree.specs.declared.tree.Parameter as parsedparameter
use Rattle.cse_syntax_tree.specs.declared.tree.Statement as parsedstatement
use Rattle.cse_syntax_tree.specs.declared.tree.Tree as parsedtree
use Rattle.cse_syntax_tree.specs.Tree as syntax
use Rattle.cse_logic_names.specs.Scope.{Scope}
use Rattle.cse_logic_names.specs.WellTyped.{all_declarations}
use Rattle.cse_logic_faults.specs.Faults.{Fault, Counts}
use Rattle.cse_logic_faults.specs.FaultsOfStatements.{stmts_faults}
use Rattle.cse_types.specs.PartFaults.{parameters_scope}

-- what stands before a case, and behind it
abbrev pub two_parts : List parsedstatement.Statement → List parsedstatement.Statement → syntax.Body
two_parts before behind = syntax.Both (syntax.block before) (syntax.block behind)

abbrev pub globals_of : parsedtree.Tree → List syntax.Declaration
globals_of tree = all_declarations (syntax.tree tree).globals

-- of the statements of a function
abbrev pub body_faults_of : Counts → Scope → List parsedparameter.Parameter → List parsedstatement.Statement → List Fault
body_faults_of c s parameters body = stmts_faults c (parameters_scope s (map syntax.parameter parameters)) (syntax.block body)
