-- Words for the clauses: what was made of parts of a source, if they are sound, and a function as it was parsed.
use Rattle.std.specs.Prelude.{◌≡◌, ℕ, Bool, List, map, Option}
use Rattle.std.specs.Global.{Vec}
use Rattle.std.specs.Option.{option_map}
use Rattle.cse_syntax_tree.specs.declared.tree.Lexeme.{Lexeme}
use Rattle.cse_syntax_tree.specs.declared.tree.Parameter as parsedparameter
use Rattle.cse_syntax_tree.specs.declared.tree.Statement as parsedstatement
use Rattle.cse_syntax_tree.specs.Tree as syntax
use Rattle.cse_syntax_tree.specs.Tree.{written}
use Rattle.cse_logic_tree.specs.declared.tree.Body as rustbody
use Rattle.cse_logic_tree.specs.declared.tree.Declaration as rustdeclaration
use Rattle.cse_logic_tree.specs.declared.tree.Dimension as rustdimension
use Rattle.cse_logic_tree.specs.declared.tree.Procedure as rustprocedure
use Rattle.cse_logic_tree.specs.declared.tree.Statement as ruststatement
use Rattle.cse_logic_tree.specs.declared.tree.Whole as rustwhole
use Rattle.cse_logic_tree.specs.Typed as typed
use Rattle.cse_logic_names.specs.Scope.{Scope}
use Rattle.cse_logic_names.specs.Walk.{found_more, only_if}
use Rattle.cse_types.specs.JudgeTree.{behind_function, function_judged, function_of}

abbrev pub dimensions_made : Option (Vec rustdimension.Dimension) → Option (List typed.Dimension)
dimensions_made made = option_map (λ v. map typed.dimension v.items) made

abbrev pub wholes_made : Option (Vec rustwhole.Whole) → Option (List typed.Whole)
wholes_made made = option_map (λ v. map typed.whole v.items) made

abbrev pub declarations_made : Option (Vec rustdeclaration.Declaration) → Option (List typed.Declaration)
declarations_made made = option_map (λ v. map typed.declaration v.items) made

abbrev pub procedures_made : Option (Vec rustprocedure.Procedure) → Option (List typed.Procedure)
procedures_made made = option_map (λ v. map typed.procedure v.items) made

-- declarations, if there are any
abbrev pub globals_made : Option (Option (Vec rustdeclaration.Declaration)) → Option (Option (List typed.Declaration))
globals_made made = option_map (option_map (λ v. map typed.declaration v.items)) made

-- the dimensions of each array
abbrev pub each_made : List (Option (Vec rustdimension.Dimension)) → List (Option (List typed.Dimension))
each_made all = map (option_map (λ v. map typed.dimension v.items)) all

-- a procedure more, if it is sound
abbrev pub FindsMore : List rustprocedure.Procedure → List rustprocedure.Procedure → Option typed.Procedure → Type 0
FindsMore before behind judged = map typed.procedure behind ≡ found_more (map typed.procedure before) judged

abbrev pub body_made : Option rustbody.Body → Option typed.Body
body_made made = option_map typed.body_tree made

-- a function of sound parts
abbrev pub function_made : Scope → Bool → Lexeme → List parsedparameter.Parameter → Option (Vec ruststatement.Statement) → Option typed.Function
function_made s is_sound name parameters body =
    only_if is_sound (option_map (function_of s (written name) (map syntax.parameter parameters)) (option_map (λ v. typed.block v.items) body))

-- a function, behind which so many messages stand
abbrev pub judged_function : Scope → ℕ → Lexeme → List parsedparameter.Parameter → List parsedstatement.Statement → Option typed.Function
judged_function s n name parameters body = function_judged s n (written name) (map syntax.parameter parameters) (syntax.block body)

-- what is known behind it
abbrev pub behind_judged : Scope → ℕ → Lexeme → List parsedparameter.Parameter → List parsedstatement.Statement → Scope
behind_judged s n name parameters body = behind_function s (function_judged s n (written name) (map syntax.parameter parameters) (syntax.block body))
