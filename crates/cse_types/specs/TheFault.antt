-- Which fault a refusal tells.
use Rattle.std.specs.Prelude.{◌≡◌, ◌⊎◌, ℕ, List, Some}
use Rattle.cse_dict.specs.Dictionary.{DictionaryText}
use Rattle.cse_syntax_tree.specs.declared.token.Token.{Token}
use Rattle.cse_syntax_tree.specs.Tree as syntax
use Rattle.cse_syntax.specs.Place.{cut, line_of, column_of, start_of}
use Rattle.cse_logic_names.specs.declared.error.TypeError.{TypeError}
use Rattle.cse_logic_names.specs.Fault.{out_of_memory}
use Rattle.cse_logic_names.specs.MessageFile.{MessageText}
use Rattle.cse_logic_faults.specs.Faults.{Fault, least_of}
use Rattle.cse_types.specs.SourceFaults.{faults_of}

-- this fault, with the line and column of its token
pub record IsAt (text : List ℕ) (tokens : List Token) (f : Fault) (e : TypeError) : Type 0 where
  pub number : e.number ≡ f.number
  pub line : e.line ≡ cut (line_of text (start_of text tokens f.token))
  pub column : e.column ≡ cut (column_of text (start_of text tokens f.token))

-- want of memory, or the first of all faults by place, and then by number
abbrev pub IsLeast : DictionaryText → List MessageText → syntax.Tree → List ℕ → List Token → TypeError → Type 0
IsLeast d messages x text tokens e = (e ≡ out_of_memory) ⊎ ((f : Fault) × (least_of (faults_of d messages x) ≡ Some f) × IsAt text tokens f e)
