-- Messages whose own texts are written as texts are.
use Rattle.std.specs.Prelude.{Bool, true, ◌&&◌, List, [], ◌∷◌}
use Rattle.cse_syntax_tree.specs.Leaf.{is_text}
use Rattle.cse_syntax_tree.specs.Tree as syntax

abbrev pub is_said : syntax.Message → Bool
is_said (syntax.Own text) = is_text text.text
is_said (syntax.Numbered digits) = true

abbrev pub are_said : List (syntax.Message × Bool) → Bool
are_said [] = true
are_said (m ∷ ms) = is_said m.0 && are_said ms
