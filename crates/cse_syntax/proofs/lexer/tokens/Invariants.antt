use Rattle.std.proofs.Common.{◌≤◌, [], length, map}
use denote.Shadow.{shadow}
use denote.Text.{Utf8}
use Rattle.cse_syntax.specs.Text as spec
use Rattle.cse_syntax.specs.Text.{piece}
use Rattle.cse_syntax_tree.specs.Word.{AreNumbered}
use Rattle.cse_syntax.proofs.Loops.{Within}
use Rattle.cse_syntax.proofs.lexer.tokens.Given as goal

abbrev pub invariant-all : goal.invariant-all
invariant-all l =
    (length l.rest ≤ length l.text) × shadow (Utf8 l.rest) × Within (λ n. spec.pieces_from (length l.text) n (map piece l.tokens.items)) l.rest (spec.pieces_from (length l.text) (length l.initial.rest) [] l.initial.rest) × AreNumbered 0 l.tokens.items

abbrev pub decreases-all : goal.decreases-all
decreases-all l = length l.rest
