-- Laws of the definitions: each is the contract of a public function.
use Rattle.std.specs.Prelude.{◌≡◌, ◌<◌, ◌≤◌, ℕ, List, length, take, Some}
use Rattle.cse_syntax_tree.specs.declared.token.Kind.{Kind}
use Rattle.cse_syntax_tree.specs.Word.{Word}
use Rattle.cse_syntax_tree.specs.Tree.{Tree}
use Rattle.cse_syntax_tree.specs.Grammar.{IsSource}
use Rattle.cse_syntax.specs.Text.{token_at}

-- Words are those of one tree at most.
abbrev pub HasOneTree : Type 0
HasOneTree = (room : ℕ) (ws : List Word) (x y : Tree) → IsSource room x ws → IsSource room y ws → x ≡ y

-- No longer front of a text is a token than the one that is found there.
abbrev pub IsLongest : Type 0
IsLongest = (text : List ℕ) (n m : ℕ) (kind other : Kind) → token_at text ≡ Some (n, kind) → n < m → m ≤ length text → token_at (take m text) ≡ Some (m, other) → ⊥
