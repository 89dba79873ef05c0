-- The texts of a source are UTF-8.
use Rattle.std.proofs.Common.{ℕ, List, [], ◌∷◌, subst}
use Rattle.std.specs.Prelude.{IsTrue}
use Rattle.std.specs.List.{AllByRecursion}
use Rattle.std.specs.Str.{is_utf8}
use Rattle.std.proofs.Math.Logic.{∥∥₁_map}
use Rattle.cse_syntax_tree.specs.declared.token.Kind.{Kind}
use Rattle.cse_syntax_tree.specs.declared.token.Kind.TheVariants as k
use Rattle.cse_syntax_tree.specs.declared.token.Token.{Token}
use Rattle.cse_syntax_tree.specs.Word.{word, words}
use Rattle.cse_syntax_tree.specs.Tree as syntax
use Rattle.cse_syntax_tree.specs.Grammar.{IsSource, spell_tree}
use Rattle.cse_logic_names.specs.Texts.{IsUtf8Word, AreUtf8}

one_word : (n : ℕ) (kind : Kind) (text : List ℕ) → IsTrue (is_utf8 text) → IsUtf8Word (word n kind text)
one_word n k.Name text h = tt
one_word n k.Number text h = tt
one_word n k.Text text h = h
one_word n (k.Special value) text h = tt
one_word n (k.Jump jump) text h = tt
one_word n (k.Mark m) text h = tt
one_word n k.LeftOut text h = tt
one_word n k.LongWord text h = tt

all_words : (ts : List Token) → AllByRecursion (λ (t : Token). IsTrue (is_utf8 t.text.now)) ts → AreUtf8 (words ts)
all_words [] h = tt
all_words (t ∷ ts) h = (one_word t.index t.kind t.text.now h.0, all_words ts h.1)

-- those of a source
pub are_utf8 : (room : ℕ) (x : syntax.Tree) (ts : List Token) → AllByRecursion (λ (t : Token). IsTrue (is_utf8 t.text.now)) ts → ∥ IsSource room x (words ts) ∥₁ → ∥ AreUtf8 (spell_tree x) ∥₁
are_utf8 room x ts h s = ∥∥₁_map s (λ k. subst AreUtf8 k.2 (all_words ts h))
