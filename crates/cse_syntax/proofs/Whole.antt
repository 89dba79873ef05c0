-- From the tokens and the tree to the text.
use Rattle.std.proofs.Common.{◌≡◌, ℕ, suc, List, [], ◌∷◌, Some, refl, sym, ap, ◌∙◌}
use Rattle.std.proofs.lemmas.Option.{same_Some}
use Rattle.cse_syntax.specs.declared.error.ReadError.{ReadError}
use Rattle.cse_syntax.specs.declared.error.ReadError.TheVariants as errors
use Rattle.cse_syntax_tree.specs.declared.token.Token.{Token}
use Rattle.cse_syntax_tree.specs.Word.{Word, word, word_of, words, AreNumbered}
use Rattle.cse_syntax_tree.specs.Tree.{Tree}
use Rattle.cse_syntax_tree.specs.Grammar.{IsSource}
use Rattle.cse_syntax.specs.Reading.{Fails}
use Rattle.cse_syntax.specs.ReadingSource.{source_at, tree_of}
use Rattle.cse_syntax.specs.Text.{pieces, pieces_of}
use Rattle.cse_syntax.specs.Source.{said, said_from, IsSourceText, error_number}
use Rattle.cse_syntax.proofs.SoundSource.{source_sound}
use Rattle.cse_syntax.proofs.CompleteSource.{source_reads}

pub said_pieces : (n : ℕ) (ts : List Token) → AreNumbered n ts → said_from n (pieces ts) ≡ words ts
said_pieces n [] h = refl
said_pieces n (t ∷ ts) h = ap (λ (k : ℕ). word k t.kind t.text.now ∷ said_from (suc n) (pieces ts)) (sym h.0) ∙ ap (λ (ws : List Word). word_of t ∷ ws) (said_pieces (suc n) ts h.1)

pub tree_is : (room : ℕ) (text : List ℕ) (ts : List Token) → pieces_of text ≡ Some (pieces ts) → AreNumbered 0 ts → tree_of room text ≡ source_at room (words ts)
tree_is room text ts e n = rw (e, said_pieces 0 ts n) refl

-- what is read is a source
pub is_source : (room : ℕ) (text : List ℕ) (ts : List Token) (tree : Tree) → pieces_of text ≡ Some (pieces ts) → AreNumbered 0 ts → tree_of room text ≡ Some tree → IsSource room tree (words ts)
is_source room text ts tree e n g = source_sound room (words ts) tree (sym (tree_is room text ts e n) ∙ g)

-- a source text is read as its tree
source_text : (room : ℕ) (text : List ℕ) (tree : Tree) → IsSourceText room text tree → tree_of room text ≡ Some tree
source_text room text tree h = rw h.1 (source_reads room tree (said h.0) h.2)

pub one_tree_of : (room : ℕ) (text : List ℕ) (tree found : Tree) → tree_of room text ≡ Some found → IsSourceText room text tree → found ≡ tree
one_tree_of room text tree found e h = same_Some _ _ (sym e ∙ source_text room text tree h)

-- another error than want of memory comes for no source text
pub memory_alone : (room : ℕ) (text : List ℕ) (tree : Tree) (e : ReadError) → Fails e (tree_of room text) → IsSourceText room text tree → error_number e ≡ 90
memory_alone room text tree errors.Memory f h = refl
memory_alone room text tree (errors.Found fault) f h = let s = sym (source_text room text tree h) ∙ f in absurd cc

-- the grammar isn't ambiguous
pub one_tree : (room : ℕ) (ws : List Word) (x y : Tree) → IsSource room x ws → IsSource room y ws → x ≡ y
one_tree room ws x y h i = same_Some _ _ (sym (source_reads room x ws h) ∙ source_reads room y ws i)
