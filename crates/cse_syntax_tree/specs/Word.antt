-- What a token says: for a reserved word or a symbol which it is; for a name, a number or a text which token it is, counted
-- from 0, and how it is written. A special value and a jump tell their token too, since they are all that is written of what
-- they stand for. A word that is left out, or too long for a name, is a stray one: no tree has it.
use Rattle.std.specs.Prelude.{◌≡◌, ℕ, suc, List, [], ◌∷◌, map}
use Rattle.cse_syntax_tree.specs.declared.token.Mark.{Mark}
use Rattle.cse_syntax_tree.specs.declared.tree.Special.{Special}
use Rattle.cse_syntax_tree.specs.declared.tree.Jump.{Jump}
use Rattle.cse_syntax_tree.specs.declared.token.Kind.{Kind}
use Rattle.cse_syntax_tree.specs.declared.token.Kind.TheVariants as k
use Rattle.cse_syntax_tree.specs.declared.token.Token.{Token}

-- a name, a number or a text: the index of its token, and its bytes
pub record Spelling : Type 0 where
  pub token : ℕ
  pub text : List ℕ

pub data Word : Type 0 where
  Name : Spelling → Word
  Digits : Spelling → Word
  Quoted : Spelling → Word
  Value : (token : ℕ) → Special → Word
  Leave : (token : ℕ) → Jump → Word
  Sign : Mark → Word
  Stray : Word

abbrev pub word : ℕ → Kind → List ℕ → Word
word n k.Name text = Name (record { token = n; text = text })
word n k.Number text = Digits (record { token = n; text = text })
word n k.Text text = Quoted (record { token = n; text = text })
word n (k.Special value) text = Value n value
word n (k.Jump jump) text = Leave n jump
word n (k.Mark m) text = Sign m
word n k.LeftOut text = Stray
word n k.LongWord text = Stray

abbrev pub word_of : Token → Word
word_of t = word t.index t.kind t.text.now

abbrev pub words : List Token → List Word
words ts = map word_of ts

-- The tokens are counted from this number.
abbrev pub AreNumbered : ℕ → List Token → Type 0
AreNumbered n [] = Unit {0}
AreNumbered n (t ∷ ts) = (t.index ≡ n) × AreNumbered (suc n) ts
