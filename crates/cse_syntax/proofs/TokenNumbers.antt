-- The numbers of tokens.
use Rattle.std.proofs.Common.{◌≡◌, ℕ, suc, ◌+◌, List, [], ◌∷◌, ◌++◌, length, arith}
use Rattle.cse_syntax_tree.specs.declared.token.Token.{Token}
use Rattle.cse_syntax_tree.specs.Word.{AreNumbered}

-- one more token
numbered_more : (n : ℕ) (ts : List Token) (t : Token) → AreNumbered n ts → t.index ≡ n + length ts → AreNumbered n (ts ++ t ∷ [])
numbered_more n [] t h e = (omega (arith, e), tt)
numbered_more n (x ∷ ts) t h e = (h.0, numbered_more (suc n) ts t h.1 (omega (arith, e)))

pub numbered_push : (ts all : List Token) (t : Token) → AreNumbered 0 ts → t.index ≡ length ts → all ≡ ts ++ t ∷ [] → AreNumbered 0 all
numbered_push ts all t h i e = rw e (numbered_more 0 ts t h (omega (arith, i)))
