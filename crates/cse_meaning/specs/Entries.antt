-- How many entries of tables a code names: constants, loop limits and texts, each as often as it stands there.
use Rattle.std.specs.Prelude.{ℕ, ◌+◌, List, [], ◌∷◌}
use Rattle.cse_compile.specs.Wide.{Wide, Constant, Chars, Turns, Plain}

pub data Table : Type 0 where
  Constants : Table
  Limits : Table
  Texts : Table

abbrev pub a_constant : Table → ℕ
a_constant Constants = 1
a_constant Limits = 0
a_constant Texts = 0

abbrev pub a_limit : Table → ℕ
a_limit Constants = 0
a_limit Limits = 1
a_limit Texts = 0

abbrev pub a_text : Table → ℕ
a_text Constants = 0
a_text Limits = 0
a_text Texts = 1

-- how many entries of the table the instruction names
abbrev pub named : Table → Wide → ℕ
named k (Constant z) = a_constant k
named k (Chars text) = a_text k
named k (Turns limit end) = a_limit k
named k (Plain op a b c) = 0

abbrev pub entries : Table → List Wide → ℕ
entries k [] = 0
entries k (i ∷ is) = named k i + entries k is
