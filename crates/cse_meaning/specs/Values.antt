-- What the laws of expressions say: where the code of one stands, a run leads behind it, with the value that the expression means on the
-- stack, to the world that its meaning leaves. It may call the functions below its routine, which do what they mean.
use Rattle.std.specs.Prelude.{ℕ, ◌+◌, List, length, Option}
use Rattle.cse_case.specs.Case.{CaseText}
use Rattle.cse_logic_tree.specs.Typed as tree
use Rattle.cse_compile.specs.Setting.{Setting}
use Rattle.cse_compile.specs.Expressions.{number_size, number_code, words_size, words_code}
use Rattle.cse_meaning.specs.Fit.{NumberFits, WordsFit}
use Rattle.cse_steps.specs.Cell.{Cell, Number, Words}
use Rattle.cse_steps.specs.State.{World}
use Rattle.cse_steps.specs.Fits.{FitsWorld}
use Rattle.cse_meaning.specs.Setting.{Context, Locals, Functions}
use Rattle.cse_meaning.specs.Expressions.{number_of, words_of}
use Rattle.cse_meaning.specs.Runs.{Spot, HasCode}
use Rattle.cse_meaning.specs.Laid.{IsLaid, KeepsRows, Gives, place_in}
use Rattle.cse_meaning.specs.Follows.{Follows}
use Rattle.cse_meaning.specs.Plain.{IsPlain, ArePlain}

abbrev pub NumbersGo : Type 0
NumbersGo =
    (e : Setting) (s : Spot) (fn : Functions) (c : Context) (first : Option CaseText) (ls : Locals) (x : tree.Number) (p : ℕ) (cells : List Cell) (w : World)
    → IsLaid e s c first ls → KeepsRows s.program.dictionary → Follows s.program first fn s.number → FitsWorld s.program first w → IsPlain (length ls.parameters) x → NumberFits (place_in e s c) x → HasCode s p (number_code e p x)
    → Gives s first p (p + number_size x) cells w (Number (number_of fn c x ls w).0) (number_of fn c x ls w).1

abbrev pub WordsGo : Type 0
WordsGo =
    (e : Setting) (s : Spot) (fn : Functions) (c : Context) (first : Option CaseText) (ls : Locals) (x : tree.Words) (p : ℕ) (cells : List Cell) (w : World)
    → IsLaid e s c first ls → KeepsRows s.program.dictionary → Follows s.program first fn s.number → FitsWorld s.program first w → ArePlain (length ls.parameters) x → WordsFit (place_in e s c) x → HasCode s p (words_code e p x)
    → Gives s first p (p + words_size x) cells w (Words (words_of fn c x ls w).0) (words_of fn c x ls w).1
