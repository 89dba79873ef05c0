-- Where the code of statements leads, by how they end.
use Rattle.std.specs.Prelude.{◌≡◌, ℕ, ◌+◌, Bool, true, List, [], ◌∷◌, length, Option, Some, None, slice_get}
use Rattle.cse_case.specs.Case.{CaseText}
use Rattle.cse_dict.specs.Sound.{IsSound}
use Rattle.cse_code_typing.specs.Code.{code_of}
use Rattle.cse_logic_tree.specs.Typed.{Statement}
use Rattle.cse_compile.specs.Setting.{Setting}
use Rattle.cse_compile.specs.declared.setting.Loop.{Loop}
use Rattle.cse_compile.specs.Statements.{statement_size, statement_code}
use Rattle.cse_meaning.specs.Fit.{IsExit, StatementFits}
use Rattle.cse_steps.specs.Cell.{Cell, Number}
use Rattle.cse_steps.specs.State.{Open, World}
use Rattle.cse_steps.specs.Step.{ends_at, given_back}
use Rattle.cse_steps.specs.Fits.{FitsWorld}
use Rattle.cse_meaning.specs.Setting.{Context, Locals, Functions}
use Rattle.cse_meaning.specs.Statements.{Flow, Fell, Broke, Skipped, Left, does}
use Rattle.cse_meaning.specs.Runs.{Goes, Spot, at, HasCode}
use Rattle.cse_meaning.specs.Laid.{IsLaid, AreOpen, place_in}
use Rattle.cse_meaning.specs.Follows.{Follows}
use Rattle.cse_meaning.specs.Plain.{IsPlainStatement}

-- what stands around statements: whether a loop does, and around the innermost one the brackets that are open there, and the turns of
-- the `for`s
pub record Around : Type 0 where
  pub is_loop : Bool
  pub opens : List Open
  pub loops : List (ℕ × ℕ)

-- a loop is around, whose bracket is open, and ends where `break` leads to
pub record IsInside (s : Spot) (first : Option CaseText) (l : Loop) (a : Around) : Type 0 where
  pub around : a.is_loop ≡ true
  pub bracket : Open
  pub is : s.opens ≡ bracket ∷ a.opens
  pub ends : ends_at l.end (slice_get (code_of s.program.image s.number) bracket.opener) ≡ true
  pub loops : AreOpen first a.opens a.loops

-- A run leads to a place, with these brackets open and in the turns of these `for`s, and what follows may run there: the stack is
-- empty, and the call, whose locals may be others, holds the variables of the meaning. A function has so many parameters.
pub record Reaches (e : Setting) (s : Spot) (c : Context) (first : Option CaseText) (n p : ℕ) (w : World) (q : ℕ) (opens : List Open) (loops : List (ℕ × ℕ)) (ls : Locals) (next : World) : Type 0 where
  pub locals : List Cell
  pub goes : Goes s.program (at s p [] w) (at (record s { locals = locals; opens = opens }) q [] next)
  pub laid : IsLaid e (record s { locals = locals; opens = opens }) (record c { loops = loops }) first ls
  pub many : length ls.parameters ≡ n
  pub fits : FitsWorld s.program first next

-- what a routine gives at its end: a function its result
abbrev pub gift : Option ℕ → Locals → List Cell
gift None ls = []
gift (Some result) ls = Number ls.result ∷ []

-- a run leads to the end of the call, with its gift
pub record Returns (e : Setting) (s : Spot) (first : Option CaseText) (p : ℕ) (w : World) (ls : Locals) (next : World) : Type 0 where
  pub goes : Goes s.program (at s p [] w) (record { calls = given_back (gift e.result_at ls) s.below; world = next })
  pub fits : FitsWorld s.program first next

-- Statements that fall through lead behind their code; in a loop `next` to the end of the turn and `break` behind the loop; and `exit` to
-- the end of the call.
abbrev pub Lands : Setting → Spot → Context → Option CaseText → ℕ → Loop → Around → ℕ → ℕ → World → Flow → Type 0
Lands e s c first n l a p q w (Fell ls next) = Reaches e s c first n p w q s.opens c.loops ls next
Lands e s c first n l a p q w (Skipped ls next) = (a.is_loop ≡ true) × Reaches e s c first n p w l.turn_end s.opens c.loops ls next
Lands e s c first n l a p q w (Broke ls next) = (a.is_loop ≡ true) × Reaches e s c first n p w (l.end + 1) a.opens a.loops ls next
Lands e s c first n l a p q w (Left ls next) = Returns e s first p w ls next

abbrev pub StatementsLand : Type 0
StatementsLand =
    (e : Setting) (s : Spot) (fn : Functions) (c : Context) (first : Option CaseText) (ls : Locals) (l : Loop) (a : Around) (room : ℕ) (inside : Bool) (x : Statement) (p : ℕ) (w : World)
    → IsLaid e s c first ls → IsSound s.program.dictionary → IsExit (place_in e s c) e.result_at → Follows s.program first fn s.number → FitsWorld s.program first w → (inside ≡ true → IsInside s first l a)
    → IsPlainStatement e.records (length ls.parameters) x → StatementFits (place_in e s c) room inside x → HasCode s p (statement_code e l p x)
    → Lands e s c first (length ls.parameters) l a p (p + statement_size e x) w (does fn c x ls w)
