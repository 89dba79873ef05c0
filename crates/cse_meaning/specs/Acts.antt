-- What the laws of statements say: of assignments to variables, and of conditions.
use Rattle.std.specs.Prelude.{ℕ, ◌+◌, if◌then◌else◌, [], ◌∷◌, ◌++◌, length, Option, slice_set}
use Rattle.cse_value.specs.declared.number.Num.{Num}
use Rattle.cse_value.specs.Number.{is_condition}
use Rattle.cse_case.specs.Case.{CaseText}
use Rattle.cse_image_parts.specs.declared.instruction.Op.TheVariants as ops
use Rattle.cse_syntax_tree.specs.Tree.{Spelling}
use Rattle.cse_logic_tree.specs.declared.tree.Variable.{Variable}
use Rattle.cse_logic_tree.specs.declared.tree.Variable.TheVariants as v
use Rattle.cse_logic_tree.specs.Typed as tree
use Rattle.cse_compile.specs.Wide.{with_c}
use Rattle.cse_compile.specs.Setting.{Setting, result_local}
use Rattle.cse_compile.specs.Expressions.{number_size, number_code}
use Rattle.cse_compile.specs.declared.setting.Loop.{Loop}
use Rattle.cse_compile.specs.Statements.{statement_size, statement_code}
use Rattle.cse_meaning.specs.Fit.{IsNumberVariable, NumberFits}
use Rattle.cse_steps.specs.Cell.{Number}
use Rattle.cse_steps.specs.State.{World}
use Rattle.cse_steps.specs.Fits.{FitsWorld}
use Rattle.cse_meaning.specs.Setting.{Context, Locals, Functions}
use Rattle.cse_meaning.specs.Expressions.{number_of}
use Rattle.cse_meaning.specs.Writing.{local_set}
use Rattle.cse_meaning.specs.Statements.{does}
use Rattle.cse_meaning.specs.Meaning.{world_of}
use Rattle.cse_meaning.specs.Runs.{Goes, Spot, at, HasCode}
use Rattle.cse_meaning.specs.Laid.{IsLaid, KeepsRows, place_in}
use Rattle.cse_meaning.specs.Follows.{Follows}
use Rattle.cse_meaning.specs.Plain.{IsOwn, IsPlain}

-- the call with another value of the variable, where it is one of its own
abbrev pub holding : Setting → Spot → Variable → Num → Spot
holding e s (v.Global g) x = s
holding e s (v.Parameter k) x = record s { locals = slice_set s.locals k (Number x) }
holding e s v.Result x = record s { locals = slice_set s.locals (result_local e) (Number x) }

-- a run leads on, and the world and the call, with its variables as they are then, stand ready for what follows
pub record Leads (e : Setting) (s t : Spot) (c : Context) (first : Option CaseText) (ls : Locals) (p q : ℕ) (w next : World) : Type 0 where
  pub goes : Goes s.program (at s p [] w) (at t q [] next)
  pub laid : IsLaid e t c first ls
  pub fits : FitsWorld t.program first next

-- Behind the code of an assignment to a variable the world is that of its meaning, and the call holds the value.
abbrev pub AssignmentsGo : Type 0
AssignmentsGo =
    (e : Setting) (s : Spot) (fn : Functions) (c : Context) (first : Option CaseText) (ls : Locals) (l : Loop) (name : Spelling) (y : Variable) (x : tree.Number) (p : ℕ) (w : World)
    → IsLaid e s c first ls → KeepsRows s.program.dictionary → Follows s.program first fn s.number → FitsWorld s.program first w → IsOwn (length ls.parameters) y → IsPlain (length ls.parameters) x
    → IsNumberVariable (place_in e s c) y → NumberFits (place_in e s c) x → HasCode s p (statement_code e l p (tree.Set name y x))
    → Leads e s (holding e s y (number_of fn c x ls w).0) c first (local_set y (number_of fn c x ls w).0 ls) p (p + statement_size e (tree.Set name y x)) w (world_of (does fn c (tree.Set name y x) ls w))

-- Behind the code of a condition comes what it guards, if it holds, and else the place that the jump names.
abbrev pub ConditionsGo : Type 0
ConditionsGo =
    (e : Setting) (s : Spot) (fn : Functions) (c : Context) (first : Option CaseText) (ls : Locals) (x : tree.Number) (k p : ℕ) (w : World)
    → IsLaid e s c first ls → KeepsRows s.program.dictionary → Follows s.program first fn s.number → FitsWorld s.program first w → IsPlain (length ls.parameters) x → NumberFits (place_in e s c) x
    → HasCode s p (number_code e p x ++ with_c ops.JumpUnless k ∷ [])
    → Leads e s s c first ls p (if is_condition (number_of fn c x ls w).0 then p + number_size x + 1 else k) w (number_of fn c x ls w).1
