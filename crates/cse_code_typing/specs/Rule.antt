-- The rule of an instruction: which abstract stacks may stand before it, to which places it leads, and
-- which stack stands there.
use Rattle.std.specs.Prelude.{ℕ, ◌+◌, Bool, List, [], ◌∷◌, ◌++◌, Option, None, Some, option_and_then}
use Rattle.cse_image_parts.specs.declared.instruction.Instr.{Instr}
use Rattle.cse_code_typing.specs.declared.kind.Kind.{Kind}
use Rattle.cse_code_typing.specs.declared.control.Control.{Control}
use Rattle.cse_code_typing.specs.declared.control.Control.TheVariants.{Step, Jump, Branch, Open, End, Break, Call, Return}
use Rattle.cse_code_typing.specs.Kinds.{below, top_of}
use Rattle.cse_code_typing.specs.Skeleton.{control}
use Rattle.cse_code_typing.specs.Signature.{Scene, Signature, signature_by, is_in_loop}

-- a place, and the stack that stands there
abbrev pub Edge : Type 0
Edge = ℕ × List Kind

-- for an instruction at a place before a stack: where it leads, or none where it may not stand there
abbrev pub Rule : Type 0
Rule = ℕ → Instr → List Kind → Option (List Edge)

-- a call ends with nothing but its gift
abbrev pub returned : List Kind → Option (List Edge)
returned [] = Some []
returned (k ∷ rest) = None

-- where an instruction at place q leads: rest is the stack below what it takes, and after is the stack
-- with what it leaves. A branch that is taken leaves nothing.
abbrev pub exits : ℕ → Control → List Kind → List Kind → Option (List Edge)
exits q Step rest after = Some ((q + 1, after) ∷ [])
exits q (Jump c) rest after = Some ((c, after) ∷ [])
exits q (Branch c) rest after = Some ((c, rest) ∷ (q + 1, after) ∷ [])
exits q (Open limit e) rest after = Some ((q + 1, after) ∷ (e + 1, after) ∷ [])
exits q (End s) rest after = Some ((s + 1, after) ∷ (q + 1, after) ∷ [])
exits q (Break e) rest after = Some ((e + 1, after) ∷ [])
exits q (Call c) rest after = Some ((q + 1, after) ∷ [])
exits q Return rest after = returned rest

-- the rule of an instruction whose skeleton is control; in_loop says whether a loop over the occurrences
-- of the record in its field a is around
abbrev pub rule_by : Scene → Bool → Control → Rule
rule_by s in_loop control q i stack =
    option_and_then
    (λ (x : Signature). option_and_then (λ (rest : List Kind). exits q control rest (x.leaves ++ rest)) (below x.takes stack))
    (signature_by s in_loop (top_of stack) i.op i.a i.b i.c)

-- the rule of the instructions of a routine, which are the code
abbrev pub rule : Scene → List Instr → Rule
rule s code q i stack = rule_by s (is_in_loop s.lists code q i.a) (control s.lists i) q i stack
