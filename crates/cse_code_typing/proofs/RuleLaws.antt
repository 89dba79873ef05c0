-- The rule of an instruction, part after part.
use Rattle.std.proofs.Common.{◌≡◌, ℕ, Bool, List, ◌++◌, Option, Some, None, sym, ap, ◌∙◌}
use Rattle.std.specs.Prelude.{option_and_then}
use Rattle.cse_image_parts.specs.declared.instruction.Instr.{Instr}
use Rattle.cse_code_typing.specs.declared.kind.Kind.{Kind}
use Rattle.cse_code_typing.specs.declared.control.Control.{Control}
use Rattle.cse_code_typing.specs.Kinds.{below, top_of}
use Rattle.cse_code_typing.specs.Signature.{Scene, Signature, signature_by}
use Rattle.cse_code_typing.specs.Rule.{Edge, exits, rule_by}

module _ (s : Scene) (in_loop : Bool) (control : Control) (q : ℕ) (i : Instr) (stack : List Kind) where
  abbrev signed : Option Kind → Option Signature
  signed top = signature_by s in_loop top i.op i.a i.b i.c

  abbrev then_ : Signature → Option (List Edge)
  then_ x = option_and_then (λ (rest : List Kind). exits q control rest (x.leaves ++ rest)) (below x.takes stack)

  -- the tables have no such operand
  pub rule_none : (top : Option Kind) → top ≡ top_of stack → None ≡ signed top → rule_by s in_loop control q i stack ≡ None
  rule_none top is none = ap (λ (t : Option Kind). option_and_then then_ (signed t)) (sym is) ∙ ap (option_and_then then_) (sym none)

  -- what is taken doesn't lie on the stack
  pub rule_blocked : (top : Option Kind) (x : Signature) → top ≡ top_of stack → Some x ≡ signed top → None ≡ below x.takes stack → rule_by s in_loop control q i stack ≡ None
  rule_blocked top x is some none =
      ap (λ (t : Option Kind). option_and_then then_ (signed t)) (sym is) ∙ ap (option_and_then then_) (sym some)
      ∙ ap (option_and_then (λ (rest : List Kind). exits q control rest (x.leaves ++ rest))) (sym none)

  pub rule_goes : (top : Option Kind) (x : Signature) (rest : List Kind) → top ≡ top_of stack → Some x ≡ signed top → Some rest ≡ below x.takes stack
      → rule_by s in_loop control q i stack ≡ exits q control rest (x.leaves ++ rest)
  rule_goes top x rest is some lies =
      ap (λ (t : Option Kind). option_and_then then_ (signed t)) (sym is) ∙ ap (option_and_then then_) (sym some)
      ∙ ap (option_and_then (λ (rest : List Kind). exits q control rest (x.leaves ++ rest))) (sym lies)
