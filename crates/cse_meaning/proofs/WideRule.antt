-- What wide instructions mean for places and stacks: as the instructions that stand for them.
use Rattle.std.specs.Prelude.{◌≡◌, ℕ, ◌<◌, Bool, false, List, [], ◌∷◌, ◌++◌, length, map, Option, Some, slice_get, option_and_then}
use Rattle.std.specs.List.{list_any}
use Rattle.cse_image_parts.specs.Image.{Lists}
use Rattle.cse_code_typing.specs.declared.kind.Kind.{Kind}
use Rattle.cse_code_typing.specs.declared.kind.Kind.TheVariants.{Number, Text}
use Rattle.cse_code_typing.specs.declared.control.Control.{Control}
use Rattle.cse_code_typing.specs.declared.control.Control.TheVariants as c
use Rattle.cse_code_typing.specs.Bracket.{around}
use Rattle.cse_code_typing.specs.Kinds.{below, top_of}
use Rattle.cse_code_typing.specs.Skeleton.{control_by}
use Rattle.cse_code_typing.specs.Signature.{Scene, Signature, ◌⇒◌, signature_by, loops_by}
use Rattle.cse_code_typing.specs.Rule.{Edge, exits}
use Rattle.cse_code_typing.specs.Typing.{AgreesBelow, LeadsTo}
use Rattle.cse_compile.specs.Wide as w
use Rattle.cse_compile.specs.Wide.{Wide}

abbrev pub Stack : Type 0
Stack = List Kind

abbrev pub wide_control : Lists → Wide → Control
wide_control x (w.Constant z) = c.Step
wide_control x (w.Chars text) = c.Step
wide_control x (w.Turns limit end) = c.Open limit end
wide_control x (w.Plain op a b d) = control_by x op a b d

abbrev pub wide_skeleton : Lists → List Wide → List Control
wide_skeleton x ws = map (wide_control x) ws

-- a loop over the occurrences of record a begins here
abbrev pub wide_loops : ℕ → Option Wide → Bool
wide_loops a (Some (w.Plain op b n m)) = loops_by op b a
wide_loops a _ = false

abbrev pub wide_in_loop : Lists → List Wide → ℕ → ℕ → Bool
wide_in_loop x ws q a = list_any (λ o. wide_loops a (slice_get ws o)) (around (wide_skeleton x ws) q)

abbrev pub field_a : Wide → ℕ
field_a (w.Plain op a b d) = a
field_a _ = 0

abbrev pub wide_signature : Scene → Bool → Option Kind → Wide → Option Signature
wide_signature s in_loop top (w.Constant z) = [] ⇒ Number ∷ []
wide_signature s in_loop top (w.Chars text) = [] ⇒ Text ∷ []
wide_signature s in_loop top (w.Turns limit end) = Number ∷ [] ⇒ []
wide_signature s in_loop top (w.Plain op a b d) = signature_by s in_loop top op a b d

abbrev pub wide_rule : Scene → List Wide → ℕ → Wide → Stack → Option (List Edge)
wide_rule s ws q i stack =
    option_and_then
    (λ (x : Signature). option_and_then (λ (rest : Stack). exits q (wide_control s.lists i) rest (x.leaves ++ rest)) (below x.takes stack))
    (wide_signature s (wide_in_loop s.lists ws q (field_a i)) (top_of stack) i)

pub record Follows (s : Scene) (ws : List Wide) (t : ℕ → Stack) (q : ℕ) (i : Wide) : Type 0 where
  pub edges : List Edge
  pub ruled : wide_rule s ws q i (t q) ≡ Some edges
  pub agrees : AgreesBelow (length ws) t edges

pub record IsLedBy (s : Scene) (ws : List Wide) (t : ℕ → Stack) (k : ℕ) : Type 0 where
  pub from : ℕ
  pub instr : Wide
  pub edges : List Edge
  pub there : slice_get ws from ≡ Some instr
  pub smaller : from < k
  pub ruled : wide_rule s ws from instr (t from) ≡ Some edges
  pub leads : LeadsTo k edges
