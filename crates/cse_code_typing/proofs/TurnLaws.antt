-- One place of the pass, by the numbers of stacks.
use Rattle.std.proofs.Common.{◌≡◌, ℕ, List, length, Option, Some, sym, ap, ◌∙◌}
use Rattle.std.specs.Prelude.{option_map, option_and_then}
use Rattle.cse_image_parts.specs.declared.instruction.Instr.{Instr}
use Rattle.cse_code_typing.specs.declared.kind.Kind.{Kind}
use Rattle.cse_code_typing.specs.declared.piles.PileEntry.{PileEntry}
use Rattle.cse_code_typing.specs.declared.piles.Expected.{Expected}
use Rattle.cse_code_typing.specs.declared.exits.Exits.{Exits}
use Rattle.cse_code_typing.specs.Rule.{Edge, Rule}
use Rattle.cse_code_typing.specs.Pass.{Expects, Known, expected_stack, merge, pass_at}
use Rattle.cse_code_typing.specs.Piles.{expects}
use Rattle.cse_code_typing.specs.Edges.{edges_of, known_of}
use Rattle.cse_code_typing.specs.Within.{AreWithin, KeepsStacks, expected_in}
use Rattle.cse_code_typing.proofs.PileLaws.{known_kept, entry-known_of}

pub followed : (old new : List PileEntry) (known : List Expected) (q : ℕ) (ruled : Option (List Edge)) (o : Option Exits) (exits : Exits) (r : Option Known)
    → ruled ≡ option_map (edges_of new) o → o ≡ Some exits → KeepsStacks old new → AreWithin (length old) known → merge q (edges_of new exits) (known_of new known) ≡ r
    → option_and_then (λ (es : List Edge). merge q es (known_of old known)) ruled ≡ r
followed old new known q ruled o exits r rule is keeps within merged =
    ap (option_and_then (λ (es : List Edge). merge q es (known_of old known))) (rule ∙ ap (option_map (edges_of new)) is)
    ∙ ap (merge q (edges_of new exits)) (sym (known_kept old new known keeps within)) ∙ merged

pub turned_at : (rule : Rule) (table : List PileEntry) (known : List Expected) (q : ℕ) (i : Instr) (found there : Expected) (stack : List Kind) (r : Option Known)
    → found ≡ expected_in known q → found ≡ there → expected_stack (expects table there) ≡ Some stack
    → option_and_then (λ (es : List Edge). merge q es (known_of table known)) (rule q i stack) ≡ r → pass_at rule q i (known_of table known) ≡ r
turned_at rule table known q i found there stack r at is expected went =
    ap (λ (x : Expects). option_and_then (λ (s : List Kind). option_and_then (λ (es : List Edge). merge q es (known_of table known)) (rule q i s)) (expected_stack x))
    (entry-known_of table known q ∙ ap (expects table) (sym at ∙ is))
    ∙ ap (option_and_then (λ (s : List Kind). option_and_then (λ (es : List Edge). merge q es (known_of table known)) (rule q i s))) expected
    ∙ went
