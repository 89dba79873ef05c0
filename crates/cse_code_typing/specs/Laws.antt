-- What holds of all typings and of all edges.
use Rattle.std.specs.Prelude.{◌≡◌, ◌<◌, ℕ, List, [], ◌∷◌, length, Some, slice_get}
use Rattle.cse_image_parts.specs.declared.instruction.Instr.{Instr}
use Rattle.cse_code_typing.specs.declared.kind.Kind.{Kind}
use Rattle.cse_code_typing.specs.Skeleton.{skeleton}
use Rattle.cse_code_typing.specs.Bracket.{KeepsRules}
use Rattle.cse_code_typing.specs.Signature.{Scene}
use Rattle.cse_code_typing.specs.Rule.{Edge, Rule, rule}
use Rattle.cse_code_typing.specs.Typing.{Stacks, IsTypingBelow}

-- two typings of the places below n have the same stacks there
abbrev pub TypingIsOne : Type 0
TypingIsOne =
    (rule : Rule) (code : List Instr) (n : ℕ) (t u : Stacks) → IsTypingBelow rule code n t → IsTypingBelow rule code n u
    → (k : ℕ) → k < n → t k ≡ u k

-- each edge leads to a place below n
abbrev pub LeadInside : ℕ → List Edge → Type 0
LeadInside n [] = Unit {0}
LeadInside n (e ∷ es) = (e.0 < n) × LeadInside n es

-- where the brackets keep their rules, no instruction leads to a place that isn't there
abbrev pub EdgesLeadInside : Type 0
EdgesLeadInside =
    (s : Scene) (code : List Instr) → KeepsRules (skeleton s.lists code)
    → (q : ℕ) (i : Instr) (stack : List Kind) (edges : List Edge) → slice_get code q ≡ Some i
    → rule s code q i stack ≡ Some edges → LeadInside (length code) edges
