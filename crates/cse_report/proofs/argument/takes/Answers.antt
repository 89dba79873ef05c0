use Rattle.std.proofs.Common.{◌≡◌, List, [], ◌∷◌, length, map, true, refl, ap, sym, ◌∙◌, arith}
use Rattle.std.specs.Prelude.{◌==◌}
use Rattle.std.proofs.lemmas.Bool.{eqb-true}
use Rattle.cse_report.specs.declared.argument.Arg.{Arg}
use Rattle.cse_report.specs.MessageText.{kind_of}
use Rattle.cse_report.proofs.argument.takes.Goals as goal

-- no argument is left exactly where no kind is
no_kinds : (args : List Arg) → (length args == 0) ≡ true → map kind_of args ≡ []
no_kinds [] none = refl
no_kinds (first ∷ rest) none = absurd (omega (arith, eqb-true _ _ none))

no_arguments : (args : List Arg) → map kind_of args ≡ [] → (length args == 0) ≡ true
no_arguments [] none = refl
no_arguments (first ∷ rest) none = absurd (omega (arith, ap length none))

pub returns : goal.returns
returns c =
    let rest = c.kinds.rest.now in
    let left = c.in_default.ensures.steps.0 in (
      λ none. c.kinds.invariant.0 (no_kinds rest (sym c.is_empty.ensures ∙ none) ∙ sym left),
      λ has. c.is_empty.ensures ∙ no_arguments rest (c.kinds.invariant.1 has ∙ left),
    )
