-- An event of a program that does what the logic means leaves nothing else.
use Rattle.std.proofs.Common.{◌≡◌, [], ◌∷◌, ◌++◌, refl, sym, ap, ◌∙◌}
use Rattle.std.proofs.lemmas.List.{append-nil}
use Rattle.cse_steps.specs.State.{World, Told, nothing_told}
use Rattle.cse_steps.specs.Events.{Outcome, nothing_done, told_both, both}
use Rattle.cse_steps.proofs.Outcomes.{outcomes}
use Rattle.cse_meaning.specs.Meaning.{meaning}
use Rattle.cse_meaning.specs.Means.{begins, MeaningIsTheOutcome}

told_alone : (t : Told) → told_both t nothing_told ≡ t
told_alone t =
    ap (λ g. record { given = g; imputed = t.imputed ++ [] }) (append-nil t.given)
    ∙ ap (λ i. record { given = t.given; imputed = i }) (append-nil t.imputed)

abbrev world_in : Outcome → World
world_in o = record { case = o.case; store = o.store; told = o.told }

abbrev alone : Outcome → Outcome
alone a = both a (nothing_done a.case a.store)

world_alone : (a : Outcome) → world_in (alone a) ≡ world_in a
world_alone a = ap (λ (t : Told). record { case = a.case; store = a.store; told = t }) (told_alone a.told)

pub once : MeaningIsTheOutcome
once v t m case store n w means of fits ends =
    let u = meaning v.dictionary t m (begins case store) in
    let r = means.runs m case store of fits in
    let a : Outcome = record { steps = n; case = w.case; store = w.store; told = w.told } in
    let b : Outcome = record { steps = r.0; case = u.case; store = u.store; told = u.told } in
    let same = outcomes v (m ∷ []) case store (alone a) (alone b) (a, nothing_done w.case w.store, ends, refl, refl) (b, nothing_done u.case u.store, r.1, refl, refl) in
    sym (world_alone a) ∙ (ap world_in same ∙ world_alone b)
