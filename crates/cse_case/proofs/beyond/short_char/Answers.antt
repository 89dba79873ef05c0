use Rattle.std.proofs.Common.{ℕ, ◌+◌, ◌++◌, ◌∷◌, List, get_or, take, ap, sym, ◌∙◌, arith, take-add}
use Rattle.std.proofs.lemmas.List.{drop_more, take_more}
use Rattle.std.proofs.lemmas.Str.{encode_ascii}
use Rattle.cse_case.proofs.beyond.short_char.Goals as goal

pub returns-then-byte-lt128-clause-written : goal.returns-then-byte-lt128-clause-written
returns-then-byte-lt128-clause-written c =
    let text = c.args.text.now in
    take_more text c.args.at 0 c.requires ∙ ap (λ (l : List ℕ). take c.args.at text ++ l) (sym (encode_ascii (get_or text c.args.at 0) c.if-byte-lt128.true))

pub returns-clause-written : goal.returns-clause-written
returns-clause-written c =
    let text = c.args.text.now in
    let at = c.args.at in
    take-add at 2 text ∙ ap (λ (l : List ℕ). take at text ++ take 2 l) (drop_more text at 0 c.requires)
    ∙ ap (λ (l : List ℕ). take at text ++ (get_or text at 0 ∷ take 1 l)) (drop_more text (at + 1) 0 (omega arith))
    ∙ ap (λ (l : List ℕ). take at text ++ l) (sym c.in-Some.ensures.written)
