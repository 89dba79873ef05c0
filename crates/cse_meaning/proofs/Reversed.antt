-- Lists in reverse, before others.
use Rattle.std.proofs.Common.{◌≡◌, List, [], ◌∷◌, ◌++◌, reverse, refl, sym, ap, ◌∙◌}
use Rattle.std.proofs.lemmas.List.{append-nil, append_assoc, reverse-append}

abbrev pub onto : {X : Type 0} → List X → List X → List X
onto [] rest = rest
onto (x ∷ xs) rest = onto xs (x ∷ rest)

onto_is : {X : Type 0} (xs rest : List X) → onto xs rest ≡ reverse xs ++ rest
onto_is [] rest = refl
onto_is {X} (x ∷ xs) rest = onto_is xs (x ∷ rest) ∙ sym (ap (λ (m : List X). m ++ rest) (reverse-append (x ∷ []) xs) ∙ append_assoc (reverse xs) (x ∷ []) rest)

pub in_reverse : {X : Type 0} (xs : List X) → onto xs [] ≡ reverse xs
in_reverse xs = onto_is xs [] ∙ append-nil (reverse xs)
