use Rattle.std.proofs.Common.{◌≡◌, ◌∙◌, ◌-◌, ◌<◌, ℕ, Bool, true, false, List, length, take, drop, ap, refl, sym, arith, codes, nat_eq, length-drop}
use Rattle.std.specs.Prelude.{◌&&◌, nat_lt}
use Rattle.std.specs.List.{starts_with}
use Rattle.std.proofs.lemmas.Bool.{eqb-false, eqb-true, lt-ltb}
use Rattle.std.proofs.lemmas.List.{take_all}
use Rattle.cse_decks.specs.Loading.{after_word, are_sizes, is_array_line, word}
use Rattle.cse_decks.proofs.lines.is_array_line.Goals as goal

-- a line by its parts: whether it begins with the word, and whether a name follows
by_parts : (line : List ℕ) (begins named : Bool) → begins ≡ starts_with nat_eq line (codes "ARRAY ") → nat_lt 0 (length (word (drop 6 line))) ≡ named
    → is_array_line line ≡ (begins && (named && are_sizes (after_word (drop 6 line))))
unfolding is_array_line
by_parts line begins named is has =
    ap (λ x. x && (nat_lt 0 (length (word (drop 6 line))) && are_sizes (after_word (drop 6 line)))) (sym is) ∙ ap (λ x. begins && (x && are_sizes (after_word (drop 6 line)))) has

rest : (line : List ℕ) → take (length line - 6) (drop 6 line) ≡ drop 6 line
rest line = take_all (length line - 6) (drop 6 line) (omega (arith, length-drop 6 line))

pub returns-then-not-starts_with-clause-value : goal.returns-then-not-starts_with-clause-value
returns-then-not-starts_with-clause-value c =
    let line = c.args.line.now in
    sym (by_parts line false (nat_lt 0 (length (word (drop 6 line)))) (sym c.if-not-starts_with.true ∙ c.starts_with.ensures.value) refl)

pub returns-then-is_empty-clause-value : goal.returns-then-is_empty-clause-value
returns-then-is_empty-clause-value c =
    let line = c.args.line.now in
    let name = c.word.ensures ∙ ap word (rest line) in
    let none = sym (ap length name) ∙ eqb-true (length c.word.result.now) 0 (sym c.is_empty.ensures ∙ c.if-is_empty.true) in
    sym (by_parts line true false (sym c.if-not-starts_with.false ∙ c.starts_with.ensures.value) (ap (nat_lt 0) none))

pub returns-clause-value : goal.returns-clause-value
returns-clause-value c =
    let line = c.args.line.now in
    let name = c.word.ensures ∙ ap word (rest line) in
    let some = eqb-false (length c.word.result.now) 0 (sym c.is_empty.ensures ∙ c.if-is_empty.false) in
    let long : 0 < length (word (drop 6 line)) = omega (arith, some, ap length name) in
    c.are_sizes.ensures ∙ ap are_sizes (c.after_word.ensures ∙ ap after_word (rest line))
    ∙ sym (by_parts line true true (sym c.if-not-starts_with.false ∙ c.starts_with.ensures.value) (lt-ltb 0 (length (word (drop 6 line))) long))
