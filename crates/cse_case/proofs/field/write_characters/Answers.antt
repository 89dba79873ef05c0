use Rattle.std.proofs.Common.{◌≡◌, ◌<◌, ◌+◌, ◌++◌, ◌∷◌, [], ◌∙◌, length, set, take, drop, get_or, ap, sym, arith, append_assoc, append-nil, length-append, length-drop, length-take-le, take-append-drop}
use Rattle.std.proofs.lemmas.List.{get_or_read, take_all, take_more}
use Rattle.cse_case.proofs.DecodeLaws.{set_behind}
use Rattle.cse_case.proofs.field.write_characters.Goals as goal

pub columns-init : goal.columns-init
columns-init c =
    let old = c.args.columns.now in
    let start = c.args.start in
    let none : start + 0 ≡ start = omega arith in
    sym (take-append-drop start old) ∙ ap (λ l. l ++ drop start old) (sym (append-nil (take start old))) ∙ ap (λ k. (take start old ++ []) ++ drop k old) (sym none)

pub columns-preserved : goal.columns-preserved
columns-preserved c =
    let old = c.args.columns.now in
    let start = c.args.start in
    let i = c.columns.i in
    let text = c.args.characters.now in
    let x = get_or text i 0 in
    let within : i < length text = omega (arith, c.columns-test.true) in
    let read : c.index-characters-i.result ≡ x = get_or_read text i c.index-characters-i.result within c.index-characters-i.is 0 in
    let front = take start old ++ take i text in
    let count : start + i ≡ length front =
    sym (length-append (take start old) (take i text) ∙ (let e : length (take start old) + length (take i text) ≡ start + i = omega (arith, length-take-le start old (omega (arith, c.requires.whole)), length-take-le i text (omega (arith, within))) in e)) in
    let next : start + i + 1 ≡ start + (i + 1) = omega arith in
    c.put.ensures ∙ ap (λ y. set c.columns.columns (start + i) y) read ∙ ap (λ l. set l (start + i) x) c.columns.invariant
    ∙ set_behind front old (start + i) x count (omega (arith, c.requires.whole, within))
    ∙ ap (λ l. l ++ drop (start + i + 1) old) (append_assoc (take start old) (take i text) (x ∷ []) ∙ ap (λ l. take start old ++ l) (sym (take_more text i 0 within)))
    ∙ ap (λ k. (take start old ++ take (i + 1) text) ++ drop k old) next

pub returns : goal.returns
returns c =
    let old = c.args.columns.now in
    let start = c.args.start in
    let text = c.args.characters.now in
    let n : c.columns.i ≡ length text = omega (arith, c.columns-test.false, c.columns.auto.i-end) in
    c.columns.invariant ∙ ap (λ k. (take start old ++ take k text) ++ drop (start + k) old) n
    ∙ ap (λ l. (take start old ++ l) ++ drop (start + length text) old) (take_all (length text) text (omega arith))
    ∙ append_assoc (take start old) text (drop (start + length text) old)

pub put-requires : goal.put-requires
put-requires c =
    let old = c.args.columns.now in
    let start = c.args.start in
    let i = c.columns.i in
    let text = c.args.characters.now in
    let within : i < length text = omega (arith, c.columns-test.true) in
    let front = take start old ++ take i text in
    omega (
      arith,
      c.requires.whole,
      within,
      ap length c.columns.invariant,
      length-append front (drop (start + i) old),
      length-append (take start old) (take i text),
      length-take-le start old (omega (arith, c.requires.whole)),
      length-take-le i text (omega (arith, within)),
      length-drop (start + i) old,
    )
