use Rattle.std.proofs.Common.{◌++◌, List, ℕ, take, ap, sym, ◌∙◌, append_assoc}
use Rattle.std.specs.Char.{encode_utf8}
use Rattle.std.specs.Str.{encode_utf8_all}
use Rattle.std.proofs.lemmas.List.{take_all}
use Rattle.cse_lemmas.proofs.Texts.{encodes_take_more}
use Rattle.cse_report.proofs.lines.put_characters.Goals as goal

pub characters-preserved : goal.characters-preserved
characters-preserved c =
    let before = encode_utf8_all (take c.characters.character-index c.args.characters.now) in
    let more = encodes_take_more c.args.characters.now c.characters.character-index c.character-item.result c.characters-test.true c.character-item.is in
    c.in_ok-put_char.ensures.bytes
    ∙ (ap (λ (l : List ℕ). l ++ encode_utf8 c.character-item.result) c.characters.invariant
    ∙ (append_assoc c.args.out.now.items before (encode_utf8 c.character-item.result) ∙ ap (λ (l : List ℕ). c.args.out.now.items ++ l) (sym more)))

pub returns : goal.returns
returns c =
    c.characters.invariant
    ∙ ap (λ (l : List ℕ). c.args.out.now.items ++ encode_utf8_all l) (take_all c.characters.character-index c.args.characters.now c.characters-test.false)
