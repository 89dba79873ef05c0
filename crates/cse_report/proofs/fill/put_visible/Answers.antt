use Rattle.std.proofs.Common.{◌≡◌, ◌++◌, List, ℕ, take, ap, sym, ◌∙◌, subst, append_assoc}
use Rattle.std.specs.Prelude.{map}
use Rattle.std.specs.Char.{encode_utf8}
use Rattle.std.specs.Str.{IsUtf8, encode_utf8_all}
use Rattle.std.proofs.lemmas.List.{take_all}
use Rattle.std.proofs.lemmas.Str.{IsUtf8-append}
use Rattle.cse_report.specs.MessageText.{visible}
use Rattle.cse_report.proofs.Utf8Laws.{encodes_more}
use Rattle.cse_report.proofs.fill.put_visible.Goals as goal

pub characters-preserved : goal.characters-preserved
characters-preserved c =
    let before = encode_utf8_all (map visible (take c.characters.character-index c.args.text.now)) in
    let more = encodes_more visible c.args.text.now c.characters.character-index c.character-item.result c.characters-test.true c.character-item.is in
    let shown : c.visible.result ≡ visible c.character-item.result = c.visible.ensures in
    record {
      bytes =
          c.in_ok-put_char.ensures.bytes
          ∙ (ap (λ x. c.characters.out.items ++ encode_utf8 x) shown
          ∙ (ap (λ (l : List ℕ). l ++ encode_utf8 (visible c.character-item.result)) c.characters.invariant.bytes
          ∙ (append_assoc c.args.out.now.items before (encode_utf8 (visible c.character-item.result)) ∙ ap (λ (l : List ℕ). c.args.out.now.items ++ l) (sym more))));
      utf8 = subst (λ (l : List ℕ). IsUtf8 l) (sym more) (IsUtf8-append before (encode_utf8 (visible c.character-item.result)) c.characters.invariant.utf8 (subst (λ x. IsUtf8 (encode_utf8 x)) shown c.in_ok-put_char.ensures.utf8));
    }

pub returns-clause-bytes : goal.returns-clause-bytes
returns-clause-bytes c =
    c.characters.invariant.bytes
    ∙ ap (λ (l : List ℕ). c.args.out.now.items ++ encode_utf8_all (map visible l)) (take_all c.characters.character-index c.args.text.now c.characters-test.false)

pub returns-clause-utf8 : goal.returns-clause-utf8
returns-clause-utf8 c =
    subst (λ (l : List ℕ). IsUtf8 (encode_utf8_all (map visible l))) (take_all c.characters.character-index c.args.text.now c.characters-test.false) c.characters.invariant.utf8
