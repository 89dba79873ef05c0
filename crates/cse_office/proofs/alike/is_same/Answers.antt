use Rattle.std.proofs.Common.{◌≡◌, [], ap, sym, subst, ◌∙◌}
use Rattle.std.specs.Str.{IsAscii}
use Rattle.cse_case.specs.Bytes.{beside_lent, columns_by}
use Rattle.cse_case.proofs.BytesLaws.{ascii-columns_by}
use Rattle.cse_office.proofs.alike.is_same.Goals as goal

pub returns-then-have_none_beside : goal.returns-then-have_none_beside
returns-then-have_none_beside c e =
    let bytes : c.args.before.bytes.now ≡ c.args.after.bytes.now = c.are_same_bytes.ensures c.if-not-are_same_bytes.false in
    let none = c.if-have_none_beside.true in
    c.have_none_beside.ensures.before none ∙ (ap (λ l. columns_by l []) bytes ∙ sym (c.have_none_beside.ensures.after none))

pub returns-then-are_ascii : goal.returns-then-are_ascii
returns-then-are_ascii c e =
    let a = c.args.before in
    let b = c.args.after in
    let bytes : a.bytes.now ≡ b.bytes.now = c.are_same_bytes.ensures c.if-not-are_same_bytes.false in
    let ascii = c.are_ascii.ensures c.if-are_ascii.true in
    ascii-columns_by a.bytes.now (beside_lent a) ascii ∙ (bytes ∙ sym (ascii-columns_by b.bytes.now (beside_lent b) (subst IsAscii bytes ascii)))

pub returns : goal.returns
returns c e =
    let bytes : c.args.before.bytes.now ≡ c.args.after.bytes.now = c.are_same_bytes.ensures c.if-not-are_same_bytes.false in
    let sides : c.beside.result.now ≡ c.beside-2.result.now = c.are_same_characters.ensures e in
    c.beside.ensures ∙ (ap (λ l. columns_by l c.beside.result.now) bytes ∙ (ap (λ l. columns_by c.args.after.bytes.now l) sides ∙ sym c.beside-2.ensures))
