use Rattle.std.proofs.Common.{drop, take, ap, sym, ◌∙◌, arith}
use Rattle.cse_value.specs.Field.{field}
use Rattle.cse_dict.specs.Dictionary.{DictionaryText, code_at}
use Rattle.cse_case.specs.Bytes.{columns_lent}
use Rattle.cse_case.specs.Case.{CaseText, items_of, number_at}
use Rattle.cse_case.specs.Field.{item_at}
use Rattle.cse_case.proofs.FieldLaws.{whole_here}
use Rattle.cse_case.proofs.SetLaws.{item_wide, number_short}
use Rattle.cse_case.proofs.case.Case.number_in_line.Goals as goal

pub number_in-requires-clause-some : goal.number_in-requires-clause-some
number_in-requires-clause-some c =
    let span = c.args.span.now in
    omega (arith, c.requires.span.len, item_wide c.args.self.now span.item c.item-item.ensures.sound c.requires.item.there)

pub number_in-requires-clause-few : goal.number_in-requires-clause-few
number_in-requires-clause-few c =
    let span = c.args.span.now in
    omega (arith, c.requires.span.len, number_short c.args.self.now span.item c.item-item.ensures.sound c.requires.item.there c.requires.item.is_of_kind)

pub number_in-requires-clause-whole : goal.number_in-requires-clause-whole
number_in-requires-clause-whole c =
    let span = c.args.span.now in
    let held = c.requires.line span.item c.requires.item.there c.requires.item.owns in
    omega (arith, held.whole, c.requires.span.start, c.requires.span.len)

pub returns : goal.returns
unfolding number_at
returns c =
    let span = c.args.span.now in
    let held = c.requires.line span.item c.requires.item.there c.requires.item.owns in
    let own = item_at (items_of c.args.self.now) span.item in
    let line = columns_lent c.args.line in
    let same = ap (λ (x : CaseText). x.dictionary) c.self.view_is in
    c.number_in.ensures ∙ (ap (λ (d : DictionaryText). field (take span.len (drop span.start line)) (code_at d span.item)) same ∙ ap (λ it. field it (code_at c.args.self.now.dictionary span.item))
    (whole_here own line span.start span.len c.requires.span.start c.requires.span.len ∙ sym held.are))
