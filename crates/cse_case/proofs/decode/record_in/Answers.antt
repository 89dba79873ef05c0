use Rattle.std.proofs.Common.{◌≡◌, ◌≤◌, ap, sym, subst, take, ◌∙◌, arith}
use Rattle.std.specs.Prelude.{IfSome}
use Rattle.cse_dict.specs.Dictionary.{number_of_type}
use Rattle.cse_case.specs.Bytes.{columns_lent}
use Rattle.cse_case.specs.declared.decode.Beginning.TheVariants.{Apart}
use Rattle.cse_case.specs.Decoding.{BeginsAs, IsTyped}
use Rattle.cse_case.specs.NamedColumns.{LayoutText, TellApart, field_at, id_spans, least_width, type_span}
use Rattle.cse_case.proofs.DecodeLaws.{type_few}
use Rattle.cse_case.proofs.LastLaws.{BeginsAs-apart, type_begins, type_in}
use Rattle.cse_case.proofs.TakeLaws.{other_ids, same_ids}
use Rattle.cse_case.proofs.decode.record_in.Goals as goal

pub returns-then-is_same-clause-number : goal.returns-then-is_same-clause-number
returns-then-is_same-clause-number c =
    let d = c.args.dictionary.now in
    let typed = subst (λ o. IfSome o (λ l. IsTyped d (columns_lent l.0) l.1)) c.in-Some.is c.requires.last in
    let columns = (columns_lent c.args.columns) in
    let before = (columns_lent c.in-Some.before) in
    let width = c.least_width-width.result in
    let least : width ≡ least_width d = c.least_width-width.ensures ∙ ap (λ l. l.least_width) c.requires.layout in
    let same : take width columns ≡ take width before =
    same_ids (take width columns) (take width before) c.is_same.result c.is_same.ensures c.if-is_same.true in
    let begins : take (least_width d) before ≡ take (least_width d) columns = ap (λ n. take n before) (sym least) ∙ sym same ∙ ap (λ n. take n columns) least in
    typed.names ∙ ap (λ t. number_of_type t d) (type_begins d before columns begins)

pub is_same_at-requires-clause-right : goal.is_same_at-requires-clause-right
is_same_at-requires-clause-right c =
    let d = c.args.dictionary.now in
    let typed = subst (λ o. IfSome o (λ l. IsTyped d (columns_lent l.0) l.1)) c.in-Some.is c.requires.last in
    let span : c.record_type-span.result ≡ type_span d = c.record_type-span.ensures ∙ ap (λ l. l.record_type) c.requires.layout in
    let fits = type_in d in
    rw span (omega (arith, typed.wide))

pub is_same_at-requires-clause-left : goal.is_same_at-requires-clause-left
is_same_at-requires-clause-left c =
    let d = c.args.dictionary.now in
    let span : c.record_type-span.result ≡ type_span d = c.record_type-span.ensures ∙ ap (λ l. l.record_type) c.requires.layout in
    let fits = type_in d in
    rw span (omega (arith, c.requires.wide))

pub returns-then-is_same_at-clause-number : goal.returns-then-is_same_at-clause-number
returns-then-is_same_at-clause-number c =
    let d = c.args.dictionary.now in
    let typed = subst (λ o. IfSome o (λ l. IsTyped d (columns_lent l.0) l.1)) c.in-Some.is c.requires.last in
    let span : c.record_type-span.result ≡ type_span d = c.record_type-span.ensures ∙ ap (λ l. l.record_type) c.requires.layout in
    let same = same_ids (field_at c.record_type-span.result (columns_lent c.args.columns)) (field_at c.record_type-span.result (columns_lent c.in-Some.before)) c.is_same_at.result c.is_same_at.ensures c.if-is_same_at.true in
    typed.names
    ∙ ap (λ t. number_of_type t d) (ap (λ s. field_at s (columns_lent c.in-Some.before)) (sym span) ∙ sym same ∙ ap (λ s. field_at s (columns_lent c.args.columns)) span)

pub returns-clause-number : goal.returns-clause-number
returns-clause-number c =
    let d = c.args.dictionary.now in
    let span : c.record_type-span.result ≡ type_span d = c.record_type-span.ensures ∙ ap (λ l. l.record_type) c.requires.layout in
    c.record_of-number.ensures ∙ ap (λ t. number_of_type t d) (ap (λ s. field_at s (columns_lent c.args.columns)) span)

pub returns-then-is_same_at-clause-same : goal.returns-then-is_same_at-clause-same
returns-then-is_same_at-clause-same c =
    let d = c.args.dictionary.now in
    let columns = (columns_lent c.args.columns) in
    let before = (columns_lent c.in-Some.before) in
    let width = c.least_width-width.result in
    let span : c.record_type-span.result ≡ type_span d = c.record_type-span.ensures ∙ ap (λ l. l.record_type) c.requires.layout in
    let least : width ≡ least_width d = c.least_width-width.ensures ∙ ap (λ l. l.least_width) c.requires.layout in
    let same = same_ids (field_at c.record_type-span.result (columns_lent c.args.columns)) (field_at c.record_type-span.result (columns_lent c.in-Some.before)) c.is_same_at.result c.is_same_at.ensures c.if-is_same_at.true in
    let types : field_at (type_span d) columns ≡ field_at (type_span d) before =
    ap (λ s. field_at s columns) (sym span) ∙ same ∙ ap (λ s. field_at s before) span in
    let other : take (least_width d) columns ≡ take (least_width d) before → ⊥ = λ e. other_ids (take width columns) (take width before) c.is_same.result c.is_same.ensures c.if-is_same.false
    (ap (λ n. take n columns) least ∙ e ∙ ap (λ n. take n before) (sym least)) in
    let apart : c.told_apart.result ≡ Apart → TellApart (type_span d) (id_spans d) (least_width d) = λ e. subst (λ (l : LayoutText). TellApart l.record_type l.ids l.least_width) c.requires.layout (c.told_apart.ensures.apart e) in
    subst (λ o. IfSome o (λ l. BeginsAs d c.told_apart.result columns (columns_lent l.0))) (sym c.in-Some.is)
    (BeginsAs-apart d c.told_apart.result columns before c.told_apart.ensures.never apart types other)

pub record_of-number-requires-clause-few : goal.record_of-number-requires-clause-few
record_of-number-requires-clause-few c =
    let d = c.args.dictionary.now in
    let span : c.record_type-span.result ≡ type_span d = c.record_type-span.ensures ∙ ap (λ l. l.record_type) c.requires.layout in
    let few : (type_span d).len ≤ 16 = type_few d c.shape-shape.ensures.sound in
    rw span few

pub record_of-number-requires-clause-there : goal.record_of-number-requires-clause-there
record_of-number-requires-clause-there c =
    let d = c.args.dictionary.now in
    let span : c.record_type-span.result ≡ type_span d = c.record_type-span.ensures ∙ ap (λ l. l.record_type) c.requires.layout in
    let fits = type_in d in
    rw span (omega (arith, c.requires.wide))
