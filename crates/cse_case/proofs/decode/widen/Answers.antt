use Rattle.std.proofs.Common.{◌≡◌, ◌-◌, ◌++◌, ℕ, List, max, length, replicate, take, arith, ap, sym, ◌≤◌, ◌∙◌}
use Rattle.cse_dict.specs.Dictionary.{number_of_type}
use Rattle.cse_case.specs.Bytes.{columns_lent}
use Rattle.cse_case.specs.NamedColumns.{field_at, padded, record_len, record_of, type_span, least_width}
use Rattle.cse_case.proofs.DecodeLaws.{columns_held, record_of_is, length-padded, type_held}
use Rattle.cse_case.proofs.LastLaws.{BeginsAs-cut, IfSome-more, take_cut}
use Rattle.cse_case.specs.Decoding.{BeginsAs}
use Rattle.cse_case.proofs.decode.widen.Goals as goal

pub record_in-record_number-requires-clause-wide : goal.record_in-record_number-requires-clause-wide
record_in-record_number-requires-clause-wide c =
    let d = c.args.dictionary.now in
    let least : c.least_width-least_width.result ≡ least_width d = c.least_width-least_width.ensures ∙ ap (λ l. l.least_width) c.requires.layout in
    let here : (columns_lent c.columns.result) ≡ padded (least_width d) c.args.columns.now = c.columns.ensures ∙ c.in_ok-pad.ensures ∙ ap (λ w. padded w c.args.columns.now) least in
    rw here (omega (arith, length-padded (least_width d) c.args.columns.now))

pub returns-clause-number : goal.returns-clause-number
returns-clause-number c = λ text held.
    let d = c.args.dictionary.now in
    let columns = c.args.columns.now in
    let least : c.least_width-least_width.result ≡ least_width d = c.least_width-least_width.ensures ∙ ap (λ l. l.least_width) c.requires.layout in
    c.record_in-record_number.ensures.number ∙ ap (λ x. number_of_type x d)
    (ap (field_at (type_span d)) (c.columns.ensures ∙ c.in_ok-pad.ensures ∙ ap (λ w. padded w columns) least) ∙ type_held d columns text c.args.len held)
    ∙ record_of_is d text

pub returns-clause-columns : goal.returns-clause-columns
returns-clause-columns c = λ text held.
    let d = c.args.dictionary.now in
    let columns = c.args.columns.now in
    let least : c.least_width-least_width.result ≡ least_width d = c.least_width-least_width.ensures ∙ ap (λ l. l.least_width) c.requires.layout in
    let len : c.record_len.result ≡ record_len d (record_of d text) = c.record_len.ensures ∙ ap (record_len d) (returns-clause-number c text held) in
    let width : c.max.result ≡ max (max c.args.len (least_width d)) (record_len d (record_of d text)) =
    c.max.ensures ∙ ap (λ m. max m c.record_len.result) (c.max-width.ensures ∙ ap (max c.args.len) least) ∙ ap (max (max c.args.len (least_width d))) len in
    c.in_ok-set_width.ensures
    ∙ ap (λ (l : List ℕ). take c.max.result l ++ replicate (c.max.result - length l) 32) (c.in_ok-pad.ensures ∙ ap (λ w. padded w columns) least)
    ∙ columns_held d columns text c.args.len c.max.result held width

pub returns-clause-same : goal.returns-clause-same
returns-clause-same c =
    let d = c.args.dictionary.now in
    let columns = c.args.columns.now in
    let least : c.least_width-least_width.result ≡ least_width d = c.least_width-least_width.ensures ∙ ap (λ l. l.least_width) c.requires.layout in
    let padded_is : c.pad.new.self ≡ padded (least_width d) columns = c.in_ok-pad.ensures ∙ ap (λ w. padded w columns) least in
    let width : least_width d ≤ c.max.result = omega (arith, c.max.ensures, c.max-width.ensures, least) in
    let begins : take (least_width d) c.set_width.new.self ≡ take (least_width d) (columns_lent c.columns.result) =
    ap (take (least_width d)) c.in_ok-set_width.ensures
    ∙ take_cut (least_width d) c.max.result c.pad.new.self (replicate (c.max.result - length c.pad.new.self) 32) width (omega (arith, ap length padded_is, length-padded (least_width d) columns))
    ∙ ap (take (least_width d)) (sym c.columns.ensures) in
    IfSome-more (λ l. BeginsAs d c.record_in-record_number.result.1 (columns_lent c.columns.result) (columns_lent l.0)) (λ l. BeginsAs d c.record_in-record_number.result.1 c.set_width.new.self (columns_lent l.0)) c.args.last
    (λ l h. BeginsAs-cut d c.record_in-record_number.result.1 c.set_width.new.self (columns_lent c.columns.result) (columns_lent l.0) begins h) c.record_in-record_number.ensures.same
