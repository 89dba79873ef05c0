-- Laws of id columns.
use Rattle.std.proofs.Common.{◌≡◌, ℕ, ◌+◌, ◌<◌, List, [], ◌∷◌, ◌++◌, length, get_or, take, ap, sym, ◌∙◌, append-nil}
use Rattle.std.proofs.lemmas.List.{take_more}
use Rattle.cse_case.specs.declared.layout.ColumnSpan.{ColumnSpan}
use Rattle.cse_case.specs.NamedColumns.{field_at, fields_at}
use Rattle.cse_case.proofs.NamedColumnLaws.{fields_at-append}

-- the columns of one place more
pub fields_at-more : (spans : List ColumnSpan) (i : ℕ) (d : ColumnSpan) (columns : List ℕ) → i < length spans
    → fields_at (take i spans) columns ++ field_at (get_or spans i d) columns ≡ fields_at (take (i + 1) spans) columns
fields_at-more spans i d columns h =
    let span = get_or spans i d in
    sym (ap (λ l. fields_at l columns) (take_more spans i d h)
    ∙ (fields_at-append (take i spans) (span ∷ []) columns ∙ ap (λ l. fields_at (take i spans) columns ++ l) (append-nil (field_at span columns))))
