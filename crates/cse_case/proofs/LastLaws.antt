-- Laws of the last line of a run, with which a line is compared that comes to it.
use Rattle.std.proofs.Common.{◌≡◌, ℕ, suc, ◌+◌, ◌-◌, ◌<◌, ◌≤◌, Bool, List, [], ◌∷◌, ◌++◌, length, get_or, map, take, drop, refl, ap, sym, subst, ◌∙◌, arith, Option, None, Some}
use Rattle.std.specs.Prelude.{IfNone, IfSome}
use Rattle.std.proofs.lemmas.List.{drop-take, length-take, take-append-le, take-take}
use Rattle.cse_dict.specs.Dictionary.{DictionaryText, number_of_type}
use Rattle.cse_case.specs.declared.layout.ColumnSpan.{ColumnSpan}
use Rattle.cse_case.specs.declared.decode.Beginning.{Beginning}
use Rattle.cse_case.specs.declared.decode.Beginning.TheVariants.{Alike, Apart, Unknown}
use Rattle.cse_case.specs.Decoding.{BeginsAs, IsTyped}
use Rattle.cse_case.specs.Line.{FileLine}
use Rattle.cse_case.specs.NamedColumns.{TellApart, field_at, fields_at, id_spans, ids_of, last_column, least_width, type_span, width_of}
use Rattle.cse_case.specs.Columns.{columns_of, id_of, line_text, no_line}
use Rattle.cse_case.specs.Gathering.{Gathered, IsRunOf, first_id}
use Rattle.cse_case.specs.Run.{IsLastLine, RunText, line_at}
use Rattle.cse_case.specs.Taking.{BeginsAsLast, LastIsLike, run_id}
use Rattle.cse_case.proofs.DecodeLaws.{field_past, record_of_is}
use Rattle.cse_case.proofs.TakeLaws.{id_of_is, ids_fit, least_fits}
use Rattle.cse_case.proofs.GatherLaws.{length-done, run_id-done}

-- what holds of the answer where there is one
pub IfSome-more : {A : Type 0} (P Q : A → Type 0) (o : Option A) → ((a : A) → P a → Q a) → IfSome o P → IfSome o Q
IfSome-more P Q None f h = tt
IfSome-more P Q (Some a) f h = f a h

-- the fields within a front
field_at-take : (s : ColumnSpan) (n : ℕ) (columns : List ℕ) → s.start - 1 + s.len ≤ n → field_at s (take n columns) ≡ field_at s columns
field_at-take s n columns h =
    let k = s.start - 1 in
    let e : n ≡ k + (n - k) = omega arith in
    ap (λ m. take s.len (drop k (take m columns))) e ∙ ap (take s.len) (drop-take k (n - k) columns) ∙ take-take s.len (n - k) (drop k columns) (omega arith)

fields_at-take : (ss : List ColumnSpan) (n : ℕ) (columns : List ℕ) → last_column ss ≤ n → fields_at ss (take n columns) ≡ fields_at ss columns
fields_at-take [] n columns h = refl
fields_at-take (s ∷ ss) n columns h =
    ap (λ l. l ++ fields_at ss (take n columns)) (field_at-take s n columns (omega arith)) ∙ ap (λ l. field_at s columns ++ l) (fields_at-take ss n columns (omega arith))

-- columns that begin alike have the same id
pub ids_begin : (d : DictionaryText) (xs ys : List ℕ) → take (least_width d) xs ≡ take (least_width d) ys → ids_of d xs ≡ ids_of d ys
unfolding ids_of
ids_begin d xs ys e =
    sym (fields_at-take (id_spans d) (least_width d) xs (ids_fit d)) ∙ ap (fields_at (id_spans d)) e ∙ fields_at-take (id_spans d) (least_width d) ys (ids_fit d)

-- and their record type names the same record
pub type_in : (d : DictionaryText) → (type_span d).start - 1 + (type_span d).len ≤ least_width d
unfolding least_width
type_in d = omega arith

pub type_begins : (d : DictionaryText) (xs ys : List ℕ) → take (least_width d) xs ≡ take (least_width d) ys → field_at (type_span d) xs ≡ field_at (type_span d) ys
type_begins d xs ys e =
    sym (field_at-take (type_span d) (least_width d) xs (type_in d)) ∙ ap (field_at (type_span d)) e ∙ field_at-take (type_span d) (least_width d) ys (type_in d)

-- columns that are cut no shorter begin as they were
pub take_cut : (least width : ℕ) (columns blanks : List ℕ) → least ≤ width → least ≤ length columns → take least (take width columns ++ blanks) ≡ take least columns
take_cut least width columns blanks h k =
    take-append-le least (take width columns) blanks (omega (arith, length-take width columns)) ∙ take-take least width columns h

-- a line of the file, as it was read
least_in : (d : DictionaryText) (text : List ℕ) → least_width d ≤ width_of d text
unfolding width_of
least_in d text = omega arith

pub type_named : (d : DictionaryText) (line : FileLine) → (line_text d line).record_number ≡ number_of_type (field_at (type_span d) (line_text d line).columns) d
unfolding line_text
type_named d line =
    sym (record_of_is d (columns_of line))
    ∙ ap (λ t. number_of_type t d) (sym (field_past (type_span d) (width_of d (columns_of line)) (least_width d) (columns_of line) (type_in d) (least_in d (columns_of line))))

typed : (d : DictionaryText) (line : FileLine) → IsTyped d (line_text d line).columns (line_text d line).record_number
typed d line = record { wide = least_fits d line; names = type_named d line }

-- the last of the lines of a run
pub last_of : (d : DictionaryText) (id : List ℕ) (n : ℕ) (done : List FileLine) → IsRunOf d id n done → 0 < length done
    → (line : FileLine) × ((get_or (map (line_text d) done) (length done - 1) no_line ≡ line_text d line) × (id_of d line ≡ id))
last_of d id n [] r some = absurd (omega arith)
last_of d id n (x ∷ []) r some = (x, (refl, r.0))
last_of d id n (x ∷ y ∷ zs) r some =
    let last = last_of d id (n + 1) (y ∷ zs) r.2 (omega arith) in
    let all : length (x ∷ y ∷ zs) - 1 ≡ suc (length zs) = omega arith in
    let rest : length (y ∷ zs) - 1 ≡ length zs = omega arith in
    (last.0, (ap (λ k. get_or (map (line_text d) (x ∷ y ∷ zs)) k no_line) all ∙ (ap (λ k. get_or (map (line_text d) (y ∷ zs)) k no_line) (sym rest) ∙ (last.1).0), (last.1).1))

pub last_line : (d : DictionaryText) (front ended : Bool) (number : ℕ) (run : RunText) (uncut : List ℕ) → Gathered d front ended number run uncut → LastIsLike d run
last_line d front ended number run uncut g columns own is =
    let some = is.some in
    let len = length-done d front ended number run uncut g in
    let last = last_of d (first_id d g.done) 0 g.done g.same (subst (λ (n : ℕ). 0 < n) len some) in
    let line = last.0 in
    let at : line_at run (length run.lines - 1) ≡ line_text d line = ap (λ n. line_at run (n - 1)) len ∙ ap (λ r. line_at r (length g.done - 1)) g.is ∙ (last.1).0 in
    let these : columns ≡ (line_text d line).columns = is.columns_are ∙ ap (λ l. l.columns) at in
    let named : own ≡ (line_text d line).record_number = is.number_is ∙ ap (λ l. l.record_number) at in
    let typed_is : IsTyped d columns own = subst (λ (cs : List ℕ). IsTyped d cs own) (sym these) (subst (λ (n : Option ℕ). IsTyped d (line_text d line).columns n) (sym named) (typed d line)) in
    (typed_is, ap (ids_of d) these ∙ id_of_is d line ∙ (last.1).1 ∙ sym (run_id-done d front ended number run uncut g (subst (λ (n : ℕ). 0 < n) len some)))

-- the last line of a run, where it is told by its columns and its record
pub last_typed : {A : Type 0} (d : DictionaryText) (run : RunText) (last : Option A) (columns : A → List ℕ) (number : A → Option ℕ) → LastIsLike d run
    → IfSome last (λ l. IsLastLine run (columns l) (number l)) → IfSome last (λ l. IsTyped d (columns l) (number l))
last_typed d run None columns number like some = tt
last_typed d run (Some l) columns number like some = (like (columns l) (number l) some).0

-- columns that begin alike begin the same beside others
pub BeginsAs-cut : (d : DictionaryText) (beginning : Beginning) (now columns those : List ℕ) → take (least_width d) now ≡ take (least_width d) columns → BeginsAs d beginning columns those
    → BeginsAs d beginning now those
BeginsAs-cut d Alike now columns those same begins = same ∙ begins
BeginsAs-cut d Apart now columns those same begins = λ e. begins (sym (ids_begin d now columns same) ∙ e)
BeginsAs-cut d Unknown now columns those same begins = tt

-- columns of the same record type that don't begin alike
pub BeginsAs-apart : (d : DictionaryText) (beginning : Beginning) (columns those : List ℕ) → (beginning ≡ Alike → ⊥) → (beginning ≡ Apart → TellApart (type_span d) (id_spans d) (least_width d))
    → field_at (type_span d) columns ≡ field_at (type_span d) those → (take (least_width d) columns ≡ take (least_width d) those → ⊥) → BeginsAs d beginning columns those
unfolding ids_of
BeginsAs-apart d Alike columns those never apart types other = absurd (never refl)
BeginsAs-apart d Apart columns those never apart types other = λ e. other (apart refl columns those types e)
BeginsAs-apart d Unknown columns those never apart types other = tt

-- how a line begins beside the last one of a run
pub begins_last : {A : Type 0} (d : DictionaryText) (run : RunText) (last : Option A) (columns : A → List ℕ) (number : A → Option ℕ) (beginning : Beginning) (now : List ℕ)
    → 0 < length run.lines → IfNone last (run.lines ≡ []) → IfSome last (λ l. IsLastLine run (columns l) (number l)) → IfSome last (λ l. BeginsAs d beginning now (columns l))
    → BeginsAsLast d beginning now run
begins_last d run None columns number beginning now some none own begins = let empty : length run.lines ≡ 0 = ap length none in absurd (omega arith)
begins_last d run (Some l) columns number beginning now some none own begins = subst (λ (cs : List ℕ). BeginsAs d beginning now cs) own.columns_are begins

-- the columns of the last line of a run
last_here : (run : RunText) → 0 < length run.lines → IsLastLine run (line_at run (length run.lines - 1)).columns (line_at run (length run.lines - 1)).record_number
last_here run some = record { some = some; columns_are = refl; number_is = refl }

-- a line that begins as the last one has the id of the run, and one with other ids than the last one has others
pub alike_ids : (d : DictionaryText) (run : RunText) (now : List ℕ) → 0 < length run.lines → LastIsLike d run → BeginsAsLast d Alike now run → run_id d run ≡ ids_of d now
alike_ids d run now some like begins =
    let last = line_at run (length run.lines - 1) in
    sym ((like last.columns last.record_number (last_here run some)).1) ∙ sym (ids_begin d now last.columns begins)

pub apart_ids : (d : DictionaryText) (run : RunText) (now : List ℕ) → 0 < length run.lines → LastIsLike d run → BeginsAsLast d Apart now run → (run_id d run ≡ ids_of d now → ⊥)
apart_ids d run now some like begins e =
    let last = line_at run (length run.lines - 1) in
    begins (sym e ∙ sym ((like last.columns last.record_number (last_here run some)).1))
