-- Laws of the line of an occurrence: where it lies, by the table.
use Rattle.std.proofs.Common.{◌≡◌, ℕ, ◌+◌, ◌-◌, ◌<◌, ◌≤◌, Bool, List, length, get_or, ap, sym, ◌∙◌, arith, subst}
use Rattle.std.specs.Prelude.{slice_index}
use Rattle.std.proofs.lemmas.List.{length-map}
use Rattle.cse_dict.specs.Dictionary.{DictionaryText, shape_of}
use Rattle.cse_dict.specs.Sound.{IsSound}
use Rattle.cse_dict.specs.declared.lookup.Unseen.{Unseen}
use Rattle.cse_case.specs.Columns.{LineText}
use Rattle.cse_case.specs.declared.line.Line.{Line}
use Rattle.cse_case.specs.Laid.{IsLaid, laid_line, laid_lines}
use Rattle.cse_case.specs.Run.{line_at}
use Rattle.cse_case.proofs.LaidLaws.{laid_within, line_in}
use Rattle.cse_case.specs.declared.seen.OccurrenceSpan.{OccurrenceSpan}
use Rattle.cse_case.specs.declared.seen.Table.{Table}
use Rattle.cse_case.specs.Seen.{occurrence_places}
use Rattle.cse_case.specs.Table.{IsTable, first_at, types_in}
use Rattle.cse_case.specs.Case.{CaseText, IsOccurrence, items_of, place_of, places_of, records_of}
use Rattle.cse_case.specs.Field.{item_at}
use Rattle.cse_case.specs.Fit.{IsFit}
use Rattle.cse_case.specs.Kept.{IsKept}
use Rattle.cse_case.proofs.SeenLaws.{count_is, first_is, place_below}
use Rattle.cse_case.proofs.CaseLaws.{types_laid}
use Rattle.cse_case.proofs.FitLaws.{found, kept_fits, no_place}
use Rattle.cse_case.proofs.SetLaws.{item_within}
use Rattle.cse_case.proofs.SightLaws.{has_place, occurrence_own}
use Rattle.cse_case.proofs.TableLaws.{first_here}
use Rattle.cse_case.proofs.FieldLaws.{length-piece}

-- the case of lines that lie in these columns
abbrev pub case_in : DictionaryText → List ℕ → List ℕ → List Line → Bool → ℕ → CaseText
case_in d ids columns lines marked first_line = record { dictionary = d; ids = ids; run = record { lines = laid_lines columns lines; marked = marked; first_line = first_line } }

-- what is read of a table that is the same
pub span_in : (a b : Table) → a ≡ b → (n : ℕ) (s : OccurrenceSpan) → s ≡ get_or a.spans.items n s → s ≡ get_or b.spans.items n s
span_in a b e n s is = is ∙ ap (λ (t : Table). get_or t.spans.items n s) e

pub first_in : (a b : Table) → a ≡ b → (n first : ℕ) → first ≡ get_or a.firsts.items n first → first ≡ get_or b.firsts.items n first
first_in a b e n first is = is ∙ ap (λ (t : Table). get_or t.firsts.items n first) e

-- the line of an occurrence, which begins at this column
pub record OwnLine (c : CaseText) (columns : List ℕ) (lines : List Line) (r o first : ℕ) : Type 0 where
  pub line : Line
  pub there : place_of c r o < length lines
  pub at : line ≡ get_or lines (place_of c r o) line
  pub begins : first ≡ line.first
  pub is : line_at c.run (place_of c r o) ≡ laid_line columns line
  pub within : line.first + line.width ≤ length columns

-- a span holds the occurrence
pub holds_occurrence : (d : DictionaryText) (ids columns : List ℕ) (lines : List Line) (marked : Bool) (first_line : ℕ) (firsts : List ℕ) (spans : List OccurrenceSpan) (r o : ℕ) (span : OccurrenceSpan)
    → IsTable (shape_of d).records lines firsts spans → r < length spans → span ≡ get_or spans r span → IsOccurrence (case_in d ids columns lines marked first_line) r o → o ≤ span.count
unfolding places_of
holds_occurrence d ids columns lines marked first_line firsts spans r o span t low e is =
    let records = (shape_of d).records in
    omega (arith, is.1, count_is records lines firsts spans r span t low e, ap (λ ts. length (occurrence_places records r ts)) (types_laid columns lines))

pub own_line : (d : DictionaryText) (ids columns : List ℕ) (lines : List Line) (marked : Bool) (first_line : ℕ) (firsts : List ℕ) (spans : List OccurrenceSpan) (r o first : ℕ) (span : OccurrenceSpan)
    → IsTable (shape_of d).records lines firsts spans → IsLaid 0 columns lines → r < length spans → span ≡ get_or spans r span
    → IsOccurrence (case_in d ids columns lines marked first_line) r o → first ≡ get_or firsts (span.start + o - 1) 0
    → OwnLine (case_in d ids columns lines marked first_line) columns lines r o first
unfolding places_of place_of
own_line d ids columns lines marked first_line firsts spans r o first span t laid low e is begins =
    let c = case_in d ids columns lines marked first_line in
    let records = (shape_of d).records in
    let types = types_in lines in
    let all : occurrence_places records r types ≡ places_of c r = ap (occurrence_places records r) (sym (types_laid columns lines)) in
    let count = count_is records lines firsts spans r span t low e in
    let fits : o ≤ span.count = holds_occurrence d ids columns lines marked first_line firsts spans r o span t low e is in
    let at : span.start + o - 1 ≡ span.start + (o - 1) = omega (arith, is.0) in
    let place_is : slice_index (occurrence_places records r types) (o - 1) ≡ place_of c r o = ap (λ l. slice_index l (o - 1)) all in
    let below = place_below records types r (o - 1) (omega (arith, is.0)) in
    let there : place_of c r o < length lines = subst (λ p. p < length lines) place_is (omega (arith, below, length-map lines (λ l. l.record_number))) in
    let line = get_or lines (place_of c r o) no_place in
    let here : line ≡ get_or lines (place_of c r o) line = found lines (place_of c r o) no_place there in
    record {
      line = line;
      there = there;
      at = here;
      begins = begins ∙ (ap (λ k. get_or firsts k 0) at ∙ (first_is records lines firsts spans r (o - 1) span t low e (omega (arith, is.0))
          ∙ (ap (first_at lines) place_is ∙ first_here lines (place_of c r o) no_place there)));
      is = line_in columns lines (place_of c r o) line there here;
      within = laid_within 0 columns lines (place_of c r o) line laid there here;
    }

-- an item of the occurrence's record, and its line, which has all its columns
pub record OwnItem (c : CaseText) (columns : List ℕ) (lines : List Line) (r o first n : ℕ) : Type 0 where
  pub own : OwnLine c columns lines r o first
  pub whole : (item_at (items_of c) n).start - 1 + (item_at (items_of c) n).len ≤ own.line.width

-- the occurrence stands in the table
pub first_within : (c : CaseText) (d : DictionaryText) (ids columns : List ℕ) (lines : List Line) (bytes : List ℕ) (is_set marked : Bool) (first_line : ℕ) (firsts : List ℕ) (spans : List OccurrenceSpan)
    (unseen : List (ℕ × Unseen)) (r o : ℕ) (span : OccurrenceSpan) → case_in d ids columns lines marked first_line ≡ c → IsKept d columns lines bytes is_set first_line firsts spans unseen
    → r < length (records_of c) → span ≡ get_or spans r span → IsOccurrence c r o → span.start + o ≤ length firsts
first_within c d ids columns lines bytes is_set marked first_line firsts spans unseen r o span view kept there e is =
    let low : r < length spans = omega (arith, kept.table.size, ap (λ (x : CaseText). length (records_of x)) view) in
    let fits = kept.table.fits r span low e in
    omega (arith, holds_occurrence d ids columns lines marked first_line firsts spans r o span kept.table low e (subst (λ (x : CaseText). IsOccurrence x r o) (sym view) is))

-- its line
pub line_of : (c : CaseText) (d : DictionaryText) (ids columns : List ℕ) (lines : List Line) (bytes : List ℕ) (is_set marked : Bool) (first_line : ℕ) (firsts : List ℕ) (spans : List OccurrenceSpan)
    (unseen : List (ℕ × Unseen)) (r o first : ℕ) (span : OccurrenceSpan) → case_in d ids columns lines marked first_line ≡ c → IsKept d columns lines bytes is_set first_line firsts spans unseen
    → r < length (records_of c) → span ≡ get_or spans r span → IsOccurrence c r o → first ≡ get_or firsts (span.start + o - 1) 0 → OwnLine c columns lines r o first
line_of c d ids columns lines bytes is_set marked first_line firsts spans unseen r o first span view kept there e is begins =
    let within : r < length spans = omega (arith, kept.table.size, ap (λ (x : CaseText). length (records_of x)) view) in
    subst (λ (x : CaseText). OwnLine x columns lines r o first) view
    (own_line d ids columns lines marked first_line firsts spans r o first span kept.table kept.laid within e (subst (λ (x : CaseText). IsOccurrence x r o) (sym view) is) begins)

pub own_item : (c : CaseText) (d : DictionaryText) (ids columns : List ℕ) (lines : List Line) (bytes : List ℕ) (is_set marked : Bool) (first_line : ℕ) (firsts : List ℕ) (spans : List OccurrenceSpan)
    (unseen : List (ℕ × Unseen)) (r o first n : ℕ) (span : OccurrenceSpan) → case_in d ids columns lines marked first_line ≡ c → IsKept d columns lines bytes is_set first_line firsts spans unseen
    → IsSound c.dictionary → r < length (records_of c) → span ≡ get_or spans r span → IsOccurrence c r o → n < length (items_of c) → (item_at (items_of c) n).owner ≡ r
    → first ≡ get_or firsts (span.start + o - 1) 0 → OwnItem c columns lines r o first n
own_item c d ids columns lines bytes is_set marked first_line firsts spans unseen r o first n span view kept sound there e is low owns begins =
    let within : r < length spans = omega (arith, kept.table.size, ap (λ (x : CaseText). length (records_of x)) view) in
    let own : OwnLine c columns lines r o first = subst (λ (x : CaseText). OwnLine x columns lines r o first) view
    (own_line d ids columns lines marked first_line firsts spans r o first span kept.table kept.laid within e (subst (λ (x : CaseText). IsOccurrence x r o) (sym view) is) begins) in
    let width : length (line_at c.run (place_of c r o)).columns ≡ own.line.width =
    ap (λ (l : LineText). length l.columns) own.is ∙ length-piece own.line.first own.line.width columns own.within in
    let fit : IsFit c = subst IsFit view (kept_fits d ids columns lines marked first_line kept.some kept.wide kept.laid) in
    let inside = item_within c r n (place_of c r o) fit sound (has_place c r o is).below (occurrence_own c r o is) there low owns in
    record { own = own; whole = omega arith }
