-- Laws of cases that fit their dictionary.
use Rattle.std.proofs.Common.{◌≡◌, ℕ, zero, suc, ◌<◌, ◌≤◌, Bool, false, List, [], ◌∷◌, length, take, drop, get_or, Option, None, refl, ap, sym, ◌∙◌, subst, arith}
use Rattle.std.proofs.lemmas.List.{get_or-map, length-map, length-take}
use Rattle.cse_lemmas.proofs.Lists.{length-padded}
use Rattle.cse_value.specs.declared.shape.RecordShape.{RecordShape}
use Rattle.cse_value.specs.Occurrences.{most_occurrences}
use Rattle.cse_dict.specs.Dictionary.{DictionaryText}
use Rattle.cse_case.specs.declared.line.Line.{Line}
use Rattle.cse_case.specs.declared.line.Ending.TheVariants.{FileEnd}
use Rattle.cse_case.specs.Line.{FileLine}
use Rattle.cse_case.specs.Columns.{LineText, columns_of, line_text, no_line}
use Rattle.cse_case.specs.NamedColumns.{width_of}
use Rattle.cse_case.specs.Laid.{IsLaid, laid_line, laid_lines}
use Rattle.cse_case.specs.Run.{RunText, line_at, run_text}
use Rattle.cse_case.proofs.LaidLaws.{laid_within, line_in}
use Rattle.cse_case.specs.Seen.{occurrence_places, places_from}
use Rattle.cse_case.specs.Kept.{AreWide}
use Rattle.cse_case.specs.Case.{CaseText, places_of, records_of, types_of}
use Rattle.cse_case.specs.Fit.{IsFit, line_width}
use Rattle.cse_case.proofs.FieldLaws.{length-piece}

pub at_most : (records : List RecordShape) (r : ℕ) (lines : List (Option ℕ)) → length (occurrence_places records r lines) ≤ most_occurrences records r
unfolding occurrence_places
at_most records r lines = omega (arith, length-take (most_occurrences records r) (places_from 0 r lines))

line_wide : (d : DictionaryText) (line : FileLine) → length (line_text d line).columns ≡ line_width d (line_text d line)
unfolding line_text width_of
line_wide d line = length-padded (width_of d (columns_of line)) (columns_of line) 32 (omega arith)

-- a run that is read fits
pub fits_read : (d : DictionaryText) (ids : List ℕ) (number : ℕ) (lines : List FileLine) → 0 < length lines → IsFit (record { dictionary = d; ids = ids; run = run_text d number lines })
unfolding places_of
fits_read d ids number lines some =
    let c : CaseText = record { dictionary = d; ids = ids; run = run_text d number lines } in
    record {
      some = omega (arith, length-map lines (line_text d));
      occurrences = λ r. at_most (records_of c) r (types_of c.run.lines);
      widths = λ place h.
          let no : FileLine = (false, []) in
          let is : line_at c.run place ≡ line_text d (get_or lines place no) = get_or-map (line_text d) lines place no no_line (rw (← length-map lines (line_text d)) h) in
          subst (λ (l : LineText). length l.columns ≡ line_width d l) (sym is) (line_wide d (get_or lines place no));
    }

-- the lines of a run that has its widths have theirs
pub are_wide : (d : DictionaryText) (columns : List ℕ) (lines : List Line) → IsLaid 0 columns lines
    → ((place : ℕ) → place < length (laid_lines columns lines) → length (get_or (laid_lines columns lines) place no_line).columns ≡ line_width d (get_or (laid_lines columns lines) place no_line))
    → AreWide d lines
are_wide d columns lines laid wide = λ place line h e.
    let at : get_or (laid_lines columns lines) place no_line ≡ laid_line columns line = line_in columns lines place line h e in
    let own : length (take line.width (drop line.first columns)) ≡ line.width = length-piece line.first line.width columns (laid_within 0 columns lines place line laid h e) in
    sym own ∙ subst (λ (l : LineText). length l.columns ≡ line_width d l) at (wide place (omega (arith, length-map lines (laid_line columns))))

-- the lines of a run, as they lie
pub wide_from : (d : DictionaryText) (run : RunText) (columns : List ℕ) (lines : List Line) → laid_lines columns lines ≡ run.lines → IsLaid 0 columns lines
    → ((place : ℕ) → place < length run.lines → length (line_at run place).columns ≡ line_width d (line_at run place)) → AreWide d lines
wide_from d run columns lines e laid wide =
    are_wide d columns lines laid
    (subst (λ (ls : List LineText). (place : ℕ) → place < length ls → length (get_or ls place no_line).columns ≡ line_width d (get_or ls place no_line)) (sym e) wide)

pub some_from : (run : RunText) (columns : List ℕ) (lines : List Line) → laid_lines columns lines ≡ run.lines → 0 < length run.lines → 0 < length lines
some_from run columns lines e some = omega (arith, length-map lines (laid_line columns), ap length e)

pub found : (lines : List Line) (place : ℕ) (d : Line) → place < length lines → get_or lines place d ≡ get_or lines place (get_or lines place d)
found [] place d h = absurd (omega arith)
found (l ∷ ls) zero d h = refl
found (l ∷ ls) (suc place) d h = found ls place d (omega arith)

pub no_place : Line
no_place = record { first = 0; width = 0; len = 0; ending = FileEnd; record_number = None }

-- a case that keeps its lines so fits
pub kept_fits : (d : DictionaryText) (ids columns : List ℕ) (lines : List Line) (marked : Bool) (first_line : ℕ) → 0 < length lines → AreWide d lines → IsLaid 0 columns lines
    → IsFit (record { dictionary = d; ids = ids; run = record { lines = laid_lines columns lines; marked = marked; first_line = first_line } })
unfolding places_of
kept_fits d ids columns lines marked first_line some wide laid =
    let c : CaseText = record { dictionary = d; ids = ids; run = record { lines = laid_lines columns lines; marked = marked; first_line = first_line } } in
    let count : length (laid_lines columns lines) ≡ length lines = length-map lines (laid_line columns) in
    record {
      some = omega arith;
      occurrences = λ r. at_most (records_of c) r (types_of c.run.lines);
      widths = λ place h.
          let low : place < length lines = omega arith in
          let line : Line = get_or lines place no_place in
          let e : line ≡ get_or lines place line = found lines place no_place low in
          let at : line_at c.run place ≡ laid_line columns line = line_in columns lines place line low e in
          let own : length (take line.width (drop line.first columns)) ≡ line.width = length-piece line.first line.width columns (laid_within 0 columns lines place line laid low e) in
          subst (λ (l : LineText). length l.columns ≡ line_width d l) (sym at) (own ∙ wide place line low e);
    }
