-- The list of sections of a text.
use Rattle.std.specs.Prelude.{ℕ, ◌+◌, ◌-◌, ◌&&◌, List, [], ◌∷◌, ◌++◌, ◌==◌, nat_le, nat_eq, if◌then◌else◌, Option, None, Some, length, take, drop, slice_index, slice_range, position, fold}
use Rattle.std.specs.Option.{option_map}
use Rattle.std.specs.List.{enumerate_from}
use Rattle.std.specs.Str.Lines.{lines}
use lib.Pointwise.{pointwise}
use Rattle.cse_sections.specs.Text.{trimmed}

-- a line `Key=Value`
pub record EntryText : Type 0 where
  pub line : ℕ
  pub key : List ℕ
  pub value : List ℕ

-- a section: its heading, the line of the heading, and its lines `Key=Value`
pub record SectionText : Type 0 where
  pub line : ℕ
  pub heading : List ℕ
  pub entries : List EntryText

-- what stands between the brackets, if the line is a heading; blanks inside the brackets belong to it
abbrev pub bracketed : List ℕ → Option (List ℕ)
bracketed t =
    if nat_le 2 (length t) && slice_index t 0 == 91 && slice_index t (length t - 1) == 93 then
    Some (slice_range t 1 (length t - 1))
    else None

unfoldable pub heading_of : List ℕ → Option (List ℕ)
heading_of line = bracketed (trimmed line)

-- what stands on both sides of the first `=`
unfoldable pub pair_of : List ℕ → Option (List ℕ × List ℕ)
pair_of line = option_map (λ i. (trimmed (take i line), trimmed (drop (i + 1) line))) (position (λ b. b == 61) line)

-- an entry joins the last section; before the first heading it is skipped
abbrev pub with_entry : List SectionText → EntryText → List SectionText
with_entry [] entry = []
with_entry (s ∷ []) entry = record s { entries = s.entries ++ entry ∷ [] } ∷ []
with_entry (s ∷ t ∷ more) entry = s ∷ with_entry (t ∷ more) entry

-- the sections after one line more: a heading opens a section, also one with `=` in it
abbrev pub with_pair : List SectionText → ℕ → Option (List ℕ × List ℕ) → List SectionText
with_pair sections number None = sections
with_pair sections number (Some pair) = with_entry sections (record { line = number; key = pair.0; value = pair.1 })

abbrev pub with_heading : List SectionText → ℕ → List ℕ → Option (List ℕ) → List SectionText
with_heading sections number line None = with_pair sections number (pair_of line)
with_heading sections number line (Some heading) = sections ++ record { line = number; heading = heading; entries = [] } ∷ []

unfoldable pub with_line : List SectionText → ℕ × List ℕ → List SectionText
with_line sections numbered = with_heading sections numbered.0 numbered.1 (heading_of numbered.1)

-- the byte order mark
abbrev pub byte_order_mark : List ℕ
byte_order_mark = 239 ∷ 187 ∷ 191 ∷ []

-- the text behind a byte order mark, if it has one
unfoldable pub after_mark : List ℕ → List ℕ
after_mark text = if pointwise nat_eq (take 3 text) byte_order_mark then drop 3 text else text

-- the lines of a text: each ends at a line feed, or at one with a carriage return before it, and the last at the end of the text
unfoldable pub lines_of : List ℕ → List (List ℕ)
lines_of text = lines text

-- the sections of the lines, numbered from 1
abbrev pub sections_behind_mark : List ℕ → List SectionText
sections_behind_mark body = fold with_line [] (enumerate_from 1 (lines_of body))

unfoldable pub sections_of : List ℕ → List SectionText
sections_of text = sections_behind_mark (after_mark text)
