-- A message file: what each line of it is, and the messages that stand in its lines.
use Rattle.std.specs.Prelude.{◌≡◌, ℕ, ◌+◌, not, ◌&&◌, ◌||◌, ◌==◌, nat_le, nat_eq, if◌then◌else◌, List, [], ◌∷◌, ◌++◌, length, take, drop, fold, codes, position, unwrap_or, slice_index, Option, Some, None, Result, Ok, Err, IsOk, ◌⊎◌, Bool, false}
use Rattle.std.specs.List.{list_any, starts_with}
use Rattle.std.specs.Char.{is_ascii_digit}
use Rattle.std.specs.Str.{is_utf8}
use Rattle.cse_image_parts.specs.Texts.{is_text, is_short}
use Rattle.cse_sections.specs.Number.{number_between}
use Rattle.cse_sections.specs.Sections.{after_mark, lines_of}
use Rattle.cse_logic_names.specs.declared.error.TypeError.{TypeError}
use Rattle.cse_logic_names.specs.declared.error.FileStop.{FileStop}
use Rattle.cse_logic_names.specs.declared.error.FileStop.TheVariants.{Memory, Fault}
use Rattle.cse_logic_names.specs.Fault.{at_line, out_of_memory}

-- a message: its number and the bytes of its text
pub record MessageText : Type 0 where
  pub number : ℕ
  pub text : List ℕ

-- ---- one line

-- a blank or a tab
abbrev pub is_gap : ℕ → Bool
is_gap c = (c == 32) || (c == 9)

-- the text without the blanks and tabs in front
abbrev pub without_gaps : List ℕ → List ℕ
without_gaps [] = []
without_gaps (c ∷ cs) = if is_gap c then without_gaps cs else c ∷ cs

-- a line that says nothing: an empty one, or a comment, which begins with `{` or `//` behind blanks
unfoldable pub is_skipped : List ℕ → Bool
is_skipped line = (length line == 0) || (starts_with nat_eq (without_gaps line) (codes "{") || starts_with nat_eq (without_gaps line) (codes "//"))

-- how many digits stand in front
unfoldable pub digit_count : List ℕ → ℕ
digit_count line = unwrap_or (position (λ c. not (is_ascii_digit c)) line) (length line)

abbrev pub begins_with_gap : List ℕ → Bool
begins_with_gap [] = false
begins_with_gap (c ∷ cs) = is_gap c

-- the text of a message, behind its number and the blanks that follow
abbrev pub text_in : List ℕ → List ℕ
text_in line = without_gaps (drop (digit_count line) line)

-- a number, blanks, and a text of at most 255 characters, none of which is below U+0020
unfoldable pub has_form : List ℕ → Bool
has_form line = nat_le 1 (digit_count line) && (begins_with_gap (drop (digit_count line) line) && (is_text (text_in line) && is_short (text_in line)))

-- the message of a number that is in its range
abbrev pub numbered : List ℕ → Option ℕ → Result (Option MessageText) ℕ
numbered text None = Err 35
numbered text (Some n) = Ok (Some (record { number = n; text = text }))

-- what a line says: nothing, a message, or the number of its fault
unfoldable pub line_of : List ℕ → Result (Option MessageText) ℕ
line_of line =
    if not (is_utf8 line) then Err 30
    else (if is_skipped line then Ok None
    else (if has_form line then numbered (text_in line) (number_between 1 999999999 (take (digit_count line) line))
    else Err 30))

-- ---- all lines

-- one message more; of a number that comes twice the first counts
abbrev pub with_message : List MessageText → MessageText → List MessageText
with_message found m = if list_any (λ (x : MessageText). nat_eq m.number x.number) found then found else found ++ m ∷ []

abbrev pub with_line : List MessageText → Result (Option MessageText) ℕ → List MessageText
with_line found (Ok None) = found
with_line found (Ok (Some m)) = with_message found m
with_line found (Err number) = found

-- a line is taken, or it has a fault, or memory ran out
abbrev pub Takes : Result (Unit {0}) FileStop → List MessageText → List MessageText → Result (Option MessageText) ℕ → Type 0
Takes (Ok done) old new said = (new ≡ with_line old said) × IsOk said
Takes (Err Memory) old new said = Unit {0}
Takes (Err (Fault number)) old new said = said ≡ Err number

-- the messages of the lines, behind those found before
abbrev pub messages_behind : List MessageText → List (List ℕ) → List MessageText
messages_behind found [] = found
messages_behind found (l ∷ ls) = messages_behind (with_line found (line_of l)) ls

-- a line's fault, or that of the lines behind it
abbrev pub fault_or : ℕ → Result (Option MessageText) ℕ → Option TypeError → Option TypeError
fault_or n (Ok said) behind = behind
fault_or n (Err number) behind = Some (at_line number n)

-- the first fault of lines that are numbered from n on
abbrev pub first_fault : ℕ → List (List ℕ) → Option TypeError
first_fault n [] = None
first_fault n (l ∷ ls) = fault_or n (line_of l) (first_fault (n + 1) ls)

-- the lines of a file, a byte order mark at its front aside
abbrev pub file_lines : List ℕ → List (List ℕ)
file_lines text = lines_of (after_mark text)

-- the messages of a file without a fault; else its first faulty line, unless memory ran out
abbrev pub ReadsMessages : Result (List MessageText) TypeError → List (List ℕ) → Type 0
ReadsMessages (Ok found) lines = (first_fault 1 lines ≡ None) × (found ≡ messages_behind [] lines)
ReadsMessages (Err e) lines = (e ≡ out_of_memory) ⊎ (first_fault 1 lines ≡ Some e)
