-- The listing: what was reported of a run, line by line, and a summary of what was counted.
-- A heading tells where lines come from: RUN, before those of the application's preproc or postproc, and
-- CASE [ids], before those of a run of data lines. It stands before the first line that follows, and
-- nowhere if there is none before the next heading.
use Rattle.std.specs.Prelude.{ℕ, suc, ◌+◌, ◌==◌, Bool, false, not, List, [], ◌∷◌, ◌++◌, codes, slice_get, if◌then◌else◌}
use Rattle.std.specs.Option.{option_map_or}
use Rattle.std.specs.Fmt.{decimal}
use Rattle.std.specs.Str.{encode_utf8_all}
use Rattle.cse_dict.specs.declared.lookup.Unseen.{Unseen}
use Rattle.cse_dict.specs.declared.lookup.Unseen.TheVariants.{Unknown, Extra}
use Rattle.cse_image_parts.specs.Image.{MessageLists}
use Rattle.cse_value.specs.Gathering.{line}
use Rattle.cse_report.specs.declared.argument.Arg.{Arg}
use Rattle.cse_report.specs.MessageText.{message_text}
use Rattle.cse_report.specs.Counts.{capped}

-- ---- what can be reported

-- a preproc or postproc of the application begins; a run of data lines with these id columns begins; a
-- line of it, counted from 1, is unseen; the message of this number, from 0, with its arguments
pub data Report : Type 0 where
  BeginsRun : Report
  BeginsCase : List ℕ → Report
  LeavesUnseen : ℕ → Unseen → Report
  Gives : ℕ → List Arg → Report

-- ---- lines

abbrev pub first_line : List ℕ
first_line = line (codes "CSEB LISTING 1")

abbrev pub run_heading : List ℕ
run_heading = line (codes "RUN")

-- the id columns stand as they are
unfoldable pub case_heading : List ℕ → List ℕ
case_heading ids = line ((codes "CASE [" ++ encode_utf8_all ids) ++ codes "]")

abbrev pub reason : Unseen → List ℕ
reason Unknown = codes " unknown"
reason Extra = codes " extra"

abbrev pub unseen_line : ℕ → Unseen → List ℕ
unseen_line number what = line ((codes "U " ++ decimal number) ++ reason what)

abbrev pub message_line : ℕ → List ℕ → List ℕ
message_line number text = line ((codes "M " ++ decimal number) ++ (32 ∷ text))

-- ---- from report to report

-- the message is there, and is not only counted
abbrev pub is_listed : List MessageLists → ℕ → Bool
is_listed messages i = option_map_or (λ m. not m.summary) (slice_get messages i) false

-- the text of a message as it is stored, empty where it isn't there
abbrev pub text_of : List MessageLists → ℕ → List ℕ
text_of messages i = option_map_or (λ m. m.text) (slice_get messages i) []

-- the text of a message with its arguments, empty where it isn't there
abbrev pub given_text : List MessageLists → ℕ → List Arg → List ℕ
given_text messages i args = option_map_or (λ m. message_text m.text args) (slice_get messages i) []

abbrev pub given_line : List MessageLists → ℕ → List Arg → List ℕ
given_line messages i args = option_map_or (λ m. message_line m.number (message_text m.text args)) (slice_get messages i) []

-- what a report lists where this heading waits
abbrev pub lines_of : List MessageLists → List ℕ → Report → List ℕ
lines_of messages heading BeginsRun = []
lines_of messages heading (BeginsCase ids) = []
lines_of messages heading (LeavesUnseen number what) = heading ++ unseen_line number what
lines_of messages heading (Gives i args) = if is_listed messages i then heading ++ given_line messages i args else []

-- the heading that waits after a report
abbrev pub heading_after : List MessageLists → List ℕ → Report → List ℕ
heading_after messages heading BeginsRun = run_heading
heading_after messages heading (BeginsCase ids) = case_heading ids
heading_after messages heading (LeavesUnseen number what) = []
heading_after messages heading (Gives i args) = if is_listed messages i then [] else heading

-- what reports list, one after the other
abbrev pub lines_from : List MessageLists → List ℕ → List Report → List ℕ
lines_from messages heading [] = []
lines_from messages heading (r ∷ rs) = lines_of messages heading r ++ lines_from messages (heading_after messages heading r) rs

-- ---- the summary

-- the message of this number is given
abbrev pub is_given : ℕ → Report → Bool
is_given i BeginsRun = false
is_given i (BeginsCase ids) = false
is_given i (LeavesUnseen number what) = false
is_given i (Gives j args) = j == i

-- how often the message of this number was given
abbrev pub times : ℕ → List Report → ℕ
times i [] = 0
times i (r ∷ rs) = (if is_given i r then 1 else 0) + times i rs

-- the same of the messages from the one of number i on, as far as counts go
abbrev pub counts_from : ℕ → List MessageLists → List Report → List ℕ
counts_from i [] reports = []
counts_from i (m ∷ ms) reports = capped (times i reports) ∷ counts_from (suc i) ms reports

abbrev pub counts_of : List MessageLists → List Report → List ℕ
counts_of messages reports = counts_from 0 messages reports

-- a number and a blank
abbrev pub number_word : ℕ → List ℕ
number_word n = decimal n ++ 32 ∷ []

-- a message with its number and count, and its text as it is stored
abbrev pub count_line : MessageLists → ℕ → List ℕ
count_line m count = line (((codes "message " ++ number_word m.number) ++ number_word count) ++ m.text)

abbrev pub count_lines : List MessageLists → List ℕ → List ℕ
count_lines [] counts = []
count_lines (m ∷ ms) [] = []
count_lines (m ∷ ms) (n ∷ ns) = count_line m n ++ count_lines ms ns

abbrev pub number_line : List ℕ → ℕ → List ℕ
number_line word n = line (word ++ decimal n)

-- how many cases, lines and unseen lines there were, and how often each message was given
unfoldable pub summary : List MessageLists → List ℕ → ℕ → ℕ → ℕ → List ℕ
summary messages counts cases lines unseen =
    ((((line (codes "SUMMARY") ++ number_line (codes "cases ") cases) ++ number_line (codes "lines ") lines) ++ number_line (codes "unseen ") unseen)
    ++ count_lines messages counts) ++ line (codes "END")

-- the listing of all that was reported
abbrev pub listing : List MessageLists → List Report → ℕ → ℕ → ℕ → List ℕ
listing messages reports cases lines unseen =
    (first_line ++ lines_from messages [] reports) ++ summary messages (counts_of messages reports) cases lines unseen
