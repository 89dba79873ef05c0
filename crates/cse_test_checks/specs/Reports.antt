-- Worked rows of reports: the texts of messages, listings, and frequencies.
use Rattle.std.specs.Prelude.{◌≡◌, ℕ, Bool, true, false, List, [], ◌∷◌, ◌++◌, map, take, drop, codes, replicate}
use Rattle.std.specs.Str.{encode_utf8_all}
use Rattle.cse_value.specs.declared.number.Num.{Num}
use Rattle.cse_value.specs.declared.number.Num.TheVariants.{NotAppl, Missing, Undef}
use Rattle.cse_dict.specs.declared.lookup.Unseen.TheVariants.{Unknown, Extra}
use Rattle.cse_image_parts.specs.Image.{MessageLists}
use Rattle.cse_report.specs.declared.argument.Arg.{Arg}
use Rattle.cse_report.specs.declared.argument.Arg.TheVariants.{Number, Words}
use Rattle.cse_report.specs.Frequency.{all_imputed, frequencies_text}
use Rattle.cse_report.specs.Held.{Step, Lists, Flushes, after_steps, given_in_all, unwritten}
use Rattle.cse_report.specs.Listing.{Report, BeginsRun, BeginsCase, LeavesUnseen, Gives, listing}
use Rattle.cse_report.specs.MessageText.{HasArguments, message_text}
use Rattle.cse_test_checks.specs.Rows as rows
use Rattle.cse_test_checks.specs.Numbers.{whole, minus, least}

abbrev pub number : Num → Arg
number value = Number value

abbrev pub words : List ℕ → Arg
words text = Words (record { items = text })

-- the text of a message with one argument; a message is UTF-8
abbrev pub filled : List ℕ × Arg → List ℕ
filled p = message_text (encode_utf8_all p.0) (p.1 ∷ [])

abbrev pub numbers_filled : List ((List ℕ × Arg) × List ℕ)
numbers_filled =
    ((codes "adults %d of 3", number (whole 2)), codes "adults 2 of 3") ∷ ((codes "%3d", number (minus 5)), codes " -5") ∷ ((codes "%03d", number (minus 5)), codes "-05")
    ∷ ((codes "%3d", number (whole 1234)), codes "1234") ∷ ((codes "%03d", number (whole 1234)), codes "1234")
    ∷ ((codes "%3d", number NotAppl), codes "NOTAPPL") ∷ ((codes "%03d", number NotAppl), codes "NOTAPPL")
    ∷ ((codes "%9d|", number Missing), codes "  MISSING|") ∷ ((codes "%09d|", number Undef), codes "  DEFAULT|")
    ∷ ((codes "%05d", number (whole 0)), codes "00000") ∷ ((codes "%%%d%%", number (whole 7)), codes "%7%")
    ∷ ((codes "%0d%00d%100d%1 d%%d%d%", number (whole 7)), codes "%0d%00d%100d%1 d%d7%")
    ∷ ((codes "%022d", number least), codes "-009223372036854775808") ∷ []

abbrev pub words_filled : List ((List ℕ × Arg) × List ℕ)
words_filled =
    ((codes "[%s]", words (codes "a  b   ")), codes "[a  b]") ∷ ((codes "[%s]", words (codes "    ")), codes "[]") ∷ ((codes "%5s %s", words (codes "")), codes "%5s ")
    ∷ ((codes "%s", words (codes "a\tb\0")), codes "a?b?")
    ∷ ((codes "größer %s!", words (codes "Ä€😀 ")), encode_utf8_all (codes "größer Ä€😀!")) ∷ []

-- eight numbers, each with a text behind it
abbrev pub sixteen : List Arg
sixteen =
    number (whole 0) ∷ words (codes "x ") ∷ number (whole 1) ∷ words (codes "x ") ∷ number (whole 2) ∷ words (codes "x ") ∷ number (whole 3) ∷ words (codes "x ")
    ∷ number (whole 4) ∷ words (codes "x ") ∷ number (whole 5) ∷ words (codes "x ") ∷ number (whole 6) ∷ words (codes "x ") ∷ number (whole 7) ∷ words (codes "x ") ∷ []

-- the text of a message that takes them
abbrev pub mixed : List ℕ
mixed = codes "%d%s%d%s%d%s%d%s%d%s%d%s%d%s%d%s"

-- ---- listings

-- a message with no number of its own: whether it is only counted, and its text
abbrev pub message : Bool → List ℕ → MessageLists
message summary text = record { number = 0; summary = summary; text = text }

abbrev pub adults : List MessageLists
adults = message false (codes "adults %d of %d") ∷ []

abbrev pub of_application : List MessageLists
of_application = message false (codes "%d %d %d %d") ∷ message true (codes "once %d") ∷ []

abbrev pub before_cases : List Report
before_cases =
    BeginsRun ∷ Gives 0 (number Undef ∷ number Undef ∷ number (minus 3) ∷ number (minus 1) ∷ []) ∷ BeginsRun ∷ Gives 1 (number (whole 5) ∷ [])
    ∷ Gives 0 (number Undef ∷ number (whole 11) ∷ number (whole 20) ∷ number Undef ∷ []) ∷ []

abbrev pub of_ages : List MessageLists
of_ages = message false (codes "child") ∷ message false (codes "adult %d") ∷ message false (codes "old %03d") ∷ message false (codes "odd %d") ∷ []

-- four cases, and one in between that lists nothing; with flushes behind each case, behind each heading and each case, or nowhere
abbrev pub ages_by : List Step → List Step → List Step
ages_by between behind =
    (Lists (BeginsCase (codes "001")) ∷ between) ++ (Lists (Gives 0 []) ∷ behind)
    ++ (Lists (BeginsCase (codes "002")) ∷ between) ++ (Lists (Gives 1 (number (whole 40) ∷ [])) ∷ behind)
    ++ (Lists (BeginsCase (codes "none")) ∷ between) ++ behind
    ++ (Lists (BeginsCase (codes "003")) ∷ between) ++ (Lists (Gives 2 (number (whole 70) ∷ [])) ∷ behind)
    ++ (Lists (BeginsCase (codes "004")) ∷ between) ++ (Lists (Gives 3 (number NotAppl ∷ [])) ∷ behind)

abbrev pub ages_given : List Step → List ℕ
ages_given steps = given_in_all (after_steps (unwritten of_ages) steps) 4 4 0

abbrev pub ages_listed : List ℕ
ages_listed =
    codes "CSEB LISTING 1\nCASE [001]\nM 0 child\nCASE [002]\nM 0 adult 40\nCASE [003]\nM 0 old 070\nCASE [004]\nM 0 odd NOTAPPL\n"
    ++ codes "SUMMARY\ncases 4\nlines 4\nunseen 0\nmessage 0 1 child\nmessage 0 1 adult %d\nmessage 0 1 old %03d\nmessage 0 1 odd %d\nEND\n"

-- the texts of the messages that are held
abbrev pub texts_held : List MessageLists → List Step → List (List ℕ)
texts_held messages steps = (after_steps (unwritten messages) steps).held.texts

-- an id with a tab, U+00C4 and a bracket
abbrev pub odd_ids : List ℕ
odd_ids = codes " \tÄ]"

-- ---- frequencies

abbrev pub item_names : List (List ℕ)
item_names = codes "HH" ∷ codes "SEX" ∷ codes "REL" ∷ codes "AGE" ∷ []

abbrev pub counted : List (ℕ × Num) → List ℕ
counted run = frequencies_text item_names (all_imputed (replicate 4 []) run)

-- SEX is item 1, and AGE item 3
abbrev pub run : List (ℕ × Num)
run =
    (3, whole 35) ∷ (3, NotAppl) ∷ (3, Missing) ∷ (3, whole 35) ∷ (3, Undef) ∷ (3, minus 1) ∷ (3, NotAppl) ∷ (3, whole 35)
    ∷ (1, whole 2) ∷ (1, whole 1) ∷ []

pub record ReportsAreWorked : Type 0 where
  pub numbers_are : rows.Gives filled numbers_filled
  pub words_are : rows.Gives filled words_filled
  pub sixteen_are : message_text mixed sixteen ≡ codes "0x1x2x3x4x5x6x7x"
  pub sixteen_are_taken : HasArguments mixed sixteen
  pub fifteen_are_not : HasArguments mixed (take 15 sixteen) → ⊥
  pub all_but_the_first_are_not : HasArguments mixed (drop 1 sixteen) → ⊥
  pub none_is_not : HasArguments mixed [] → ⊥
  pub nothing_is_listed : listing [] (BeginsRun ∷ []) 0 0 0 ≡ codes "CSEB LISTING 1\nSUMMARY\ncases 0\nlines 0\nunseen 0\nEND\n"
  pub unseen_lines_are : listing [] (BeginsCase (codes "001") ∷ LeavesUnseen 3 Unknown ∷ LeavesUnseen 4 Extra ∷ []) 1 4 2
      ≡ codes "CSEB LISTING 1\nCASE [001]\nU 3 unknown\nU 4 extra\nSUMMARY\ncases 1\nlines 4\nunseen 2\nEND\n"
  pub two_numbers_are : listing adults (BeginsCase (codes "001") ∷ Gives 0 (number (whole 2) ∷ number (whole 3) ∷ []) ∷ []) 1 3 0
      ≡ codes "CSEB LISTING 1\nCASE [001]\nM 0 adults 2 of 3\nSUMMARY\ncases 1\nlines 3\nunseen 0\nmessage 0 1 adults %d of %d\nEND\n"
  pub application_is : listing of_application before_cases 0 0 0
      ≡ codes "CSEB LISTING 1\nRUN\nM 0 DEFAULT DEFAULT -3 -1\nRUN\nM 0 DEFAULT 11 20 DEFAULT\nSUMMARY\ncases 0\nlines 0\nunseen 0\n"
      ++ codes "message 0 2 %d %d %d %d\nmessage 0 1 once %d\nEND\n"
  pub application_is_held : texts_held of_application (map Lists before_cases) ≡ codes "DEFAULT DEFAULT -3 -1" ∷ codes "DEFAULT 11 20 DEFAULT" ∷ []
  pub ages_are : ages_given (ages_by [] []) ≡ ages_listed
  pub ages_behind_cases_are : ages_given (ages_by [] (Flushes ∷ [])) ≡ ages_listed
  pub ages_behind_headings_are : ages_given (ages_by (Flushes ∷ []) (Flushes ∷ [])) ≡ ages_listed
  pub ages_are_held : texts_held of_ages (ages_by [] []) ≡ codes "child" ∷ codes "adult 40" ∷ codes "old 070" ∷ codes "odd NOTAPPL" ∷ []
  pub no_age_is_held : texts_held of_ages (ages_by [] (Flushes ∷ [])) ≡ []
  pub ids_stay : listing (message false (codes "x") ∷ []) (BeginsCase odd_ids ∷ Gives 0 [] ∷ []) 1 1 0
      ≡ encode_utf8_all (codes "CSEB LISTING 1\nCASE [ \tÄ]]\nM 0 x\nSUMMARY\ncases 1\nlines 1\nunseen 0\nmessage 0 1 x\nEND\n")
  pub nothing_is_counted : counted [] ≡ codes "CSEB FREQUENCIES 1\nEND\n"
  pub one_is_counted : counted ((3, whole 35) ∷ []) ≡ codes "CSEB FREQUENCIES 1\nITEM AGE 1\n35 1\nEND\n"
  pub values_are_counted : counted run ≡ codes "CSEB FREQUENCIES 1\nITEM SEX 2\n2 1\n1 1\nITEM AGE 8\n35 3\nNOTAPPL 2\nMISSING 1\nDEFAULT 1\n-1 1\nEND\n"
