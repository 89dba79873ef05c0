-- Worked deck texts: what is saved of a store, what is loaded, and the first line that is wrong.
use Rattle.std.specs.Prelude.{◌≡◌, ℕ, ◌+◌, ◌&&◌, Bool, true, false, ℤ, pos, List, [], ◌∷◌, ◌++◌, length, map, take, codes, nat_le, if◌then◌else◌, Option, Some, None, Result, Ok, Err, slice_get}
use Rattle.std.specs.List.{count_by, range_with_len}
use Rattle.cse_value.specs.declared.number.Num.{Num}
use Rattle.cse_value.specs.declared.number.Num.TheVariants.{Whole}
use Rattle.cse_value.specs.Texts.{blanks}
use Rattle.cse_image_parts.specs.declared.entries.GlobalKind.TheVariants as globals
use Rattle.cse_image_parts.specs.Image.{ArrayLists, Image}
use Rattle.cse_decks.specs.declared.error.DeckError.{DeckError}
use Rattle.cse_decks.specs.declared.global.GlobalValue.TheVariants.{Words}
use Rattle.cse_decks.specs.Deck.{deck_text}
use Rattle.cse_decks.specs.Loading.{fault, loaded}
use Rattle.cse_decks.specs.Store.{Kept, cells_of, first_kept, rewritten, text_in}
use Rattle.cse_test_checks.specs.Rows.{Gives}

abbrev pub array : Bool → List ℕ → List ℕ → List ℤ → ArrayLists
array saved name dimensions cells = record { saved = saved; dimensions = dimensions; name = name; cells = cells }

-- a number, and a text of three characters; AGE_HD(2, 4) and CUBE(1, 3, 2) = 7, 8, which are saved, and OTHER(2), which is not
abbrev pub sample : Image
sample = record {
  lists = record {
    records = [];
    items = [];
    sets = [];
    order = [];
    constants = [];
    limits = [];
    texts = [];
    globals = record { kind = globals.Number; length = 0 } ∷ record { kind = globals.Text; length = 3 } ∷ [];
    arrays =
        array true (codes "AGE_HD") (2 ∷ 4 ∷ []) [] ∷ array true (codes "CUBE") (1 ∷ 3 ∷ 2 ∷ []) (pos 7 ∷ pos 8 ∷ [])
        ∷ array false (codes "OTHER") (2 ∷ []) (pos 5 ∷ []) ∷ [];
    messages = [];
    routines = [];
    events = [];
  };
  code = [];
}

-- what a first store of it is saved as
abbrev pub first : List ℕ
first = codes "CSEB DECKS 1\nARRAY AGE_HD 2 4\n0\n0\n0\n0\n0\n0\n0\n0\nARRAY CUBE 1 3 2\n7\n8\n0\n0\n0\n0\nEND\n"

-- one of the two saved arrays
abbrev pub ages : List ℕ
ages = codes "CSEB DECKS 1\nARRAY AGE_HD 2 4\n35\n0\n0\n0\n0\n0\n0\n0\nEND\n"

-- what is saved where a text was loaded
abbrev pub saved_of : Result Kept DeckError → Option (List ℕ)
saved_of (Ok s) = Some (deck_text sample s)
saved_of (Err e) = None

abbrev pub saved : List ℕ → Option (List ℕ)
saved text = saved_of (loaded sample text)

-- none of the arrays, one, and both in the other order
abbrev pub texts : List (List ℕ × Option (List ℕ))
texts =
    (codes "CSEB DECKS 1\nEND\n", Some (codes "CSEB DECKS 1\nARRAY AGE_HD 2 4\n0\n0\n0\n0\n0\n0\n0\n0\nARRAY CUBE 1 3 2\n7\n8\n0\n0\n0\n0\nEND\n"))
    ∷ (codes "CSEB DECKS 1\nARRAY AGE_HD 2 4\n35\n0\n0\n0\n0\n0\n0\n0\nEND\n", Some (codes "CSEB DECKS 1\nARRAY AGE_HD 2 4\n35\n0\n0\n0\n0\n0\n0\n0\nARRAY CUBE 1 3 2\n7\n8\n0\n0\n0\n0\nEND\n"))
    ∷ (
      codes "CSEB DECKS 1\n"
          ++ codes "ARRAY CUBE 1 3 2\n9223372036854775807\n-9223372036854775808\nNOTAPPL\nMISSING\nDEFAULT\n-1\n"
          ++ codes "ARRAY AGE_HD 2 4\n1\n2\n3\n4\n5\n6\n7\n8\nEND\n",
      Some (codes "CSEB DECKS 1\n"
          ++ codes "ARRAY AGE_HD 2 4\n1\n2\n3\n4\n5\n6\n7\n8\n"
          ++ codes "ARRAY CUBE 1 3 2\n9223372036854775807\n-9223372036854775808\nNOTAPPL\nMISSING\nDEFAULT\n-1\nEND\n"),
    ) ∷ []

-- a cell where a text was loaded
abbrev pub cell_of : ℕ × ℕ → Result Kept DeckError → Option Num
cell_of p (Ok s) = slice_get (cells_of s p.0) p.1
cell_of p (Err e) = None

abbrev pub whole : ℕ → Option Num
whole n = Some (Whole (pos n))

-- arrays, places and what stands there where the ages were loaded
abbrev pub cells : List ((ℕ × ℕ) × Option Num)
cells =
    ((0, 0), whole 35) ∷ ((0, 1), whole 0) ∷ ((1, 0), whole 7) ∷ ((1, 5), whole 0) ∷ ((1, 6), None) ∷ ((2, 0), whole 5) ∷ ((2, 1), whole 0) ∷ ((3, 0), None) ∷ []

-- what a text of three characters keeps of another one
abbrev pub kept : List ℕ → Option (List ℕ)
kept text = text_in (rewritten text (Words (record { items = blanks 3 })))

-- U+00E4 stands in the last
abbrev pub kept_texts : List (List ℕ × Option (List ℕ))
kept_texts = (codes "", Some (codes "   ")) ∷ (codes "ab", Some (codes "ab ")) ∷ (codes "äbcd", Some (228 ∷ codes "bc")) ∷ []

-- the first line that is wrong
abbrev pub fault_of : Result Kept DeckError → Option DeckError
fault_of (Ok s) = None
fault_of (Err e) = Some e

abbrev pub told : List ℕ → Option DeckError
told text = fault_of (loaded sample text)

-- texts, with the number and the line of their fault; the last sixteen are no cells
abbrev pub faults : List (List ℕ × Option DeckError)
faults =
    ([], Some (fault 50 1))
    ∷ (codes "CSEB DECKS 2\nEND\n", Some (fault 50 1))
    ∷ ((239 ∷ 187 ∷ 191 ∷ []) ++ codes "CSEB DECKS 1\nEND\n", Some (fault 50 1))
    ∷ (codes "CSEB DECKS 1\r\nEND\n", Some (fault 50 1))
    ∷ (codes "CSEB DECKS 1\n", Some (fault 50 2))
    ∷ (codes "CSEB DECKS 1\nEND", Some (fault 50 2))
    ∷ (codes "CSEB DECKS 1\nEND\n\n", Some (fault 50 3))
    ∷ (codes "CSEB DECKS 1\nEND\nEND\n", Some (fault 50 3))
    ∷ (codes "CSEB DECKS 1\nEND\n ", Some (fault 50 3))
    ∷ (codes "CSEB DECKS 1\nARRAY\nEND\n", Some (fault 50 2))
    ∷ (codes "CSEB DECKS 1\nARRAY AGE_HD\nEND\n", Some (fault 50 2))
    ∷ (codes "CSEB DECKS 1\nARRAY  2 4\nEND\n", Some (fault 50 2))
    ∷ (codes "CSEB DECKS 1\nARRAY AGE_HD  2 4\nEND\n", Some (fault 50 2))
    ∷ (codes "CSEB DECKS 1\nARRAY AGE_HD 2 4 \nEND\n", Some (fault 50 2))
    ∷ (codes "CSEB DECKS 1\nARRAY AGE_HD 2 4\r\n", Some (fault 50 2))
    ∷ (codes "CSEB DECKS 1\nARRAY AGE_HD 02 4\n", Some (fault 50 2))
    ∷ (codes "CSEB DECKS 1\nARRAY AGE_HD 2 -4\n", Some (fault 50 2))
    ∷ (codes "CSEB DECKS 1\nARRAY AGE_HD 1 1 1 1\n", Some (fault 50 2))
    ∷ (codes "CSEB DECKS 1\nARRAY AGE_HD 2 3\n0\n", Some (fault 52 2))
    ∷ (codes "CSEB DECKS 1\nARRAY AGE_HD 2\n", Some (fault 52 2))
    ∷ (codes "CSEB DECKS 1\nARRAY AGE_HD 2 4 0\n", Some (fault 52 2))
    ∷ (codes "CSEB DECKS 1\nARRAY AGE_HD 99999999999999999999999 4\n", Some (fault 52 2))
    ∷ (codes "CSEB DECKS 1\nARRAY age_hd 2 4\n", Some (fault 53 2))
    ∷ (codes "CSEB DECKS 1\nARRAY NOBODY 1\n", Some (fault 53 2))
    ∷ (codes "CSEB DECKS 1\nARRAY OTHER 2\n", Some (fault 53 2))
    ∷ (codes "CSEB DECKS 1\nARRAY OTHER 3\n", Some (fault 52 2))
    ∷ (codes "CSEB DECKS 1\nARRAY CUBE 1 3 2\n1\n2\n3\n4\n5\n6\nARRAY CUBE 1 3 2\n", Some (fault 53 9))
    ∷ (codes "CSEB DECKS 1\nARRAY CUBE 1 3 2\n1\n2\n3\n4\n5\n6\nARRAY CUBE 1 3 3\n", Some (fault 52 9))
    ∷ (codes "CSEB DECKS 1\nARRAY CUBE 1 3 2\n1\n2\n3\n4\n5\n6\n7\n", Some (fault 50 9))
    ∷ (codes "CSEB DECKS 1\nARRAY CUBE 1 3 2\n1\n2\n3\n4\n5\nEND\n", Some (fault 51 8))
    ∷ (codes "CSEB DECKS 1\nARRAY CUBE 1 3 2\n\n", Some (fault 51 3))
    ∷ (codes "CSEB DECKS 1\nARRAY CUBE 1 3 2\n 1\n", Some (fault 51 3))
    ∷ (codes "CSEB DECKS 1\nARRAY CUBE 1 3 2\n1 \n", Some (fault 51 3))
    ∷ (codes "CSEB DECKS 1\nARRAY CUBE 1 3 2\n+1\n", Some (fault 51 3))
    ∷ (codes "CSEB DECKS 1\nARRAY CUBE 1 3 2\n01\n", Some (fault 51 3))
    ∷ (codes "CSEB DECKS 1\nARRAY CUBE 1 3 2\n-0\n", Some (fault 51 3))
    ∷ (codes "CSEB DECKS 1\nARRAY CUBE 1 3 2\n-01\n", Some (fault 51 3))
    ∷ (codes "CSEB DECKS 1\nARRAY CUBE 1 3 2\n--1\n", Some (fault 51 3))
    ∷ (codes "CSEB DECKS 1\nARRAY CUBE 1 3 2\n-\n", Some (fault 51 3))
    ∷ (codes "CSEB DECKS 1\nARRAY CUBE 1 3 2\n1.5\n", Some (fault 51 3))
    ∷ (codes "CSEB DECKS 1\nARRAY CUBE 1 3 2\n1\r\n", Some (fault 51 3))
    ∷ (codes "CSEB DECKS 1\nARRAY CUBE 1 3 2\nnotappl\n", Some (fault 51 3))
    ∷ (codes "CSEB DECKS 1\nARRAY CUBE 1 3 2\nNOTAPPL \n", Some (fault 51 3))
    ∷ (codes "CSEB DECKS 1\nARRAY CUBE 1 3 2\n9223372036854775808\n", Some (fault 51 3))
    ∷ (codes "CSEB DECKS 1\nARRAY CUBE 1 3 2\n-9223372036854775809\n", Some (fault 51 3))
    ∷ (codes "CSEB DECKS 1\nARRAY CUBE 1 3 2\n100000000000000000000000\n", Some (fault 51 3)) ∷ []

-- how many bytes each line of the ages ends after
abbrev pub line_ends : List ℕ
line_ends = 13 ∷ 30 ∷ 33 ∷ 35 ∷ 37 ∷ 39 ∷ 41 ∷ 43 ∷ 45 ∷ 47 ∷ 51 ∷ []

-- the fault of so many bytes of the ages: the line that is cut, 51 where it is a cell
abbrev pub fault_behind : ℕ → DeckError
fault_behind before = fault (if nat_le 2 before && nat_le before 9 then 51 else 50) (before + 1)

abbrev pub fault_of_front : ℕ → Option DeckError
fault_of_front count = Some (fault_behind (count_by (λ end. nat_le end count) line_ends))

abbrev pub fronts : List ℕ
fronts = range_with_len 0 (length ages)

pub record DecksAreWorked : Type 0 where
  pub first_is : deck_text sample (first_kept sample) ≡ first
  pub texts_are : Gives saved texts
  pub cells_are : Gives (λ p. cell_of p (loaded sample ages)) cells
  pub kept_texts_are : Gives kept kept_texts
  pub faults_are : Gives told faults
  pub fronts_are : map (λ n. told (take n ages)) fronts ≡ map fault_of_front fronts
