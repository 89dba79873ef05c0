-- Worked rows of texts that are dictionaries or none: the first fault of each.
use Rattle.std.specs.Prelude.{ℕ, List, [], ◌∷◌, ◌++◌, codes, Option, Some, None}
use Rattle.cse_dict.specs.Faults.{note_all}
use Rattle.cse_dict.specs.Reading.{text_faults}
use Rattle.cse_dict.specs.declared.fault.DictError.{DictError}
use Rattle.cse_test_checks.specs.Rows.{Gives}

abbrev pub sound : Option DictError
sound = None

-- the line, and the number
abbrev pub fault : ℕ → ℕ → Option DictError
fault line number = Some (record { number = number; line = line })

-- the least of the faults of a text
abbrev pub told : List ℕ → Option DictError
told text = note_all None (text_faults text)

abbrev pub fronts : List (List ℕ × Option DictError)
fronts =
    ([], fault 0 11)
    ∷ (codes "Name=A\n", fault 0 11)
    ∷ (codes "[Level]\n[Dictionary]\n", fault 0 11)
    ∷ (codes "[ Dictionary ]\nName=D\n[Level]\nName=L", fault 0 11)
    ∷ (codes "[Dictionary]\r", fault 0 11)
    ∷ ((239 ∷ 187 ∷ 191 ∷ []) ++ codes "[Dictionary]\nName=D\n[Level]\nName=L", sound)
    ∷ (codes "[Dictionary]\r\nName=D\r\n[Level]\r\nName=L", sound)
    ∷ (codes "[Dictionary]\r\nName=D\r\n[Level]\r\nName=L\r\n\r\n\r\n\r\n\r\n\r\n[Item]\r\nStart=1\r\nLen=1", fault 10 12)
    ∷ (codes "[Dictionary]\nName=D", fault 1 12)
    ∷ (codes "[Dictionary]\nName=D\n[ Level ]\nName=A", fault 1 12)
    ∷ (codes "[Dictionary]\n[Level]\nName=A\n[Level]", fault 1 12)
    ∷ (codes "[Dictionary]\nName=D\n[Level]\nName=A\n[Item]", fault 5 12)
    ∷ (codes "[Dictionary]\nName=D\n[Level]\nName=A\n[Level]\nName=B", fault 5 13)
    ∷ (codes "[Dictionary]\nName=D\n[Level]\nName=A\n[Level]\nName=-\n[Item]", fault 5 13)
    ∷ (codes "[Dictionary]\nName=D\n[Level]\nLabel=A", fault 3 12)
    ∷ (codes "[Dictionary]\nName=D\nRecordTypeLen=1\n[Level]\nName=L", fault 1 12)
    ∷ (codes "[Dictionary]\nName=D\nRecordTypeLen=x\n[Level]\nName=L\n[Record]\nName=R\nRecordLen=1", fault 3 14)
    ∷ (codes "[Dictionary]\nName=D\nRecordTypeLen=17\n[Level]\nName=L", fault 3 14)
    ∷ (codes "[Dictionary]\nName=D\nRecordTypeLen=16\nRecordTypeStart=65535\n[Level]\nName=L", sound)
    ∷ (codes "[Dictionary]\nName=D\nRecordTypeLen=16\nRecordTypeStart=65536\n[Level]\nName=L", fault 4 14)
    ∷ (codes "[Dictionary]\nName=D\nRecordTypeLen=17\nRecordTypeStart=0\n[Level]\nName=L", fault 3 14)
    ∷ (codes "[Dictionary]\nName=D\nRecordTypeStart=0\nRecordTypeLen=x\n[Level]\nName=L", fault 3 14)
    ∷ (codes "[Dictionary]\nName=D\nRecordTypeStart=0\n[Level]\nName=L", sound)
    ∷ (codes "[Dictionary]\nName=D\nRecordTypeStart=1\nRecordTypeLen=1\n[Level]\nName=L\n[Record]\nName=R\nRecordLen=9", fault 7 12)
    ∷ (codes "[Dictionary]\nName=D\nRecordTypeStart=1\nRecordTypeLen=1\n[Level]\nName=L\n[Record]\nName=R\nRecordLen=9\nRecordTypeValue='AB'", fault 10 14)
    ∷ (codes "[Dictionary]\nName=D\nRecordTypeStart=1\nRecordTypeLen=2\n[Level]\nName=L\n[Record]\nName=R\nRecordLen=9\nRecordTypeValue='" ++ (195 ∷ 169 ∷ 195 ∷ 169 ∷ []) ++ codes "'", sound)
    ∷ (codes "[Dictionary]\nName=D\nRecordTypeStart=1\nRecordTypeLen=2\n[Level]\nName=L\n[Record]\nName=R\nRecordLen=9\nRecordTypeValue='A'\n[Record]\nName=S\nRecordLen=9\nRecordTypeValue=A", fault 11 18)
    ∷ (codes "[Dictionary]\nName=D\nRecordTypeStart=1\nRecordTypeLen=2\n[Level]\nName=L\n[Record]\nName=R\nRecordLen=9\nRecordTypeValue='A'\n[Record]\nName=S\nRecordLen=9\nRecordTypeValue=A'", sound)
    ∷ (codes "[Dictionary]\nName=D\nRecordTypeStart=1\nRecordTypeLen=2\n[Level]\nName=L\n[Record]\nName=R\nRecordLen=9\nRecordTypeValue='A  '", fault 10 14) ∷ []

-- a dictionary D and a level L, behind which the others stand
abbrev pub before : List ℕ
before = codes "[Dictionary]\nName=D\n[Level]\nName=L\n"

abbrev pub rests : List (List ℕ × Option DictError)
rests =
    (codes "[Record]\nName=R", fault 5 12)
    ∷ (codes "[Record]\nRecordLen=1", fault 5 12)
    ∷ (codes "[Record]\nName=R\nRecordLen=0", fault 7 14)
    ∷ (codes "[Record]\nName=R\nRecordLen=", fault 7 14)
    ∷ (codes "[Record]\nName=R\nRecordLen=65535", sound)
    ∷ (codes "[Record]\nName=R\nRecordLen=65536", fault 7 14)
    ∷ (codes "[Record]\nName=R\nRecordLen=+1", fault 7 14)
    ∷ (codes "[Record]\nName=R\nRecordLen=1\nMaxRecords=0", fault 8 14)
    ∷ (codes "[Record]\nName=R\nRecordLen=1\nMaxRecords=9999", sound)
    ∷ (codes "[Record]\nName=R\nRecordLen=1\nMaxRecords=10000", fault 8 14)
    ∷ (codes "[Record]\nName=R\nRecordLen=1\nRecordTypeValue='A'", fault 8 14)
    ∷ (codes "[Record]\nName=R\nRecordLen=1\nRecordTypeValue=''\n[Record]\nName=S\nRecordLen=1", fault 9 18)
    ∷ (codes "[IdItems]\n[Item]\nStart=1\nLen=1", fault 6 12)
    ∷ (codes "[IdItems]\n[Item]\nName=I\nLen=1", fault 6 12)
    ∷ (codes "[IdItems]\n[Item]\nName=I\nStart=1", fault 6 12)
    ∷ (codes "[Item]\nName=I\nStart=1\nLen=1", fault 5 12)
    ∷ (codes "[IdItems]\n[Item]\nName=I\nStart=0\nLen=1", fault 8 14)
    ∷ (codes "[IdItems]\n[Item]\nName=I\nStart=1\nLen=65536", fault 9 14)
    ∷ (codes "[IdItems]\n[Item]\nName=I\nStart=65535\nLen=65535", sound)
    ∷ (codes "[IdItems]\n[Item]\nName=I\nStart=1\nLen=1\nOccurrences=0", fault 10 14)
    ∷ (codes "[IdItems]\n[Item]\nName=I\nStart=1\nLen=1\nOccurrences=65535\nDecimal=255", sound)
    ∷ (codes "[IdItems]\n[Item]\nName=I\nStart=1\nLen=1\nOccurrences=65536", fault 10 14)
    ∷ (codes "[IdItems]\n[Item]\nName=I\nStart=1\nLen=1\nDecimal=256", fault 10 14)
    ∷ (codes "[IdItems]\n[Item]\nName=I\nStart=1\nLen=3\nEditMissing=999", sound)
    ∷ (codes "[IdItems]\n[Item]\nName=I\nStart=1\nLen=3\nEditMissing=0000999", sound)
    ∷ (codes "[IdItems]\n[Item]\nName=I\nStart=1\nLen=3\nEditMissing=1000", fault 10 14)
    ∷ (codes "[IdItems]\n[Item]\nName=I\nStart=1\nLen=3\nEditMissing=-99", sound)
    ∷ (codes "[IdItems]\n[Item]\nName=I\nStart=1\nLen=3\nEditMissing=-100", fault 10 14)
    ∷ (codes "[IdItems]\n[Item]\nName=I\nStart=1\nLen=3\nEditMissing=x", fault 10 14)
    ∷ (codes "[IdItems]\n[Item]\nName=I\nStart=1\nLen=3\nEditMissing=x\nDataType=ALPHA", sound)
    ∷ (codes "[IdItems]\n[Item]\nName=I\nStart=1\nLen=3\nEditMissing=x\nDecimal=1", sound)
    ∷ (codes "[IdItems]\n[Item]\nName=I\nStart=1\nLen=16\nEditMissing=x", sound)
    ∷ (codes "[IdItems]\n[Item]\nName=I\nStart=1\nEditMissing=x\nLen=0", fault 10 14)
    ∷ (codes "[Record]\nName=R\nRecordLen=9\n[Item]\nName=I\nStart=1\nLen=9", sound)
    ∷ (codes "[Record]\nName=R\nRecordLen=9\n[Item]\nName=I\nStart=2\nLen=9", fault 8 15)
    ∷ (codes "[Record]\nName=R\nRecordLen=9\n[Item]\nName=I\nStart=x\nLen=99", fault 10 14)
    ∷ (codes "[Record]\nName=R\nRecordLen=x\n[Item]\nName=I\nStart=1\nLen=99", fault 7 14)
    ∷ (codes "[Record]\nName=R\nRecordLen=9\n[Item]\nName=I\nStart=1\nLen=1\nEditMissing=x\n[IdItems]\n[Item]\nName=J\nStart=1\nLen=1", sound)
    ∷ (codes "[Record]\nName=d\nRecordLen=1", fault 5 16)
    ∷ (codes "[Record]\nName=l\nRecordLen=1", fault 5 16)
    ∷ (codes "[IdItems]\n[Item]\nName=I\nStart=1\nLen=1\n[ValueSet]\nName=i", fault 10 16)
    ∷ (codes "[IdItems]\n[Item]\nName=I\nStart=1\nLen=1\n[ValueSet]\nLabel=x", fault 10 12)
    ∷ (codes "[ValueSet]\nName=V", fault 5 12)
    ∷ (codes "[Record]\nName=\nRecordLen=1", fault 6 17)
    ∷ (codes "[Record]\nName=1R\nRecordLen=1", fault 6 17)
    ∷ (codes "[Record]\nName=R-\nRecordLen=1", fault 6 17)
    ∷ (codes "[Record]\nName=R_23456789_123456789_123456789_1\nRecordLen=1", sound)
    ∷ (codes "[Record]\nName=R_23456789_123456789_123456789_12\nRecordLen=1", fault 6 17)
    ∷ (codes "[Record]\nName=R" ++ (195 ∷ 169 ∷ []) ++ codes "\nRecordLen=1", fault 6 17) ∷ []

pub record DictionaryFaultsAreWorked : Type 0 where
  pub fronts_are : Gives told fronts
  pub rests_are : Gives (λ rest. told (before ++ rest)) rests
  pub not_utf8 : Gives told ((codes "[Dictionary]\nName=" ++ 255 ∷ [], fault 0 10) ∷ [])
