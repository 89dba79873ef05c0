-- Worked rows of dictionaries: the kinds of items, the rows of value sets, what is found by a name, and the shape of a sample.
use Rattle.std.specs.Prelude.{ℕ, ℤ, pos, neg_ℤ, Bool, true, false, List, [], ◌∷◌, ◌++◌, codes, Option, Some, None, slice_get}
use Rattle.std.specs.Option.{option_and_then, option_map}
use Rattle.cse_value.specs.Shape.{ShapeLists}
use Rattle.cse_value.specs.declared.number.Num.TheVariants.{Whole}
use Rattle.cse_value.specs.declared.shape.ItemKind.{ItemKind}
use Rattle.cse_value.specs.declared.shape.ItemKind.TheVariants.{Opaque, Number, Text}
use Rattle.cse_value.specs.declared.shape.ItemShape.{ItemShape}
use Rattle.cse_sections.specs.Sections.{sections_of}
use Rattle.cse_dict.specs.Dictionary.{DictionaryText, code_at, dictionary_of, item_name_at, item_names, number_named, number_of_type, record_names, row_in, set_names, shape_of, zero_fill_at}
use Rattle.cse_dict.specs.Reading.{text_faults}
use Rattle.cse_dict.specs.declared.fault.DictError.{DictError}
use Rattle.cse_test_checks.specs.Rows.{Gives}

-- the dictionary of a text without a fault
abbrev pub dictionary_without : List DictError → List ℕ → Option DictionaryText
dictionary_without [] text = Some (dictionary_of (sections_of text))
dictionary_without (f ∷ fs) text = None

abbrev pub dictionary : List ℕ → Option DictionaryText
dictionary text = dictionary_without (text_faults text) text

-- what stands before the type of an item
abbrev pub before_type : List ℕ
before_type =
    codes "[Dictionary]\nName=D\n"
    ++ codes "[Level]\nName=L\n"
    ++ codes "[IdItems]\n"
    ++ codes "[Item]\nName=I\nStart=1\nLen=1\nDataType="

-- how many rows the set V has, whether it is partial, and the row of a number
pub record SetTold : Type 0 where
  pub rows : ℕ
  pub partial : Bool
  pub row : Option ℕ

abbrev pub set : ℕ → Bool → Option ℕ → Option SetTold
set rows partial row = Some (record { rows = rows; partial = partial; row = row })

abbrev pub set_in : ℤ → DictionaryText → Option SetTold
set_in z d =
    option_and_then (λ n. option_map (λ s. record { rows = s.shape.rows; partial = s.shape.partial; row = row_in (Whole z) s.spans }) (slice_get d.sets n))
    (number_named (codes "V") (set_names d))

abbrev pub set_told : List ℕ × ℤ → Option SetTold
set_told p = option_and_then (set_in p.1) (dictionary (before_type ++ p.0))

abbrev pub pairs : List ((List ℕ × ℤ) × Option SetTold)
pairs =
    ((codes "Numeric\n[ValueSet]\nName=V\nValue=1 5:7 -3;a;b 'c'", pos 6), set 1 false (Some 0))
    ∷ ((codes "Numeric\n[ValueSet]\nName=V\nValue=1 5:7 -3;a;b 'c'", neg_ℤ (pos 3)), set 1 false (Some 0))
    ∷ ((codes "Numeric\n[ValueSet]\nName=V\nValue=1 5:7\nValue=2:9", pos 6), set 2 false (Some 0))
    ∷ ((codes "Numeric\n[ValueSet]\nName=V\nValue=1 5:7\nValue=2:9", pos 8), set 2 false (Some 1))
    ∷ ((codes "Numeric\n[ValueSet]\nName=V\nValue=\nvalue=4;x\nVALUE=", pos 4), set 3 false (Some 1))
    ∷ ((codes "Numeric\n[ValueSet]\nName=V\nValue=7:5", pos 6), set 1 true None)
    ∷ ((codes "Numeric\n[ValueSet]\nName=V\nValue=5:5", pos 5), set 1 false (Some 0))
    ∷ ((codes "Numeric\n[ValueSet]\nName=V\nValue=1 : 2", pos 2), set 1 true (Some 0))
    ∷ ((codes "Numeric\n[ValueSet]\nName=V\nValue='  ' 3;blank", pos 3), set 1 false (Some 0))
    ∷ ((codes "Numeric\n[ValueSet]\nName=V\nValue='';none", pos 3), set 1 false None)
    ∷ ((codes "Numeric\n[ValueSet]\nName=V\nValue='a';alpha", pos 3), set 1 true None)
    ∷ ((codes "Numeric\n[ValueSet]\nName=V\nValue=' 'x 3", pos 3), set 1 true (Some 0))
    ∷ ((codes "Numeric\n[ValueSet]\nName=V\nValue=3 '4;5", pos 4), set 1 true None)
    ∷ ((codes "Numeric\n[ValueSet]\nName=V\nValue=a;x\nValue=3", pos 3), set 2 true (Some 1))
    ∷ ((codes "Alpha\n[ValueSet]\nName=V\nValue='a;b' 'c d' 3;label", pos 3), set 1 false (Some 0))
    ∷ ((codes "Alpha\n[ValueSet]\nName=V\nValue='a'b 3;label", pos 3), set 1 true (Some 0))
    ∷ ((codes "Alpha\n[ValueSet]\nName=V\nValue=a;label", pos 3), set 1 true None)
    ∷ ((codes "Other\n[ValueSet]\nName=V\nValue=' ' 3;label", pos 3), set 1 true (Some 0))
    ∷ ((codes "Numeric\n[ValueSet]\nName=V\nValue=9223372036854775808;x", pos 9223372036854775807), set 1 true None)
    ∷ ((codes "Numeric\n[ValueSet]\nName=V\nValue=-9223372036854775808:-5;x", neg_ℤ (pos 9223372036854775808)), set 1 false (Some 0))
    ∷ ((codes "Numeric\n[ValueSet]\nName=V\nValue=9 1:3\nValue=5\nValue=2:8", pos 4), set 3 false (Some 2))
    ∷ ((codes "Numeric\n[ValueSet]\nName=V\nValue=9 1:3\nValue=5\nValue=2:8", pos 2), set 3 false (Some 0))
    ∷ ((codes "Numeric\n[ValueSet]\nName=V\nValue=1;Head\nValue=2;Spouse\nValue=3:8;Other", pos 1), set 3 false (Some 0))
    ∷ ((codes "Numeric\n[ValueSet]\nName=V\nValue=1;Head\nValue=2;Spouse\nValue=3:8;Other", pos 2), set 3 false (Some 1))
    ∷ ((codes "Numeric\n[ValueSet]\nName=V\nValue=1;Head\nValue=2;Spouse\nValue=3:8;Other", pos 3), set 3 false (Some 2))
    ∷ ((codes "Numeric\n[ValueSet]\nName=V\nValue=1;Head\nValue=2;Spouse\nValue=3:8;Other", pos 8), set 3 false (Some 2))
    ∷ ((codes "Numeric\n[ValueSet]\nName=V\nValue=1;Head\nValue=2;Spouse\nValue=3:8;Other", pos 9), set 3 false None)
    ∷ ((codes "Numeric\n[ValueSet]\nName=V\nValue=1;Head\nValue=2;Spouse\nValue=3:8;Other", pos 0), set 3 false None) ∷ []

-- what stands before and behind the keys of an item
abbrev pub before_keys : List ℕ
before_keys =
    codes "[Dictionary]\nName=D\nRecordTypeStart=1\nRecordTypeLen=1\n"
    ++ codes "[Level]\nName=L\n"
    ++ codes "[IdItems]\n"
    ++ codes "[Item]\nName=A\nStart=2\nLen=1\n"
    ++ codes "[Record]\nName=R\nRecordLen=600\nRecordTypeValue=1\n"
    ++ codes "[Item]\nName=I\n"

abbrev pub behind_keys : List ℕ
behind_keys = codes "\n[IdItems]\n[Item]\nName=B\nStart=500\nLen=1\nOccurrences=9\n"

-- the kind of the second item
abbrev pub kind_told : List ℕ → Option ItemKind
kind_told keys = option_and_then (λ d. option_map (λ i. i.shape.kind) (slice_get d.items 1)) (dictionary (before_keys ++ keys ++ behind_keys))

abbrev pub kinds : List (List ℕ × Option ItemKind)
kinds =
    (codes "Start=3\nLen=15", Some Number)
    ∷ (codes "Start=3\nLen=16", Some Opaque)
    ∷ (codes "Start=3\nLen=255\nDataType=Alpha", Some Text)
    ∷ (codes "Start=3\nLen=256\nDataType=Alpha", Some Opaque)
    ∷ (codes "Start=3\nLen=1\nDataType=Date", Some Opaque)
    ∷ (codes "Start=3\nLen=1\nDecimal=1", Some Opaque)
    ∷ (codes "Start=3\nLen=1\nDecimal=0", Some Number)
    ∷ (codes "Start=3\nLen=1\nOccurrences=2", Some Opaque)
    ∷ (codes "Start=3\nLen=1\nOccurrences=1", Some Number)
    ∷ (codes "Start=1\nLen=1", Some Opaque)
    ∷ (codes "Start=2\nLen=1", Some Opaque)
    ∷ (codes "Start=2\nLen=3", Some Opaque)
    ∷ (codes "Start=500\nLen=2", Some Opaque)
    ∷ (codes "Start=499\nLen=1", Some Number) ∷ []

-- a dictionary, as an office writes it by hand
abbrev pub sample : List ℕ
sample =
    codes "[Dictionary]\nVersion=CSPro 7.7\nLabel=Sample\nName=SAMPLE_DICT\nRecordTypeStart=1\nRecordTypeLen=1\nPositions=Absolute\nZeroFill=No\n\n"
    ++ codes "[Level]\nLabel=Questionnaire\nName=QUEST\n\n"
    ++ codes "[IdItems]\n\n"
    ++ codes "[Item]\nLabel=Household\nName=HH\nStart=2\nLen=3\nZeroFill=Yes\n\n"
    ++ codes "[Record]\nLabel=Person\nName=PERSON\nRecordTypeValue='P'\nRecordLen=12\nMaxRecords=30\n\n"
    ++ codes "[Item]\nLabel=Sex\nName=SEX\nStart=5\nLen=1\n\n"
    ++ codes "[ValueSet]\nLabel=Sex\nName=SEX_VS\nValue=1;Male\nValue=2;Female\n\n"
    ++ codes "[Item]\nLabel=Relation\nName=REL\nStart=6\nLen=1\n\n"
    ++ codes "[ValueSet]\nLabel=Relation\nName=REL_VS\nValue=1;Head\nValue=2;Spouse\nValue=3:8;Other\n\n"
    ++ codes "[Item]\nLabel=Age\nName=AGE\nStart=7\nLen=3\n\n"
    ++ codes "[Item]\nLabel=Weight\nName=WEIGHT\nStart=10\nLen=3\nDecimal=1\n"

-- the same, as CSPro writes it: a byte order mark, CRLF, a relation, and keys that are skipped
abbrev pub written : List ℕ
written =
    (239 ∷ 187 ∷ 191 ∷ []) ++ codes "[Dictionary]\r\nVersion=CSPro 7.7\r\nName=Sample_Dict\r\nRecordTypeStart=1\r\nRecordTypeLen=1\r\nNote=a=b [x]\r\n\r\n"
    ++ codes "[Level]\r\nName=QUEST\r\n"
    ++ codes "[IdItems]\r\n"
    ++ codes "[Item]\r\nName=HH\r\nStart=2\r\nLen=3\r\nZeroFill=YES\r\n"
    ++ codes "[Record]\r\nName=PERSON\r\nRecordTypeValue='P'\r\nRecordLen=12\r\nMaxRecords=30\r\n"
    ++ codes "[Item]\r\nName=SEX\r\nStart=5\r\nLen=1\r\nStart=99999\r\n"
    ++ codes "[ValueSet]\r\nName=SEX_VS\r\nLink=3\r\nValue=1;Male\r\nImage=a.png\r\nValue=2;Female\r\nSpecial=NOTAPPL\r\n"
    ++ codes "[item]\r\nname = rel \r\nSTART= 6\r\nlen=1\r\n"
    ++ codes "[VALUESET]\r\nName=REL_VS\r\nValue=1;Head\r\nValue=2;Spouse\r\nValue=3:8;Other\r\n"
    ++ codes "[Item]\r\nName=AGE\r\nStart=7\r\nLen=3\r\nDataType=numeric\r\nZeroFill=Maybe\r\nEditMissing=999\r\n"
    ++ codes "[Item]\r\nName=WEIGHT\r\nStart=10\r\nLen=3\r\nDecimal=1\r\nEditMissing=99999\r\n"
    ++ codes "[Relation]\r\nName=1\r\nPrimary=PERSON\r\n"
    ++ codes "[Dictionary]\r\nName=-"

abbrev pub item : ℕ → ItemKind → ℕ → ℕ → ItemShape
item owner kind len start = record { owner = owner; kind = kind; len = len; start = start }

abbrev pub sample_shape : ShapeLists
sample_shape = record {
  records = record { max_records = 30; record_len = 12 } ∷ [];
  items = item 255 Number 3 2 ∷ item 0 Number 1 5 ∷ item 0 Number 1 6 ∷ item 0 Number 3 7 ∷ item 0 Opaque 3 10 ∷ [];
  sets = record { item = 1; rows = 2; partial = false } ∷ record { item = 2; rows = 3; partial = false } ∷ [];
}

-- its name and that of its level, where the record type stands, and its shape
pub record Told : Type 0 where
  pub name : List ℕ
  pub level : List ℕ
  pub start : ℕ
  pub len : ℕ
  pub shape : ShapeLists

abbrev pub told_of : DictionaryText → Told
told_of d = record { name = d.name; level = d.level_name; start = d.type_columns.start; len = d.type_columns.len; shape = shape_of d }

abbrev pub told : List ℕ → Option Told
told text = option_map told_of (dictionary text)

abbrev pub sample_told : Option Told
sample_told = Some (record { name = codes "SAMPLE_DICT"; level = codes "QUEST"; start = 1; len = 1; shape = sample_shape })

-- a dictionary of nothing but its names
abbrev pub empty_told : Option Told
empty_told = Some (record { name = codes "T"; level = codes "L"; start = 0; len = 0; shape = record { records = []; items = []; sets = [] } })

-- the number of an item, its name, its code, and whether it is written with zeros
pub record ItemTold : Type 0 where
  pub number : ℕ
  pub name : List ℕ
  pub code : Option ℤ
  pub fill : Bool

abbrev pub item_at : DictionaryText → ℕ → ItemTold
item_at d n = record { number = n; name = item_name_at d n; code = code_at d n; fill = zero_fill_at d n }

abbrev pub item_named : List ℕ → Option ItemTold
item_named name = option_and_then (λ d. option_map (item_at d) (number_named name (item_names d))) (dictionary written)

abbrev pub items : List (List ℕ × Option ItemTold)
items =
    (codes "hh", Some (record { number = 0; name = codes "HH"; code = None; fill = true }))
    ∷ (codes "Weight", Some (record { number = 4; name = codes "WEIGHT"; code = None; fill = false }))
    ∷ (codes "AGE", Some (record { number = 3; name = codes "AGE"; code = Some (pos 999); fill = false })) ∷ []

-- the numbers of the item, record and set with a name
abbrev pub numbers_in : List ℕ → DictionaryText → List (Option ℕ)
numbers_in name d = number_named name (item_names d) ∷ number_named name (record_names d) ∷ number_named name (set_names d) ∷ []

abbrev pub numbers : List ℕ → Option (List (Option ℕ))
numbers name = option_map (numbers_in name) (dictionary written)

abbrev pub names : List (List ℕ × Option (List (Option ℕ)))
names =
    (codes "HH", Some (Some 0 ∷ None ∷ None ∷ [])) ∷ (codes "PERSON", Some (None ∷ Some 0 ∷ None ∷ [])) ∷ (codes "rel_vs", Some (None ∷ None ∷ Some 1 ∷ []))
    ∷ (codes "QUEST", Some (None ∷ None ∷ None ∷ [])) ∷ (codes "A_NAME_THAT_IS_LONGER_THAN_32_LETTERS", Some (None ∷ None ∷ None ∷ [])) ∷ []

-- the number of the record with a type
abbrev pub types : List (List ℕ × Option (Option ℕ))
types = (codes "P", Some (Some 0)) ∷ (codes "p", Some None) ∷ []

pub record DictionariesAreWorked : Type 0 where
  pub sets_are : Gives set_told pairs
  pub kinds_are : Gives kind_told kinds
  pub samples_are : Gives told ((sample, sample_told) ∷ (written, sample_told) ∷ (codes "[Dictionary]\nName=t\n[Level]\nName=L", empty_told) ∷ [])
  pub items_are : Gives item_named items
  pub names_are : Gives numbers names
  pub types_are : Gives (λ t. option_map (number_of_type t) (dictionary written)) types
