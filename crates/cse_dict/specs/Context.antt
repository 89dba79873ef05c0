-- What stands before a section, as far as its faults and its meaning ask for it.
use Rattle.std.specs.Prelude.{Bool, true, false, List, [], ◌∷◌, ◌++◌, if◌then◌else◌, codes}
use Rattle.std.specs.Option.{option_to_list}
use Rattle.cse_sections.specs.Sections.{SectionText}
use Rattle.cse_dict.specs.Keys.{data_type_of, entry_of, kind_of, number_in}
use Rattle.cse_dict.specs.Pairs.{one_more}
use Rattle.cse_dict.specs.Fields.{columns_of, type_columns_of}
use Rattle.cse_dict.specs.declared.keys.Kind.{Kind}
use Rattle.cse_dict.specs.declared.keys.Kind.TheVariants.{Dictionary, Level, IdItems, Record, Item, ValueSet, Other}
use Rattle.cse_dict.specs.declared.keys.DataType.TheVariants.{Numeric}
use Rattle.cse_dict.specs.declared.field.Columns.{Columns}
use Rattle.cse_dict.specs.declared.context.Context.{Context}
use Rattle.cse_dict.specs.declared.context.Owner.{Owner}
use Rattle.cse_dict.specs.declared.context.Owner.TheVariants.{Nobody, Ids, OfRecord}

-- Items belong to the case or to a record, by the section `[IdItems]` or `[Record]` that stands last before them.
abbrev pub owner_by_kind : Kind → Owner → SectionText → Owner
owner_by_kind IdItems owner section = Ids
owner_by_kind Record owner section = OfRecord (number_in 1 65535 (entry_of (codes "RecordLen") section))
owner_by_kind Dictionary owner section = owner
owner_by_kind Level owner section = owner
owner_by_kind Item owner section = owner
owner_by_kind ValueSet owner section = owner
owner_by_kind Other owner section = owner

unfoldable pub owner_after : Owner → SectionText → Owner
owner_after owner section = owner_by_kind (kind_of section.heading) owner section

abbrev pub is_ids : Owner → Bool
is_ids Nobody = false
is_ids Ids = true
is_ids (OfRecord room) = false

abbrev pub is_in_record : Owner → Bool
is_in_record Nobody = false
is_in_record Ids = false
is_in_record (OfRecord room) = true

-- the counts of records, id items, items and sets, each up to one past its limit; the owner; and the type of the last item
abbrev pub context_by_kind : Kind → Context → SectionText → Context
context_by_kind IdItems c section = record c { owner = owner_after c.owner section }
context_by_kind Record c section = record c { owner = owner_after c.owner section; records = one_more 200 c.records }
context_by_kind Item c section =
    record c { ids = if is_ids c.owner then one_more 50 c.ids else c.ids; items = one_more 10000 c.items; data_type = data_type_of section }
context_by_kind ValueSet c section = record c { sets = one_more 10000 c.sets }
context_by_kind Dictionary c section = c
context_by_kind Level c section = c
context_by_kind Other c section = c

unfoldable pub context_after : Context → SectionText → Context
context_after c section = context_by_kind (kind_of section.heading) c section

abbrev pub no_context : Context
no_context = record { owner = Nobody; records = 0; ids = 0; items = 0; sets = 0; data_type = Numeric }

-- the columns of an id item
abbrev pub id_columns_by_kind : Kind → Owner → SectionText → List Columns
id_columns_by_kind Item owner section = if is_ids owner then option_to_list (columns_of section) else []
id_columns_by_kind IdItems owner section = []
id_columns_by_kind Record owner section = []
id_columns_by_kind Dictionary owner section = []
id_columns_by_kind Level owner section = []
id_columns_by_kind ValueSet owner section = []
id_columns_by_kind Other owner section = []

unfoldable pub id_columns_at : Owner → SectionText → List Columns
id_columns_at owner section = id_columns_by_kind (kind_of section.heading) owner section

abbrev pub id_columns_from : Owner → List SectionText → List Columns
id_columns_from owner [] = []
id_columns_from owner (s ∷ ss) = id_columns_at owner s ++ id_columns_from (owner_after owner s) ss

-- the columns of the record type and of all id items, wherever they stand
unfoldable pub covered_by : SectionText → List SectionText → List Columns
covered_by first rest = option_to_list (type_columns_of first) ++ id_columns_from Nobody rest
