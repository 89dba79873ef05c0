-- Worked rows: batches with an empty program.
use Rattle.std.specs.Prelude.{◌≡◌, ℕ, Bool, true, false, List, [], ◌∷◌, ◌++◌, codes, None}
use Rattle.cse_value.specs.declared.shape.ItemKind.TheVariants.{Number}
use Rattle.cse_value.specs.declared.shape.ItemShape.{ItemShape}
use Rattle.cse_value.specs.declared.shape.RecordShape.{RecordShape}
use Rattle.cse_dict.specs.Dictionary.{DictionaryText}
use Rattle.cse_decks.specs.Store.{Kept}
use Rattle.cse_value.specs.Gathering.{line}
use Rattle.cse_verify.specs.Verified.{VerifiedProgram}
use Rattle.cse_batch_parts.specs.Batch.{Batch, batch}

-- persons in households: the type in column 1, the household in columns 2 to 4, two persons at most
abbrev pub person : RecordShape
person = record { max_records = 2; record_len = 12 }

abbrev pub household : ItemShape
household = record { owner = 255; kind = Number; len = 3; start = 2 }

abbrev pub persons : DictionaryText
persons = record {
  name = codes "D";
  level_name = codes "Q";
  type_columns = record { start = 1; len = 1 };
  records = record { name = codes "PERSON"; record_type = codes "P"; shape = person } ∷ [];
  items = record { name = codes "HH"; shape = household; zero_fill = true; code = None } ∷ [];
  sets = [];
}

abbrev pub empty_program : VerifiedProgram
empty_program = record {
  dictionary = persons;
  image = record {
    lists = record {
      records = person ∷ [];
      items = household ∷ [];
      sets = [];
      order = 0 ∷ [];
      constants = [];
      limits = [];
      texts = [];
      globals = [];
      arrays = [];
      messages = [];
      routines = [];
      events = [];
    };
    code = [];
  };
}

abbrev pub nothing_kept : Kept
nothing_kept = record { globals = []; arrays = [] }

-- four lines of one household: a person, a person, a line of no record, and a person too many
abbrev pub four_lines : List ℕ
four_lines = line (codes "P00111 35") ++ line (codes "P00121 30") ++ line (codes "X001") ++ line (codes "P00131  5")

abbrev pub run_over : List ℕ → Bool → Batch
run_over bytes ended = batch empty_program nothing_kept bytes ended

pub record AreWorked : Type 0 where
  pub lines_stay : (run_over four_lines true).out ≡ four_lines
  pub listing : (run_over four_lines true).listing
      ≡ line (codes "CSEB LISTING 1") ++ line (codes "CASE [001]") ++ line (codes "U 3 unknown") ++ line (codes "U 4 extra") ++ line (codes "SUMMARY") ++ line (codes "cases 1") ++ line (codes "lines 4") ++ line (codes "unseen 2") ++ line (codes "END")
  pub nothing_imputed : (run_over four_lines true).frequencies ≡ line (codes "CSEB FREQUENCIES 1") ++ line (codes "END")
  pub no_decks : (run_over four_lines true).decks ≡ line (codes "CSEB DECKS 1") ++ line (codes "END")
  pub broken_off : (run_over four_lines false).out ≡ []
  pub no_summary : (run_over four_lines false).listing ≡ line (codes "CSEB LISTING 1")
