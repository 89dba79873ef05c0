-- What holds of a reader of cases between calls.
use Rattle.std.specs.Prelude.{◌≡◌, ◌≤◌, ◌*◌, ◌^◌, Option, None}
use Rattle.cse_dict.specs.Dictionary.{DictionaryText}
use Rattle.cse_case.specs.declared.error.DataError.{DataError}
use Rattle.cse_case.specs.Reader.{ReaderText}

-- Its runs are read by its dictionary, and a reader without an error has one of runs without an error. Its reads are few, and so are its lines.
pub record IsSound (runs : ReaderText) (dictionary : DictionaryText) (error : Option DataError) : Type 0 where
  pub same : runs.dictionary ≡ dictionary
  pub sound : error ≡ None → runs.error ≡ None
  pub few_reads : runs.reads ≤ 2 ^ 40
  pub few_lines : runs.lines ≤ 2 ^ 40 * 65536
