-- Columns as they are kept: a byte for each, and characters beside the bytes, as far as there are some beyond ASCII.
use Rattle.std.specs.Prelude.{◌≡◌, ◌≤◌, ℕ, cond, ltb, List, [], ◌∷◌, ◌++◌, length, drop, vec_capacity}
use Rattle.cse_case.specs.declared.columns.Columns.{Columns}
use Rattle.cse_case.specs.declared.columns.OwnColumns.{OwnColumns}

-- a column: its byte, where that is ASCII, and else the character beside it
abbrev pub column_by : ℕ → ℕ → ℕ
column_by byte beside = cond (ltb byte 128) byte beside

-- the columns of so many bytes; one beside which nothing stands is its byte
unfoldable pub columns_by : List ℕ → List ℕ → List ℕ
columns_by [] beside = []
columns_by (byte ∷ bytes) [] = byte ∷ columns_by bytes []
columns_by (byte ∷ bytes) (c ∷ beside) = column_by byte c ∷ columns_by bytes beside

-- these are the bytes of the columns
abbrev pub AreBytesOf : List ℕ → List ℕ → Type 0
AreBytesOf columns bytes = (beside : List ℕ) × (columns ≡ columns_by bytes beside)

-- the columns that are kept so
abbrev pub columns_in : OwnColumns → List ℕ
columns_in own = columns_by own.bytes.items own.beside.items

-- there is memory for a character beside each byte, so that one can be put there without more
abbrev pub HasRoom : OwnColumns → Type 0
HasRoom own = length own.bytes.items ≤ vec_capacity own.beside

-- what stands beside bytes, and behind it these bytes as characters
abbrev pub reaching : List ℕ → List ℕ → List ℕ
reaching bytes beside = beside ++ drop (length beside) bytes

-- what stands beside the bytes of columns that are lent, and the columns
abbrev pub beside_lent : Columns → List ℕ
beside_lent lent = drop lent.first lent.beside.now

abbrev pub columns_lent : Columns → List ℕ
columns_lent lent = columns_by lent.bytes.now (beside_lent lent)
