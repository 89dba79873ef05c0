-- How much an image may have of each thing.
use Rattle.std.specs.Prelude.{ℕ}

abbrev pub most_records : ℕ
most_records = 200

abbrev pub most_items : ℕ
most_items = 10000

abbrev pub most_sets : ℕ
most_sets = 10000

-- entries of the records' edit order
abbrev pub most_order : ℕ
most_order = 200

abbrev pub most_constants : ℕ
most_constants = 65536

-- entries of the table of limits
abbrev pub most_limits : ℕ
most_limits = 65536

abbrev pub most_texts : ℕ
most_texts = 65536

abbrev pub most_globals : ℕ
most_globals = 65536

abbrev pub most_arrays : ℕ
most_arrays = 4096

abbrev pub most_messages : ℕ
most_messages = 65536

abbrev pub most_routines : ℕ
most_routines = 4096

abbrev pub most_events : ℕ
most_events = 50000

-- dimensions of one array
abbrev pub most_dimensions : ℕ
most_dimensions = 3

-- cells of all arrays together
abbrev pub most_cells : ℕ
most_cells = 1000000

-- instructions of all routines together
abbrev pub most_instructions : ℕ
most_instructions = 1000000

-- characters of a text, of a message and of the value of a text variable
abbrev pub most_characters : ℕ
most_characters = 255

-- characters of an array's name, each of which is one byte
abbrev pub most_name_bytes : ℕ
most_name_bytes = 32

-- placeholders of one message that take an argument
abbrev pub most_placeholders : ℕ
most_placeholders = 16
