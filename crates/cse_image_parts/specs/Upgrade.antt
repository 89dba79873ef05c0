-- What a program of version 1 means. It is written as an image whose table of limits is empty: the b of
-- a counting loop is how many turns the loop may take, from 1.
use Rattle.std.specs.Prelude.{ℕ, ◌-◌, List, [], ◌∷◌, map, nat_lt, if◌then◌else◌}
use Rattle.std.specs.List.{range_with_len}
use Rattle.cse_image_parts.specs.declared.instruction.Instr.{Instr}
use Rattle.cse_image_parts.specs.Image.{Lists, Image}
use Rattle.cse_image_parts.specs.Versions.{is_counting}

abbrev pub greater : ℕ → ℕ → ℕ
greater a b = if nat_lt a b then b else a

-- the limit that an instruction of version 1 holds, and 0 where it holds none
abbrev pub own_limit : Instr → ℕ
own_limit x = if is_counting x.op then x.b else 0

-- the greatest limit that the code holds, and 0 where it holds none
unfoldable pub greatest_limit : List Instr → ℕ
greatest_limit [] = 0
greatest_limit (x ∷ xs) = greater (own_limit x) (greatest_limit xs)

-- 1, 2, .. up to n
unfoldable pub one_to : ℕ → List ℕ
one_to n = range_with_len 1 n

-- 0, 1, 2, .. below n
unfoldable pub zero_below : ℕ → List ℕ
zero_below n = range_with_len 0 n

-- the b of a counting loop becomes the place of its limit
abbrev pub upgrade_instr : Instr → Instr
upgrade_instr x = if is_counting x.op then record { op = x.op; a = x.a; b = x.b - 1; c = x.c } else x

abbrev pub with_limits : List ℕ → Lists → Lists
with_limits limits x = record {
  records = x.records;
  items = x.items;
  sets = x.sets;
  order = x.order;
  constants = x.constants;
  limits = limits;
  texts = x.texts;
  globals = x.globals;
  arrays = x.arrays;
  messages = x.messages;
  routines = x.routines;
  events = x.events;
}

-- The program of version 2: its limits are 1, 2, .. up to the greatest that the code holds, and each
-- counting loop names its limit by the place, which is one less.
abbrev pub upgrade : Image → Image
upgrade x = record { lists = with_limits (one_to (greatest_limit x.code)) x.lists; code = map upgrade_instr x.code }

-- What the program of version 1 means, its code as it stands: each limit stands at its own place.
abbrev pub as_it_stands : Image → Image
as_it_stands x = record { lists = with_limits (zero_below 65536) x.lists; code = x.code }
