-- Tables that have no entry yet.
use Rattle.std.specs.Prelude.{[]}
use Rattle.cse_image_parts.specs.Image.{Lists}

-- tables without an entry
abbrev pub no_lists : Lists
no_lists = record { records = []; items = []; sets = []; order = []; constants = []; limits = []; texts = []; globals = []; arrays = []; messages = []; routines = []; events = [] }
