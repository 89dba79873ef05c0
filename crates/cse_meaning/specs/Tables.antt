-- The compiler's table of events says of each event what the meaning says.
use Rattle.std.specs.Prelude.{◌≡◌, ◌==◌, Bool, ◌&&◌, find, Option, option_map}
use Rattle.cse_image_parts.specs.Codes.{event_code}
use Rattle.cse_image_parts.specs.declared.entries.Event.{Event}
use Rattle.cse_logic_tree.specs.Typed.{Tree}
use Rattle.cse_compile.specs.Outline.{Handler, handlers_in}
use Rattle.cse_meaning.specs.Meaning.{statements_of}

abbrev pub is_same_event : Event → Event → Bool
is_same_event a b = (event_code a.code == event_code b.code) && (a.index == b.index)

-- what the table has of an event
abbrev pub in_table : Tree → Event → Option Handler
in_table t e = find (λ (x : Handler). is_same_event x.event e) (handlers_in t.procedures)

-- Its statements are those that the meaning has.
abbrev pub TablesAgree : Type 0
TablesAgree = (t : Tree) (e : Event) → statements_of t e ≡ option_map (λ (x : Handler). x.outline.body) (in_table t e)
