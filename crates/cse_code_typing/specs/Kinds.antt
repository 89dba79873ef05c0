-- Kinds, and abstract stacks: the kinds of what lies on the stack, the topmost first.
use Rattle.std.specs.Prelude.{ℕ, Bool, true, false, nat_eq, if◌then◌else◌, List, [], ◌∷◌, Option, None, Some}
use Rattle.cse_image_parts.specs.declared.placeholders.ArgumentKind.{ArgumentKind}
use Rattle.cse_image_parts.specs.declared.placeholders.ArgumentKind.TheVariants as arguments
use Rattle.cse_image_parts.specs.declared.entries.GlobalKind.{GlobalKind}
use Rattle.cse_image_parts.specs.declared.entries.GlobalKind.TheVariants as globals
use Rattle.cse_image_parts.specs.declared.entries.LocalKind.{LocalKind}
use Rattle.cse_image_parts.specs.declared.entries.LocalKind.TheVariants as locals
use Rattle.cse_image_parts.specs.declared.entries.Local.{Local}
use Rattle.cse_image_parts.specs.declared.entries.Gift.{Gift}
use Rattle.cse_image_parts.specs.declared.entries.Gift.TheVariants as gifts
use Rattle.cse_code_typing.specs.declared.kind.Kind.{Kind}
use Rattle.cse_code_typing.specs.declared.kind.Kind.TheVariants.{Number, Text, Index, Occurrence}

abbrev pub same_kind : Kind → Kind → Bool
same_kind Number Number = true
same_kind Text Text = true
same_kind (Index n) (Index m) = nat_eq n m
same_kind (Occurrence r) (Occurrence s) = nat_eq r s
same_kind Number Text = false
same_kind Number (Index m) = false
same_kind Number (Occurrence s) = false
same_kind Text Number = false
same_kind Text (Index m) = false
same_kind Text (Occurrence s) = false
same_kind (Index n) Number = false
same_kind (Index n) Text = false
same_kind (Index n) (Occurrence s) = false
same_kind (Occurrence r) Number = false
same_kind (Occurrence r) Text = false
same_kind (Occurrence r) (Index m) = false

-- the stack below these kinds, the topmost first, where they stand on it
abbrev pub below : List Kind → List Kind → Option (List Kind)
below [] stack = Some stack
below (kind ∷ kinds) [] = None
below (kind ∷ kinds) (k ∷ stack) = if same_kind kind k then below kinds stack else None

abbrev pub top_of : List Kind → Option Kind
top_of [] = None
top_of (k ∷ stack) = Some k

-- the kind of a message's argument
abbrev pub argument_kind : ArgumentKind → Kind
argument_kind arguments.Number = Number
argument_kind arguments.Text = Text

abbrev pub global_kind : GlobalKind → Kind
global_kind globals.Number = Number
global_kind globals.Text = Text

-- a local that is an occurrence tells its record
abbrev pub kind_by : LocalKind → ℕ → Kind
kind_by locals.Number owner = Number
kind_by locals.Text owner = Text
kind_by locals.Occurrence owner = Occurrence owner

abbrev pub local_kind : Local → Kind
local_kind x = kind_by x.kind x.owner

-- what a call leaves
abbrev pub gift_kinds : Gift → List Kind
gift_kinds gifts.Nothing = []
gift_kinds gifts.Number = Number ∷ []
gift_kinds gifts.Text = Text ∷ []
