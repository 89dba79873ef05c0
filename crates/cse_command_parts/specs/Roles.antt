-- The files of a command: what each is to it, and what is done with it.
use Rattle.std.specs.Prelude.{ℕ, Bool, true, false, List, [], ◌∷◌, ◌++◌, Option, None, Some, codes}
use Rattle.std.specs.Borrow.{Bor}
use Rattle.cse_command_parts.specs.declared.role.Role.{Role}
use Rattle.cse_command_parts.specs.declared.role.Role.TheVariants.{Dictionary, Image, Logic, Messages, Order, Data, Out, Listing, Frequencies, Decks}
use Rattle.cse_command_parts.specs.declared.role.Use.{Use}
use Rattle.cse_command_parts.specs.declared.plan.CompilePaths.{CompilePaths}
use Rattle.cse_command_parts.specs.declared.plan.EditPaths.{EditPaths}
use Rattle.cse_command_parts.specs.declared.plan.RunPaths.{RunPaths}

-- the word that the usage has for it
abbrev pub word_of : Role → List ℕ
word_of Dictionary = codes "DICT"
word_of Image = codes "IMAGE"
word_of Logic = codes "LOGIC"
word_of Messages = codes "--messages"
word_of Order = codes "--order"
word_of Data = codes "DATA"
word_of Out = codes "OUT"
word_of Listing = codes "LIST"
word_of Frequencies = codes "FREQ"
word_of Decks = codes "--decks"

-- a file that is read
abbrev pub reads : Role → Bor (List ℕ) → Use
reads role path = record { role = role; path = path; is_read = true; is_written = false }

-- a file that is written
abbrev pub writes : Role → Bor (List ℕ) → Use
writes role path = record { role = role; path = path; is_read = false; is_written = true }

-- a file that is read, if it is named
abbrev pub reads_named : Role → Option (Bor (List ℕ)) → List Use
reads_named role None = []
reads_named role (Some path) = reads role path ∷ []

-- the deck file, which is read and then written, if it is named
abbrev pub keeps_decks : Option (Bor (List ℕ)) → List Use
keeps_decks None = []
keeps_decks (Some path) = record { role = Decks; path = path; is_read = true; is_written = true } ∷ []

-- the data file, the outputs and the deck file
abbrev pub edited_uses : RunPaths → List Use
edited_uses p = reads Data p.«data» ∷ writes Out p.out ∷ writes Listing p.list ∷ writes Frequencies p.freq ∷ keeps_decks p.decks

-- ---- the files of a command

abbrev pub compile_uses : CompilePaths → List Use
compile_uses p =
    reads Dictionary p.dict ∷ reads Logic p.logic ∷ writes Image p.image ∷ (reads_named Messages p.messages ++ reads_named Order p.order)

abbrev pub run_uses : RunPaths → List Use
run_uses p = reads Dictionary p.dict ∷ reads Image p.image ∷ edited_uses p

abbrev pub edit_uses : EditPaths → List Use
edit_uses p =
    reads Dictionary p.run.dict ∷ reads Logic p.logic ∷ (edited_uses p.run ++ (reads_named Messages p.messages ++ reads_named Order p.order))
