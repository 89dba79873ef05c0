-- What the words of a command line ask for.
use Rattle.std.specs.Prelude.{◌≡◌, ℕ, Bool, true, false, List, [], ◌∷◌, ◌++◌, Result, Ok, Option, None, Some, codes, option_map}
use Rattle.std.specs.Borrow.{Bor}
use Rattle.std.specs.List.{fold}
use Rattle.std.specs.Str.Parse.{ParsesUnsigned}
use Rattle.clap.specs.Words.{App, Row, Rule, Text, app_of, first_of, new_app, new_rule, one_of, subcommand_of, with_rule, with_subcommand}
use Rattle.clap.specs.Simple.{on_top}
use Rattle.clap.specs.declared.builder.ArgAction.TheVariants.{Set, SetTrue}
use Rattle.clap.specs.declared.builder.command.Command.{Command as Clap}
use Rattle.clap.specs.declared.builder.command.Command.TheViews.{out-Command as fields_of}
use Rattle.cse_command_parts.specs.declared.words.Word.{Word}
use Rattle.cse_command_parts.specs.declared.words.Word.TheVariants as words
use Rattle.cse_command_parts.specs.declared.plan.Command.{Command}
use Rattle.cse_command_parts.specs.declared.plan.Command.TheVariants as commands
use Rattle.cse_command_parts.specs.declared.plan.CompilePaths.{CompilePaths}
use Rattle.cse_command_parts.specs.declared.plan.EditPaths.{EditPaths}
use Rattle.cse_command_parts.specs.declared.plan.RunPaths.{RunPaths}

-- ---- the words of all commands

-- a word that has to be given
abbrev pub given : Text → Rule
given name = record (new_rule name) { required = true; action = Some Set }

-- a word that may be given after its name
abbrev pub named : Text → Rule
named name = record (new_rule name) { long = Some name; action = Some Set }

-- a name that may be given
abbrev pub flag : Text → Rule
flag name = record (new_rule name) { long = Some name; action = Some SetTrue }

abbrev pub with_rules : App → List Rule → App
with_rules = fold with_rule

abbrev pub try_words : App
try_words = with_rules (new_app (codes "try")) (given (codes "IMAGE") ∷ [])

abbrev pub verify_words : App
verify_words = with_rules (new_app (codes "verify")) (given (codes "DICT") ∷ given (codes "IMAGE") ∷ [])

abbrev pub compile_words : App
compile_words = with_rules (new_app (codes "compile"))
    (given (codes "DICT") ∷ given (codes "LOGIC") ∷ given (codes "IMAGE") ∷ named (codes "messages") ∷ named (codes "order") ∷ [])

-- the outputs of `run` and `edit`, and before the options what `edit` has of its own
abbrev pub with_outputs : List Rule → List Rule
with_outputs own =
    given (codes "DATA") ∷ given (codes "OUT") ∷ given (codes "LIST") ∷ given (codes "FREQ")
    ∷ (own ++ named (codes "decks") ∷ named (codes "case-steps") ∷ flag (codes "sync") ∷ flag (codes "quiet") ∷ [])

abbrev pub run_words : App
run_words = with_rules (new_app (codes "run")) (given (codes "DICT") ∷ given (codes "IMAGE") ∷ with_outputs [])

abbrev pub edit_words : App
edit_words = with_rules (new_app (codes "edit"))
    (given (codes "DICT") ∷ given (codes "LOGIC") ∷ with_outputs (named (codes "messages") ∷ named (codes "order") ∷ []))

abbrev pub bare : App
bare = on_top (λ s. record s { no_binary_name = true }) (new_app (codes "csbatch"))

unfoldable pub program : App
program = fold (λ a w. with_subcommand a w.top) bare (try_words ∷ verify_words ∷ compile_words ∷ run_words ∷ edit_words ∷ [])

-- the library has these words
pub record AreWords (a : App) (c : Clap) : Type 0 where
  pub app : app_of c ≡ a
  pub local : (fields_of c).has_globals ≡ false

-- a word, as the library has it
abbrev pub rule_of_word : Word → Rule
rule_of_word (words.Given name) = given name.now
rule_of_word (words.Named name) = named name.now
rule_of_word (words.Flag name) = flag name.now

abbrev pub with_word : App → Word → App
with_word a word = with_rule a (rule_of_word word)

-- a command more, of this name and these words
abbrev pub with_row : App → Bor Text × Bor (List Word) → App
with_row a row = with_subcommand a (fold with_word (new_app row.0.now) row.1.now).top

-- ---- what is asked

-- a word is the one of this name
abbrev pub IsGiven : List Row → Text → Bor (List ℕ) → Type 0
IsGiven rows name word = first_of name rows ≡ Some word.now

-- the same of a word that may be lacking
abbrev pub MayBeGiven : List Row → Text → Option (Bor (List ℕ)) → Type 0
MayBeGiven rows name word = first_of name rows ≡ option_map (λ s. s.now) word

-- a number is what the word spells, if there is one
abbrev pub MayBeNumber : Option Text → Option ℕ → Type 0
MayBeNumber None None = Unit {0}
MayBeNumber None (Some number) = ⊥
MayBeNumber (Some word) None = ⊥
MayBeNumber (Some word) (Some number) = ParsesUnsigned {E = Unit {0}} 64 10 word (Ok number)

-- a name is given, or not
abbrev pub IsFlag : List Row → Text → Bool → Type 0
IsFlag rows name is_set = (one_of name rows ≡ Some (codes "true") → is_set ≡ true) × (one_of name rows ≡ Some (codes "false") → is_set ≡ false)

-- The files are those of these names, but for the image.
pub record AreRunPaths (rows : List Row) (p : RunPaths) : Type 0 where
  pub dict : IsGiven rows (codes "DICT") p.dict
  pub input : IsGiven rows (codes "DATA") p.«data»
  pub out : IsGiven rows (codes "OUT") p.out
  pub list : IsGiven rows (codes "LIST") p.list
  pub freq : IsGiven rows (codes "FREQ") p.freq
  pub decks : MayBeGiven rows (codes "decks") p.decks
  pub case_steps : MayBeNumber (first_of (codes "case-steps") rows) p.case_steps
  pub sync : IsFlag rows (codes "sync") p.sync
  pub quiet : IsFlag rows (codes "quiet") p.quiet

-- a command is that of this name and these words
abbrev pub IsCommandOf : List Row → Text → Command → Type 0
IsCommandOf rows name (commands.Try image) = (name ≡ codes "try") × IsGiven rows (codes "IMAGE") image
IsCommandOf rows name (commands.Verify dict image) = (name ≡ codes "verify") × IsGiven rows (codes "DICT") dict × IsGiven rows (codes "IMAGE") image
IsCommandOf rows name (commands.Compile p) = (name ≡ codes "compile") × IsGiven rows (codes "DICT") p.dict × IsGiven rows (codes "LOGIC") p.logic
    × IsGiven rows (codes "IMAGE") p.image × MayBeGiven rows (codes "messages") p.messages × MayBeGiven rows (codes "order") p.order
IsCommandOf rows name (commands.Run p) = (name ≡ codes "run") × IsGiven rows (codes "IMAGE") p.image × AreRunPaths rows p
IsCommandOf rows name (commands.Edit p) = (name ≡ codes "edit") × IsGiven rows (codes "LOGIC") p.logic × MayBeGiven rows (codes "messages") p.messages
    × MayBeGiven rows (codes "order") p.order × AreRunPaths rows p.run
IsCommandOf rows name commands.Version = ⊥

abbrev pub IsEntered : Option (Text × List Row) → Command → Type 0
IsEntered None c = ⊥
IsEntered (Some found) c = IsCommandOf found.1 found.0 c

-- a command is what the words ask for
abbrev pub IsAsked : List Text → Command → Type 0
IsAsked words commands.Version = words ≡ codes "--version" ∷ []
IsAsked words (commands.Try image) = IsEntered (subcommand_of program words) (commands.Try image)
IsAsked words (commands.Verify dict image) = IsEntered (subcommand_of program words) (commands.Verify dict image)
IsAsked words (commands.Compile p) = IsEntered (subcommand_of program words) (commands.Compile p)
IsAsked words (commands.Run p) = IsEntered (subcommand_of program words) (commands.Run p)
IsAsked words (commands.Edit p) = IsEntered (subcommand_of program words) (commands.Edit p)
