-- The words of the commands, and what they ask for.
use Rattle.std.proofs.Common.{◌≡◌, ◌∙◌, ◌<◌, ◌+◌, ◌||◌, ap, ap₂, sym, subst, refl, ℕ, Bool, true, false, List, [], ◌∷◌, Option, None, Some, length, take, option_map, codes, Result, IfOk}
use Rattle.std.specs.Prelude.{slice_index_or, unwrap_or}
use Rattle.std.specs.List.{fold}
use Rattle.std.proofs.lemmas.List.Sums.{fold_more}
use Rattle.std.proofs.lemmas.Result.{IfOk-weaker}
use Rattle.clap.specs.Words.{AddsArg, AddsSubcommand, App, HasMatchesOf, Row, Rule, Text, app_of, first_value, found_of, one_text, is_simple, new_app, rows_of, rule_of, subcommand_name_of, subcommand_of, subcommand_rows, subcommand_rows_of, with_rule, with_subcommand}
use Rattle.clap.specs.declared.builder.arg.Arg.{Arg}
use Rattle.clap.specs.declared.builder.command.Command.{Command as Clap}
use Rattle.clap.specs.declared.parser.matches.ArgMatches.{ArgMatches}
use Rattle.clap.specs.declared.parser.matches.ArgMatches.TheViews.{out-ArgMatches}
use Rattle.clap.proofs.OnLiterals.{clap_on_literals}
use Rattle.clap.proofs.WalkLemmas.{first_value-rows, one_text-rows}
use Rattle.std.specs.Borrow.{Bor}
use Rattle.cse_command_parts.specs.declared.plan.Command.{Command}
use Rattle.cse_command_parts.specs.declared.plan.PlanFault.{PlanFault}
use Rattle.cse_command_parts.specs.declared.plan.Command.TheVariants as commands
use Rattle.cse_command_parts.specs.declared.words.Word.{Word}
use Rattle.cse_command_parts.specs.Words.{AreWords, IsAsked, IsCommandOf, IsEntered, IsFlag, IsGiven, MayBeGiven, bare, program, rule_of_word, with_row, with_word}

-- ---- the words of all commands

adds_word : (old new : Clap) (arg : Arg) (a : App) (word : Word) → AddsArg old arg new → AreWords a old → rule_of arg ≡ rule_of_word word → arg.global ≡ false
    → AreWords (with_word a word) new
adds_word old new arg a word add are rule local = record {
  app = add.shape local ∙ ap₂ with_rule are.app rule;
  local = add.globals ∙ ap₂ (λ (x y : Bool). x || y) are.local local;
}

pub next_word : (old new : Clap) (arg : Arg) (a : App) (words : List Word) (i : ℕ) (d : Word) → i < length words → AddsArg old arg new
    → AreWords (fold with_word a (take i words)) old → rule_of arg ≡ rule_of_word (slice_index_or words i d) → arg.global ≡ false
    → AreWords (fold with_word a (take (i + 1) words)) new
next_word old new arg a words i d below add are rule local =
    subst (λ (x : App). AreWords x new) (sym (fold_more with_word a words i d below))
    (adds_word old new arg (fold with_word a (take i words)) (slice_index_or words i d) add are rule local)

adds_command : (old sub new : Clap) (a s : App) → AddsSubcommand old sub new → AreWords a old → AreWords s sub → AreWords (with_subcommand a s.top) new
adds_command old sub new a s add are own = record {
  app = add.shape own.local ∙ ap₂ with_subcommand are.app (ap (λ (x : App). x.top) own.app);
  local = add.globals ∙ ap₂ (λ (x y : Bool). x || y) are.local own.local;
}

pub next_command : (old sub new : Clap) (rows : List (Bor Text × Bor (List Word))) (i : ℕ) (d : Bor Text × Bor (List Word)) → i < length rows → AddsSubcommand old sub new
    → AreWords (fold with_row bare (take i rows)) old → AreWords (fold with_word (new_app (slice_index_or rows i d).0.now) (slice_index_or rows i d).1.now) sub
    → AreWords (fold with_row bare (take (i + 1) rows)) new
next_command old sub new rows i d below add are own =
    subst (λ (x : App). AreWords x new) (sym (fold_more with_row bare rows i d below)) (adds_command old sub new _ _ add are own)

-- ---- what is asked

pub word_is : (m : ArgMatches) (name : Text) (found : Option (Bor Text)) → option_map (λ s. s.now) found ≡ first_value (found_of m) name
    → MayBeGiven (rows_of (found_of m)) name found
word_is m name found is = sym (is ∙ first_value-rows (found_of m) name)

pub given_is : (m : ArgMatches) (name : Text) (found : Option (Bor Text)) (word : Bor Text) → found ≡ Some word
    → option_map (λ s. s.now) found ≡ first_value (found_of m) name → IsGiven (rows_of (found_of m)) name word
given_is m name found word there is = subst (λ (f : Option (Bor Text)). MayBeGiven (rows_of (found_of m)) name f) there (word_is m name found is)

pub flag_is : (m : ArgMatches) (name : Text) (is_set : Bool) → (one_text (found_of m) name ≡ Some (codes "true") → is_set ≡ true)
    → (one_text (found_of m) name ≡ Some (codes "false") → is_set ≡ false) → IsFlag (rows_of (found_of m)) name is_set
flag_is m name is_set set unset = (λ p. set (one_text-rows (found_of m) name ∙ p), λ p. unset (one_text-rows (found_of m) name ∙ p))

is_simple_program : is_simple program ≡ true
unfolding program clap_on_literals
is_simple_program = refl

never : (found : Option (Text × List Row)) → IsEntered found commands.Version → ⊥
never None entered = entered
never (Some p) entered = entered

pub asked : (words : List Text) (m : ArgMatches) (c : Command) → HasMatchesOf program words m → IsEntered (subcommand_rows_of m) c → IsAsked words c
asked words m (commands.Try image) has entered = subst (λ found. IsEntered found (commands.Try image)) ((has is_simple_program).1) entered
asked words m (commands.Verify dict image) has entered = subst (λ found. IsEntered found (commands.Verify dict image)) ((has is_simple_program).1) entered
asked words m (commands.Compile p) has entered = subst (λ found. IsEntered found (commands.Compile p)) ((has is_simple_program).1) entered
asked words m (commands.Run p) has entered = subst (λ found. IsEntered found (commands.Run p)) ((has is_simple_program).1) entered
asked words m (commands.Edit p) has entered = subst (λ found. IsEntered found (commands.Edit p)) ((has is_simple_program).1) entered
asked words m commands.Version has entered = absurd (never (subcommand_rows_of m) entered)

names_of : {B : Type 0} (g : B → Text × List Row) (o : Option B) → option_map (λ (p : Text × List Row). p.0) (option_map g o) ≡ option_map (λ b. (g b).0) o
names_of g None = refl
names_of g (Some b) = refl

join : (o : Option (Text × List Row)) (name : Text) (rows : List Row) → option_map (λ (p : Text × List Row). p.0) o ≡ Some name
    → option_map (λ (p : Text × List Row). p.1) o ≡ Some rows → o ≡ Some (name, rows)
join None name rows p q = cc
join (Some x) name rows p q = ap₂ (λ (s : Text) (t : List Row). Some (s, t)) (ap (λ (o : Option Text). unwrap_or o x.0) p) (ap (λ (o : Option (List Row)). unwrap_or o x.1) q)

pub entered_at : (m : ArgMatches) (name : Text) (rows : List Row) → subcommand_name_of m ≡ Some name
    → option_map (λ (p : Text × List Row). p.1) (subcommand_rows (out-ArgMatches m).subcommand) ≡ Some rows → subcommand_rows_of m ≡ Some (name, rows)
entered_at m name rows p q = join (subcommand_rows_of m) name rows (names_of _ (out-ArgMatches m).subcommand ∙ p) q

pub is_entered : (m : ArgMatches) (name : Text) (rows : List Row) (c : Command) → subcommand_name_of m ≡ Some name
    → option_map (λ (p : Text × List Row). p.1) (subcommand_rows (out-ArgMatches m).subcommand) ≡ Some rows → IsCommandOf rows name c → IsEntered (subcommand_rows_of m) c
is_entered m name rows c p q is = subst (λ found. IsEntered found c) (sym (entered_at m name rows p q)) is

-- the same, of what the library answers of a subcommand
pub entered_by : (m : ArgMatches) (r : Option (Bor Text × Bor ArgMatches)) (word : Bor Text) (sub : Bor ArgMatches) (name : Text) (result : Result Command PlanFault)
    → r ≡ Some (word, sub) → word.now ≡ name
    → option_map (λ (p : Bor Text × Bor ArgMatches). p.0.now) r ≡ subcommand_name_of m
    → option_map (λ (p : Bor Text × Bor ArgMatches). rows_of (found_of p.1.now)) r ≡ option_map (λ (p : Text × List Row). p.1) (subcommand_rows (out-ArgMatches m).subcommand)
    → IfOk result (IsCommandOf (rows_of (found_of sub.now)) name) → IfOk result (IsEntered (subcommand_rows_of m))
entered_by m r word sub name result there named names rows is =
    let p : subcommand_name_of m ≡ Some name = sym names ∙ ap (option_map (λ (q : Bor Text × Bor ArgMatches). q.0.now)) there ∙ ap Some named in
    let q : option_map (λ (p : Text × List Row). p.1) (subcommand_rows (out-ArgMatches m).subcommand) ≡ Some (rows_of (found_of sub.now)) =
    sym rows ∙ ap (option_map (λ (q : Bor Text × Bor ArgMatches). rows_of (found_of q.1.now))) there in
    IfOk-weaker result _ _ (λ c of. is_entered m name (rows_of (found_of sub.now)) c p q of) is
