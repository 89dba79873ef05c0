-- What is built does what the logic means.
use Rattle.std.proofs.Common.{◌≡◌, ℕ, List, [], ◌++◌, refl, sym, ap, ◌∙◌, subst}
use Rattle.std.specs.Prelude.{Result, Ok, Err, IfOk}
use Rattle.std.proofs.Math.Logic.{∥∥₁_elim, ∥∥₁_map, ∥∥₁_prop}
use Rattle.std.proofs.lemmas.List.{append-nil}
use Rattle.cse_image_parts.specs.declared.version.Version.{Version}
use Rattle.cse_image_parts.specs.declared.version.Version.TheVariants as versions
use Rattle.cse_image_parts.specs.Image.{Image}
use Rattle.cse_image.specs.Spelling.{Fits, SpellsIn, StandFor, program_in}
use Rattle.cse_dict.specs.Dictionary.{DictionaryText, shape_of}
use Rattle.cse_dict.specs.Sound.{IsSound}
use Rattle.cse_syntax.specs.Source.{said}
use Rattle.cse_syntax_tree.specs.Grammar.{spell_tree}
use Rattle.cse_logic_tree.specs.Erase.{erase_tree}
use Rattle.cse_types.specs.Checked.{Checked, IsChecked}
use Rattle.cse_code_typing.specs.Typed.{IsTyped}
use Rattle.cse_verify.specs.Bounded.{IsBounded}
use Rattle.cse_verify.specs.Verified.{VerifiedProgram}
use Rattle.cse_compile.specs.Program.{IsProgramOf}
use Rattle.cse_steps.specs.Fits.{IsVerified}
use Rattle.cse_meaning.specs.Means.{Means}
use Rattle.cse_meaning.specs.Meant.{MeansAlone, ProgramsMean}
use Rattle.cse_meaning.specs.declared.error.BuildFault.{BuildFault}
use Rattle.cse_meaning.specs.Build.{IsBuilt}
use Rattle.cse_meaning.specs.BuiltMeant.{MeansLogic}

-- a dictionary and a program of it
abbrev pub program_for : DictionaryText → Image → VerifiedProgram
program_for d x = record { dictionary = d; image = x }

abbrev verified : (d : DictionaryText) (x : Image) → IsSound d → Fits x → IsTyped (shape_of d) x → IsBounded x → IsVerified (program_for d x)
verified d x sound fits typed bounded = record { fits = fits; may_run = record { typed = typed; bounded = bounded }; dictionary = sound }

-- ---- of a checked source

pub checked_means : (c : Checked) (x : Image) → IsSound c.dictionary → ∥ IsChecked c ∥₁ → ProgramsMean → MeansAlone → Fits x → IsTyped (shape_of c.dictionary) x → IsBounded x
    → IsProgramOf c.dictionary c.order c.tree x → Means (program_for c.dictionary x) c.tree
checked_means c x sound is mean alone fits typed bounded program =
    let v = program_for c.dictionary x in
    let may = verified c.dictionary x sound fits typed bounded in
    alone v c.tree may (∥∥₁_elim is ∥∥₁_prop (λ k. ∥∥₁_map k.source (λ source.
    mean v may c.messages c.order (erase_tree c.tree) (spell_tree (erase_tree c.tree)) c.tree (record {
      dictionary = sound;
      grammar = source;
      typed = record { erased = refl; well = k.well };
      shape = program.shape;
      program = program;
    }))))

-- ---- of three texts

-- no spelling begins another
abbrev pub NoneBegins : Type 0
NoneBegins = (v w : Version) (x y : Image) (a b rest : List ℕ) → SpellsIn v x a → SpellsIn w y b → a ++ rest ≡ b → (v ≡ w) × (x ≡ y) × (rest ≡ [])

module _ (d : DictionaryText) (sound : IsSound d) (mean : ProgramsMean) (none : NoneBegins) (logic messages order bytes : List ℕ) (built : IsBuilt d logic messages order bytes) where
  -- the bytes stand for one program
  pub one_program : (x : Image) → StandFor x bytes → built.program ≡ x
  one_program x stands =
      let other = none versions.Two stands.version built.program stands.image bytes bytes [] built.image.spelled stands.spells (append-nil bytes) in
      sym (stands.stands ∙ (ap (λ w. program_in w stands.image) (sym other.0) ∙ sym other.1))

  program_means : Means (program_for d built.program) built.texts.tree
  program_means =
      let texts = built.texts in
      mean (program_for d built.program) (verified d built.program sound built.image.spelled.fits built.image.typed built.image.bounded)
      texts.entries texts.named texts.source (said texts.logic_is.text.0) texts.tree (record {
        dictionary = sound;
        grammar = texts.logic_is.text.2;
        typed = texts.logic_is.typed;
        shape = built.image.compiled.shape;
        program = built.image.compiled;
      })

  -- each program that the bytes stand for does what the logic means
  pub built_means : (x : Image) → StandFor x bytes → Means (program_for d x) built.texts.tree
  built_means x stands = subst (λ (y : Image). Means (program_for d y) built.texts.tree) (one_program x stands) program_means

  pub means_logic : MeansLogic d logic messages order bytes
  means_logic = record {
    texts = built.texts;
    program = built.program;
    stands = record { version = versions.Two; image = built.program; spells = built.image.spelled; stands = refl };
    means = built_means;
  }

pub all_mean_logic : {T : Type 0} (d : DictionaryText) (logic messages order : List ℕ) (r : Result T BuildFault) (bytes : T → List ℕ) → IsSound d → ProgramsMean → NoneBegins
    → IfOk r (λ v. IsBuilt d logic messages order (bytes v)) → IfOk r (λ v. MeansLogic d logic messages order (bytes v))
all_mean_logic d logic messages order (Ok v) bytes sound mean none built = means_logic d sound mean none logic messages order (bytes v) built
all_mean_logic d logic messages order (Err e) bytes sound mean none built = tt
