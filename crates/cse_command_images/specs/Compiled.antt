-- What `compile` comes to: by which paths the files were opened, what they gave, and what the image's file took.
use Rattle.std.specs.Prelude.{◌≡◌, ℕ, List, length, option_map}
use Rattle.cse_value.specs.Device.{IsAtEnd}
use Rattle.cse_dict.specs.Dictionary.{DictionaryText}
use Rattle.cse_meaning.specs.Build.{IsBuilt}
use Rattle.cse_meaning.specs.BuiltMeant.{MeansLogic}
use Rattle.cse_command_images.specs.declared.compiled.CompiledFiles.{CompiledFiles}
use Rattle.cse_command_parts.specs.declared.plan.CompilePaths.{CompilePaths}
use Rattle.cse_command_parts.specs.TextsGiven.{EndsWhereNamed, text_given}
use Rattle.cse_command_parts.specs.Told.{Told}
use Rattle.cse_command_parts.specs.Vetted.{IsReadAs}

-- each file was opened by its path
pub record AreCompilePaths {F : Type 0} (paths : CompilePaths) (made : CompiledFiles F) : Type 0 where
  pub dict : made.dict.input.path.now ≡ paths.dict.now
  pub logic : made.logic.input.path.now ≡ paths.logic.now
  pub messages : option_map (λ f. f.input.path.now) made.messages ≡ option_map (λ p. p.now) paths.messages
  pub order : option_map (λ f. f.input.path.now) made.order ≡ option_map (λ p. p.now) paths.order
  pub image : made.image.path.now ≡ paths.image.now

-- The bytes are the image of these texts, and what they stand for does what the logic means.
pub record IsImageOf (text logic messages order bytes : List ℕ) : Type 0 where
  pub dictionary : DictionaryText
  pub read : IsReadAs text dictionary
  pub built : IsBuilt dictionary logic messages order bytes
  pub means : MeansLogic dictionary logic messages order bytes

-- The files of the texts were read to their ends, and the image's file took the image of what they gave.
pub record CompilesFiles {F : Type 0} (t : Told F) (made : CompiledFiles F) : Type 0 where
  pub dict_end : IsAtEnd (t.given made.dict.input.device)
  pub logic_end : IsAtEnd (t.given made.logic.input.device)
  pub messages_end : EndsWhereNamed t made.messages
  pub order_end : EndsWhereNamed t made.order
  pub image : IsImageOf (t.given made.dict.input.device).bytes (t.given made.logic.input.device).bytes (text_given t made.messages) (text_given t made.order) (t.taken made.image.device)
  pub len_is : made.len ≡ length (t.taken made.image.device)
