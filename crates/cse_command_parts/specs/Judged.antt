-- What `verify` comes to: by which paths the files were opened, and what they gave.
use Rattle.std.specs.Prelude.{◌≡◌, ℕ, List}
use Rattle.cse_value.specs.Device.{IsAtEnd}
use Rattle.cse_command_parts.specs.declared.judged.VerifiedFiles.{VerifiedFiles}
use Rattle.cse_command_parts.specs.Told.{Told}
use Rattle.cse_command_parts.specs.Vetted.{Passes}

-- The files were opened by these paths. What that of the dictionary gave to its end is a dictionary's text, and what that of the image gave may run with it.
pub record VerifiesFiles {F : Type 0} (t : Told F) (dict image : List ℕ) (v : VerifiedFiles F) : Type 0 where
  pub dict_path : v.dict.input.path.now ≡ dict
  pub image_path : v.image.input.path.now ≡ image
  pub dict_end : IsAtEnd (t.given v.dict.input.device)
  pub passes : Passes (t.given v.dict.input.device).bytes (t.given v.image.input.device).bytes
