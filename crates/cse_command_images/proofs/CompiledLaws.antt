-- What `compile` made, of the texts that its files gave.
use Rattle.std.proofs.Common.{◌≡◌, ℕ, List, subst}
use Rattle.cse_dict.specs.Dictionary.{DictionaryText}
use Rattle.cse_meaning.specs.Build.{IsBuilt}
use Rattle.cse_meaning.specs.BuiltMeant.{MeansLogic}
use Rattle.cse_command_images.specs.Compiled.{IsImageOf}
use Rattle.cse_command_parts.specs.Vetted.{IsReadAs}

-- the same texts and the same image
pub image_same : (text logic logic' messages messages' order order' bytes bytes' : List ℕ) (d : DictionaryText) → IsReadAs text d
    → logic ≡ logic' → messages ≡ messages' → order ≡ order' → bytes ≡ bytes'
    → IsBuilt d logic messages order bytes → MeansLogic d logic messages order bytes → IsImageOf text logic' messages' order' bytes'
image_same text logic logic' messages messages' order order' bytes bytes' d read l m o b built means = record {
  dictionary = d;
  read = read;
  built =
      subst (λ (x : List ℕ). IsBuilt d x messages' order' bytes') l
      (subst (λ (x : List ℕ). IsBuilt d logic x order' bytes') m
      (subst (λ (x : List ℕ). IsBuilt d logic messages x bytes') o
      (subst (λ (x : List ℕ). IsBuilt d logic messages order x) b built)));
  means =
      subst (λ (x : List ℕ). MeansLogic d x messages' order' bytes') l
      (subst (λ (x : List ℕ). MeansLogic d logic x order' bytes') m
      (subst (λ (x : List ℕ). MeansLogic d logic messages x bytes') o
      (subst (λ (x : List ℕ). MeansLogic d logic messages order x) b means)));
}
