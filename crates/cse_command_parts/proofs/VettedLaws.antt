-- A dictionary and a program that may run with it, by what the calls of `verify` answer.
use Rattle.std.proofs.Common.{◌≡◌, ℕ, List, ◌∙◌, subst}
use Rattle.cse_dict.specs.Dictionary.{DictionaryText, shape_of}
use Rattle.cse_verify.specs.declared.depth.Depth.{Depth}
use Rattle.cse_verify.specs.Depths.{IsDepthOf}
use Rattle.cse_verify.specs.Verified.{VerifiedProgram}
use Rattle.cse_verify.specs.Checked.{IsAccepted}
use Rattle.cse_command_parts.specs.Vetted.{IsReadAs, Passes}

abbrev pub passed : (text bytes : List ℕ) (d : DictionaryText) (v : VerifiedProgram) (depth : Depth) → IsReadAs text d → v.dictionary ≡ d
    → IsAccepted (shape_of d) bytes v.image → IsDepthOf (shape_of v.dictionary) v.image depth → Passes text bytes
passed text bytes d v depth read same accepted keeps = record {
  sound = read.sound;
  program = v.image;
  accepted = subst (λ (w : DictionaryText). IsAccepted (shape_of w) bytes v.image) read.is accepted;
  depth = depth;
  keeps = subst (λ (w : DictionaryText). IsDepthOf (shape_of w) v.image depth) (same ∙ read.is) keeps;
}
