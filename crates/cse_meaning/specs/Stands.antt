-- Which instructions of an image stand for which wide ones: the same, but that a constant, a text and a loop's limit stand in tables.
use Rattle.std.specs.Prelude.{◌≡◌, List, [], ◌∷◌, Some, slice_get}
use Rattle.cse_image_parts.specs.declared.instruction.Op.TheVariants as ops
use Rattle.cse_image_parts.specs.declared.instruction.Instr.{Instr}
use Rattle.cse_image_parts.specs.Image.{Lists}
use Rattle.cse_image_parts.specs.Turns.{limit_of}
use Rattle.cse_compile.specs.Wide.{Wide, Constant, Chars, Turns, Plain}

abbrev pub Stands : Lists → Instr → Wide → Type 0
Stands x i (Constant z) = (i.op ≡ ops.Number) × (slice_get x.constants i.c ≡ Some z)
Stands x i (Chars text) = (i.op ≡ ops.Text) × (slice_get x.texts i.c ≡ Some text)
Stands x i (Turns limit end) = (i.op ≡ ops.LoopCount) × (limit_of x.limits i.b ≡ Some limit) × (i.c ≡ end)
Stands x i (Plain op a b c) = i ≡ record { op = op; a = a; b = b; c = c }

-- instruction after instruction
abbrev pub AllStand : Lists → List Instr → List Wide → Type 0
AllStand x [] [] = Unit {0}
AllStand x (i ∷ is) (w ∷ ws) = Stands x i w × AllStand x is ws
AllStand x _ _ = ⊥
