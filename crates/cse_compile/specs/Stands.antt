-- Which instructions of an image stand for which wide ones: the same, but that a constant, a text and a loop's limit stand in tables.
use Rattle.std.specs.Prelude.{◌≡◌, ℕ, List, [], ◌∷◌, ◌++◌, Some, slice_get}
use Rattle.cse_image_parts.specs.declared.instruction.Op.{Op}
use Rattle.cse_image_parts.specs.declared.instruction.Op.TheVariants as ops
use Rattle.cse_image_parts.specs.declared.instruction.Instr.{Instr}
use Rattle.cse_compile.specs.Pools.{PoolLists}
use Rattle.cse_compile.specs.Wide.{Wide, Constant, Chars, Turns, Plain}

abbrev pub instr : Op → ℕ → ℕ → ℕ → Instr
instr op a b c = record { op = op; a = a; b = b; c = c }

abbrev pub Stands : PoolLists → Instr → Wide → Type 0
Stands p i (Constant z) = (i ≡ instr ops.Number 0 0 i.c) × (slice_get p.constants i.c ≡ Some z)
Stands p i (Chars text) = (i ≡ instr ops.Text 0 0 i.c) × (slice_get p.texts i.c ≡ Some text)
Stands p i (Turns limit end) = (i ≡ instr ops.LoopCount 0 i.b end) × (slice_get p.limits i.b ≡ Some limit)
Stands p i (Plain op a b c) = i ≡ instr op a b c

-- instruction after instruction
abbrev pub AllStand : PoolLists → List Instr → List Wide → Type 0
AllStand p [] [] = Unit {0}
AllStand p (i ∷ is) (w ∷ ws) = Stands p i w × AllStand p is ws
AllStand p _ _ = ⊥

-- what a list has at its end that another lacks
abbrev pub Begins : {A : Type 0} → List A → List A → Type 0
Begins {A} old new = (more : List A) × (new ≡ old ++ more)

-- each table is the other one, with more at its end
pub record IsMore (old new : PoolLists) : Type 0 where
  pub constants : Begins old.constants new.constants
  pub limits : Begins old.limits new.limits
  pub texts : Begins old.texts new.texts
