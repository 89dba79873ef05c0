-- What is known of an option that is there.
use Rattle.std.proofs.Common.{◌≡◌, Bool, true, false, Option, Some, None, is_some, IsSome, IfSome, refl, sym, subst}
use Rattle.std.specs.Prelude.{if◌then◌else◌, option_map, option_and_then}

pub none_and_some : {X : Type 0} (o : Option X) (x : X) → o ≡ None → o ≡ Some x → ⊥
none_and_some o x h k = cc

pub some_from_is_some : {X : Type 0} (o : Option X) → is_some o ≡ true → (x : X) × (o ≡ Some x)
some_from_is_some None h = cc
some_from_is_some (Some x) h = (x, refl)

pub none_from_is_some : {X : Type 0} (o : Option X) → is_some o ≡ false → o ≡ None
none_from_is_some None h = refl
none_from_is_some (Some x) h = cc

pub IsSome_at : {X : Type 0} (o : Option X) (x : X) → o ≡ Some x → IsSome o
IsSome_at {X} o x e = subst (λ (p : Option X). IsSome p) (sym e) refl

pub IfSome_at : {X : Type 0} (P : X → Type 0) (o : Option X) (x : X) → o ≡ Some x → P x → IfSome o P
IfSome_at {X} P o x e h = subst (λ (p : Option X). IfSome p P) (sym e) h

-- what there was before
pub IsSome-from_option_map : {X Y : Type 0} (f : X → Y) (o : Option X) → IsSome (option_map f o) → IsSome o
IsSome-from_option_map f None h = h
IsSome-from_option_map f (Some x) h = refl

pub option_and_then_parts : {X Y : Type 0} (f : X → Option Y) (o : Option X) (y : Y) → option_and_then f o ≡ Some y → (x : X) × (o ≡ Some x) × (f x ≡ Some y)
option_and_then_parts f None y h = cc
option_and_then_parts f (Some x) y h = (x, refl, h)

pub if_some : {X : Type 0} (b : Bool) (o : Option X) (x : X) → (if b then o else None) ≡ Some x → (b ≡ true) × (o ≡ Some x)
if_some true o x h = (refl, h)
if_some false o x h = cc
