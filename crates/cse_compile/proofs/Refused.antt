-- Why a program of a sound source is refused.
use Rattle.std.proofs.Common.{◌≡◌, ◌≤◌, ℕ, Bool, true, false, List, refl, sym, subst, ◌∙◌, ⊎_elim, inl, inr, arith}
use Rattle.std.specs.Prelude.{◌⊎◌, ◌||◌, nat_eq, IsTrue, Result, IfErr}
use Rattle.std.proofs.lemmas.Result.{IfErr-weaker}
use Rattle.std.proofs.lemmas.Bool.{false≢true}
use Rattle.cse_value.specs.Shape.{ShapeLists}
use Rattle.cse_image_parts.specs.Image.{Image}
use Rattle.cse_image.specs.Spelling.{Fits}
use Rattle.cse_dict.specs.Dictionary.{DictionaryText, shape_of}
use Rattle.cse_code_typing.specs.declared.refusal.Refusal.{Refusal}
use Rattle.cse_code_typing.specs.Typed.{IsTyped, IsOutOfMemory, BreaksRules, MayNotStand, HasNoStack, IsOfOtherShape}
use Rattle.cse_code_typing.proofs.TypedLaws.{never_typed}
use Rattle.cse_verify.specs.Bounded.{IsBounded}
use Rattle.cse_verify.specs.FirstFault.{IsUntypedRoutine, IsTooLongRoutine, AreUnfitEvents, IsTooLongCase, IsFirstFault}
use Rattle.cse_verify.proofs.VerifiedLaws.{untyped_never}
use Rattle.cse_logic_tree.specs.Typed.{Tree}
use Rattle.cse_compile.specs.declared.error.CompileError.{CompileError}
use Rattle.cse_compile.specs.Fault.{IsLimit, IsReason}
use Rattle.cse_compile.specs.Pools.{PoolsFit}
use Rattle.cse_compile.specs.Program.{IsProgramOf, pools_of}
use Rattle.cse_compile.specs.Compiled.{HasNoRoom, IsSound, MayTakeLong, IsRefused}
use Rattle.cse_compile.proofs.Spelled.{same_fit}

-- ---- numbers

is_reason : ℕ → Bool
is_reason n = nat_eq n 64 || (nat_eq n 67 || nat_eq n 90)

by_67 : (e : CompileError) → e.number ≡ 67 → IsReason e
by_67 e h = subst (λ n. IsTrue (nat_eq n 64 || (nat_eq n 67 || nat_eq n 90))) (sym h) refl

by_90 : (e : CompileError) → e.number ≡ 90 → IsReason e
by_90 e h = subst (λ n. IsTrue (nat_eq n 64 || (nat_eq n 67 || nat_eq n 90))) (sym h) refl

one_more : (a b c : Bool) → IsTrue (a || c) → IsTrue (a || (b || c))
one_more true b c h = refl
one_more false true c h = refl
one_more false false c h = h

limit_reason : (e : CompileError) → IsLimit e → IsReason e
limit_reason e h = one_more (nat_eq e.number 64) (nat_eq e.number 67) (nat_eq e.number 90) h

limit_never : (e : CompileError) → IsLimit e → e.number ≡ 67 → ⊥
limit_never e h is = false≢true (subst (λ n. IsTrue (nat_eq n 64 || nat_eq n 90)) is h)

-- ---- the verifier's refusals

too_long : (s : ShapeLists) (x : Image) (r : Refusal) → IsFirstFault s x r → IsTyped s x → r.number ≡ 67
too_long s x r why typed =
    ⊎_elim (λ (b : IsOfOtherShape s x r). absurd (never_typed s x r (inl b) typed))
    (λ a. ⊎_elim (λ (b : IsUntypedRoutine s x r). absurd (never_typed s x r (untyped_never s x r b.reason) typed))
    (λ c. ⊎_elim (λ (b : IsTooLongRoutine s x r). b.reason.number)
    (λ d. ⊎_elim (λ (b : AreUnfitEvents s x r). absurd (never_typed s x r (inr (inr (inr (inr b.reason)))) typed))
    (λ (b : IsTooLongCase s x r). b.number) d) c) a) why

not_both : (n : ℕ) → n ≡ 90 → n ≡ 67 → ⊥
not_both n e f = omega (arith, e, f)

pub refused : (s : ShapeLists) (x : Image) (r : Refusal) (e : CompileError) → e.number ≡ r.number → IsOutOfMemory r ⊎ IsFirstFault s x r → IsOutOfMemory r ⊎ (IsTyped s x → IsBounded x → ⊥) → Fits x → IsRefused s x e
refused s x r e same first never fits typed = (
  ⊎_elim (λ (m : IsOutOfMemory r). by_90 e (same ∙ m.0)) (λ (why : IsFirstFault s x r). by_67 e (same ∙ too_long s x r why (typed fits))) first,
  λ is. (fits, λ bounded. ⊎_elim (λ (m : IsOutOfMemory r). not_both e.number (same ∙ m.0) is) (λ (f : IsTyped s x → IsBounded x → ⊥). f (typed fits) bounded) never),
)

-- the verifier never says 64
untyped_above : (s : ShapeLists) (x : Image) (r : Refusal) → BreaksRules s x r ⊎ (MayNotStand s x r ⊎ HasNoStack s x r) → 65 ≤ r.number
untyped_above s x r why =
    ⊎_elim (λ (b : BreaksRules s x r). let n = b.number in omega (arith, n))
    (λ rest. ⊎_elim (λ (b : MayNotStand s x r). let n = b.number in omega (arith, n)) (λ (b : HasNoStack s x r). let n = b.number in omega (arith, n)) rest) why

first_above : (s : ShapeLists) (x : Image) (r : Refusal) → IsFirstFault s x r → 65 ≤ r.number
first_above s x r why =
    ⊎_elim (λ (b : IsOfOtherShape s x r). let n = b.number in omega (arith, n))
    (λ a. ⊎_elim (λ (b : IsUntypedRoutine s x r). untyped_above s x r b.reason)
    (λ c. ⊎_elim (λ (b : IsTooLongRoutine s x r). let n = b.reason.number in omega (arith, n))
    (λ d. ⊎_elim (λ (b : AreUnfitEvents s x r). let n = b.reason.number in omega (arith, n))
    (λ (b : IsTooLongCase s x r). let n = b.number in omega (arith, n)) d) c) a) why

pub never_64 : (s : ShapeLists) (x : Image) (r : Refusal) → IsOutOfMemory r ⊎ IsFirstFault s x r → r.number ≡ 64 → ⊥
never_64 s x r why is =
    ⊎_elim (λ (b : IsOutOfMemory r). let n = b.0 in omega (arith, n, is)) (λ (b : IsFirstFault s x r). let n = first_above s x r b in omega (arith, n, is)) why

-- no spelling: 64
pub no_spelling : (s : ShapeLists) (x : Image) (e : CompileError) → IsLimit e → IsRefused s x e
no_spelling s x e h typed = (limit_reason e h, λ is. absurd (limit_never e h is))

-- ---- the compiler's

pub sound_others : (d : DictionaryText) (named : List ℕ) (t : Tree) (x : Image) (e : CompileError) → IsProgramOf d named t x → IsRefused (shape_of d) x e → IsSound d named t → IsReason e
sound_others d named t x e h r sound = (r (sound x h)).0

pub sound_cost : (d : DictionaryText) (named : List ℕ) (t : Tree) (x : Image) (e : CompileError) → IsProgramOf d named t x → IsRefused (shape_of d) x e → IsSound d named t → e.number ≡ 67 → MayTakeLong d named t
sound_cost d named t x e h r sound is = let f = (r (sound x h)).1 is in (x, h, f.0, f.1)

pub limit_others : (e : CompileError) → IsLimit e → IsReason e
limit_others e h = limit_reason e h

pub limit_cost : (d : DictionaryText) (named : List ℕ) (t : Tree) (e : CompileError) → IsLimit e → e.number ≡ 67 → MayTakeLong d named t
limit_cost d named t e h is = absurd (limit_never e h is)

-- ---- of results

pub err_refused : {T : Type 0} (s : ShapeLists) (x y : Image) (r : Result T CompileError) → x ≡ y → Fits x → IfErr r (λ e. Fits x → IsRefused s x e) → IfErr r (IsRefused s y)
err_refused s x y r same fits h = IfErr-weaker r (λ e. Fits x → IsRefused s x e) (IsRefused s y) (λ e k. subst (λ (z : Image). IsRefused s z e) same (k fits)) h

pub err_others : {T : Type 0} (d : DictionaryText) (named : List ℕ) (t : Tree) (x : Image) (r : Result T CompileError) → IsProgramOf d named t x → IfErr r (IsRefused (shape_of d) x) → IsSound d named t → IfErr r IsReason
err_others d named t x r p h sound = IfErr-weaker r (IsRefused (shape_of d) x) IsReason (λ e k. sound_others d named t x e p k sound) h

pub err_cost : {T : Type 0} (d : DictionaryText) (named : List ℕ) (t : Tree) (x : Image) (r : Result T CompileError) → IsProgramOf d named t x → IfErr r (IsRefused (shape_of d) x) → IsSound d named t → IfErr r (λ e. e.number ≡ 67 → MayTakeLong d named t)
err_cost d named t x r p h sound = IfErr-weaker r (IsRefused (shape_of d) x) (λ e. e.number ≡ 67 → MayTakeLong d named t) (λ e k is. sound_cost d named t x e p k sound is) h

pub err_room : {T : Type 0} (d : DictionaryText) (named : List ℕ) (t : Tree) (x : Image) (r : Result T CompileError) → IsProgramOf d named t x → PoolsFit (pools_of x.lists) → IfErr r (λ e. e.number ≡ 64 → Fits x → ⊥) → IfErr r (λ e. e.number ≡ 64 → HasNoRoom d named t)
err_room d named t x r p pools h =
    IfErr-weaker r (λ e. e.number ≡ 64 → Fits x → ⊥) (λ e. e.number ≡ 64 → HasNoRoom d named t) (λ e k is y q fits. k is (same_fit d named t x y p q pools fits)) h
