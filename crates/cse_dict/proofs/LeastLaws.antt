-- The least of a list of faults.
use Rattle.std.proofs.Common.{◌≡◌, ◌<◌, ℕ, suc, zero, Bool, true, false, List, [], ◌∷◌, length, get_or, refl, sym, ap, subst, ◌∙◌, arith, Option, None, Some, inl, inr, Contains, All}
use Rattle.std.specs.Prelude.{◌⊎◌, if◌then◌else◌}
use Rattle.std.proofs.lemmas.List.Elements.{Contains-append_right}
use Rattle.std.proofs.lemmas.Option.{same_Some}
use Rattle.cse_dict.specs.Faults.{is_before, note, note_all}
use Rattle.cse_dict.specs.declared.fault.DictError.{DictError}
use Rattle.cse_dict.specs.Reading.{IsAnswer, IsNoted, text_faults}

-- the order of faults
pub before_self : (f : DictError) → is_before f f ≡ false
before_self f = grind arith

pub before_once : (f g : DictError) → is_before f g ≡ true → is_before g f ≡ false
before_once f g e = grind (arith, e)

pub before_along : (f g h : DictError) → is_before f g ≡ false → is_before g h ≡ false → is_before f h ≡ false
before_along f g h e d = grind (arith, e, d)

-- one fault more: the least is one of the two
note_either : (a : Option DictError) (g f : DictError) → note a g ≡ Some f → (a ≡ Some f) ⊎ (g ≡ f)
note_either None g f e = inr (same_Some _ _ e)
note_either (Some b) g f e = by (is_before g b) e
  where
    by : (v : Bool) → (if v then Some g else Some b) ≡ Some f → (Some b ≡ Some f) ⊎ (g ≡ f)
    by true e = inr (same_Some _ _ e)
    by false e = inl e

pub record Notes (a : Option DictError) (h m : DictError) : Type 0 where
  pub is : note a h ≡ Some m
  pub new : is_before h m ≡ false
  pub old : (b : DictError) → a ≡ Some b → is_before b m ≡ false

notes : (a : Option DictError) (h : DictError) → (m : DictError) × Notes a h m
notes None h = (h, record { is = refl; new = before_self h; old = λ b e. cc })
notes (Some c) h = by (is_before h c) refl
  where
    by : (v : Bool) → is_before h c ≡ v → (m : DictError) × Notes (Some c) h m
    by true e = (
      h,
      record {
        is = ap (λ v. if v then Some h else Some c) e;
        new = before_self h;
        old = λ b d. subst (λ b'. is_before b' h ≡ false) (same_Some _ _ d) (before_once h c e);
      },
    )
    by false e = (
      c,
      record {
        is = ap (λ v. if v then Some h else Some c) e;
        new = e;
        old = λ b d. subst (λ b'. is_before b' c ≡ false) (same_Some _ _ d) (before_self c);
      },
    )

module _ (f : DictError) where
  reached : (a : Option DictError) (fs : List DictError) → note_all a fs ≡ Some f → (a ≡ Some f) ⊎ Contains fs f
  reached a [] h = inl h
  reached a (g ∷ gs) h = by (reached (note a g) gs h)
    where
      here : (a ≡ Some f) ⊎ (g ≡ f) → (a ≡ Some f) ⊎ Contains (g ∷ gs) f
      here (inl e) = inl e
      here (inr e) = inr (0, omega arith, e)

      by : (note a g ≡ Some f) ⊎ Contains gs f → (a ≡ Some f) ⊎ Contains (g ∷ gs) f
      by (inl e) = here (note_either a g f e)
      by (inr there) = inr (Contains-append_right (g ∷ []) gs f there)

  -- the least fault is one of them
  pub least-Contains : (fs : List DictError) → note_all None fs ≡ Some f → Contains fs f
  least-Contains fs h = by (reached None fs h)
    where
      by : (None ≡ Some f) ⊎ Contains fs f → Contains fs f
      by (inl e) = cc
      by (inr there) = there

  NotBefore : DictError → Type 0
  NotBefore g = is_before g f ≡ false

  below : (a : Option DictError) (fs : List DictError) → note_all a fs ≡ Some f
      → ((g : DictError) → a ≡ Some g → is_before g f ≡ false) × All (λ g. is_before g f ≡ false) fs
  below a [] h = (λ g e. subst (λ g'. is_before g' f ≡ false) (same_Some _ _ (sym h ∙ e)) (before_self f), λ k d lt. absurd (omega (arith, lt)))
  below a (g ∷ gs) h = by (notes a g) (below (note a g) gs h)
    where
      by : (m : DictError) × Notes a g m → ((c : DictError) → note a g ≡ Some c → is_before c f ≡ false) × All (λ c. is_before c f ≡ false) gs
          → ((c : DictError) → a ≡ Some c → is_before c f ≡ false) × All (λ c. is_before c f ≡ false) (g ∷ gs)
      by (m, n) rest = (λ c e. before_along c m f (n.old c e) (rest.0 m n.is), all)
        where
          all : (k : ℕ) (d : DictError) → k < length (g ∷ gs) → is_before (get_or (g ∷ gs) k d) f ≡ false
          all zero d lt = before_along g m f n.new (rest.0 m n.is)
          all (suc k) d lt = rest.1 k d (omega (arith, lt))

  -- no fault is before the least
  pub least-below : (fs : List DictError) → note_all None fs ≡ Some f → All (λ g. is_before g f ≡ false) fs
  least-below fs h = (below None fs h).1

never : (g : DictError) (fs : List DictError) → note_all (Some g) fs ≡ None → ⊥
never g [] h = cc
never g (h ∷ hs) e = by (is_before h g) (never h hs) (never g hs) e
  where
    by : (v : Bool) → (note_all (Some h) hs ≡ None → ⊥) → (note_all (Some g) hs ≡ None → ⊥) → note_all (if v then Some h else Some g) hs ≡ None → ⊥
    by true a b e = a e
    by false a b e = b e

-- where there is no least fault there is none
pub least-none : (fs : List DictError) → note_all None fs ≡ None → fs ≡ []
least-none [] h = refl
least-none (f ∷ fs) h = absurd (never f fs h)

-- the least of the faults is one of them, and none is before it
pub IsAnswer-noted : (bytes : List ℕ) (error : DictError) → IsNoted (text_faults bytes) error → IsAnswer bytes error
IsAnswer-noted bytes error (inl memory) = inl memory
IsAnswer-noted bytes error (inr h) = inr (least-Contains error (text_faults bytes) h, least-below error (text_faults bytes) h)
