-- Laws of bytes that are gathered before they are written.
use Rattle.std.proofs.Common.{◌≡◌, ℕ, Bool, true, false, List, [], ◌++◌, Ok, Err, refl, ap, sym, ◌∙◌, subst, append_assoc, append-nil}
use Rattle.cse_value.specs.Device.{Appends}
use Rattle.cse_value.proofs.WriteLaws.{Appends-nil, Appends-trans}
use Rattle.cse_value.specs.Writing.{AppendsFront}
use Rattle.cse_value.proofs.WriteLaws.{AppendsFront-more, AppendsFront-after}
use Rattle.cse_value.specs.Gathering.{Going, going, Gathered, GaveUp, Gathering, Puts, Finishes}

-- after it was given up, nothing more is done
pub Puts-gave_up : (c : List ℕ) (h : Bool) (p q : List ℕ) (f : Bool) (bytes : List ℕ) → f ≡ true → Puts (going c h p f) (going c h q f) bytes
Puts-gave_up c h p q true bytes e = λ start sound text g. record { front = AppendsFront-more start c text bytes g.front; failed = g.failed }
Puts-gave_up c h p q false bytes e = cc

-- bytes wait
pub Puts-waits : (c : List ℕ) (h : Bool) (p q : List ℕ) (f : Bool) (bytes : List ℕ) → f ≡ false → q ≡ p ++ bytes → Puts (going c h p f) (going c h q f) bytes
Puts-waits c h p q true bytes e is = cc
Puts-waits c h p q false bytes e is = λ start sound text g. record {
  written = g.written;
  appends = g.appends;
  is = ap (λ l. l ++ bytes) g.is ∙ (append_assoc g.written p bytes ∙ ap (λ l. g.written ++ l) (sym is));
  same = g.same;
}

-- what waited was written, and the bytes after it
pub Puts-wrote : (c d : List ℕ) (h i : Bool) (p q : List ℕ) (f k : Bool) (bytes all : List ℕ) → f ≡ false → k ≡ false → q ≡ [] → all ≡ p ++ bytes → Appends c d all → i ≡ h → Puts (going c h p f) (going d i q k) bytes
Puts-wrote c d h i p q true k bytes all e u none is w s = cc
Puts-wrote c d h i p q false true bytes all e u none is w s = cc
Puts-wrote c d h i p q false false bytes all e u none is w s = λ start sound text g. record {
  written = g.written ++ all;
  appends = Appends-trans start c d g.written all g.appends w;
  is = ap (λ l. l ++ bytes) g.is ∙ (append_assoc g.written p bytes ∙ (ap (λ l. g.written ++ l) (sym is) ∙ (sym (append-nil (g.written ++ all)) ∙ ap (λ l. (g.written ++ all) ++ l) (sym none))));
  same = s ∙ g.same;
}

-- the device failed on the way
pub Puts-failed : (c d : List ℕ) (h i : Bool) (p q : List ℕ) (f k : Bool) (bytes all : List ℕ) → f ≡ false → k ≡ true → all ≡ p ++ bytes → AppendsFront c d all → i ≡ true → Puts (going c h p f) (going d i q k) bytes
Puts-failed c d h i p q true k bytes all e u is w s = cc
Puts-failed c d h i p q false false bytes all e u is w s = cc
Puts-failed c d h i p q false true bytes all e u is w s = λ start sound text g.
    let joined : g.written ++ all ≡ text ++ bytes = ap (λ l. g.written ++ l) is ∙ (sym (append_assoc g.written p bytes) ∙ ap (λ l. l ++ bytes) (sym g.is)) in
    record {
      front = subst (λ (l : List ℕ). AppendsFront start d l) joined (AppendsFront-after start c d g.written all g.appends w);
      failed = s;
    }

-- one after the other
pub Puts-then : (a b c : Going) (x y : List ℕ) → Puts a b x → Puts b c y → Puts a c (x ++ y)
Puts-then a b c x y first second = λ start sound text g. subst (λ (l : List ℕ). Gathering start sound c l) (append_assoc text x y) (second start sound (text ++ x) (first start sound text g))

pub Puts-nothing : (a : Going) → Puts a a []
Puts-nothing a = λ start sound text g. subst (λ (l : List ℕ). Gathering start sound a l) (sym (append-nil text)) g

pub Puts-as : (a b : Going) (x y : List ℕ) → x ≡ y → Puts a b x → Puts a b y
Puts-as a b x y e h = subst (λ (l : List ℕ). Puts a b l) e h

-- nothing was put yet
pub Gathering-none : (c : List ℕ) (h : Bool) (p : List ℕ) (f : Bool) → p ≡ [] → f ≡ false → Gathering c h (going c h p f) []
Gathering-none c h p true none e = cc
Gathering-none c h p false none e = record { written = []; appends = Appends-nil c; is = sym none; same = refl }

-- all was written, or the device failed
pub Finishes-ok : (E : Type 0) (x : Unit {0}) (old : Going) (d : List ℕ) (i : Bool) (q : List ℕ) (k : Bool) → k ≡ false → q ≡ [] → Puts old (going d i q k) [] → Finishes {E = E} (Ok x) old d i
Finishes-ok E x old d i q true e none puts = cc
Finishes-ok E x old d i q false e none puts = λ start sound text g.
    let done : Gathered start sound (going d i q false) (text ++ []) = puts start sound text g in
    let all : done.written ≡ text = sym (append-nil done.written) ∙ (ap (λ l. done.written ++ l) (sym none) ∙ (sym done.is ∙ append-nil text)) in
    (subst (λ (l : List ℕ). Appends start d l) all done.appends, done.same)

pub Finishes-err : (T : Type 0) {E : Type 0} (e : E) (old : Going) (d : List ℕ) (i : Bool) (q : List ℕ) (k : Bool) → k ≡ true → Puts old (going d i q k) [] → Finishes {T = T} (Err e) old d i
Finishes-err T x old d i q false e puts = cc
Finishes-err T x old d i q true e puts = λ start sound text g.
    let done : GaveUp start (going d i q true) (text ++ []) = puts start sound text g in
    (subst (λ (l : List ℕ). AppendsFront start d l) (append-nil text) done.front, done.failed)
