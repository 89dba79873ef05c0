-- Laws of writing in steps.
use Rattle.std.proofs.Common.{◌≡◌, ℕ, Bool, List, [], ◌++◌, Result, Ok, Err, ap, sym, ◌∙◌, append_assoc, append-nil, take, drop, take-append-drop}
use Rattle.cse_value.specs.Device.{Appends}
use Rattle.cse_value.specs.Writing.{AppendsFront, WritesAll, FailsAtErr}

pub Appends-nil : (a : List ℕ) → Appends a a []
Appends-nil a = record { more = sym (append-nil a) }

pub Appends-trans : (a b c bs cs : List ℕ) → Appends a b bs → Appends b c cs → Appends a c (bs ++ cs)
Appends-trans a b c bs cs p q = record { more = q.more ∙ ap (λ l. l ++ cs) p.more ∙ append_assoc a bs cs }

pub Appends-kept : (a b c bs : List ℕ) → Appends a b bs → c ≡ b → Appends a c bs
Appends-kept a b c bs p k = record { more = k ∙ p.more }

pub AppendsFront-take : (a b bytes : List ℕ) (n : ℕ) → Appends a b (take n bytes) → AppendsFront a b bytes
AppendsFront-take a b bytes n h = record { written = take n bytes; rest = drop n bytes; is = sym (take-append-drop n bytes); appends = h }

-- more bytes were meant
pub AppendsFront-more : (a b : List ℕ) (xs ys : List ℕ) → AppendsFront a b xs → AppendsFront a b (xs ++ ys)
AppendsFront-more a b xs ys f = record {
  written = f.written;
  rest = f.rest ++ ys;
  is = ap (λ l. l ++ ys) f.is ∙ append_assoc f.written f.rest ys;
  appends = f.appends;
}

-- bytes were written before
pub AppendsFront-after : (a b c : List ℕ) (xs ys : List ℕ) → Appends a b xs → AppendsFront b c ys → AppendsFront a c (xs ++ ys)
AppendsFront-after a b c xs ys h f = record {
  written = xs ++ f.written;
  rest = f.rest;
  is = ap (λ l. xs ++ l) f.is ∙ sym (append_assoc xs f.written f.rest);
  appends = Appends-trans a b c xs f.written h f.appends;
}

-- one call after another
pub WritesAll-after : {T E : Type 0} (r : Result T E) (a b c : List ℕ) (xs ys : List ℕ) → Appends a b xs → WritesAll r b c ys → WritesAll r a c (xs ++ ys)
WritesAll-after (Ok x) a b c xs ys h w = Appends-trans a b c xs ys h w
WritesAll-after (Err e) a b c xs ys h w = AppendsFront-after a b c xs ys h w

pub FailsAtErr-after : {T E : Type 0} (r : Result T E) (a b c : Bool) → b ≡ a → FailsAtErr r b c → FailsAtErr r a c
FailsAtErr-after (Ok x) a b c h w = w ∙ h
FailsAtErr-after (Err e) a b c h w = w
