-- A reader and what it reads: each way to build a reader keeps the two laws.
use Rattle.std.proofs.Common.{◌≡◌, ℕ, ℤ, pos, negsuc, zero, suc, ◌+◌, ◌/◌, ◌%◌, ◌*◌, ◌^◌, ◌<◌, ◌≤◌, Bool, true, false, cond, ltb, leb, List, [], ◌∷◌, ◌++◌, length, take, drop, Option, Some, None, Result, Ok, Err, refl, sym, ap, subst, ◌∙◌, append_assoc, arith, inl, inr}
use Rattle.std.specs.List.{flat_map, AllByRecursion}
use Rattle.std.specs.Prelude.{FitsSigned, slice_get}
use Rattle.cse_image_parts.specs.declared.fault.Rule.TheVariants.{Limit}
use Rattle.cse_image_parts.specs.Spelling.{section, SectionFits}
use borrow.Author.Gap.{read_sfits}
use Rattle.std.proofs.lemmas.Int.{to_z-of_z, of_z-to_z}
use Rattle.std.proofs.lemmas.Bool.{cases_lt, ltb-false, le-ltb, leb-true}
use Rattle.std.proofs.lemmas.List.{append-nil, take_at, drop_at, take-append-drop, length-append, length-take, get_or-drop, get_or-take, get_or_past}
use Rattle.std.proofs.lemmas.List.Concat.{flat_map-cons}
use Rattle.std.proofs.Math.Nat.{div-div-eq-div-mul, pow-succ'}
use Rattle.std.specs.Int.{w64, byte_at, bytes_low_first, cast_signed, cast_unsigned}
use Rattle.std.proofs.lemmas.Option.{same_Some}
use Rattle.byteorder.specs.Endian.{little_number, little_bytes}
use Rattle.byteorder.specs.Numbers.{little_from-cons, little_from-lt, little_number-reads_back, length-bytes_low_first}
use Rattle.cse_image_parts.specs.declared.fault.Rule.{Rule}
use Rattle.cse_image_parts.specs.declared.fault.FieldFault.{FieldFault}
use Rattle.cse_image_parts.specs.Reader.{Reader, IsBytes, fault, ended, and_then, then_at, done, some_bytes, number, signed, each, counted, whole, checked, kept, decoded, many, AllAfter}

IsBytes-drop : (n : ℕ) (bytes : List ℕ) → IsBytes bytes → IsBytes (drop n bytes)
IsBytes-drop n bytes h i = rw get_or-drop (h (n + i))

IsBytes-take : (n : ℕ) (bytes : List ℕ) → IsBytes bytes → IsBytes (take n bytes)
IsBytes-take n bytes h i =
    elim (cases_lt i n) [
      | inl lt ↦ rw (get_or-take n bytes i 0 lt) (h i)
      | inr le ↦ rw (get_or_past (take n bytes) i 0 (omega (arith, length-take n bytes))) (omega arith)
    ]

IsBytes-front : (xs ys : List ℕ) → IsBytes (xs ++ ys) → IsBytes xs
IsBytes-front xs ys h = subst IsBytes (take_at xs ys (length xs) refl) (IsBytes-take (length xs) (xs ++ ys) h)

-- what a reader took from the front
pub record Takes (bytes text rest : List ℕ) : Type 0 where
  pub parts : bytes ≡ text ++ rest
  pub rest_fits : IsBytes rest

pub Takes-then : (a x b y c : List ℕ) → Takes a x b → Takes b y c → Takes a (x ++ y) c
Takes-then a x b y c p q = record { parts = p.parts ∙ ap (λ (t : List ℕ). x ++ t) q.parts ∙ sym (append_assoc x y c); rest_fits = q.rest_fits }

-- Where read gives a value, that value fits and the bytes read are its spelling. A value that fits is read from its spelling.
pub record Laws {A : Type 0} (read : Reader A) (write : A → List ℕ) (Fits : A → Type 0) : Type 0 where
  pub takes : (bytes : List ℕ) (x : A × List ℕ) → IsBytes bytes → read bytes ≡ Ok x → Takes bytes (write x.0) x.1 × Fits x.0
  pub again : (a : A) (rest : List ℕ) → Fits a → read (write a ++ rest) ≡ Ok (a, rest)

abbrev ok : {A : Type 0} → A → Result A FieldFault
ok x = Ok x

ok_is : {A : Type 0} (x y : A) → ok x ≡ ok y → x ≡ y
ok_is x y e = cc

-- the value of a step that did not fail
pub and_then_ok : {A B : Type 0} (r : Result (A × List ℕ) FieldFault) (k : A → Reader B) (y : B × List ℕ) → and_then r k ≡ Ok y → (x : A × List ℕ) × (r ≡ Ok x) × (k x.0 x.1 ≡ Ok y)
and_then_ok (Ok x) k y e = (x, refl, e)
and_then_ok (Err d) k y e = absurd cc

-- the last value is made of those before it
pub finish : {B : Type 0} (b : B) (H : B → Type 0) → H b → ((c : B) → H c → c ≡ b) → Laws (done b) (λ _. []) H
unfolding done
finish b H holds only = record {
  takes = λ bytes x fits e. subst (λ (y : _ × List ℕ). Takes bytes [] y.1 × H y.0) (ok_is (b, bytes) x e) (record { parts = refl; rest_fits = fits }, holds);
  again = λ c rest h. ap (λ (y : _). ok (y, rest)) (sym (only c h));
}

-- a field of a value, and then the others
pub field : {A B : Type 0} {r : Reader A} {w : A → List ℕ} {F : A → Type 0} {k : A → Reader B} {wk : B → List ℕ} (get : B → A) (H : B → Type 0)
    → Laws r w F → ((b : B) → H b → F (get b)) → ((a : A) → F a → Laws (k a) wk (λ b. H b × (get b ≡ a)))
    → Laws (then_at r k) (λ b. w (get b) ++ wk b) H
unfolding then_at
field {A} {B} {r} {w} {F} {k} {wk} get H first fits others = record {
  takes = λ bytes x ok_bytes e.
      let p = and_then_ok (r bytes) k x e in
      let t = first.takes bytes p.0 ok_bytes p.1 in
      let u = (others p.0.0 t.1).takes p.0.1 x t.0.rest_fits p.2 in
      let both : Takes bytes (w (get x.0) ++ wk x.0) x.1 = Takes-then bytes (w (get x.0)) p.0.1 (wk x.0) x.1 (subst (λ (a : A). Takes bytes (w a) p.0.1) (sym u.1.1) t.0) u.0 in
      (both, u.1.0);
  again = λ b rest h.
      let one = first.again (get b) (wk b ++ rest) (fits b h) in
      let two = (others (get b) (fits b h)).again b rest (h, refl) in
      ap (λ (bytes : List ℕ). and_then (r bytes) k) (append_assoc (w (get b)) (wk b) rest) ∙ rw one two;
}

-- ---- numbers

byte_at-up : (i n : ℕ) → byte_at (suc i) n ≡ byte_at i (n / 256)
byte_at-up zero n = refl
byte_at-up (suc i) n = ap (λ (m : ℕ). m % 256) (ap (λ (p : ℕ). n / p) (pow-succ' 256 (suc i)) ∙ sym (div-div-eq-div-mul n 256 (256 ^ suc i)))

-- the higher bytes of a number are the bytes of what is left of it
bytes_low_first-up : (i k n : ℕ) → bytes_low_first (suc i) k n ≡ bytes_low_first i k (n / 256)
bytes_low_first-up i zero n = refl
bytes_low_first-up i (suc k) n =
    let one : byte_at (suc i) n ≡ byte_at i (n / 256) = byte_at-up i n in
    rw (one, bytes_low_first-up (suc i) k n) refl

-- the last field of a value
pub last : {A B : Type 0} {r : Reader A} {w : A → List ℕ} {F : A → Type 0} (make : A → B) (get : B → A) (H : B → Type 0)
    → Laws r w F → ((a : A) → F a → H (make a) × (get (make a) ≡ a)) → ((b : B) → H b → F (get b) × (make (get b) ≡ b))
    → Laws (then_at r (λ a. done (make a))) (λ b. w (get b)) H
unfolding then_at done
last {A} {B} {r} {w} {F} make get H first there back = record {
  takes = λ bytes x ok_bytes e.
      let p = and_then_ok (r bytes) (λ a. done (make a)) x e in
      let t = first.takes bytes p.0 ok_bytes p.1 in
      let h = there p.0.0 t.1 in
      let made : Takes bytes (w (get (make p.0.0))) p.0.1 × H (make p.0.0) = (subst (λ (a : A). Takes bytes (w a) p.0.1) (sym h.1) t.0, h.0) in
      subst (λ (y : B × List ℕ). Takes bytes (w (get y.0)) y.1 × H y.0) (ok_is (make p.0.0, p.0.1) x p.2) made;
  again = λ b rest h.
      let one = first.again (get b) rest (back b h).0 in
      rw one (ap (λ (c : B). ok (c, rest)) (back b h).1);
}

pub refit : {A : Type 0} {r : Reader A} {w : A → List ℕ} {F : A → Type 0} (G : A → Type 0) → Laws r w F → ((a : A) → F a → G a) → ((a : A) → G a → F a) → Laws r w G
refit G laws there back = record {
  takes = λ bytes x ok_bytes e. let t = laws.takes bytes x ok_bytes e in (t.0, there x.0 t.1);
  again = λ a rest h. laws.again a rest (back a h);
}

-- another way to write the same spelling
pub respell : {A : Type 0} {r : Reader A} {w : A → List ℕ} {F : A → Type 0} (v : A → List ℕ) → Laws r w F → ((a : A) → F a → w a ≡ v a) → Laws r v F
respell {A} {r} {w} {F} v laws same = record {
  takes = λ bytes x ok_bytes e. let t = laws.takes bytes x ok_bytes e in (subst (λ (y : List ℕ). Takes bytes y x.1) (same x.0 t.1) t.0, t.1);
  again = λ a rest h. subst (λ (y : List ℕ). r (y ++ rest) ≡ Ok (a, rest)) (same a h) (laws.again a rest h);
}

test_ok : {A : Type 0} (b : Bool) (d : FieldFault) (x y : A) → cond b (ok x) (Err d) ≡ Ok y → (b ≡ true) × (x ≡ y)
test_ok true d x y e = (refl, cc)
test_ok false d x y e = absurd cc

pub checked_laws : {A : Type 0} {r : Reader A} {w : A → List ℕ} {F : A → Type 0} (rule : Rule) (test : A → Bool) → Laws r w F → Laws (checked rule test r) w (λ a. F a × (test a ≡ true))
unfolding checked
checked_laws {A} {r} {w} {F} rule test laws = record {
  takes = λ bytes x ok_bytes e.
      let p = and_then_ok (r bytes) (λ a rest. cond (test a) (Ok (a, rest)) (Err (fault rule bytes))) x e in
      let t = laws.takes bytes p.0 ok_bytes p.1 in
      let g = test_ok (test p.0.0) (fault rule bytes) p.0 x p.2 in
      subst (λ (y : A × List ℕ). Takes bytes (w y.0) y.1 × (F y.0 × (test y.0 ≡ true))) g.1 (t.0, (t.1, g.0));
  again = λ a rest h. rw (laws.again a rest h.0, h.1) refl;
}

kept_ok : {A B : Type 0} (o : Option A) (rest : B) (d : FieldFault) (x : A × B) → kept o rest d ≡ Ok x → (o ≡ Some x.0) × (rest ≡ x.1)
kept_ok None rest d x e = absurd cc
kept_ok (Some a) rest d x e = let same : (a, rest) ≡ x = ok_is (a, rest) x e in (ap (λ (y : _ × _). Some y.0) same, ap (λ (y : _ × _). y.1) same)

pub decoded_laws : {A B : Type 0} {r : Reader A} {w : A → List ℕ} {F : A → Type 0} (rule : Rule) (value : A → Option B) (code : B → A)
    → Laws r w F → ((b : B) → value (code b) ≡ Some b) → ((a : A) (b : B) → value a ≡ Some b → code b ≡ a) → ((b : B) → F (code b))
    → Laws (decoded rule value r) (λ b. w (code b)) (λ b. Unit {0})
unfolding decoded
decoded_laws {A} {B} {r} {w} {F} rule value code laws there back fits = record {
  takes = λ bytes x ok_bytes e.
      let p = and_then_ok (r bytes) (λ a rest. kept (value a) rest (fault rule bytes)) x e in
      let t = laws.takes bytes p.0 ok_bytes p.1 in
      let g = kept_ok (value p.0.0) p.0.1 (fault rule bytes) x p.2 in
      let same : p.0.0 ≡ code x.0 = sym (back p.0.0 x.0 g.0) in
      (subst (λ (rest : List ℕ). Takes bytes (w (code x.0)) rest) g.1 (subst (λ (a : A). Takes bytes (w a) p.0.1) same t.0), tt);
  again = λ b rest h. rw (laws.again (code b) rest (fits b), there b) refl;
}

many_takes : {A : Type 0} (item : List A → Reader A) (w : A → List ℕ) (P : List A → A → Type 0) → ((before : List A) → Laws (item before) w (P before))
    → (n : ℕ) (before : List A) (bytes : List ℕ) (x : List A × List ℕ) → IsBytes bytes → many item before n bytes ≡ Ok x
    → (xs : List A) × (x.0 ≡ before ++ xs) × Takes bytes (flat_map w xs) x.1 × (length xs ≡ n) × AllAfter P before xs
unfolding many
many_takes item w P laws zero before bytes x fits e =
    let same : (before, bytes) ≡ x = ok_is (before, bytes) x e in
    ([], ap (λ (y : _ × _). y.0) (sym same) ∙ sym (append-nil before), record { parts = ap (λ (y : _ × _). y.1) same; rest_fits = subst (λ (y : _ × _). IsBytes y.1) same fits }, refl, tt)
many_takes {A} item w P laws (suc n) before bytes x fits e =
    let p = and_then_ok (item before bytes) (λ a rest. many item (before ++ a ∷ []) n rest) x e in
    let t = (laws before).takes bytes p.0 fits p.1 in
    let u = many_takes item w P laws n (before ++ p.0.0 ∷ []) p.0.1 x t.0.rest_fits p.2 in
    let all : x.0 ≡ before ++ p.0.0 ∷ u.0 = u.1 ∙ append_assoc before (p.0.0 ∷ []) u.0 in
    let both : Takes bytes (flat_map w (p.0.0 ∷ u.0)) x.1 = rw flat_map-cons (Takes-then bytes (w p.0.0) p.0.1 (flat_map w u.0) x.1 t.0 u.2) in
    (p.0.0 ∷ u.0, all, both, ap suc u.3, (t.1, u.4))

many_again : {A : Type 0} (item : List A → Reader A) (w : A → List ℕ) (P : List A → A → Type 0) → ((before : List A) → Laws (item before) w (P before))
    → (xs before : List A) (rest : List ℕ) → AllAfter P before xs → many item before (length xs) (flat_map w xs ++ rest) ≡ Ok (before ++ xs, rest)
unfolding many
many_again item w P laws [] before rest h = ap (λ (y : _). ok (y, rest)) (sym (append-nil before))
many_again {A} item w P laws (x ∷ xs) before rest h =
    let regrouped : flat_map w (x ∷ xs) ++ rest ≡ w x ++ (flat_map w xs ++ rest) = ap (λ (y : List ℕ). y ++ rest) (flat_map-cons w x xs) ∙ append_assoc (w x) (flat_map w xs) rest in
    let one = (laws before).again x (flat_map w xs ++ rest) h.0 in
    let two = many_again item w P laws xs (before ++ x ∷ []) rest h.1 in
    ap (many item before (suc (length xs))) regrouped ∙ rw one (two ∙ ap (λ (y : List A). ok (y, rest)) (append_assoc before (x ∷ []) xs))

pub many_laws : {A : Type 0} {item : List A → Reader A} {w : A → List ℕ} {P : List A → A → Type 0} (n : ℕ) → ((before : List A) → Laws (item before) w (P before))
    → Laws (many item [] n) (flat_map w) (λ xs. AllAfter P [] xs × (length xs ≡ n))
many_laws {A} {item} {w} {P} n laws = record {
  takes = λ bytes x ok_bytes e.
      let t = many_takes item w P laws n [] bytes x ok_bytes e in
      subst (λ (y : List A). Takes bytes (flat_map w y) x.1 × (AllAfter P [] y × (length y ≡ n))) (sym t.1) (t.2, (t.4, t.3));
  again = λ xs rest h. subst (λ (k : ℕ). many item [] k (flat_map w xs ++ rest) ≡ Ok (xs, rest)) h.1 (many_again item w P laws xs [] rest h.0);
}

bytes_test : {A : Type 0} (b : Bool) (d : FieldFault) (x y : A) → cond b (Err d) (ok x) ≡ Ok y → (b ≡ false) × (x ≡ y)
bytes_test true d x y e = absurd cc
bytes_test false d x y e = (refl, cc)

pub bytes_laws : (n : ℕ) → Laws (some_bytes n) (λ xs. xs) (λ xs. length xs ≡ n)
unfolding some_bytes
bytes_laws n = record {
  takes = λ bytes x ok_bytes e.
      let g = bytes_test (ltb (length bytes) n) ended (take n bytes, drop n bytes) x e in
      let long : n ≤ length bytes = ltb-false _ _ g.0 in
      subst (λ (y : List ℕ × List ℕ). Takes bytes y.0 y.1 × (length y.0 ≡ n)) g.1
      (record { parts = sym (take-append-drop n bytes); rest_fits = IsBytes-drop n bytes ok_bytes }, omega (arith, length-take n bytes));
  again = λ xs rest len.
      let long : ltb (length (xs ++ rest)) n ≡ false = le-ltb _ _ (omega (arith, length-append xs rest)) in
      rw (long, take_at xs rest n len, drop_at xs rest n len) refl;
}

-- the bytes of a number that was read
little_from-spelled : (xs : List ℕ) → IsBytes xs → little_bytes (length xs) (little_number (length xs) xs) ≡ xs
little_from-spelled [] fits = refl
little_from-spelled (x ∷ xs) fits =
    let ih = little_from-spelled xs (λ i. fits (suc i)) in
    let n : ℕ = little_number (length xs) xs in
    let whole : little_number (suc (length xs)) (x ∷ xs) ≡ x + 256 * n = ap (λ (r : ℕ). x + 256 * r) (little_from-cons 0 (length xs) x xs) in
    let low : (x + 256 * n) % 256 ≡ x = omega (arith, fits 0) in
    let high : (x + 256 * n) / 256 ≡ n = omega (arith, fits 0) in
    rw (whole, low, bytes_low_first-up 0 (length xs) (x + 256 * n), high) (ap (λ (r : List ℕ). x ∷ r) ih)

number_ok : {A B : Type 0} (r : Result (A × List ℕ) FieldFault) (make : A → B) (x : B × List ℕ) → and_then r (λ a rest. Ok (make a, rest)) ≡ Ok x → (p : A × List ℕ) × (r ≡ Ok p) × ((make p.0, p.1) ≡ x)
number_ok (Ok p) make x e = (p, refl, ok_is (make p.0, p.1) x e)
number_ok (Err d) make x e = absurd cc

pub number_laws : (k : ℕ) → Laws (number k) (little_bytes k) (λ n. n < 256 ^ k)
unfolding number
number_laws k = record {
  takes = λ bytes x ok_bytes e.
      let p = number_ok (some_bytes k bytes) (little_number k) x e in
      let t = (bytes_laws k).takes bytes p.0 ok_bytes p.1 in
      let fits : IsBytes p.0.0 = IsBytes-front p.0.0 p.0.1 (subst IsBytes t.0.parts ok_bytes) in
      let spelled : little_bytes k (little_number k p.0.0) ≡ p.0.0 = subst (λ (n : ℕ). little_bytes n (little_number n p.0.0) ≡ p.0.0) t.1 (little_from-spelled p.0.0 fits) in
      let made : Takes bytes (little_bytes k (little_number k p.0.0)) p.0.1 = subst (λ (y : List ℕ). Takes bytes y p.0.1) (sym spelled) t.0 in
      subst (λ (y : ℕ × List ℕ). Takes bytes (little_bytes k y.0) y.1 × (y.0 < 256 ^ k)) p.2 (made, little_from-lt 0 k p.0.0 fits);
  again = λ n rest lt.
      let one = (bytes_laws k).again (little_bytes k n) rest (length-bytes_low_first 0 k n) in
      let back : little_number k (little_bytes k n) ≡ n = ap (little_number k) (sym (append-nil (little_bytes k n))) ∙ little_number-reads_back k n [] lt in
      rw one (ap (λ (m : ℕ). ok (m, rest)) back);
}

number_is : (k : ℕ) (bytes : List ℕ) (p : List ℕ × List ℕ) → some_bytes k bytes ≡ Ok p → number k bytes ≡ Ok (little_number k p.0, p.1)
unfolding number
number_is k bytes p e = ap (λ (r : Result (List ℕ × List ℕ) FieldFault). and_then r (λ front rest. Ok (little_number k front, rest))) e

bits_fit : (z : ℤ) → FitsSigned w64 z → cast_unsigned w64 z < 256 ^ 8
bits_fit (pos n) fits = let h = fits.sfits in omega arith
bits_fit (negsuc n) fits = omega arith

pub signed_laws : Laws signed (λ z. little_bytes 8 (cast_unsigned w64 z)) (FitsSigned w64)
unfolding signed
signed_laws = record {
  takes = λ bytes x ok_bytes e.
      let p = number_ok (some_bytes 8 bytes) (λ front. cast_signed w64 (little_number 8 front)) x e in
      let n = little_number 8 p.0.0 in
      let t = (number_laws 8).takes bytes (n, p.0.1) ok_bytes (number_is 8 bytes p.0 p.1) in
      let back : cast_unsigned w64 (cast_signed w64 n) ≡ n = of_z-to_z w64 n t.1 in
      let made : Takes bytes (little_bytes 8 (cast_unsigned w64 (cast_signed w64 n))) p.0.1 = subst (λ (m : ℕ). Takes bytes (little_bytes 8 m) p.0.1) (sym back) t.0 in
      subst (λ (y : ℤ × List ℕ). Takes bytes (little_bytes 8 (cast_unsigned w64 y.0)) y.1 × FitsSigned w64 y.0) p.2 (made, read_sfits w64 n);
  again = λ z rest fits.
      let n = cast_unsigned w64 z in
      let lt : n < 256 ^ 8 = bits_fit z fits in
      let one = (bytes_laws 8).again (little_bytes 8 n) rest (length-bytes_low_first 0 8 n) in
      let back : little_number 8 (little_bytes 8 n) ≡ n = ap (little_number 8) (sym (append-nil (little_bytes 8 n))) ∙ little_number-reads_back 8 n [] lt in
      rw one (ap (λ (m : ℕ). ok (cast_signed w64 m, rest)) back ∙ ap (λ (y : ℤ). ok (y, rest)) (to_z-of_z w64 z fits));
}

-- entries that know nothing of each other
pub after_each : {A : Type 0} (P : A → Type 0) (before xs : List A) → AllAfter (λ _. P) before xs → AllByRecursion P xs
after_each P before [] h = tt
after_each P before (x ∷ xs) h = (h.0, after_each P (before ++ x ∷ []) xs h.1)

pub each_after : {A : Type 0} (P : A → Type 0) (before xs : List A) → AllByRecursion P xs → AllAfter (λ _. P) before xs
each_after P before [] h = tt
each_after P before (x ∷ xs) h = (h.0, each_after P (before ++ x ∷ []) xs h.1)

-- of an element at a place, after some others
pub after_at : {X : Type 0} (P : List X → X → Type 0) (before xs : List X) (k : ℕ) (x : X) → AllAfter P before xs → slice_get xs k ≡ Some x → (l : List X) × P l x
after_at P before [] k x all at = cc
after_at P before (y ∷ ys) zero x all at = (before, subst (P before) (same_Some y x at) all.0)
after_at P before (y ∷ ys) (suc k) x all at = after_at P (before ++ y ∷ []) ys k x all.1 at

pub each_laws : {A : Type 0} {r : Reader A} {w : A → List ℕ} {P : A → Type 0} (n : ℕ) → Laws r w P → Laws (each r n) (flat_map w) (λ xs. AllByRecursion P xs × (length xs ≡ n))
each_laws {A} {r} {w} {P} n laws =
    refit (λ xs. AllByRecursion P xs × (length xs ≡ n)) (many_laws n (λ before. laws)) (λ xs h. (after_each P [] xs h.0, h.1)) (λ xs h. (each_after P [] xs h.0, h.1))

pub counted_laws : {A : Type 0} {item : List A → Reader A} {w : A → List ℕ} {P : List A → A → Type 0} (limit : ℕ) → limit < 2 ^ 32 → ((before : List A) → Laws (item before) w (P before))
    → Laws (counted limit item) (section w) (SectionFits limit P)
unfolding counted section
counted_laws {A} {item} {w} {P} limit lt laws =
    field length (SectionFits limit P) (checked_laws Limit (λ n. leb n limit) (number_laws 4))
    (λ xs h. (omega (arith, leb-true _ _ h.count), h.count))
    (λ n h. refit (λ xs. SectionFits limit P xs × (length xs ≡ n)) (many_laws n laws)
    (λ xs g. (record { count = subst (λ (k : ℕ). leb k limit ≡ true) (sym g.1) h.1; each = g.0 }, g.1))
    (λ xs g. (g.0.each, g.1)))

whole_ok : {A : Type 0} (b : Bool) (r : Result A FieldFault) (x : A) → cond b (Err ended) r ≡ Ok x → r ≡ Ok x
whole_ok true r x e = absurd cc
whole_ok false r x e = e

pub whole_laws : {A : Type 0} {r : Reader A} {w : A → List ℕ} {F : A → Type 0} (n : ℕ) → Laws r w F → ((a : A) → n ≤ length (w a)) → Laws (whole n r) w F
unfolding whole
whole_laws {A} {r} {w} {F} n laws long = record {
  takes = λ bytes x ok_bytes e. laws.takes bytes x ok_bytes (whole_ok (ltb (length bytes) n) (r bytes) x e);
  again = λ a rest h.
      let enough : ltb (length (w a ++ rest)) n ≡ false = le-ltb _ _ (omega (arith, length-append (w a) rest, long a)) in
      rw enough (laws.again a rest h);
}
