-- A search by halves in pairs that ascend.
use Rattle.std.proofs.Common.{◌≡◌, ◌<◌, suc, ℕ, ℤ, ◌≤ℤ◌, Bool, true, false, cond, List, [], ◌∷◌, ◌++◌, length, take, drop, get_or, refl, sym, ap, ◌∙◌, arith, None, Some}
use Rattle.std.specs.Prelude.{◌<ℤ◌, int_le, int_lt, find, ◌&&◌}
use Rattle.std.proofs.lemmas.Int.{ints}
use Rattle.std.proofs.lemmas.List.{take-append-drop}
use Rattle.std.proofs.Math.Seq.{drop-cons}
use Rattle.std.proofs.lemmas.Bool.{and_parts}
use Rattle.cse_dict.specs.Dictionary.{ascends, contains, starts_above}
use Rattle.cse_dict.specs.declared.rows.NumberSpan.{NumberSpan}

le_fact : (a b : ℤ) → int_le a b ≡ true → a ≤ℤ b
le_fact a b h = grind (arith, ints)

lt_fact : (a b : ℤ) → int_lt a b ≡ true → a <ℤ b
lt_fact a b h = grind (arith, ints)

le_test : (a b : ℤ) → a ≤ℤ b → int_le a b ≡ true
le_test a b h = grind (arith, ints)

not_le : (a b : ℤ) → b <ℤ a → int_le a b ≡ false
not_le a b h = grind (arith, ints)

-- what a pair that ascends says
pub record Ascent (s : NumberSpan) (ss : List NumberSpan) : Type 0 where
  pub ordered : s.low ≤ℤ s.high
  pub above : starts_above s.high ss ≡ true
  pub rest : ascends ss ≡ true

ascent : (s : NumberSpan) (ss : List NumberSpan) → ascends (s ∷ ss) ≡ true → Ascent s ss
ascent s ss h =
    let outer = and_parts (int_le s.low s.high && starts_above s.high ss) (ascends ss) h in
    let inner = and_parts (int_le s.low s.high) (starts_above s.high ss) outer.0 in
    record { ordered = le_fact s.low s.high inner.0; above = inner.1; rest = outer.1 }

module _ (z : ℤ) where
  -- a pair above or below the number
  above_test : (s : NumberSpan) → z <ℤ s.low → contains z s ≡ false
  above_test s h = ap (λ v. v && int_le z s.high) (not_le s.low z h)

  below_test : (s : NumberSpan) → s.high <ℤ z → contains z s ≡ false
  below_test s h = by (int_le s.low z) (int_le z s.high) (not_le z s.high h)
    where
      by : (v w : Bool) → w ≡ false → v && w ≡ false
      by true w e = e
      by false w e = refl

  find_past : (s : NumberSpan) (ss : List NumberSpan) → contains z s ≡ false → find (contains z) (s ∷ ss) ≡ find (contains z) ss
  find_past s ss e = ap (λ v. cond v (Some s) (find (contains z) ss)) e

  find_here : (s : NumberSpan) (ss : List NumberSpan) → contains z s ≡ true → find (contains z) (s ∷ ss) ≡ Some s
  find_here s ss e = ap (λ v. cond v (Some s) (find (contains z) ss)) e

  -- no pair from one above the number on contains it
  none_above : (back : List NumberSpan) (m : NumberSpan) → ascends (m ∷ back) ≡ true → z <ℤ m.low → find (contains z) (m ∷ back) ≡ None
  none_above [] m h lt = find_past m [] (above_test m lt)
  none_above (t ∷ ts) m h lt =
      let here = ascent m (t ∷ ts) h in
      let next = lt_fact m.high t.low here.above in
      let ordered = here.ordered in
      find_past m (t ∷ ts) (above_test m lt) ∙ none_above ts t here.rest (omega (arith, ints))

  -- the pairs before another one end below it
  ends_below : (front : List NumberSpan) (x m : NumberSpan) (back : List NumberSpan) → ascends (x ∷ (front ++ m ∷ back)) ≡ true → x.high <ℤ m.low
  ends_below [] x m back h = lt_fact x.high m.low (ascent x (m ∷ back) h).above
  ends_below (y ∷ ys) x m back h =
      let here = ascent x (y ∷ (ys ++ m ∷ back)) h in
      let next = lt_fact x.high y.low here.above in
      let ordered = (ascent y (ys ++ m ∷ back) here.rest).ordered in
      let last = ends_below ys y m back here.rest in
      omega (arith, ints)

  -- no pair before one that starts at or below the number contains it
  none_below : (front : List NumberSpan) (m : NumberSpan) (back : List NumberSpan) → ascends (front ++ m ∷ back) ≡ true → m.low ≤ℤ z
      → find (contains z) (front ++ m ∷ back) ≡ find (contains z) (m ∷ back)
  none_below [] m back h le = refl
  none_below (x ∷ xs) m back h le =
      let below = ends_below xs x m back h in
      find_past x (xs ++ m ∷ back) (below_test x (omega (arith, ints))) ∙ none_below xs m back (ascent x (xs ++ m ∷ back) h).rest le

  -- a number below a pair is sought before it
  find_front : (front : List NumberSpan) (m : NumberSpan) (back : List NumberSpan) → ascends (front ++ m ∷ back) ≡ true → z <ℤ m.low
      → find (contains z) (front ++ m ∷ back) ≡ find (contains z) front
  find_front [] m back h lt = none_above back m h lt
  find_front (x ∷ xs) m back h lt = ap (λ r. cond (contains z x) (Some x) r) (find_front xs m back (ascent x (xs ++ m ∷ back) h).rest lt)

-- a part of pairs that ascend ascends
ascends_front : (front : List NumberSpan) (m : NumberSpan) (back : List NumberSpan) → ascends (front ++ m ∷ back) ≡ true → ascends front ≡ true
ascends_front [] m back h = refl
ascends_front (x ∷ []) m back h =
    let here = ascent x (m ∷ back) h in rw (le_test x.low x.high here.ordered) refl
ascends_front (x ∷ y ∷ ys) m back h =
    let here = ascent x (y ∷ (ys ++ m ∷ back)) h in
    rw (le_test x.low x.high here.ordered, here.above) (ascends_front (y ∷ ys) m back here.rest)

ascends_back : (front : List NumberSpan) (m : NumberSpan) (back : List NumberSpan) → ascends (front ++ m ∷ back) ≡ true → ascends (m ∷ back) ≡ true
ascends_back [] m back h = h
ascends_back (x ∷ xs) m back h = ascends_back xs m back (ascent x (xs ++ m ∷ back) h).rest

-- what is left to be sought
pub record Sought (z : ℤ) (part whole : List NumberSpan) : Type 0 where
  pub ascending : ascends part ≡ true
  pub same : find (contains z) part ≡ find (contains z) whole

module _ (z : ℤ) (xs whole front : List NumberSpan) (m : NumberSpan) (back : List NumberSpan) (split : xs ≡ front ++ m ∷ back) (so_far : Sought z xs whole) where
  ascending_parts : ascends (front ++ m ∷ back) ≡ true
  ascending_parts = ap ascends (sym split) ∙ so_far.ascending

  found_parts : find (contains z) (front ++ m ∷ back) ≡ find (contains z) whole
  found_parts = ap (find (contains z)) (sym split) ∙ so_far.same

  pub Sought-front : z <ℤ m.low → Sought z front whole
  Sought-front lt = record {
    ascending = ascends_front front m back ascending_parts;
    same = sym (find_front z front m back ascending_parts lt) ∙ found_parts;
  }

  pub Sought-back : m.high <ℤ z → Sought z back whole
  Sought-back lt =
      let behind = ascent m back (ascends_back front m back ascending_parts) in
      let ordered = behind.ordered in record {
        ascending = behind.rest;
        same = sym (none_below z front m back ascending_parts (omega (arith, ints)) ∙ find_past z m back (below_test z m lt)) ∙ found_parts;
      }

  pub Sought-here : m.low ≤ℤ z → z ≤ℤ m.high → Some m ≡ find (contains z) whole
  Sought-here low high =
      sym (none_below z front m back ascending_parts low
      ∙ find_here z m back (ap (λ v. v && int_le z m.high) (le_test m.low z low) ∙ le_test z m.high high)) ∙ found_parts

-- a list by one of its places
pub split_at_place : (xs : List NumberSpan) (i : ℕ) (d : NumberSpan) → i < length xs → xs ≡ take i xs ++ get_or xs i d ∷ drop (suc i) xs
split_at_place xs i d inside = sym (take-append-drop i xs) ∙ ap (λ r. take i xs ++ r) (drop-cons xs i d inside)
