-- How the brackets around a place change from one place to the next.
use Rattle.std.proofs.Common.{◌≡◌, ℕ, zero, suc, ◌<◌, ◌≤◌, Bool, true, false, ◌&&◌, ltb, leb, List, [], ◌∷◌, length, Option, Some, None, refl, sym, ap, ◌∙◌, subst, ⊎_elim, ◌≢◌, arith}
use Rattle.std.specs.Prelude.{slice_get}
use Rattle.std.proofs.lemmas.Bool.{cases_lt, cases_eq, and_parts, and_from, ltb-true, leb-true, eqb-true, lt-ltb, le-leb, eq-eqb, cases_Bool, false≢true, cond-true, cond-false, false_from_ne_true, both_ways}
use Rattle.std.proofs.lemmas.Option.{same_Some, slice_get_past}
use Rattle.cse_lemmas.proofs.Booleans.{same_from_both}
use Rattle.cse_code_typing.specs.declared.control.Control.{Control}
use Rattle.cse_code_typing.specs.declared.control.Control.TheVariants.{Step, Jump, Branch, Open, End, Break, Call, Return}
use Rattle.cse_code_typing.specs.Bracket.{named_end, named_opener, IsBracket, IsAround, names, opens_around, around_below, around, first, innermost, IsNestedBelow, IsNested, IsOpener, IsFine}

abbrev pub is_around : List Control → ℕ → ℕ → Bool
is_around code s p = opens_around code s p (slice_get code s)

names_true : (o : Option Control) (s : ℕ) → names o s ≡ true → named_opener o ≡ Some s
names_true (Some (End c)) s h = ap Some (eqb-true c s h)
names_true None s h = absurd (false≢true h)
names_true (Some Step) s h = absurd (false≢true h)
names_true (Some (Jump c)) s h = absurd (false≢true h)
names_true (Some (Branch c)) s h = absurd (false≢true h)
names_true (Some (Open b c)) s h = absurd (false≢true h)
names_true (Some (Break c)) s h = absurd (false≢true h)
names_true (Some (Call c)) s h = absurd (false≢true h)
names_true (Some Return) s h = absurd (false≢true h)

true_names : (o : Option Control) (s : ℕ) → named_opener o ≡ Some s → names o s ≡ true
true_names (Some (End c)) s h = eq-eqb c s (same_Some c s h)
true_names None s h = cc
true_names (Some Step) s h = cc
true_names (Some (Jump c)) s h = cc
true_names (Some (Branch c)) s h = cc
true_names (Some (Open b c)) s h = cc
true_names (Some (Break c)) s h = cc
true_names (Some (Call c)) s h = cc
true_names (Some Return) s h = cc

module _ (code : List Control) where
  opens_true : (s p : ℕ) (o : Option Control) → slice_get code s ≡ o → opens_around code s p o ≡ true → IsAround code s p
  opens_true s p (Some (Open b e)) at h =
      let a = and_parts (names (slice_get code e) s) (ltb s p && leb p e) h in
      let k = and_parts (ltb s p) (leb p e) a.1 in
      let lt : s < p = ltb-true s p k.0 in
      let le : p ≤ e = leb-true p e k.1 in
      let lt2 : s < e = omega arith in
      (e, (lt2, ap named_end at, names_true (slice_get code e) s a.0), lt, le)
  opens_true s p None at h = absurd (false≢true h)
  opens_true s p (Some Step) at h = absurd (false≢true h)
  opens_true s p (Some (Jump c)) at h = absurd (false≢true h)
  opens_true s p (Some (Branch c)) at h = absurd (false≢true h)
  opens_true s p (Some (End c)) at h = absurd (false≢true h)
  opens_true s p (Some (Break c)) at h = absurd (false≢true h)
  opens_true s p (Some (Call c)) at h = absurd (false≢true h)
  opens_true s p (Some Return) at h = absurd (false≢true h)

  true_opens : (s p e : ℕ) (o : Option Control) → named_end o ≡ Some e → named_opener (slice_get code e) ≡ Some s → s < p → p ≤ e → opens_around code s p o ≡ true
  true_opens s p e (Some (Open b f)) n m lt le =
      let ef : f ≡ e = same_Some f e n in
      let m2 : named_opener (slice_get code f) ≡ Some s = cc in
      let le2 : p ≤ f = omega arith in
      and_from _ _ (true_names (slice_get code f) s m2) (and_from _ _ (lt-ltb s p lt) (le-leb p f le2))
  true_opens s p e None n m lt le = cc
  true_opens s p e (Some Step) n m lt le = cc
  true_opens s p e (Some (Jump c)) n m lt le = cc
  true_opens s p e (Some (Branch c)) n m lt le = cc
  true_opens s p e (Some (End c)) n m lt le = cc
  true_opens s p e (Some (Break c)) n m lt le = cc
  true_opens s p e (Some (Call c)) n m lt le = cc
  true_opens s p e (Some Return) n m lt le = cc

  pub around_is : (s p : ℕ) → is_around code s p ≡ true → IsAround code s p
  around_is s p h = opens_true s p (slice_get code s) refl h

  pub is_around_from : (s p : ℕ) → IsAround code s p → is_around code s p ≡ true
  is_around_from s p h = true_opens s p h.0 (slice_get code s) h.1.1 h.1.2 h.2 h.3

module _ (code : List Control) where
  pub same_around : (s p q : ℕ) → (IsAround code s p → IsAround code s q) → (IsAround code s q → IsAround code s p) → is_around code s p ≡ is_around code s q
  same_around s p q f g =
      same_from_both _ _ (λ h. is_around_from code s q (f (around_is code s p h))) (λ h. is_around_from code s p (g (around_is code s q h)))

  pub not_around : (s p : ℕ) → (IsAround code s p → ⊥) → is_around code s p ≡ false
  not_around s p f = false_from_ne_true _ (λ h. f (around_is code s p h))

  pub below_same : (k p q : ℕ) → ((s : ℕ) → s < k → is_around code s p ≡ is_around code s q) → around_below code p k ≡ around_below code q k
  unfolding around_below
  below_same zero p q h = refl
  below_same (suc s) p q h =
      let e = h s (omega arith) in
      let ih = below_same s p q (λ t l. h t (omega arith)) in
      cc

  pub below_none : (k j p : ℕ) → j ≤ k → ((s : ℕ) → j ≤ s → s < k → is_around code s p ≡ false) → around_below code p k ≡ around_below code p j
  unfolding around_below
  below_none zero j p le h = let e : 0 ≡ j = omega arith in ap (around_below code p) e
  below_none (suc k) j p le h =
      ⊎_elim
      (λ (l : k < j). let e : suc k ≡ j = omega arith in ap (around_below code p) e)
      (λ (l : j ≤ k).
      let ih = below_none k j p l (λ t a b. h t a (omega arith)) in
      cond-false _ _ _ (h k l (omega arith)) ∙ ih)
      (cases_lt k j)

  pub below_here : (s p : ℕ) → is_around code s p ≡ true → around_below code p (suc s) ≡ s ∷ around_below code p s
  unfolding around_below
  below_here s p h = cond-true _ _ _ h

  below_first : (k p s : ℕ) → first (around_below code p k) ≡ Some s → (is_around code s p ≡ true) × (s < k) × (around_below code p k ≡ s ∷ around_below code p s)
  unfolding around_below
  below_first zero p s h = cc
  below_first (suc k) p s h =
      ⊎_elim
      (λ t.
      let e = cond-true _ (k ∷ around_below code p k) (around_below code p k) t in
      let f : k ≡ s = same_Some k s (sym (ap first e) ∙ h) in
      subst (λ n. (is_around code n p ≡ true) × (n < suc k) × (around_below code p (suc k) ≡ n ∷ around_below code p n)) f (t, omega arith, e))
      (λ t.
      let e = cond-false _ (k ∷ around_below code p k) (around_below code p k) t in
      let r = below_first k p s (sym (ap first e) ∙ h) in
      (r.0, omega arith, e ∙ r.2))
      (cases_Bool (is_around code k p))

-- two brackets with one end, or one opener, are one
pub same_opener : (code : List Control) (s t e : ℕ) → IsBracket code s e → IsBracket code t e → s ≡ t
same_opener code s t e a b = same_Some s t (sym a.2 ∙ b.2)

pub same_end : (code : List Control) (s e f : ℕ) → IsBracket code s e → IsBracket code s f → e ≡ f
same_end code s e f a b = same_Some e f (sym a.1 ∙ b.1)

pub ends_within : (code : List Control) (s e : ℕ) → IsBracket code s e → e < length code
ends_within code s e b =
    ⊎_elim (λ (l : e < length code). l)
    (λ (l : length code ≤ e). let n = slice_get_past code e l in let m : named_opener (slice_get code e) ≡ None = ap named_opener n in let h = b.2 in cc)
    (cases_lt e (length code))

named_nested : (code : List Control) (s e t f : ℕ) (o : Option Control) → ((i : Control) → slice_get code s ≡ Some i → IsFine code s i) → slice_get code s ≡ o → named_end o ≡ Some e → IsBracket code t f → t < s → s ≤ f → e ≤ f
named_nested code s e t f (Some (Open b g)) fine at n bt lt le =
    let same : g ≡ e = same_Some g e n in
    let h = (fine (Open b g) at).nested t f bt lt le in
    omega arith
named_nested code s e t f None fine at n bt lt le = cc
named_nested code s e t f (Some Step) fine at n bt lt le = cc
named_nested code s e t f (Some (Jump c)) fine at n bt lt le = cc
named_nested code s e t f (Some (Branch c)) fine at n bt lt le = cc
named_nested code s e t f (Some (End c)) fine at n bt lt le = cc
named_nested code s e t f (Some (Break c)) fine at n bt lt le = cc
named_nested code s e t f (Some (Call c)) fine at n bt lt le = cc
named_nested code s e t f (Some Return) fine at n bt lt le = cc

-- where the places below n keep the rules, the brackets that begin there are nested
pub nested_before : (code : List Control) (n : ℕ) → ((p : ℕ) → p < n → (i : Control) → slice_get code p ≡ Some i → IsFine code p i) → IsNestedBelow code n
nested_before code n fine s e t f sn bs bt lt le = named_nested code s e t f (slice_get code s) (fine s sn) refl bs.1 bt lt le

module _ (code : List Control) (n : ℕ) (nest : IsNestedBelow code n) where
  -- below an opener s, the brackets around s and around a place inside it are the same
  inside_same : (s e p : ℕ) → s < n → IsBracket code s e → s < p → p ≤ e → around_below code p s ≡ around code s
  unfolding around
  inside_same s e p sn bs lt le =
      below_same code s p s
      (λ t l.
      same_around code t p s
      (λ (f, bt, a, b). (f, bt, l, omega arith))
      (λ (f, bt, a, b). let k : e ≤ f = nest s e t f sn bs bt l b in (f, bt, omega arith, omega arith)))

  -- the brackets around a place are its innermost one and those around that one's opener
  pub around_innermost_below : (p s : ℕ) → p ≤ n → innermost code p ≡ Some s → around code p ≡ s ∷ around code s
  unfolding around
  around_innermost_below p s pn h =
      let r = below_first code p p s h in
      let a = around_is code s p r.0 in
      r.2 ∙ ap (λ l. s ∷ l) (inside_same s a.0 p (let l = a.2 in omega arith) a.1 a.2 a.3)

  -- at the first place inside a bracket
  pub around_first_below : (s e : ℕ) → s < n → IsBracket code s e → around code (suc s) ≡ s ∷ around code s
  unfolding around
  around_first_below s e sn bs =
      below_here code s (suc s) (is_around_from code s (suc s) (e, bs, omega arith, omega (arith, bs.0)))
      ∙ ap (λ l. s ∷ l) (inside_same s e (suc s) sn bs (omega arith) (omega (arith, bs.0)))

  -- at its end
  pub around_end_below : (s e : ℕ) → e ≤ n → IsBracket code s e → around code e ≡ s ∷ around code s
  unfolding around
  around_end_below s e en bs =
      below_none code e (suc s) e (omega (arith, bs.0))
      (λ t a b. not_around code t e
      (λ (f, bt, l, m).
      let k : f ≤ e = nest t f s e (omega arith) bt bs a (omega arith) in
      let ef : f ≡ e = omega arith in
      let bt2 = subst (λ n. IsBracket code t n) ef bt in
      let st : s ≡ t = same_opener code s t e bs bt2 in
      omega arith))
      ∙ below_here code s e (is_around_from code s e (e, bs, bs.0, omega arith))
      ∙ ap (λ l. s ∷ l) (inside_same s e e (omega (arith, bs.0)) bs bs.0 (omega arith))

  -- behind its end
  pub around_behind_below : (s e : ℕ) → e < n → IsBracket code s e → around code (suc e) ≡ around code s
  unfolding around
  around_behind_below s e en bs =
      let sn : s < n = omega (arith, bs.0) in
      below_none code (suc e) s (suc e) (omega (arith, bs.0))
      (λ t a b. not_around code t (suc e)
      (λ (f, bt, l, m).
      ⊎_elim
      (λ (st : s ≡ t).
      let bt2 = subst (λ n. IsBracket code n f) (sym st) bt in
      let ef : e ≡ f = same_end code s e f bs bt2 in
      omega arith)
      (λ (ne : s ≡ t → ⊥).
      let st : s < t = omega arith in
      let te : t ≤ e = omega arith in
      let k : f ≤ e = nest t f s e (omega arith) bt bs st te in
      omega arith)
      (cases_eq s t)))
      ∙ below_same code s (suc e) s
      (λ t l.
      same_around code t (suc e) s
      (λ (f, bt, a, b). (f, bt, l, omega (arith, bs.0)))
      (λ (f, bt, a, b).
      let k : e ≤ f = nest s e t f sn bs bt l b in
      let ne : e ≢ f = λ ef. let bt2 = subst (λ n. IsBracket code t n) (sym ef) bt in let st : s ≡ t = same_opener code s t e bs bt2 in omega arith in
      (f, bt, omega (arith, bs.0), omega arith)))

module _ (code : List Control) (nest : IsNested code) where
  pub around_innermost : (p s : ℕ) → innermost code p ≡ Some s → around code p ≡ s ∷ around code s
  unfolding around
  around_innermost p s h =
      let r = below_first code p p s h in
      let a = around_is code s p r.0 in
      let w = ends_within code s a.0 a.1 in
      let l = a.3 in
      around_innermost_below code (length code) nest p s (omega arith) h

  pub around_first : (s e : ℕ) → IsBracket code s e → around code (suc s) ≡ s ∷ around code s
  around_first s e b = around_first_below code (length code) nest s e (let l = b.0 in let w = ends_within code s e b in omega arith) b

  pub around_end : (s e : ℕ) → IsBracket code s e → around code e ≡ s ∷ around code s
  around_end s e b = around_end_below code (length code) nest s e (let w = ends_within code s e b in omega arith) b

  pub around_behind : (s e : ℕ) → IsBracket code s e → around code (suc e) ≡ around code s
  around_behind s e b = around_behind_below code (length code) nest s e (ends_within code s e b) b

module _ (code : List Control) where
  -- at a place that neither begins nor ends a bracket
  pub around_plain : (p : ℕ) → ((e : ℕ) → IsBracket code p e → ⊥) → ((s : ℕ) → IsBracket code s p → ⊥) → around code (suc p) ≡ around code p
  unfolding around
  around_plain p no_begin no_end =
      below_none code (suc p) p (suc p) (omega arith)
      (λ t a b. not_around code t (suc p)
      (λ (f, bt, l, m).
      let tp : t ≡ p = omega arith in
      no_begin f (subst (λ n. IsBracket code n f) tp bt)))
      ∙ below_same code p (suc p) p
      (λ t l.
      same_around code t (suc p) p
      (λ (f, bt, a, b). (f, bt, l, omega arith))
      (λ (f, bt, a, b).
      let ne : f ≢ p = λ fp. no_end t (subst (λ n. IsBracket code t n) fp bt) in
      (f, bt, omega arith, omega arith)))

  -- no bracket is around the end of the code
  pub around_none : (n : ℕ) → length code ≤ n → around code n ≡ []
  unfolding around around_below
  around_none n le =
      below_none code n 0 n (omega arith)
      (λ t a b. not_around code t n (λ (f, bt, l, m). let w : f < length code = ends_within code t f bt in omega arith))

  pub around_start : around code 0 ≡ []
  unfolding around around_below
  around_start = refl

module _ (code : List Control) where
  -- a bracket around p has its opener in the list: the first one is no less
  pub first_least : (k p s : ℕ) → is_around code s p ≡ true → s < k → (t : ℕ) × (first (around_below code p k) ≡ Some t) × (s ≤ t)
  unfolding around_below
  first_least zero p s h lt = absurd (omega arith)
  first_least (suc k) p s h lt =
      ⊎_elim
      (λ t. (k, ap first (cond-true _ (k ∷ around_below code p k) (around_below code p k) t), omega arith))
      (λ f.
      let ne : s ≢ k = λ e. both_ways _ f (subst (λ n. is_around code n p ≡ true) e h) in
      let r = first_least k p s h (omega arith) in
      (r.0, ap first (cond-false _ (k ∷ around_below code p k) (around_below code p k) f) ∙ r.1, r.2))
      (cases_Bool (is_around code k p))

  -- the brackets around two places are the same: one that begins between them ends between them
  pub begins_between : (q c e : ℕ) → around code c ≡ around code q → IsBracket code q e → q < c → e < c
  unfolding around
  begins_between q c e same b lt =
      ⊎_elim (λ (l : e < c). l)
      (λ (l : c ≤ e).
      let r = first_least c c q (is_around_from code q c (e, b, lt, l)) lt in
      let u = below_first code q q r.0 (sym (ap first same) ∙ r.1) in
      let v = r.2 in let w = u.1 in
      absurd (omega arith))
      (cases_lt e c)

  -- and none that is around both ends between them
  pub ends_between : IsNested code → (q c s : ℕ) → around code c ≡ around code q → IsBracket code s q → q < c → ⊥
  unfolding around
  ends_between nest q c s same b lt =
      let a = same ∙ around_end code nest s q b in
      let u = below_first code c c s (ap first a) in
      let v = around_is code s c u.0 in
      let w : v.0 ≡ q = same_end code s v.0 q v.1 b in
      let x = v.3 in
      omega arith

  around_nil : (l : List ℕ) → first l ≡ None → l ≡ []
  around_nil [] h = refl
  around_nil (x ∷ xs) h = cc

  by_first : IsNested code → (p c : ℕ) (o : Option ℕ) → innermost code p ≡ o → innermost code c ≡ innermost code p → around code c ≡ around code p
  by_first nest p c None e h = around_nil (around code c) (h ∙ e) ∙ sym (around_nil (around code p) e)
  by_first nest p c (Some s) e h = around_innermost code nest c s (h ∙ e) ∙ sym (around_innermost code nest p s e)

  -- places with one innermost bracket have the same brackets around them
  pub same_brackets : IsNested code → (p c : ℕ) → innermost code c ≡ innermost code p → around code c ≡ around code p
  same_brackets nest p c h = by_first nest p c (innermost code p) refl h

-- the tests of a checker that has the brackets around a place at hand
module _ (code : List Control) where
  pub innermost_around : (p s : ℕ) → innermost code p ≡ Some s → IsAround code s p
  unfolding around
  innermost_around p s top = around_is code s p (below_first code p p s top).0

  pub opener_from : (p e : ℕ) (openers : List ℕ) → IsNestedBelow code p → openers ≡ around code p → length openers ≤ 63 → IsBracket code p e → ((s f : ℕ) → first openers ≡ Some s → named_end (slice_get code s) ≡ Some f → e ≤ f) → IsOpener code p e
  unfolding around
  opener_from p e openers nest is few br inside =
      record {
        bracket = br;
        shallow = let k = ap length is in omega arith;
        nested = λ s f b lt le.
            let r = first_least code p p s (is_around_from code s p (f, b, lt, le)) lt in
            let u = innermost_around p r.0 r.1 in
            let v = inside r.0 u.0 (ap first is ∙ r.1) u.1.1 in
            ⊎_elim
            (λ (same : s ≡ r.0).
            let k : f ≡ u.0 = same_end code s f u.0 b (subst (λ n. IsBracket code n u.0) (sym same) u.1) in
            omega arith)
            (λ (ne : s ≡ r.0 → ⊥).
            let l = r.2 in let m = u.2 in
            let k = nest r.0 u.0 s f m u.1 b (omega arith) (omega arith) in
            omega arith)
            (cases_eq s r.0);
      }

  pub opener_inside : (p e : ℕ) (openers : List ℕ) → openers ≡ around code p → IsOpener code p e → (s f : ℕ) → first openers ≡ Some s → named_end (slice_get code s) ≡ Some f → e ≤ f
  opener_inside p e openers is o s f top named =
      let a = innermost_around p s (sym (ap first is) ∙ top) in
      let k : a.0 ≡ f = same_Some a.0 f (sym a.1.1 ∙ named) in
      let n = o.nested s a.0 a.1 a.2 a.3 in
      omega arith
