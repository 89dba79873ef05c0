-- All that is shown of a stretch of code: that it follows its rules, where it leads, its brackets, and its steps.
use Rattle.std.proofs.Common.{◌≡◌, ℕ, ◌+◌, ◌<◌, ◌≤◌, Bool, true, false, List, [], ◌∷◌, length, Some, None, refl, sym, ap, ◌∙◌, subst, inl, inr, arith}
use Rattle.std.specs.Prelude.{slice_get, slice_index, option_map, unwrap_or, ◌⊎◌}
use Rattle.std.specs.List.{list_all}
use Rattle.std.proofs.lemmas.Bool.{and_parts, false≢true}
use Rattle.std.proofs.lemmas.Option.{slice_get-map, same_Some}
use Rattle.cse_image_parts.specs.Image.{Lists}
use Rattle.cse_code_typing.specs.declared.control.Control.{Control}
use Rattle.cse_code_typing.specs.declared.control.Control.TheVariants as c
use Rattle.cse_code_typing.specs.Bracket.{named_end, named_opener, IsFine, IsJump}
use Rattle.cse_code_typing.specs.Skeleton.{control_by}
use Rattle.cse_code_typing.specs.Signature.{Scene, signature_by}
use Rattle.cse_code_typing.specs.Rule.{Edge}
use Rattle.cse_code_typing.specs.Typing.{AgreesBelow, LeadsTo}
use Rattle.cse_verify.specs.Bound.{cost}
use Rattle.cse_compile.specs.Wide.{Wide, jump}
use Rattle.cse_meaning.proofs.At.{HasAt}
use Rattle.cse_meaning.proofs.TypedCounts.{Counts, counts_join, counts_one, counts_none}
use Rattle.cse_meaning.proofs.Spans.{Span, joined, single, IsSealed, sealed_join, sealed_none, sealed_one, jump_fine}
use Rattle.cse_meaning.proofs.WideRule.{Stack, wide_control, wide_skeleton, wide_rule, Follows, IsLedBy}

-- the stack of a place
abbrev pub stack_at : List Stack → ℕ → Stack
stack_at all q = unwrap_or (slice_get all q) []

pub stack_is : (all : List Stack) (q : ℕ) (st : Stack) → slice_get all q ≡ Some st → stack_at all q ≡ st
stack_is all q st h = ap (λ o. unwrap_or o []) h

-- ---- code without brackets

abbrev pub names_nothing : Control → Bool
names_nothing (c.Open limit end) = false
names_nothing (c.End s) = false
names_nothing _ = true

abbrev pub is_plain : Lists → Wide → Bool
is_plain x i = names_nothing (wide_control x i)

pub names_none : (d : Control) → names_nothing d ≡ true → (named_end (Some d) ≡ None) × (named_opener (Some d) ≡ None)
names_none c.Step h = (refl, refl)
names_none (c.Jump x) h = (refl, refl)
names_none (c.Branch x) h = (refl, refl)
names_none (c.Open b x) h = absurd (false≢true h)
names_none (c.End x) h = absurd (false≢true h)
names_none (c.Break x) h = (refl, refl)
names_none (c.Call x) h = (refl, refl)
names_none c.Return h = (refl, refl)

module _ (sc : Scene) (ws : List Wide) (all : List Stack) (bounds : List ℕ) where
  abbrev pub sk : List Control
  sk = wide_skeleton sc.lists ws

  abbrev pub t : ℕ → Stack
  t q = stack_at all q

  pub control_at : (q : ℕ) (i : Wide) → slice_get ws q ≡ Some i → slice_get sk q ≡ Some (wide_control sc.lists i)
  control_at q i h = slice_get-map (wide_control sc.lists) ws q ∙ ap (option_map (wide_control sc.lists)) h

  abbrev pub Bare : ℕ → Type 0
  Bare q = (named_end (slice_get sk q) ≡ None) × (named_opener (slice_get sk q) ≡ None)

  -- no bracket begins or ends in the stretch
  abbrev pub IsBare : ℕ → ℕ → Type 0
  IsBare a b = Span Bare a b

  bare_one : (q : ℕ) (i : Wide) → slice_get ws q ≡ Some i → is_plain sc.lists i ≡ true → Bare q
  bare_one q i h p =
      let at = control_at q i h in
      let k = names_none (wide_control sc.lists i) p in
      (ap named_end at ∙ k.0, ap named_opener at ∙ k.1)

  pub bare_code : (l : List Wide) (p : ℕ) → HasAt ws p l → list_all (is_plain sc.lists) l ≡ true → IsBare p (p + length l)
  bare_code [] p h e = λ q le lt. absurd (omega arith)
  bare_code (i ∷ l) p h e =
      let k = and_parts (is_plain sc.lists i) (list_all (is_plain sc.lists) l) e in
      let rest = bare_code l (p + 1) h.1 k.1 in
      λ q le lt. joined Bare p (p + 1) (p + 1 + length l) (single Bare p (bare_one p i h.0 k.0)) rest q le (omega arith)

  pub bare_sealed : (lo hi a b : ℕ) → IsBare lo hi → lo ≤ a → b ≤ hi → IsSealed sk a b
  bare_sealed lo hi a b bare l h = record {
    begins = λ s e br le lt. let k = (bare s (omega arith) (omega arith)).0 in let m = br.1 in cc;
    ends = λ s e br le lt. let k = (bare e (omega arith) (omega arith)).1 in let m = br.2 in cc;
  }

  -- ---- parts

  abbrev pub Fine : ℕ → Type 0
  Fine q = (i : Wide) → slice_get ws q ≡ Some i → Follows sc ws t q i

  -- a place is led to, or its stack is empty
  abbrev pub Led : ℕ → Type 0
  Led q = (t q ≡ []) ⊎ IsLedBy sc ws t q

  abbrev pub Neat : ℕ → Type 0
  Neat q = (d : Control) → slice_get sk q ≡ Some d → IsFine sk q d

  pub record IsPart (a b n : ℕ) : Type 0 where
    pub order : a ≤ b
    pub fine : Span Fine a b
    pub led : Span Led (a + 1) (b + 1)
    pub neat : Span Neat a b
    pub sealed : IsSealed sk a b
    pub counts : Counts bounds sk a b n

  pub part_join : (a b d m n : ℕ) → IsPart a b m → IsPart b d n → IsPart a d (m + n)
  part_join a b d m n f g =
      let ab = f.order in let bd = g.order in
      record {
        order = omega arith;
        fine = joined Fine a b d f.fine g.fine;
        led = joined Led (a + 1) (b + 1) (d + 1) f.led g.led;
        neat = joined Neat a b d f.neat g.neat;
        sealed = sealed_join sk a b d f.order g.order f.sealed g.sealed;
        counts = counts_join bounds sk a b d m n f.order f.sealed f.counts g.counts;
      }

  pub part_none : (a : ℕ) → IsPart a a 0
  part_none a = record {
    order = omega arith;
    fine = λ q le lt. absurd (omega arith);
    led = λ q le lt. absurd (omega arith);
    neat = λ q le lt. absurd (omega arith);
    sealed = sealed_none sk a;
    counts = counts_none bounds sk a;
  }

  -- the same with its end and its steps by other names
  pub part_to : (a b d n m : ℕ) → b ≡ d → n ≡ m → IsPart a b n → IsPart a d m
  part_to a b d n m e k f = subst (λ d. IsPart a d m) e (subst (λ m. IsPart a b m) k f)

  pub fine_one : (q : ℕ) (i : Wide) (st : Stack) (edges : List Edge) → slice_get ws q ≡ Some i → t q ≡ st → wide_rule sc ws q i st ≡ Some edges → AgreesBelow (length ws) t edges → Fine q
  fine_one q i st edges h s ruled agrees j at =
      let e : i ≡ j = same_Some i j (sym h ∙ at) in
      subst (λ j. Follows sc ws t q j) e (record { edges = edges; ruled = ap (wide_rule sc ws q i) s ∙ ruled; agrees = agrees })

  pub led_one : (q k : ℕ) (i : Wide) (st : Stack) (edges : List Edge) → slice_get ws q ≡ Some i → t q ≡ st → wide_rule sc ws q i st ≡ Some edges → LeadsTo k edges → q < k → Led k
  led_one q k i st edges h s ruled leads lt =
      inr (record { from = q; instr = i; edges = edges; there = h; smaller = lt; ruled = ap (wide_rule sc ws q i) s ∙ ruled; leads = leads })

  pub neat_one : (q : ℕ) (i : Wide) → slice_get ws q ≡ Some i → IsFine sk q (wide_control sc.lists i) → Neat q
  neat_one q i h f d at =
      let e : wide_control sc.lists i ≡ d = same_Some (wide_control sc.lists i) d (sym (control_at q i h) ∙ at) in
      subst (IsFine sk q) e f

  -- one instruction, that begins and ends no bracket
  pub part_one : (q : ℕ) (i : Wide) (st : Stack) (edges : List Edge) → slice_get ws q ≡ Some i → t q ≡ st → wide_rule sc ws q i st ≡ Some edges → AgreesBelow (length ws) t edges → Led (q + 1) → IsFine sk q (wide_control sc.lists i) → is_plain sc.lists i ≡ true → IsPart q (q + 1) (cost bounds (Some (wide_control sc.lists i)))
  part_one q i st edges h s ruled agrees led neat plain =
      let k = names_none (wide_control sc.lists i) plain in
      record {
        order = omega arith;
        fine = single Fine q (fine_one q i st edges h s ruled agrees);
        led = single Led (q + 1) led;
        neat = single Neat q (neat_one q i h neat);
        sealed = sealed_one sk q (wide_control sc.lists i) (control_at q i h) k.0 k.1;
        counts = counts_one bounds sk q (wide_control sc.lists i) (control_at q i h);
      }

  -- one instruction that only leads to the next place
  pub part_step : (q : ℕ) (i : Wide) (st after : Stack) → slice_get ws q ≡ Some i → t q ≡ st → wide_rule sc ws q i st ≡ Some ((q + 1, after) ∷ []) → t (q + 1) ≡ after → wide_control sc.lists i ≡ c.Step → IsPart q (q + 1) 1
  part_step q i st after h s ruled s' step =
      let neat : IsFine sk q (wide_control sc.lists i) = subst (IsFine sk q) (sym step) tt in
      let one = part_one q i st _ h s ruled ((λ lt. s'), tt) (led_one q (q + 1) i st _ h s ruled (inl refl) (omega arith)) neat (ap names_nothing step) in
      part_to q (q + 1) (q + 1) _ 1 refl (ap (λ d. cost bounds (Some d)) step) one

  pub part_call : (q f : ℕ) (i : Wide) (st after : Stack) → slice_get ws q ≡ Some i → t q ≡ st → wide_rule sc ws q i st ≡ Some ((q + 1, after) ∷ []) → t (q + 1) ≡ after → wide_control sc.lists i ≡ c.Call f → IsPart q (q + 1) (1 + slice_index bounds f)
  part_call q f i st after h s ruled s' step =
      let neat : IsFine sk q (wide_control sc.lists i) = subst (IsFine sk q) (sym step) tt in
      let one = part_one q i st _ h s ruled ((λ lt. s'), tt) (led_one q (q + 1) i st _ h s ruled (inl refl) (omega arith)) neat (ap names_nothing step) in
      part_to q (q + 1) (q + 1) _ (1 + slice_index bounds f) refl (ap (λ d. cost bounds (Some d)) step) one

  -- one that also leads to a later place
  pub part_branch : (q n : ℕ) (i : Wide) (st rest after : Stack) → slice_get ws q ≡ Some i → t q ≡ st → wide_rule sc ws q i st ≡ Some ((n, rest) ∷ (q + 1, after) ∷ []) → t n ≡ rest → t (q + 1) ≡ after → wide_control sc.lists i ≡ c.Branch n → IsJump sk q n → IsPart q (q + 1) 1
  part_branch q n i st rest after h s ruled s' s'' step j =
      let neat : IsFine sk q (wide_control sc.lists i) = subst (IsFine sk q) (sym step) j in
      let one = part_one q i st _ h s ruled ((λ lt. s'), ((λ lt. s''), tt)) (led_one q (q + 1) i st _ h s ruled (inr (inl refl)) (omega arith)) neat (ap names_nothing step) in
      part_to q (q + 1) (q + 1) _ 1 refl (ap (λ d. cost bounds (Some d)) step) one

  pub led_branch : (q n : ℕ) (i : Wide) (st rest after : Stack) → slice_get ws q ≡ Some i → t q ≡ st → wide_rule sc ws q i st ≡ Some ((n, rest) ∷ (q + 1, after) ∷ []) → q < n → Led n
  led_branch q n i st rest after h s ruled lt = led_one q n i st _ h s ruled (inl refl) lt

  -- a jump
  pub part_jump : (q n : ℕ) (st : Stack) → slice_get ws q ≡ Some (jump n) → t q ≡ st → t n ≡ st → Led (q + 1) → IsJump sk q n → IsPart q (q + 1) 1
  unfolding signature_by control_by
  part_jump q n st h s s' led j = part_one q (jump n) st ((n, st) ∷ []) h s refl ((λ lt. s'), tt) led j refl

  -- the same of the place with another name
  pub at_place : (p q : ℕ) (st : Stack) → p ≡ q → t p ≡ st → t q ≡ st
  at_place p q st e h = subst (λ n. t n ≡ st) e h

  pub led_place : (p q : ℕ) → p ≡ q → Led p → Led q
  led_place p q e h = subst Led e h

  -- a jump forward in a stretch without brackets
  pub bare_jump : (lo hi q n : ℕ) → IsBare lo hi → lo ≤ q → n ≤ hi → q < n → hi < length sk → IsJump sk q n
  bare_jump lo hi q n bare l h lt inside = jump_fine sk q n lt (omega arith) (bare_sealed lo hi q n bare l h)
