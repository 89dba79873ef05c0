-- What holds of wide code holds of the instructions that stand for it.
use Rattle.std.proofs.Common.{◌≡◌, ℕ, suc, ◌+◌, ◌<◌, ◌≤◌, Bool, List, [], ◌∷◌, ◌++◌, length, Option, Some, refl, sym, ap, ◌∙◌, subst, ⊎_elim, arith}
use Rattle.std.specs.Prelude.{slice_get, ◌||◌, option_and_then}
use Rattle.std.specs.List.{list_any}
use Rattle.std.specs.Option.{option_map_or}
use Rattle.std.proofs.lemmas.Bool.{cases_lt, cases_eq, lt-ltb}
use Rattle.std.proofs.lemmas.List.{length-map}
use Rattle.std.proofs.lemmas.Option.{same_Some, slice_get_within, slice_get_past}
use Rattle.cse_image_parts.specs.declared.instruction.Op.TheVariants as ops
use Rattle.cse_image_parts.specs.declared.instruction.Instr.{Instr}
use Rattle.cse_image_parts.specs.Image.{Lists}
use Rattle.cse_code_typing.specs.declared.kind.Kind.{Kind}
use Rattle.cse_code_typing.specs.declared.kind.Kind.TheVariants as k
use Rattle.cse_code_typing.specs.declared.control.Control.TheVariants as c
use Rattle.cse_code_typing.specs.Bracket.{around, KeepsRules}
use Rattle.cse_code_typing.specs.Kinds.{below, top_of}
use Rattle.cse_code_typing.specs.Skeleton.{control_by, control, skeleton}
use Rattle.cse_code_typing.specs.Signature.{Scene, Signature, ◌⇒◌, provided, signature_by, loops_by, loops_over, is_in_loop}
use Rattle.cse_code_typing.specs.Rule.{exits, rule}
use Rattle.cse_code_typing.specs.Typing.{AgreesBelow, FollowsRule, IsLedTo, IsTypedCode}
use Rattle.cse_compile.specs.Wide as w
use Rattle.cse_compile.specs.Wide.{Wide, bare}
use Rattle.cse_meaning.specs.Stands.{Stands, AllStand}
use Rattle.cse_meaning.proofs.At.{HasAt, has_self}
use Rattle.cse_meaning.proofs.WideRule.{Stack, wide_control, wide_skeleton, wide_loops, wide_in_loop, wide_signature, wide_rule, field_a, IsLedBy}
use Rattle.cse_meaning.proofs.TypedParts.{stack_at, IsPart, control_at}

control_stands : (x : Lists) (i : Instr) (y : Wide) → Stands x i y → control x i ≡ wide_control x y
unfolding control_by
control_stands x i (w.Constant z) h = ap (λ o. control_by x o i.a i.b i.c) h.0
control_stands x i (w.Chars text) h = ap (λ o. control_by x o i.a i.b i.c) h.0
control_stands x i (w.Turns limit end) h =
    ap (λ o. control_by x o i.a i.b i.c) h.0 ∙ ap (λ n. c.Open (option_map_or (λ n. n) n 0) i.c) h.1 ∙ ap (λ n. c.Open limit n) h.2
control_stands x i (w.Plain op a b d) h = ap (control x) h

loops_stand : (x : Lists) (a : ℕ) (i : Instr) (y : Wide) → Stands x i y → loops_over a (Some i) ≡ wide_loops a (Some y)
unfolding loops_by
loops_stand x a i (w.Constant z) h = ap (λ o. loops_by o i.a a) h.0
loops_stand x a i (w.Chars text) h = ap (λ o. loops_by o i.a a) h.0
loops_stand x a i (w.Turns limit end) h = ap (λ o. loops_by o i.a a) h.0
loops_stand x a i (w.Plain op b n m) h = ap (λ i. loops_over a (Some i)) h

same_skeleton : (x : Lists) (is : List Instr) (ws : List Wide) → AllStand x is ws → skeleton x is ≡ wide_skeleton x ws
same_skeleton x [] [] h = refl
same_skeleton x [] (y ∷ ys) h = absurd h
same_skeleton x (i ∷ is) [] h = absurd h
same_skeleton x (i ∷ is) (y ∷ ys) h =
    ap (λ c. c ∷ skeleton x is) (control_stands x i y h.0) ∙ ap (λ l. wide_control x y ∷ l) (same_skeleton x is ys h.1)

same_length : (x : Lists) (is : List Instr) (ws : List Wide) → AllStand x is ws → length is ≡ length ws
same_length x [] [] h = refl
same_length x [] (y ∷ ys) h = absurd h
same_length x (i ∷ is) [] h = absurd h
same_length x (i ∷ is) (y ∷ ys) h = ap suc (same_length x is ys h.1)

-- what stands at a place of both
record BothAt (x : Lists) (code : List Instr) (ws : List Wide) (q : ℕ) : Type 0 where
  instr : Instr
  wide : Wide
  there : slice_get code q ≡ Some instr
  said : slice_get ws q ≡ Some wide
  stands : Stands x instr wide

both_from : (x : Lists) (code : List Instr) (wides : List Wide) (is : List Instr) (ws : List Wide) (p : ℕ) → AllStand x is ws → HasAt code p is → HasAt wides p ws → (q : ℕ) → p ≤ q → q < p + length is → BothAt x code wides q
both_from x code wides [] [] p h f g q le lt = absurd (omega arith)
both_from x code wides [] (y ∷ ys) p h f g q le lt = absurd h
both_from x code wides (i ∷ is) [] p h f g q le lt = absurd h
both_from x code wides (i ∷ is) (y ∷ ys) p h f g q le lt = ⊎_elim
    (λ (e : p ≡ q). subst (BothAt x code wides) e (record { instr = i; wide = y; there = f.0; said = g.0; stands = h.0 }))
    (λ (e : p ≡ q → ⊥). both_from x code wides is ys (p + 1) h.1 f.1 g.1 q (omega arith) (omega arith))
    (cases_eq p q)

any_same : (f g : ℕ → Bool) (l : List ℕ) → ((o : ℕ) → f o ≡ g o) → list_any f l ≡ list_any g l
any_same f g [] e = refl
any_same f g (o ∷ os) e = ap (λ b. b || list_any f os) (e o) ∙ ap (λ b. g o || b) (any_same f g os e)

module _ (s : Scene) (code : List Instr) (ws : List Wide) (h : AllStand s.lists code ws) where
  both : (q : ℕ) → q < length code → BothAt s.lists code ws q
  both q lt = both_from s.lists code ws code ws 0 h (has_self code) (has_self ws) q (omega arith) (omega arith)

  -- each instruction stands for a wide one
  pub each_stands : (q : ℕ) (i : Instr) → q < length code → slice_get code q ≡ Some i → (y : Wide) × (slice_get ws q ≡ Some y) × Stands s.lists i y
  each_stands q i lt at =
      let b = both q lt in
      let e : b.instr ≡ i = same_Some b.instr i (sym b.there ∙ at) in
      (b.wide, b.said, subst (λ i. Stands s.lists i b.wide) e b.stands)

  len : length code ≡ length ws
  len = same_length s.lists code ws h

  pub skeletons : skeleton s.lists code ≡ wide_skeleton s.lists ws
  skeletons = same_skeleton s.lists code ws h

  loops_at : (a o : ℕ) → loops_over a (slice_get code o) ≡ wide_loops a (slice_get ws o)
  loops_at a o = ⊎_elim
      (λ (lt : o < length code). let b = both o lt in ap (loops_over a) b.there ∙ loops_stand s.lists a b.instr b.wide b.stands ∙ sym (ap (wide_loops a) b.said))
      (λ (le : length code ≤ o). ap (loops_over a) (slice_get_past code o le) ∙ sym (ap (wide_loops a) (slice_get_past ws o (omega (arith, len)))))
      (cases_lt o (length code))

  in_loop_same : (q a : ℕ) → is_in_loop s.lists code q a ≡ wide_in_loop s.lists ws q a
  in_loop_same q a =
      any_same (λ o. loops_over a (slice_get code o)) (λ o. wide_loops a (slice_get ws o)) (around (skeleton s.lists code) q) (loops_at a)
      ∙ ap (λ k. list_any (λ o. wide_loops a (slice_get ws o)) (around k q)) skeletons

  signature_stands : (q : ℕ) (top : Option Kind) (i : Instr) (y : Wide) → Stands s.lists i y → signature_by s (is_in_loop s.lists code q i.a) top i.op i.a i.b i.c ≡ wide_signature s (wide_in_loop s.lists ws q (field_a y)) top y
  unfolding signature_by
  signature_stands q top i (w.Constant z) f =
      ap (λ o. signature_by s (is_in_loop s.lists code q i.a) top o i.a i.b i.c) f.0
      ∙ ap (λ b. provided b ([] ⇒ k.Number ∷ [])) (lt-ltb i.c (length s.lists.constants) (slice_get_within s.lists.constants i.c z f.1))
  signature_stands q top i (w.Chars text) f =
      ap (λ o. signature_by s (is_in_loop s.lists code q i.a) top o i.a i.b i.c) f.0
      ∙ ap (λ b. provided b ([] ⇒ k.Text ∷ [])) (lt-ltb i.c (length s.lists.texts) (slice_get_within s.lists.texts i.c text f.1))
  signature_stands q top i (w.Turns limit end) f =
      ap (λ o. signature_by s (is_in_loop s.lists code q i.a) top o i.a i.b i.c) f.0 ∙ ap (option_and_then (λ n. k.Number ∷ [] ⇒ [])) f.1
  signature_stands q top i (w.Plain op a b d) f =
      ap (λ (i : Instr). signature_by s (is_in_loop s.lists code q i.a) top i.op i.a i.b i.c) f ∙ ap (λ l. signature_by s l top op a b d) (in_loop_same q a)

  rule_stands : (q : ℕ) (st : Stack) (i : Instr) (y : Wide) → Stands s.lists i y → rule s code q i st ≡ wide_rule s ws q y st
  rule_stands q st i y f =
      ap (λ d. option_and_then (λ (x : Signature). option_and_then (λ (rest : Stack). exits q d rest (x.leaves ++ rest)) (below x.takes st)) (signature_by s (is_in_loop s.lists code q i.a) (top_of st) i.op i.a i.b i.c)) (control_stands s.lists i y f)
      ∙ ap (option_and_then (λ (x : Signature). option_and_then (λ (rest : Stack). exits q (wide_control s.lists y) rest (x.leaves ++ rest)) (below x.takes st))) (signature_stands q (top_of st) i y f)

  -- ---- a whole routine

  module _ (all : List Stack) (bounds : List ℕ) (n : ℕ) (part : IsPart s ws all bounds 0 (length ws) n) where
    pub keeps : (last : ℕ) → last + 1 ≡ length ws → slice_get ws last ≡ Some (bare ops.Return) → KeepsRules (skeleton s.lists code)
    unfolding control_by
    keeps last e ret =
        let sk_len = length-map ws (wide_control s.lists) in
        let wide : KeepsRules (wide_skeleton s.lists ws) = λ p lt d at. (
          part.neat p (omega arith) (omega (arith, sk_len, lt)) d at,
          λ e'.
              let z : p ≡ last = omega (arith, sk_len) in
              let f = subst (λ n. slice_get (wide_skeleton s.lists ws) n ≡ Some d) z at in
              same_Some d c.Return (sym f ∙ control_at s ws all bounds last (bare ops.Return) ret),
        ) in
        subst KeepsRules (sym skeletons) wide

    follows : (q : ℕ) (i : Instr) → q < length code → slice_get code q ≡ Some i → FollowsRule (rule s code) (length code) (stack_at all) q i
    follows q i lt at =
        let b = both q lt in
        let e : b.instr ≡ i = same_Some b.instr i (sym b.there ∙ at) in
        let f = part.fine q (omega arith) (omega (arith, len)) b.wide b.said in
        let st = subst (λ i. Stands s.lists i b.wide) e b.stands in
        record { edges = f.edges; ruled = rule_stands q (stack_at all q) i b.wide st ∙ f.ruled; agrees = subst (λ n. AgreesBelow n (stack_at all) f.edges) (sym len) f.agrees }

    led_to : (q : ℕ) → q < length code → IsLedBy s ws (stack_at all) q → IsLedTo (rule s code) code (stack_at all) q
    led_to q lt l =
        let small = l.smaller in
        let b = both l.from (omega arith) in
        let e : b.wide ≡ l.instr = same_Some b.wide l.instr (sym b.said ∙ l.there) in
        let st = subst (λ y. Stands s.lists b.instr y) e b.stands in
        record { from = l.from; instr = b.instr; edges = l.edges; there = b.there; smaller = l.smaller; ruled = rule_stands l.from (stack_at all l.from) b.instr l.instr st ∙ l.ruled; leads = l.leads }

    pub typed : stack_at all 0 ≡ [] → IsTypedCode (rule s code) code
    typed start = (
      (λ q. stack_at all q),
      record {
        follows = follows;
        others = λ k' lt none.
            ⊎_elim
            (λ (z : k' ≡ 0). subst (λ n. stack_at all n ≡ []) (sym z) start)
            (λ (z : k' ≡ 0 → ⊥).
            ⊎_elim
            (λ (e : stack_at all k' ≡ []). e)
            (λ (l : IsLedBy s ws (stack_at all) k'). absurd (none (led_to k' lt l)))
            (part.led k' (omega arith) (omega (arith, len))))
            (cases_eq k' 0);
      },
    )
