-- The code of loops leads where they end.
use Rattle.std.proofs.Common.{◌≡◌, ℕ, zero, suc, ◌+◌, ◌≤◌, true, false, List, [], ◌∷◌, length, Option, Some, None, refl, sym, ap, ◌∙◌, subst, arith}
use Rattle.std.specs.Prelude.{pos, option_and_then, if◌then◌else◌}
use Rattle.std.proofs.lemmas.Bool.{and_from, le-leb, eq-eqb}
use Rattle.cse_value.specs.declared.number.Num.{Num}
use Rattle.cse_value.specs.declared.number.Num.TheVariants.{Whole}
use Rattle.cse_image_parts.specs.declared.instruction.Op.TheVariants as ops
use Rattle.cse_case.specs.Case.{CaseText, places_of}
use Rattle.cse_dict.specs.Dictionary.{shape_of}
use Rattle.cse_dict.specs.Sound.{IsSound}
use Rattle.cse_code_typing.specs.Signature.{is_record}
use Rattle.cse_logic_tree.specs.declared.tree.Variable.{Variable}
use Rattle.cse_logic_tree.specs.declared.tree.Variable.TheVariants as v
use Rattle.cse_logic_tree.specs.Typed as tree
use Rattle.cse_logic_tree.specs.Typed.{Limit, Fixed, Counted, Counting, Which, Statement, Statements, Arms}
use Rattle.cse_logic_tree.specs.Typed.{Empty, Set, SetText, SetItem, SetTextItem, SetCell, CallOf, If, For, Do, Jump', Impute, PutDeck, ErrMsg, no_statement, statement_and, no_arm, else_of, arm}
use Rattle.cse_compile.specs.Wide as wide
use Rattle.cse_compile.specs.Wide.{pops, Wide, bare, with_a, with_c, jump, jump_size, jump_over}
use Rattle.cse_compile.specs.Setting.{Setting}
use Rattle.cse_compile.specs.declared.setting.Loop.{Loop}
use Rattle.cse_compile.specs.Expressions.{store, number_size, number_code}
use Rattle.cse_compile.specs.Statements.{step_code, loop_to}
use Rattle.cse_meaning.specs.Fit.{IsNumberVariable}
use Rattle.cse_steps.specs.Cell.{Cell, Number}
use Rattle.cse_steps.specs.State.{Open, Call, World}
use Rattle.cse_steps.specs.Operands.{is_within, combined, turns_of}
use Rattle.cse_steps.specs.Step.{stepped, current, current_by, acts, entered, again}
use Rattle.cse_steps.specs.Fits.{FitsWorld, occurrences_in}
use Rattle.cse_steps.specs.Laws.{RunsCompose}
use Rattle.cse_meaning.specs.Setting.{Context, Locals, Functions, within}
use Rattle.cse_meaning.specs.Reading.{many, variable}
use Rattle.cse_syntax_tree.specs.declared.tree.Count.TheVariants as counts
use Rattle.cse_value.specs.Number.{sum_of}
use Rattle.cse_meaning.specs.Writing.{local_set, global_set}
use Rattle.cse_meaning.specs.Expressions.{number_of}
use Rattle.cse_meaning.specs.Statements.{limit, turn_and, repeated, Flow, Fell, Broke, Skipped, Left, Does, then_do, set, after_turn, over, all_do}
use Rattle.cse_meaning.specs.Runs.{Goes, Spot, at, IsThere, HasCode}
use Rattle.cse_meaning.specs.Laid.{IsLaid, KeepsRows, AreOpen, place_in}
use Rattle.cse_meaning.specs.Follows.{Follows}
use Rattle.cse_meaning.specs.Plain.{IsOwn}
use Rattle.cse_meaning.specs.Lands.{Around, Lands}
use Rattle.cse_meaning.proofs.Facts.{many_of, as_first, many_first, case_here}
use Rattle.cse_meaning.proofs.Items.{current_goes, occurrence_number_goes}
use Rattle.cse_code_typing.specs.Order.{is_run}
use Rattle.cse_meaning.proofs.Going.{acts_at, constant_goes, left, joined, plain_at, named}
use Rattle.cse_meaning.proofs.Simulation.{number_goes}
use Rattle.cse_meaning.proofs.Held.{set_fits}
use Rattle.cse_meaning.proofs.Landing.{fell, laid_within, laid_without, variable_set}

-- the bracket of a turn of a `for`
abbrev pub bracket_of : ℕ → ℕ → ℕ → ℕ → Open
bracket_of p of left o = record { opener = p; left = left; over = Some (of, o) }

-- and of a `do`
abbrev pub counted_bracket : ℕ → ℕ → Open
counted_bracket q left = record { opener = q; left = left; over = None }

module _ (compose : RunsCompose) (e : Setting) (s0 : Spot) (fn : Functions) (c0 : Context) (first : Option CaseText) (n : ℕ) (sound : IsSound s0.program.dictionary) (keeps : KeepsRows s0.program.dictionary) (follows : Follows s0.program first fn s0.number) where
  abbrev spot : List Cell → List Open → Spot
  spot locals opens = record s0 { locals = locals; opens = opens }

  abbrev turns : List (ℕ × ℕ) → Context
  turns loops = record c0 { loops = loops }

  abbrev Led : List Cell → List Open → List (ℕ × ℕ) → Loop → Around → ℕ → ℕ → World → Flow → Type 0
  Led L O K l a p q w f = Lands e (spot L O) (turns K) first n l a p q w f

  -- ---- loops

  -- where a turn leads
  module _ (turn_end end p : ℕ) (L0 : List Cell) (O : List Open) (K : List (ℕ × ℕ)) (l : Loop) (a : Around) (w0 : World) (loops_are : AreOpen first O K) where
    -- a turn that ended goes on with what follows it; `break` leads behind the loop
    pub turn_ends : (f : Flow) (go : Does) (M : List Cell) (b : Open) (J : List (ℕ × ℕ)) (q r : ℕ) (v : World) → r ≡ end + 1 → Goes s0.program (at (spot L0 O) p [] w0) (at (spot M (b ∷ O)) q [] v)
        → Lands e (spot M (b ∷ O)) (turns J) first n (loop_to turn_end end) (record { is_loop = true; opens = O; loops = K }) q turn_end v f
        → ((N : List Cell) (ls : Locals) (u : World) → Goes s0.program (at (spot L0 O) p [] w0) (at (spot N (b ∷ O)) turn_end [] u) → IsLaid e (spot N O) (turns K) first ls → length ls.parameters ≡ n → FitsWorld s0.program first u → Led L0 O K l a p r w0 (go ls u))
        → Led L0 O K l a p r w0 (after_turn f go)
    turn_ends (Fell ls u) go M b J q r v e' g h rest = rest h.locals ls u (joined compose s0.program _ _ _ g h.goes) (laid_without compose e s0 fn c0 first n sound keeps follows h.locals (b ∷ O) O J K ls h.laid loops_are) h.many h.fits
    turn_ends (Skipped ls u) go M b J q r v e' g h rest = rest h.1.locals ls u (joined compose s0.program _ _ _ g h.1.goes) (laid_without compose e s0 fn c0 first n sound keeps follows h.1.locals (b ∷ O) O J K ls h.1.laid loops_are) h.1.many h.1.fits
    turn_ends (Broke ls u) go M b J q r v e' g h rest = record {
      locals = h.1.locals;
      goes = subst (λ r. Goes s0.program (at (spot L0 O) p [] w0) (at (spot h.1.locals O) r [] u)) (sym e') (joined compose s0.program _ _ _ g h.1.goes);
      laid = h.1.laid;
      many = h.1.many;
      fits = h.1.fits;
    }
    turn_ends (Left ls u) go M b J q r v e' g h rest = record { goes = joined compose s0.program _ _ _ g h.goes; fits = h.fits }

  module _ (y : Variable) (of nb p : ℕ) (body : Statements) (L0 : List Cell) (O : List Open) (K : List (ℕ × ℕ)) (l : Loop) (a : Around) (w0 : World) (loops_are : AreOpen first O K) (there : IsThere s0)
      (own : IsOwn n y) (is_number : IsNumberVariable (place_in e s0 (turns K)) y) (ambient : is_run s0.routine.ambient ≡ false)
      (head : HasCode s0 (p + 1) (with_a ops.CurrentOccurrence of ∷ with_a ops.OccurrenceNumber of ∷ store e y ∷ [])) (last : HasCode s0 (p + 4 + nb) (with_c ops.End p ∷ []))
      (body_lands : (M : List Cell) (left o : ℕ) (ls : Locals) (v : World) → IsLaid e (spot M (bracket_of p of left o ∷ O)) (turns ((of, o) ∷ K)) first ls → length ls.parameters ≡ n → FitsWorld s0.program first v
      → Lands e (spot M (bracket_of p of left o ∷ O)) (turns ((of, o) ∷ K)) first n (loop_to (p + 4 + nb) (p + 4 + nb)) (record { is_loop = true; opens = O; loops = K }) (p + 4) (p + 4 + nb) v (all_do fn (within (turns K) of o) body ls v)) where
    -- the variable is set to the occurrence of the turn, and the body is done
    abbrev turn : ℕ → Does
    turn o ls w = then_do (set y (Whole (pos o)) ls w) (all_do fn (within (turns K) of o) body)

    -- the END leads into the next turn, or behind the loop
    pub last_turn : (M : List Cell) (o : ℕ) (v : World) → Goes s0.program (at (spot M (bracket_of p of 0 o ∷ O)) (p + 4 + nb) [] v) (at (spot M O) (p + 4 + nb + 1) [] v)
    unfolding acts
    last_turn M o v =
        let c : Call = record { routine = s0.number; place = p + 4 + nb; locals = M; cells = []; opens = bracket_of p of 0 o ∷ O } in
        plain_at compose (spot M (bracket_of p of 0 o ∷ O)) there (p + 4 + nb) ops.End 0 0 p [] v _ last (ap (λ b. left s0.below (if b then again c v (bracket_of p of 0 o) O 0 else None)) (eq-eqb p p refl))

    pub next_turn : (M : List Cell) (left o : ℕ) (v : World) → Goes s0.program (at (spot M (bracket_of p of (suc left) o ∷ O)) (p + 4 + nb) [] v) (at (spot M (bracket_of p of left (o + 1) ∷ O)) (p + 1) [] v)
    unfolding acts
    next_turn M k o v =
        let c : Call = record { routine = s0.number; place = p + 4 + nb; locals = M; cells = []; opens = bracket_of p of (suc k) o ∷ O } in
        plain_at compose (spot M (bracket_of p of (suc k) o ∷ O)) there (p + 4 + nb) ops.End 0 0 p [] v _ last (ap (λ b. left s0.below (if b then again c v (bracket_of p of (suc k) o) O (suc k) else None)) (eq-eqb p p refl))

    -- one turn, and what follows it
    pub turn_lands : (k o : ℕ) (M : List Cell) (ls : Locals) (v : World) (go : Does) → Goes s0.program (at (spot L0 O) p [] w0) (at (spot M (bracket_of p of k o ∷ O)) (p + 1) [] v) → IsLaid e (spot M O) (turns K) first ls → length ls.parameters ≡ n → FitsWorld s0.program first v
        → is_within (occurrences_in first of) o ≡ true
        → ((N : List Cell) (ls : Locals) (u : World) → Goes s0.program (at (spot L0 O) p [] w0) (at (spot N (bracket_of p of k o ∷ O)) (p + 4 + nb) [] u) → IsLaid e (spot N O) (turns K) first ls → length ls.parameters ≡ n → FitsWorld s0.program first u → Led L0 O K l a p (p + (nb + 5)) w0 (go ls u))
        → Led L0 O K l a p (p + (nb + 5)) w0 (after_turn (turn o ls v) go)
    turn_lands k o M ls v go g laid many_are fits h rest =
        let b = bracket_of p of k o in
        let t = case_here e (spot M O) (turns K) first ls laid v fits ambient in
        let here : current of (b ∷ O) ≡ Some o = ap (λ c. if c then Some o else current of O) (eq-eqb of of refl) in
        let seen = subst (λ n. is_within n o ≡ true) (as_first s0.program first v t.0 of fits t.1) h in
        let i = current_goes compose (spot M (b ∷ O)) there v t.0 t.1 (p + 1) of o [] here (head.0, tt) in
        let j = occurrence_number_goes compose (spot M (b ∷ O)) there v t.0 t.1 of (p + 1 + 1) o [] seen (head.1.0, tt) in
        let x = variable_set compose e s0 fn c0 first n sound keeps follows M (b ∷ O) O K y (Whole (pos o)) ls (p + 1 + 1 + 1) v laid many_are own is_number (head.1.1.0, tt) in
        let z : p + 1 + 1 + 1 + 1 ≡ p + 4 = omega arith in
        let g' = joined compose s0.program _ _ _ g (joined compose s0.program _ _ _ i (joined compose s0.program _ _ _ j (subst (λ q. Goes s0.program (at (spot M (b ∷ O)) (p + 1 + 1 + 1) (Number (Whole (pos o)) ∷ []) v) (at (spot x.locals (b ∷ O)) q [] (global_set y (Whole (pos o)) v))) z x.goes))) in
        let inside = laid_within compose e s0 fn c0 first n sound keeps follows of o b x.locals O K (local_set y (Whole (pos o)) ls) x.laid refl h in
        let set_fits' = set_fits e s0 (turns K) first v y (Whole (pos o)) fits is_number in
        let r : p + (nb + 5) ≡ p + 4 + nb + 1 = omega arith in
        turn_ends (p + 4 + nb) (p + 4 + nb) p L0 O K l a w0 loops_are (turn o ls v) go x.locals b ((of, o) ∷ K) (p + 4) (p + (nb + 5)) (global_set y (Whole (pos o)) v) r g' (body_lands x.locals k o (local_set y (Whole (pos o)) ls) (global_set y (Whole (pos o)) v) inside x.many set_fits') rest

    pub turns_land : (k o : ℕ) (M : List Cell) (ls : Locals) (v : World) → Goes s0.program (at (spot L0 O) p [] w0) (at (spot M (bracket_of p of k o ∷ O)) (p + 1) [] v) → IsLaid e (spot M O) (turns K) first ls → length ls.parameters ≡ n → FitsWorld s0.program first v
        → 1 ≤ o → o + k ≡ occurrences_in first of → Led L0 O K l a p (p + (nb + 5)) w0 (over (suc k) o turn ls v)
    turns_land zero o M ls v g laid many_are fits low all =
        turn_lands zero o M ls v (over zero (o + 1) turn) g laid many_are fits (and_from _ _ (le-leb 1 o low) (le-leb o (occurrences_in first of) (omega arith)))
        (λ N ls u g laid many_are fits. (let z : p + 4 + nb + 1 ≡ p + (nb + 5) = omega arith in
        record { locals = N; goes = subst (λ r. Goes s0.program (at (spot L0 O) p [] w0) (at (spot N O) r [] u)) z (joined compose s0.program _ _ _ g (last_turn N o u)); laid = laid; many = many_are; fits = fits }))
    turns_land (suc k) o M ls v g laid many_are fits low all =
        turn_lands (suc k) o M ls v (over (suc k) (o + 1) turn) g laid many_are fits (and_from _ _ (le-leb 1 o low) (le-leb o (occurrences_in first of) (omega arith)))
        (λ N ls u g laid many_are fits. turns_land k (o + 1) N ls u (joined compose s0.program _ _ _ g (next_turn N k o u)) laid many_are fits (omega arith) (omega arith))

    -- from the opener on
    pub enters : (m : ℕ) (ls : Locals) → many w0 of ≡ m → IsLaid e (spot L0 O) (turns K) first ls → length ls.parameters ≡ n → FitsWorld s0.program first w0 → is_record (shape_of s0.program.dictionary) of ≡ true
        → HasCode s0 p (wide.Plain ops.LoopOccurrences of 0 (p + 4 + nb) ∷ []) → Led L0 O K l a p (p + (nb + 5)) w0 (over m 1 turn ls w0)
    unfolding acts
    enters zero ls m_is laid many_are fits rec has =
        let c : Call = record { routine = s0.number; place = p; locals = L0; cells = []; opens = O } in
        let t = case_here e (spot L0 O) (turns K) first ls laid w0 fits ambient in
        let z : p + 4 + nb + 1 ≡ p + (nb + 5) = omega arith in
        fell compose e s0 fn c0 first n sound keeps follows L0 O K ls laid many_are l a p (p + (nb + 5)) w0 w0
        (named compose (spot L0 O) there _ _ _ _ _ z
        (plain_at compose (spot L0 O) there p ops.LoopOccurrences of 0 (p + 4 + nb) [] w0 _ has
        (ap (λ o. left s0.below (option_and_then (λ t. if is_record (shape_of s0.program.dictionary) of then entered c w0 [] (Some (of, 1)) (length (places_of t of)) (p + 4 + nb) else None) o)) t.1
        ∙ (ap (λ b. left s0.below (if b then entered c w0 [] (Some (of, 1)) (length (places_of t.0 of)) (p + 4 + nb) else None)) rec
        ∙ ap (λ m. left s0.below (entered c w0 [] (Some (of, 1)) m (p + 4 + nb))) (sym (many_of w0 t.0 of t.1) ∙ m_is))))) fits
    enters (suc k) ls m_is laid many_are fits rec has =
        let c : Call = record { routine = s0.number; place = p; locals = L0; cells = []; opens = O } in
        let t = case_here e (spot L0 O) (turns K) first ls laid w0 fits ambient in
        let g = plain_at compose (spot L0 O) there p ops.LoopOccurrences of 0 (p + 4 + nb) [] w0 _ has
        (ap (λ o. left s0.below (option_and_then (λ t. if is_record (shape_of s0.program.dictionary) of then entered c w0 [] (Some (of, 1)) (length (places_of t of)) (p + 4 + nb) else None) o)) t.1
        ∙ (ap (λ b. left s0.below (if b then entered c w0 [] (Some (of, 1)) (length (places_of t.0 of)) (p + 4 + nb) else None)) rec
        ∙ ap (λ m. left s0.below (entered c w0 [] (Some (of, 1)) m (p + 4 + nb))) (sym (many_of w0 t.0 of t.1) ∙ m_is))) in
        let m : suc k ≡ occurrences_in first of = sym m_is ∙ many_first s0.program first w0 of fits in
        turns_land k 1 L0 ls w0 g laid many_are fits (omega arith) (let z : 1 + k ≡ suc k = omega arith in z ∙ m)

  -- ---- a `do`

  -- with a bracket more that is over no record
  pub laid_more : (b : Open) (L : List Cell) (O : List Open) (K : List (ℕ × ℕ)) (ls : Locals) → IsLaid e (spot L O) (turns K) first ls → b.over ≡ None → IsLaid e (spot L (b ∷ O)) (turns K) first ls
  laid_more b L O K ls laid over_is = record {
    there = laid.there;
    dictionary = laid.dictionary;
    arrays = laid.arrays;
    records = laid.records;
    ambient = laid.ambient;
    parameters = laid.parameters;
    apart = laid.apart;
    result = laid.result;
    event = laid.event;
    loops = λ x some. (ap (λ y. current_by x y (current x O)) over_is ∙ (laid.loops x some).0, (laid.loops x some).1);
  }

  -- what ends a turn stands before compose e s0 fn c0 first n sound keeps follows what follows it
  pub same_turn : (f : Flow) (step go : Does) → after_turn f (λ ls u. after_turn (step ls u) go) ≡ after_turn (turn_and f step) go
  same_turn (Fell ls u) step go = refl
  same_turn (Skipped ls u) step go = refl
  same_turn (Broke ls u) step go = refl
  same_turn (Left ls u) step go = refl

  pub many_after : (y : Variable) (x : Num) (w : World) (of : ℕ) → many (global_set y x w) of ≡ many w of
  many_after (v.Global g) x w of = refl
  many_after (v.Parameter k) x w of = refl
  many_after v.Result x w of = refl

  pub limit_after : (y : Variable) (n : Num) (K : List (ℕ × ℕ)) (x : Limit) (w : World) → limit (turns K) (global_set y n w) x ≡ limit (turns K) w x
  limit_after y n K (Fixed x) w = refl
  limit_after y n K (Counted counts.MaxOcc name of) w = refl
  limit_after y n K (Counted counts.TotOcc name of) w = ap (λ m. pos m) (many_after y n w of)

  module _ (x : Counting) (nb p q : ℕ) (body : Statements) (L0 : List Cell) (O : List Open) (K : List (ℕ × ℕ)) (l : Loop) (a : Around) (w0 : World) (loops_are : AreOpen first O K) (there : IsThere s0)
      (own : IsOwn n x.variable) (is_number : IsNumberVariable (place_in e s0 (turns K)) x.variable)
      (steps : HasCode s0 (q + 1 + nb) (step_code e x)) (last : HasCode s0 (q + 1 + nb + 4) (with_c ops.End q ∷ []))
      (body_lands : (M : List Cell) (left : ℕ) (ls : Locals) (v : World) → IsLaid e (spot M (counted_bracket q left ∷ O)) (turns K) first ls → length ls.parameters ≡ n → FitsWorld s0.program first v
      → Lands e (spot M (counted_bracket q left ∷ O)) (turns K) first n (loop_to (q + 1 + nb) (q + 1 + nb + 4)) (record { is_loop = true; opens = O; loops = K }) (q + 1) (q + 1 + nb) v (all_do fn (turns K) body ls v)) where
    -- the variable is counted on
    abbrev counts_on : Does
    counts_on ls w = set x.variable (sum_of (variable w ls x.variable) (Whole x.step)) ls w

    abbrev counted_turn : Does
    counted_turn ls w = turn_and (all_do fn (turns K) body ls w) counts_on

    pub record CountedOn (M : List Cell) (b : Open) (ls : Locals) (u : World) : Type 0 where
      pub locals : List Cell
      pub goes : Goes s0.program (at (spot M (b ∷ O)) (q + 1 + nb) [] u) (at (spot locals (b ∷ O)) (q + 1 + nb + 4) [] (global_set x.variable (sum_of (variable u ls x.variable) (Whole x.step)) u))
      pub laid : IsLaid e (spot locals O) (turns K) first (local_set x.variable (sum_of (variable u ls x.variable) (Whole x.step)) ls)
      pub many : length (local_set x.variable (sum_of (variable u ls x.variable) (Whole x.step)) ls).parameters ≡ n
      pub fits : FitsWorld s0.program first (global_set x.variable (sum_of (variable u ls x.variable) (Whole x.step)) u)

    pub counted_on : (M : List Cell) (left : ℕ) (ls : Locals) (u : World) → IsLaid e (spot M O) (turns K) first ls → length ls.parameters ≡ n → FitsWorld s0.program first u → CountedOn M (counted_bracket q left) ls u
    unfolding acts combined number_code number_size number_of
    counted_on M k ls u laid many_are fits =
        let b = counted_bracket q k in
        let te = q + 1 + nb in
        let y = x.variable in
        let s = spot M (b ∷ O) in
        let g = number_goes compose e s fn (turns K) first ls (laid_more b M O K ls laid refl) keeps follows (tree.Variable' x.name y) te [] u fits (subst (λ n. IsOwn n y) (sym many_are) own) is_number (steps.0, tt) in
        let h = constant_goes compose s there (te + 1) x.step (Number (variable u ls y) ∷ []) u (steps.1.0, tt) in
        let i = plain_at compose s there (te + 1 + 1) ops.Add 0 0 0 (Number (Whole x.step) ∷ Number (variable u ls y) ∷ []) u _ (steps.1.1.0, tt) refl in
        let r = variable_set compose e s0 fn c0 first n sound keeps follows M (b ∷ O) O K y (sum_of (variable u ls y) (Whole x.step)) ls (te + 1 + 1 + 1) u laid many_are own is_number (steps.1.1.1.0, tt) in
        let z : te + 1 + 1 + 1 + 1 ≡ te + 4 = omega arith in
        record {
          locals = r.locals;
          goes = subst (λ q. Goes s0.program (at s te [] u) (at (spot r.locals (b ∷ O)) q [] (global_set y (sum_of (variable u ls y) (Whole x.step)) u))) z (joined compose s0.program _ _ _ g.goes (joined compose s0.program _ _ _ h (joined compose s0.program _ _ _ i r.goes)));
          laid = r.laid;
          many = r.many;
          fits = set_fits e s0 (turns K) first u y (sum_of (variable u ls y) (Whole x.step)) fits is_number;
        }

    pub counted_last : (M : List Cell) (v : World) → Goes s0.program (at (spot M (counted_bracket q 0 ∷ O)) (q + 1 + nb + 4) [] v) (at (spot M O) (q + 1 + nb + 4 + 1) [] v)
    unfolding acts
    counted_last M v =
        let c : Call = record { routine = s0.number; place = q + 1 + nb + 4; locals = M; cells = []; opens = counted_bracket q 0 ∷ O } in
        plain_at compose (spot M (counted_bracket q 0 ∷ O)) there (q + 1 + nb + 4) ops.End 0 0 q [] v _ last (ap (λ b. left s0.below (if b then again c v (counted_bracket q 0) O 0 else None)) (eq-eqb q q refl))

    pub counted_next : (M : List Cell) (k : ℕ) (v : World) → Goes s0.program (at (spot M (counted_bracket q (suc k) ∷ O)) (q + 1 + nb + 4) [] v) (at (spot M (counted_bracket q k ∷ O)) (q + 1) [] v)
    unfolding acts
    counted_next M k v =
        let c : Call = record { routine = s0.number; place = q + 1 + nb + 4; locals = M; cells = []; opens = counted_bracket q (suc k) ∷ O } in
        plain_at compose (spot M (counted_bracket q (suc k) ∷ O)) there (q + 1 + nb + 4) ops.End 0 0 q [] v _ last (ap (λ b. left s0.below (if b then again c v (counted_bracket q (suc k)) O (suc k) else None)) (eq-eqb q q refl))

    pub counted_lands : (k r : ℕ) (M : List Cell) (ls : Locals) (v : World) (go : Does) → r ≡ q + 1 + nb + 4 + 1 → Goes s0.program (at (spot L0 O) p [] w0) (at (spot M (counted_bracket q k ∷ O)) (q + 1) [] v) → IsLaid e (spot M O) (turns K) first ls → length ls.parameters ≡ n → FitsWorld s0.program first v
        → ((N : List Cell) (ls : Locals) (u : World) → Goes s0.program (at (spot L0 O) p [] w0) (at (spot N (counted_bracket q k ∷ O)) (q + 1 + nb + 4) [] u) → IsLaid e (spot N O) (turns K) first ls → length ls.parameters ≡ n → FitsWorld s0.program first u → Led L0 O K l a p r w0 (go ls u))
        → Led L0 O K l a p r w0 (after_turn (counted_turn ls v) go)
    counted_lands k r M ls v go e' g laid many_are fits rest =
        let b = counted_bracket q k in
        subst (Led L0 O K l a p r w0) (same_turn (all_do fn (turns K) body ls v) counts_on go)
        (turn_ends (q + 1 + nb) (q + 1 + nb + 4) p L0 O K l a w0 loops_are (all_do fn (turns K) body ls v) (λ ls u. after_turn (counts_on ls u) go) M b K (q + 1) r v e' g (body_lands M k ls v (laid_more b M O K ls laid refl) many_are fits)
        (λ N ls u g laid many_are fits. (let c = counted_on N k ls u laid many_are fits in rest c.locals (local_set x.variable (sum_of (variable u ls x.variable) (Whole x.step)) ls) (global_set x.variable (sum_of (variable u ls x.variable) (Whole x.step)) u) (joined compose s0.program _ _ _ g c.goes) c.laid c.many c.fits)))

    pub all_counted : (k r : ℕ) (M : List Cell) (ls : Locals) (v : World) → r ≡ q + 1 + nb + 4 + 1 → Goes s0.program (at (spot L0 O) p [] w0) (at (spot M (counted_bracket q k ∷ O)) (q + 1) [] v) → IsLaid e (spot M O) (turns K) first ls → length ls.parameters ≡ n → FitsWorld s0.program first v
        → Led L0 O K l a p r w0 (repeated (suc k) counted_turn ls v)
    all_counted zero r M ls v e' g laid many_are fits =
        counted_lands zero r M ls v (repeated zero counted_turn) e' g laid many_are fits
        (λ N ls u g laid many_are fits. record { locals = N; goes = subst (λ r. Goes s0.program (at (spot L0 O) p [] w0) (at (spot N O) r [] u)) (sym e') (joined compose s0.program _ _ _ g (counted_last N u)); laid = laid; many = many_are; fits = fits })
    all_counted (suc k) r M ls v e' g laid many_are fits =
        counted_lands (suc k) r M ls v (repeated (suc k) counted_turn) e' g laid many_are fits
        (λ N ls u g laid many_are fits. all_counted k r N ls u e' (joined compose s0.program _ _ _ g (counted_next N k u)) laid many_are fits)

    -- from the opener on
    pub counted_from : (m r limit_is : ℕ) (N : Num) (M : List Cell) (ls : Locals) (v : World) → r ≡ q + 1 + nb + 4 + 1 → turns_of limit_is N ≡ m → Goes s0.program (at (spot L0 O) p [] w0) (at (spot M O) q (Number N ∷ []) v) → IsLaid e (spot M O) (turns K) first ls → length ls.parameters ≡ n → FitsWorld s0.program first v
        → HasCode s0 q (wide.Turns limit_is (q + 1 + nb + 4) ∷ []) → Led L0 O K l a p r w0 (repeated m counted_turn ls v)
    unfolding acts
    counted_from zero r limit_is N M ls v e' m_is g laid many_are fits has =
        let c : Call = record { routine = s0.number; place = q; locals = M; cells = Number N ∷ []; opens = O } in
        let h = acts_at compose (spot M O) there q has.0.0 (Number N ∷ []) v (at (spot M O) (q + 1 + nb + 4 + 1) [] v) has.0.1
        (ap (λ op. stepped s0.program s0.routine c s0.below v op has.0.0) has.0.2.0
        ∙ (ap (λ (o : Option ℕ). left s0.below (option_and_then (λ (m : ℕ). entered c v [] None (turns_of m N) has.0.0.c) o)) has.0.2.1
        ∙ (ap (λ m. left s0.below (entered c v [] None m has.0.0.c)) m_is
        ∙ ap (λ k. left s0.below (entered c v [] None 0 k)) has.0.2.2))) in
        record { locals = M; goes = subst (λ r. Goes s0.program (at (spot L0 O) p [] w0) (at (spot M O) r [] v)) (sym e') (joined compose s0.program _ _ _ g h); laid = laid; many = many_are; fits = fits }
    counted_from (suc k) r limit_is N M ls v e' m_is g laid many_are fits has =
        let c : Call = record { routine = s0.number; place = q; locals = M; cells = Number N ∷ []; opens = O } in
        let h = acts_at compose (spot M O) there q has.0.0 (Number N ∷ []) v (at (spot M (counted_bracket q k ∷ O)) (q + 1) [] v) has.0.1
        (ap (λ op. stepped s0.program s0.routine c s0.below v op has.0.0) has.0.2.0
        ∙ (ap (λ (o : Option ℕ). left s0.below (option_and_then (λ (m : ℕ). entered c v [] None (turns_of m N) has.0.0.c) o)) has.0.2.1
        ∙ ap (λ m. left s0.below (entered c v [] None m has.0.0.c)) m_is)) in
        all_counted k r M ls v e' (joined compose s0.program _ _ _ g h) laid many_are fits
