-- Where the code of statements leads: one after the other, past what isn't there, to the end of a call, and by a condition.
use Rattle.std.proofs.Common.{◌≡◌, ℕ, zero, suc, ◌+◌, Bool, true, false, List, [], ◌∷◌, ◌++◌, length, Option, Some, None, refl, sym, ap, ◌∙◌, subst, arith}
use Rattle.std.specs.Prelude.{unwrap_or, ◌||◌, slice_get, slice_set, if◌then◌else◌, ◌==◌, map}
use Rattle.std.specs.List.{list_any}
use Rattle.std.proofs.lemmas.List.{length-set}
use Rattle.std.proofs.lemmas.Bool.{eqb-true, ne_eqb}
use Rattle.cse_value.specs.declared.number.Num.{Num}
use Rattle.cse_value.specs.Number.{is_condition}
use Rattle.cse_image_parts.specs.declared.instruction.Op.TheVariants as ops
use Rattle.cse_case.specs.Case.{CaseText}
use Rattle.cse_dict.specs.Sound.{IsSound}
use Rattle.cse_code_typing.specs.Code.{code_of}
use Rattle.cse_code_typing.specs.Signature.{local_at}
use Rattle.cse_code_typing.specs.declared.kind.Kind.TheVariants as kind
use Rattle.cse_logic_tree.specs.declared.tree.Variable.{Variable}
use Rattle.cse_logic_tree.specs.declared.tree.Variable.TheVariants as v
use Rattle.cse_logic_tree.specs.Typed as tree
use Rattle.cse_logic_tree.specs.Typed.{Limit, Fixed, Counted, Counting, Which, Statement, Statements, Arms}
use Rattle.cse_logic_tree.specs.Typed.{Empty, Set, SetText, SetItem, SetTextItem, SetCell, CallOf, If, For, Do, Jump', Impute, PutDeck, ErrMsg, no_statement, statement_and, no_arm, else_of, arm}
use Rattle.cse_compile.specs.Wide.{Wide, with_c, jump, jump_size, jump_over}
use Rattle.cse_compile.specs.Setting.{Setting, result_local}
use Rattle.cse_compile.specs.declared.setting.Loop.{Loop}
use Rattle.cse_compile.specs.Expressions.{store, number_size, number_code}
use Rattle.cse_compile.specs.Statements.{exit_code_by, front_size, front_code, guard_size, guard_code}
use Rattle.cse_meaning.specs.Fit.{IsExit, IsNumberVariable, NumberFits}
use Rattle.cse_meaning.proofs.Lengths.{number_length}
use Rattle.cse_meaning.proofs.TypedBlocks.{front_length}
use Rattle.cse_steps.specs.Cell.{Cell, Number, Occurrence}
use Rattle.cse_steps.specs.State.{Open, Call, World}
use Rattle.cse_steps.specs.Operands.{is_within}
use Rattle.cse_steps.specs.Step.{current, current_by, acts, given_back, returned}
use Rattle.cse_steps.specs.Fits.{FitsWorld, occurrences_in}
use Rattle.cse_steps.specs.Laws.{RunsCompose}
use Rattle.cse_meaning.specs.Setting.{Context, Locals, Functions, Valued, turn_of}
use Rattle.cse_meaning.specs.Reading.{many}
use Rattle.cse_meaning.specs.Writing.{local_set, global_set}
use Rattle.cse_meaning.specs.Expressions.{number_of}
use Rattle.cse_meaning.specs.Statements.{chosen, Flow, Fell, Broke, Skipped, Left, Does, then_do, put_at}
use Rattle.cse_meaning.specs.Runs.{Goes, Spot, at, IsThere, HasCode}
use Rattle.cse_meaning.specs.Laid.{IsLaid, KeepsRows, AreOpen, place_in}
use Rattle.cse_meaning.specs.Follows.{Follows}
use Rattle.cse_meaning.specs.Plain.{IsOwn, IsPlain}
use Rattle.cse_meaning.specs.Acts.{holding, Leads}
use Rattle.cse_meaning.specs.Lands.{Around, gift, Returns, Lands}
use Rattle.cse_meaning.proofs.Going.{joined, stand_front, stand_back, stays, plain_at, named, then_goes, local_goes}
use Rattle.cse_meaning.proofs.Puts.{FoundBy}
use Rattle.cse_meaning.proofs.Held.{holds}
use Rattle.cse_meaning.proofs.Assigned.{set_goes, decided}

-- the brackets over a record, with one more
opened : (first : Option CaseText) (of o x : ℕ) (b : Bool) (O : List Open) (K : List (ℕ × ℕ)) → AreOpen first O K → (of == x) ≡ b → is_within (occurrences_in first of) o ≡ true → (b || list_any (λ i. i == x) (map (λ y. y.0) K)) ≡ true
    → ((if b then Some o else current x O) ≡ Some (if b then o else turn_of x K)) × (is_within (occurrences_in first x) (if b then o else turn_of x K) ≡ true)
opened first of o x true O K are e h some = (refl, subst (λ r. is_within (occurrences_in first r) o ≡ true) (eqb-true of x e) h)
opened first of o x false O K are e h some = are x some

module _ (compose : RunsCompose) (e : Setting) (s0 : Spot) (fn : Functions) (c0 : Context) (first : Option CaseText) (n : ℕ) (sound : IsSound s0.program.dictionary) (keeps : KeepsRows s0.program.dictionary) (follows : Follows s0.program first fn s0.number) where
  -- the call with these locals and brackets, and the meaning in these turns
  abbrev spot : List Cell → List Open → Spot
  spot locals opens = record s0 { locals = locals; opens = opens }

  abbrev turns : List (ℕ × ℕ) → Context
  turns loops = record c0 { loops = loops }

  abbrev Led : List Cell → List Open → List (ℕ × ℕ) → Loop → Around → ℕ → ℕ → World → Flow → Type 0
  Led L O K l a p q w f = Lands e (spot L O) (turns K) first n l a p q w f

  pub front_of : (p : ℕ) (a b : List Wide) → HasCode s0 p (a ++ b) → HasCode s0 p a
  front_of p a b has = stand_front s0.program.image.lists (code_of s0.program.image s0.number) p a b has

  pub back_of : (p k : ℕ) (a b : List Wide) → length a ≡ k → HasCode s0 p (a ++ b) → HasCode s0 (p + k) b
  back_of p k a b long has = stand_back s0.program.image.lists (code_of s0.program.image s0.number) p k a b long has

  -- ---- one after the other

  -- a run before
  pub before : (f : Flow) (L M : List Cell) (O : List Open) (K : List (ℕ × ℕ)) (l : Loop) (a : Around) (p q r : ℕ) (w v : World) → Goes s0.program (at (spot L O) p [] w) (at (spot M O) q [] v) → Led M O K l a q r v f → Led L O K l a p r w f
  before (Fell ls x) L M O K l a p q r w v g h = record { locals = h.locals; goes = joined compose s0.program _ _ _ g h.goes; laid = h.laid; many = h.many; fits = h.fits }
  before (Broke ls x) L M O K l a p q r w v g h = (h.0, record { locals = h.1.locals; goes = joined compose s0.program _ _ _ g h.1.goes; laid = h.1.laid; many = h.1.many; fits = h.1.fits })
  before (Skipped ls x) L M O K l a p q r w v g h = (h.0, record { locals = h.1.locals; goes = joined compose s0.program _ _ _ g h.1.goes; laid = h.1.laid; many = h.1.many; fits = h.1.fits })
  before (Left ls x) L M O K l a p q r w v g h = record { goes = joined compose s0.program _ _ _ g h.goes; fits = h.fits }

  -- what follows a statement that falls through
  pub then_lands : (f : Flow) (go : Does) (L : List Cell) (O : List Open) (K : List (ℕ × ℕ)) (l : Loop) (a : Around) (p q r : ℕ) (w : World) → Led L O K l a p q w f
      → ((M : List Cell) (ls : Locals) (v : World) → IsLaid e (spot M O) (turns K) first ls → length ls.parameters ≡ n → FitsWorld s0.program first v → Led M O K l a q r v (go ls v))
      → Led L O K l a p r w (then_do f go)
  then_lands (Fell ls v) go L O K l a p q r w h rest = before (go ls v) L h.locals O K l a p q r w v h.goes (rest h.locals ls v h.laid h.many h.fits)
  then_lands (Broke ls v) go L O K l a p q r w h rest = h
  then_lands (Skipped ls v) go L O K l a p q r w h rest = h
  then_lands (Left ls v) go L O K l a p q r w h rest = h

  -- a run behind a statement that falls through
  pub on_from : (f : Flow) (L : List Cell) (O : List Open) (K : List (ℕ × ℕ)) (l : Loop) (a : Around) (p q r : ℕ) (w : World) → Led L O K l a p q w f
      → ((M : List Cell) (v : World) → Goes s0.program (at (spot M O) q [] v) (at (spot M O) r [] v)) → Led L O K l a p r w f
  on_from (Fell ls v) L O K l a p q r w h go = record { locals = h.locals; goes = joined compose s0.program _ _ _ h.goes (go h.locals v); laid = h.laid; many = h.many; fits = h.fits }
  on_from (Broke ls v) L O K l a p q r w h go = h
  on_from (Skipped ls v) L O K l a p q r w h go = h
  on_from (Left ls v) L O K l a p q r w h go = h

  pub renamed : (f : Flow) (L : List Cell) (O : List Open) (K : List (ℕ × ℕ)) (l : Loop) (a : Around) (p q r : ℕ) (w : World) → q ≡ r → Led L O K l a p q w f → Led L O K l a p r w f
  renamed f L O K l a p q r w e h = subst (λ q. Led L O K l a p q w f) e h

  -- ---- what stays as it is

  module _ (L : List Cell) (O : List Open) (K : List (ℕ × ℕ)) (ls : Locals) (laid : IsLaid e (spot L O) (turns K) first ls) (many_are : length ls.parameters ≡ n) where
    -- the call holds what it held
    pub fell : (l : Loop) (a : Around) (p q : ℕ) (w v : World) → Goes s0.program (at (spot L O) p [] w) (at (spot L O) q [] v) → FitsWorld s0.program first v → Led L O K l a p q w (Fell ls v)
    fell l a p q w v g fits = record { locals = L; goes = g; laid = laid; many = many_are; fits = fits }

    -- a variable is set
    pub set_lands : (y : Variable) (x : Num) (l : Loop) (a : Around) (p q : ℕ) (w v : World) → Leads e (spot L O) (holding e (spot L O) y x) (turns K) first (local_set y x ls) p q w v → Led L O K l a p q w (Fell (local_set y x ls) v)
    set_lands (v.Global g) x l a p q w u h = record { locals = L; goes = h.goes; laid = h.laid; many = many_are; fits = h.fits }
    set_lands (v.Parameter k) x l a p q w u h = record { locals = slice_set L k (Number x); goes = h.goes; laid = h.laid; many = length-set ls.parameters k x ∙ many_are; fits = h.fits }
    set_lands v.Result x l a p q w u h = record { locals = slice_set L (result_local e) (Number x); goes = h.goes; laid = h.laid; many = many_are; fits = h.fits }

    pub plain_here : (x : tree.Number) → IsPlain n x → IsPlain (length ls.parameters) x
    plain_here x plain = subst (λ n. IsPlain n x) (sym many_are) plain

  -- the value is evaluated and put above an occurrence
  pub record Putting (L : List Cell) (O : List Open) (of q r o : ℕ) (v next : World) : Type 0 where
    pub goes : Goes s0.program (at (spot L O) q (Occurrence o of ∷ []) v) (at (spot L O) r [] next)
    pub fits : FitsWorld s0.program first next

  -- ---- what is put where a place leads

  -- a value is put into the occurrence that is found; where none is, the run goes past it
  pub put_lands : {X : Type 0} (of fail p q r : ℕ) (o : Option ℕ) (value : World → Valued X) (after : ℕ → X → World → World) (L : List Cell) (O : List Open) (K : List (ℕ × ℕ)) (ls : Locals) (l : Loop) (a : Around) (w v : World)
      → IsLaid e (spot L O) (turns K) first ls → length ls.parameters ≡ n → FitsWorld s0.program first v → FoundBy (spot L O) of fail p q w o v → fail ≡ r
      → ((o : ℕ) → is_within (many v of) o ≡ true → Putting L O of q r o v (after o (value v).0 (value v).1))
      → Led L O K l a p r w (Fell ls (put_at o v value after))
  put_lands of fail p q r None value after L O K ls l a w v laid many_are fits h e' rest = fell L O K ls laid many_are l a p r w v (named compose (spot L O) laid.there _ _ _ _ _ e' h) fits
  put_lands of fail p q r (Some o) value after L O K ls l a w v laid many_are fits h e' rest =
      let g = rest o h.0 in
      fell L O K ls laid many_are l a p r w (after o (value v).0 (value v).1) (then_goes compose (spot L O) laid.there _ _ _ h.1 g.goes) g.fits

  -- ---- the ends of a call

  pub exits : (o : Option ℕ) → e.result_at ≡ o → IsExit (place_in e s0 c0) o → (L : List Cell) (O : List Open) (K : List (ℕ × ℕ)) (ls : Locals) (p : ℕ) (w : World) → IsLaid e (spot L O) (turns K) first ls → FitsWorld s0.program first w
      → HasCode s0 p (exit_code_by o) → Returns e (spot L O) first p w ls w
  unfolding acts
  exits None same exit L O K ls p w laid fits has =
      let c : Call = record { routine = s0.number; place = p; locals = L; cells = []; opens = O } in
      record {
        goes = plain_at compose (spot L O) laid.there p ops.Return 0 0 0 [] w _ has (ap (λ g. returned g c s0.below w) exit ∙ ap (λ o. Some (record { calls = given_back (gift o ls) s0.below; world = w })) (sym same));
        fits = fits;
      }
  exits (Some r) same exit L O K ls p w laid fits has =
      let c : Call = record { routine = s0.number; place = p + 1; locals = L; cells = Number ls.result ∷ []; opens = O } in
      let at_r : result_local e ≡ r = ap (λ o. unwrap_or o 0) same in
      let held = subst (λ r. slice_get L r ≡ Some (Number ls.result)) at_r (laid.result (subst (λ r. local_at s0.routine r ≡ Some kind.Number) (sym at_r) exit.1)) in
      let g = local_goes compose (spot L O) laid.there p r (Number ls.result) [] w held (has.0, tt) in
      record {
        goes = then_goes compose (spot L O) laid.there _ _ _ g (plain_at compose (spot L O) laid.there (p + 1) ops.Return 0 0 0 (Number ls.result ∷ []) w _ (has.1.0, tt) (ap (λ g. returned g c s0.below w) exit.0 ∙ ap (λ o. Some (record { calls = given_back (gift o ls) s0.below; world = w })) (sym same)));
        fits = fits;
      }

  -- ---- over the occurrences of a record

  -- with one bracket more, which is over them
  pub laid_within : (of o : ℕ) (b : Open) (L : List Cell) (O : List Open) (K : List (ℕ × ℕ)) (ls : Locals) → IsLaid e (spot L O) (turns K) first ls → b.over ≡ Some (of, o) → is_within (occurrences_in first of) o ≡ true
      → IsLaid e (spot L (b ∷ O)) (turns ((of, o) ∷ K)) first ls
  laid_within of o b L O K ls laid over_is h = record {
    there = laid.there;
    dictionary = laid.dictionary;
    arrays = laid.arrays;
    records = laid.records;
    ambient = laid.ambient;
    parameters = laid.parameters;
    apart = laid.apart;
    result = laid.result;
    event = laid.event;
    loops = λ x some.
        let r = opened first of o x (of == x) O K laid.loops refl h some in
        (ap (λ y. current_by x y (current x O)) over_is ∙ r.0, r.1);
  }

  -- without the brackets of a loop
  pub laid_without : (M : List Cell) (O P : List Open) (J K : List (ℕ × ℕ)) (ls : Locals) → IsLaid e (spot M O) (turns J) first ls → AreOpen first P K → IsLaid e (spot M P) (turns K) first ls
  laid_without M O P J K ls laid are = record {
    there = laid.there;
    dictionary = laid.dictionary;
    arrays = laid.arrays;
    records = laid.records;
    ambient = laid.ambient;
    parameters = laid.parameters;
    apart = laid.apart;
    result = laid.result;
    event = laid.event;
    loops = are;
  }

  -- a variable is set, above other brackets
  pub record VariableSet (L : List Cell) (B O : List Open) (K : List (ℕ × ℕ)) (y : Variable) (x : Num) (ls : Locals) (q : ℕ) (w : World) : Type 0 where
    pub locals : List Cell
    pub goes : Goes s0.program (at (spot L B) q (Number x ∷ []) w) (at (spot locals B) (q + 1) [] (global_set y x w))
    pub laid : IsLaid e (spot locals O) (turns K) first (local_set y x ls)
    pub many : length (local_set y x ls).parameters ≡ n

  pub variable_set : (L : List Cell) (B O : List Open) (K : List (ℕ × ℕ)) (y : Variable) (x : Num) (ls : Locals) (q : ℕ) (w : World) → IsLaid e (spot L O) (turns K) first ls → length ls.parameters ≡ n → IsOwn n y → IsNumberVariable (place_in e s0 (turns K)) y
      → HasCode s0 q (store e y ∷ []) → VariableSet L B O K y x ls q w
  variable_set L B O K (v.Global g) x ls q w laid many_are own is has = record { locals = L; goes = set_goes compose e (spot L B) (turns K) laid.there (v.Global g) q x w is has; laid = laid; many = many_are }
  variable_set L B O K (v.Parameter k) x ls q w laid many_are own is has = record {
    locals = slice_set L k (Number x);
    goes = set_goes compose e (spot L B) (turns K) laid.there (v.Parameter k) q x w is has;
    laid = holds e (spot L O) (turns K) first ls laid (v.Parameter k) x (subst (λ n. IsOwn n (v.Parameter k)) (sym many_are) own) is;
    many = length-set ls.parameters k x ∙ many_are;
  }
  variable_set L B O K v.Result x ls q w laid many_are own is has = record {
    locals = slice_set L (result_local e) (Number x);
    goes = set_goes compose e (spot L B) (turns K) laid.there v.Result q x w is has;
    laid = holds e (spot L O) (turns K) first ls laid v.Result x tt is;
    many = many_are;
  }

  -- ---- conditions

  -- one instruction behind code, without what follows it
  pub one_behind : (x : List Wide) (p : ℕ) (i : Wide) (rest : List Wide) → HasCode s0 p (x ++ (i ∷ rest)) → HasCode s0 p (x ++ i ∷ [])
  one_behind [] p i rest h = (h.0, tt)
  one_behind (w ∷ x) p i rest h = (h.0, one_behind x (p + 1) i rest h.1)

  pub jump_over_length : (end k : ℕ) → length (jump_over end k) ≡ jump_size k
  jump_over_length end zero = refl
  jump_over_length end (suc k) =
      let no : (suc k == 0) ≡ false = ne_eqb (suc k) 0 (λ z. absurd (omega arith)) in
      ap (λ b. length (if b then [] else jump end ∷ [])) no ∙ (let z : 1 ≡ jump_size (suc k) = omega arith in z)

  -- the jump over what stands behind
  pub jumps_over : (k end q r : ℕ) (M : List Cell) (O : List Open) (v : World) → IsThere s0 → q + jump_size k + k ≡ r → end ≡ r → HasCode s0 q (jump_over end k) → Goes s0.program (at (spot M O) q [] v) (at (spot M O) r [] v)
  unfolding acts
  jumps_over zero end q r M O v there e1 e2 has = let z : q ≡ r = omega arith in named compose (spot M O) there _ _ _ _ _ z (stays s0.program _ _ refl)
  jumps_over (suc k) end q r M O v there e1 e2 has =
      let no : (suc k == 0) ≡ false = ne_eqb (suc k) 0 (λ z. absurd (omega arith)) in
      let h = subst (HasCode s0 q) (ap (λ b. if b then [] else jump end ∷ []) no) has in
      named compose (spot M O) there _ _ _ _ _ e2 (plain_at compose (spot M O) there q ops.Jump 0 0 end [] v _ h refl)

  module _ (x : tree.Number) (nb no end : ℕ) (cb co : List Wide) (body others : Does) (L : List Cell) (O : List Open) (K : List (ℕ × ℕ)) (ls : Locals) (l : Loop) (a : Around) (p : ℕ) (w : World) (laid : IsLaid e (spot L O) (turns K) first ls) (many_are : length ls.parameters ≡ n)
      (long : length cb ≡ nb) (ends : end ≡ p + guard_size (number_size x) nb no) where
    -- by the condition
    pub chosen_by : (b : Bool) (v : World) → Goes s0.program (at (spot L O) p [] w) (at (spot L O) (if b then p + number_size x + 1 else p + front_size (number_size x) nb no) [] v)
        → Led L O K l a (p + number_size x + 1) (p + number_size x + 1 + nb) v (body ls v) → HasCode s0 (p + number_size x + 1 + nb) (jump_over end no)
        → Led L O K l a (p + front_size (number_size x) nb no) (p + front_size (number_size x) nb no + no) v (others ls v)
        → Led L O K l a p (p + guard_size (number_size x) nb no) w (if b then body ls v else others ls v)
    chosen_by true v g body_lands over_it others_land =
        let z : p + number_size x + 1 + nb + jump_size no + no ≡ p + guard_size (number_size x) nb no = omega arith in
        before (body ls v) L L O K l a p (p + number_size x + 1) _ w v g
        (on_from (body ls v) L O K l a (p + number_size x + 1) (p + number_size x + 1 + nb) _ v body_lands (λ M u. jumps_over no end (p + number_size x + 1 + nb) _ M O u laid.there z ends over_it))
    chosen_by false v g body_lands over_it others_land =
        let z : p + front_size (number_size x) nb no + no ≡ p + guard_size (number_size x) nb no = omega arith in
        before (others ls v) L L O K l a p (p + front_size (number_size x) nb no) _ w v g (renamed (others ls v) L O K l a _ _ _ v z others_land)

    pub guarded_land : FitsWorld s0.program first w → IsPlain n x → NumberFits (place_in e s0 (turns K)) x → HasCode s0 p (guard_code end p (number_size x) nb no (number_code e p x) cb co)
        → ((v : World) → FitsWorld s0.program first v → HasCode s0 (p + number_size x + 1) cb → Led L O K l a (p + number_size x + 1) (p + number_size x + 1 + nb) v (body ls v))
        → ((v : World) → FitsWorld s0.program first v → HasCode s0 (p + front_size (number_size x) nb no) co → Led L O K l a (p + front_size (number_size x) nb no) (p + front_size (number_size x) nb no + no) v (others ls v))
        → Led L O K l a p (p + guard_size (number_size x) nb no) w (chosen (number_of fn (turns K) x ls w) body others ls)
    guarded_land fits plain fit has body_lands others_land =
        let nx = number_size x in
        let cc = number_code e p x in
        let k = p + front_size nx nb no in
        let fr = front_of p (front_code end p nx nb no cc cb) co has in
        let bk = back_of p (front_size nx nb no) (front_code end p nx nb no cc cb) co (front_length end p nx nb no cc cb (number_length e p x) long) has in
        let cond = one_behind cc p (with_c ops.JumpUnless k) (cb ++ jump_over end no) fr in
        let beh = back_of p nx cc (with_c ops.JumpUnless k ∷ (cb ++ jump_over end no)) (number_length e p x) fr in
        let hb = front_of (p + nx + 1) cb (jump_over end no) beh.1 in
        let hj = back_of (p + nx + 1) nb cb (jump_over end no) long beh.1 in
        let d = decided compose e (spot L O) fn (turns K) first ls x k p w laid keeps follows fits (plain_here L O K ls laid many_are x plain) fit cond in
        let r = number_of fn (turns K) x ls w in
        chosen_by (is_condition r.0) r.1 d.goes (body_lands r.1 d.fits hb) hj (others_land r.1 d.fits bk)
