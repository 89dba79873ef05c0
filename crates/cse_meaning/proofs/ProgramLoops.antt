-- 64 bits hold the turns of each `do` of a sound source: its limits have nine digits at most, and its step three.
use Rattle.std.proofs.Common.{◌≡◌, ℕ, zero, suc, ◌+◌, ◌≤◌, ℤ, pos, Bool, true, false, length, List, Option, Some, None, refl, sym, ap, ◌∙◌, subst, arith}
use Rattle.std.specs.Prelude.{neg_ℤ, option_map, if◌then◌else◌, slice_get}
use Rattle.std.specs.Option.{option_map_or}
use Rattle.std.proofs.lemmas.Int.{ints}
use Rattle.std.proofs.lemmas.List.Elements.{All-get_or}
use Rattle.std.proofs.lemmas.Option.{same_Some, none-some, slice_get-map, slice_get_within, get_or_from_slice_get}
use Rattle.cse_value.specs.declared.shape.RecordShape.{RecordShape}
use Rattle.cse_value.specs.Occurrences.{most_occurrences}
use Rattle.cse_dict.specs.Dictionary.{DictionaryText, RecordText, shape_of}
use Rattle.cse_dict.specs.Sound.{IsSound, IsSoundRecord}
use Rattle.cse_syntax_tree.specs.Leaf.{is_within, number_of, MOST}
use Rattle.cse_syntax_tree.specs.Tree as syntax
use Rattle.cse_syntax_tree.specs.Tree.{Spelling}
use Rattle.cse_syntax_tree.specs.Grammar as grammar
use Rattle.cse_syntax_tree.specs.Grammar.{Below, IsStmt, AreStmts, IsBy}
use Rattle.cse_syntax_tree.proofs.Digits.{number_within}
use Rattle.cse_logic_tree.specs.Typed.{Limit, Fixed, Counted, Counting, Statement, Statements, Arms}
use Rattle.cse_logic_tree.specs.Typed.{Empty, Set, SetText, SetItem, SetTextItem, SetCell, CallOf, If, For, Do, Jump', Impute, PutDeck, ErrMsg, no_statement, statement_and, no_arm, else_of, arm}
use Rattle.cse_logic_tree.specs.Erase.{erase_limit, erase_counting, erase_statement, erase_block, erase_arms}
use Rattle.cse_logic_names.specs.Scope.{Scope, within}
use Rattle.cse_logic_names.specs.WellTyped.{value_of, signed_value, step_of, IsLimit, IsCounting, IsStatement, AreStatements, AreArms, messages_in, messages_of}
use Rattle.cse_meaning.specs.Plain.{KeepsTurns}
use Rattle.cse_meaning.proofs.Kept.{IsNear, IsNearLimit, keeps}
use Rattle.cse_meaning.proofs.ProgramTurns.{HoldTurns, AllHoldTurns, ArmsHoldTurns}

-- ---- digits

-- the value is what the digits write
value_is : (digits : Spelling) (v : ℤ) → value_of digits ≡ Some v → v ≡ pos (number_of digits.text)
unfolding value_of
value_is digits v e = by (is_within 0 MOST digits.text) e
  where
    by : (b : Bool) → (if b then Some (pos (number_of digits.text)) else None) ≡ Some v → v ≡ pos (number_of digits.text)
    by true e = sym (same_Some (pos (number_of digits.text)) v e)
    by false e = absurd (none-some v e)

near_value : (x : syntax.Literal) (v : ℤ) → signed_value x ≡ Some v → is_within 0 999999999 x.digits.text ≡ true → IsNear 999999999 v
near_value x v e h = by (value_of x.digits) (λ u f. value_is x.digits u f) e
  where
    n : ℕ
    n = number_of x.digits.text

    signed : (minus : Bool) (u : ℤ) → u ≡ pos (number_of x.digits.text) → (if minus then neg_ℤ u else u) ≡ v → IsNear 999999999 v
    signed true u p q = let m = (number_within 0 999999999 x.digits.text h).1 in record { above = omega (arith, ints, m, p, q); below = omega (arith, ints, m, p, q) }
    signed false u p q = let m = (number_within 0 999999999 x.digits.text h).1 in record { above = omega (arith, ints, m, p, q); below = omega (arith, ints, m, p, q) }

    by : (o : Option ℤ) → ((u : ℤ) → o ≡ Some u → u ≡ pos (number_of x.digits.text)) → option_map (λ value. if x.minus then neg_ℤ value else value) o ≡ Some v → IsNear 999999999 v
    by None f e = absurd (none-some v e)
    by (Some u) f e = signed x.minus u (f u refl) (same_Some _ v e)

-- ---- the dictionary

-- a record of a sound dictionary has at most 9,999 occurrences
pub most_few : (d : DictionaryText) → IsSound d → (of : ℕ) → most_occurrences (shape_of d).records of ≤ 9999
most_few d sound of = by (slice_get d.records of) refl
  where
    by : (o : Option RecordText) → slice_get d.records of ≡ o → most_occurrences (shape_of d).records of ≤ 9999
    by None none =
        let e : most_occurrences (shape_of d).records of ≡ 0 = ap (λ (o : Option RecordShape). option_map_or (λ x. x.max_records) o 0) (slice_get-map (λ (r : RecordText). r.shape) d.records of ∙ ap (option_map (λ (r : RecordText). r.shape)) none) in
        omega (arith, e)
    by (Some r) is =
        let e : most_occurrences (shape_of d).records of ≡ r.shape.max_records = ap (λ (o : Option RecordShape). option_map_or (λ x. x.max_records) o 0) (slice_get-map (λ (r : RecordText). r.shape) d.records of ∙ ap (option_map (λ (r : RecordText). r.shape)) is) in
        let one : IsSoundRecord d r = subst (IsSoundRecord d) (get_or_from_slice_get d.records of r r is) (All-get_or (IsSoundRecord d) d.records of r (slice_get_within d.records of r is) sound.records) in
        let few = one.few in
        omega (arith, e, few)

-- ---- loops

module _ (rs : List RecordShape) (most : (of : ℕ) → most_occurrences rs of ≤ 9999) where
  near_limit : (s : Scope) (l : Limit) (room : ℕ) → IsLimit s l → grammar.IsLimit (erase_limit l) room → IsNearLimit rs most l
  near_limit s (Fixed x) room h g = near_value x.literal x.value h g
  near_limit s (Counted count name of) room h g = tt

  counting_keeps : (s : Scope) (x : Counting) (room : ℕ) → IsCounting s x → grammar.IsCounting (erase_counting x) room → KeepsTurns rs x
  counting_keeps s x room h g = by x.by h.4 g.5
    where
      start : IsNearLimit rs most x.start
      start = near_limit s x.start room h.2 g.1

      stop : IsNearLimit rs most x.stop
      stop = near_limit s x.stop room h.3 g.4

      by : (o : Option Spelling) → step_of o ≡ Some x.step → IsBy o → KeepsTurns rs x
      by None e k = keeps rs most x 1 (sym (same_Some (pos 1) x.step e)) (omega arith) (omega arith) start stop
      by (Some digits) e k =
          let m = number_within 1 999 digits.text k in
          keeps rs most x (number_of digits.text) (value_is digits x.step e) m.0 m.1 start stop

  mutual
    statement_holds : (s : Scope) (n room : ℕ) (x : Statement) → IsStatement s n x → IsStmt (erase_statement x) room → HoldTurns rs x
    statement_holds s n room Empty h g = tt
    statement_holds s n room (Set name y x) h g = tt
    statement_holds s n room (SetText name k x) h g = tt
    statement_holds s n room (SetItem name field which x) h g = tt
    statement_holds s n room (SetTextItem name field which x) h g = tt
    statement_holds s n room (SetCell name array xs x) h g = tt
    statement_holds s n room (CallOf name function xs) h g = tt
    statement_holds s n zero (If condition body others) h g = absurd g.0
    statement_holds s n (suc room) (If condition body others) h g = (block_holds s n room body h.1 g.1, arms_hold s (n + length (messages_of (erase_block body))) (suc room) others h.2 g.2)
    statement_holds s n zero (For name y record_name of body) h g = absurd g.2
    statement_holds s n (suc room) (For name y record_name of body) h g = block_holds (within s (Some of) y) n room body h.4 g.2
    statement_holds s n zero (Do x body) h g = absurd g.0
    statement_holds s n (suc room) (Do x body) h g = (counting_keeps s x room h.0 g.0, block_holds (within s None x.variable) n room body h.1 g.1)
    statement_holds s n room (Jump' token x) h g = tt
    statement_holds s n room (Impute name field which x) h g = tt
    statement_holds s n room (PutDeck name array picks x) h g = tt
    statement_holds s n room (ErrMsg message index xs summary) h g = tt

    pub block_holds : (s : Scope) (n room : ℕ) (xs : Statements) → AreStatements s n xs → AreStmts (erase_block xs) room → AllHoldTurns rs xs
    block_holds s n room no_statement h g = tt
    block_holds s n room (statement_and x xs) h g = (statement_holds s n room x h.0 g.0, block_holds s (n + length (messages_in (erase_statement x))) room xs h.1 g.1)

    arms_hold : (s : Scope) (n room : ℕ) (xs : Arms) → AreArms s n xs → grammar.AreArms (erase_arms xs) room → ArmsHoldTurns rs xs
    arms_hold s n room no_arm h g = tt
    arms_hold s n zero (else_of body) h g = absurd g
    arms_hold s n (suc room) (else_of body) h g = block_holds s n room body h g
    arms_hold s n zero (arm condition body others) h g = absurd g.0
    arms_hold s n (suc room) (arm condition body others) h g = (block_holds s n room body h.1 g.1, arms_hold s (n + length (messages_of (erase_block body))) (suc room) others h.2 g.2)
