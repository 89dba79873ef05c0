-- The most steps from a place to the end of its innermost bracket, and why those from place 0 are the
-- weighted sum.
use Rattle.std.proofs.Common.{◌≡◌, ℕ, zero, suc, ◌+◌, ◌-◌, ◌*◌, ◌<◌, ◌≤◌, List, [], ◌∷◌, length, drop, get_or, Option, Some, None, refl, sym, ap, ◌∙◌, arith}
use Rattle.std.specs.Prelude.{slice_get}
use Rattle.std.proofs.lemmas.List.{get_or-drop, get_or_past}
use Rattle.std.proofs.lemmas.Option.{same_Some, slice_get_within}
use Rattle.cse_lemmas.proofs.Lists.{slice_get_some, drop_some}
use Rattle.cse_code_typing.specs.declared.control.Control.{Control}
use Rattle.cse_code_typing.specs.declared.control.Control.TheVariants.{Step, Jump, Branch, Open, End, Break, Call, Return}
use Rattle.cse_code_typing.specs.Bracket.{named_end, named_opener, IsBracket, IsNested, around, IsFine, KeepsRules}
use Rattle.cse_code_typing.proofs.Around.{nested_before, around_first, around_end, around_behind, around_plain, around_none, around_start}
use Rattle.cse_verify.specs.Weight.{limit_in, product, weight}
use Rattle.cse_verify.specs.Bound.{cost, partial}
use Rattle.cse_verify.specs.Rest.{steps_from, tails, tail, end_in}

-- ---- the table

drop_tails : (bounds : List ℕ) (p a b : ℕ) (code : List Control) → b ≡ a + p → drop p (tails bounds a code) ≡ tails bounds b (drop p code)
unfolding tails
drop_tails bounds zero a b code e = let f : a ≡ b = omega arith in ap (λ n. tails bounds n code) f
drop_tails bounds (suc p) a b [] e = refl
drop_tails bounds (suc p) a b (i ∷ is) e = drop_tails bounds p (suc a) b is (omega arith)

same_steps : (bounds : List ℕ) (f g : ℕ → ℕ) (p : ℕ) (i : Control) → ((e : ℕ) → named_end (Some i) ≡ Some e → p < e) → ((q : ℕ) → suc p ≤ q → f q ≡ g q) → steps_from bounds f p i ≡ steps_from bounds g p i
same_steps bounds f g p (Open limit e) later h =
    let lt : p < e = later e refl in
    let a = h (suc p) (omega arith) in
    let b = h (suc e) (omega arith) in
    cc
same_steps bounds f g p (End s) later h = refl
same_steps bounds f g p (Call r) later h = ap (λ n. 1 + get_or bounds r 0 + n) (h (suc p) (omega arith))
same_steps bounds f g p Step later h = ap (λ n. 1 + n) (h (suc p) (omega arith))
same_steps bounds f g p (Jump c) later h = ap (λ n. 1 + n) (h (suc p) (omega arith))
same_steps bounds f g p (Branch c) later h = ap (λ n. 1 + n) (h (suc p) (omega arith))
same_steps bounds f g p (Break c) later h = ap (λ n. 1 + n) (h (suc p) (omega arith))
same_steps bounds f g p Return later h = ap (λ n. 1 + n) (h (suc p) (omega arith))

-- a place's number from those behind it, where a bracket ends behind its opener
pub tail_at : (bounds : List ℕ) (code : List Control) (p : ℕ) (i : Control) → slice_get code p ≡ Some i → ((e : ℕ) → named_end (Some i) ≡ Some e → p < e) → tail bounds code p ≡ steps_from bounds (tail bounds code) p i
unfolding tail tails
tail_at bounds code p i at later =
    let whole = tails bounds 0 code in
    let behind = tails bounds (suc p) (drop (suc p) code) in
    let here : drop p whole ≡ steps_from bounds (λ q. get_or behind (q - suc p) 0) p i ∷ behind =
    drop_tails bounds p 0 p code (omega arith) ∙ ap (tails bounds p) (drop_some code p i at)
    in
    let rest : drop (suc p) whole ≡ behind = drop_tails bounds (suc p) 0 (suc p) code (omega arith) in
    let look : (q : ℕ) → suc p ≤ q → get_or behind (q - suc p) 0 ≡ get_or whole q 0 =
    λ q le.
    let n : suc p + (q - suc p) ≡ q = omega arith in
    ap (λ l. get_or l (q - suc p) 0) (sym rest) ∙ get_or-drop (suc p) whole (q - suc p) 0 ∙ ap (λ m. get_or whole m 0) n
    in
    let first : get_or whole p 0 ≡ steps_from bounds (λ q. get_or behind (q - suc p) 0) p i =
    let n : p ≡ p + 0 = omega arith in
    ap (λ m. get_or whole m 0) n ∙ sym (get_or-drop p whole 0 0) ∙ ap (λ l. get_or l 0 0) here
    in
    first ∙ same_steps bounds (λ q. get_or behind (q - suc p) 0) (λ q. get_or whole q 0) p i later look

length-tails : (bounds : List ℕ) (p : ℕ) (code : List Control) → length (tails bounds p code) ≡ length code
unfolding tails
length-tails bounds p [] = refl
length-tails bounds p (i ∷ is) = ap suc (length-tails bounds (suc p) is)

tail_past : (bounds : List ℕ) (code : List Control) (p : ℕ) → length code ≤ p → tail bounds code p ≡ 0
unfolding tail
tail_past bounds code p le = get_or_past (tails bounds 0 code) p 0 (let e = length-tails bounds 0 code in omega arith)

-- ---- what an opener's end leaves: the steps behind each of these brackets, times the visits there

abbrev pending : (ℕ → ℕ) → List Control → List ℕ → ℕ
pending T code [] = 0
pending T code (s ∷ ss) = product code ss * T (suc (end_in (slice_get code s))) + pending T code ss

-- what is still to come at p, where p is visited as often as it may be
abbrev ahead : (ℕ → ℕ) → List Control → ℕ → List ℕ → ℕ
ahead T code p openers = product code openers * T p + pending T code openers

pub end_of : (o : Option Control) (e : ℕ) → named_end o ≡ Some e → end_in o ≡ e
end_of (Some (Open b f)) e h = same_Some f e h
end_of None e h = cc
end_of (Some Step) e h = cc
end_of (Some (Jump c)) e h = cc
end_of (Some (Branch c)) e h = cc
end_of (Some (End c)) e h = cc
end_of (Some (Break c)) e h = cc
end_of (Some (Call c)) e h = cc
end_of (Some Return) e h = cc

-- no bracket begins or ends at an instruction of another kind
pub no_begin : (code : List Control) (p : ℕ) (i : Control) → slice_get code p ≡ Some i → named_end (Some i) ≡ None → (e : ℕ) → IsBracket code p e → ⊥
no_begin code p i at n e b = let a = ap named_end at in let k = b.1 in cc

pub no_end : (code : List Control) (p : ℕ) (i : Control) → slice_get code p ≡ Some i → named_opener (Some i) ≡ None → (s : ℕ) → IsBracket code s p → ⊥
no_end code p i at n s b = let a = ap named_opener at in let k = b.2 in cc

-- ---- code that keeps the rules

pub fine_at : (code : List Control) → KeepsRules code → (p : ℕ) (i : Control) → slice_get code p ≡ Some i → IsFine code p i
fine_at code keeps p i at = (keeps p (slice_get_within code p i at) i at).0

pub last_at : (code : List Control) → KeepsRules code → (p : ℕ) (i : Control) → slice_get code p ≡ Some i → p + 1 ≡ length code → i ≡ Return
last_at code keeps p i at = (keeps p (slice_get_within code p i at) i at).1

pub nested_in : (code : List Control) → KeepsRules code → IsNested code
nested_in code keeps = nested_before code (length code) (λ q lt j there. fine_at code keeps q j there)

module _ (bounds : List ℕ) (code : List Control) (keeps : KeepsRules code) where
  -- an instruction that is no opener and no end: the brackets stay, and one visit is paid
  ahead_plain : (p c : ℕ) (i : Control) → slice_get code p ≡ Some i → named_end (Some i) ≡ None → named_opener (Some i) ≡ None → cost bounds (Some i) ≡ c → steps_from bounds (tail bounds code) p i ≡ c + tail bounds code (suc p) → weight code p * cost bounds (slice_get code p) + ahead (tail bounds code) code (suc p) (around code (suc p)) ≡ ahead (tail bounds code) code p (around code p)
  ahead_plain p c i at nb ne k w =
      let same = around_plain code p (no_begin code p i at nb) (no_end code p i at ne) in
      let T = tail bounds code in
      let t : T p ≡ c + T (suc p) = tail_at bounds code p i at (λ e h. absurd (let m = nb in cc)) ∙ w in
      let a : weight code p * cost bounds (slice_get code p) ≡ weight code p * c = ap (λ o. weight code p * cost bounds o) at ∙ ap (λ n. weight code p * n) k in
      let b : ahead T code (suc p) (around code (suc p)) ≡ ahead T code (suc p) (around code p) = ap (ahead T code (suc p)) same in
      let d : weight code p * T p ≡ weight code p * (c + T (suc p)) = ap (λ n. weight code p * n) t in
      omega arith

  -- one place on: what was paid at p and what is ahead of p + 1 are what was ahead of p
  ahead_more : (p : ℕ) (i : Control) → slice_get code p ≡ Some i → weight code p * cost bounds (slice_get code p) + ahead (tail bounds code) code (suc p) (around code (suc p)) ≡ ahead (tail bounds code) code p (around code p)
  ahead_more p Step at = ahead_plain p 1 Step at refl refl refl refl
  ahead_more p (Jump c) at = ahead_plain p 1 (Jump c) at refl refl refl refl
  ahead_more p (Branch c) at = ahead_plain p 1 (Branch c) at refl refl refl refl
  ahead_more p (Break c) at = ahead_plain p 1 (Break c) at refl refl refl refl
  ahead_more p Return at = ahead_plain p 1 Return at refl refl refl refl
  ahead_more p (Call c) at = ahead_plain p (1 + get_or bounds c 0) (Call c) at refl refl refl refl
  ahead_more p (Open b e) at =
      let o = fine_at code keeps p (Open b e) at in
      let T = tail bounds code in
      let w = weight code p in
      let now = around_first code (nested_in code keeps) p e o.bracket in
      let t : T p ≡ 1 + b * T (suc p) + T (suc e) = tail_at bounds code p (Open b e) at (λ f h. let ef : e ≡ f = same_Some e f h in omega (arith, o.bracket.0)) in
      let x : w * cost bounds (slice_get code p) ≡ w * 1 = ap (λ i. w * cost bounds i) at in
      let y : ahead T code (suc p) (around code (suc p)) ≡ b * w * T (suc p) + (w * T (suc e) + pending T code (around code p)) =
      ap (ahead T code (suc p)) now
      ∙ ap (λ i. limit_in i * w * T (suc p) + (w * T (suc (end_in i)) + pending T code (around code p))) at
      in
      let d : w * T p ≡ w * (1 + b * T (suc p) + T (suc e)) = ap (λ n. w * n) t in
      omega arith
  ahead_more p (End s) at =
      let o = fine_at code keeps p (End s) at in
      let nest = nested_in code keeps in
      let T = tail bounds code in
      let now = around_end code nest s p o in
      let next = around_behind code nest s p o in
      let t : T p ≡ 1 = tail_at bounds code p (End s) at (λ f h. absurd (let m : named_end (Some (End s)) ≡ None = refl in cc)) in
      let x : weight code p * cost bounds (slice_get code p) ≡ weight code p * 1 = ap (λ i. weight code p * cost bounds i) at in
      let y : ahead T code (suc p) (around code (suc p)) ≡ ahead T code (suc p) (around code s) = ap (ahead T code (suc p)) next in
      let z : ahead T code p (around code p) ≡ weight code p * T p + (product code (around code s) * T (suc p) + pending T code (around code s)) =
      ap (λ l. weight code p * T p + pending T code l) now
      ∙ ap (λ f. weight code p * T p + (product code (around code s) * T (suc f) + pending T code (around code s))) (end_of (slice_get code s) p o.1)
      in
      let d : weight code p * T p ≡ weight code p * 1 = ap (λ n. weight code p * n) t in
      omega arith

  -- at each place, what was paid so far and what is ahead are the whole
  paid_and_ahead : (p : ℕ) → p ≤ length code → partial bounds code p + ahead (tail bounds code) code p (around code p) ≡ tail bounds code 0
  unfolding partial
  paid_and_ahead zero le = let e = ap (ahead (tail bounds code) code 0) (around_start code) in omega arith
  paid_and_ahead (suc p) le =
      let ih = paid_and_ahead p (omega arith) in
      let here = slice_get_some code p (omega arith) in
      let m = ahead_more p here.0 here.1 in
      omega arith

  -- the weighted sum of all places is the most steps from place 0
  pub bound_is_tail : partial bounds code (length code) ≡ tail bounds code 0
  bound_is_tail =
      let h = paid_and_ahead (length code) (omega arith) in
      let T = tail bounds code in
      let n = ap (ahead T code (length code)) (around_none code (length code) (omega arith)) in
      let z : T (length code) ≡ 0 = tail_past bounds code (length code) (omega arith) in
      omega arith
