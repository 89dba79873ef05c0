-- The least fault, found from the left.
use Rattle.std.proofs.Common.{◌≡◌, ℕ, ◌≤◌, drop, Bool, true, false, List, ◌∷◌, length, map, Option, Some, None, refl, ap, sym, ◌∙◌, arith}
use Rattle.std.specs.Option.{option_map}
use Rattle.std.proofs.lemmas.Bool.Decides.{nat_tests}
use Rattle.std.proofs.lemmas.List.{drop_all}
use Rattle.cse_logic_names.specs.declared.faults.Fault as rust
use Rattle.cse_logic_faults.specs.Faults.{Fault, is_before, lesser, least_of}
use Rattle.cse_logic_faults.specs.Least.{lesser_so_far, both}
use Rattle.cse_logic_faults.specs.Listed.{listed}

-- before what stands before another
before_both : (x y z : Fault) → is_before x y ≡ true → is_before y z ≡ true → is_before x z ≡ true
before_both x y z h k = grind (arith, nat_tests, h, k)

-- not before what doesn't stand before another
before_none : (x y z : Fault) → is_before x y ≡ false → is_before y z ≡ false → is_before x z ≡ false
before_none x y z h k = grind (arith, nat_tests, h, k)

three : (l x r : Fault) → lesser (lesser_so_far (Some l) x) (Some r) ≡ lesser l (Some (lesser x (Some r)))
three l x r = by (is_before x l) (is_before r x) refl refl
  where
    by : (a b : Bool) → is_before x l ≡ a → is_before r x ≡ b → lesser (lesser_so_far (Some l) x) (Some r) ≡ lesser l (Some (lesser x (Some r)))
    by true true h k = rw (h, k, before_both r x l k h) refl
    by true false h k = rw (h, k) rw h refl
    by false true h k = rw (h, k) refl
    by false false h k = rw (h, k, before_none r x l k h) rw h refl

turn_is : (l : Option Fault) (x : Fault) (rest : Option Fault) → both (Some (lesser_so_far l x)) rest ≡ both l (Some (lesser x rest))
turn_is None x rest = refl
turn_is (Some l) x None = refl
turn_is (Some l) x (Some r) = ap Some (three l x r)

pub least_turn : (here others : List rust.Fault) (x : rust.Fault) → here ≡ x ∷ others → (l : Option rust.Fault) (y : rust.Fault) (total : Option Fault)
    → both (option_map listed l) (least_of (map listed here)) ≡ total → listed y ≡ lesser_so_far (option_map listed l) (listed x)
    → both (Some (listed y)) (least_of (map listed others)) ≡ total
unfolding least_of
least_turn here others x next l y total inv e =
    let rest = least_of (map listed others) in
    ap (λ z. both (Some z) rest) e
    ∙ turn_is (option_map listed l) (listed x) rest
    ∙ ap (λ zs. both (option_map listed l) (least_of (map listed zs))) (sym next)
    ∙ inv

none_is : (l : Option Fault) → both l None ≡ l
none_is None = refl
none_is (Some l) = refl

pub least_end : (items : List rust.Fault) (i : ℕ) → length items ≤ i → (l : Option rust.Fault) (total : Option Fault)
    → both (option_map listed l) (least_of (map listed (drop i items))) ≡ total → option_map listed l ≡ total
unfolding least_of
least_end items i le l total inv =
    sym (none_is (option_map listed l))
    ∙ ap (λ zs. both (option_map listed l) (least_of (map listed zs))) (sym (drop_all i items le))
    ∙ inv
