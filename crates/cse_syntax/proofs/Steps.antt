-- The steps that every rule is made of.
use Rattle.std.proofs.Common.{◌≡◌, ℕ, zero, suc, Bool, true, false, cond, List, [], ◌∷◌, drop, Option, Some, None, refl, sym, ap, subst, ◌∙◌, inl, inr, ◌⊎◌}
use denote.Enum.Bare.{same_true}
use Rattle.std.proofs.Common.{rules}
use Rattle.std.proofs.lemmas.Option.{same_Some}
use Rattle.cse_syntax_tree.specs.contracts.token.Mark.{the_type}
use Rattle.cse_syntax_tree.specs.declared.token.Mark.{Mark}
use Rattle.cse_syntax_tree.specs.declared.token.Mark.TheVariants as m
use Rattle.cse_syntax_tree.specs.Word.{Word, Name, Digits, Quoted, Value, Leave, Sign, Stray}
use Rattle.cse_syntax_tree.specs.Tree.{Spelling}
use Rattle.cse_syntax_tree.specs.Grammar.{is_name, is_within, IsName, HasRoom, spell_mark}
use Rattle.cse_syntax.specs.Reading.{◌>>=◌, same, sees, after, expect, ends, enter, take_name, name_before, take_number}

abbrev pub read : {A : Type 0} → A → List Word → Option (A × List Word)
read x rest = Some (x, rest)

pub both_are : {A : Type 0} {a x : A} {b y : List Word} → read a b ≡ read x y → (a ≡ x) × (b ≡ y)
both_are {A} e = let p = same_Some _ _ e in (ap (λ (q : A × List Word). q.0) p, ap (λ (q : A × List Word). q.1) p)

-- the value of a step that did not fail
pub bind_some : {A B : Type 0} (o : Option A) (f : A → Option B) (y : B) → (o >>= f) ≡ Some y → (x : A) × (o ≡ Some x) × (f x ≡ Some y)
bind_some None f y e = absurd cc
bind_some (Some x) f y e = (x, refl, e)

pub if_some : {A : Type 0} (b : Bool) (x y : A) (z : A) → cond b x y ≡ z → ((b ≡ true) × (x ≡ z)) ⊎ ((b ≡ false) × (y ≡ z))
if_some true x y z e = inl (refl, e)
if_some false x y z e = inr (refl, e)

-- the two steps of a test that must hold
pub test_some : {A : Type 0} (b : Bool) (x : A) (z : A) → cond b (Some x) None ≡ Some z → (b ≡ true) × (Some x ≡ Some z)
test_some true x z e = (refl, e)
test_some false x z e = absurd cc

same_is : (a b : Mark) → same a b ≡ true → a ≡ b
same_is a b = same_true the_type (search rules) a b

-- the mark stands at the front
pub sees_is : (mark : Mark) (ws : List Word) → sees mark ws ≡ true → ws ≡ Sign mark ∷ drop 1 ws
sees_is mark [] e = absurd cc
sees_is mark (Name s ∷ ws) e = absurd cc
sees_is mark (Digits s ∷ ws) e = absurd cc
sees_is mark (Quoted s ∷ ws) e = absurd cc
sees_is mark (Value t s ∷ ws) e = absurd cc
sees_is mark (Leave t s ∷ ws) e = absurd cc
sees_is mark (Stray ∷ ws) e = absurd cc
sees_is mark (Sign found ∷ ws) e = ap (λ (k : Mark). Sign k ∷ ws) (same_is found mark e)

pub expect_is : (mark : Mark) (ws rest : List Word) → expect mark ws ≡ Some rest → ws ≡ Sign mark ∷ rest
expect_is mark ws rest e =
    elim (if_some (sees mark ws) (Some (drop 1 ws)) None (Some rest) e) [
      | inl h ↦ sees_is mark ws h.0 ∙ ap (λ (r : List Word). Sign mark ∷ r) (same_Some _ _ h.1)
      | inr h ↦ absurd cc
    ]

pub ends_is : (mark : Mark) (ws rest : List Word) → ends mark ws ≡ Some rest → ws ≡ Sign mark ∷ Sign m.Semicolon ∷ rest
unfolding ends
ends_is mark ws rest e =
    let a = bind_some (expect mark ws) (expect m.Semicolon) rest e in
    expect_is mark ws a.0 a.1 ∙ ap (λ (r : List Word). Sign mark ∷ r) (expect_is m.Semicolon a.0 rest a.2)

pub enter_is : (room : ℕ) (ws rest : List Word) → enter room ws ≡ Some rest → (ws ≡ Sign m.Open ∷ rest) × HasRoom room
enter_is zero ws rest e = absurd cc
enter_is (suc room) ws rest e = (expect_is m.Open ws rest e, tt)

pub take_name_is : (ws : List Word) (name : Spelling) (rest : List Word) → take_name ws ≡ Some (name, rest) → (ws ≡ Name name ∷ rest) × IsName name
take_name_is [] name rest e = absurd cc
take_name_is (Name s ∷ ws) name rest e =
    let t = test_some (is_name s.text) (s, ws) (name, rest) e in
    let p = both_are t.1 in
    (ap (λ (n : Spelling). Name n ∷ ws) p.0 ∙ ap (λ (r : List Word). Name name ∷ r) p.1, ap (λ (n : Spelling). is_name n.text) (sym p.0) ∙ t.0)
take_name_is (Digits s ∷ ws) name rest e = absurd cc
take_name_is (Quoted s ∷ ws) name rest e = absurd cc
take_name_is (Sign s ∷ ws) name rest e = absurd cc
take_name_is (Value t s ∷ ws) name rest e = absurd cc
take_name_is (Leave t s ∷ ws) name rest e = absurd cc
take_name_is (Stray ∷ ws) name rest e = absurd cc

pub name_before_is : (mark : Mark) (ws : List Word) (name : Spelling) (rest : List Word) → name_before mark ws ≡ Some (name, rest) → (ws ≡ Name name ∷ Sign mark ∷ rest) × IsName name
unfolding name_before
name_before_is mark ws name rest e =
    let a = bind_some (take_name ws) _ _ e in
    let b = bind_some (expect mark a.0.1) _ _ a.2 in
    let n = take_name_is ws a.0.0 a.0.1 a.1 in
    let p = both_are b.2 in
    let behind : a.0.1 ≡ Sign mark ∷ rest = expect_is mark a.0.1 b.0 b.1 ∙ ap (λ (r : List Word). Sign mark ∷ r) p.1 in
    (n.0 ∙ ap (λ (r : List Word). Name a.0.0 ∷ r) behind ∙ ap (λ (s : Spelling). Name s ∷ Sign mark ∷ rest) p.0, subst IsName p.0 n.1)

pub take_number_is : (least most : ℕ) (ws : List Word) (digits : Spelling) (rest : List Word) → take_number least most ws ≡ Some (digits, rest) → (ws ≡ Digits digits ∷ rest) × (is_within least most digits.text ≡ true)
take_number_is least most [] digits rest e = absurd cc
take_number_is least most (Name s ∷ ws) digits rest e = absurd cc
take_number_is least most (Digits s ∷ ws) digits rest e =
    let t = test_some (is_within least most s.text) (s, ws) (digits, rest) e in
    let p = both_are t.1 in
    (ap (λ (n : Spelling). Digits n ∷ ws) p.0 ∙ ap (λ (r : List Word). Digits digits ∷ r) p.1, ap (λ (n : Spelling). is_within least most n.text) (sym p.0) ∙ t.0)
take_number_is least most (Quoted s ∷ ws) digits rest e = absurd cc
take_number_is least most (Sign s ∷ ws) digits rest e = absurd cc
take_number_is least most (Value t s ∷ ws) digits rest e = absurd cc
take_number_is least most (Leave t s ∷ ws) digits rest e = absurd cc
take_number_is least most (Stray ∷ ws) digits rest e = absurd cc

-- the words of a mark that was looked for
pub after_is_spelled : (mark : Mark) (ws : List Word) → ws ≡ spell_mark mark (sees mark ws) (after mark ws)
after_is_spelled mark ws =
    let by : (b : Bool) → sees mark ws ≡ b → ws ≡ spell_mark mark b (cond b (drop 1 ws) ws) = λ b. elim b as (λ b. sees mark ws ≡ b → ws ≡ spell_mark mark b (cond b (drop 1 ws) ws)) [
      | true ↦ λ h. sees_is mark ws h
      | false ↦ λ h. refl
    ] in by (sees mark ws) refl
