-- What judging gives is right: it is made of the expression, and keeps each rule.
use Rattle.std.proofs.Common.{◌≡◌, ℕ, ◌+◌, Bool, true, false, List, [], ◌∷◌, Option, Some, None, refl, sym, ap, ◌∙◌, subst}
use Rattle.std.specs.Prelude.{◌==◌, ◌&&◌, not, if◌then◌else◌, option_map, slice_get}
use Rattle.std.proofs.lemmas.Bool.{eqb-true, false≢true, and_parts, not-true}
use Rattle.std.proofs.lemmas.Iterator.Adapters.{option_map_id}
use Rattle.cse_value.specs.declared.shape.ItemKind.{ItemKind}
use Rattle.cse_value.specs.declared.shape.ItemKind.TheVariants as kind
use Rattle.cse_syntax_tree.specs.declared.tree.Relation.{Relation}
use Rattle.cse_syntax_tree.specs.declared.tree.Function.TheVariants as f
use Rattle.cse_syntax_tree.specs.declared.tree.Query.{Query}
use Rattle.cse_syntax_tree.specs.declared.tree.Query.TheVariants as q
use Rattle.cse_syntax_tree.specs.Tree as syntax
use Rattle.cse_syntax_tree.specs.Tree.{Spelling}
use Rattle.cse_logic_tree.specs.declared.tree.Variable.{Variable}
use Rattle.cse_logic_tree.specs.declared.tree.Found.{Found}
use Rattle.cse_logic_tree.specs.declared.tree.Present.{Present}
use Rattle.cse_logic_tree.specs.declared.tree.Present.TheVariants as p
use Rattle.cse_logic_tree.specs.declared.tree.Pick.{Pick}
use Rattle.cse_logic_tree.specs.Typed.{Number, Words, Numbers, Operations, Constant, Item, ItemAt, Cell, Call, Group, Int, IsSpecial, Deck, TotOcc, MaxOcc, CurOcc, InSet, Minus, Not, Compare, CompareTexts, Chain}
use Rattle.cse_logic_tree.specs.Typed.{TextItem, TextItemAt, TextGroup, no_number, number_and, operation_and}
use Rattle.cse_logic_tree.specs.Typed.{Dimension, Sized, Rows}
use Rattle.cse_logic_tree.specs.Erase.{erase, erase_words, erase_all, erase_operations, subscript}
use Rattle.cse_logic_names.specs.declared.meaning.Meaning.{Meaning}
use Rattle.cse_logic_names.specs.declared.meaning.Meaning.TheVariants as m
use Rattle.cse_logic_names.specs.Scope.{Scope, meant, variable_meant, own_result, has_case, kind_and_owner, found}
use Rattle.cse_logic_names.specs.WellTyped.{Holds, IsField, IsPresent, item_of, whole_set, set_kind, set_meant, IsNumberSet, ArePicks, AreDeckPicks, dimensions_of, may_call, may_divide, is_last, count, value_of, IsNumber, IsWords, AreNumbers, AreOperands}
use Rattle.cse_logic_expressions.specs.Judge.{Judged, AsNumber, AsWords, Unknown, as_number, present_at, field_at, item_judged, sole, item_at_judged, result_judged, bare, is_count, indexed, present_if, number_present, pick, set_present, picks_for, picks_of, deck_of, record_of, current, queried, is_number_kind, number_set, member, grouped, compared, expr_count, is_end, is_allowed, judge, judge_all, judge_operations}
use Rattle.cse_logic_names.specs.Walk.{joined, only_if}

-- what is there is so
abbrev pub For : {A : Type 0} → (A → Type 0) → Option A → Type 0
For P None = Unit {0}
For P (Some x) = P x

pub for_any : {A : Type 0} (o : Option A) → For (λ x. Unit {0}) o
for_any None = tt
for_any (Some x) = tt

pub for_map : {A B : Type 0} (P : A → Type 0) (Q : B → Type 0) (g : A → B) → ((x : A) → P x → Q (g x)) → (o : Option A) → For P o → For Q (option_map g o)
for_map P Q g h None k = tt
for_map P Q g h (Some x) k = h x k

pub for_joined : {A B C : Type 0} (P : A → Type 0) (Q : B → Type 0) (R : C → Type 0) (g : A → B → C) → ((x : A) (y : B) → P x → Q y → R (g x y)) → (o : Option A) (u : Option B) → For P o → For Q u → For R (joined g o u)
for_joined P Q R g h (Some x) (Some y) k l = h x y k l
for_joined P Q R g h (Some x) None k l = tt
for_joined P Q R g h None u k l = tt

pub for_only : {A : Type 0} (P : A → Type 0) (b : Bool) (o : Option A) → (b ≡ true → For P o) → For P (only_if b o)
for_only P true o h = h refl
for_only P false o h = tt

-- ---- what is said of an answer

abbrev pub IsTyped : Scope → Bool → syntax.Expr → Number → Type 0
IsTyped s top x y = (erase y ≡ x) × IsNumber s top y

abbrev pub IsTypedWords : Scope → syntax.Expr → Words → Type 0
IsTypedWords s x y = (erase_words y ≡ x) × IsWords s y

abbrev pub Right : Scope → Bool → syntax.Expr → Judged → Type 0
Right s top x (AsNumber o) = For (IsTyped s top x) o
Right s top x (AsWords o) = For (IsTypedWords s x) o
Right s top x Unknown = Unit {0}

abbrev pub AreTyped : Scope → syntax.Exprs → Numbers → Type 0
AreTyped s xs ys = (erase_all ys ≡ xs) × (count ys ≡ expr_count xs) × AreNumbers s ys

abbrev AreTypedOperations : Scope → Bool → syntax.Operations → Operations → Type 0
AreTypedOperations s top xs ys = (erase_operations ys ≡ xs) × (is_last ys ≡ is_end xs) × AreOperands s top ys

pub number_right : (s : Scope) (top : Bool) (x : syntax.Expr) (a : Judged) → Right s top x a → For (IsTyped s top x) (as_number a)
number_right s top x (AsNumber o) h = h
number_right s top x (AsWords o) h = tt
number_right s top x Unknown h = tt

-- ---- items

present_here : (s : Scope) (k : ItemKind) (item owner : ℕ) (b : Bool) → (owner == 255) ≡ b → has_case s.routine ≡ true → kind_and_owner s.dictionary item ≡ Some (k, owner) → (o : Option Found) → found s owner ≡ o
    → For (λ x. (item_of x ≡ item) × IsPresent s k x) (if b then Some (p.Id item) else option_map (p.Here (record { owner = owner; item = item })) o)
present_here s k item owner true e c h o w = (refl, (c, h ∙ ap (λ n. Some (k, n)) (eqb-true owner 255 e)))
present_here s k item owner false e c h None w = tt
present_here s k item owner false e c h (Some how) w = (refl, ((c, h, e), w))

present_right : (s : Scope) (k : ItemKind) (item owner : ℕ) → kind_and_owner s.dictionary item ≡ Some (k, owner) → For (λ x. (item_of x ≡ item) × IsPresent s k x) (present_at s item owner)
unfolding present_at
present_right s k item owner h = for_only _ (has_case s.routine) _ (λ c. present_here s k item owner (owner == 255) refl c h (found s owner) refl)

field_right : (s : Scope) (k : ItemKind) (item owner : ℕ) → kind_and_owner s.dictionary item ≡ Some (k, owner) → For (λ x. (x.item ≡ item) × IsField s k x) (field_at s item owner)
unfolding field_at
field_right s k item owner h = for_only _ (has_case s.routine && not (owner == 255)) _ (λ c.
    let d = and_parts (has_case s.routine) (not (owner == 255)) c in
    (refl, (d.0, h, not-true (owner == 255) d.1)))

item_right : (s : Scope) (top : Bool) (name : Spelling) (item : ℕ) (o : Option (ItemKind × ℕ)) → meant s name ≡ Some (m.Item item) → kind_and_owner s.dictionary item ≡ o → Right s top (syntax.Bare name) (item_judged s name item o)
item_right s top name item None e h = tt
item_right s top name item (Some (kind.Opaque, owner)) e h = tt
item_right s top name item (Some (kind.Number, owner)) e h =
    for_map (λ x. (item_of x ≡ item) × IsPresent s kind.Number x) (IsTyped s top (syntax.Bare name)) (Item name) (λ x k. (refl, (e ∙ ap (λ n. Some (m.Item n)) (sym k.0), k.1))) _ (present_right s kind.Number item owner h)
item_right s top name item (Some (kind.Text, owner)) e h =
    for_map (λ x. (item_of x ≡ item) × IsPresent s kind.Text x) (IsTypedWords s (syntax.Bare name)) (TextItem name) (λ x k. (refl, (e ∙ ap (λ n. Some (m.Item n)) (sym k.0), k.1))) _ (present_right s kind.Text item owner h)

-- a single subscript
abbrev pub IsSole : Scope → syntax.Exprs → Number → Type 0
IsSole s xs y = (subscript (erase y) ≡ xs) × IsNumber s false y

pub sole_right : (s : Scope) (xs : syntax.Exprs) (o : Option Numbers) → For (AreTyped s xs) o → For (IsSole s xs) (sole o)
sole_right s xs None h = tt
sole_right s xs (Some no_number) h = tt
sole_right s xs (Some (number_and x no_number)) h = (h.0, h.2.0)
sole_right s xs (Some (number_and x (number_and y ys))) h = tt

item_at_right : (s : Scope) (top : Bool) (name : Spelling) (item : ℕ) (xs : syntax.Exprs) (o : Option (ItemKind × ℕ)) (ys : Option Numbers) → meant s name ≡ Some (m.Item item) → kind_and_owner s.dictionary item ≡ o → For (AreTyped s xs) ys
    → Right s top (syntax.Indexed name xs) (item_at_judged s name item o ys)
item_at_right s top name item xs None ys e h k = tt
item_at_right s top name item xs (Some (kind.Opaque, owner)) ys e h k = tt
item_at_right s top name item xs (Some (kind.Number, owner)) ys e h k =
    for_joined (λ x. (x.item ≡ item) × IsField s kind.Number x) (IsSole s xs) (IsTyped s top (syntax.Indexed name xs)) (ItemAt name)
    (λ x y a b. (ap (syntax.Indexed name) b.0, (e ∙ ap (λ n. Some (m.Item n)) (sym a.0), a.1, b.1))) (field_at s item owner) (sole ys) (field_right s kind.Number item owner h) (sole_right s xs ys k)
item_at_right s top name item xs (Some (kind.Text, owner)) ys e h k =
    for_joined (λ x. (x.item ≡ item) × IsField s kind.Text x) (IsSole s xs) (IsTypedWords s (syntax.Indexed name xs)) (TextItemAt name)
    (λ x y a b. (ap (syntax.Indexed name) b.0, (e ∙ ap (λ n. Some (m.Item n)) (sym a.0), a.1, b.1))) (field_at s item owner) (sole ys) (field_right s kind.Text item owner h) (sole_right s xs ys k)

-- ---- names

value_right : (s : Scope) (top : Bool) (digits : Spelling) (o : Option _) → value_of digits ≡ o → For (IsTyped s top (syntax.Number digits)) (option_map (Constant digits) o)
value_right s top digits None e = tt
value_right s top digits (Some value) e = (refl, e)

result_right : (s : Scope) (top : Bool) (name : Spelling) (k : ℕ) (o : Option Variable) → meant s name ≡ Some (m.Function k) → own_result s.routine k ≡ o → Right s top (syntax.Bare name) (result_judged name o)
result_right s top name k None e h = tt
result_right s top name k (Some x) e h = (refl, ap (variable_meant s.routine) e ∙ h)

bare_right : (s : Scope) (top : Bool) (name : Spelling) (o : Option Meaning) → meant s name ≡ o → Right s top (syntax.Bare name) (bare s name o)
bare_right s top name None e = tt
bare_right s top name (Some (m.Variable x)) e = (refl, ap (variable_meant s.routine) e)
bare_right s top name (Some (m.Text g)) e = (refl, e)
bare_right s top name (Some (m.Array a)) e = tt
bare_right s top name (Some (m.Function k)) e = result_right s top name k (own_result s.routine k) e refl
bare_right s top name (Some (m.Record x)) e = tt
bare_right s top name (Some (m.Item item)) e = item_right s top name item (kind_and_owner s.dictionary item) e refl
bare_right s top name (Some (m.Set x)) e = tt
bare_right s top name (Some m.Application) e = tt
bare_right s top name (Some m.Level) e = tt

pub is_count_holds : (n : ℕ) (o : Option ℕ) → is_count n o ≡ true → o ≡ Some n
is_count_holds n None h = absurd (false≢true h)
is_count_holds n (Some k) h = ap Some (eqb-true k n h)

indexed_right : (s : Scope) (top : Bool) (name : Spelling) (o : Option Meaning) (xs : syntax.Exprs) (ys : Option Numbers) → meant s name ≡ o → For (AreTyped s xs) ys → Right s top (syntax.Indexed name xs) (indexed s name o (expr_count xs) ys)
indexed_right s top name None xs ys e h = tt
indexed_right s top name (Some (m.Variable x)) xs ys e h = tt
indexed_right s top name (Some (m.Text g)) xs ys e h = tt
indexed_right s top name (Some (m.Array a)) xs ys e h =
    for_only _ (is_count (expr_count xs) (dimensions_of s a)) _ (λ c. for_map (AreTyped s xs) (IsTyped s top (syntax.Indexed name xs)) (Cell name a)
    (λ y k. (ap (syntax.Indexed name) k.0, (e, is_count_holds (expr_count xs) (dimensions_of s a) c ∙ ap Some (sym k.1), k.2))) ys h)
indexed_right s top name (Some (m.Function k)) xs ys e h =
    for_only _ (may_call s (expr_count xs) (slice_get s.functions k)) _ (λ c. for_map (AreTyped s xs) (IsTyped s top (syntax.Indexed name xs)) (Call name k)
    (λ y l. (ap (syntax.Indexed name) l.0, (e, ap (λ n. may_call s n (slice_get s.functions k)) l.1 ∙ c, l.2))) ys h)
indexed_right s top name (Some (m.Record x)) xs ys e h = tt
indexed_right s top name (Some (m.Item item)) xs ys e h = item_at_right s top name item xs (kind_and_owner s.dictionary item) ys e refl h
indexed_right s top name (Some (m.Set x)) xs ys e h = tt
indexed_right s top name (Some m.Application) xs ys e h = tt
indexed_right s top name (Some m.Level) xs ys e h = tt

-- ---- sets and records

present_if_right : (s : Scope) (item : ℕ) (o : Option (ItemKind × ℕ)) → kind_and_owner s.dictionary item ≡ o → For (λ x. (item_of x ≡ item) × IsPresent s kind.Number x) (present_if s item o)
present_if_right s item None h = tt
present_if_right s item (Some (kind.Opaque, owner)) h = tt
present_if_right s item (Some (kind.Number, owner)) h = present_right s kind.Number item owner h
present_if_right s item (Some (kind.Text, owner)) h = tt

number_present_right : (s : Scope) (item : ℕ) → For (λ x. (item_of x ≡ item) × IsPresent s kind.Number x) (number_present s item)
number_present_right s item = present_if_right s item (kind_and_owner s.dictionary item) refl

set_present_right : (s : Scope) (o : Option ℕ) → For (λ x. (o ≡ Some (item_of x)) × IsPresent s kind.Number x) (set_present s o)
set_present_right s None = tt
set_present_right s (Some item) =
    subst (λ (r : Option Present). For (λ x. (Some item ≡ Some (item_of x)) × IsPresent s kind.Number x) r) (option_map_id (number_present s item))
    (for_map (λ x. (item_of x ≡ item) × IsPresent s kind.Number x) (λ x. (Some item ≡ Some (item_of x)) × IsPresent s kind.Number x) (λ x. x) (λ x k. (ap Some (sym k.0), k.1)) (number_present s item) (number_present_right s item))

picks_right : (s : Scope) (ds : List Dimension) → For (ArePicks s ds) (picks_for s ds)
picks_right s [] = tt
picks_right s (Sized digits size ∷ ds) = tt
picks_right s (Rows name set one_more size ∷ ds) =
    let item = whole_set (slice_get s.dictionary.sets set) in
    for_joined (λ x. (x.set ≡ set) × (x.has_leftover ≡ one_more) × (item ≡ Some (item_of x.item)) × IsPresent s kind.Number x.item) (ArePicks s ds) (ArePicks s (Rows name set one_more size ∷ ds)) (λ x xs. x ∷ xs)
    (λ x xs a b. (a.0, a.1, a.2, a.3, b)) _ (picks_for s ds)
    (for_map (λ x. (item ≡ Some (item_of x)) × IsPresent s kind.Number x) _ (pick set one_more) (λ x k. (refl, refl, k.0, k.1)) (set_present s item) (set_present_right s item))
    (picks_right s ds)

pub deck_picks_right : (s : Scope) (o : Option (Option (List Dimension))) → For (λ xs. Holds (has_case s.routine) × AreDeckPicks s o xs) (picks_of s o)
deck_picks_right s (Some (Some ds)) = for_only _ (has_case s.routine) _ (λ c. with_case c (picks_for s ds) (picks_right s ds))
  where
    with_case : has_case s.routine ≡ true → (o : Option (List Pick)) → For (ArePicks s ds) o → For (λ xs. Holds (has_case s.routine) × ArePicks s ds xs) o
    with_case c None h = tt
    with_case c (Some xs) h = (c, h)
deck_picks_right s (Some None) = tt
deck_picks_right s None = tt

deck_right : (s : Scope) (top : Bool) (name : Spelling) (o : Option Meaning) → meant s name ≡ o → For (IsTyped s top (syntax.Query' q.GetDeck name)) (deck_of s name o)
deck_right s top name (Some (m.Array a)) e = for_map (λ xs. Holds (has_case s.routine) × AreDeckPicks s (slice_get s.arrays a) xs) _ (Deck name a) (λ xs k. (refl, (e, k.0, k.1))) (picks_of s (slice_get s.arrays a)) (deck_picks_right s (slice_get s.arrays a))
deck_right s top name (Some (m.Variable x)) e = tt
deck_right s top name (Some (m.Text x)) e = tt
deck_right s top name (Some (m.Function x)) e = tt
deck_right s top name (Some (m.Record x)) e = tt
deck_right s top name (Some (m.Item x)) e = tt
deck_right s top name (Some (m.Set x)) e = tt
deck_right s top name (Some m.Application) e = tt
deck_right s top name (Some m.Level) e = tt
deck_right s top name None e = tt

abbrev pub IsRecord : Scope → Option Meaning → ℕ → Type 0
IsRecord s o x = (o ≡ Some (m.Record x)) × Holds (has_case s.routine)

pub record_right : (s : Scope) (o : Option Meaning) → For (IsRecord s o) (record_of s o)
record_right s (Some (m.Record x)) = for_only _ (has_case s.routine) _ (λ c. (refl, c))
record_right s (Some (m.Variable x)) = tt
record_right s (Some (m.Text x)) = tt
record_right s (Some (m.Array x)) = tt
record_right s (Some (m.Function x)) = tt
record_right s (Some (m.Item x)) = tt
record_right s (Some (m.Set x)) = tt
record_right s (Some m.Application) = tt
record_right s (Some m.Level) = tt
record_right s None = tt

found_right : (s : Scope) (top : Bool) (name : Spelling) (x : ℕ) → meant s name ≡ Some (m.Record x) → has_case s.routine ≡ true → (o : Option Found) → found s x ≡ o → For (IsTyped s top (syntax.Query' q.CurOcc name)) (option_map (CurOcc name x) o)
found_right s top name x e c None h = tt
found_right s top name x e c (Some how) h = (refl, (e, c, h))

current_right : (s : Scope) (top : Bool) (name : Spelling) (o : Option ℕ) → For (IsRecord s (meant s name)) o → For (IsTyped s top (syntax.Query' q.CurOcc name)) (current s name o)
current_right s top name None h = tt
current_right s top name (Some x) h = found_right s top name x h.0 h.1 (found s x) refl

query_right : (s : Scope) (top : Bool) (query : Query) (name : Spelling) → For (IsTyped s top (syntax.Query' query name)) (queried s query name (meant s name))
query_right s top q.GetDeck name = deck_right s top name (meant s name) refl
query_right s top q.TotOcc name = for_map (IsRecord s (meant s name)) _ (TotOcc name) (λ x k. (refl, k)) (record_of s (meant s name)) (record_right s (meant s name))
query_right s top q.MaxOcc name = for_map (IsRecord s (meant s name)) _ (MaxOcc name) (λ x k. (refl, k)) (record_of s (meant s name)) (record_right s (meant s name))
query_right s top q.CurOcc name = current_right s top name (record_of s (meant s name)) (record_right s (meant s name))

number_kind_holds : (o : Option ItemKind) → is_number_kind o ≡ true → o ≡ Some kind.Number
number_kind_holds (Some kind.Number) h = refl
number_kind_holds (Some kind.Opaque) h = absurd (false≢true h)
number_kind_holds (Some kind.Text) h = absurd (false≢true h)
number_kind_holds None h = absurd (false≢true h)

pub set_right : (s : Scope) (o : Option Meaning) → For (λ k. (o ≡ Some (m.Set k)) × IsNumberSet s.dictionary k) (number_set s o)
set_right s (Some (m.Set k)) = for_only _ (is_number_kind (set_kind s.dictionary k)) _ (λ c. (refl, number_kind_holds (set_kind s.dictionary k) c))
set_right s (Some (m.Variable x)) = tt
set_right s (Some (m.Text x)) = tt
set_right s (Some (m.Array x)) = tt
set_right s (Some (m.Function x)) = tt
set_right s (Some (m.Record x)) = tt
set_right s (Some (m.Item x)) = tt
set_right s (Some m.Application) = tt
set_right s (Some m.Level) = tt
set_right s None = tt

member_right : (s : Scope) (top : Bool) (name : Spelling) (set_name : Option Spelling) (o : Option Meaning) → meant s name ≡ o → For (IsTyped s top (syntax.InValueSet name set_name)) (member s name set_name o)
member_right s top name set_name (Some (m.Item item)) e =
    for_joined (λ x. (item_of x ≡ item) × IsPresent s kind.Number x) (λ k. (set_meant s item set_name ≡ Some (m.Set k)) × IsNumberSet s.dictionary k) _ (λ x k. InSet name x set_name k)
    (λ x k a b. (refl, (e ∙ ap (λ n. Some (m.Item n)) (sym a.0), a.1, ap (λ n. set_meant s n set_name) a.0 ∙ b.0, b.1)))
    (number_present s item) (number_set s (set_meant s item set_name)) (number_present_right s item) (set_right s (set_meant s item set_name))
member_right s top name set_name (Some (m.Variable x)) e = tt
member_right s top name set_name (Some (m.Text x)) e = tt
member_right s top name set_name (Some (m.Array x)) e = tt
member_right s top name set_name (Some (m.Function x)) e = tt
member_right s top name set_name (Some (m.Record x)) e = tt
member_right s top name set_name (Some (m.Set x)) e = tt
member_right s top name set_name (Some m.Application) e = tt
member_right s top name set_name (Some m.Level) e = tt
member_right s top name set_name None e = tt

-- ---- operators

grouped_right : (s : Scope) (top : Bool) (x : syntax.Expr) (a : Judged) → Right s false x a → Right s top (syntax.Group x) (grouped a)
grouped_right s top x (AsNumber o) h = for_map (IsTyped s false x) (IsTyped s top (syntax.Group x)) Group (λ y k. (ap syntax.Group k.0, k.1)) o h
grouped_right s top x (AsWords o) h = for_map (IsTypedWords s x) (IsTypedWords s (syntax.Group x)) TextGroup (λ y k. (ap syntax.Group k.0, k.1)) o h
grouped_right s top x Unknown h = tt

compared_right : (s : Scope) (top : Bool) (relation : Relation) (x y : syntax.Expr) (a b : Judged) → Right s false x a → Right s false y b → For (IsTyped s top (syntax.Compare relation x y)) (compared relation a b)
compared_right s top relation x y (AsNumber a) (AsNumber b) h k =
    for_joined (IsTyped s false x) (IsTyped s false y) (IsTyped s top (syntax.Compare relation x y)) (Compare relation)
    (λ u v e f. (ap (λ t. syntax.Compare relation t (erase v)) e.0 ∙ ap (syntax.Compare relation x) f.0, (e.1, f.1))) a b h k
compared_right s top relation x y (AsWords a) (AsWords b) h k =
    for_joined (IsTypedWords s x) (IsTypedWords s y) (IsTyped s top (syntax.Compare relation x y)) (CompareTexts relation)
    (λ u v e f. (ap (λ t. syntax.Compare relation t (erase_words v)) e.0 ∙ ap (syntax.Compare relation x) f.0, (e.1, f.1))) a b h k
compared_right s top relation x y (AsNumber a) (AsWords b) h k = tt
compared_right s top relation x y (AsNumber a) Unknown h k = tt
compared_right s top relation x y (AsWords a) (AsNumber b) h k = tt
compared_right s top relation x y (AsWords a) Unknown h k = tt
compared_right s top relation x y Unknown b h k = tt

mutual
  unfolding judge judge_all judge_operations

  pub judge_right : (s : Scope) (top : Bool) (x : syntax.Expr) → Right s top x (judge s top x)
  judge_right s top (syntax.Number digits) = value_right s top digits (value_of digits) refl
  judge_right s top (syntax.Text text) = (refl, tt)
  judge_right s top (syntax.Special' token value) = (refl, tt)
  judge_right s top (syntax.Bare name) = bare_right s top name (meant s name) refl
  judge_right s top (syntax.Indexed name arguments) = indexed_right s top name (meant s name) arguments (judge_all s arguments) refl (all_right s arguments)
  judge_right s top (syntax.Group x) = grouped_right s top x (judge s false x) (judge_right s false x)
  judge_right s top (syntax.Apply f.Int x) = for_map (IsTyped s true x) _ Int (λ y k. (ap (syntax.Apply f.Int) k.0, k.1)) _ (number_right s true x (judge s true x) (judge_right s true x))
  judge_right s top (syntax.Apply f.Special x) = for_map (IsTyped s false x) _ IsSpecial (λ y k. (ap (syntax.Apply f.Special) k.0, k.1)) _ (number_right s false x (judge s false x) (judge_right s false x))
  judge_right s top (syntax.Query' query name) = query_right s top query name
  judge_right s top (syntax.InValueSet name set_name) = member_right s top name set_name (meant s name) refl
  judge_right s top (syntax.Minus x) = for_map (IsTyped s false x) _ Minus (λ y k. (ap syntax.Minus k.0, k.1)) _ (number_right s false x (judge s false x) (judge_right s false x))
  judge_right s top (syntax.Not x) = for_map (IsTyped s false x) _ Not (λ y k. (ap syntax.Not k.0, k.1)) _ (number_right s false x (judge s false x) (judge_right s false x))
  judge_right s top (syntax.Compare relation x y) = compared_right s top relation x y (judge s false x) (judge s false y) (judge_right s false x) (judge_right s false y)
  judge_right s top (syntax.Chain x others) =
      for_joined (IsTyped s false x) (AreTypedOperations s top others) _ Chain (λ y ys k l. (ap (λ e. syntax.Chain e (erase_operations ys)) k.0 ∙ ap (syntax.Chain x) l.0, (k.1, l.2)))
      _ (judge_operations s top others) (number_right s false x (judge s false x) (judge_right s false x)) (operations_right s top others)

  pub all_right : (s : Scope) (xs : syntax.Exprs) → For (AreTyped s xs) (judge_all s xs)
  all_right s syntax.no_expr = (refl, refl, tt)
  all_right s (syntax.expr_and x xs) =
      for_joined (IsTyped s false x) (AreTyped s xs) _ number_and (λ y ys k l. (ap (λ e. syntax.expr_and e (erase_all ys)) k.0 ∙ ap (syntax.expr_and x) l.0, ap (λ n. n + 1) l.1, (k.1, l.2)))
      _ (judge_all s xs) (number_right s false x (judge s false x) (judge_right s false x)) (all_right s xs)

  operations_right : (s : Scope) (top : Bool) (xs : syntax.Operations) → For (AreTypedOperations s top xs) (judge_operations s top xs)
  operations_right s top syntax.no_operation = (refl, refl, tt)
  operations_right s top (syntax.operation_and operator x xs) =
      for_only _ (is_allowed top operator xs) _ (λ c.
      for_joined (IsTyped s false x) (AreTypedOperations s top xs) _ (operation_and operator)
      (λ y ys k l. (ap (λ e. syntax.operation_and operator e (erase_operations ys)) k.0 ∙ ap (syntax.operation_and operator x) l.0, refl, (ap (may_divide top operator) l.1 ∙ c, k.1, l.2)))
      _ (judge_operations s top xs) (number_right s false x (judge s false x) (judge_right s false x)) (operations_right s top xs))
