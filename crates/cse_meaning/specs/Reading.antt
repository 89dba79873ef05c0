-- What is read of a case and of a store. An occurrence, or a cell, that isn't there reads `default`, and as a text the empty one.
use Rattle.std.specs.Prelude.{ℕ, pos, ◌+◌, ◌-◌, ◌*◌, Bool, ◌&&◌, ◌||◌, true, false, nat_le, if◌then◌else◌, List, [], ◌∷◌, length, Option, Some, None, slice_get, option_map, option_and_then, unwrap_or}
use Rattle.std.specs.Option.{option_map_or}
use Rattle.cse_value.specs.declared.number.Num.{Num}
use Rattle.cse_value.specs.declared.number.Num.TheVariants.{Whole, NotAppl, Missing, Undef}
use Rattle.cse_value.specs.declared.number.Rel.{Rel}
use Rattle.cse_value.specs.declared.number.Rel.TheVariants as rels
use Rattle.cse_value.specs.Number.{sum_of, difference_of, product_of, quotient_of, remainder_of, is_condition}
use Rattle.cse_dict.specs.Dictionary.{row_in, spans_at}
use Rattle.cse_case.specs.Case as case
use Rattle.cse_decks.specs.Store as store
use Rattle.cse_decks.specs.Store.{cells_of}
use Rattle.cse_syntax_tree.specs.declared.tree.Operator.{Operator}
use Rattle.cse_syntax_tree.specs.declared.tree.Operator.TheVariants as operators
use Rattle.cse_syntax_tree.specs.declared.tree.Relation.{Relation}
use Rattle.cse_syntax_tree.specs.declared.tree.Relation.TheVariants as relations
use Rattle.cse_syntax_tree.specs.declared.tree.Special.{Special}
use Rattle.cse_syntax_tree.specs.declared.tree.Special.TheVariants as specials
use Rattle.cse_logic_tree.specs.declared.tree.Variable.{Variable}
use Rattle.cse_logic_tree.specs.declared.tree.Variable.TheVariants as v
use Rattle.cse_logic_tree.specs.declared.tree.Found.{Found}
use Rattle.cse_logic_tree.specs.declared.tree.Found.TheVariants as h
use Rattle.cse_logic_tree.specs.declared.tree.Field.{Field}
use Rattle.cse_logic_tree.specs.declared.tree.Present.{Present}
use Rattle.cse_logic_tree.specs.declared.tree.Present.TheVariants as p
use Rattle.cse_logic_tree.specs.declared.tree.Pick.{Pick}
use Rattle.cse_steps.specs.State.{World}
use Rattle.cse_meaning.specs.Setting.{Context, Locals, turn_of}

-- ---- numbers

abbrev pub special : Special → Num
special specials.NotAppl = NotAppl
special specials.Missing = Missing
special specials.Default = Undef

abbrev pub is_special : Num → Bool
is_special (Whole z) = false
is_special NotAppl = true
is_special Missing = true
is_special Undef = true

-- 1 or 0
abbrev pub one_if : Bool → Num
one_if b = Whole (if b then pos 1 else pos 0)

abbrev pub rel : Relation → Rel
rel relations.Equal = rels.Equal
rel relations.Differs = rels.NotEqual
rel relations.Less = rels.Less
rel relations.AtMost = rels.AtMost
rel relations.More = rels.Greater
rel relations.AtLeast = rels.AtLeast

abbrev pub operated : Operator → Num → Num → Num
operated operators.Or x y = one_if (is_condition x || is_condition y)
operated operators.And x y = one_if (is_condition x && is_condition y)
operated operators.Add x y = sum_of x y
operated operators.Subtract x y = difference_of x y
operated operators.Multiply x y = product_of x y
operated operators.Divide x y = quotient_of x y
operated operators.Remainder x y = remainder_of x y

-- ---- from 1 to n

abbrev pub one_of : ℕ → ℕ → Option ℕ
one_of n i = if nat_le 1 i && nat_le i n then Some i else None

abbrev pub number_of_one : ℕ → Num → Option ℕ
number_of_one n (Whole (pos i)) = one_of n i
number_of_one n x = None

-- ---- occurrences

-- how many occurrences a record has
abbrev pub many : World → ℕ → ℕ
many w of = option_map_or (λ t. length (case.places_of t of)) w.case 0

-- the occurrence that an item without a subscript means
abbrev pub meant : Context → ℕ → Found → ℕ
meant c of h.Loop = turn_of of c.loops
meant c of h.Event = c.event
meant c of h.First = 1

-- where it is there
abbrev pub found : Context → World → ℕ → Found → Option ℕ
found c w of x = one_of (many w of) (meant c of x)

-- ---- items

abbrev pub number_in : World → Field → ℕ → Num
number_in w f o = option_map_or (λ t. case.number_at t (case.place_of t f.owner o) f.item) w.case Undef

abbrev pub words_in : World → Field → ℕ → List ℕ
words_in w f o = option_map_or (λ t. case.text_at t (case.place_of t f.owner o) f.item) w.case []

abbrev pub number_at : World → Field → Option ℕ → Num
number_at w f o = option_map_or (number_in w f) o Undef

abbrev pub words_at : World → Field → Option ℕ → List ℕ
words_at w f o = option_map_or (words_in w f) o []

-- an id item is read from the first line
abbrev pub number_here : Context → World → Present → Num
number_here c w (p.Id item) = option_map_or (λ t. case.number_at t 0 item) w.case Undef
number_here c w (p.Here f x) = number_at w f (found c w f.owner x)

abbrev pub words_here : Context → World → Present → List ℕ
words_here c w (p.Id item) = option_map_or (λ t. case.text_at t 0 item) w.case []
words_here c w (p.Here f x) = words_at w f (found c w f.owner x)

-- ---- variables

abbrev pub variable : World → Locals → Variable → Num
variable w ls (v.Global g) = unwrap_or (store.number_at w.store g) Undef
variable w ls (v.Parameter k) = unwrap_or (slice_get ls.parameters k) Undef
variable w ls v.Result = ls.result

abbrev pub text : World → ℕ → List ℕ
text w g = unwrap_or (store.text_at w.store g) []

-- ---- arrays

-- the sizes of an array
abbrev pub sizes_of : Context → ℕ → List ℕ
sizes_of c array = unwrap_or (slice_get c.arrays array) []

abbrev pub first_size : List ℕ → ℕ
first_size [] = 0
first_size (n ∷ ns) = n

abbrev pub other_sizes : List ℕ → List ℕ
other_sizes [] = []
other_sizes (n ∷ ns) = ns

-- the place of a cell, from 0, by its indexes from 1, the last one fastest: so many whole rows lie before it
abbrev pub cell_place : ℕ → List ℕ → List ℕ → ℕ
cell_place before (n ∷ ns) (i ∷ is) = cell_place (before * n + (i - 1)) ns is
cell_place before _ _ = before

abbrev pub place_in : Context → ℕ → List ℕ → ℕ
place_in c array indexes = cell_place 0 (sizes_of c array) indexes

abbrev pub cell_in : Context → World → ℕ → List ℕ → Num
cell_in c w array indexes = unwrap_or (slice_get (cells_of w.store array) (place_in c array indexes)) Undef

abbrev pub cell : Context → World → ℕ → Option (List ℕ) → Num
cell c w array indexes = option_map_or (cell_in c w array) indexes Undef

-- ---- hot decks

-- the row of a number in a value set, from 0
abbrev pub row : Context → ℕ → Num → Option ℕ
row c set x = row_in x (spans_at c.dictionary set)

-- a value without a row takes the leftover row, the last of the array's, where there is one
abbrev pub picked : ℕ → Bool → Option ℕ → Option ℕ
picked n leftover (Some i) = Some (i + 1)
picked n true None = Some n
picked n false None = None

-- an index for each pick; none where one picks no row
abbrev pub picks : Context → World → List ℕ → List Pick → Option (List ℕ)
picks c w sizes [] = Some []
picks c w sizes (x ∷ xs) =
    option_and_then (λ i. option_map (λ is. i ∷ is) (picks c w (other_sizes sizes) xs)) (picked (first_size sizes) x.has_leftover (row c x.set (number_here c w x.item)))

abbrev pub deck_place : Context → World → ℕ → List Pick → Option (List ℕ)
deck_place c w array xs = picks c w (sizes_of c array) xs
