-- What is listed at a place, by what a table has there.
use Rattle.std.proofs.Common.{◌≡◌, ℕ, true, false, ltb, List, [], length, get_or, map, take, Option, Some, None, IfSome, option_copied, sym, ap, ◌∙◌}
use Rattle.std.specs.Prelude.{slice_get, is_some}
use Rattle.std.specs.Option.{option_map}
use Rattle.std.specs.Borrow.{Bor}
use Rattle.std.proofs.lemmas.Bool.{ltb-true, ltb-false}
use Rattle.std.proofs.lemmas.List.{length-map}
use Rattle.std.proofs.lemmas.Option.{slice_get-get_or, slice_get-map, slice_get_past}
use Rattle.cse_image_parts.specs.declared.entries.Array.{Array}
use Rattle.cse_image_parts.specs.declared.entries.Message.{Message}
use Rattle.cse_image_parts.specs.declared.entries.Routine.{Routine}
use Rattle.cse_image_parts.specs.declared.entries.Tables.{Tables}
use Rattle.cse_image_parts.specs.Image.{array_lists, message_lists, routine_lists, lists_of}
use Rattle.cse_image_parts.specs.Placeholders.{message_kinds}
use Rattle.cse_code_typing.specs.declared.kind.Kind.TheVariants.{Index}
use Rattle.cse_code_typing.specs.declared.need.Listed.{Listed}
use Rattle.cse_code_typing.specs.declared.need.Listed.TheVariants.{Dimensions, Arguments, Parameters}
use Rattle.cse_code_typing.specs.Kinds.{argument_kind, local_kind}
use Rattle.cse_code_typing.specs.Needs.{arguments_by, dimensions_by, parameters_by, listed_kinds}

-- ---- what a table has, where it was asked for a place

pub got : {X : Type 0} (xs ys : List X) (n : ℕ) (x : X) → xs ≡ ys → true ≡ ltb n (length xs) → x ≡ get_or xs n x → slice_get ys n ≡ Some x
got xs ys n x same within is = ap (λ l. slice_get l n) (sym same) ∙ slice_get-get_or xs n x (ltb-true n (length xs) (sym within)) ∙ ap Some (sym is)

pub lacks : {X : Type 0} (xs ys : List X) (n : ℕ) → xs ≡ ys → false ≡ ltb n (length xs) → slice_get ys n ≡ None
lacks xs ys n same past = ap (λ l. slice_get l n) (sym same) ∙ slice_get_past xs n (ltb-false n (length xs) (sym past))

pub got_copy : {X : Type 0} (xs ys : List X) (n : ℕ) (r : Option (Bor X)) → xs ≡ ys → is_some r ≡ ltb n (length xs) → IfSome r (λ x. x.now ≡ get_or xs n x.now) → option_copied r ≡ slice_get ys n
got_copy xs ys n None same within is = sym (lacks xs ys n same within)
got_copy xs ys n (Some x) same within is = sym (got xs ys n x.now same within is)

pub lacks_of : {X Y : Type 0} (v : X → Y) (xs : List X) (n : ℕ) → slice_get xs n ≡ None → slice_get (map v xs) n ≡ None
lacks_of v xs n none = slice_get-map v xs n ∙ ap (option_map v) none

pub got_of : {X Y : Type 0} (v : X → Y) (xs : List X) (n : ℕ) (x : X) → slice_get xs n ≡ Some x → slice_get (map v xs) n ≡ Some (v x)
got_of v xs n x there = slice_get-map v xs n ∙ ap (option_map v) there

-- ---- what is listed then

module _ (t : Tables) (l : Listed) (c : ℕ) where
  no_array_kinds : l ≡ Dimensions c → slice_get t.arrays.items c ≡ None → listed_kinds (lists_of t) l ≡ []
  no_array_kinds is none = ap (listed_kinds (lists_of t)) is ∙ ap dimensions_by (lacks_of array_lists t.arrays.items c none)

  no_message_kinds : l ≡ Arguments c → slice_get t.messages.items c ≡ None → listed_kinds (lists_of t) l ≡ []
  no_message_kinds is none = ap (listed_kinds (lists_of t)) is ∙ ap arguments_by (lacks_of message_lists t.messages.items c none)

  no_routine_kinds : l ≡ Parameters c → slice_get t.routines.items c ≡ None → listed_kinds (lists_of t) l ≡ []
  no_routine_kinds is none = ap (listed_kinds (lists_of t)) is ∙ ap parameters_by (lacks_of routine_lists t.routines.items c none)

  array_kinds : (x : Array) → l ≡ Dimensions c → slice_get t.arrays.items c ≡ Some x → listed_kinds (lists_of t) l ≡ map Index x.dimensions.items
  array_kinds x is there = ap (listed_kinds (lists_of t)) is ∙ ap dimensions_by (got_of array_lists t.arrays.items c x there)

  kinds_of_message : (x : Message) → l ≡ Arguments c → slice_get t.messages.items c ≡ Some x → listed_kinds (lists_of t) l ≡ map argument_kind (message_kinds (message_lists x).text)
  kinds_of_message x is there = ap (listed_kinds (lists_of t)) is ∙ ap arguments_by (got_of message_lists t.messages.items c x there)

  routine_kinds : (x : Routine) → l ≡ Parameters c → slice_get t.routines.items c ≡ Some x → listed_kinds (lists_of t) l ≡ map local_kind (take x.parameters x.locals.items)
  routine_kinds x is there = ap (listed_kinds (lists_of t)) is ∙ ap parameters_by (got_of routine_lists t.routines.items c x there)

  -- at a place
  module _ (n : ℕ) where
    pub no_array : l ≡ Dimensions c → slice_get t.arrays.items c ≡ None → None ≡ slice_get (listed_kinds (lists_of t) l) n
    no_array is none = sym (ap (λ ks. slice_get ks n) (no_array_kinds is none))

    pub no_message : l ≡ Arguments c → slice_get t.messages.items c ≡ None → None ≡ slice_get (listed_kinds (lists_of t) l) n
    no_message is none = sym (ap (λ ks. slice_get ks n) (no_message_kinds is none))

    pub no_routine : l ≡ Parameters c → slice_get t.routines.items c ≡ None → None ≡ slice_get (listed_kinds (lists_of t) l) n
    no_routine is none = sym (ap (λ ks. slice_get ks n) (no_routine_kinds is none))

    pub dimension_at : (x : Array) → l ≡ Dimensions c → slice_get t.arrays.items c ≡ Some x → option_map Index (slice_get x.dimensions.items n) ≡ slice_get (listed_kinds (lists_of t) l) n
    dimension_at x is there = sym (ap (λ ks. slice_get ks n) (array_kinds x is there) ∙ slice_get-map Index x.dimensions.items n)

    pub argument_at : (x : Message) → l ≡ Arguments c → slice_get t.messages.items c ≡ Some x → option_map argument_kind (slice_get (message_kinds (message_lists x).text) n) ≡ slice_get (listed_kinds (lists_of t) l) n
    argument_at x is there = sym (ap (λ ks. slice_get ks n) (kinds_of_message x is there) ∙ slice_get-map argument_kind (message_kinds (message_lists x).text) n)

    pub parameter_at : (x : Routine) → l ≡ Parameters c → slice_get t.routines.items c ≡ Some x → option_map local_kind (slice_get (take x.parameters x.locals.items) n) ≡ slice_get (listed_kinds (lists_of t) l) n
    parameter_at x is there = sym (ap (λ ks. slice_get ks n) (routine_kinds x is there) ∙ slice_get-map local_kind (take x.parameters x.locals.items) n)

  -- and how many
  pub none_of_array : l ≡ Dimensions c → slice_get t.arrays.items c ≡ None → 0 ≡ length (listed_kinds (lists_of t) l)
  none_of_array is none = sym (ap length (no_array_kinds is none))

  pub none_of_message : l ≡ Arguments c → slice_get t.messages.items c ≡ None → 0 ≡ length (listed_kinds (lists_of t) l)
  none_of_message is none = sym (ap length (no_message_kinds is none))

  pub none_of_routine : l ≡ Parameters c → slice_get t.routines.items c ≡ None → 0 ≡ length (listed_kinds (lists_of t) l)
  none_of_routine is none = sym (ap length (no_routine_kinds is none))

  pub count_dimensions : (x : Array) → l ≡ Dimensions c → slice_get t.arrays.items c ≡ Some x → length x.dimensions.items ≡ length (listed_kinds (lists_of t) l)
  count_dimensions x is there = sym (ap length (array_kinds x is there) ∙ length-map x.dimensions.items Index)

  pub count_arguments : (x : Message) → l ≡ Arguments c → slice_get t.messages.items c ≡ Some x → length (message_kinds (message_lists x).text) ≡ length (listed_kinds (lists_of t) l)
  count_arguments x is there = sym (ap length (kinds_of_message x is there) ∙ length-map (message_kinds (message_lists x).text) argument_kind)

  pub count_parameters : (x : Routine) → l ≡ Parameters c → slice_get t.routines.items c ≡ Some x → length (take x.parameters x.locals.items) ≡ length (listed_kinds (lists_of t) l)
  count_parameters x is there = sym (ap length (routine_kinds x is there) ∙ length-map (take x.parameters x.locals.items) local_kind)
