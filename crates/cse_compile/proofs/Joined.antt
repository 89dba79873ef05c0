-- The image of lists that were made one by one is that of the source.
use Rattle.std.proofs.Common.{◌≡◌, ℕ, List, [], ◌∷◌, length, map, refl, sym, ap, subst, ◌∙◌}
use Rattle.std.specs.Global.{Vec}
use Rattle.cse_value.specs.Shape.{shape_lists}
use Rattle.cse_image_parts.specs.declared.entries.Array.{Array}
use Rattle.cse_image_parts.specs.Image.{Image, ArrayLists, array_lists, message_lists, routine_lists}
use Rattle.cse_dict.specs.Dictionary.{DictionaryText, shape_of}
use Rattle.cse_logic_tree.specs.Typed.{Tree}
use Rattle.cse_compile.specs.Tables.{globals_in, arrays_in, message_of}
use Rattle.cse_compile.specs.Order.{edit_order}
use Rattle.cse_compile.specs.Setting.{sizes_of}
use Rattle.cse_compile.specs.declared.parts.DeclaredLists.{DeclaredLists}
use Rattle.cse_compile.specs.declared.routes.Routes.{Routes}
use Rattle.cse_compile.specs.Stands.{AllStand}
use Rattle.cse_compile.specs.Pooled.{pools_in}
use Rattle.cse_compile.specs.Program.{IsProgramOf, declarations, sizes, outlines, entry_of, all_code, events}
use Rattle.cse_compile.specs.Joined.{image_from}
use Rattle.cse_compile.specs.Room.{HasCodeOf, NoCodeFits}
use Rattle.cse_compile.specs.Compiled.{HasNoRoom}

sizes_of_lists : (xs : List Array) → map sizes_of xs ≡ map (λ (x : ArrayLists). x.dimensions) (map array_lists xs)
sizes_of_lists [] = refl
sizes_of_lists (x ∷ xs) = ap (λ r. x.dimensions.items ∷ r) (sizes_of_lists xs)

sizes_are : (t : Tree) (xs : List Array) → map array_lists xs ≡ arrays_in (declarations t) → map sizes_of xs ≡ sizes t
sizes_are t xs e = sizes_of_lists xs ∙ ap (map (λ (x : ArrayLists). x.dimensions)) e

-- what the lists of a source are
-- (the code was made for the arrays that were seen)
pub record AreListsOf (d : DictionaryText) (named : List ℕ) (t : Tree) (said : DeclaredLists) (arrays : Vec Array) (seen : List Array) (routes : Routes) : Type 0 where
  pub same_arrays : seen ≡ arrays.items
  pub shape : shape_lists said.shape ≡ shape_of d
  pub order : said.order.items ≡ edit_order (length (shape_of d).records) named
  pub globals : said.globals.items ≡ globals_in (declarations t)
  pub messages : map message_lists said.messages.items ≡ map message_of t.messages
  pub array_lists : map array_lists arrays.items ≡ arrays_in (declarations t)
  pub routines : map routine_lists routes.routines.items ≡ map (entry_of (shape_of d).records (map sizes_of seen)) (outlines t)
  pub events : routes.events.items ≡ events d t
  pub code : AllStand (pools_in routes.code) routes.code.instructions.items (all_code (shape_of d).records (map sizes_of seen) (outlines t))

pub program_is : (d : DictionaryText) (named : List ℕ) (t : Tree) (said : DeclaredLists) (arrays : Vec Array) (seen : List Array) (routes : Routes) (x : Image) → x ≡ image_from said arrays routes → AreListsOf d named t said arrays seen routes → IsProgramOf d named t x
program_is d named t said arrays seen routes x e h =
    let same : map sizes_of seen ≡ sizes t = ap (map sizes_of) h.same_arrays ∙ sizes_are t arrays.items h.array_lists in
    subst (IsProgramOf d named t) (sym e)
    (record {
      shape = sym h.shape;
      order = h.order;
      globals = h.globals;
      arrays = h.array_lists;
      messages = h.messages;
      routines = subst (λ (s : List (List ℕ)). map routine_lists routes.routines.items ≡ map (entry_of (shape_of d).records s) (outlines t)) same h.routines;
      events = h.events;
      code = subst (λ (s : List (List ℕ)). AllStand (pools_in routes.code) routes.code.instructions.items (all_code (shape_of d).records s (outlines t))) same h.code;
    })

-- where no image with the code of its routines has a spelling, no program of the source has
pub no_room : (d : DictionaryText) (named : List ℕ) (t : Tree) (arrays : Vec Array) (seen : List Array) → seen ≡ arrays.items → map array_lists arrays.items ≡ arrays_in (declarations t) → NoCodeFits (shape_of d).records (map sizes_of seen) (outlines t) → HasNoRoom d named t
no_room d named t arrays seen same lists never x p fits =
    let e : map sizes_of seen ≡ sizes t = ap (map sizes_of) same ∙ sizes_are t arrays.items lists in
    let no : NoCodeFits (shape_of d).records (sizes t) (outlines t) = subst (λ (s : List (List ℕ)). NoCodeFits (shape_of d).records s (outlines t)) e never in
    no x (record { routines = p.routines; code = p.code }) fits
