use Rattle.std.proofs.Common.{◌≡◌, ◌≤◌, [], List, length, ap, sym, subst, rules}
use Rattle.std.specs.Prelude.{map}
use Rattle.std.specs.List.{AllByRecursion}
use Rattle.cse_image_parts.specs.Reader.{AllAfter}
use Rattle.cse_image_parts.specs.declared.entries.Array.{Array}
use Rattle.cse_image_parts.specs.Image.{Lists, ArrayLists, array_lists}
use Rattle.cse_image.specs.Spelling.{ArrayFits}
use Rattle.cse_decks.specs.Store.{first_kept}
use Rattle.cse_decks.proofs.StoreLaws.{arrays_small, first_arrays_hold, first_fits}
use Rattle.cse_decks.proofs.store.Store.new.Goals as goal

pub first_arrays-requires : goal.first_arrays-requires
first_arrays-requires g c =
    let lists : map array_lists c.tables-tables.result.now.arrays.items ≡ c.args.program.now.lists.arrays = ap (λ (l : Lists). l.arrays) c.tables-tables.ensures.lists in
    let fits = subst (λ (l : List ArrayLists). AllAfter ArrayFits [] l) (sym lists) c.tables-tables.ensures.fits.lists.arrays.each in
    subst (λ (l : List Array). AllByRecursion (λ (a : Array). length a.dimensions.items ≤ 3) l) (sym c.deref-2.ensures.value) (arrays_small [] c.tables-tables.result.now.arrays.items fits)

pub returns-clause-fits : goal.returns-clause-fits
unfolding first_kept
returns-clause-fits g c = first_fits c.args.program.now _ (search rules) c.tables-tables.ensures.fits

pub invariant_of-result : goal.invariant_of-result
unfolding first_kept
invariant_of-result g c = first_arrays_hold c.args.program.now _ (search rules) c.tables-tables.ensures.fits
