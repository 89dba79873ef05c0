use Rattle.std.proofs.lemmas.Result.{err_from_is_err_and}
use Rattle.cse_image.specs.Reading.{array_at, zero_at}
use Rattle.cse_image.proofs.Chains.{on, later, here, first, ends}
use Rattle.cse_image.proofs.read_arrays.fill_array.Goals as goal

pub returns-in_err-saved-clause-exact : goal.returns-in_err-saved-clause-exact
unfolding array_at zero_at
returns-in_err-saved-clause-exact c =
    let p = err_from_is_err_and c.from_residual.result c.from_residual.ensures.1 in
    rw (p.1, p.2) (first c.in_err-saved.field-0.0 _ _ _ c.in_err-saved.ensures)

pub returns-in_err-rank-clause-exact : goal.returns-in_err-rank-clause-exact
unfolding array_at zero_at
returns-in_err-rank-clause-exact c =
    let p = err_from_is_err_and c.from_residual-in_err-rank.result c.from_residual-in_err-rank.ensures.1 in
    rw (p.1, p.2) (on _ _ _ _ _ _ c.in_ok-saved.ensures (first c.in_err-rank.field-0.0 _ _ _ c.in_err-rank.ensures.exact))

pub returns-in_err-len-clause-exact : goal.returns-in_err-len-clause-exact
unfolding array_at zero_at
returns-in_err-len-clause-exact c =
    let p = err_from_is_err_and c.from_residual-in_err-len.result c.from_residual-in_err-len.ensures.1 in
    rw (p.1, p.2) (on _ _ _ _ _ _ c.in_ok-saved.ensures (on _ _ _ _ _ _ c.in_ok-rank.ensures.exact (first c.in_err-len.field-0.0 _ _ _ c.in_err-len.ensures)))

pub returns-in_err-rest-clause-exact : goal.returns-in_err-rest-clause-exact
unfolding array_at zero_at
returns-in_err-rest-clause-exact c =
    let p = err_from_is_err_and c.from_residual-in_err-rest.result c.from_residual-in_err-rest.ensures.1 in
    rw (p.1, p.2) (on _ _ _ _ _ _ c.in_ok-saved.ensures (on _ _ _ _ _ _ c.in_ok-rank.ensures.exact (on _ _ _ _ _ _ c.in_ok-len.ensures (first c.in_err-rest.field-0.0 _ _ _ c.in_err-rest.ensures))))

pub returns-in_err-at_name-clause-exact : goal.returns-in_err-at_name-clause-exact
unfolding array_at zero_at
returns-in_err-at_name-clause-exact c =
    let p = err_from_is_err_and c.from_residual-in_err-at_name.result c.from_residual-in_err-at_name.ensures.1 in
    let e = c.in_err-at_name.field-0.0 in
    rw (p.1, p.2) (later e _ _ _ _ _ c.in_ok-saved.ensures (later e _ _ _ _ _ c.in_ok-rank.ensures.exact (later e _ _ _ _ _ c.in_ok-len.ensures (later e _ _ _ _ _ c.in_ok-rest.ensures (here e _ _ _ (rw c.requires.cells at c.in_err-at_name.ensures.exact))))))

pub returns-in_err-at_count-clause-exact : goal.returns-in_err-at_count-clause-exact
unfolding array_at zero_at
returns-in_err-at_count-clause-exact c =
    let p = err_from_is_err_and c.from_residual-in_err-at_count.result c.from_residual-in_err-at_count.ensures.1 in
    let e = c.in_err-at_count.field-0.0 in
    rw (p.1, p.2) (later e _ _ _ _ _ c.in_ok-saved.ensures (later e _ _ _ _ _ c.in_ok-rank.ensures.exact (later e _ _ _ _ _ c.in_ok-len.ensures (later e _ _ _ _ _ c.in_ok-rest.ensures (later e _ _ _ _ _ (rw c.requires.cells at c.in_ok-at_name.ensures.exact) (here e _ _ _ c.in_err-at_count.ensures))))))

pub returns-in_err-count-clause-exact : goal.returns-in_err-count-clause-exact
unfolding array_at zero_at
returns-in_err-count-clause-exact c =
    let p = err_from_is_err_and c.from_residual-in_err-count.result c.from_residual-in_err-count.ensures.1 in
    rw (p.1, p.2) (on _ _ _ _ _ _ c.in_ok-saved.ensures (on _ _ _ _ _ _ c.in_ok-rank.ensures.exact (on _ _ _ _ _ _ c.in_ok-len.ensures (on _ _ _ _ _ _ c.in_ok-rest.ensures (on _ _ _ _ _ _ (rw c.requires.cells at c.in_ok-at_name.ensures.exact) (on _ _ _ _ _ _ c.in_ok-at_count.ensures (first c.in_err-count.field-0.0 _ _ _ (rw c.deref.ensures.value at c.in_err-count.ensures))))))))

pub returns-in_err-cells-clause-exact : goal.returns-in_err-cells-clause-exact
unfolding array_at zero_at
returns-in_err-cells-clause-exact c =
    let p = err_from_is_err_and c.from_residual-in_err-cells.result c.from_residual-in_err-cells.ensures.1 in
    let e = c.in_err-cells.field-0.0 in
    rw (p.1, p.2) (later e _ _ _ _ _ c.in_ok-saved.ensures (later e _ _ _ _ _ c.in_ok-rank.ensures.exact (later e _ _ _ _ _ c.in_ok-len.ensures (later e _ _ _ _ _ c.in_ok-rest.ensures (later e _ _ _ _ _ (rw c.requires.cells at c.in_ok-at_name.ensures.exact) (later e _ _ _ _ _ c.in_ok-at_count.ensures (later e _ _ _ _ _ (rw c.deref.ensures.value at c.in_ok-count.ensures) (here e _ _ _ c.in_err-cells.ensures))))))))

pub returns-clause-exact : goal.returns-clause-exact
unfolding array_at zero_at
returns-clause-exact c = on _ _ _ _ _ _ c.in_ok-saved.ensures (on _ _ _ _ _ _ c.in_ok-rank.ensures.exact (on _ _ _ _ _ _ c.in_ok-len.ensures (on _ _ _ _ _ _ c.in_ok-rest.ensures (on _ _ _ _ _ _ (rw c.requires.cells at c.in_ok-at_name.ensures.exact) (on _ _ _ _ _ _ c.in_ok-at_count.ensures (on _ _ _ _ _ _ (rw c.deref.ensures.value at c.in_ok-count.ensures) (on _ _ _ _ _ _ c.in_ok-cells.ensures (ends _ _))))))))

pub dimensions_in-requires-clause-few : goal.dimensions_in-requires-clause-few
dimensions_in-requires-clause-few c = c.in_ok-rank.ensures.few

pub cell_count_of-requires : goal.cell_count_of-requires
cell_count_of-requires c = rw (c.deref.ensures.value, c.in_ok-at_name.ensures.count) c.in_ok-rank.ensures.few

pub returns-clause-few : goal.returns-clause-few
returns-clause-few c = rw c.in_ok-at_name.ensures.count c.in_ok-rank.ensures.few

pub returns-clause-room : goal.returns-clause-room
returns-clause-room c = c.in_ok-at_name.ensures.room c.in_ok-rank.ensures.some
