use Rattle.std.proofs.Common.{◌≡◌, ◌∙◌, ◌+◌, suc, sym, ap, arith}
use Rattle.cse_code_typing.specs.Bracket.{innermost}
use Rattle.cse_code_typing.specs.Innermost.{innermost_below}
use Rattle.cse_code_typing.proofs.Inside.{table_none, table_more, innermost_start}
use Rattle.cse_code_typing.proofs.innermost.innermost_table.Goals as goal

pub places-init : goal.places-init
places-init g c = record { told = c.new-table.ensures.items ∙ table_none c.args.code.now; here = sym (innermost_start c.args.code.now) }

pub inner_after-inner-requires-clause-table : goal.inner_after-inner-requires-clause-table
inner_after-inner-requires-clause-table g c =
    c.deref.ensures.value ∙ table_more c.args.code.now c.places.place c.places.table.items _ c.places.inner c.places.invariant.told c.places.invariant.here c.in_ok-push.ensures.items

pub places-preserved : goal.places-preserved
places-preserved g c =
    let one : suc c.places.place ≡ c.places.place + 1 = omega arith in
    record {
      told = table_more c.args.code.now c.places.place c.places.table.items _ c.places.inner c.places.invariant.told c.places.invariant.here c.in_ok-push.ensures.items ∙ ap (innermost_below c.args.code.now) one;
      here = c.inner_after-inner.ensures ∙ ap (innermost c.args.code.now) one;
    }
