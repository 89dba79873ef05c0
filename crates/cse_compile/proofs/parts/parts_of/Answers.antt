use Rattle.std.proofs.Common.{sym, ap, subst, ◌∙◌}
use Rattle.cse_image_parts.specs.Image.{Image}
use Rattle.cse_compile.specs.Pools.{PoolsFit}
use Rattle.cse_compile.specs.Program.{pools_of}
use Rattle.cse_logic_tree.specs.Typed.{tree}
use Rattle.cse_compile.specs.Tables.{arrays_in}
use Rattle.cse_compile.proofs.Joined.{program_is, no_room}
use Rattle.cse_compile.proofs.parts.parts_of.Goals as goal

pub returns-clause-ok : goal.returns-clause-ok
returns-clause-ok c =
    program_is _ _ _ c.in_ok-said.said c.in_ok-arrays.arrays c.deref.result.now c.in-Ok.routes _ c.joined.ensures
    (record {
      same_arrays = c.deref.ensures.value;
      shape = c.in_ok-said.ensures.shape;
      order = c.in_ok-said.ensures.order;
      globals = c.in_ok-said.ensures.globals;
      messages = c.in_ok-said.ensures.messages;
      array_lists = c.in_ok-arrays.ensures ∙ ap arrays_in c.declarations_of.ensures;
      routines = c.in-Ok.ensures.routines;
      events = c.in-Ok.ensures.events;
      code = c.in-Ok.ensures.code;
    })

pub returns-in-Err-clause-room : goal.returns-in-Err-clause-room
returns-in-Err-clause-room c = λ is. no_room c.args.dictionary.now c.args.named.now (tree c.args.tree.now) c.in_ok-arrays.arrays c.deref.result.now c.deref.ensures.value (c.in_ok-arrays.ensures ∙ ap arrays_in c.declarations_of.ensures) (c.in-Err.ensures.room is)

pub returns-clause-fit : goal.returns-clause-fit
returns-clause-fit c = subst (λ (x : Image). PoolsFit (pools_of x.lists)) (sym c.joined.ensures) c.in-Ok.ensures.fit
