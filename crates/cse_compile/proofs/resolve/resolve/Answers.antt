use Rattle.std.proofs.Common.{refl, rules}
use Rattle.cse_compile.proofs.Stands.{stands_more}
use Rattle.cse_compile.proofs.Room.{stay_next, stay_never}
use Rattle.cse_compile.proofs.resolve.resolve.Goals as goal

pub returns-in-Err-clause-room : goal.returns-in-Err-clause-room
returns-in-Err-clause-room c = λ is p h parts. stay_never c.all.pools p c.args.code.now c.all.written-index _ _ c.all-test.true refl h.fit (c.in-Err.ensures.room is) (c.all.invariant.room p h parts)

pub all-init : goal.all-init
all-init c = record {
  stand = search rules;
  room = λ p h parts. record { parts = parts; left = h.each };
}

pub all-preserved : goal.all-preserved
all-preserved c = record {
  stand =
      stands_more c.all.pools c.instruction.new.pools c.all.resolved.items c.push.new.self.items c.args.code.now c.all.written-index _ _ c.in-Ok.instr
      c.in-Ok.ensures.more
      c.all.invariant.stand
      c.all-test.true
      refl
      c.in-Ok.ensures.stands
      c.in-Ok-push.ensures.items;
  room = λ p h parts. stay_next c.all.pools c.instruction.new.pools p c.args.code.now c.all.written-index _ _ c.all-test.true refl c.in-Ok.ensures.grew (c.all.invariant.room p h parts);
}
