use Rattle.std.proofs.Common.{arith}
use Rattle.user_mem.proofs.CountLaws.{times_used-none, owners_when_given_back}
use Rattle.user_mem.proofs.free.give_back.Goals as goal

pub loop-i-init : goal.loop-i-init
loop-i-init c = record { owners = λ f. omega (arith, times_used-none f); len = omega arith }

pub loop-i-preserved : goal.loop-i-preserved
loop-i-preserved c = record {
  owners = λ f. owners_when_given_back f c.args.free.now.items c.loop-i.free.items c.push.new.self.items c.args.table.now.items c.as_slice.result.now c.loop-i.i _ c.as_slice.ensures.value (omega arith) c.push.ensures.items (c.loop-i.invariant.owners f);
  len = omega arith;
}
