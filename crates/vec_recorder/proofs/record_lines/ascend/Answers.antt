use Rattle.std.proofs.Common.{refl}
use Rattle.vec_recorder.proofs.KeyOrderLaws.{ascending, one_further}
use Rattle.vec_recorder.proofs.record_lines.ascend.Goals as goal

pub returns : goal.returns
returns c = λ _. ascending c.args.rows.now c.loop-i.i c.loop-i.invariant c.loop-i-test.false

pub loop-i-preserved : goal.loop-i-preserved
loop-i-preserved c =
    one_further c.args.rows.now c.loop-i.i c.index-rows-i.result c.index-rows-i-in-loop-i.result c.loop-i.auto.i c.loop-i-test.true c.loop-i.invariant c.index-rows-i.is c.index-rows-i-in-loop-i.is
    (c.if-not-is_before.ensures refl)
