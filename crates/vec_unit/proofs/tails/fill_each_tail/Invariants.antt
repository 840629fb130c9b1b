use Rattle.std.proofs.Common.{◌≡◌}
use Rattle.rv_model.specs.step.MemoryStep.{tails_filled}
use Rattle.vec_unit.proofs.tails.fill_each_tail.Given as goal

abbrev pub invariant-loop-field : goal.invariant-loop-field
invariant-loop-field g l = l.file ≡ tails_filled (record { width = g.L.Lane.width; emul = l.fn.fields.emul }) l.fn.fields.vd l.field l.start l.initial.file
