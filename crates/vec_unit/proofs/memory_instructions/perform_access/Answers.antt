use Rattle.std.proofs.Common.{refl, sym}
use Rattle.rv_model.specs.step.Hart.{hart_state}
use Rattle.vec_unit.proofs.AccessSteps.{access_performed, tails_inside}
use Rattle.vec_unit.proofs.memory_instructions.perform_access.Goals as goal

pub fill_tails_if_complete-requires : goal.fill_tails_if_complete-requires
fill_tails_if_complete-requires g c =
    let v = c.args.state.now in
    rw (c.from-length.ensures, c.vl.ensures.value, c.filled_by-filled.ensures)
    (tails_inside c.args.access.now c.args.policy v c.length_law.ensures c.requires.legal)

pub returns-clause-model : goal.returns-clause-model
returns-clause-model g c = λ output.
    let s = hart_state c.args.scalar.now c.args.state.now (g.M.UserBytes.memory c.args.memory.now) c.args.policy output in
    access_performed c.args.limit c.args.access.now s c.filled_by-filled.result c.run-end.result _ c.run-end.new.state
    (g.M.UserBytes.memory c.run-end.new.memory) c.fill_tails_if_complete.new.file _ _ c.requires.legal (sym c.filled_by-filled.ensures)
    c.run-end.ensures.model (rw (← c.vl.ensures.value, ← c.from-length.ensures) c.fill_tails_if_complete.ensures) refl c.access_end.ensures.value
