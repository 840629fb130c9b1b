use Rattle.std.proofs.Common.{sym, ◌∙◌, arith}
use Rattle.vector_memory.proofs.MovedRuns.{leaves}
use Rattle.vector_memory.proofs.Transferred.{fits, runs}
use Rattle.vector_memory.proofs.instructions.try_block.Goals as goal

pub run_block-requires : goal.run_block-requires
run_block-requires g c =
    let a = c.args in
    fits a.state.now a.scalar.now c.in-Some.transfer a.access.now (sym c.transfer_of.ensures.value ∙ c.in-Some.is)
    c.requires.legal c.requires.configured c.in-Some.ensures.fields

pub returns-clause-done : goal.returns-clause-done
returns-clause-done g c = λ done.
    let a = c.args in
    leaves _
    (runs a.state.now a.scalar.now c.in-Some.transfer a.access.now a.extent.limit a.extent.fill_masked_off (g.M.UserBytes.memory a.memory.now)
    (sym c.transfer_of.ensures.value ∙ c.in-Some.is) c.requires.legal (omega arith)
    ∙ c.run_block.ensures.done done a.extent.fill_masked_off)
