use Rattle.std.proofs.Common.{◌∙◌}
use Rattle.vector_memory.proofs.MovedRuns.{leaves}
use Rattle.vector_memory.proofs.Offsets.{offset_runs}
use Rattle.vector_memory.proofs.instructions.run_offsets.Goals as goal

pub returns-clause-run : goal.returns-clause-run
returns-clause-run g c =
    let a = c.args in
    leaves _
    (offset_runs a.state.now a.scalar.now c.in-Some.transfer a.access.now a.extent.limit a.extent.fill_masked_off (g.M.UserBytes.memory a.memory.now) c.in-Some.ensures.moves
    ∙ c.run_segments.ensures.run)
