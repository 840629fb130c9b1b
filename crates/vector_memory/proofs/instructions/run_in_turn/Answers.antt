use Rattle.std.proofs.Common.{sym, ◌∙◌, arith}
use Rattle.vector_memory.proofs.MovedRuns.{leaves}
use Rattle.vector_memory.proofs.Transferred.{fits, runs, transfers_nothing}
use Rattle.vector_memory.proofs.instructions.run_in_turn.Goals as goal

pub run_segments-requires : goal.run_segments-requires
run_segments-requires g c =
    let a = c.args in
    fits a.state.now a.scalar.now c.in-Some-transfer_of.transfer a.access.now (sym c.transfer_of.ensures.value ∙ c.in-Some-transfer_of.is)
    c.requires.legal c.requires.configured c.in-Some-transfer_of.ensures.fields

pub returns-in_default-transfer_of-clause-run : goal.returns-in_default-transfer_of-clause-run
returns-in_default-transfer_of-clause-run g c =
    let a = c.args in
    leaves _
    (transfers_nothing a.state.now a.scalar.now a.access.now a.extent.limit a.extent.fill_masked_off (g.M.UserBytes.memory a.memory.now)
    (sym c.transfer_of.ensures.value ∙ c.in_default-transfer_of.is) c.requires.legal (sym c.is_indexed.ensures ∙ c.if-is_indexed.false))

pub returns-clause-run : goal.returns-clause-run
returns-clause-run g c =
    let a = c.args in
    leaves _
    (runs a.state.now a.scalar.now c.in-Some-transfer_of.transfer a.access.now a.extent.limit a.extent.fill_masked_off (g.M.UserBytes.memory a.memory.now)
    (sym c.transfer_of.ensures.value ∙ c.in-Some-transfer_of.is) c.requires.legal (omega arith)
    ∙ c.run_segments.ensures.run)
