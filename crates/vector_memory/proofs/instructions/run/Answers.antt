use Rattle.std.proofs.Common.{refl}
use Rattle.rv_model.proofs.access_lemmas.GoesOn.{goes_on}
use Rattle.rv_model.proofs.legality_lemmas.Meaning.{is_legal_means}
use Rattle.vector_memory.proofs.instructions.run.Goals as goal

pub returns-then-try_block-clause-restarts : goal.returns-then-try_block-clause-restarts
returns-then-try_block-clause-restarts g c =
    goes_on c.args.limit c.args.fill_masked_off c.args.access.now c.args.state.now c.args.scalar.now (g.M.UserBytes.memory c.args.memory.now) _
    ((is_legal_means _ c.args.state.now.conf.vtype c.args.state.now.vstart).0 c.requires.legal) c.length_law.ensures refl

pub returns-clause-restarts : goal.returns-clause-restarts
returns-clause-restarts g c =
    goes_on c.args.limit c.args.fill_masked_off c.args.access.now c.args.state.now c.args.scalar.now (g.M.UserBytes.memory c.args.memory.now) _
    ((is_legal_means _ c.args.state.now.conf.vtype c.args.state.now.vstart).0 c.requires.legal) c.length_law.ensures refl
