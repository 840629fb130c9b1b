use Rattle.std.proofs.Common.{◌∙◌}
use Rattle.rv_model.specs.declared.instructions.operations.UnitOp.TheVariants as unit
use Rattle.vector_memory.proofs.MovedRuns.{leaves, load_runs, store_runs}
use Rattle.vector_memory.proofs.moves.Moves.run.Goals as goal

pub returns-in-Load-clause-run : goal.returns-in-Load-clause-run
returns-in-Load-clause-run g c =
    let m = g.M.UserBytes.memory c.args.memory.now in
    rw c.in-Load.is
    (leaves _ (load_runs unit.Load _ _ _ (g.A.Addresses.address c.args.self.now.addresses) c.args.state.now m _ _ _ c.load.ensures.loaded ∙ c.leave.ensures c.args.self.now.body.end m))

pub returns-in-FaultOnlyFirst-clause-run : goal.returns-in-FaultOnlyFirst-clause-run
returns-in-FaultOnlyFirst-clause-run g c =
    let m = g.M.UserBytes.memory c.args.memory.now in
    rw c.in-FaultOnlyFirst.is
    (leaves _ (load_runs unit.FaultOnlyFirst _ _ _ (g.A.Addresses.address c.args.self.now.addresses) c.args.state.now m _ _ _ c.load-in-FaultOnlyFirst.ensures.loaded
    ∙ c.leave-in-FaultOnlyFirst.ensures c.args.self.now.body.end m))

pub returns-in-Store-clause-run : goal.returns-in-Store-clause-run
returns-in-Store-clause-run g c =
    let m = g.M.UserBytes.memory c.args.memory.now in
    rw c.in-Store.is
    (leaves _ (store_runs unit.Store _ _ _ (g.A.Addresses.address c.args.self.now.addresses) c.args.state.now m _ _ c.store.ensures.stored
    ∙ c.leave-in-Store.ensures c.args.self.now.body.end (g.M.UserBytes.memory c.store.new.memory)))
