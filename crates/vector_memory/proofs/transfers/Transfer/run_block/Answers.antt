use Rattle.std.proofs.Common.{subst, sym}
use Rattle.rv_model.specs.declared.instructions.operations.UnitOp.{UnitOp}
use Rattle.rv_model.specs.declared.instructions.operations.UnitOp.TheVariants as unit
use Rattle.rv_model.specs.declared.step.memory_end.MemEnd.TheVariants.{Done}
use Rattle.rv_model.specs.vector.Groups.{register_of}
use Rattle.vector_memory.specs.Distances.{moved_by, transfer_run}
use Rattle.vector_memory.specs.Runs.{RunLeaves}
use Rattle.vector_memory.proofs.MovedRuns.{load_done, store_done}
use Rattle.vector_memory.proofs.transfers.Transfer.run_block.Goals as goal

pub returns-in-Load-clause-done : goal.returns-in-Load-clause-done
returns-in-Load-clause-done g c = λ done fill.
    let t = c.args.self.now in
    let v = c.args.state.now in
    let m = g.M.UserBytes.memory c.args.memory.now in
    let it = c.in-Some.ensures in
    subst (λ (op : UnitOp). RunLeaves (transfer_run c.args.limit fill (record t { op = op }) v m) Done (record v { file = c.load.new.file }) m) (sym c.in-Load.is)
    (load_done t.segments (moved_by t v).body (moved_by t v).address c.in-Some.block (it.value (register_of v.file 0)) v m c.args.limit it.first it.reach
    it.first unit.Load fill c.load.new.file (c.load.ensures.allowed done) (c.load.ensures.value done))

pub returns-in-FaultOnlyFirst-clause-done : goal.returns-in-FaultOnlyFirst-clause-done
returns-in-FaultOnlyFirst-clause-done g c = λ done fill.
    let t = c.args.self.now in
    let v = c.args.state.now in
    let m = g.M.UserBytes.memory c.args.memory.now in
    let it = c.in-Some.ensures in
    let loads = c.load-in-FaultOnlyFirst in
    subst (λ (op : UnitOp). RunLeaves (transfer_run c.args.limit fill (record t { op = op }) v m) Done (record v { file = loads.new.file }) m) (sym c.in-FaultOnlyFirst.is)
    (load_done t.segments (moved_by t v).body (moved_by t v).address c.in-Some.block (it.value (register_of v.file 0)) v m c.args.limit it.first it.reach
    it.first unit.FaultOnlyFirst fill loads.new.file (loads.ensures.allowed done) (loads.ensures.value done))

pub returns-in-Store-clause-done : goal.returns-in-Store-clause-done
returns-in-Store-clause-done g c = λ done fill.
    let t = c.args.self.now in
    let v = c.args.state.now in
    let m = g.M.UserBytes.memory c.args.memory.now in
    let more = g.M.UserBytes.memory c.store.new.memory in
    let it = c.in-Some.ensures in
    subst (λ (op : UnitOp). RunLeaves (transfer_run c.args.limit fill (record t { op = op }) v m) Done v more) (sym c.in-Store.is)
    (store_done t.segments (moved_by t v).body (moved_by t v).address c.in-Some.block (it.value (register_of v.file 0)) v m c.args.limit it.first it.reach
    it.first unit.Store more (c.store.ensures.allowed done) (c.store.ensures.value done) c.store.ensures.whole)
