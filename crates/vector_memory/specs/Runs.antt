-- The result of a run of a load or store, and the run of segments ("V" Vector Extension 1.0, sections 7.4 to 7.9).
use Rattle.std.specs.Prelude.{◌≡◌, ℕ, Bool}
use Rattle.rv_model.specs.accesses.AccessRuns.{AccessRun, directed_run, runs_to}
use Rattle.rv_model.specs.accesses.VectorAccess.{unit_direction}
use Rattle.rv_model.specs.declared.instructions.operations.UnitOp.{UnitOp}
use Rattle.rv_model.specs.declared.step.memory_end.MemEnd.{MemEnd}
use Rattle.rv_model.specs.declared.vector.state.VState.{VState}
use Rattle.rv_model.specs.elements.Elements.{Body}
use Rattle.rv_model.specs.memory.Memory.{Memory}
use Rattle.vector_memory.specs.SegmentRoom.{operation_access}
use Rattle.vector_memory.specs.declared.segments.Segments.{Segments}

-- a run ends as `end`, with this vector state and memory; its `reached` may be any index
abbrev pub RunLeaves : AccessRun → MemEnd → VState → Memory → Type 0
RunLeaves run end v m = run ≡ runs_to end run.reached v m

-- the run of segments, for at most `limit` indices
abbrev pub segments_run : UnitOp → ℕ → Bool → Segments → Body → (ℕ → ℕ) → VState → Memory → AccessRun
segments_run op limit fill s body address v m =
    directed_run (unit_direction op) limit fill (operation_access op s body address) v m
