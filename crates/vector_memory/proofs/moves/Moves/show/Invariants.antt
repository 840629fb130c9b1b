use Rattle.std.proofs.Common.{◌-◌, ◌*◌, ◌≤◌, max}
use Rattle.rv_model.specs.accesses.VectorAccess.{unit_direction}
use Rattle.vector_memory.specs.MovedElements.{HasSeen, elements_before}
use Rattle.vector_memory.proofs.moves.Moves.show.Given as goal

abbrev pub invariant-loop-index : goal.invariant-loop-index
invariant-loop-index g l =
    let m = l.self in
    record {
      low : m.body.start ≤ l.index;
      high : l.index ≤ max m.body.start m.body.end;
      shown : HasSeen g.V.Viewer.saw g.V.Viewer.has_room (8 * (l.index - m.body.start)) l.fn.viewer
          (elements_before (unit_direction l.fn.op) m.segments m.body (g.A.Addresses.address m.addresses) l.file l.index) l.viewer;
    }
