use Rattle.std.proofs.Common.{map}
use Rattle.rv_model.specs.accesses.VectorAccess.{moved_segment}
use Rattle.vector_memory.specs.MovedElements.{HasSeen, element_of}
use Rattle.vector_memory.specs.SegmentRoom.{place_in}
use Rattle.vector_memory.proofs.segments.Segments.show.Given as goal

abbrev pub invariant-loop-field : goal.invariant-loop-field
invariant-loop-field g l =
    HasSeen g.V.Viewer.saw g.V.Viewer.has_room l.field l.fn.viewer
    (map (element_of l.direction (place_in l.self) l.file) (moved_segment l.index l.address l.self.size l.field)) l.viewer
