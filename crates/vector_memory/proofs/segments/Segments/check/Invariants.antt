use Rattle.std.proofs.Common.{◌≡◌, ℕ, true}
use Rattle.rv_model.specs.accesses.Transfers.{are_allowed}
use Rattle.rv_model.specs.accesses.VectorAccess.{moved_segment}
use Rattle.vector_memory.proofs.segments.Segments.check.Given as goal

abbrev pub invariant-loop-field : goal.invariant-loop-field
invariant-loop-field g l =
    (index : ℕ) → are_allowed l.access (g.M.UserBytes.memory l.memory) (moved_segment index l.address l.self.size l.field) ≡ true
