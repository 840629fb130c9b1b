-- The block of bytes of contiguous elements ("V" Vector Extension 1.0, sections 7.4 and 7.9).
use Rattle.std.specs.Prelude.{◌≡◌, ℕ, ◌+◌, ◌*◌, ◌-◌, ◌≤◌}
use Rattle.rv_model.specs.lending.Contiguous.{IsContiguous}
use Rattle.rv_model.specs.declared.vector.sizes.TheConstants.{FILE_BYTES, VLENB}
use Rattle.rv_model.specs.elements.Elements.{Body}
use Rattle.vector_memory.specs.SegmentRoom.{segments_access}
use Rattle.vector_memory.specs.declared.blocks.Block.{Block}
use Rattle.vector_memory.specs.declared.segments.Segments.{Segments}

-- b is the block of the indices of a body from its start up to `stop`
pub record IsBlock (s : Segments) (body : Body) (address : ℕ → ℕ) (stop : ℕ) (b : Block) : Type 0 where
  pub order : body.start ≤ stop
  pub contiguous : IsContiguous (segments_access s body address) body.start (stop - body.start) b.address
  pub place : b.place ≡ VLENB * s.register + body.start * s.size
  pub length : b.length ≡ (stop - body.start) * s.size
  pub inside : b.place + b.length ≤ FILE_BYTES
