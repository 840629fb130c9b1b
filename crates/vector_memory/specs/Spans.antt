-- Loads and stores whose bytes are close together ("V" Vector Extension 1.0, sections 7.4, 7.5, 7.8 and 7.9).
use Rattle.std.specs.Prelude.{◌≡◌, ℕ, ◌+◌, ◌*◌, ◌-◌, ◌<◌, ◌≤◌, ◌^◌}
use Rattle.rv_model.specs.declared.vector.sizes.TheConstants.{GROUP_BYTES}
use Rattle.rv_model.specs.elements.Elements.{Body}
use Rattle.vector_memory.specs.SegmentRoom.{HasRoom}
use Rattle.vector_memory.specs.declared.segments.Segments.{Segments}

-- `count` bytes from an address on contain each segment of the indices of a body up to `stop`, and the registers have room for these
-- segments. Each segment starts `distance` bytes after the one before it.
pub record IsSpan (s : Segments) (body : Body) (stop address count distance : ℕ) : Type 0 where
  pub room : HasRoom s stop
  pub most : stop ≤ GROUP_BYTES
  pub some : body.start < stop
  pub apart : s.fields * s.size ≤ distance
  pub length : count ≡ (stop - body.start - 1) * distance + s.fields * s.size
  pub inside : (k : ℕ) → k < stop - body.start → k * distance + s.fields * s.size ≤ count
  pub end : address + count < 2 ^ 64
  pub few : count ≤ GROUP_BYTES
