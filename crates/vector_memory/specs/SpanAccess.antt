-- The access of the indices of a span, and its result ("V" Vector Extension 1.0, sections 7.4, 7.5, 7.8 and 7.9).
use Rattle.std.specs.Prelude.{◌≡◌, ℕ, ◌+◌, ◌*◌, ◌-◌, ◌<◌, Bool, false, List}
use Rattle.rv_model.specs.accesses.Transfers.{Transfer, memory_stored, registers_loaded, transfers}
use Rattle.rv_model.specs.accesses.VectorAccess.{VectorAccess, plan}
use Rattle.rv_model.specs.elements.Elements.{Body}
use Rattle.rv_model.specs.memory.Memory.{Memory, bytes_at, put_bytes}
use Rattle.vector_memory.specs.SegmentRoom.{place_in, segments_access}
use Rattle.vector_memory.specs.declared.segments.Segments.{Segments}
use Rattle.vector_memory.specs.declared.spans.Span.{Span}

-- the access of these indices, with the address of each segment in the span
abbrev pub span_access : Span → VectorAccess
span_access b = segments_access b.segments b.body (λ i. b.address + (i - b.body.start) * b.distance)

-- its transfers
abbrev pub span_transfers : Span → Bool → List Transfer
span_transfers b fill = transfers (plan (span_access b) fill) b.body.start (b.stop - b.body.start)

-- b is the span of the indices of a body up to `stop`, with the given addresses of the segments
pub record IsSpanOf (s : Segments) (body : Body) (address : ℕ → ℕ) (stop : ℕ) (b : Span) : Type 0 where
  pub same_segments : b.segments ≡ s
  pub same_body : b.body ≡ body
  pub same_stop : b.stop ≡ stop
  pub begins : (k : ℕ) → k < stop - body.start → address (body.start + k) ≡ b.address + k * b.distance

-- the registers after a load of a span with these bytes
abbrev pub IsRead : Span → Bool → List ℕ → List ℕ → List ℕ → Type 0
IsRead b fill bytes old new =
    (m : Memory) → bytes ≡ bytes_at m b.address b.length
    → new ≡ registers_loaded m (place_in b.segments) old (span_transfers b fill)

-- the bytes of a span after a store of these registers
abbrev pub IsWritten : Span → List ℕ → List ℕ → List ℕ → Type 0
IsWritten b file old new =
    (m : Memory) → put_bytes m b.address new
    ≡ memory_stored (put_bytes m b.address old) (place_in b.segments) file (span_transfers b false)

-- the span has contiguous elements of one field, from index 0 on
pub record IsBlend (b : Span) : Type 0 where
  pub alone : b.segments.fields ≡ 1
  pub apart : b.distance ≡ b.segments.size
  pub first : b.body.start ≡ 0

-- the body from index 0 up to `stop`
abbrev pub part_of : Body → ℕ → Body
part_of body stop = record { unmasked = body.unmasked; mask = body.mask; start = 0; end = stop }
