-- The elements that a vector load or store moves between registers and memory ("V" Vector Extension 1.0, chapter 7).
use Rattle.std.specs.Prelude.{ℕ, ◌+◌, ◌-◌, false, List, map, Option, Some, None, if◌then◌else◌}
use Rattle.std.specs.Simd.Lanes.{chunk}
use Rattle.rv_model.specs.accesses.Transfers.{Transfer, address_of, transfers}
use Rattle.rv_model.specs.accesses.VectorAccess.{VectorAccess, element_start, plan}
use Rattle.rv_model.specs.declared.instructions.operations.Direction.{Direction}
use Rattle.rv_model.specs.declared.instructions.operations.Direction.TheVariants as direction
use Rattle.rv_model.specs.declared.vector.state.VState.{VState}
use Rattle.rv_model.specs.elements.Elements.{Body}
use Rattle.vector_memory.specs.SegmentRoom.{place_in, segments_access}
use Rattle.vector_memory.specs.declared.segments.Segments.{Segments}

-- an element: its address, and for a store its bytes
pub record MovedElement : Type 0 where
  pub address : ℕ
  pub stored : Option (List ℕ)

-- the element with this direction, this address and these bytes in the registers
abbrev pub moved_element : Direction → ℕ → List ℕ → MovedElement
moved_element direction.Load address bytes = record { address = address; stored = None }
moved_element direction.Store address bytes = record { address = address; stored = Some bytes }

-- the element of a transfer, from the registers before the instruction
abbrev pub element_of : Direction → (Transfer → ℕ) → List ℕ → Transfer → MovedElement
element_of d place file t = moved_element d (address_of t.kind) (chunk (place t) t.size file)

-- the index after the last one of an access, if vl after it is the given length: a fault-only-first load may have reduced vl
abbrev pub moved_end : VectorAccess → ℕ → ℕ
moved_end a vl = if a.first_only then vl else a.body.end

-- the elements of an access from vstart on, if vl after it is the given length
abbrev pub moved_elements : VState → ℕ → VectorAccess → List MovedElement
moved_elements v vl a =
    map (element_of a.direction (element_start a) v.file) (transfers (plan a false) a.body.start (moved_end a vl - a.body.start))

-- the elements of segments, for the indices of a body below `stop`
abbrev pub elements_before : Direction → Segments → Body → (ℕ → ℕ) → List ℕ → ℕ → List MovedElement
elements_before d s body address file stop =
    map (element_of d (place_in s) file) (transfers (plan (segments_access s body address) false) body.start (stop - body.start))

-- a viewer received these elements between the states `old` and `new`, and used room for at most `most` elements
pub record HasSeen {V : Type 0} (saw : V → List MovedElement → V → Type 0) (has_room : V → ℕ → Type 0) (most : ℕ) (old : V)
    (elements : List MovedElement) (new : V) : Type 0 where
  pub seen : saw old elements new
  pub left : (count : ℕ) → has_room old (count + most) → has_room new count
