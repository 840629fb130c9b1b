-- The places of the elements of segments in the vector registers ("V" Vector Extension 1.0, section 7.8).
use Rattle.std.specs.Prelude.{ℕ, ◌+◌, ◌*◌, ◌≤◌, ◌<◌, false, List, ⊤}
use Rattle.rv_model.specs.accesses.Transfers.{Transfer}
use Rattle.rv_model.specs.accesses.VectorAccess.{VectorAccess, is_first_only, moved_segment, unit_direction}
use Rattle.rv_model.specs.declared.instructions.operations.Direction.TheVariants as direction
use Rattle.rv_model.specs.declared.instructions.operations.UnitOp.{UnitOp}
use Rattle.rv_model.specs.declared.step.memory_end.MemEnd.{MemEnd}
use Rattle.rv_model.specs.declared.step.memory_end.MemEnd.TheVariants.{Done, Fault, Cut}
use Rattle.rv_model.specs.declared.vector.sizes.TheConstants.{VECTOR_REGISTERS, VLENB}
use Rattle.rv_model.specs.elements.Elements.{Body}
use Rattle.vector_memory.specs.declared.segments.Segments.{Segments}

-- the access of these segments, from its body and the address of each segment, as a load that isn't fault-only-first
abbrev pub segments_access : Segments → Body → (ℕ → ℕ) → VectorAccess
segments_access s body address =
    record {
      direction = direction.Load;
      first_only = false;
      body = body;
      fields = s.fields;
      size = s.size;
      register = s.register;
      field_registers = s.field_registers;
      address = address;
    }

-- the access of the same segments for any operation; it has the same transfers
abbrev pub operation_access : UnitOp → Segments → Body → (ℕ → ℕ) → VectorAccess
operation_access op s body address =
    record (segments_access s body address) { direction = unit_direction op; first_only = is_first_only op }

-- the first byte of an element in the register file
abbrev pub place_in : Segments → Transfer → ℕ
place_in s t = VLENB * (s.register + t.field * s.field_registers) + t.index * s.size

-- the transfers of the segment of an index, from an address on
abbrev pub segment_transfers : Segments → ℕ → ℕ → List Transfer
segment_transfers s index address = moved_segment index address s.size s.fields

-- at most eight fields of at most eight bytes each, in registers that exist and have room for `count` elements of each field
pub record HasRoom (s : Segments) (count : ℕ) : Type 0 where
  pub fields : s.fields ≤ 8
  pub size : s.size ≤ 8
  pub inside : s.register + s.fields * s.field_registers ≤ VECTOR_REGISTERS
  pub room : s.size * count ≤ VLENB * s.field_registers

-- if an instruction stops at an index, it is less than n
abbrev pub StopsBefore : ℕ → MemEnd → Type 0
StopsBefore n Done = ⊤
StopsBefore n (Fault index addr) = index < n
StopsBefore n (Cut index) = index < n
