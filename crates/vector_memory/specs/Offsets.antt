-- Indexed loads and stores ("V" Vector Extension 1.0, sections 7.6 and 7.8).
use Rattle.std.specs.Prelude.{ℕ, ◌≡◌, ◌+◌, ◌%◌, ◌^◌, Option, Some, None}
use Rattle.rv_model.specs.declared.instructions.access.AccessInstr.{AccessInstr}
use Rattle.rv_model.specs.declared.instructions.access.AccessInstr.TheVariants.{Indexed}
use Rattle.rv_model.specs.declared.instructions.operations.UnitOp.TheVariants as unit
use Rattle.rv_model.specs.declared.scalar.Scalar.{Scalar}
use Rattle.rv_model.specs.declared.vector.state.VState.{VState}
use Rattle.rv_model.specs.declared.vector.types.VType.{VType}
use Rattle.rv_model.specs.elements.Arithmetic.{body_of, group_element}
use Rattle.rv_model.specs.accesses.VectorAccess.{VectorAccess}
use Rattle.rv_model.specs.lending.GroupBounds.{HasRoom as GroupHasRoom, IsInside, emul}
use Rattle.rv_model.specs.scalar.Registers.{read_register}
use Rattle.rv_model.specs.vector.Groups.{element_width, group_type, registers, sew_bits, sew_width, width_bytes}
use Rattle.vector_memory.specs.Distances.{operation}
use Rattle.vector_memory.specs.SegmentRoom.{HasRoom, operation_access}
use Rattle.vector_memory.specs.declared.indexed.IndexedTransfer.{IndexedTransfer}

-- the transfer of an indexed load or store under a vector type
abbrev pub indexed_of : AccessInstr → VType → Scalar → Option IndexedTransfer
indexed_of (Indexed direction order width nf vd rs1 vs2 vm) t x =
    Some (record {
      op = operation direction;
      unmasked = vm;
      segments = record {
        fields = nf + 1;
        size = width_bytes (group_type t).width;
        register = vd;
        field_registers = registers (group_type t).emul;
      };
      base = read_register x rs1;
      first = vs2;
      width = width;
      emul = emul (sew_bits (element_width width)) t;
    })
indexed_of _ t x = None

-- the addresses of its segments, from the registers before the instruction
abbrev pub offset_addresses : IndexedTransfer → VState → ℕ → ℕ
offset_addresses t v i = (t.base + group_element (record { width = sew_width (element_width t.width); emul = t.emul }) v.file t.first i) % 2 ^ 64

-- its access
abbrev pub moved_at : IndexedTransfer → VState → VectorAccess
moved_at t v = operation_access t.op t.segments (body_of t.unmasked v) (offset_addresses t v)

-- the precondition of the code: the operation isn't fault-only-first, and the segments and the offsets have room in the registers
pub record OffsetsFit (v : VState) (t : IndexedTransfer) : Type 0 where
  pub op : t.op ≡ unit.FaultOnlyFirst → ⊥
  pub room : HasRoom t.segments v.conf.vl
  pub inside : IsInside t.first t.emul
  pub offsets : GroupHasRoom (sew_width (element_width t.width)) t.emul v.conf.vl
