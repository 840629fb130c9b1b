-- Loads and stores of segments at a constant distance ("V" Vector Extension 1.0, sections 7.4, 7.5 and 7.7 to 7.9).
use Rattle.std.specs.Prelude.{◌≡◌, ℕ, ◌+◌, ◌*◌, ◌%◌, ◌^◌, ◌≤◌, Bool, true, Option, Some, None}
use Rattle.rv_model.specs.accesses.AccessRuns.{AccessRun, directed_run}
use Rattle.rv_model.specs.accesses.VectorAccess.{VectorAccess, mask_length, unit_direction, whole_length}
use Rattle.rv_model.specs.declared.instructions.access.AccessInstr.{AccessInstr}
use Rattle.rv_model.specs.declared.instructions.access.AccessInstr.TheVariants.{UnitStride, Strided, WholeLoad, WholeStore, MaskAccess}
use Rattle.rv_model.specs.declared.instructions.operations.Direction.{Direction}
use Rattle.rv_model.specs.declared.instructions.operations.Direction.TheVariants as direction
use Rattle.rv_model.specs.declared.instructions.operations.UnitOp.{UnitOp}
use Rattle.rv_model.specs.declared.instructions.operations.Eew.{Eew}
use Rattle.rv_model.specs.declared.instructions.operations.Eew.TheVariants.{E8}
use Rattle.rv_model.specs.declared.scalar.Scalar.{Scalar}
use Rattle.rv_model.specs.declared.instructions.operations.UnitOp.TheVariants as unit
use Rattle.rv_model.specs.declared.vector.sizes.TheConstants.{GROUP_BYTES}
use Rattle.rv_model.specs.declared.vector.state.VState.{VState}
use Rattle.rv_model.specs.declared.vector.types.VType.{VType}
use Rattle.rv_model.specs.vector.Groups.{register_count, element_width, sew_bits, sew_width, width_bytes, register_of, registers}
use Rattle.rv_model.specs.lending.GroupBounds.{emul}
use Rattle.rv_model.specs.memory.Memory.{Memory}
use Rattle.rv_model.specs.scalar.Registers.{read_register}
use Rattle.vector_memory.specs.SegmentRoom.{HasRoom, operation_access}
use Rattle.vector_memory.specs.declared.addresses.Strided.{Strided as StridedAddresses}
use Rattle.vector_memory.specs.declared.transfers.Transfer.{Transfer}

-- the access of a transfer, from the registers before the instruction
abbrev pub moved_by : Transfer → VState → VectorAccess
moved_by t v =
    operation_access t.op t.segments
    (record { unmasked = t.unmasked; mask = register_of v.file 0; start = v.vstart; end = t.count })
    (λ i. (t.addresses.base + i * t.addresses.stride) % 2 ^ 64)

-- the run of a transfer
abbrev pub transfer_run : ℕ → Bool → Transfer → VState → Memory → AccessRun
transfer_run limit fill t v m = directed_run (unit_direction t.op) limit fill (moved_by t v) v m

-- the segments of the transfer have room in the registers
pub record Fits (v : VState) (t : Transfer) : Type 0 where
  pub room : HasRoom t.segments t.count
  pub count : t.count ≤ GROUP_BYTES
  pub length : t.op ≡ unit.FaultOnlyFirst → t.count ≡ v.conf.vl

-- ---- the transfer of each instruction

-- segments of nf + 1 fields of a width, which start at the register vd, in groups of the vector type; `None` without a vector type. The
-- vector length is the number of segments.
abbrev pub grouped : UnitOp → Eew → ℕ → ℕ → StridedAddresses → Bool → VState → Option VType → Option Transfer
grouped op width nf vd addresses unmasked v None = None
grouped op width nf vd addresses unmasked v (Some t) =
    Some (record {
      op = op;
      unmasked = unmasked;
      segments = record {
        fields = nf + 1;
        size = width_bytes (sew_width (element_width width));
        register = vd;
        field_registers = registers (emul (sew_bits (element_width width)) t);
      };
      addresses = addresses;
      count = v.conf.vl;
    })

-- `length` adjacent elements of `size` bytes from the address `base` on, in `count` whole registers
abbrev pub whole : UnitOp → ℕ → ℕ → ℕ → ℕ → ℕ → Transfer
whole op size count vd base length =
    record {
      op = op;
      unmasked = true;
      segments = record { fields = 1; size = size; register = vd; field_registers = count };
      addresses = record { base = base; stride = size };
      count = length;
    }

-- the direction as a unit-stride operation, which could also be a fault-only-first load
abbrev pub operation : Direction → UnitOp
operation direction.Load = unit.Load
operation direction.Store = unit.Store

abbrev pub transfer_of : AccessInstr → VState → Scalar → Option Transfer
transfer_of (UnitStride op width nf vd rs1 vm) v x =
    grouped op width nf vd
    (record { base = read_register x rs1; stride = (nf + 1) * width_bytes (sew_width (element_width width)) })
    vm v v.conf.vtype
transfer_of (Strided direction width nf vd rs1 rs2 vm) v x =
    grouped (operation direction) width nf vd (record { base = read_register x rs1; stride = read_register x rs2 })
    vm v v.conf.vtype
transfer_of (WholeLoad count width vd rs1) v x =
    Some (whole unit.Load (width_bytes (sew_width (element_width width))) (register_count count) vd
    (read_register x rs1) (whole_length count width))
transfer_of (WholeStore count vd rs1) v x =
    Some (whole unit.Store 1 (register_count count) vd (read_register x rs1) (whole_length count E8))
transfer_of (MaskAccess direction vd rs1) v x =
    Some (whole (operation direction) 1 1 vd (read_register x rs1) (mask_length v.conf.vl))
transfer_of _ v x = None
