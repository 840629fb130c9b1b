-- The access of each vector load and store ("V" Vector Extension 1.0, chapter 7), from the registers before the instruction.
use Rattle.std.specs.Prelude.{ℕ, ◌+◌, ◌*◌, ◌/◌, ◌%◌, ◌^◌, Bool, true, false, List, [], map, Option, Some, None, pos, ◌+ℤ◌, ◌*ℤ◌, if◌then◌else◌}
use Rattle.std.specs.Int.{cast_signed, w64}
use Rattle.std.specs.List.{range_with_len}
use Rattle.std.specs.Option.{option_map, option_map_or}
use Rattle.rv_model.specs.declared.instructions.instruction.Instr.{Instr}
use Rattle.rv_model.specs.declared.instructions.instruction.Instr.TheVariants as instr
pub use Rattle.rv_model.specs.declared.instructions.access.AccessInstr.{AccessInstr}
use Rattle.rv_model.specs.declared.instructions.access.AccessInstr.TheVariants.{UnitStride, Strided, Indexed, WholeLoad, WholeStore, MaskAccess}
pub use Rattle.rv_model.specs.declared.instructions.operations.Direction.{Direction}
use Rattle.rv_model.specs.declared.instructions.operations.Direction.TheVariants.{Load, Store}
use Rattle.rv_model.specs.declared.instructions.operations.RegisterCount.{RegisterCount}
use Rattle.rv_model.specs.declared.instructions.operations.UnitOp.{UnitOp}
use Rattle.rv_model.specs.declared.instructions.operations.UnitOp.TheVariants as unit
use Rattle.rv_model.specs.declared.instructions.operations.Eew.{Eew}
pub use Rattle.rv_model.specs.declared.scalar.Scalar.{Scalar}
use Rattle.rv_model.specs.declared.vector.sizes.TheConstants.{VLENB}
pub use Rattle.rv_model.specs.declared.vector.state.VState.{VState}
pub use Rattle.rv_model.specs.declared.vector.types.VType.{VType}
use Rattle.rv_model.specs.accesses.Transfers.{Moved, Ones, Plan, Transfer}
pub use Rattle.rv_model.specs.vector.Groups.{GroupType, group_type}
use Rattle.rv_model.specs.elements.Arithmetic.{body_of, group_element}
use Rattle.rv_model.specs.elements.Elements.{Body, is_enabled}
use Rattle.rv_model.specs.elements.Formulas.{wrap}
use Rattle.rv_model.specs.vector.Groups.{access_type, register_count, element_width, sew_width, width_bytes, registers}
use Rattle.rv_model.specs.scalar.Registers.{read_register}

-- the access of a load or store: for each active index of the body a segment of `fields` fields of `size` bytes
pub record VectorAccess : Type 0 where
  pub direction : Direction
  -- whether a fault at an index other than 0 reduces vl instead of trapping (section 7.7)
  pub first_only : Bool
  pub body : Body
  pub fields : ℕ
  pub size : ℕ
  -- the first register of the first field, and the number of registers of each field
  pub register : ℕ
  pub field_registers : ℕ
  -- the address of the segment of each index
  pub address : ℕ → ℕ

-- ---- the transfers of an access

-- the transfers of one index: `fields` adjacent fields of `size` bytes each, from an address on, modulo 2 ^ 64
abbrev pub moved_segment : ℕ → ℕ → ℕ → ℕ → List Transfer
moved_segment i address size fields =
    map (λ f. record { index = i; field = f; size = size; kind = Moved ((address + f * size) % 2 ^ 64) }) (range_with_len 0 fields)

-- the same for an index whose elements become all ones
abbrev pub filled_segment : ℕ → ℕ → ℕ → List Transfer
filled_segment i size fields = map (λ f. record { index = i; field = f; size = size; kind = Ones }) (range_with_len 0 fields)

-- the transfers of each index; the flag selects whether masked-off elements become all ones
unfoldable pub plan : VectorAccess → Bool → Plan
plan a fill_masked_off i =
    if is_enabled a.body i then moved_segment i (a.address i) a.size a.fields
    else if fill_masked_off then filled_segment i a.size a.fields else []

-- the first byte of an element in the register file
abbrev pub element_start : VectorAccess → Transfer → ℕ
element_start a t = VLENB * (a.register + t.field * a.field_registers) + t.index * a.size

-- ---- the access of each instruction

-- the direction of a unit-stride operation, and whether it is fault-only-first
abbrev pub unit_direction : UnitOp → Direction
unit_direction unit.Store = Store
unit_direction _ = Load

abbrev pub is_first_only : UnitOp → Bool
is_first_only unit.FaultOnlyFirst = true
is_first_only _ = false

-- an access of the elements of a body, in segments of `fields` fields of `size` bytes. The fields start at the register vd, and each takes
-- `field_registers` registers; `address` maps an index to the address of its segment.
abbrev pub access_by : Direction → Body → ℕ → ℕ → ℕ → ℕ → (ℕ → ℕ) → VectorAccess
access_by direction body fields size vd field_registers address =
    record {
      direction = direction;
      first_only = false;
      body = body;
      fields = fields;
      size = size;
      register = vd;
      field_registers = field_registers;
      address = address;
    }

-- an access of the elements from vstart up to vl, in register groups of a type
abbrev pub segments : Direction → GroupType → ℕ → ℕ → Bool → (ℕ → ℕ) → VState → VectorAccess
segments direction g nf vd unmasked address v =
    access_by direction (body_of unmasked v) (nf + 1) (width_bytes g.width) vd (registers g.emul) address

-- unit stride: adjacent segments (section 7.4)
abbrev pub unit_access : UnitOp → GroupType → ℕ → ℕ → ℕ → Bool → VState → Scalar → VectorAccess
unit_access op g nf vd rs1 unmasked v x =
    record (segments (unit_direction op) g nf vd unmasked (λ i. (read_register x rs1 + i * ((nf + 1) * width_bytes g.width)) % 2 ^ 64) v) {
      first_only = is_first_only op;
    }

-- a signed stride in bytes, from x[rs2] (section 7.5)
abbrev pub strided_access : Direction → GroupType → ℕ → ℕ → ℕ → ℕ → Bool → VState → Scalar → VectorAccess
strided_access direction g nf vd rs1 rs2 unmasked v x =
    segments direction g nf vd unmasked
    (λ i. wrap w64 (pos (read_register x rs1) +ℤ pos i *ℤ cast_signed w64 (read_register x rs2))) v

-- unsigned offsets in bytes, from a register group that has its own type (section 7.6)
abbrev pub indexed_access : Direction → GroupType → GroupType → ℕ → ℕ → ℕ → ℕ → Bool → VState → Scalar → VectorAccess
indexed_access direction g indices nf vd rs1 vs2 unmasked v x =
    segments direction g nf vd unmasked (λ i. (read_register x rs1 + group_element indices v.file vs2 i) % 2 ^ 64) v

-- an access of `length` elements of `size` bytes in `count` registers, independent of the vector type
abbrev pub unmasked_access : Direction → ℕ → ℕ → ℕ → ℕ → ℕ → VState → Scalar → VectorAccess
unmasked_access direction length size count vd rs1 v x =
    access_by direction (record (body_of true v) { end = length }) 1 size vd count (λ i. (read_register x rs1 + i * size) % 2 ^ 64)

-- the size in bytes of an element of a width
abbrev pub element_bytes : Eew → ℕ
element_bytes width = width_bytes (sew_width (element_width width))

-- the number of elements of a width in `count` whole registers (section 7.9)
abbrev pub whole_length : RegisterCount → Eew → ℕ
whole_length count width = register_count count * VLENB / element_bytes width

-- the number of bytes of a mask of vl bits (section 7.4)
abbrev pub mask_length : ℕ → ℕ
mask_length vl = (vl + 7) / 8

-- the access of a vector load or store; `None` if it needs a vector type and there is none. The data elements of an indexed access have the
-- vector type's width.
abbrev pub access_of : AccessInstr → VState → Scalar → Option VectorAccess
access_of (UnitStride op width nf vd rs1 vm) v x =
    option_map (λ t. unit_access op (access_type t width) nf vd rs1 vm v x) v.conf.vtype
access_of (Strided direction width nf vd rs1 rs2 vm) v x =
    option_map (λ t. strided_access direction (access_type t width) nf vd rs1 rs2 vm v x) v.conf.vtype
access_of (Indexed direction order width nf vd rs1 vs2 vm) v x =
    option_map (λ t. indexed_access direction (group_type t) (access_type t width) nf vd rs1 vs2 vm v x) v.conf.vtype
access_of (WholeLoad count width vd rs1) v x =
    Some (unmasked_access Load (whole_length count width) (element_bytes width) (register_count count) vd rs1 v x)
access_of (WholeStore count vd rs1) v x =
    Some (unmasked_access Store (register_count count * VLENB) 1 (register_count count) vd rs1 v x)
access_of (MaskAccess direction vd rs1) v x =
    option_map (λ t. unmasked_access direction (mask_length v.conf.vl) 1 1 vd rs1 v x) v.conf.vtype

-- the same for any instruction; `None` if it isn't a vector load or store
abbrev pub vector_access : Instr → VState → Scalar → Option VectorAccess
vector_access (instr.Access i) v x = access_of i v x
vector_access _ v x = None

-- the number of indices of an access, from 0 up to the end of its body; 0 without an access
abbrev pub index_count : Option VectorAccess → ℕ
index_count a = option_map_or (λ a. a.body.end) a 0
