-- Classes of instructions for the counts. A class is given by the elements of an operation ("V" Vector Extension 1.0, sections 5.4,
-- 7.4, 7.9, 16.1 and 16.6), or by a jump (Unprivileged ISA 20191213, section 2.5).
use Rattle.std.specs.Int.{from_bool}
use Rattle.std.specs.Prelude.{ℕ, nat_lt, ◌*◌, ◌==◌, ◌||◌, Bool, true, false, Option, Some, List, length, if◌then◌else◌}
use Rattle.std.specs.List.{filter, range_with_len}
use Rattle.std.specs.Option.{option_map_or}
use Rattle.rv_model.specs.accesses.VectorAccess.{mask_length, whole_length}
use Rattle.rv_model.specs.declared.instructions.access.AccessInstr.{AccessInstr}
use Rattle.rv_model.specs.declared.instructions.access.AccessInstr.TheVariants.{UnitStride, Strided, Indexed, WholeLoad, WholeStore, MaskAccess}
use Rattle.rv_model.specs.declared.instructions.instruction.Instr.{Instr}
use Rattle.rv_model.specs.declared.instructions.instruction.Instr.TheVariants as instr
use Rattle.rv_model.specs.declared.instructions.scalar.ScalarInstr.{ScalarInstr}
use Rattle.rv_model.specs.declared.instructions.scalar.ScalarInstr.TheVariants as scalar
use Rattle.rv_model.specs.declared.instructions.vector.VectorInstr.{VectorInstr}
use Rattle.rv_model.specs.declared.instructions.vector.VectorInstr.TheVariants.{SetVli, SetIvli, SetVl, Arith, WholeMove, MaskToScalar, Extend, MaskUnary, ElementIndex, MoveToScalar, MoveToVector}
use Rattle.rv_model.specs.declared.instructions.operations.RegisterCount.{RegisterCount}
use Rattle.rv_model.specs.elements.Bodies.{is_arith_unmasked}
use Rattle.rv_model.specs.elements.Elements.{Body, is_active}
use Rattle.rv_model.specs.vector.Groups.{Configuration, element_count, vlmax, register_count, whole_type}
use Rattle.rv_model.specs.declared.vector.sizes.TheConstants.{VLENB}
pub use Rattle.recording.specs.declared.class.Class.{Class}
use Rattle.recording.specs.declared.class.Class.TheVariants as class
pub use Rattle.recording.specs.declared.class.Extent.{Extent}
use Rattle.recording.specs.declared.class.Extent.TheVariants as extent

-- ---- classes

-- x1 and x5 are the link registers, which have the return address of a call
abbrev pub is_link : ℕ → Bool
is_link register = register == 1 || register == 5

-- whether an instruction is a jump that links, or that returns through a link register
abbrev pub links : ScalarInstr → Bool
links (scalar.Jump rd imm) = is_link rd
links (scalar.JumpRegister rd rs1 imm) = is_link rd || is_link rs1
links _ = false

-- the class of a vector operation that neither loads nor stores
abbrev pub operation_class : VectorInstr → Class
operation_class (SetVli rd rs1 vtype) = class.Plain
operation_class (SetIvli rd avl vtype) = class.Plain
operation_class (SetVl rd rs1 rs2) = class.Plain
operation_class (Arith arith vd vs2 vm) = class.Length (is_arith_unmasked arith.0 vm)
operation_class (MaskToScalar op rd vs2 vm) = class.Length vm
operation_class (Extend op vd vs2 vm) = class.Length vm
operation_class (MaskUnary op vd vs2 vm) = class.Length vm
operation_class (ElementIndex vd vm) = class.Length vm
operation_class (WholeMove count vd vs2) = class.Other (extent.Registers count)
operation_class (MoveToScalar rd vs2) = class.Other extent.One
operation_class (MoveToVector vd rs1) = class.Other extent.First
operation_class _ = class.Length true

-- the class of a vector load or store, whose elements are its segments
abbrev pub access_class : AccessInstr → Class
access_class (UnitStride op width nf vd rs1 vm) = class.Length vm
access_class (Strided direction width nf vd rs1 rs2 vm) = class.Length vm
access_class (Indexed direction order width nf vd rs1 vs2 vm) = class.Length vm
access_class (WholeLoad count width vd rs1) = class.Other (extent.Elements (whole_length count width))
access_class (WholeStore count vd rs1) = class.Other (extent.Elements (register_count count * VLENB))
access_class (MaskAccess direction vd rs1) = class.Other extent.MaskBytes

-- the class of any word, by its instruction
abbrev pub class_of : Option Instr → Class
class_of (Some (instr.Scalar i)) = if links i then class.Link else class.Plain
class_of (Some (instr.Vector i)) = operation_class i
class_of (Some (instr.Access i)) = access_class i
class_of _ = class.Plain

-- whether a class has neither elements nor a link
abbrev pub is_plain : Class → Bool
is_plain class.Plain = true
is_plain k = false

-- ---- elements

-- whether all elements of the body are active
abbrev pub is_unmasked : Class → Bool
is_unmasked (class.Length unmasked) = unmasked
is_unmasked _ = true

-- VLMAX, or 0 with vill
abbrev pub most : Configuration → ℕ
most c = option_map_or vlmax c.vtype 0

-- the number of SEW elements in `count` registers, or 0 with vill
abbrev pub moved : RegisterCount → Configuration → ℕ
moved count c = option_map_or (λ t. element_count (whole_type t count)) c.vtype 0

-- the end of an extent's elements for a length: vl gives the end of the body, VLMAX the end of the tail
abbrev pub extent_end : Extent → ℕ → Configuration → ℕ → ℕ
extent_end extent.MaskBytes start c length = mask_length length
extent_end (extent.Elements count) start c length = count
extent_end (extent.Registers count) start c length = moved count c
extent_end extent.One start c length = 1
extent_end extent.First start c length = from_bool (nat_lt start c.vl)

-- the start of an extent's body
abbrev pub extent_start : Extent → ℕ → ℕ
extent_start extent.One start = 0
extent_start extent.First start = 0
extent_start e start = start

-- the end of a class's elements for a length
abbrev pub end_of : Class → ℕ → Configuration → ℕ → ℕ
end_of (class.Length unmasked) start c length = length
end_of (class.Other e) start c length = extent_end e start c length
end_of k start c length = 0

-- the start of the body
abbrev pub start_of : Class → ℕ → ℕ
start_of (class.Other e) start = extent_start e start
start_of k start = start

-- the end of the tail
abbrev pub tail_end : Class → ℕ → Configuration → ℕ
tail_end k start c = end_of k start c (most c)

-- the body, from the mask and vstart before the instruction and the configuration after it
abbrev pub body : Class → List ℕ → ℕ → Configuration → Body
body k mask start c = record { unmasked = is_unmasked k; mask = mask; start = start_of k start; end = end_of k start c c.vl }

-- the number of active elements of a body
abbrev pub active_count : Body → ℕ
active_count b = length (filter (is_active b) (range_with_len 0 b.end))
