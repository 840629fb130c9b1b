-- The elements that a vector operation other than a load or store processes: its body, and whether the mask v0 selects from it. See "V"
-- Vector Extension 1.0, sections 5.3, 5.4, 11.4, 11.8, 15, 16.1 and 16.6. The step definition and the counts of elements both use these
-- definitions.
use Rattle.std.specs.Prelude.{nat_lt, Bool, true}
use Rattle.std.specs.Int.{from_bool}
use Rattle.rv_model.specs.declared.instructions.operations.VectorOp.{VectorOp}
use Rattle.rv_model.specs.declared.instructions.operations.VectorOp.TheVariants.{CarryOut}
use Rattle.rv_model.specs.declared.instructions.vector.VectorInstr.{VectorInstr}
use Rattle.rv_model.specs.declared.instructions.vector.VectorInstr.TheVariants.{Arith, MaskToScalar, Extend, MaskUnary, ElementIndex, MoveToScalar, MoveToVector, WholeMove}
use Rattle.rv_model.specs.declared.vector.state.VState.{VState}
use Rattle.rv_model.specs.elements.Arithmetic.{body_of}
use Rattle.rv_model.specs.elements.Elements.{Body}
use Rattle.rv_model.specs.vector.Groups.{GroupType, element_count, whole_type}
use Rattle.rv_model.specs.vector.Types.{VType}

-- whether an operation of the funct6 table processes every element of its body; vm is the encoded bit. Carries and borrows always do: they
-- read v0 as an operand, not as a mask.
abbrev pub is_arith_unmasked : VectorOp → Bool → Bool
is_arith_unmasked (CarryOut op) vm = true
is_arith_unmasked _ vm = vm

-- the same for any operation; those without a vm bit are never masked
abbrev pub is_unmasked : VectorInstr → Bool
is_unmasked (Arith arith vd vs2 vm) = is_arith_unmasked arith.0 vm
is_unmasked (MaskToScalar op rd vs2 vm) = vm
is_unmasked (Extend op vd vs2 vm) = vm
is_unmasked (MaskUnary op vd vs2 vm) = vm
is_unmasked (ElementIndex vd vm) = vm
is_unmasked _ = true

-- the elements of whole registers from vstart on, independent of vl
abbrev pub whole_body : GroupType → VState → Body
whole_body g v = record (body_of true v) { end = element_count g }

-- the body of an operation under a vector type
abbrev pub operation_body : VectorInstr → VType → VState → Body
operation_body (WholeMove count vd vs2) t v = whole_body (whole_type t count) v
operation_body i t v = body_of (is_unmasked i) v

-- the elements to count for an operation: its body, except for two moves. vmv.x.s reads element 0, independent of vstart and vl. vmv.s.x
-- writes element 0 if vstart < vl, and otherwise nothing.
abbrev pub counted_body : VectorInstr → VType → VState → Body
counted_body (MoveToScalar rd vs2) t v = record (body_of true v) { start = 0; end = 1 }
counted_body (MoveToVector vd rs1) t v = record (body_of true v) { start = 0; end = from_bool (nat_lt v.vstart v.conf.vl) }
counted_body i t v = operation_body i t v
