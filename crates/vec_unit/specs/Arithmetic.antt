-- Operations by the function that executes them ("V" Vector Extension 1.0, chapter 11).
use Rattle.std.specs.Prelude.{Bool, true, false}
use Rattle.rv_model.specs.declared.instructions.vector.VectorInstr.{VectorInstr}
use Rattle.rv_model.specs.declared.instructions.vector.VectorInstr.TheVariants.{Arith, SetIvli, SetVl, SetVli}
use Rattle.rv_model.specs.declared.instructions.operations.VectorOp.{VectorOp}
use Rattle.rv_model.specs.declared.instructions.operations.VectorOp.TheVariants.{Binary}

-- operations outside of the funct6 table that need a vector type: all except those that set it
abbrev pub is_typed : VectorInstr → Bool
is_typed (SetVli rd rs1 vtype) = false
is_typed (SetIvli rd avl vtype) = false
is_typed (SetVl rd rs1 rs2) = false
is_typed (Arith arith vd vs2 vm) = false
is_typed _ = true

-- an operation on two operands whose elements and results have the same width
abbrev pub is_binary : VectorOp → Bool
is_binary (Binary op) = true
is_binary op = false
