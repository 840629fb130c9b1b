-- An instruction and its variants, one for each layout of the operands, for the files of this module and of the modules that depend on it.
pub use Rattle.rv_model.specs.declared.instructions.instruction.Instr.{Instr}
pub use Rattle.rv_model.specs.declared.instructions.scalar.ScalarInstr.TheVariants.{Upper, Jump, JumpRegister, Branch, Load, Store, RegisterImmediate, ShiftImmediate, ShiftImmediateWord, RegisterRegister, Fence, System}
pub use Rattle.rv_model.specs.declared.instructions.csr.CsrInstr.TheVariants.{Register, Immediate}
pub use Rattle.rv_model.specs.declared.instructions.vector.VectorInstr.TheVariants.{SetVli, SetIvli, SetVl, Arith, Carry, Move, WholeMove, MaskLogic, Compress, MaskToScalar, Extend, MaskUnary, ElementIndex, MoveToScalar, MoveToVector}
pub use Rattle.rv_model.specs.declared.instructions.access.AccessInstr.TheVariants.{UnitStride, Strided, Indexed, WholeLoad, WholeStore, MaskAccess}
