-- Vector instructions outside the manual's table of funct6 operations ("V" Vector Extension 1.0, chapter 19).
use Rattle.std.specs.Prelude.{Bool, true, false}
use Rattle.rv_model.specs.declared.instructions.vector.VectorInstr.{VectorInstr}
use Rattle.rv_model.specs.declared.instructions.vector.VectorInstr.TheVariants.{Arith}

abbrev pub is_other_operation : VectorInstr → Bool
is_other_operation (Arith arith vd vs2 vm) = false
is_other_operation _ = true
