-- Numbers of elements of whole registers
use Rattle.std.proofs.Common.{◌≤◌, lit≤}
use Rattle.rv_model.specs.declared.instructions.operations.RegisterCount.{RegisterCount}
use Rattle.rv_model.specs.declared.instructions.operations.RegisterCount.TheVariants.{One}
use Rattle.rv_model.specs.declared.instructions.operations.Eew.{Eew}
use Rattle.rv_model.specs.declared.instructions.operations.Eew.TheVariants as width
use Rattle.rv_model.specs.accesses.VectorAccess.{whole_length}

pub whole_length_below : (count : RegisterCount) (w : Eew) → whole_length count w ≤ 65535
whole_length_below One width.E8 = lit≤ tt
whole_length_below _ width.E8 = lit≤ tt
whole_length_below _ _ = lit≤ tt
