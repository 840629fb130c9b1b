-- Operations, with operands and results of the same width, that SIMD instructions compute for the elements of 32 bytes.
use Rattle.std.specs.Prelude.{Bool, true, false}
use Rattle.rv_model.specs.declared.instructions.operations.BinaryOp.{BinaryOp}
use Rattle.rv_model.specs.declared.instructions.operations.BinaryOp.TheVariants.{Vdiv, Vdivu, Vmulh, Vmulhsu, Vmulhu, Vrem, Vremu}

abbrev pub is_simd : BinaryOp → Bool
is_simd Vdivu = false
is_simd Vdiv = false
is_simd Vremu = false
is_simd Vrem = false
is_simd Vmulhu = false
is_simd Vmulhsu = false
is_simd Vmulh = false
is_simd op = true
