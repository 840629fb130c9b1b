-- The step of an operation that needs a vector type.
use Rattle.std.proofs.Common.{◌≡◌, refl, true}
use Rattle.rv_model.specs.declared.instructions.vector.VectorInstr.{VectorInstr}
use Rattle.rv_model.specs.declared.instructions.vector.VectorInstr.TheVariants.{Arith, SetIvli, SetVl, SetVli}
use Rattle.rv_model.specs.step.Hart.{HartState}
use Rattle.rv_model.proofs.element_lemmas.Numbers.{extends_sign}
use Rattle.rv_model.specs.step.Step.{operation_step, typed, typed_step}
use Rattle.vec_unit.specs.Arithmetic.{is_typed}

pub by_type : (i : VectorInstr) (s : HartState) → is_typed i ≡ true
    → operation_step i s ≡ typed s.vector.conf.vtype (typed_step i) s
unfolding operation_step
by_type (SetVli rd rs1 vtype) s h = absurd (cc)
by_type (SetIvli rd avl vtype) s h = absurd (cc)
by_type (SetVl rd rs1 rs2) s h = absurd (cc)
by_type (Arith arith vd vs2 vm) s h = absurd (cc)
by_type _ s h = refl

-- the number that a move of element 0 to a scalar register writes, for the tactics
pub ruleset signs = (extends_sign)
