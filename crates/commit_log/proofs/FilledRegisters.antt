-- The registers that a load or store writes are those that its segments fill.
use Rattle.std.proofs.Common.{◌≡◌, refl, sym, ℕ, ◌+◌, ◌*◌, ◌==◌, Bool, List, [], ◌∷◌, append-nil, if◌then◌else◌, Option, Some, None}
use Rattle.std.specs.Option.{option_map, option_map_or}
use Rattle.rv_model.specs.accesses.VectorAccess.{VectorAccess, access_of, indexed_access, mask_length, strided_access, unit_access, unmasked_access}
use Rattle.rv_model.specs.declared.instructions.access.AccessInstr.{AccessInstr}
use Rattle.rv_model.specs.declared.instructions.access.AccessInstr.TheVariants.{UnitStride, Strided, Indexed, WholeLoad, WholeStore, MaskAccess}
use Rattle.rv_model.specs.declared.instructions.instruction.Instr.TheVariants as instr
use Rattle.rv_model.specs.declared.instructions.operations.Direction.{Direction}
use Rattle.rv_model.specs.declared.instructions.operations.Direction.TheVariants as direction
use Rattle.rv_model.specs.declared.instructions.operations.Eew.{Eew}
use Rattle.rv_model.specs.declared.instructions.operations.Order.{Order}
use Rattle.rv_model.specs.declared.instructions.operations.RegisterCount.{RegisterCount}
use Rattle.rv_model.specs.declared.instructions.operations.RegisterCount.TheVariants.{One}
use Rattle.rv_model.specs.declared.instructions.operations.UnitOp.{UnitOp}
use Rattle.rv_model.specs.declared.instructions.operations.UnitOp.TheVariants as unit
use Rattle.rv_model.specs.declared.legality.Role.{Role}
use Rattle.rv_model.specs.declared.legality.Role.TheVariants.{Apart, Read, Write}
use Rattle.rv_model.specs.declared.scalar.Scalar.{Scalar}
use Rattle.rv_model.specs.declared.vector.state.VState.{VState}
use Rattle.rv_model.specs.declared.vector.types.VType.{VType}
use Rattle.rv_model.specs.legality.Legality.{operands}
use Rattle.rv_model.specs.legality.OperandShapes.{field_groups, group, v0}
use Rattle.rv_model.specs.step.MemoryStep.{reads_memory}
use Rattle.rv_model.specs.vector.Groups.{access_type, group_type, register_count, registers}
use Rattle.rv_model.proofs.Choices.{of_either}
use Rattle.commit_log.specs.Targets.{registers_from, vector_targets}
use Rattle.commit_log.proofs.Destinations.{alone_written, mask_written, written as written_of}

-- the registers that an access fills; none for a store
abbrev pub filled : VectorAccess → List ℕ
filled a = if reads_memory a.direction then registers_from a.register (a.fields * a.field_registers) else []

module _ (v : VState) (x : Scalar) where
  pub unit_filled : (op : UnitOp) (w : Eew) (nf vd rs1 : ℕ) (vm : Bool) (t : VType)
      → vector_targets (instr.Access (UnitStride op w nf vd rs1 vm)) (Some t) ≡ filled (unit_access op (access_type t w) nf vd rs1 vm v x)
  unfolding operands
  unit_filled unit.Store w nf vd rs1 vm t = mask_written vm
  unit_filled _ w nf vd rs1 vm t = alone_written _ _ (mask_written vm)

  pub strided_filled : (d : Direction) (w : Eew) (nf vd rs1 rs2 : ℕ) (vm : Bool) (t : VType)
      → vector_targets (instr.Access (Strided d w nf vd rs1 rs2 vm)) (Some t) ≡ filled (strided_access d (access_type t w) nf vd rs1 rs2 vm v x)
  unfolding operands
  strided_filled direction.Store w nf vd rs1 rs2 vm t = mask_written vm
  strided_filled direction.Load w nf vd rs1 rs2 vm t = alone_written _ _ (mask_written vm)

  pub indexed_filled : (d : Direction) (order : Order) (w : Eew) (nf vd rs1 vs2 : ℕ) (vm : Bool) (t : VType)
      → vector_targets (instr.Access (Indexed d order w nf vd rs1 vs2 vm)) (Some t) ≡ filled (indexed_access d (group_type t) (access_type t w) nf vd rs1 vs2 vm v x)
  unfolding operands
  indexed_filled direction.Store order w nf vd rs1 vs2 vm t = mask_written vm
  indexed_filled direction.Load order w nf vd rs1 vs2 vm t =
      of_either (λ (role : Role). written_of (field_groups role (nf + 1) vd (group_type t) ∷ group Read vs2 (access_type t w) ∷ v0 vm) ≡ registers_from vd ((nf + 1) * registers (group_type t).emul))
      (nf == 0) Write Apart (alone_written _ _ (mask_written vm)) (alone_written _ _ (mask_written vm))

  whole_filled : (count : RegisterCount) (w : Eew) (vd rs1 : ℕ) (o : Option VType)
      → vector_targets (instr.Access (WholeLoad count w vd rs1)) o ≡ registers_from vd (1 * register_count count)
  unfolding operands
  whole_filled One w vd rs1 o = append-nil _
  whole_filled _ w vd rs1 o = append-nil _

  pub whole_group : (count : RegisterCount) (w : Eew) (vd rs1 : ℕ) (o : Option VType)
      → registers_from vd (1 * registers (8 * register_count count)) ≡ vector_targets (instr.Access (WholeLoad count w vd rs1)) o
  unfolding operands
  whole_group count w vd rs1 o = sym (append-nil _)

  pub mask_filled : (d : Direction) (vd rs1 : ℕ) (t : VType)
      → vector_targets (instr.Access (MaskAccess d vd rs1)) (Some t) ≡ filled (unmasked_access d (mask_length v.conf.vl) 1 1 vd rs1 v x)
  unfolding operands
  mask_filled direction.Store vd rs1 t = refl
  mask_filled direction.Load vd rs1 t = append-nil _

  -- the registers under a vector type; none without one
  typed : (i : AccessInstr) (o : Option VType) (make : VType → VectorAccess) → ((t : VType) → vector_targets (instr.Access i) (Some t) ≡ filled (make t))
      → vector_targets (instr.Access i) None ≡ [] → vector_targets (instr.Access i) o ≡ option_map_or filled (option_map make o) []
  typed i None make each none = none
  typed i (Some t) make each none = each t

  pub filled_are : (i : AccessInstr) → vector_targets (instr.Access i) v.conf.vtype ≡ option_map_or filled (access_of i v x) []
  unfolding operands
  filled_are (UnitStride op w nf vd rs1 vm) = typed (UnitStride op w nf vd rs1 vm) v.conf.vtype _ (unit_filled op w nf vd rs1 vm) refl
  filled_are (Strided d w nf vd rs1 rs2 vm) = typed (Strided d w nf vd rs1 rs2 vm) v.conf.vtype _ (strided_filled d w nf vd rs1 rs2 vm) refl
  filled_are (Indexed d order w nf vd rs1 vs2 vm) = typed (Indexed d order w nf vd rs1 vs2 vm) v.conf.vtype _ (indexed_filled d order w nf vd rs1 vs2 vm) refl
  filled_are (WholeLoad count w vd rs1) = whole_filled count w vd rs1 v.conf.vtype
  filled_are (WholeStore count vd rs1) = refl
  filled_are (MaskAccess d vd rs1) = typed (MaskAccess d vd rs1) v.conf.vtype _ (mask_filled d vd rs1) refl
