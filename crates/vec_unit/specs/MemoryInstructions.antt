-- The elements that vector loads and stores fill with ones ("V" Vector Extension 1.0, sections 3.4.3 and 5.4).
use Rattle.std.specs.Prelude.{ℕ, ◌+◌, ◌&&◌, Bool, true, false, List, Option, Some, None, if◌then◌else◌}
use Rattle.std.specs.Option.{option_map_or}
use Rattle.rv_model.specs.declared.instructions.access.AccessInstr.{AccessInstr}
use Rattle.rv_model.specs.declared.instructions.access.AccessInstr.TheVariants.{UnitStride, Strided, Indexed, WholeLoad, WholeStore, MaskAccess}
use Rattle.rv_model.specs.declared.instructions.operations.Direction.{Direction}
use Rattle.rv_model.specs.declared.instructions.operations.Direction.TheVariants.{Load, Store}
use Rattle.rv_model.specs.declared.step.memory_end.MemEnd.{MemEnd}
use Rattle.rv_model.specs.declared.step.memory_end.MemEnd.TheVariants.{Done}
use Rattle.rv_model.specs.declared.vector.policy.Policy.{Policy}
use Rattle.rv_model.specs.declared.vector.state.VState.{VState}
use Rattle.rv_model.specs.declared.vector.types.Sew.{Sew}
use Rattle.rv_model.specs.declared.vector.types.VType.{VType}
use Rattle.rv_model.specs.accesses.VectorAccess.{unit_direction}
use Rattle.rv_model.specs.elements.Arithmetic.{body_of, fills_masked_off, fills_tail}
use Rattle.rv_model.specs.step.MemoryStep.{reads_memory, tails_filled}
use Rattle.rv_model.specs.lending.GroupBounds.{emul}
use Rattle.rv_model.specs.vector.Groups.{GroupType, element_width, sew_bits, sew_width}
use Rattle.vec_unit.specs.declared.memory_instructions.Filled.{Filled}
use Rattle.vec_unit.specs.declared.tails.Fields.{Fields}

abbrev pub direction_of : AccessInstr → Direction
direction_of (UnitStride op width nf vd rs1 vm) = unit_direction op
direction_of (Strided direction width nf vd rs1 rs2 vm) = direction
direction_of (Indexed direction order width nf vd rs1 vs2 vm) = direction
direction_of (WholeLoad count width vd rs1) = Load
direction_of (WholeStore count vd rs1) = Store
direction_of (MaskAccess direction vd rs1) = direction

abbrev pub is_unmasked : AccessInstr → Bool
is_unmasked (UnitStride op width nf vd rs1 vm) = vm
is_unmasked (Strided direction width nf vd rs1 rs2 vm) = vm
is_unmasked (Indexed direction order width nf vd rs1 vs2 vm) = vm
is_unmasked _ = true

-- the fields of segments with elements of SEW `sew`, under a vector type
abbrev fields_of : ℕ → ℕ → Sew → VType → Fields
fields_of nf vd sew t = record { vd = vd; nf = nf; sew = sew; emul = emul (sew_bits sew) t }

-- the fields of an access whose tails are filled, if there are any
abbrev pub tail_fields : AccessInstr → VType → Option Fields
tail_fields (UnitStride op width nf vd rs1 vm) t = Some (fields_of nf vd (element_width width) t)
tail_fields (Strided direction width nf vd rs1 rs2 vm) t = Some (fields_of nf vd (element_width width) t)
tail_fields (Indexed direction order width nf vd rs1 vs2 vm) t = Some (fields_of nf vd t.sew t)
tail_fields _ t = None

abbrev pub groups_of : Fields → GroupType
groups_of f = record { width = sew_width f.sew; emul = f.emul }

-- the elements that an access fills under a policy and a vector type
abbrev pub filled_under : AccessInstr → Policy → VState → VType → Filled
filled_under i policy v t =
    let body = body_of (is_unmasked i) v in
    record {
      masked_off = fills_masked_off policy t body;
      tails = if fills_tail policy t body && reads_memory (direction_of i) then tail_fields i t else None;
    }

abbrev pub nothing : Filled
nothing = record { masked_off = false; tails = None }

-- the same under the state's vector type; nothing if there is none
abbrev pub filled_by : AccessInstr → Policy → VState → Filled
filled_by i policy v = option_map_or (filled_under i policy v) v.conf.vtype nothing

-- the registers after an access: if it is complete, these tails are filled from element vl on
abbrev pub with_filled : Option Fields → ℕ → MemEnd → List ℕ → List ℕ
with_filled (Some f) vl Done file = tails_filled (groups_of f) f.vd (f.nf + 1) vl file
with_filled _ vl end file = file
