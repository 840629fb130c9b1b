-- The transfer of an indexed load or store: its segments and its offsets have room, and its access is that of the instruction.
use Rattle.std.proofs.Common.{◌≡◌, ◌∙◌, ℕ, ◌≤◌, Bool, true, false, [], Some, ap, cond, refl, sym}
use Rattle.std.specs.Prelude.{IfSome}
use Rattle.std.specs.Option.{option_map_or}
use Rattle.rv_model.specs.accesses.AccessRuns.{access_run, run_or_nothing}
use Rattle.rv_model.specs.accesses.VectorAccess.{VectorAccess, access_of, is_first_only, unit_direction}
use Rattle.rv_model.specs.declared.instructions.access.AccessInstr.{AccessInstr}
use Rattle.rv_model.specs.declared.instructions.access.AccessInstr.TheVariants.{Indexed}
use Rattle.rv_model.specs.declared.instructions.instruction.Instr.TheVariants as instr
use Rattle.rv_model.specs.declared.instructions.operations.UnitOp.{UnitOp}
use Rattle.rv_model.specs.declared.instructions.operations.UnitOp.TheVariants as unit
use Rattle.rv_model.specs.declared.scalar.Scalar.{Scalar}
use Rattle.rv_model.specs.declared.vector.state.VState.{VState}
use Rattle.rv_model.specs.declared.vector.types.VType.{VType}
use Rattle.rv_model.specs.elements.Arithmetic.{body_of}
use Rattle.rv_model.specs.legality.Legality.{is_legal}
use Rattle.rv_model.specs.memory.Memory.{Memory}
use Rattle.rv_model.specs.vector.Groups.{vlmax}
use Rattle.rv_model.proofs.legality_lemmas.Accesses.{indexed_inside}
use Rattle.vector_memory.specs.MovedElements.{elements_before, moved_elements}
use Rattle.vector_memory.specs.Offsets.{OffsetsFit, indexed_of, moved_at, offset_addresses}
use Rattle.vector_memory.specs.Runs.{segments_run}
use Rattle.vector_memory.specs.declared.indexed.IndexedTransfer.{IndexedTransfer}
use Rattle.vector_memory.proofs.Room.{element_most}
use Rattle.vector_memory.proofs.ShownElements.{operation_elements}
use Rattle.vector_memory.proofs.Transferred.{not_first_only}

no_fault_only_first : (op : UnitOp) → (op ≡ unit.FaultOnlyFirst → ⊥) → is_first_only op ≡ false
no_fault_only_first unit.FaultOnlyFirst h = absurd (h refl)
no_fault_only_first unit.Load h = refl
no_fault_only_first unit.Store h = refl

pub offsets_fit : (i : AccessInstr) (k : VType) (v : VState) (x : Scalar) → is_legal (instr.Access i) (Some k) v.vstart ≡ true → v.conf.vl ≤ vlmax k
    → IfSome (indexed_of i k x) (λ t. t.segments.fields ≤ 8 → OffsetsFit v t)
offsets_fit (Indexed d order width nf vd rs1 vs2 vm) k v x legal length =
    let inside = indexed_inside d order width nf vd rs1 vs2 vm k v.vstart v.conf.vl legal length in
    λ fields. record {
      op = λ h. not_first_only d h;
      room = record { fields = fields; size = element_most k.sew; inside = inside.fields.inside; room = inside.fields.holds.room };
      inside = inside.indices.inside;
      offsets = inside.indices.room;
    }
offsets_fit _ k v x legal length = tt

module _ (v : VState) (x : Scalar) (t : IndexedTransfer) where
  pub offset_runs : (i : AccessInstr) (limit : ℕ) (fill : Bool) (m : Memory) → access_of i v x ≡ Some (moved_at t v)
      → access_run limit fill i v x m ≡ segments_run t.op limit fill t.segments (body_of t.unmasked v) (offset_addresses t v) v m
  unfolding access_run
  offset_runs i limit fill m is = ap (λ o. run_or_nothing limit fill o v m) is

  pub offset_elements : (i : AccessInstr) (left : ℕ) → access_of i v x ≡ Some (moved_at t v) → (t.op ≡ unit.FaultOnlyFirst → ⊥)
      → elements_before (unit_direction t.op) t.segments (body_of t.unmasked v) (offset_addresses t v) v.file v.conf.vl
      ≡ option_map_or (moved_elements v left) (access_of i v x) []
  offset_elements i left is op =
      let a : VectorAccess = moved_at t v in
      ap (λ (b : Bool). elements_before (unit_direction t.op) t.segments a.body a.address v.file (cond b left v.conf.vl)) (sym (no_fault_only_first t.op op))
      ∙ sym (operation_elements t.op t.segments a.body a.address v left)
      ∙ sym (ap (λ o. option_map_or (moved_elements v left) o []) is)
