-- The transfer of a load or store at a constant distance: its segments have room, and its run is that of the instruction.
use Rattle.std.specs.Prelude.{IfSome, Option, Some, None}
use Rattle.std.specs.Option.{option_map}
use Rattle.std.proofs.Common.{◌≡◌, ℕ, ◌+◌, ◌*◌, ◌<◌, ◌≤◌, ◌%◌, ◌^◌, Bool, true, false, refl, sym, ap, ◌∙◌, subst, arith}
use Rattle.rv_model.specs.declared.instructions.instruction.Instr.TheVariants as instr
use Rattle.rv_model.specs.declared.instructions.access.AccessInstr.{AccessInstr}
use Rattle.rv_model.specs.declared.instructions.access.AccessInstr.TheVariants.{UnitStride, Strided, Indexed, WholeLoad, WholeStore, MaskAccess}
use Rattle.rv_model.specs.declared.instructions.operations.Direction.{Direction}
use Rattle.rv_model.specs.declared.instructions.operations.Direction.TheVariants as direction
use Rattle.rv_model.specs.declared.instructions.operations.RegisterCount.{RegisterCount}
use Rattle.rv_model.specs.declared.instructions.operations.RegisterCount.TheVariants.{One}
use Rattle.rv_model.specs.declared.instructions.operations.UnitOp.{UnitOp}
use Rattle.rv_model.specs.declared.instructions.operations.UnitOp.TheVariants as unit
use Rattle.rv_model.specs.declared.instructions.operations.Eew.{Eew}
use Rattle.rv_model.specs.declared.instructions.operations.Eew.TheVariants.{E8}
use Rattle.rv_model.specs.declared.scalar.Scalar.{Scalar}
use Rattle.rv_model.specs.declared.step.memory_end.MemEnd.TheVariants.{Done}
use Rattle.rv_model.specs.declared.vector.sizes.TheConstants.{GROUP_BYTES, VECTOR_REGISTERS, VLENB}
use Rattle.rv_model.specs.declared.vector.state.VState.{VState}
use Rattle.rv_model.specs.declared.vector.types.VType.{VType}
use Rattle.rv_model.specs.accesses.AccessRuns.{access_run, run_or_nothing, runs_to}
use Rattle.rv_model.specs.accesses.VectorAccess.{VectorAccess, access_of, is_first_only, mask_length, segments, unit_direction, unmasked_access, whole_length}
use Rattle.rv_model.specs.vector.Groups.{access_type, register_count, IsConfiguration, element_width}
use Rattle.rv_model.specs.lending.GroupBounds.{SegmentsInside}
use Rattle.rv_model.specs.legality.Legality.{is_legal, operands}
use Rattle.rv_model.specs.memory.Memory.{Memory}
use Rattle.rv_model.specs.scalar.Registers.{read_register}
use Rattle.rv_model.proofs.vector_lemmas.Lengths.{IsLength}
use Rattle.rv_model.proofs.legality_lemmas.Accesses.{mask_memory_inside, strided_inside, unit_inside, whole_load_inside, whole_store_inside}
use Rattle.rv_model.proofs.legality_lemmas.Bounds.{configuration_below, fewer}
use Rattle.vector_memory.specs.AccessKinds.{is_offset_access}
use Rattle.vector_memory.specs.Distances.{Fits, grouped, moved_by, operation, transfer_of, transfer_run}
use Rattle.vector_memory.specs.declared.addresses.Strided.{Strided as StridedAddresses}
use Rattle.vector_memory.specs.declared.transfers.Transfer.{Transfer}
use Rattle.vector_memory.proofs.Room.{element_most, whole_room}
use Rattle.vector_memory.proofs.Strides.{strides}

-- an access in a direction is that of the unit-stride operation in this direction
pub directed : (d : Direction) (a : VectorAccess)
    → ◌≡◌ {A = VectorAccess} (record a { direction = d; first_only = false })
    (record a { direction = unit_direction (operation d); first_only = is_first_only (operation d) })
directed direction.Load a = refl
directed direction.Store a = refl

pub not_first_only : (d : Direction) {P : Type 0} → operation d ≡ unit.FaultOnlyFirst → P
not_first_only direction.Load h = absurd (cc)
not_first_only direction.Store h = absurd (cc)

-- ---- segments in groups of the vector type

-- the access of an instruction is that of its transfer, if it has a transfer
abbrev IsMoved : AccessInstr → VState → Option Transfer → Option VectorAccess → Type 0
IsMoved i v None a = is_offset_access i ≡ false → a ≡ None
IsMoved i v (Some t) a = t.addresses.stride < 2 ^ 64 → a ≡ Some (moved_by t v)

abbrev AreFit : VState → Option Transfer → Type 0
AreFit v o = IfSome o (λ t. t.segments.fields ≤ 8 → Fits v t)

module _ (op : UnitOp) (width : Eew) (nf vd : ℕ) (addresses : StridedAddresses) (unmasked : Bool) (v : VState) where
  grouped_fits : (u : Option VType) → ((k : VType) → u ≡ Some k → SegmentsInside (access_type k width) vd nf v.conf.vl) → AreFit v (grouped op width nf vd addresses unmasked v u)
  grouped_fits None inside = tt
  grouped_fits (Some k) inside = λ fields. let room = inside k refl in record {
    room = record { fields = fields; size = element_most (element_width width); inside = room.inside; room = room.holds.room };
    count = room.holds.least;
    length = λ h. refl;
  }

  -- the access of the instruction under a vector type
  abbrev grouped_access : VType → VectorAccess
  grouped_access k =
      record (segments (unit_direction op) (access_type k width) nf vd unmasked (λ i. (addresses.base + i * addresses.stride) % 2 ^ 64) v) {
        first_only = is_first_only op;
      }

  grouped_is : (i : AccessInstr) (u : Option VType) (each : VType → VectorAccess) → ((k : VType) → addresses.stride < 2 ^ 64 → each k ≡ grouped_access k)
      → IsMoved i v (grouped op width nf vd addresses unmasked v u) (option_map each u)
  grouped_is i None each h = λ no. refl
  grouped_is i (Some k) each h = λ small. ap Some (h k small)

-- a length for an optional vector type is one for the type, if there is a type
under_type : (u : Option VType) (vl : ℕ) (k : VType) → IsLength u vl → u ≡ Some k → IsLength (Some k) vl
under_type u vl k h is = subst (λ x. IsLength x vl) is h

-- ---- each instruction

store_length : (count : RegisterCount) → whole_length count E8 ≡ register_count count * VLENB
store_length One = refl
store_length _ = refl

most_registers : (count : RegisterCount) → register_count count ≤ 8
most_registers One = omega arith
most_registers _ = omega arith

whole_most : (count : RegisterCount) (width : Eew) → whole_length count width ≤ GROUP_BYTES
whole_most count width = omega (arith, fewer (element_width width) (register_count count * VLENB), most_registers count)

mask_inside : (d : Direction) (vd rs1 : ℕ) (u : Option VType) (vstart : ℕ) → is_legal (instr.Access (MaskAccess d vd rs1)) u vstart ≡ true → vd + 1 ≤ VECTOR_REGISTERS
unfolding is_legal operands
mask_inside d vd rs1 None vstart h = absurd (cc)
mask_inside d vd rs1 (Some k) vstart h = mask_memory_inside d vd rs1 k vstart h

-- a legal load or store of a mask has a vector type
mask_some : (d : Direction) (vd rs1 : ℕ) (u : Option VType) (vstart : ℕ) (a : VectorAccess)
    → is_legal (instr.Access (MaskAccess d vd rs1)) u vstart ≡ true → option_map (λ (k : VType). a) u ≡ Some a
unfolding is_legal operands
mask_some d vd rs1 None vstart a h = absurd (cc)
mask_some d vd rs1 (Some k) vstart a h = refl

module _ (v : VState) (x : Scalar) where
  each_fits : (i : AccessInstr) → is_legal (instr.Access i) v.conf.vtype v.vstart ≡ true → IsConfiguration v.conf → AreFit v (transfer_of i v x)
  each_fits (UnitStride op width nf vd rs1 vm) legal configured =
      grouped_fits op width nf vd _ vm v v.conf.vtype
      (λ k typed. unit_inside op width nf vd rs1 vm k v.vstart v.conf.vl
      (subst (λ u. is_legal (instr.Access (UnitStride op width nf vd rs1 vm)) u v.vstart ≡ true) typed legal)
      (under_type v.conf.vtype v.conf.vl k configured typed).1)
  each_fits (Strided d width nf vd rs1 rs2 vm) legal configured =
      grouped_fits (operation d) width nf vd _ vm v v.conf.vtype
      (λ k typed. strided_inside d width nf vd rs1 rs2 vm k v.vstart v.conf.vl
      (subst (λ u. is_legal (instr.Access (Strided d width nf vd rs1 rs2 vm)) u v.vstart ≡ true) typed legal)
      (under_type v.conf.vtype v.conf.vl k configured typed).1)
  each_fits (Indexed d order width nf vd rs1 vs2 vm) legal configured = tt
  each_fits (WholeLoad count width vd rs1) legal configured = λ fields. record {
    room = whole_room _ count width vd (whole_load_inside count width vd rs1 v.conf.vtype v.vstart legal) refl;
    count = whole_most count width;
    length = λ h. absurd (cc);
  }
  each_fits (WholeStore count vd rs1) legal configured = λ fields. record {
    room = whole_room _ count E8 vd (whole_store_inside count vd rs1 v.conf.vtype v.vstart legal) refl;
    count = whole_most count E8;
    length = λ h. absurd (cc);
  }
  each_fits (MaskAccess d vd rs1) legal configured = let below = configuration_below v.conf configured in λ fields. record {
    room = record { fields = omega arith; size = omega arith; inside = omega (arith, mask_inside d vd rs1 v.conf.vtype v.vstart legal); room = omega (arith, below) };
    count = omega (arith, below);
    length = λ h. not_first_only d h;
  }

  each_moved : (i : AccessInstr) → is_legal (instr.Access i) v.conf.vtype v.vstart ≡ true → IsMoved i v (transfer_of i v x) (access_of i v x)
  each_moved (UnitStride op width nf vd rs1 vm) legal = grouped_is op width nf vd _ vm v (UnitStride op width nf vd rs1 vm) v.conf.vtype _ (λ k small. refl)
  each_moved (Strided d width nf vd rs1 rs2 vm) legal =
      grouped_is (operation d) width nf vd _ vm v (Strided d width nf vd rs1 rs2 vm) v.conf.vtype _ (λ k small.
      ap (λ f. segments d (access_type k width) nf vd vm f v) (sym (strides (read_register x rs1) (read_register x rs2) small))
      ∙ directed d (segments d (access_type k width) nf vd vm (λ i. (read_register x rs1 + i * read_register x rs2) % 2 ^ 64) v))
  each_moved (Indexed d order width nf vd rs1 vs2 vm) legal = λ no. absurd (cc)
  each_moved (WholeLoad count width vd rs1) legal = λ small. refl
  each_moved (WholeStore count vd rs1) legal = λ small. ap (λ n. Some (unmasked_access direction.Store n 1 (register_count count) vd rs1 v x)) (sym (store_length count))
  each_moved (MaskAccess d vd rs1) legal =
      let a = unmasked_access d (mask_length v.conf.vl) 1 1 vd rs1 v x in
      λ small. mask_some d vd rs1 v.conf.vtype v.vstart a legal ∙ ap Some (directed d a)

  pub fits : (t : Transfer) (i : AccessInstr) → transfer_of i v x ≡ Some t → is_legal (instr.Access i) v.conf.vtype v.vstart ≡ true
      → IsConfiguration v.conf → t.segments.fields ≤ 8 → Fits v t
  fits t i is legal configured = subst (AreFit v) is (each_fits i legal configured)

  pub access_is : (t : Transfer) (i : AccessInstr) → transfer_of i v x ≡ Some t
      → is_legal (instr.Access i) v.conf.vtype v.vstart ≡ true → t.addresses.stride < 2 ^ 64 → access_of i v x ≡ Some (moved_by t v)
  access_is t i is legal = subst (λ o. IsMoved i v o (access_of i v x)) is (each_moved i legal)

  pub runs : (t : Transfer) (i : AccessInstr) (limit : ℕ) (fill : Bool) (m : Memory) → transfer_of i v x ≡ Some t
      → is_legal (instr.Access i) v.conf.vtype v.vstart ≡ true → t.addresses.stride < 2 ^ 64
      → access_run limit fill i v x m ≡ transfer_run limit fill t v m
  unfolding access_run
  runs t i limit fill m is legal small = ap (λ o. run_or_nothing limit fill o v m) (access_is t i is legal small)

  pub transfers_nothing : (i : AccessInstr) (limit : ℕ) (fill : Bool) (m : Memory) → transfer_of i v x ≡ None
      → is_legal (instr.Access i) v.conf.vtype v.vstart ≡ true → is_offset_access i ≡ false → access_run limit fill i v x m ≡ runs_to Done (v.vstart + 1) v m
  unfolding access_run
  transfers_nothing i limit fill m is legal strided =
      ap (λ o. run_or_nothing limit fill o v m) (subst (λ o. IsMoved i v o (access_of i v x)) is (each_moved i legal) strided)
