-- A line gives the vector registers of a load or store: a load changes only those of its destination, and a store none.
use Rattle.std.proofs.Common.{◌≡◌, ◌∙◌, inl, inr, ap, refl, sym, subst, ℕ, ◌+◌, ◌*◌, ◌-◌, ◌/◌, ◌<◌, ◌≤◌, ◌&&◌, Bool, true, false, cond, List, [], length, Option, Some, None, arith}
use Rattle.std.specs.Prelude.{All, IfSome, nat_le}
use Rattle.std.specs.Option.{option_and_then, option_map, option_map_or}
use Rattle.std.proofs.Math.Nat.{mul-le-mul_right, mul_comm}
use Rattle.std.proofs.lemmas.List.Elements.{All-from_recursion, All-weaker}
use Rattle.std.proofs.lemmas.Nat.{row_fits}
use Rattle.rv_model.specs.declared.instructions.access.AccessInstr.{AccessInstr}
use Rattle.rv_model.specs.declared.instructions.access.AccessInstr.TheVariants.{UnitStride, Strided, Indexed, WholeLoad, WholeStore, MaskAccess}
use Rattle.rv_model.specs.declared.instructions.instruction.Instr.TheVariants as instr
use Rattle.rv_model.specs.declared.instructions.operations.Direction.{Direction}
use Rattle.rv_model.specs.declared.instructions.operations.Direction.TheVariants as direction
use Rattle.rv_model.specs.declared.instructions.operations.Eew.{Eew}
use Rattle.rv_model.specs.declared.instructions.operations.Eew.TheVariants.{E8}
use Rattle.rv_model.specs.declared.vector.types.VType.{VType}
use Rattle.rv_model.specs.accesses.VectorAccess.{VectorAccess, access_of, element_bytes, element_start, indexed_access, mask_length, strided_access, unit_access, unmasked_access, whole_length}
use Rattle.rv_model.specs.elements.Arithmetic.{fills_tail}
use Rattle.rv_model.specs.legality.Legality.{is_legal}
use Rattle.rv_model.specs.lending.GroupBounds.{SegmentsInside}
use Rattle.rv_model.specs.memory.Memory.{Memory}
use Rattle.rv_model.specs.step.AccessChanges.{AccessKeeps, DirectionKeeps, MissesTails, body_transfers, covers_register}
use Rattle.rv_model.specs.step.Hart.{HartState}
use Rattle.rv_model.specs.step.MemoryStep.{filled_type, reads_memory, tail_type}
use Rattle.rv_model.specs.step.Step.{access_step}
use Rattle.rv_model.specs.vector.Groups.{GroupType, IsConfiguration, access_type, group_type, register_count, registers, width_bytes}
use Rattle.rv_model.proofs.Choices.{of_either, of_option}
use Rattle.rv_model.proofs.access_lemmas.InstructionsResume.{length_under}
use Rattle.rv_model.proofs.access_lemmas.Kept.{Beside, Misses, all_missed}
use Rattle.rv_model.proofs.legality_lemmas.Accesses.{indexed_inside, strided_inside, unit_inside}
use Rattle.rv_model.proofs.legality_lemmas.Bounds.{length_below}
use Rattle.rv_model.proofs.memory_lemmas.Memory.{is_within_false}
use Rattle.rv_model.proofs.step_lemmas.KeptAccesses.{access_keeps}
use Rattle.commit_log.specs.Lines.{printed_vectors}
use Rattle.commit_log.specs.Targets.{registers_from, vector_targets}
use Rattle.commit_log.specs.Printed.{with_vectors}
use Rattle.commit_log.proofs.FilledRegisters.{filled, filled_are}
use Rattle.commit_log.proofs.VectorRegions.{region_printed, unchanged}

-- ---- bytes that a load doesn't change

-- a byte is outside `count` registers from `first` on
abbrev Outside : ℕ → ℕ → ℕ → Type 0
Outside first count k = Beside k (32 * first) (32 * count)

-- the elements of a field are inside the field's registers
abbrev InGroups : VectorAccess → Type 0
InGroups a = (i : ℕ) → i < a.body.end → i * a.size + a.size ≤ 32 * a.field_registers

-- the groups whose tails are filled are those of the fields
abbrev AreFields : VectorAccess → Option GroupType → Type 0
AreFields a o = IfSome o (λ g. registers g.emul ≡ a.field_registers)

module _ (a : VectorAccess) (k : ℕ) (out : Outside a.register (a.fields * a.field_registers) k) where
  -- a byte outside all fields is outside each of them
  beside_field : (f : ℕ) → f < a.fields → Outside (a.register + f * a.field_registers) a.field_registers k
  beside_field f below =
      let up : (f + 1) * a.field_registers ≤ a.fields * a.field_registers = mul-le-mul_right a.field_registers (omega (arith, below)) in
      elim out [ inl early ↦ inl (omega (arith, early)) | inr late ↦ inr (omega (arith, late, up)) ]

  uncovered : (s : HartState) → InGroups a → All (λ t. covers_register a k t ≡ false) (body_transfers a s)
  uncovered s inside =
      All-weaker (Misses (element_start a) k) _ (λ t beside. is_within_false (element_start a t) t.size k beside) _
      (All-from_recursion _ (body_transfers a s) (all_missed a _ a.body.end k (λ f i below before.
      elim (beside_field f below) [ inl early ↦ inl (omega (arith, early)) | inr late ↦ inr (omega (arith, late, inside i before)) ])))

  no_tail : (o : Option GroupType) → AreFields a o → MissesTails o a k
  no_tail None is = tt
  no_tail (Some g) is = λ f below.
      let n : ℕ = registers g.emul in
      ap (λ (b : Bool). b && nat_le a.body.end ((k - 32 * (a.register + f * n)) / width_bytes g.width))
      (is_within_false (32 * (a.register + f * n)) (32 * n) k (subst (λ (n : ℕ). Outside (a.register + f * n) n k) (sym is) (beside_field f below)))

-- ---- each access

-- a property of an access that depends on the vector type, if there is one
pub typed_fits : (o : Option VType) (make : VType → VectorAccess) (P : VectorAccess → Type 0) → ((t : VType) → o ≡ Some t → P (make t)) → IfSome (option_map make o) P
typed_fits None make P each = tt
typed_fits (Some t) make P each = each t refl

-- the properties of an access that the law needs
record Fits (i : AccessInstr) (s : HartState) (a : VectorAccess) : Type 0 where
  inside : a.direction ≡ direction.Load → InGroups a
  tails : AreFields a (filled_type i a s)

groups_inside : (g : GroupType) (vd nf vl : ℕ) → SegmentsInside g vd nf vl → (i : ℕ) → i < vl → i * width_bytes g.width + width_bytes g.width ≤ 32 * registers g.emul
groups_inside g vd nf vl s i before =
    omega (arith, row_fits i (width_bytes g.width) vl (width_bytes g.width) before (omega arith), s.holds.room, mul_comm vl (width_bytes g.width))

whole_fits : (w : Eew) (count : ℕ) → (count * 32 / element_bytes w) * element_bytes w ≤ 32 * count
whole_fits E8 count = omega arith
whole_fits _ count = omega arith

module _ (s : HartState) (is : IsConfiguration s.vector.conf) where
  -- under the vector type, if the filled tails are those of these groups
  tails_under : (i : AccessInstr) (a : VectorAccess) (t : VType) → s.vector.conf.vtype ≡ Some t → AreFields a (tail_type i t) → AreFields a (filled_type i a s)
  tails_under i a t e fits =
      subst (λ (o : Option VType). AreFields a (option_and_then (λ u. cond (reads_memory a.direction && fills_tail s.policy u a.body) (tail_type i u) None) o)) (sym e)
      (of_either (AreFields a) (reads_memory a.direction && fills_tail s.policy t a.body) _ _ fits tt)

  -- for accesses whose tails are never filled
  no_tails : (i : AccessInstr) (a : VectorAccess) → ((t : VType) → AreFields a (tail_type i t)) → AreFields a (filled_type i a s)
  no_tails i a none =
      of_option s.vector.conf.vtype (λ o. AreFields a (option_and_then (λ u. cond (reads_memory a.direction && fills_tail s.policy u a.body) (tail_type i u) None) o)) (λ e. tt)
      (λ t e. of_either (AreFields a) (reads_memory a.direction && fills_tail s.policy t a.body) _ _ (none t) tt)

  legal_at : (i : AccessInstr) (t : VType) → s.vector.conf.vtype ≡ Some t → is_legal (instr.Access i) s.vector.conf.vtype s.vector.vstart ≡ true
      → is_legal (instr.Access i) (Some t) s.vector.vstart ≡ true
  legal_at i t e legal = subst (λ (o : Option VType). is_legal (instr.Access i) o s.vector.vstart ≡ true) e legal

  each_fits : (i : AccessInstr) → is_legal (instr.Access i) s.vector.conf.vtype s.vector.vstart ≡ true → IfSome (access_of i s.vector s.scalar) (Fits i s)
  each_fits (UnitStride op w nf vd rs1 vm) legal = typed_fits s.vector.conf.vtype _ (Fits (UnitStride op w nf vd rs1 vm) s) (λ t e. record {
    inside = λ load. groups_inside (access_type t w) vd nf s.vector.conf.vl
        (unit_inside op w nf vd rs1 vm t s.vector.vstart s.vector.conf.vl (legal_at (UnitStride op w nf vd rs1 vm) t e legal) (length_under s.vector t e is));
    tails = tails_under (UnitStride op w nf vd rs1 vm) (unit_access op (access_type t w) nf vd rs1 vm s.vector s.scalar) t e refl;
  })
  each_fits (Strided d w nf vd rs1 rs2 vm) legal = typed_fits s.vector.conf.vtype _ (Fits (Strided d w nf vd rs1 rs2 vm) s) (λ t e. record {
    inside = λ load. groups_inside (access_type t w) vd nf s.vector.conf.vl
        (strided_inside d w nf vd rs1 rs2 vm t s.vector.vstart s.vector.conf.vl (legal_at (Strided d w nf vd rs1 rs2 vm) t e legal) (length_under s.vector t e is));
    tails = tails_under (Strided d w nf vd rs1 rs2 vm) (strided_access d (access_type t w) nf vd rs1 rs2 vm s.vector s.scalar) t e refl;
  })
  each_fits (Indexed d order w nf vd rs1 vs2 vm) legal = typed_fits s.vector.conf.vtype _ (Fits (Indexed d order w nf vd rs1 vs2 vm) s) (λ t e. record {
    inside = λ load. groups_inside (group_type t) vd nf s.vector.conf.vl
        (indexed_inside d order w nf vd rs1 vs2 vm t s.vector.vstart s.vector.conf.vl (legal_at (Indexed d order w nf vd rs1 vs2 vm) t e legal) (length_under s.vector t e is)).fields;
    tails = tails_under (Indexed d order w nf vd rs1 vs2 vm) (indexed_access d (group_type t) (access_type t w) nf vd rs1 vs2 vm s.vector s.scalar) t e refl;
  })
  each_fits (WholeLoad count w vd rs1) legal = record {
    inside = λ load i before. omega (arith, row_fits i (element_bytes w) (whole_length count w) (element_bytes w) before (omega arith), whole_fits w (register_count count));
    tails = no_tails (WholeLoad count w vd rs1) (unmasked_access direction.Load (whole_length count w) (element_bytes w) (register_count count) vd rs1 s.vector s.scalar) (λ t. tt);
  }
  each_fits (WholeStore count vd rs1) legal = record {
    inside = λ load. absurd (cc);
    tails = no_tails (WholeStore count vd rs1) (unmasked_access direction.Store (register_count count * 32) 1 (register_count count) vd rs1 s.vector s.scalar) (λ t. tt);
  }
  each_fits (MaskAccess d vd rs1) legal = typed_fits s.vector.conf.vtype _ (Fits (MaskAccess d vd rs1) s) (λ t e. record {
    inside = λ load i before. omega (arith, before, length_below t s.vector.conf.vl (length_under s.vector t e is));
    tails = no_tails (MaskAccess d vd rs1) (unmasked_access d (mask_length s.vector.conf.vl) 1 1 vd rs1 s.vector s.scalar) (λ u. tt);
  })

  fits_of : (i : AccessInstr) (a : VectorAccess) → is_legal (instr.Access i) s.vector.conf.vtype s.vector.vstart ≡ true → access_of i s.vector s.scalar ≡ Some a → Fits i s a
  fits_of i a legal e = subst (λ (o : Option VectorAccess). IfSome o (Fits i s)) e (each_fits i legal)

  abbrev Printed : AccessInstr → List ℕ → Type 0
  Printed i file = with_vectors (printed_vectors file (vector_targets (instr.Access i) s.vector.conf.vtype)) s.vector.file ≡ file

  direction_printed : (i : AccessInstr) (a : VectorAccess) → length s.vector.file ≡ 1024 → access_of i s.vector s.scalar ≡ Some a → Fits i s a
      → (d : Direction) → a.direction ≡ d → (file : List ℕ) (m : Memory) → DirectionKeeps d i a s file m → Printed i file
  direction_printed i a long e fits direction.Load load file m keeps =
      let count : ℕ = a.fields * a.field_registers in
      let targets : vector_targets (instr.Access i) s.vector.conf.vtype ≡ registers_from a.register count =
      filled_are s.vector s.scalar i ∙ ap (λ (o : Option VectorAccess). option_map_or filled o []) e
      ∙ ap (λ (d : Direction). cond (reads_memory d) (registers_from a.register count) []) load in
      ap (λ (rs : List ℕ). with_vectors (printed_vectors file rs) s.vector.file) targets
      ∙ region_printed s.vector.file file a.register count long keeps.size
      (λ k out.
      let beside : Outside a.register count k = elim out [ inl early ↦ inl early | inr late ↦ inr (omega (arith, late)) ] in
      keeps.registers k (uncovered a k beside s (fits.inside load)) (no_tail a k beside (filled_type i a s) fits.tails))
  direction_printed i a long e fits direction.Store store file m keeps = unchanged s.vector.file file (vector_targets (instr.Access i) s.vector.conf.vtype) keeps.registers

  keeps_printed : (i : AccessInstr) → length s.vector.file ≡ 1024 → is_legal (instr.Access i) s.vector.conf.vtype s.vector.vstart ≡ true
      → (o : Option VectorAccess) → access_of i s.vector s.scalar ≡ o → (file : List ℕ) (m : Memory) → AccessKeeps i o s file m → Printed i file
  keeps_printed i long legal None e file m keeps = unchanged s.vector.file file (vector_targets (instr.Access i) s.vector.conf.vtype) keeps.registers
  keeps_printed i long legal (Some a) e file m keeps = direction_printed i a long e (fits_of i a legal e) a.direction refl file m keeps

  pub access_printed : (limit : ℕ) (i : AccessInstr) → length s.vector.file ≡ 1024 → is_legal (instr.Access i) s.vector.conf.vtype s.vector.vstart ≡ true
      → Printed i (access_step limit i (access_of i s.vector s.scalar) s).state.vector.file
  access_printed limit i long legal = keeps_printed i long legal _ refl _ _ (access_keeps limit i (access_of i s.vector s.scalar) s long)
