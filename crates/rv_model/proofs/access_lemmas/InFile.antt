-- The elements of a legal vector load or store lie in the register file.
use Rattle.std.proofs.Common.{◌≡◌, ℕ, zero, suc, ◌+◌, ◌*◌, ◌/◌, ◌<◌, ◌≤◌, true, false, map, Option, Some, refl, subst, arith}
use Rattle.std.specs.List.{AllByRecursion, range_with_len}
use Rattle.std.specs.Option.{option_map}
use Rattle.std.specs.Prelude.{IfSome}
use Rattle.std.proofs.Math.Nat.{mul_comm}
use Rattle.std.proofs.lemmas.List.Elements.{All-from_recursion}
use Rattle.std.proofs.lemmas.Nat.{row_fits}
use Rattle.std.proofs.lemmas.Bool.Decides.{nat_tests}
use Rattle.rv_model.specs.declared.instructions.instruction.Instr.TheVariants as instr
use Rattle.rv_model.specs.declared.instructions.access.AccessInstr.{AccessInstr}
use Rattle.rv_model.specs.declared.instructions.access.AccessInstr.TheVariants.{MaskAccess, Indexed, Strided, UnitStride, WholeLoad, WholeStore}
use Rattle.rv_model.specs.declared.instructions.operations.Eew.{Eew}
use Rattle.rv_model.specs.declared.scalar.Scalar.{Scalar}
use Rattle.rv_model.specs.declared.vector.sizes.TheConstants.{FILE_BYTES, VECTOR_REGISTERS, VLENB}
use Rattle.rv_model.specs.declared.vector.state.VState.{VState}
use Rattle.rv_model.specs.declared.vector.types.VType.{VType}
use Rattle.rv_model.specs.accesses.TransferBytes.{TransfersLieInFile}
use Rattle.rv_model.specs.accesses.Transfers.{Moved, Transfer, address_of, transfers}
use Rattle.rv_model.specs.accesses.VectorAccess.{VectorAccess, access_of, element_bytes, element_start, mask_length, plan, whole_length}
use Rattle.rv_model.specs.legality.Legality.{IsLegal, is_legal}
use Rattle.rv_model.specs.lending.GroupBounds.{SegmentsInside}
use Rattle.rv_model.specs.vector.Groups.{GroupType, IsConfiguration, group_type, width_bytes, registers, access_type, register_count}
use Rattle.rv_model.proofs.access_lemmas.InstructionsResume.{legal_under, length_under}
use Rattle.rv_model.proofs.access_lemmas.Kept.{all_transfers, element_place}
use Rattle.rv_model.proofs.access_lemmas.Segments.{field_transfer}
use Rattle.rv_model.proofs.legality_lemmas.Accesses.{field_inside, indexed_inside, mask_memory_inside, strided_inside, unit_inside, whole_load_inside, whole_store_inside}
use Rattle.rv_model.proofs.legality_lemmas.Bounds.{length_below}
use Rattle.rv_model.proofs.legality_lemmas.Meaning.{is_legal_means}

-- ---- each access

abbrev InFile : VectorAccess → Type 0
InFile a = (f i : ℕ) → f < a.fields → i < a.body.end → element_place a f i + a.size ≤ FILE_BYTES

segments_in_file : (g : GroupType) (vd nf vl : ℕ) → SegmentsInside g vd nf vl → (f i : ℕ) → f < nf + 1 → i < vl
    → VLENB * (vd + f * registers g.emul) + i * width_bytes g.width + width_bytes g.width ≤ FILE_BYTES
segments_in_file g vd nf vl s f i below before =
    omega (
      arith,
      field_inside g vd nf vl s f (omega (arith, below)),
      row_fits i (width_bytes g.width) vl (width_bytes g.width) before (omega arith),
      s.holds.room,
      mul_comm vl (width_bytes g.width),
    )

-- contiguous elements in a group of `count` registers
rows_in_file : (vd count size end f i : ℕ) → vd + count ≤ VECTOR_REGISTERS → end * size ≤ VLENB * count → f < 1 → i < end
    → VLENB * (vd + f * count) + i * size + size ≤ FILE_BYTES
rows_in_file vd count size end f i room fits one before = search (arith, row_fits)

whole_fits : (w : Eew) (count : ℕ) → (count * VLENB / element_bytes w) * element_bytes w ≤ VLENB * count
whole_fits w count = search arith

typed_in_file : (o : Option VType) (make : VType → VectorAccess) → ((t : VType) → o ≡ Some t → InFile (make t)) → IfSome (option_map make o) InFile
typed_in_file o make each = search (arith, nat_tests)

module _ (v : VState) (x : Scalar) (is : IsConfiguration v.conf) where
  legal_test : (i : AccessInstr) (t : VType) → v.conf.vtype ≡ Some t → IsLegal (instr.Access i) v.conf.vtype v.vstart
      → is_legal (instr.Access i) (Some t) v.vstart ≡ true
  legal_test i t e legal = (is_legal_means (instr.Access i) (Some t) v.vstart).1 (legal_under (instr.Access i) v t e legal)

  each_in_file : (i : AccessInstr) → IsLegal (instr.Access i) v.conf.vtype v.vstart → IfSome (access_of i v x) InFile
  each_in_file (UnitStride op w nf vd rs1 vm) legal = typed_in_file v.conf.vtype _ (λ t e.
      segments_in_file (access_type t w) vd nf v.conf.vl
      (unit_inside op w nf vd rs1 vm t v.vstart v.conf.vl (legal_test (UnitStride op w nf vd rs1 vm) t e legal) (length_under v t e is)))
  each_in_file (Strided d w nf vd rs1 rs2 vm) legal = typed_in_file v.conf.vtype _ (λ t e.
      segments_in_file (access_type t w) vd nf v.conf.vl
      (strided_inside d w nf vd rs1 rs2 vm t v.vstart v.conf.vl (legal_test (Strided d w nf vd rs1 rs2 vm) t e legal) (length_under v t e is)))
  each_in_file (Indexed d order w nf vd rs1 vs2 vm) legal = typed_in_file v.conf.vtype _ (λ t e.
      segments_in_file (group_type t) vd nf v.conf.vl
      (indexed_inside d order w nf vd rs1 vs2 vm t v.vstart v.conf.vl (legal_test (Indexed d order w nf vd rs1 vs2 vm) t e legal)
      (length_under v t e is)).fields)
  each_in_file (WholeLoad count w vd rs1) legal = λ f i.
      rows_in_file vd (register_count count) (element_bytes w) (whole_length count w) f i
      (whole_load_inside count w vd rs1 v.conf.vtype v.vstart ((is_legal_means (instr.Access (WholeLoad count w vd rs1)) v.conf.vtype v.vstart).1 legal))
      (whole_fits w (register_count count))
  each_in_file (WholeStore count vd rs1) legal = λ f i.
      rows_in_file vd (register_count count) 1 (register_count count * VLENB) f i
      (whole_store_inside count vd rs1 v.conf.vtype v.vstart ((is_legal_means (instr.Access (WholeStore count vd rs1)) v.conf.vtype v.vstart).1 legal))
      (omega arith)
  each_in_file (MaskAccess d vd rs1) legal = typed_in_file v.conf.vtype _ (λ t e f i.
      rows_in_file vd 1 1 (mask_length v.conf.vl) f i (mask_memory_inside d vd rs1 t v.vstart (legal_test (MaskAccess d vd rs1) t e legal))
      (omega (arith, length_below t v.conf.vl (length_under v t e is))))

-- ---- its transfers

module _ (P : Transfer → Type 0) where
  each_moved : (i address size a n : ℕ) → ((f : ℕ) → f < a + n → P (field_transfer i address size f))
      → AllByRecursion P (map (field_transfer i address size) (range_with_len a n))
  each_moved i address size a zero h = tt
  each_moved i address size a (suc n) h = (h a (omega arith), each_moved i address size (a + 1) n (λ f l. h f (omega (arith, l))))

  each_planned : (a : VectorAccess) (i : ℕ) → ((f : ℕ) → f < a.fields → P (field_transfer i (a.address i) a.size f)) → AllByRecursion P (plan a false i)
  unfolding plan
  each_planned a i h = search (arith, each_moved)

pub transfers_lie_in_file : TransfersLieInFile
transfers_lie_in_file i v x a k n legal is e fits =
    All-from_recursion P (transfers (plan a false) k n)
    (all_transfers P (plan a false) k n (λ j low high. each_planned P a j (λ f l. (refl, inside f j l (omega (arith, high, fits))))))
  where
    P : Transfer → Type 0
    P t = (t.kind ≡ Moved (address_of t.kind)) × (element_start a t + t.size ≤ FILE_BYTES)

    inside : InFile a
    inside = subst (λ (o : Option VectorAccess). IfSome o InFile) e (each_in_file v x is i legal)
