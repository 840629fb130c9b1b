-- Consequences of legality for the registers of a vector load or store.
use Rattle.std.specs.Prelude.{Option, Some, nat_le}
use Rattle.std.specs.List.{list_all}
use Rattle.std.proofs.Common.{◌≡◌, ◌∷◌, ℕ, ◌+◌, ◌*◌, ◌/◌, ◌≤◌, Bool, true, refl, subst, arith, lit<}
use Rattle.std.proofs.Math.Nat.{mul-le-mul_left, mul-le-mul_right}
use Rattle.std.proofs.lemmas.Bool.Decides.{nat_tests}
use Rattle.rv_model.specs.declared.instructions.instruction.Instr.TheVariants as instr
use Rattle.rv_model.specs.declared.instructions.access.AccessInstr.TheVariants.{MaskAccess, Indexed, Strided, UnitStride, WholeLoad, WholeStore}
use Rattle.rv_model.specs.declared.instructions.operations.Direction.{Direction}
use Rattle.rv_model.specs.declared.instructions.operations.Order.{Order}
use Rattle.rv_model.specs.declared.instructions.operations.RegisterCount.{RegisterCount}
use Rattle.rv_model.specs.declared.instructions.operations.UnitOp.{UnitOp}
use Rattle.rv_model.specs.declared.instructions.operations.Eew.{Eew}
use Rattle.rv_model.specs.declared.legality.Role.{Role}
use Rattle.rv_model.specs.declared.legality.Role.TheVariants.{Read}
use Rattle.rv_model.specs.declared.vector.types.Lmul.{Lmul}
use Rattle.rv_model.specs.declared.vector.types.Sew.{Sew}
use Rattle.rv_model.specs.declared.vector.types.VType.{VType}
use Rattle.rv_model.specs.declared.vector.sizes.TheConstants.{VECTOR_REGISTERS, VLEN, VLENB}
use Rattle.rv_model.specs.vector.Groups.{access_type, register_count, GroupType, group_type, element_width, lmul_eighths, sew_bits, sew_width, vlmax, width_bytes, registers}
use Rattle.rv_model.specs.lending.GroupBounds.{HasRoom, IsInside, SegmentsInside, emul}
use Rattle.rv_model.specs.legality.Legality.{indexed_role, is_legal, operands}
use Rattle.rv_model.specs.legality.OperandShapes.{field_groups, group, mask, v0}
use Rattle.rv_model.specs.vector.TypeNames.{lmuls, sews}
use Rattle.rv_model.proofs.assembler_lemmas.Naming.{all_at}
use Rattle.rv_model.proofs.legality_lemmas.Bounds.{emul-sew, fewer, first_of, inside, length_below, second_of, whole_elements}
use Rattle.rv_model.proofs.legality_lemmas.Meaning.{IsGroup, legal_groups}

-- ---- groups of elements with a width other than SEW

-- a test of all widths holds for each width, and a test of all multipliers for each multiplier
pub of_sews : (p : Sew → Bool) → list_all p sews ≡ true → (s : Sew) → p s ≡ true
of_sews p h s = search (arith, all_at)

pub of_lmuls : (p : Lmul → Bool) → list_all p lmuls ≡ true → (l : Lmul) → p l ≡ true
of_lmuls p h l = search (arith, all_at)

-- a group with VLMAX elements of one width, under a type with another SEW, has room for all of them
abbrev has_room : Sew → Sew → Lmul → Bool
has_room s sew l =
    nat_le (width_bytes (sew_width s) * (lmul_eighths l * VLEN / (8 * sew_bits sew))) (VLENB * registers (sew_bits s * lmul_eighths l / sew_bits sew))

each_has_room : (s sew : Sew) (l : Lmul) → has_room s sew l ≡ true
each_has_room s sew l = search (arith, nat_tests)

pub elements_fit : (s : Sew) (t : VType) (vl : ℕ) → vl ≤ vlmax t → width_bytes (sew_width s) * vl ≤ VLENB * registers (emul (sew_bits s) t)
elements_fit s t vl h = search (arith, nat_tests, each_has_room, mul-le-mul_left, registers)

-- the type of a group of elements of a width, with the VLMAX of the vector type
abbrev pub sew_groups : Sew → VType → GroupType
sew_groups s t = record { width = sew_width s; emul = emul (sew_bits s) t }

-- ---- the registers of a segment

-- the register group of a field is inside the file
pub field_inside : (g : GroupType) (vd nf vl : ℕ) → SegmentsInside g vd nf vl → (f : ℕ) → f ≤ nf → IsInside (vd + f * registers g.emul) g.emul
field_inside g vd nf vl s f h = search (arith, mul-le-mul_right, registers)

segments_inside : (role : Role) (s : Sew) (e vd nf vl : ℕ) (t : VType) → emul (sew_bits s) t ≡ e → vl ≤ vlmax t
    → IsGroup (field_groups role (nf + 1) vd (record { width = sew_width s; emul = e })) → SegmentsInside (record { width = sew_width s; emul = e }) vd nf vl
segments_inside role s e vd nf vl t is h group = record {
  least = group.least;
  inside = group.inside;
  holds = record {
    most = group.most;
    room = subst (λ n. width_bytes (sew_width s) * vl ≤ VLENB * registers n) is (elements_fit s t vl h);
    least = length_below t vl h;
    whole = whole_elements s (registers e);
    size = omega (arith, fewer s (VLENB * registers e), group.most);
  };
}

-- ---- each instruction

pub unit_inside : (op : UnitOp) (w : Eew) (nf vd rs1 : ℕ) (vm : Bool) (t : VType) (vstart vl : ℕ)
    → is_legal (instr.Access (UnitStride op w nf vd rs1 vm)) (Some t) vstart ≡ true → vl ≤ vlmax t → SegmentsInside (access_type t w) vd nf vl
unfolding operands
unit_inside op w nf vd rs1 vm t vstart vl legal h = search (first_of, legal_groups, segments_inside)

pub strided_inside : (direction : Direction) (w : Eew) (nf vd rs1 rs2 : ℕ) (vm : Bool) (t : VType) (vstart vl : ℕ)
    → is_legal (instr.Access (Strided direction w nf vd rs1 rs2 vm)) (Some t) vstart ≡ true → vl ≤ vlmax t → SegmentsInside (access_type t w) vd nf vl
unfolding operands
strided_inside direction w nf vd rs1 rs2 vm t vstart vl legal h = search (first_of, legal_groups, segments_inside)

-- the indices of an indexed access: a group inside the file, with room for the elements before vl
pub record IndicesInside (g : GroupType) (vs2 vl : ℕ) : Type 0 where
  pub least : 1 ≤ g.emul
  pub inside : IsInside vs2 g.emul
  pub room : HasRoom g.width g.emul vl

-- the data and the indices of an indexed access
pub record IndexedInside (w : Eew) (nf vd vs2 : ℕ) (t : VType) (vl : ℕ) : Type 0 where
  pub fields : SegmentsInside (group_type t) vd nf vl
  pub indices : IndicesInside (access_type t w) vs2 vl

pub indexed_inside : (direction : Direction) (order : Order) (w : Eew) (nf vd rs1 vs2 : ℕ) (vm : Bool) (t : VType) (vstart vl : ℕ)
    → is_legal (instr.Access (Indexed direction order w nf vd rs1 vs2 vm)) (Some t) vstart ≡ true → vl ≤ vlmax t → IndexedInside w nf vd vs2 t vl
unfolding operands
indexed_inside direction order w nf vd rs1 vs2 vm t vstart vl legal h =
    let groups = legal_groups (instr.Access (Indexed direction order w nf vd rs1 vs2 vm)) (Some t) vstart legal in
    let fields = field_groups (indexed_role direction nf) (nf + 1) vd (group_type t) in
    let indices = second_of fields (group Read vs2 (access_type t w)) (v0 vm) groups in
    record {
      fields =
          segments_inside (indexed_role direction nf) t.sew (lmul_eighths t.lmul) vd nf vl t (emul-sew t.sew (lmul_eighths t.lmul)) h
          (first_of fields (group Read vs2 (access_type t w) ∷ v0 vm) groups);
      indices = record {
        least = indices.least;
        inside = inside vs2 (access_type t w).emul (access_type t w).emul refl indices.inside;
        room = record { most = indices.most; room = elements_fit (element_width w) t vl h };
      };
    }

-- ---- whole registers and masks

-- `count` registers form a group of `count` registers
whole_registers : (count : RegisterCount) → 1 * registers (8 * register_count count) ≡ register_count count
whole_registers count = search (arith, nat_tests)

pub whole_load_inside : (count : RegisterCount) (w : Eew) (vd rs1 : ℕ) (t : Option VType) (vstart : ℕ)
    → is_legal (instr.Access (WholeLoad count w vd rs1)) t vstart ≡ true → vd + register_count count ≤ VECTOR_REGISTERS
unfolding operands
whole_load_inside count w vd rs1 t vstart legal =
    let groups = legal_groups (instr.Access (WholeLoad count w vd rs1)) t vstart legal in
    subst (λ n. vd + n ≤ VECTOR_REGISTERS) (whole_registers count) (groups 0 (mask Read 0) (lit< tt)).inside

pub whole_store_inside : (count : RegisterCount) (vd rs1 : ℕ) (t : Option VType) (vstart : ℕ)
    → is_legal (instr.Access (WholeStore count vd rs1)) t vstart ≡ true → vd + register_count count ≤ VECTOR_REGISTERS
unfolding operands
whole_store_inside count vd rs1 t vstart legal =
    let groups = legal_groups (instr.Access (WholeStore count vd rs1)) t vstart legal in
    subst (λ n. vd + n ≤ VECTOR_REGISTERS) (whole_registers count) (groups 0 (mask Read 0) (lit< tt)).inside

-- a mask is one register
pub mask_memory_inside : (direction : Direction) (vd rs1 : ℕ) (t : VType) (vstart : ℕ)
    → is_legal (instr.Access (MaskAccess direction vd rs1)) (Some t) vstart ≡ true → vd + 1 ≤ VECTOR_REGISTERS
unfolding operands
mask_memory_inside direction vd rs1 t vstart legal =
    ((legal_groups (instr.Access (MaskAccess direction vd rs1)) (Some t) vstart legal) 0 (mask Read 0) (lit< tt)).inside
