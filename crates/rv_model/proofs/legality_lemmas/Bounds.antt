-- Consequences of legality for the registers of an instruction: its groups end inside the file, and have room for each element.
use Rattle.std.specs.Prelude.{Some, nat_le, nat_lt, ⊤}
use Rattle.std.proofs.Common.{◌≡◌, ℕ, ◌+◌, ◌*◌, ◌/◌, ◌<◌, ◌≤◌, suc, List, ◌∷◌, length, Bool, true, false, ◌||◌, refl, subst, arith, lit≤, lit<, All}
use Rattle.std.proofs.Math.Nat.{mul-le-mul_left}
use Rattle.std.proofs.lemmas.Bool.Decides.{nat_tests}
use Rattle.rv_model.specs.declared.instructions.instruction.Instr.TheVariants as instr
use Rattle.rv_model.specs.declared.instructions.vector.VectorInstr.TheVariants.{ElementIndex, MaskUnary, Arith, Carry, Extend, Move}
use Rattle.rv_model.specs.declared.instructions.operations.BinaryOp.{BinaryOp}
use Rattle.rv_model.specs.declared.instructions.operations.CarryOp.{CarryOp}
use Rattle.rv_model.specs.declared.instructions.operations.CarryOutOp.{CarryOutOp}
use Rattle.rv_model.specs.declared.instructions.operations.ClipOp.{ClipOp}
use Rattle.rv_model.specs.declared.instructions.operations.CompareOp.{CompareOp}
use Rattle.rv_model.specs.declared.instructions.operations.ExtendOp.{ExtendOp}
use Rattle.rv_model.specs.declared.instructions.operations.FixedPointOp.{FixedPointOp}
use Rattle.rv_model.specs.declared.instructions.operations.MaskUnaryOp.TheVariants as mask_unary
use Rattle.rv_model.specs.declared.instructions.operations.MultiplyAddOp.{MultiplyAddOp}
use Rattle.rv_model.specs.declared.instructions.operations.NarrowShiftOp.{NarrowShiftOp}
use Rattle.rv_model.specs.declared.instructions.operations.PermuteOp.{PermuteOp}
use Rattle.rv_model.specs.declared.instructions.operations.PermuteOp.TheVariants.{Vrgather, Vrgatherei16}
use Rattle.rv_model.specs.declared.instructions.operations.ReduceOp.{ReduceOp}
use Rattle.rv_model.specs.declared.instructions.operations.WidenReduceOp.{WidenReduceOp}
use Rattle.rv_model.specs.declared.instructions.operations.WidenOp.{WidenOp}
use Rattle.rv_model.specs.declared.instructions.operations.WideSourceOp.{WideSourceOp}
use Rattle.rv_model.specs.declared.instructions.operations.WidenMultiplyAddOp.{WidenMultiplyAddOp}
use Rattle.rv_model.specs.declared.instructions.operations.VectorOp.{VectorOp}
use Rattle.rv_model.specs.declared.instructions.operations.VectorOp.TheVariants as vector_op
use Rattle.rv_model.specs.declared.legality.Operand.{Operand}
use Rattle.rv_model.specs.declared.legality.Role.{Role}
use Rattle.rv_model.specs.declared.legality.Role.TheVariants.{Apart, Read, Write}
use Rattle.rv_model.specs.declared.legality.Shape.{Shape}
use Rattle.rv_model.specs.declared.legality.Shape.TheVariants.{Narrowing, Single, WideSource, Widening}
use Rattle.rv_model.specs.declared.instructions.source.Source.{Source}
use Rattle.rv_model.specs.declared.instructions.source.Source.TheVariants as source
use Rattle.rv_model.specs.declared.vector.types.Lmul.{Lmul}
use Rattle.rv_model.specs.declared.vector.types.Lmul.TheVariants.{Mf8, M8}
use Rattle.rv_model.specs.declared.vector.types.Sew.{Sew}
use Rattle.rv_model.specs.declared.vector.types.Sew.TheVariants.{E8, E64}
use Rattle.rv_model.specs.declared.vector.types.VType.{VType}
use Rattle.rv_model.specs.declared.vector.sizes.TheConstants.{GROUP_BYTES, VECTOR_REGISTERS, VLEN, VLENB}
use Rattle.rv_model.specs.legality.Legality.{extension_source, operands, is_legal}
use Rattle.rv_model.specs.legality.OperandShapes.{destination, first_source, group, mask, second_source, shape_of, shape_operands, v0, vector_source}
use Rattle.rv_model.specs.vector.Groups.{registers, Configuration, group_type, IsConfiguration, sew_bits, sew_width, width_bytes, lmul_eighths, vlmax, doubled, extension_divisor, part_type, part_width, wide_type, with_width}
use Rattle.rv_model.specs.lending.GroupBounds.{HasIndices, HasRoom, HoldsBody, IsInside, SourceIsInside}
use mir.Val.{bits}
use Rattle.std.specs.Int.{Width, w16}
use Rattle.rv_model.specs.elements.PermutationResults.{source_type}
use Rattle.rv_model.proofs.legality_lemmas.Meaning.{IsGroup, legal_groups}
use Rattle.rv_model.proofs.Choices.{of_option}

-- elements of SEW have the vector type's multiplier
pub emul-sew : (s : Sew) (e : ℕ) → sew_bits s * e / sew_bits s ≡ e
emul-sew s e = search arith

-- a legal group, with the multiplier in another form
pub inside : (r e f : ℕ) → e ≡ f → r + 1 * registers e ≤ VECTOR_REGISTERS → IsInside r f
inside r e f same h = let one : 1 * registers e ≡ registers e = omega arith in rw (← same, ← one) h

-- ---- the first operands of a list

pub before_end0 : (a : Operand) (rest : List Operand) → 0 < length (a ∷ rest)
before_end0 a rest = let long : length (a ∷ rest) ≡ suc (length rest) = refl in omega (arith, long)

pub before_end1 : (a b : Operand) (rest : List Operand) → 1 < length (a ∷ b ∷ rest)
before_end1 a b rest = let long : length (a ∷ b ∷ rest) ≡ suc (suc (length rest)) = refl in omega (arith, long)

pub first_of : (a : Operand) (rest : List Operand) → All IsGroup (a ∷ rest) → IsGroup a
first_of a rest all = all 0 a (before_end0 a rest)

pub second_of : (a b : Operand) (rest : List Operand) → All IsGroup (a ∷ b ∷ rest) → IsGroup b
second_of a b rest all = all 1 a (before_end1 a b rest)

-- a group with the vector type's multiplier
pub sew_group : (r : ℕ) (t : VType) → r + 1 * registers (lmul_eighths t.lmul) ≤ VECTOR_REGISTERS → IsInside r (lmul_eighths t.lmul)
sew_group r t h = inside r (lmul_eighths t.lmul) (lmul_eighths t.lmul) refl h

-- ---- the elements of groups

-- no multiplier is above 8
pub multiplier_fits : (l : Lmul) → lmul_eighths l ≤ 64
multiplier_fits l = search arith

-- the groups of a vector type hold all of its elements
all_hold : (s : Sew) (l : Lmul)
    → HoldsBody (sew_width s) (lmul_eighths l) (VLENB * registers (lmul_eighths l) / width_bytes (sew_width s)) (lmul_eighths l * VLEN / (8 * sew_bits s))
all_hold E8 Mf8 = record { most = lit≤ tt; room = lit≤ tt; least = lit≤ tt; whole = refl; size = lit≤ tt }
all_hold _ Mf8 = record { most = lit≤ tt; room = lit≤ tt; least = lit≤ tt; whole = refl; size = lit≤ tt }
all_hold _ _ = record { most = lit≤ tt; room = lit≤ tt; least = lit≤ tt; whole = refl; size = lit≤ tt }

-- the same for fewer elements
fewer_held : {width : Width} {emul count most : ℕ} (end : ℕ) → HoldsBody width emul count most → end ≤ most → HoldsBody width emul count end
fewer_held {width} {emul} {count} {most} end holds h =
    let up : width_bytes width * end ≤ width_bytes width * most = mul-le-mul_left (width_bytes width) h in
    record { most = holds.most; room = omega (arith, up, holds.room); least = omega (arith, holds.least); whole = holds.whole; size = holds.size }

pub groups_hold_body : (t : VType) (vl : ℕ) → vl ≤ vlmax t
    → HoldsBody (sew_width t.sew) (lmul_eighths t.lmul) (VLENB * registers (lmul_eighths t.lmul) / width_bytes (sew_width t.sew)) vl
groups_hold_body t vl h = fewer_held vl (all_hold t.sew t.lmul) h

pub length_fits : (t : VType) (vl : ℕ) → vl ≤ vlmax t → width_bytes (sew_width t.sew) * vl ≤ VLENB * registers (lmul_eighths t.lmul)
length_fits t vl h = (groups_hold_body t vl h).room

-- no vector has more elements than the largest group has bytes
pub length_below : (t : VType) (vl : ℕ) → vl ≤ vlmax t → vl ≤ GROUP_BYTES
length_below t vl h = (groups_hold_body t vl h).least

-- the same for a configuration with any vector type or with vill
pub configuration_below : (c : Configuration) → IsConfiguration c → c.vl ≤ GROUP_BYTES
configuration_below c = search (arith, length_below, of_option)

-- n registers hold a whole number of elements
pub whole_elements : (s : Sew) (n : ℕ) → VLENB * n ≡ width_bytes (sew_width s) * (VLENB * n / width_bytes (sew_width s))
whole_elements s n = search arith

-- n bytes hold at most n elements
pub fewer : (s : Sew) (n : ℕ) → n / width_bytes (sew_width s) ≤ n
fewer s n = search arith

-- ---- operands of two widths

-- groups with twice the width and twice the multiplier hold the body
wide_hold : (s : Sew) (l : Lmul) → sew_bits s ≤ 32 → 2 * lmul_eighths l ≤ 64
    → HoldsBody (doubled (sew_width s)) (2 * lmul_eighths l) (VLENB * registers (2 * lmul_eighths l) / width_bytes (doubled (sew_width s)))
    (lmul_eighths l * VLEN / (8 * sew_bits s))
wide_hold E64 l narrow most = absurd (omega (arith, narrow))
wide_hold E8 M8 narrow most = absurd (omega (arith, most))
wide_hold _ M8 narrow most = absurd (omega (arith, most))
wide_hold _ _ narrow most = record { most = lit≤ tt; room = lit≤ tt; least = lit≤ tt; whole = refl; size = lit≤ tt }

pub wide_groups_hold_body : (t : VType) (vl : ℕ) → vl ≤ vlmax t → sew_bits t.sew ≤ 32 → 2 * lmul_eighths t.lmul ≤ 64
    → HoldsBody (doubled (sew_width t.sew)) (2 * lmul_eighths t.lmul)
    (VLENB * registers (2 * lmul_eighths t.lmul) / width_bytes (doubled (sew_width t.sew))) vl
wide_groups_hold_body t vl h narrow most = fewer_held vl (wide_hold t.sew t.lmul narrow most) h

-- groups that hold the body have room for it
room_of : {width : Width} {emul count end : ℕ} → HoldsBody width emul count end → HasRoom width emul end
room_of holds = record { most = holds.most; room = holds.room }

pub groups_have_room : (t : VType) (vl : ℕ) → vl ≤ vlmax t → HasRoom (sew_width t.sew) (lmul_eighths t.lmul) vl
groups_have_room t vl h = room_of (groups_hold_body t vl h)

pub wide_groups_have_room : (t : VType) (vl : ℕ) → vl ≤ vlmax t → sew_bits t.sew ≤ 32 → 2 * lmul_eighths t.lmul ≤ 64
    → HasRoom (doubled (sew_width t.sew)) (2 * lmul_eighths t.lmul) vl
wide_groups_have_room t vl h narrow most = room_of (wide_groups_hold_body t vl h narrow most)

-- elements of twice SEW have twice the vector type's multiplier
emul-wide : (s : Sew) (e : ℕ) → bits (doubled (sew_width s)) * e / sew_bits s ≡ 2 * e
emul-wide s e = search arith

wide_group : (r : ℕ) (t : VType) → r + 1 * registers (wide_type t).emul ≤ VECTOR_REGISTERS → IsInside r (2 * lmul_eighths t.lmul)
wide_group r t h = inside r (wide_type t).emul (2 * lmul_eighths t.lmul) (emul-wide t.sew (lmul_eighths t.lmul)) h

wide_fits : (s : Sew) → bits (doubled (sew_width s)) ≤ 64 → sew_bits s ≤ 32
wide_fits s h = search arith

-- elements of twice SEW exist, in groups of twice the multiplier
pub record HasDouble (t : VType) : Type 0 where
  pub narrow : sew_bits t.sew ≤ 32
  pub most : 2 * lmul_eighths t.lmul ≤ 64

has_double : (role : Role) (r : ℕ) (t : VType) → IsGroup (group role r (wide_type t)) → HasDouble t
has_double role r t g = record { narrow = wide_fits t.sew g.width.1; most = subst (λ n. n ≤ 64) (emul-wide t.sew (lmul_eighths t.lmul)) g.most }

-- ---- operations on two operands

-- the second source of a shape is a valid group, if it comes from vector registers
abbrev SecondIsGroup : Shape → Source → VType → Type 0
SecondIsGroup shape (source.V vs1) t = IsGroup (vector_source shape vs1 t)
SecondIsGroup shape _ t = ⊤

record ShapeGroups (shape : Shape) (vd vs2 : ℕ) (from : Source) (t : VType) : Type 0 where
  target : IsGroup (destination shape vd t)
  first : IsGroup (first_source shape vs2 t)
  second : SecondIsGroup shape from t

shape_groups : (shape : Shape) (vd vs2 : ℕ) (from : Source) (vm : Bool) (t : VType) → All IsGroup (shape_operands shape vd vs2 from vm t)
    → ShapeGroups shape vd vs2 from t
unfolding shape_operands
shape_groups shape vd vs2 (source.V vs1) true t g = record { target = g 0 (mask Read 0) (lit< tt); first = g 1 (mask Read 0) (lit< tt); second = g 2 (mask Read 0) (lit< tt) }
shape_groups shape vd vs2 (source.V vs1) _ t g = record { target = g 0 (mask Read 0) (lit< tt); first = g 1 (mask Read 0) (lit< tt); second = g 2 (mask Read 0) (lit< tt) }
shape_groups shape vd vs2 _ true t g = record { target = g 0 (mask Read 0) (lit< tt); first = g 1 (mask Read 0) (lit< tt); second = tt }
shape_groups shape vd vs2 _ _ t g = record { target = g 0 (mask Read 0) (lit< tt); first = g 1 (mask Read 0) (lit< tt); second = tt }

-- the multiplier of the destination
abbrev target_emul : Shape → VType → ℕ
target_emul Widening t = 2 * lmul_eighths t.lmul
target_emul WideSource t = 2 * lmul_eighths t.lmul
target_emul shape t = (destination shape 0 t).emul

abbrev first_emul : Shape → VType → ℕ
first_emul WideSource t = 2 * lmul_eighths t.lmul
first_emul Narrowing t = 2 * lmul_eighths t.lmul
first_emul _ t = lmul_eighths t.lmul

-- the registers of two operands and of the destination, with these multipliers
pub record ArithInside (target first_source second_source vd vs2 : ℕ) (from : Source) : Type 0 where
  pub destination : IsInside vd target
  pub first : IsInside vs2 first_source
  pub second : SourceIsInside from second_source

module _ (vd vs2 : ℕ) (t : VType) where
  first_inside : (shape : Shape) → IsGroup (first_source shape vs2 t) → IsInside vs2 (first_emul shape t)
  first_inside shape g = search (arith, nat_tests, sew_group, wide_group)

  second_inside : (shape : Shape) (from : Source) → SecondIsGroup shape from t → SourceIsInside from (vector_source shape 0 t).emul
  second_inside shape from g = search (arith, nat_tests, inside)

  shape_inside : (shape : Shape) (from : Source) → ShapeGroups shape vd vs2 from t
      → ArithInside (target_emul shape t) (first_emul shape t) (vector_source shape 0 t).emul vd vs2 from
  shape_inside shape from g = record { destination = (search (arith, nat_tests, inside, wide_group)); first = first_inside shape g.first; second = second_inside shape from g.second }

-- the operands of an operation with the vector type's multiplier for each
abbrev pub SingleInside : ℕ → ℕ → Source → VType → Type 0
SingleInside vd vs2 from t = ArithInside (lmul_eighths t.lmul) (lmul_eighths t.lmul) (lmul_eighths t.lmul) vd vs2 from

-- the operands of an operation with twice the multiplier for some
pub record DoubleInside (target first_source vd vs2 : ℕ) (from : Source) (t : VType) : Type 0 where
  pub double : HasDouble t
  pub groups : ArithInside target first_source (lmul_eighths t.lmul) vd vs2 from

module _ (from : Source) (vd vs2 : ℕ) (vm : Bool) (t : VType) (vstart : ℕ) where
  abbrev Legal : VectorOp → Type 0
  Legal op = is_legal (instr.Vector (Arith (op, from) vd vs2 vm)) (Some t) vstart ≡ true

  arith_groups : (op : VectorOp) → Legal op → ShapeGroups (shape_of op) vd vs2 from t
  unfolding operands
  arith_groups op h = shape_groups (shape_of op) vd vs2 from vm t (legal_groups _ _ _ h)

  arith_inside : (op : VectorOp) → Legal op
      → ArithInside (target_emul (shape_of op) t) (first_emul (shape_of op) t) (vector_source (shape_of op) 0 t).emul vd vs2 from
  arith_inside op h = shape_inside vd vs2 t (shape_of op) from (arith_groups op h)

  pub binary_inside : (op : BinaryOp) → Legal (vector_op.Binary op) → SingleInside vd vs2 from t
  binary_inside op h = arith_inside (vector_op.Binary op) h

  pub fixed_point_inside : (op : FixedPointOp) → Legal (vector_op.FixedPoint op) → SingleInside vd vs2 from t
  fixed_point_inside op h = arith_inside (vector_op.FixedPoint op) h

  pub multiply_add_inside : (op : MultiplyAddOp) → Legal (vector_op.MultiplyAdd op) → SingleInside vd vs2 from t
  multiply_add_inside op h = arith_inside (vector_op.MultiplyAdd op) h

  pub compare_inside : (op : CompareOp) → Legal (vector_op.Compare op) → ArithInside 8 (lmul_eighths t.lmul) (lmul_eighths t.lmul) vd vs2 from
  compare_inside op h = arith_inside (vector_op.Compare op) h

  pub carry_out_inside : (op : CarryOutOp) → Legal (vector_op.CarryOut op) → ArithInside 8 (lmul_eighths t.lmul) (lmul_eighths t.lmul) vd vs2 from
  carry_out_inside op h = arith_inside (vector_op.CarryOut op) h

  -- the result has twice the width
  pub widen_inside : (op : WidenOp) → Legal (vector_op.Widen op) → DoubleInside (2 * lmul_eighths t.lmul) (lmul_eighths t.lmul) vd vs2 from t
  widen_inside op h = record { double = has_double Write vd t (arith_groups (vector_op.Widen op) h).target; groups = arith_inside (vector_op.Widen op) h }

  pub widen_multiply_add_inside : (op : WidenMultiplyAddOp) → Legal (vector_op.WidenMultiplyAdd op)
      → DoubleInside (2 * lmul_eighths t.lmul) (lmul_eighths t.lmul) vd vs2 from t
  widen_multiply_add_inside op h =
      record { double = has_double Write vd t (arith_groups (vector_op.WidenMultiplyAdd op) h).target; groups = arith_inside (vector_op.WidenMultiplyAdd op) h }

  -- the result and the first source have twice the width
  pub wide_source_inside : (op : WideSourceOp) → Legal (vector_op.WideSource op)
      → DoubleInside (2 * lmul_eighths t.lmul) (2 * lmul_eighths t.lmul) vd vs2 from t
  wide_source_inside op h =
      record { double = has_double Write vd t (arith_groups (vector_op.WideSource op) h).target; groups = arith_inside (vector_op.WideSource op) h }

  -- only the first source has twice the width
  pub narrow_shift_inside : (op : NarrowShiftOp) → Legal (vector_op.NarrowShift op) → DoubleInside (lmul_eighths t.lmul) (2 * lmul_eighths t.lmul) vd vs2 from t
  narrow_shift_inside op h =
      record { double = has_double Read vs2 t (arith_groups (vector_op.NarrowShift op) h).first; groups = arith_inside (vector_op.NarrowShift op) h }

  pub clip_inside : (op : ClipOp) → Legal (vector_op.Clip op) → DoubleInside (lmul_eighths t.lmul) (2 * lmul_eighths t.lmul) vd vs2 from t
  clip_inside op h = record { double = has_double Read vs2 t (arith_groups (vector_op.Clip op) h).first; groups = arith_inside (vector_op.Clip op) h }

  -- the initial value of a reduction is in one register, and so is its result
  pub reduce_inside : (op : ReduceOp) → Legal (vector_op.Reduce op) → ArithInside 8 (lmul_eighths t.lmul) 8 vd vs2 from
  reduce_inside op h = arith_inside (vector_op.Reduce op) h

  pub widen_reduce_inside : (op : WidenReduceOp) → Legal (vector_op.WidenReduce op) → (sew_bits t.sew ≤ 32) × ArithInside 8 (lmul_eighths t.lmul) 8 vd vs2 from
  widen_reduce_inside op h =
      (wide_fits t.sew (arith_groups (vector_op.WidenReduce op) h).target.width.1, arith_inside (vector_op.WidenReduce op) h)

-- ---- slides and gathers

indices_fit : (s : Sew) (l : Lmul) → 2 * (lmul_eighths l * VLEN / (8 * sew_bits s)) ≤ VLENB * registers (16 * lmul_eighths l / bits (sew_width s))
indices_fit s l = search arith

-- the operands of a slide or gather
pub record PermuteInside (op : PermuteOp) (vd vs2 : ℕ) (from : Source) (t : VType) : Type 0 where
  pub destination : IsInside vd (lmul_eighths t.lmul)
  pub first : IsInside vs2 (lmul_eighths t.lmul)
  pub indices : (vl : ℕ) → vl ≤ vlmax t → HasIndices from (source_type op (group_type t)).width (source_type op (group_type t)).emul vl

pub permute_inside : (op : PermuteOp) (from : Source) (vd vs2 : ℕ) (vm : Bool) (t : VType) (vstart : ℕ)
    → is_legal (instr.Vector (Arith (vector_op.Permute op, from) vd vs2 vm)) (Some t) vstart ≡ true → PermuteInside op vd vs2 from t
permute_inside op from vd vs2 vm t vstart h = record {
  destination = target op (arith_inside from vd vs2 vm t vstart (vector_op.Permute op) h).destination;
  first = first op (arith_inside from vd vs2 vm t vstart (vector_op.Permute op) h).first;
  indices = indices op from (arith_groups from vd vs2 vm t vstart (vector_op.Permute op) h).second;
}
  where
    target : (op : PermuteOp) → IsInside vd (target_emul (shape_of (vector_op.Permute op)) t) → IsInside vd (lmul_eighths t.lmul)
    target Vrgather h = h
    target _ h = h

    first : (op : PermuteOp) → IsInside vs2 (first_emul (shape_of (vector_op.Permute op)) t) → IsInside vs2 (lmul_eighths t.lmul)
    first Vrgather h = h
    first _ h = h

    indices : (op : PermuteOp) (from : Source) → SecondIsGroup (shape_of (vector_op.Permute op)) from t → (vl : ℕ) → vl ≤ vlmax t
        → HasIndices from (source_type op (group_type t)).width (source_type op (group_type t)).emul vl
    indices Vrgatherei16 (source.V vs1) g vl h = (inside vs1 (with_width w16 (group_type t)).emul (with_width w16 (group_type t)).emul refl g.inside, record { most = g.most; room = omega (arith, h, indices_fit t.sew t.lmul) })
    indices _ (source.V vs1) g vl h = (sew_group vs1 t g.inside, groups_have_room t vl h)
    indices _ _ g vl h = tt

-- ---- operations without their own row in the manual's table

pub carry_inside : (op : CarryOp) (from : Source) (vd vs2 : ℕ) (t : VType) (vstart : ℕ)
    → is_legal (instr.Vector (Carry (op, from) vd vs2)) (Some t) vstart ≡ true → SingleInside vd vs2 from t
unfolding operands
carry_inside op from vd vs2 t vstart h = shape_inside vd vs2 t Single from (shape_groups Single vd vs2 from false t (legal_groups _ _ _ h))

-- the destination and the source of a move
pub record MoveInside (vd : ℕ) (from : Source) (t : VType) : Type 0 where
  pub destination : IsInside vd (lmul_eighths t.lmul)
  pub second : SourceIsInside from (lmul_eighths t.lmul)

pub move_inside : (from : Source) (vd : ℕ) (t : VType) (vstart : ℕ) → is_legal (instr.Vector (Move from vd)) (Some t) vstart ≡ true → MoveInside vd from t
unfolding operands
move_inside from vd t vstart h = record {
  destination = sew_group vd t (first_of (destination Single vd t) (second_source Single from t) (legal_groups _ _ _ h)).inside;
  second = second from (legal_groups _ _ _ h);
}
  where
    second : (from : Source) → All IsGroup (destination Single vd t ∷ second_source Single from t) → SourceIsInside from (lmul_eighths t.lmul)
    second (source.V vs1) groups = sew_group vs1 t (groups 1 (mask Read 0) (lit< tt)).inside
    second _ groups = tt

pub iota_inside : (vd vs2 : ℕ) (vm : Bool) (t : VType) (vstart : ℕ)
    → is_legal (instr.Vector (MaskUnary mask_unary.Viota vd vs2 vm)) (Some t) vstart ≡ true → IsInside vd (lmul_eighths t.lmul)
unfolding operands
iota_inside vd vs2 vm t vstart h = sew_group vd t (first_of (group Apart vd (group_type t)) (mask Read vs2 ∷ v0 vm) (legal_groups _ _ _ h)).inside

pub index_inside : (vd : ℕ) (vm : Bool) (t : VType) (vstart : ℕ)
    → is_legal (instr.Vector (ElementIndex vd vm)) (Some t) vstart ≡ true → IsInside vd (lmul_eighths t.lmul)
unfolding operands
index_inside vd vm t vstart h = sew_group vd t (first_of (group Write vd (group_type t)) (v0 vm) (legal_groups _ _ _ h)).inside

-- ---- sources with a fraction of SEW

-- with the same fraction of the width and of the multiplier, a group has room for VLMAX elements
part_fits : (o : ExtendOp) (s : Sew) (l : Lmul)
    → (nat_lt (sew_bits s / extension_divisor o) 8 || (nat_lt (lmul_eighths l / extension_divisor o) 1
    || nat_le (width_bytes (part_width o (sew_width s)) * (lmul_eighths l * VLEN / (8 * sew_bits s))) (VLENB * registers (lmul_eighths l / extension_divisor o)))) ≡ true
part_fits o s l = search (arith, nat_tests)

fewer_part : (o : ExtendOp) (n : ℕ) → n / extension_divisor o ≤ n
fewer_part o n = search arith

-- groups with the same fraction of the width and of the multiplier have room for the body
pub part_groups_have_room : (o : ExtendOp) (t : VType) (vl : ℕ) → vl ≤ vlmax t → 8 ≤ sew_bits t.sew / extension_divisor o
    → 1 ≤ lmul_eighths t.lmul / extension_divisor o
    → HasRoom (part_width o (sew_width t.sew)) (lmul_eighths t.lmul / extension_divisor o) vl
part_groups_have_room o t vl h wide least =
    let up : width_bytes (part_width o (sew_width t.sew)) * vl ≤ width_bytes (part_width o (sew_width t.sew)) * vlmax t =
    mul-le-mul_left (width_bytes (part_width o (sew_width t.sew))) h in
    let all = from_test _ _ _ _ (part_fits o t.sew t.lmul) wide least in
    record { most = omega (arith, fewer_part o (lmul_eighths t.lmul), multiplier_fits t.lmul); room = omega (arith, up, all) }
  where
    from_test : (a b c d : ℕ) → (nat_lt a 8 || (nat_lt b 1 || nat_le c d)) ≡ true → 8 ≤ a → 1 ≤ b → c ≤ d
    from_test a b c d h wide least = grind (arith, nat_tests)

-- the operands of an extension
pub record ExtensionInside (o : ExtendOp) (vd vs2 : ℕ) (t : VType) : Type 0 where
  pub wide : 8 ≤ sew_bits t.sew / extension_divisor o
  pub least : 1 ≤ lmul_eighths t.lmul / extension_divisor o
  pub destination : IsInside vd (lmul_eighths t.lmul)
  pub first : IsInside vs2 (lmul_eighths t.lmul / extension_divisor o)

pub extension_inside : (o : ExtendOp) (vd vs2 : ℕ) (vm : Bool) (t : VType) (vstart : ℕ)
    → is_legal (instr.Vector (Extend o vd vs2 vm)) (Some t) vstart ≡ true → ExtensionInside o vd vs2 t
unfolding operands
extension_inside o vd vs2 vm t vstart h =
    let source = second_of (group Write vd (group_type t)) (extension_source o vs2 t) (v0 vm) (legal_groups _ _ _ h) in
    let same : (part_type o t).emul ≡ lmul_eighths t.lmul / extension_divisor o = (search arith) in
    record {
      wide = source.width.0;
      least = subst (λ n. 1 ≤ n) same source.least;
      destination = sew_group vd t (first_of (group Write vd (group_type t)) (extension_source o vs2 t ∷ v0 vm) (legal_groups _ _ _ h)).inside;
      first = inside vs2 (part_type o t).emul (lmul_eighths t.lmul / extension_divisor o) same source.inside;
    }
