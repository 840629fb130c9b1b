-- A vector operation changes only register bits of the elements that `changes` selects.
use Rattle.std.proofs.Common.{◌⊎◌, get_or, ◌≡◌, refl, ℕ, ◌+◌, ◌-◌, ◌*◌, ◌/◌, ◌==◌, ◌<◌, ◌≤◌, ◌&&◌, ◌||◌, Bool, true, false, List, length, max, Option, Some, None, arith}
use Rattle.std.specs.Prelude.{nat_le, nat_lt, not}
use Rattle.std.specs.Int.{Width}
use Rattle.std.specs.Option.{option_map_or}
use Rattle.std.proofs.lemmas.Bool.Decides.{nat_tests}
use mir.Val.{bits}
use Rattle.std.specs.Prelude.{[]}
use Rattle.rv_model.specs.declared.instructions.instruction.Instr.TheVariants as instr
use Rattle.rv_model.specs.declared.instructions.operations.MaskUnaryOp.TheVariants.{Scan, Viota}
use Rattle.rv_model.specs.declared.instructions.operations.PermuteOp.{PermuteOp}
use Rattle.rv_model.specs.declared.instructions.operations.PermuteOp.TheVariants.{Vslideup}
use Rattle.rv_model.specs.declared.instructions.operations.VectorOp.{VectorOp}
use Rattle.rv_model.specs.declared.instructions.operations.VectorOp.TheVariants.{CarryOut, Compare, Widen, WideSource, WidenMultiplyAdd, Reduce, WidenReduce, Permute}
use Rattle.rv_model.specs.declared.instructions.source.Source.{Source}
use Rattle.rv_model.specs.declared.instructions.vector.VectorInstr.{VectorInstr}
use Rattle.rv_model.specs.declared.instructions.vector.VectorInstr.TheVariants.{Arith, Carry, Move, WholeMove, MaskLogic, Compress, Extend, MaskToScalar, MaskUnary, ElementIndex, MoveToVector}
use Rattle.rv_model.specs.declared.legality.Operand.{Operand}
use Rattle.rv_model.specs.declared.vector.types.VType.{VType}
use Rattle.rv_model.specs.elements.Arithmetic.{group_element, fills_masked_off, fills_tail, with_first_result, with_mask_results, with_results}
use Rattle.rv_model.specs.elements.Bodies.{operation_body}
use Rattle.rv_model.specs.elements.Elements.{Body, byte_with_bits, written, written_bits, in_body, in_range, is_active, is_changed, is_enabled, mask_bit}
use Rattle.rv_model.specs.elements.PermutationResults.{permute_body, with_packed}
use Rattle.rv_model.specs.legality.Legality.{operands}
use Rattle.rv_model.specs.legality.OperandShapes.{shape_of, shape_operands}
use Rattle.rv_model.specs.step.Hart.{HartState}
use Rattle.rv_model.specs.step.Step.{arith_over, typed_over}
use Rattle.rv_model.specs.vector.Groups.{GroupType, group_of, width_bytes, with_group, group_type, register_of, registers, wide_type, whole_type}
use Rattle.rv_model.proofs.Choices.{of_bool}
use Rattle.rv_model.proofs.element_lemmas.Widths.{bytes_positive}
use Rattle.rv_model.proofs.element_lemmas.Writes.{written_are}
use Rattle.rv_model.specs.lending.Writes.{Writes}
use Rattle.rv_model.specs.legality.RegisterOperands.{eew}
use Rattle.std.proofs.lemmas.List.FromFn.{length-map-range_with_len}
use Rattle.std.proofs.lemmas.Simd.{length-put_chunk}
use Rattle.rv_model.proofs.element_lemmas.Sets.{from_start, inside_range, to_end}
use Rattle.rv_model.specs.step.Changes.{DiffersAtMost, arith_changes, changes, destination_of, written_of}
use Rattle.rv_model.proofs.element_lemmas.KeptBits.{Unchanged, beside, bits_kept, elements_kept}
use Rattle.rv_model.proofs.element_lemmas.Packed.{packed_few}

-- ---- tests

pub second_of : (inside picks : Bool) → (inside && picks) ≡ false → inside ≡ true → picks ≡ false
second_of inside picks h e = search

-- a bit of the group that belongs to an element that isn't selected
unchanged : (vd count eew : ℕ) (changed : ℕ → Bool) (n : ℕ) → (in_range (256 * vd) (256 * (vd + count)) n && changed ((n - 256 * vd) / eew)) ≡ false → Unchanged vd count eew changed n
unchanged vd count eew changed n h from to = search (inside_range, second_of)

-- ---- permutations that leave some elements of the body unchanged

less : (x y on off tail : Bool) → (x ≡ true → y ≡ true) → ((y && on) || ((off && (y && not on)) || tail)) ≡ false → ((x && on) || ((off && (x && not on)) || tail)) ≡ false
less x y on off tail h e = search (arith, nat_tests)

later : (start more end e : ℕ) → in_range (max start more) end e ≡ true → in_range start end e ≡ true
later start more end e h = inside_range start end e (omega (arith, from_start (max start more) end e h)) (to_end (max start more) end e h)

-- ---- packed elements

fewer : (size vl e : ℕ) (fill : Bool) → size ≤ vl → (nat_lt e vl || (fill && nat_le vl e)) ≡ false → (nat_lt e size || (fill && nat_le vl e)) ≡ false
fewer size vl e fill h is = search (arith, nat_tests, of_bool)

module _ (s : HartState) (long : length s.vector.file ≡ 1024) where
  -- ---- writes of a group

  -- only selected elements differ, in `count` registers from vd on; eew is the width of an element in bits
  abbrev Wrote : ℕ → ℕ → ℕ → (ℕ → Bool) → List ℕ → Type 0
  Wrote vd count eew changed file =
      (length file ≡ length s.vector.file) × (((k : ℕ) → (k < 32 * vd) ⊎ (32 * (vd + count) ≤ k) → get_or file k 0 ≡ get_or s.vector.file k 0)
      × ((n : ℕ) → (in_range (256 * vd) (256 * (vd + count)) n && changed ((n - 256 * vd) / eew)) ≡ false → mask_bit file n ≡ mask_bit s.vector.file n))

  -- each written element is selected by `named`
  elements_wrote : (g : GroupType) (vd count : ℕ) (changed named : ℕ → Bool) (number : ℕ → ℕ) → registers g.emul ≤ count → ((e : ℕ) → named e ≡ false → changed e ≡ false)
      → Wrote vd count (bits g.width) named (with_group s.vector.file vd (written (width_bytes g.width) changed number (group_of s.vector.file vd g.emul)))
  elements_wrote g vd count changed named number fits less =
      let k : ℕ = width_bytes g.width in
      let group : List ℕ = group_of s.vector.file vd g.emul in
      let w : Writes k changed number group (written k changed number group) = written_are k changed number group (bytes_positive g.width) in (
        length-put_chunk (32 * vd) s.vector.file (written k changed number group),
        (
          beside s.vector.file (written k changed number group) vd g.emul long w.same_length count fits,
          λ n h. elements_kept s.vector.file g vd count changed number n long fits (λ from to. less _ (unchanged vd count (bits g.width) named n h from to)),
        ),
      )

  results : (g : GroupType) (vd count : ℕ) (body : Body) (masked tail : Bool) (result : ℕ → ℕ) → registers g.emul ≤ count
      → Wrote vd count (bits g.width) (is_changed body masked tail) (with_results g vd body masked tail result s.vector.file)
  unfolding with_results
  results g vd count body masked tail result fits = elements_wrote g vd count _ (is_changed body masked tail) _ fits (λ e h. h)

  fewer_results : (g : GroupType) (vd count : ℕ) (body smaller : Body) (masked tail : Bool) (result : ℕ → ℕ) → registers g.emul ≤ count
      → ((e : ℕ) → is_changed body masked tail e ≡ false → is_changed smaller masked tail e ≡ false)
      → Wrote vd count (bits g.width) (is_changed body masked tail) (with_results g vd smaller masked tail result s.vector.file)
  unfolding with_results
  fewer_results g vd count body smaller masked tail result fits less = elements_wrote g vd count _ (is_changed body masked tail) _ fits less

  first : (width : Width) (vd count : ℕ) (body : Body) (tail : Bool) (result : ℕ) → 1 ≤ count
      → Wrote vd count (bits width) (λ e. nat_lt body.start body.end && (e == 0 || tail)) (with_first_result width vd body tail result s.vector.file)
  unfolding with_first_result
  first width vd count body tail result fits =
      elements_wrote (record { width = width; emul = 8 }) vd count _ (λ e. nat_lt body.start body.end && (e == 0 || tail)) _ fits (λ e h. h)

  bits_of : (vd count : ℕ) (body : Body) (bit : ℕ → Bool) → 1 ≤ count → Wrote vd count 1 (is_active body) (with_mask_results vd body bit s.vector.file)
  unfolding with_mask_results written_bits
  bits_of vd count body bit fits =
      let group : List ℕ = group_of s.vector.file vd 8 in (
        length-put_chunk (32 * vd) s.vector.file (written_bits (is_active body) bit group),
        (
          beside s.vector.file (written_bits (is_active body) bit group) vd 8 long (length-map-range_with_len (byte_with_bits (is_active body) bit group) 0 (length group)) count fits,
          λ n h. bits_kept s.vector.file vd count (is_active body) bit n long fits (unchanged vd count 1 (is_active body) n h),
        ),
      )

  packs : (g : GroupType) (vd count vl : ℕ) (tail : Bool) (numbers : List ℕ) → registers g.emul ≤ count → length numbers ≤ vl
      → Wrote vd count (bits g.width) (λ e. nat_lt e vl || (tail && nat_le vl e)) (with_packed g vd vl tail numbers s.vector.file)
  unfolding with_packed
  packs g vd count vl tail numbers fits small = search (elements_wrote, fewer)

  -- ---- each instruction

  -- the destination is the only operand that is written
  abbrev Unless : Option Operand → (ℕ → Bool) → List ℕ → Type 0
  Unless None changed file = file ≡ s.vector.file
  Unless (Some o) changed file = Wrote o.first (o.fields * registers o.emul) (eew o.content) changed file

  abbrev ArithStays : VType → VectorOp → Source → ℕ → ℕ → Bool → Body → Type 0
  ArithStays t op source vd vs2 vm b =
      Unless (written_of (shape_operands (shape_of op) vd vs2 source vm t)) (arith_changes op t s.policy b)
      (arith_over t (group_type t) (wide_type t) op source vd vs2 vm b s).state.vector.file

  permute_stays : (t : VType) (op : PermuteOp) (source : Source) (vd vs2 : ℕ) (vm : Bool) (b : Body) → ArithStays t (Permute op) source vd vs2 vm b
  unfolding shape_operands
  permute_stays t Vslideup source vd vs2 vm b =
      fewer_results (group_type t) vd _ b (permute_body Vslideup source s.scalar b) (fills_masked_off s.policy t b) (fills_tail s.policy t b) _ (omega arith)
      (λ e. less (in_body (permute_body Vslideup source s.scalar b) e) (in_body b e) (is_enabled b e) (fills_masked_off s.policy t b) (fills_tail s.policy t b && nat_le b.end e)
      (later b.start _ b.end e))
  permute_stays t _ source vd vs2 vm b = results (group_type t) vd _ b _ _ _ (omega arith)

  arith_stays : (t : VType) (op : VectorOp) (source : Source) (vd vs2 : ℕ) (vm : Bool) (b : Body) → ArithStays t op source vd vs2 vm b
  unfolding shape_operands
  arith_stays t (Compare op) source vd vs2 vm b = bits_of vd _ b _ (omega arith)
  arith_stays t (CarryOut op) source vd vs2 vm b = bits_of vd _ b _ (omega arith)
  arith_stays t (Widen op) source vd vs2 vm b = results (wide_type t) vd _ b _ _ _ (omega arith)
  arith_stays t (WideSource op) source vd vs2 vm b = results (wide_type t) vd _ b _ _ _ (omega arith)
  arith_stays t (WidenMultiplyAdd op) source vd vs2 vm b = results (wide_type t) vd _ b _ _ _ (omega arith)
  arith_stays t (Reduce op) source vd vs2 vm b = first _ vd _ b _ _ (omega arith)
  arith_stays t (WidenReduce op) source vd vs2 vm b = first _ vd _ b _ _ (omega arith)
  arith_stays t (Permute op) source vd vs2 vm b = permute_stays t op source vd vs2 vm b
  arith_stays t _ source vd vs2 vm b = results (group_type t) vd _ b _ _ _ (omega arith)

  typed_stays : (i : VectorInstr) (t : VType) (b : Body)
      → Unless (written_of (option_map_or (λ os. os) (operands (instr.Vector i) (Some t)) [])) (changes i t s.policy b) (typed_over i b t s).state.vector.file
  unfolding operands shape_operands
  typed_stays (Arith a vd vs2 vm) t b = arith_stays t a.0 a.1 vd vs2 vm b
  typed_stays (Move from vd) t b = results (group_type t) vd _ b _ _ _ (omega arith)
  typed_stays (Carry carry vd vs2) t b = results (group_type t) vd _ b _ _ _ (omega arith)
  typed_stays (Extend op vd vs2 vm) t b = results (group_type t) vd _ b _ _ _ (omega arith)
  typed_stays (MaskLogic op vd vs1 vs2) t b = bits_of vd _ b _ (omega arith)
  typed_stays (MaskUnary (Scan op) vd vs2 vm) t b = bits_of vd _ b _ (omega arith)
  typed_stays (MaskUnary Viota vd vs2 vm) t b = results (group_type t) vd _ b _ _ _ (omega arith)
  typed_stays (ElementIndex vd vm) t b = results (group_type t) vd _ b _ _ _ (omega arith)
  typed_stays (Compress vd vs1 vs2) t b =
      packs (group_type t) vd _ b.end _ _ (omega arith) (packed_few (register_of s.vector.file vs1) (group_element (group_type t) s.vector.file vs2) b.end)
  typed_stays (MoveToVector vd rs1) t b = first _ vd _ b _ _ (omega arith)
  typed_stays (WholeMove count vd vs2) t b = results (whole_type t count) vd _ b false false _ (omega arith)
  typed_stays (MaskToScalar op rd vs2 true) t b = refl
  typed_stays (MaskToScalar op rd vs2 false) t b = refl
  typed_stays _ t b = refl

-- The law of one operation under a vector type, applied to its body.
pub typed_keeps : (i : VectorInstr) (t : VType) (s : HartState) → length s.vector.file ≡ 1024
    → DiffersAtMost (destination_of i (Some t)) (changes i t s.policy (operation_body i t s.vector)) s.vector.file (typed_over i (operation_body i t s.vector) t s).state.vector.file
typed_keeps i t s long = differs _ _ _ (typed_stays s long i t (operation_body i t s.vector))
  where
    differs : (o : Option Operand) (changed : ℕ → Bool) (file : List ℕ) → Unless s long o changed file → DiffersAtMost o changed s.vector.file file
    differs None changed file is = is
    differs (Some o) changed file is = record { size = is.0; outside = is.1.0; elements = is.1.1 }
