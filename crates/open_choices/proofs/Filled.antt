-- What each vector operation leaves under the two policies: the policy `ones` fills what `typed_fill` says, and nothing else.
use Rattle.std.proofs.Common.{ℕ, ◌≡◌, ◌≤◌, List, length, Bool, true, false, cond, ◌&&◌, ◌||◌, nat_le, Option, Some, None, refl, sym, ap, arith}
use Rattle.std.specs.Int.{Width}
use Rattle.std.specs.Prelude.{nat_lt, not}
use Rattle.std.proofs.lemmas.Bool.Decides.{nat_tests}
use Rattle.rv_model.specs.declared.instructions.operations.MaskUnaryOp.TheVariants.{Scan, Viota}
use Rattle.rv_model.specs.declared.instructions.operations.VectorOp.{VectorOp}
use Rattle.rv_model.specs.declared.instructions.operations.VectorOp.TheVariants.{CarryOut, Compare, Widen, WideSource, WidenMultiplyAdd, Reduce, WidenReduce, Permute}
use Rattle.rv_model.specs.declared.instructions.source.Source.{Source}
use Rattle.rv_model.specs.declared.instructions.vector.VectorInstr.{VectorInstr}
use Rattle.rv_model.specs.declared.instructions.vector.VectorInstr.TheVariants.{Arith, Carry, Move, Compress, Extend, MaskToScalar, MaskUnary, ElementIndex, MoveToVector}
use Rattle.rv_model.specs.declared.vector.policy.Policy.{Policy}
use Rattle.rv_model.specs.declared.vector.policy.Policy.TheVariants.{Keep, Ones}
use Rattle.rv_model.specs.declared.vector.types.VType.{VType}
use Rattle.rv_model.specs.elements.Arithmetic.{fills_tail, group_element, with_first_result, with_results}
use Rattle.rv_model.specs.elements.Elements.{Body, in_body, is_active, is_changed, is_enabled, result_or_ones}
use Rattle.rv_model.specs.elements.Formulas.{ones}
use Rattle.rv_model.specs.elements.PermutationResults.{is_packed_or_filled, packed_or_ones, with_packed}
use Rattle.rv_model.specs.lending.Writes.{element_zero}
use Rattle.rv_model.specs.step.Hart.{HartState}
use Rattle.rv_model.specs.step.Step.{arith_over, typed_over}
use Rattle.rv_model.specs.vector.Groups.{GroupType, group_of, group_type, register_of, single_type, wide_type, width_bytes, with_group}
use Rattle.rv_model.proofs.element_lemmas.Packed.{packed_few}
use Rattle.rv_model.proofs.element_lemmas.Tails.{first_result_is}
use Rattle.rv_model.proofs.element_lemmas.Widths.{bytes_positive}
use Rattle.rv_model.proofs.element_lemmas.Writes.{writes_are, writes_same, written_are}
use Rattle.open_choices.specs.Fills.{Fill, arith_fill, is_filled, typed_fill}
use Rattle.open_choices.proofs.Overlays.{FillsBy}

-- ---- results

-- the elements that the policy `ones` changes are those that `keep` changes and those that are filled
same_set : (a b e o t p : Bool)
    → ((a || ((false && (b && not e)) || (false && p))) || ((o && (b && not e)) || (t && p))) ≡ (a || ((o && (b && not e)) || (t && p)))
same_set true b e o t p = refl
same_set false b e o t p = refl

module _ (g : GroupType) (vd : ℕ) (b : Body) (masked tail : Bool) (result : ℕ → ℕ) (old : List ℕ) where
  abbrev fill : Fill
  fill = record { group = g; first = vd; body = b; masked_off = masked; tail = tail }

  abbrev k : ℕ
  k = width_bytes g.width

  abbrev all : ℕ
  all = ones g.width

  abbrev number : ℕ → ℕ
  number e = result_or_ones b result all e

  abbrev group : List ℕ
  group = group_of old vd g.emul

  results_apart : (i : ℕ) → is_filled fill i ≡ true → is_changed b false false i ≡ false
  results_apart i h = grind (arith, nat_tests)

  one_is : (i : ℕ) → number i ≡ cond (is_changed b false false i) (number i) all
  one_is i = by_active (is_active b i) (result i)
    where
      by_active : (a : Bool) (r : ℕ) → cond a r all ≡ cond (a || ((false && (in_body b i && not (is_enabled b i))) || (false && nat_le b.end i))) (cond a r all) all
      by_active true r = refl
      by_active false r = refl

  pub of_results : FillsBy fill old (with_results g vd b false false result old) (with_results g vd b masked tail result old)
  unfolding with_results
  of_results =
      record {
        base = is_changed b false false;
        number = number;
        apart = results_apart;
        kept_is = refl;
        filled_is = ap (λ bytes. with_group old vd bytes)
            (writes_are k (λ i. is_changed b false false i || is_filled fill i) (λ i. cond (is_changed b false false i) (number i) all) group _ (bytes_positive g.width)
            (writes_same k (is_changed b masked tail) (λ i. is_changed b false false i || is_filled fill i) number (λ i. cond (is_changed b false false i) (number i) all) group _
            (written_are k (is_changed b masked tail) number group (bytes_positive g.width))
            (λ e h. same_set (is_active b e) (in_body b e) (is_enabled b e) masked tail (nat_le b.end e)) (λ e h. sym (one_is e))));
      }

-- ---- one result in element 0

moved : (f : Fill) (old kept filled kept' filled' : List ℕ) → kept ≡ kept' → filled ≡ filled' → FillsBy f old kept filled → FillsBy f old kept' filled'
moved f old kept filled kept' filled' p q by = rw (← p, ← q) by

first_results : (width : Width) (vd : ℕ) (t : VType) (b : Body) (result : ℕ) (old : List ℕ)
    → FillsBy (record { group = single_type width; first = vd; body = element_zero b; masked_off = false; tail = fills_tail Ones t b }) old
    (with_first_result width vd b (fills_tail Keep t b) result old) (with_first_result width vd b (fills_tail Ones t b) result old)
first_results width vd t b result old =
    moved _ old _ _ _ _ (first_result_is width vd Keep t b result old) (first_result_is width vd Ones t b result old)
    (of_results (single_type width) vd (element_zero b) false (fills_tail Ones t b) (λ i. result) old)

-- ---- vcompress

packed_results : (g : GroupType) (vd : ℕ) (b : Body) (tail : Bool) (numbers old : List ℕ) → length numbers ≤ b.end
    → FillsBy (record { group = g; first = vd; body = b; masked_off = false; tail = tail }) old
    (with_packed g vd b.end false numbers old) (with_packed g vd b.end tail numbers old)
unfolding with_packed
packed_results g vd b tail numbers old few =
    record {
      base = is_packed_or_filled numbers b.end false;
      number = packed_or_ones numbers (ones g.width);
      apart = λ i h. away i h;
      kept_is = refl;
      filled_is = ap (λ bytes. with_group old vd bytes)
          (writes_are k changed one group _ (bytes_positive g.width)
          (writes_same k (is_packed_or_filled numbers b.end tail) changed (packed_or_ones numbers (ones g.width)) one group _
          (written_are k (is_packed_or_filled numbers b.end tail) (packed_or_ones numbers (ones g.width)) group (bytes_positive g.width))
          (λ e h. set_is (nat_lt e (length numbers)) tail (in_body b e && not (is_enabled b e)) (nat_le b.end e)) (λ e h. one_is' e)));
    }
  where
    fill : Fill
    fill = record { group = g; first = vd; body = b; masked_off = false; tail = tail }

    k : ℕ
    k = width_bytes g.width

    group : List ℕ
    group = group_of old vd g.emul

    changed : ℕ → Bool
    changed i = is_packed_or_filled numbers b.end false i || is_filled fill i

    one : ℕ → ℕ
    one i = cond (is_packed_or_filled numbers b.end false i) (packed_or_ones numbers (ones g.width) i) (ones g.width)

    away : (i : ℕ) → is_filled fill i ≡ true → is_packed_or_filled numbers b.end false i ≡ false
    away i h = grind (arith, nat_tests, few)

    set_is : (a t m p : Bool) → ((a || (false && p)) || ((false && m) || (t && p))) ≡ (a || (t && p))
    set_is true t m p = refl
    set_is false t m p = refl

    by_one : (a p : Bool) (x y : ℕ) → cond (a || (false && p)) (cond a x y) y ≡ cond a x y
    by_one true p x y = refl
    by_one false p x y = refl

    one_is' : (e : ℕ) → one e ≡ packed_or_ones numbers (ones g.width) e
    one_is' e = by_one (nat_lt e (length numbers)) (nat_le b.end e) _ (ones g.width)

-- ---- each operation

abbrev pub under : Policy → HartState → HartState
under p s = record s { policy = p }

-- what an operation leaves under the two policies
abbrev pub Filled : Option Fill → List ℕ → List ℕ → List ℕ → Type 0
Filled None old kept filled = filled ≡ kept
Filled (Some f) old kept filled = FillsBy f old kept filled

module _ (s : HartState) where
  arith_filled : (t : VType) (op : VectorOp) (source : Source) (vd vs2 : ℕ) (vm : Bool) (b : Body)
      → Filled (arith_fill op source vd b t s.scalar) s.vector.file
      (arith_over t (group_type t) (wide_type t) op source vd vs2 vm b (under Keep s)).state.vector.file
      (arith_over t (group_type t) (wide_type t) op source vd vs2 vm b (under Ones s)).state.vector.file
  arith_filled t (Compare op) source vd vs2 vm b = refl
  arith_filled t (CarryOut op) source vd vs2 vm b = refl
  arith_filled t (Widen op) source vd vs2 vm b = of_results (wide_type t) vd b _ _ _ _
  arith_filled t (WideSource op) source vd vs2 vm b = of_results (wide_type t) vd b _ _ _ _
  arith_filled t (WidenMultiplyAdd op) source vd vs2 vm b = of_results (wide_type t) vd b _ _ _ _
  arith_filled t (Reduce op) source vd vs2 vm b = first_results _ vd t b _ _
  arith_filled t (WidenReduce op) source vd vs2 vm b = first_results _ vd t b _ _
  arith_filled t (Permute op) source vd vs2 vm b = of_results (group_type t) vd _ _ _ _ _
  arith_filled t _ source vd vs2 vm b = of_results (group_type t) vd b _ _ _ _

  pub typed_filled : (i : VectorInstr) (t : VType) (b : Body)
      → Filled (typed_fill i b t s.scalar) s.vector.file (typed_over i b t (under Keep s)).state.vector.file (typed_over i b t (under Ones s)).state.vector.file
  typed_filled (Arith a vd vs2 vm) t b = arith_filled t a.0 a.1 vd vs2 vm b
  typed_filled (Carry carry vd vs2) t b = of_results (group_type t) vd b _ _ _ _
  typed_filled (Move from vd) t b = of_results (group_type t) vd b _ _ _ _
  typed_filled (Extend op vd vs2 vm) t b = of_results (group_type t) vd b _ _ _ _
  typed_filled (MaskUnary (Scan op) vd vs2 vm) t b = refl
  typed_filled (MaskUnary Viota vd vs2 vm) t b = of_results (group_type t) vd b _ _ _ _
  typed_filled (ElementIndex vd vm) t b = of_results (group_type t) vd b _ _ _ _
  typed_filled (Compress vd vs1 vs2) t b =
      packed_results (group_type t) vd b _ _ _ (packed_few (register_of s.vector.file vs1) (group_element (group_type t) s.vector.file vs2) b.end)
  typed_filled (MoveToVector vd rs1) t b = first_results _ vd t b _ _
  typed_filled (MaskToScalar op rd vs2 true) t b = refl
  typed_filled (MaskToScalar op rd vs2 false) t b = refl
  typed_filled _ t b = refl
