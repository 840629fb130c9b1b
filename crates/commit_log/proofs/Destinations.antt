-- The registers that an instruction writes are those of its destination.
use Rattle.std.proofs.Common.{◌≡◌, refl, sym, ap, ◌∙◌, ℕ, ◌*◌, ◌/◌, Bool, true, false, List, [], ◌∷◌, ◌++◌, flat_map, append-nil, arith, Some}
use Rattle.std.specs.List.{filter}
use mir.Val.{bits}
use Rattle.rv_model.specs.declared.instructions.instruction.Instr.TheVariants as instr
use Rattle.rv_model.specs.declared.instructions.operations.PermuteOp.{PermuteOp}
use Rattle.rv_model.specs.declared.instructions.operations.PermuteOp.TheVariants.{Vrgatherei16}
use Rattle.rv_model.specs.declared.instructions.operations.VectorOp.{VectorOp}
use Rattle.rv_model.specs.declared.instructions.operations.VectorOp.TheVariants.{Permute}
use Rattle.rv_model.specs.declared.instructions.source.Source.{Source}
use Rattle.rv_model.specs.declared.instructions.source.Source.TheVariants.{V}
use Rattle.rv_model.specs.declared.legality.Operand.{Operand}
use Rattle.rv_model.specs.declared.legality.Shape.{Shape}
use Rattle.rv_model.specs.declared.legality.Shape.TheVariants.{Single, Widening, WideSource, GatherIndices16}
use Rattle.rv_model.specs.declared.vector.types.Sew.{Sew}
use Rattle.rv_model.specs.declared.vector.types.Sew.TheVariants.{E8}
use Rattle.rv_model.specs.declared.vector.types.VType.{VType}
use Rattle.rv_model.specs.legality.OperandShapes.{destination, first_source, second_source, shape_of, shape_operands, v0}
use Rattle.rv_model.specs.vector.Groups.{doubled, lmul_eighths, registers, sew_width, wide_type}
use Rattle.rv_model.specs.declared.instructions.operations.CarryOp.{CarryOp}
use Rattle.rv_model.specs.declared.instructions.vector.VectorInstr.TheVariants.{Arith, Carry}
use Rattle.rv_model.specs.legality.Legality.{operands}
use Rattle.rv_model.specs.step.Changes.{is_destination}
use Rattle.commit_log.specs.Targets.{registers_from, registers_of, vector_targets}

-- ---- multipliers

twice : (s : Sew) (e : ℕ) → bits (doubled (sew_width s)) * e / bits (sew_width s) ≡ 2 * e
twice E8 e = omega arith
twice _ e = omega arith

pub wide_emul : (t : VType) → (wide_type t).emul ≡ 2 * lmul_eighths t.lmul
wide_emul t = twice t.sew (lmul_eighths t.lmul)

pub permute_emul : (op : PermuteOp) (vd : ℕ) (t : VType) → (destination (shape_of (Permute op)) vd t).emul ≡ lmul_eighths t.lmul
permute_emul Vrgatherei16 vd t = refl
permute_emul _ vd t = refl

-- ---- operands

-- the registers of those operands that are written
abbrev pub written : List Operand → List ℕ
written os = flat_map registers_of (filter (λ o. is_destination o.role) os)

pub mask_written : (vm : Bool) → written (v0 vm) ≡ []
mask_written true = refl
mask_written false = refl

source_written : (shape : Shape) (s : Source) (vm : Bool) (t : VType) → written (second_source shape s t ++ v0 vm) ≡ []
source_written GatherIndices16 (V vs1) vm t = mask_written vm
source_written _ (V vs1) vm t = mask_written vm
source_written _ _ vm t = mask_written vm

sources_written : (shape : Shape) (vs2 : ℕ) (s : Source) (vm : Bool) (t : VType)
    → written (first_source shape vs2 t ∷ (second_source shape s t ++ v0 vm)) ≡ []
sources_written WideSource vs2 s vm t = source_written WideSource s vm t
sources_written shape vs2 s vm t = source_written shape s vm t

-- the registers of an operand that is written, followed by those of operands that aren't
pub alone_written : (rs rest : List ℕ) → rest ≡ [] → rs ++ rest ≡ rs
alone_written rs rest none = ap (λ (l : List ℕ). rs ++ l) none ∙ append-nil rs

destination_written : (shape : Shape) (vd : ℕ) (t : VType) (rest : List Operand) → written rest ≡ []
    → written (destination shape vd t ∷ rest) ≡ registers_of (destination shape vd t)
destination_written Widening vd t rest none = alone_written _ (written rest) none
destination_written _ vd t rest none = alone_written _ (written rest) none

pub shape_written : (shape : Shape) (vd vs2 : ℕ) (s : Source) (vm : Bool) (t : VType)
    → written (shape_operands shape vd vs2 s vm t) ≡ registers_of (destination shape vd t)
unfolding shape_operands
shape_written shape vd vs2 s vm t =
    destination_written shape vd t (first_source shape vs2 t ∷ (second_source shape s t ++ v0 vm)) (sources_written shape vs2 s vm t)

-- a destination is one group from vd on
one_group : (shape : Shape) (vd : ℕ) (t : VType) → registers_of (destination shape vd t) ≡ registers_from vd (1 * registers (destination shape vd t).emul)
one_group Widening vd t = refl
one_group _ vd t = refl

pub arith_targets : (a : VectorOp × Source) (vd vs2 : ℕ) (vm : Bool) (t : VType)
    → registers_from vd (1 * registers (destination (shape_of a.0) vd t).emul) ≡ vector_targets (instr.Vector (Arith a vd vs2 vm)) (Some t)
unfolding operands
arith_targets a vd vs2 vm t = sym (shape_written (shape_of a.0) vd vs2 a.1 vm t ∙ one_group (shape_of a.0) vd t)

pub carry_targets : (a : CarryOp × Source) (vd vs2 : ℕ) (t : VType)
    → registers_from vd (1 * registers (lmul_eighths t.lmul)) ≡ vector_targets (instr.Vector (Carry a vd vs2)) (Some t)
unfolding operands
carry_targets a vd vs2 t = sym (shape_written Single vd vs2 a.1 false t)
