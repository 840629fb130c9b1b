-- Consequences of legality for the registers of a compression and of whole-register moves.
use Rattle.std.specs.Prelude.{Some}
use Rattle.std.proofs.Common.{◌≡◌, ℕ, ◌*◌, true, refl, lit<, arith}
use Rattle.rv_model.specs.declared.instructions.instruction.Instr.TheVariants as instr
use Rattle.rv_model.specs.declared.instructions.vector.VectorInstr.TheVariants.{Compress, WholeMove}
use Rattle.rv_model.specs.declared.instructions.operations.RegisterCount.{RegisterCount}
use Rattle.rv_model.specs.declared.legality.Role.TheVariants.{Read}
use Rattle.rv_model.specs.declared.vector.types.VType.{VType}
use Rattle.rv_model.specs.vector.Groups.{element_count, lmul_eighths, sew_width, whole_type, register_count}
use Rattle.rv_model.specs.lending.GroupBounds.{HoldsBody, IsInside}
use Rattle.rv_model.specs.legality.Legality.{is_legal, operands}
use Rattle.rv_model.specs.legality.OperandShapes.{mask}
use Rattle.rv_model.proofs.legality_lemmas.Bounds.{inside, sew_group}
use Rattle.rv_model.proofs.legality_lemmas.Meaning.{legal_groups}

-- the destination and the source of a compression
pub record CompressInside (vd vs2 : ℕ) (t : VType) : Type 0 where
  pub destination : IsInside vd (lmul_eighths t.lmul)
  pub source : IsInside vs2 (lmul_eighths t.lmul)

pub compress_inside : (vd vs1 vs2 : ℕ) (t : VType) (vstart : ℕ)
    → is_legal (instr.Vector (Compress vd vs1 vs2)) (Some t) vstart ≡ true → CompressInside vd vs2 t
unfolding operands
compress_inside vd vs1 vs2 t vstart h =
    let groups = legal_groups (instr.Vector (Compress vd vs1 vs2)) (Some t) vstart h in
    record { destination = sew_group vd t (groups 0 (mask Read 0) (lit< tt)).inside; source = sew_group vs2 t (groups 1 (mask Read 0) (lit< tt)).inside }

-- ---- moves of whole registers

-- the destination and the source of a whole-register move
pub record WholeMoveInside (count : RegisterCount) (vd vs2 : ℕ) : Type 0 where
  pub destination : IsInside vd (8 * register_count count)
  pub source : IsInside vs2 (8 * register_count count)

pub whole_move_inside : (count : RegisterCount) (vd vs2 : ℕ) (t : VType) (vstart : ℕ)
    → is_legal (instr.Vector (WholeMove count vd vs2)) (Some t) vstart ≡ true → WholeMoveInside count vd vs2
unfolding operands
whole_move_inside count vd vs2 t vstart h =
    let groups = legal_groups (instr.Vector (WholeMove count vd vs2)) (Some t) vstart h in
    record {
      destination = inside vd (8 * register_count count) (8 * register_count count) refl (groups 0 (mask Read 0) (lit< tt)).inside;
      source = inside vs2 (8 * register_count count) (8 * register_count count) refl (groups 1 (mask Read 0) (lit< tt)).inside;
    }

pub whole_groups_hold_body : (t : VType) (count : RegisterCount)
    → HoldsBody (sew_width t.sew) (8 * register_count count) (element_count (whole_type t count)) (element_count (whole_type t count))
whole_groups_hold_body t count = search arith
