-- The state before an instruction, as far as the instruction's line depends on it.
use Rattle.std.specs.Prelude.{ℕ, ◌≡◌, ◌≤◌, true, Option, Some, ⊤}
use Rattle.rv_model.specs.declared.instructions.instruction.Instr.{Instr}
use Rattle.rv_model.specs.declared.instructions.instruction.Instr.TheVariants as instr
use Rattle.rv_model.specs.declared.instructions.scalar.ScalarInstr.{ScalarInstr}
use Rattle.rv_model.specs.declared.instructions.scalar.ScalarInstr.TheVariants.{Load, Store}
use Rattle.rv_model.specs.instructions.Immediates.{i_immediate, s_immediate}
use Rattle.rv_model.specs.legality.Legality.{is_legal}
use Rattle.rv_model.specs.scalar.Arithmetic.{sum}
use Rattle.rv_model.specs.scalar.Registers.{read_register}
use Rattle.rv_model.specs.declared.scalar.Scalar.{Scalar}
use Rattle.rv_model.specs.declared.vector.state.VState.{VState}
use Rattle.std.specs.Int.{w64}
use Rattle.commit_log.specs.declared.pre_state.PreState.{PreState}

-- the address of a scalar load or store, and the value that a store writes
abbrev pub Moves : ScalarInstr → Scalar → PreState → Type 0
Moves (Load op rd rs1 imm) x f = f.address ≡ sum w64 (read_register x rs1) (i_immediate imm)
Moves (Store op rs1 rs2 imm) x f = (f.address ≡ sum w64 (read_register x rs1) (s_immediate imm)) × (f.value ≡ read_register x rs2)
Moves _ x f = ⊤

-- the saved operands of an instruction: those of a scalar load or store, and all registers for a vector load or store
abbrev pub Captures : Option Instr → Scalar → VState → PreState → Type 0
Captures (Some (instr.Scalar i)) x v f = Moves i x f
Captures (Some (instr.Access i)) x v f = (f.scalar ≡ x) × (f.vector ≡ v)
Captures _ x v f = ⊤

-- all other saved fields are unchanged
abbrev pub SameOtherwise : PreState → PreState → Type 0
SameOtherwise old new = new ≡ record old { address = new.address; value = new.value; scalar = new.scalar; vector = new.vector }

-- the control registers before the instruction
pub record KeepsControls (v : VState) (f : PreState) : Type 0 where
  pub conf_is : f.conf ≡ v.conf
  pub vstart_is : f.vstart ≡ v.vstart
  pub vxrm_is : f.vxrm ≡ v.vxrm
  pub vxsat_is : f.vxsat ≡ v.vxsat

-- `f` is the state saved before an instruction with this word and these registers.
pub record Finds (word : ℕ) (i : Option Instr) (x : Scalar) (v : VState) (f : PreState) : Type 0 where
  pub pc_is : f.pc ≡ x.pc
  pub word_is : f.word ≡ word
  pub instr_is : f.instr ≡ i
  pub controls : KeepsControls v f
  pub notes : Captures i x v f

-- a vector load or store that retires is legal, and doesn't increase the vector length
abbrev pub Retires : Instr → VState → ℕ → Type 0
Retires (instr.Access i) v vl = (is_legal (instr.Access i) v.conf.vtype v.vstart ≡ true) × (vl ≤ v.conf.vl)
Retires _ v vl = ⊤
