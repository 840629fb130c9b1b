-- The contents of an instruction's line: its address, its word and its effects, from the states before and after it.
use Rattle.std.specs.Prelude.{ℕ, ◌==◌, List, [], ◌∷◌, map, flat_map, Some, None, if◌then◌else◌}
use Rattle.std.specs.Int.{to_le_bytes, w64}
use Rattle.std.specs.Option.{option_map_or}
use Rattle.rv_model.specs.accesses.VectorAccess.{access_of}
use Rattle.rv_model.specs.declared.instructions.instruction.Instr.{Instr}
use Rattle.rv_model.specs.declared.instructions.instruction.Instr.TheVariants as instr
use Rattle.rv_model.specs.declared.instructions.scalar.ScalarInstr.TheVariants.{Load, Store}
use Rattle.rv_model.specs.declared.vector.control_register.ControlRegister.TheVariants.{Vstart, Vxsat, Vxrm, Vl, Vtype}
use Rattle.rv_model.specs.instructions.Immediates.{i_immediate, s_immediate}
use Rattle.rv_model.specs.scalar.Arithmetic.{sum}
use Rattle.rv_model.specs.scalar.LoadsAndStores.{store_width}
use Rattle.rv_model.specs.scalar.Registers.{read_register}
use Rattle.rv_model.specs.declared.scalar.Scalar.{Scalar}
use Rattle.rv_model.specs.declared.vector.state.VState.{VState}
use Rattle.rv_model.specs.step.Hart.{HartState}
use Rattle.rv_model.specs.step.Step.{is_vector}
use Rattle.rv_model.specs.step.Targets.{scalar_target}
use Rattle.rv_model.specs.vector.Control.{control_value}
use Rattle.rv_model.specs.vector.Groups.{Configuration, register_of}
use Rattle.rv_model.specs.declared.vector.control_register.ControlRegister.{ControlRegister}
use Rattle.rv_model.specs.declared.vector.types.VType.{VType}
use Rattle.vector_memory.specs.MovedElements.{MovedElement, moved_elements}
use Rattle.commit_log.specs.Targets.{vector_targets}

-- the contents of a line
pub record Line : Type 0 where
  pub pc : ℕ
  pub word : ℕ
  -- each scalar register that was written, with its new value
  pub scalars : List (ℕ × ℕ)
  -- for a vector instruction, the vector type and length after it, if there is a type
  pub configuration : List (VType × ℕ)
  -- each vector register of the destination, with its new bytes
  pub vectors : List (ℕ × List ℕ)
  -- each control register that changed, with its new value
  pub controls : List (ControlRegister × ℕ)
  -- each element that was moved between registers and memory, in element order
  pub moved : List MovedElement

-- ---- registers

-- a scalar register and its value, unless it is x0
abbrev pub printed_scalar : ℕ → Scalar → List (ℕ × ℕ)
printed_scalar register x = if register == 0 then [] else (register, read_register x register) ∷ []

-- the vector type and the length, if there is a type
abbrev pub printed_configuration : Configuration → List (VType × ℕ)
printed_configuration c = option_map_or (λ t. (t, c.vl) ∷ []) c.vtype []

-- each of these registers with its bytes
abbrev pub printed_vectors : List ℕ → List ℕ → List (ℕ × List ℕ)
printed_vectors file registers = map (λ r. (r, register_of file r)) registers

-- the control registers that a line may name, in the order of their numbers; vcsr is omitted because it combines vxrm and vxsat
abbrev pub printed_registers : List ControlRegister
printed_registers = Vstart ∷ Vxsat ∷ Vxrm ∷ Vl ∷ Vtype ∷ []

-- a control register with its new value, if the value changed
abbrev pub printed_control : VState → VState → ControlRegister → List (ControlRegister × ℕ)
printed_control old new r = if control_value r old == control_value r new then [] else (r, control_value r new) ∷ []

-- all control registers that changed, with their new values
abbrev pub printed_controls : VState → VState → List (ControlRegister × ℕ)
printed_controls old new = flat_map (printed_control old new) printed_registers

-- ---- memory

-- the elements that an instruction moved, from the state before it and the vector length after it
abbrev pub printed_moved : Instr → HartState → ℕ → List MovedElement
printed_moved (instr.Scalar (Load op rd rs1 imm)) s vl =
    record { address = sum w64 (read_register s.scalar rs1) (i_immediate imm); stored = None } ∷ []
printed_moved (instr.Scalar (Store op rs1 rs2 imm)) s vl =
    record {
      address = sum w64 (read_register s.scalar rs1) (s_immediate imm);
      stored = Some (to_le_bytes (store_width op) (read_register s.scalar rs2));
    } ∷ []
printed_moved (instr.Access i) s vl = option_map_or (moved_elements s.vector vl) (access_of i s.vector s.scalar) []
printed_moved _ s vl = []

-- ---- the whole line

-- the line of an instruction, from its word, the state before it, and the registers after it
abbrev pub instruction_line : Instr → ℕ → HartState → Scalar → VState → Line
instruction_line i word s x v =
    record {
      pc = s.scalar.pc;
      word = word;
      scalars = printed_scalar (scalar_target i) x;
      configuration = if is_vector i then printed_configuration v.conf else [];
      vectors = printed_vectors v.file (vector_targets i s.vector.conf.vtype);
      controls = printed_controls s.vector v;
      moved = printed_moved i s v.conf.vl;
    }
