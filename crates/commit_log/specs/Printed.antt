-- The state that results from an instruction's line: applied to the state before the instruction, the line gives the state after it.
use Rattle.std.specs.Prelude.{ℕ, ◌≡◌, ◌==◌, true, List, [], ◌∷◌, length, Some}
use Rattle.std.specs.Option.{option_map_or}
use Rattle.rv_model.specs.declared.instructions.instruction.Instr.{Instr}
use Rattle.rv_model.specs.declared.scalar.Scalar.{Scalar}
use Rattle.rv_model.specs.declared.vector.control_register.ControlRegister.{ControlRegister}
use Rattle.rv_model.specs.declared.vector.control_register.ControlRegister.TheVariants.{Vstart, Vxsat, Vxrm, Vl, Vtype}
use Rattle.rv_model.specs.declared.vector.sizes.TheConstants.{FILE_BYTES}
use Rattle.rv_model.specs.declared.vector.state.VState.{VState}
use Rattle.rv_model.specs.instructions.Table.{scan, table}
use Rattle.rv_model.specs.memory.Memory.{Memory, put_bytes}
use Rattle.rv_model.specs.scalar.Registers.{with_register}
use Rattle.rv_model.specs.step.Hart.{HartState}
use Rattle.rv_model.specs.step.Step.{step}
use Rattle.rv_model.specs.vector.Groups.{IsConfiguration, with_register_bytes}
use Rattle.rv_model.specs.vector.RoundingModes.{rounding_mode}
use Rattle.rv_model.specs.vector.TypeRules.{vector_type}
use Rattle.recording.specs.Runs.{is_counted, word_of}
use Rattle.vector_memory.specs.MovedElements.{MovedElement}
use Rattle.commit_log.specs.Lines.{Line, instruction_line}

-- the scalar registers after these values are written
abbrev pub with_scalars : List (ℕ × ℕ) → Scalar → Scalar
with_scalars [] x = x
with_scalars (printed ∷ rest) x = with_scalars rest (with_register printed.0 printed.1 x)

-- the bytes of the vector registers after these registers are written
abbrev pub with_vectors : List (ℕ × List ℕ) → List ℕ → List ℕ
with_vectors [] file = file
with_vectors (printed ∷ rest) file = with_vectors rest (with_register_bytes printed.0 printed.1 file)

-- the vector state in which a control register reads `n`
abbrev pub with_read_control : ControlRegister → ℕ → VState → VState
with_read_control Vstart n v = record v { vstart = n }
with_read_control Vxsat n v = record v { vxsat = n == 1 }
with_read_control Vxrm n v = record v { vxrm = rounding_mode n }
with_read_control Vl n v = record v { conf = record v.conf { vl = n } }
with_read_control Vtype n v = record v { conf = record v.conf { vtype = vector_type n } }
with_read_control _ n v = v

-- the vector state in which control registers read these values
abbrev pub with_controls : List (ControlRegister × ℕ) → VState → VState
with_controls [] v = v
with_controls (printed ∷ rest) v = with_controls rest (with_read_control printed.0 printed.1 v)

-- the memory after the bytes of each element are stored, in order
abbrev pub with_stored : List MovedElement → Memory → Memory
with_stored [] m = m
with_stored (moved ∷ rest) m = with_stored rest (option_map_or (put_bytes m moved.address) moved.stored m)

-- the line of the instruction that starts in this state
abbrev pub line_of : Instr → HartState → Line
line_of i s = instruction_line i (word_of s) s (step 256 s).state.scalar (step 256 s).state.vector

-- The line of an instruction that retires or exits gives the scalar registers after it, except for the program counter.
abbrev pub ScalarsArePrinted : Type 0
ScalarsArePrinted = (s : HartState) (i : Instr) → scan table (word_of s) ≡ Some i → is_counted (step 256 s).end ≡ true
    → with_scalars (line_of i s).scalars s.scalar ≡ record (step 256 s).state.scalar { pc = s.scalar.pc }

-- The line of an instruction gives the control registers after it, if the vector length before it is valid for the vector type.
abbrev pub ControlsArePrinted : Type 0
ControlsArePrinted = (s : HartState) (i : Instr) → IsConfiguration s.vector.conf
    → with_controls (line_of i s).controls s.vector ≡ record (step 256 s).state.vector { file = s.vector.file }

-- The line of an instruction that retires or exits gives the memory after it.
abbrev pub MemoryIsPrinted : Type 0
MemoryIsPrinted = (s : HartState) (i : Instr) → scan table (word_of s) ≡ Some i → is_counted (step 256 s).end ≡ true
    → with_stored (line_of i s).moved s.memory ≡ (step 256 s).state.memory

-- The line of an instruction gives the vector registers after it, if the vector length before it is valid for the vector type.
abbrev pub VectorsArePrinted : Type 0
VectorsArePrinted = (s : HartState) (i : Instr) → scan table (word_of s) ≡ Some i → IsConfiguration s.vector.conf → length s.vector.file ≡ FILE_BYTES
    → with_vectors (line_of i s).vectors s.vector.file ≡ (step 256 s).state.vector.file
