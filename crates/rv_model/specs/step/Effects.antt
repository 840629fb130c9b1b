-- Laws of every instruction.
use Rattle.std.specs.Prelude.{ℕ, ◌≡◌, ◌≤◌, List, ◌++◌, length, true}
use Rattle.rv_model.specs.declared.instructions.instruction.Instr.{Instr}
use Rattle.rv_model.specs.declared.step.step_end.Cause.{Cause}
use Rattle.rv_model.specs.declared.step.step_end.StepEnd.TheVariants.{Fault}
use Rattle.rv_model.specs.declared.memory.Access.{Access}
use Rattle.rv_model.specs.memory.Memory.{can_access_byte}
use Rattle.rv_model.specs.legality.Legality.{is_legal}
use Rattle.rv_model.specs.step.Hart.{HartState}
use Rattle.rv_model.specs.vector.Groups.{IsConfiguration}
use Rattle.rv_model.specs.scalar.Registers.{read_register}
use Rattle.rv_model.specs.step.Step.{is_legal_end, is_vector, step, vector_executed}
use Rattle.rv_model.specs.step.WriteCall.{output_room}

-- An instruction that faults writes no scalar register, and the program counter stays on it.
abbrev pub FaultsWriteNoRegister : Type 0
FaultsWriteNoRegister = (limit : ℕ) (s : HartState) (cause : Cause) (pc value : ℕ)
    → (step limit s).end ≡ Fault cause pc value → (step limit s).state.scalar ≡ s.scalar

-- No instruction changes the value that x0 reads.
abbrev pub X0Unchanged : Type 0
X0Unchanged = (limit : ℕ) (s : HartState) → read_register (step limit s).state.scalar 0 ≡ read_register s.scalar 0

-- The output of a step: it appends bytes to the output buffer, possibly none, and the buffer has room for them.
pub record AppendsOutput (old new : List ℕ) : Type 0 where
  pub more : List ℕ
  pub added : new ≡ old ++ more
  pub fits : length more ≤ output_room old

-- No instruction removes output, and none writes more output than there is room for.
abbrev pub OutputGrowsWithin : Type 0
OutputGrowsWithin = (limit : ℕ) (s : HartState) → AppendsOutput s.output (step limit s).state.output

-- If the vector length is valid for the vector type before an instruction, it is valid after it.
abbrev pub StepKeepsConfiguration : Type 0
StepKeepsConfiguration =
    (limit : ℕ) (s : HartState) → IsConfiguration s.vector.conf → IsConfiguration (step limit s).state.vector.conf

-- No instruction changes the permissions of an address, so none maps an address.
abbrev pub StepKeepsPermissions : Type 0
StepKeepsPermissions = (access : Access) (limit : ℕ) (s : HartState) (x : ℕ)
    → can_access_byte access (step limit s).state.memory x ≡ can_access_byte access s.memory x

-- A legal vector instruction is done, faults at memory or is cut. It never ends as an illegal one, so no legal instruction reaches the
-- equations of `Step` for other instructions.
abbrev pub LegalInstructionsExecute : Type 0
LegalInstructionsExecute = (limit : ℕ) (i : Instr) (s : HartState) → is_vector i ≡ true → is_legal i s.vector.conf.vtype s.vector.vstart ≡ true
    → is_legal_end (vector_executed limit i s).end ≡ true
