-- Steps of vector instructions by their legality. No legal instruction reaches an equation of `Step` that is for all others.
use Rattle.std.specs.Prelude.{ℕ, ◌≡◌, ◌≢◌, Some, None, Bool, true, false}
use Rattle.rv_model.specs.accesses.VectorAccess.{access_of}
use Rattle.rv_model.specs.declared.instructions.access.AccessInstr.{AccessInstr}
use Rattle.rv_model.specs.declared.instructions.csr.CsrInstr.{CsrInstr}
use Rattle.rv_model.specs.declared.instructions.instruction.Instr.{Instr}
use Rattle.rv_model.specs.declared.instructions.instruction.Instr.TheVariants as instr
use Rattle.rv_model.specs.declared.instructions.scalar.ScalarInstr.{ScalarInstr}
use Rattle.rv_model.specs.declared.instructions.vector.VectorInstr.{VectorInstr}
use Rattle.rv_model.specs.declared.instructions.vector.VectorInstr.TheVariants.{SetVli, SetIvli, SetVl}
use Rattle.rv_model.specs.declared.step.step_end.Cause.TheVariants.{IllegalInstruction}
use Rattle.rv_model.specs.declared.step.step_end.StepEnd.TheVariants.{Fault}
use Rattle.rv_model.specs.declared.step.vector_end.VEnd.TheVariants as vector_end
use Rattle.rv_model.specs.declared.vector.types.VType.{VType}
use Rattle.rv_model.specs.elements.Elements.{Body}
use Rattle.rv_model.specs.legality.Legality.{is_legal}
use Rattle.rv_model.specs.step.Hart.{HartState, faults}
use Rattle.rv_model.specs.step.ScalarStep.{csr_executed, scalar_step}
use Rattle.rv_model.specs.step.Step.{executed, fetched, is_vector, step, typed_over, word_at}

-- whether an instruction is legal in a state
abbrev pub is_legal_in : Instr → HartState → Bool
is_legal_in i s = is_legal i s.vector.conf.vtype s.vector.vstart

-- A fetched vector instruction that is legal never faults as an illegal instruction. By the equations for all other cases of `performed`,
-- `typed`, `typed_over` and `access_step` it would.
abbrev pub LegalStepsExecute : Type 0
LegalStepsExecute = (limit : ℕ) (i : Instr) (s : HartState) (pc value : ℕ) → fetched s.memory s.scalar.pc ≡ Some i → is_vector i ≡ true
    → is_legal_in i s ≡ true → (step limit s).end ≢ Fault IllegalInstruction pc value

-- One that isn't legal faults with its word and changes nothing.
abbrev pub IllegalStepsFault : Type 0
IllegalStepsFault = (limit : ℕ) (i : Instr) (s : HartState) → fetched s.memory s.scalar.pc ≡ Some i → is_vector i ≡ true
    → is_legal_in i s ≡ false → step limit s ≡ faults IllegalInstruction (word_at s.memory s.scalar.pc) s

-- the instructions that set the vector length and type
abbrev pub sets_length : VectorInstr → Bool
sets_length (SetVli rd rs1 vtype) = true
sets_length (SetIvli rd avl vtype) = true
sets_length (SetVl rd rs1 rs2) = true
sets_length _ = false

-- Each other operation has its own equation in `typed_over`: it is done, legal or not.
abbrev pub OperationsHaveEquations : Type 0
OperationsHaveEquations = (i : VectorInstr) (body : Body) (t : VType) (s : HartState) → sets_length i ≡ false
    → (typed_over i body t s).end ≡ vector_end.Done

-- A legal one has a vector type, so it doesn't reach the equation of `typed` for no type.
abbrev pub OperationsHaveTypes : Type 0
OperationsHaveTypes = (i : VectorInstr) (s : HartState) → sets_length i ≡ false → is_legal_in (instr.Vector i) s ≡ true
    → s.vector.conf.vtype ≢ None

-- A legal load or store has an access, so it doesn't reach the equation of `access_step` for none.
abbrev pub AccessesExist : Type 0
AccessesExist = (i : AccessInstr) (s : HartState) → is_legal_in (instr.Access i) s ≡ true → access_of i s.vector s.scalar ≢ None

-- Instructions of the two other kinds have equations in `executed`, so they don't reach `performed`.
abbrev pub OthersHaveEquations : Type 0
OthersHaveEquations = (limit word : ℕ) (s : HartState) → ((i : ScalarInstr) → executed limit (Some (instr.Scalar i)) word s ≡ scalar_step i s)
    × ((i : CsrInstr) → executed limit (Some (instr.Csr i)) word s ≡ csr_executed i word s)
