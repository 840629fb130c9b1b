-- The model's step, stated for the parts of a user's view.
use Rattle.std.specs.Prelude.{ℕ, zero, suc, ◌≡◌, ◌||◌, Bool, List, false, true, if◌then◌else◌}
use Rattle.rv_model.specs.declared.vector.policy.Policy.{Policy}
use Rattle.rv_model.specs.declared.scalar.Scalar.{Scalar}
use Rattle.rv_model.specs.declared.step.step_end.StepEnd.{StepEnd}
use Rattle.rv_model.specs.declared.step.step_end.StepEnd.TheVariants.{Ran}
use Rattle.rv_model.specs.declared.vector.state.Seat.{Seat}
use Rattle.rv_model.specs.declared.vector.state.VState.{VState}
use Rattle.rv_model.specs.declared.instructions.instruction.Instr.{Instr}
use Rattle.rv_model.specs.step.Hart.{HartState, Stepped, hart_state, ends_after}
use Rattle.rv_model.specs.memory.Memory.{Memory}
use Rattle.rv_model.specs.vector.Groups.{IsConfiguration}
use Rattle.rv_model.specs.instructions.Table.{scan, table}
use Rattle.rv_model.specs.step.Step.{dirties, executed, touches}
use Rattle.rv_decode.specs.Groups.{is_other_access, is_unit_stride}
use Rattle.hart.specs.declared.ending.Ending.{Ending}
use Rattle.hart.specs.declared.view.StepTerms.{StepTerms}
use Rattle.hart.specs.declared.view.View.{View}

-- The model's state of a view, for any output buffer. `memory` and `lent` return the memory of the view's bytes, and the seat of its
-- per-user adapter.
abbrev pub shown : {M V : Type 0} → (M → Memory) → (V → Seat) → View M V → List ℕ → HartState
shown memory lent view = hart_state view.scalar.now (lent view.vectors.now).state (memory view.memory.now) view.policy

-- the same with the view's own output buffer
abbrev pub hart_of : {M V : Type 0} → (M → Memory) → (V → Seat) → View M V → HartState
hart_of memory lent view = shown memory lent view view.output.now.items

-- two views refer to the same registers, memory, per-user adapter and output buffer, and have the same policy
abbrev pub SameParts : {M V : Type 0} → View M V → View M V → Type 0
SameParts old new =
    (new.scalar.ghost_name ≡ old.scalar.ghost_name) × (new.memory.ghost_name ≡ old.memory.ghost_name)
    × (new.vectors.ghost_name ≡ old.vectors.ghost_name) × (new.output.ghost_name ≡ old.output.ghost_name)
    × (new.policy ≡ old.policy)

-- a step or an instruction takes the state `before` to the state `after`, with this end and these ticks
abbrev pub LeadsTo : (HartState → Stepped) → HartState → HartState → StepEnd → ℕ → Type 0
LeadsTo instruction before after end ticks = instruction before ≡ ends_after ticks end after

-- The end and the ticks of an instruction, from the number that its function returned and from its `Ending`. A positive number is the ticks
-- of an instruction that ran; after 0 both are in the `Ending`.
unfoldable pub end_by : ℕ → Ending → StepEnd
end_by zero ending = ending.end
end_by (suc ticks) ending = Ran

unfoldable pub ticks_by : ℕ → Ending → ℕ
ticks_by zero ending = ending.ticks
ticks_by (suc ticks) ending = suc ticks

-- a step or an instruction takes `before` to `after`; its function returned `ticks`, and left this `Ending`
abbrev pub EndsBy : (HartState → Stepped) → HartState → HartState → ℕ → Ending → Type 0
EndsBy instruction before after ticks ending =
    LeadsTo instruction before after (end_by ticks ending) (ticks_by ticks ending)

-- `LeadsTo` in one tick for an instruction that uses only scalar registers, memory and the output buffer, for any other state
abbrev pub LeadsOutput : (HartState → Stepped) → Scalar → Memory → List ℕ → Scalar → Memory → List ℕ → StepEnd → Type 0
LeadsOutput instruction scalar memory output scalar' memory' output' end =
    (vector : VState) (policy : Policy)
    → LeadsTo instruction (hart_state scalar vector memory policy output)
    (hart_state scalar' vector memory' policy output') end 1

-- `LeadsTo` for an instruction that leaves the output buffer unchanged, for any contents of the buffer
abbrev pub Leads : (HartState → Stepped) → (List ℕ → HartState) → (List ℕ → HartState) → StepEnd → ℕ → Type 0
Leads instruction before after end ticks =
    (output : List ℕ) → LeadsTo instruction (before output) (after output) end ticks

-- `Leads` in one tick for an instruction that uses only scalar registers and memory, for any other state
abbrev pub LeadsScalar : (HartState → Stepped) → Scalar → Memory → Scalar → Memory → StepEnd → Type 0
LeadsScalar instruction scalar memory scalar' memory' end =
    (vector : VState) (policy : Policy)
    → Leads instruction (hart_state scalar vector memory policy) (hart_state scalar' vector memory' policy) end 1

-- the same for an instruction that uses only scalar registers
abbrev pub LeadsRegisters : (HartState → Stepped) → Scalar → Scalar → StepEnd → Type 0
LeadsRegisters instruction scalar scalar' end =
    (memory : Memory) → LeadsScalar instruction scalar memory scalar' memory end

-- an instruction marks the seat as dirty if it changes the vector state, for any output buffer, and never clears the mark
abbrev pub Marks : (HartState → Bool) → (List ℕ → HartState) → Seat → Seat → Type 0
Marks dirties before old new = (output : List ℕ) → new.dirty ≡ (old.dirty || dirties (before output))

-- The seat after an instruction that may have borrowed it: marked as dirty if the instruction changed the vector state, otherwise
-- unchanged. A vector state that was borrowed has a length that its vector type allows.
abbrev pub LeavesSeat : Bool → (HartState → Bool) → (List ℕ → HartState) → Seat → Seat → Type 0
LeavesSeat touched dirties before old new =
    Marks dirties before old new × (new.dirty ≡ false → new.state ≡ old.state)
    × (touched ≡ true → IsConfiguration old.state.conf)

-- The same, and the per-user adapter of the seat: it provided the seat if the instruction touches the vector unit, and can provide it
-- again.
abbrev pub Returns : {V : Type 0} → (V → Type 0) → (V → Seat) → (V → Seat → V)
    → Bool → (HartState → Bool) → (List ℕ → HartState) → V → V → Type 0
Returns ready lent back touched dirties before old new =
    LeavesSeat touched dirties before (lent old) (lent new) × (new ≡ (if touched then back old (lent new) else old))
    × ready new

-- the model's state of these registers, this memory and the vector state of an adapter, for any output buffer
abbrev lent_state : {M V : Type 0} → (M → Memory) → (V → Seat) → StepTerms → Scalar → M → V → List ℕ → HartState
lent_state memory lent terms scalar bytes vectors =
    hart_state scalar (lent vectors).state (memory bytes) terms.policy

-- The instruction that a word encodes takes these registers, bytes and adapter to those with a prime. Its function returned `ticks`, and
-- left this `Ending`. Of the bytes only their memory changes. The instruction borrows the adapter's seat if it touches the vector unit.
pub record Executes {M V : Type 0} (memory : M → Memory) (with_memory : M → Memory → M) (ready : V → Type 0) (lent : V → Seat)
    (back : V → Seat → V) (terms : StepTerms) (word : ℕ) (scalar : Scalar) (bytes : M) (vectors : V) (scalar' : Scalar) (bytes' : M)
    (vectors' : V) (ticks : ℕ) (ending : Ending) : Type 0 where
  pub model : Leads (executed terms.limit (scan table word) word) (lent_state memory lent terms scalar bytes vectors)
      (lent_state memory lent terms scalar' bytes' vectors') (end_by ticks ending) (ticks_by ticks ending)
  pub others : bytes' ≡ with_memory bytes (memory bytes')
  pub seat : Returns ready lent back (touches (scan table word)) (dirties terms.limit (scan table word))
      (lent_state memory lent terms scalar bytes vectors) vectors vectors'

-- the loads and stores that one function executes: those of unit stride, or all others
abbrev pub access_group : Bool → Instr → Bool
access_group unit_stride = if unit_stride then is_unit_stride else is_other_access
