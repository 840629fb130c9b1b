-- What the standard leaves open in a step, and the states that it allows ("V" Vector Extension 1.0, sections 3.4.3, 5.4, 6.3 and 7.7).
use Rattle.std.specs.Prelude.{ℕ, ◌≡◌, ◌≤◌, ◌<◌, ◌+◌, ◌-◌, ◌*◌, ◌/◌, ◌%◌, ◌==◌, ◌&&◌, ◌⊎◌, nat_le, Bool, true, false, Option, Some, None, List, [], length, max, slice_index, if◌then◌else◌, MatchOption}
use Rattle.std.specs.Option.{option_map_or, unwrap_or}
use Rattle.rv_model.specs.declared.instructions.access.AccessInstr.TheVariants.{UnitStride}
use Rattle.rv_model.specs.declared.instructions.instruction.Instr.{Instr}
use Rattle.rv_model.specs.declared.instructions.instruction.Instr.TheVariants as instr
use Rattle.rv_model.specs.declared.instructions.operations.UnitOp.TheVariants.{FaultOnlyFirst}
use Rattle.rv_model.specs.declared.instructions.vector.VectorInstr.TheVariants.{SetVli, SetIvli, SetVl}
use Rattle.rv_model.specs.declared.legality.Operand.{Operand}
use Rattle.rv_model.specs.declared.vector.policy.Policy.{Policy}
use Rattle.rv_model.specs.declared.vector.policy.Policy.TheVariants as policy
use Rattle.rv_model.specs.declared.vector.request.RequestedLength.{RequestedLength}
use Rattle.rv_model.specs.declared.vector.request.RequestedLength.TheVariants.{Elements}
use Rattle.rv_model.specs.declared.vector.sizes.TheConstants.{VLENB}
use Rattle.rv_model.specs.accesses.VectorAccess.{VectorAccess, access_of}
use Rattle.rv_model.specs.elements.Elements.{is_active}
use Rattle.rv_model.specs.legality.Legality.{operands}
use Rattle.rv_model.specs.legality.RegisterOperands.{eew}
use Rattle.rv_model.specs.scalar.Registers.{with_register}
use Rattle.rv_model.specs.memory.Memory.{is_within}
use Rattle.rv_model.specs.step.Changes.{written_of}
use Rattle.rv_model.specs.step.Hart.{HartState}
use Rattle.rv_model.specs.step.Step.{fetched, requested_length, step}
use Rattle.rv_model.specs.vector.Groups.{registers, vlmax}

-- ---- the instruction and its destination

-- the instruction at a state's program counter
abbrev pub instr_at : HartState → Option Instr
instr_at s = fetched s.memory s.scalar.pc

-- its destination, if it writes vector registers
abbrev pub destination_at : HartState → Option Operand
destination_at s = written_of (option_map_or (λ i. unwrap_or (operands i s.vector.conf.vtype) []) (instr_at s) [])

-- the number of bytes that are chosen as one: an element of the destination; a byte of a mask
abbrev pub grain : HartState → ℕ
grain s = max 1 (option_map_or (λ o. eew o.content / 8) (destination_at s) 1)

-- ---- tails and masked-off elements (section 3.4.3): each is kept or all ones, as the two policies leave it

-- the registers that an instruction leaves under a policy
abbrev pub file_under : Policy → HartState → List ℕ
file_under p s = (step 256 (record s { policy = p })).state.vector.file

-- element e of `new`, of k bytes, is that of `from`
abbrev pub IsElementOf : ℕ → List ℕ → List ℕ → ℕ → Type 0
IsElementOf k from new e = (m : ℕ) → m < k → k * e + m < length new → slice_index new (k * e + m) ≡ slice_index from (k * e + m)

abbrev pub IsAgnostic : HartState → List ℕ → ℕ → Type 0
IsAgnostic s new e = IsElementOf (grain s) (file_under policy.Keep s) new e ⊎ IsElementOf (grain s) (file_under policy.Ones s) new e

-- ---- fault-only-first loads (section 7.7): vl may be cut to any length from 1 on, and the active elements from there to the old vl may have
-- any value

abbrev pub is_first_only : Option Instr → Bool
is_first_only (Some (instr.Access (UnitStride FaultOnlyFirst width nf vd rs1 vm))) = true
is_first_only _ = false

abbrev pub access_at : Option Instr → HartState → Option VectorAccess
access_at (Some (instr.Access i)) s = access_of i s.vector s.scalar
access_at _ s = None

-- whether element e of the register file, of k bytes, is an active element of a field, from index `left` on
abbrev pub is_behind : ℕ → Operand → VectorAccess → ℕ → ℕ → Bool
is_behind k o a left e =
    let count = VLENB * registers o.emul / k in
    let index = (e - VLENB * o.first / k) % count in
    is_within (VLENB * o.first / k) (o.fields * count) e && (nat_le left index && is_active a.body index)

-- the same of the destination of the instruction that is executed from a state
abbrev pub is_behind_at : HartState → ℕ → ℕ → Bool
is_behind_at s left e =
    option_map_or (λ o. option_map_or (λ a. is_behind (grain s) o a left e) (access_at (instr_at s) s) false) (destination_at s) false

-- an element of the registers after an instruction that leaves the length `left`: active and behind a trimmed length, any; elsewhere as under
-- one of the policies
abbrev pub IsOpenElement : HartState → ℕ → List ℕ → ℕ → Type 0
IsOpenElement s left new e = IsAgnostic s new e ⊎ ((is_first_only (instr_at s) ≡ true) × (is_behind_at s left e ≡ true))

-- ---- vl of a vset instruction (section 6.3): for an AVL between VLMAX and twice it, any length from half of it on, the same each time

abbrev pub IsBetween : RequestedLength → ℕ → ℕ → Type 0
IsBetween (Elements avl) most vl = ((most < avl) × (avl < 2 * most)) × ((avl ≤ 2 * vl) × (vl ≤ most))
IsBetween _ most vl = ⊥

-- the requested length of a vset instruction, and its scalar destination
abbrev pub asked_by : Option Instr → HartState → Option (ℕ × RequestedLength)
asked_by (Some (instr.Vector (SetVli rd rs1 vtype))) s = Some (rd, requested_length rd rs1 s.scalar)
asked_by (Some (instr.Vector (SetIvli rd avl vtype))) s = Some (rd, Elements avl)
asked_by (Some (instr.Vector (SetVl rd rs1 rs2))) s = Some (rd, requested_length rd rs1 s.scalar)
asked_by _ s = None

-- The length `left` is that of the step, or one that the standard allows in its place.
abbrev pub IsOpenLength : HartState → ℕ → Type 0
IsOpenLength s left =
    let one = step 256 s in
    (left ≡ one.state.vector.conf.vl)
    ⊎ (((is_first_only (instr_at s) ≡ true) × ((s.vector.vstart ≡ 0) × ((1 ≤ left) × (left ≤ one.state.vector.conf.vl))))
    ⊎ MatchOption (asked_by (instr_at s) s) ⊥ (λ asked. IsBetween asked.1 (option_map_or vlmax one.state.vector.conf.vtype 0) left))

-- ---- a step with choices

-- the state after a step with another vector file, and another length, which a vset instruction also writes to its destination
abbrev pub with_choices : HartState → List ℕ → ℕ → HartState
with_choices s file left =
    let new = (step 256 s).state in
    record new {
      vector = record new.vector { file = file; conf = record new.vector.conf { vl = left } };
      scalar =
          if left == new.vector.conf.vl then new.scalar
          else option_map_or (λ asked. with_register asked.0 left new.scalar) (asked_by (instr_at s) s) new.scalar;
    }

-- The state `new` is that after the step of the definition but where the standard leaves a choice: nothing else differs.
pub record IsOpenStep (s new : HartState) : Type 0 where
  pub file : List ℕ
  pub left : ℕ
  pub is : new ≡ with_choices s file left
  pub size : length file ≡ length (step 256 s).state.vector.file
  pub elements : (e : ℕ) → IsOpenElement s left file e
  pub length_is : IsOpenLength s left

-- ---- laws

-- A step without choices is allowed.
abbrev pub StepIsOpen : Type 0
StepIsOpen = (s : HartState) → s.policy ≡ policy.Keep → IsOpenStep s (step 256 s).state

-- So is one with all choices of tails and masked-off elements taken: with the registers that the policy `ones` leaves.
abbrev pub FilledStepIsOpen : Type 0
FilledStepIsOpen = (s : HartState) → s.policy ≡ policy.Keep → length (file_under policy.Ones s) ≡ length (file_under policy.Keep s)
    → IsOpenStep s (with_choices s (file_under policy.Ones s) (step 256 s).state.vector.conf.vl)

-- So is a fault-only-first load from vstart 0 that leaves any shorter length, but not 0, and any values in the active elements from there on.
abbrev pub TrimmedStepIsOpen : Type 0
TrimmedStepIsOpen = (s : HartState) (file : List ℕ) (left : ℕ) → s.policy ≡ policy.Keep → is_first_only (instr_at s) ≡ true → s.vector.vstart ≡ 0
    → 1 ≤ left → left ≤ (step 256 s).state.vector.conf.vl → length file ≡ length (step 256 s).state.vector.file
    → ((e : ℕ) → is_behind_at s left e ≡ false → IsElementOf (grain s) (step 256 s).state.vector.file file e) → IsOpenStep s (with_choices s file left)

-- So is a vset instruction that leaves another length, if the AVL is between VLMAX and twice it.
abbrev pub OtherLengthIsOpen : Type 0
OtherLengthIsOpen = (s : HartState) (rd : ℕ) (length : RequestedLength) (left : ℕ) → s.policy ≡ policy.Keep → asked_by (instr_at s) s ≡ Some (rd, length)
    → IsBetween length (option_map_or vlmax (step 256 s).state.vector.conf.vtype 0) left
    → IsOpenStep s (with_choices s (step 256 s).state.vector.file left)
