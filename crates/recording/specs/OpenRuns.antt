-- Runs in which a seed chooses where the standard leaves a choice.
use Rattle.std.specs.Prelude.{ℕ, ◌≡◌, ◌+◌, ◌≤◌, ◌%◌, ◌^◌, ⊤, Bool, true, false, Option, Some, None}
use Rattle.rv_model.specs.declared.memory.Access.TheVariants.{Fetch}
use Rattle.rv_model.specs.declared.step.step_end.StepEnd.{StepEnd}
use Rattle.rv_model.specs.declared.step.step_end.StepEnd.TheVariants.{Ran}
use Rattle.rv_model.specs.declared.vector.request.RequestedLength.{RequestedLength}
use Rattle.rv_model.specs.declared.vector.sizes.TheConstants.{GROUP_BYTES}
use Rattle.rv_model.specs.memory.Memory.{can_access}
use Rattle.rv_model.specs.step.Hart.{HartState}
use Rattle.open_choices.specs.declared.seeds.Seed.{Seed}
use Rattle.open_choices.specs.Fills.{Fill, fill_of}
use Rattle.open_choices.specs.Groups.{fill_of_group}
use Rattle.open_choices.specs.OpenStep.{asked_by, instr_at}
use Rattle.open_choices.specs.Seeds.{first_only_at, seeded}
use Rattle.recording.specs.declared.open_chooser.Open.{Open}
use Rattle.recording.specs.declared.open_chooser.Open.TheVariants.{Elements, FirstOnly, Length}

-- the state that the k-th instruction from now on, from 0, leaves with the choices of a seed, if so many instructions are done
abbrev pub seeded_from : Seed → ℕ → ℕ → HartState → HartState
seeded_from seed done k s = seeded seed ((done + 1 + k) % 2 ^ 64) s

-- the fill of a vector operation with open elements
abbrev pub fill_of_open : Open → Option Fill
fill_of_open (Elements group) = Some (fill_of_group group)
fill_of_open _ = None

-- the scalar destination and the request of a vset instruction
abbrev pub asked_of_open : Open → Option (ℕ × RequestedLength)
asked_of_open (Length rd length) = Some (rd, length)
asked_of_open _ = None

-- the vstart of a fault-only-first load
abbrev pub first_of_open : Open → Option ℕ
first_of_open (FirstOnly vstart) = Some vstart
first_of_open _ = None

-- an open group ends inside the registers of a group
abbrev pub IsShort : Open → Type 0
IsShort (Elements group) = group.end ≤ GROUP_BYTES
IsShort _ = ⊤

-- This is what the instruction that is executed from a state leaves open, if it may be fetched.
pub record IsOpenAt (s : HartState) (left : Open) : Type 0 where
  pub fill : can_access Fetch s.memory s.scalar.pc 4 ≡ true → fill_of_open left ≡ fill_of (instr_at s) s
  pub asked : can_access Fetch s.memory s.scalar.pc 4 ≡ true → asked_of_open left ≡ asked_by (instr_at s) s
  pub first : can_access Fetch s.memory s.scalar.pc 4 ≡ true → first_of_open left ≡ first_only_at (instr_at s) s
  pub short : IsShort left

-- whether an instruction with this end retired
abbrev pub has_run : StepEnd → Bool
has_run Ran = true
has_run _ = false
