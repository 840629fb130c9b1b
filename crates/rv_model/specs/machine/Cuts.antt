-- Consecutive slices of one user's machine. The next slice continues an instruction that a slice cuts, so the effect of several slices
-- depends only on the sum of their ticks.
use Rattle.std.specs.Prelude.{ℕ, zero, suc, ◌+◌, ◌*◌, ◌≡◌, [], ◌++◌, All, IfSome}
use Rattle.rv_model.specs.declared.step.step_end.StepEnd.TheVariants.{Cut}
use Rattle.rv_model.specs.machine.World.{sliced}
use Rattle.rv_model.specs.machine.UserMachine.{Outcome, Private, Use, Tries}
use Rattle.rv_model.specs.step.Resumes.{KeepsOwnWord}
use Rattle.rv_model.specs.step.Step.{fetched, step}
use Rattle.rv_model.specs.vector.Groups.{IsConfiguration}

-- two consecutive outcomes as one: the machine after the second, the lines of both, and the uses of both
abbrev pub joined : Outcome → Outcome → Outcome
joined first second = record { next = second.next; lines = first.lines ++ second.lines; uses = first.uses ++ second.uses }

-- k slices of `quantum` ticks each
unfoldable pub slices : ℕ → ℕ → Private → Outcome
slices zero quantum p = record { next = p; lines = []; uses = [] }
slices (suc k) quantum p = joined (sliced quantum p) (slices k quantum (sliced quantum p).next)

-- two outcomes agree: they leave the same machine, and print the same lines
abbrev pub HaveEqualEffects : Outcome → Outcome → Type 0
HaveEqualEffects one other = (one.next ≡ other.next) × (one.lines ≡ other.lines)

-- if this use tries an instruction and the end of the ticks cuts it, the instruction hasn't overwritten its own word before the cut
abbrev pub KeepsWordIfCut : Use → Type 0
KeepsWordIfCut (Tries left hart) =
    (step left hart).end ≡ Cut → KeepsOwnWord (hart.vector.vstart + left) (fetched hart.memory hart.scalar.pc) hart
KeepsWordIfCut _ = Unit {0}

-- ---- the laws

-- the vector length of a machine is valid for its vector type
abbrev pub IsConfigured : Private → Type 0
IsConfigured p = IfSome p (λ p. IsConfiguration p.hart.vector.conf)

-- A slice preserves this.
abbrev pub SliceKeepsConfiguration : Type 0
SliceKeepsConfiguration = (quantum : ℕ) (p : Private) → IsConfigured p → IsConfigured (sliced quantum p).next

-- A slice of m ticks and then one of n ticks print the same lines and leave the same machine as one slice of m + n ticks. The exception:
-- the first slice cuts an instruction that has already overwritten its own word.
abbrev pub CutsAreInvisible : Type 0
CutsAreInvisible = (m n : ℕ) (p : Private) → IsConfigured p → All KeepsWordIfCut (sliced m p).uses
    → HaveEqualEffects (joined (sliced m p) (sliced n (sliced m p).next)) (sliced (m + n) p)

-- So k slices equal one slice of all their ticks, with the same exception.
abbrev pub SlicesAddUp : Type 0
SlicesAddUp = (k quantum : ℕ) (p : Private) → IsConfigured p → All KeepsWordIfCut (slices k quantum p).uses
    → HaveEqualEffects (slices k quantum p) (sliced (k * quantum) p)
