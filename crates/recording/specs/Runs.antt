-- A run of a single-user machine, whose output is taken after each instruction, and the counts of the run.
use Rattle.std.specs.Prelude.{ℕ, zero, suc, ◌≡◌, ◌+◌, ◌-◌, Bool, true, false, List, [], ◌∷◌, ◌++◌, Option, Some, None, is_none, if◌then◌else◌}
use Rattle.std.specs.List.{sum_by}
use Rattle.rv_model.specs.declared.step.step_end.StepEnd.{StepEnd}
use Rattle.rv_model.specs.declared.step.step_end.StepEnd.TheVariants.{Ran, Exit}
use Rattle.rv_model.specs.instructions.Table.{scan, table}
use Rattle.rv_model.specs.machine.UserMachine.{stop_of}
use Rattle.rv_model.specs.step.Hart.{HartState}
use Rattle.rv_model.specs.step.Step.{step, word_at}
use Rattle.rv_model.specs.elements.Elements.{Body}
use Rattle.rv_model.specs.vector.Groups.{Configuration, register_of}
use Rattle.rv_model.specs.vector.TypeRules.{vtype_number}
use Rattle.recording.specs.Classes.{Class, active_count, body, class_of, tail_end}
use Rattle.recording.specs.declared.class.Class.TheVariants as class
use Rattle.recording.specs.declared.key.Key.TheVariants.{Word, Length, Jump}
use Rattle.recording.specs.Machines.{taken}
use Rattle.recording.specs.Sums.{Key, Sums, more_of, once}

-- ---- a run

-- the states before the instructions, the state after the last one, and the end of the run if an instruction stops the program
pub record Run : Type 0 where
  pub found : List HartState
  pub state : HartState
  pub end : Option StepEnd

-- a run without instructions
abbrev pub stays : HartState → Run
stays s = record { found = []; state = s; end = None }

-- an instruction with the state before it, its end and the state after it, followed by a run of others if the program continues
abbrev pub begins : HartState → Bool → StepEnd → HartState → Run → Run
begins s goes end next others =
    if goes then record others { found = s ∷ others.found }
    else record { found = s ∷ []; state = next; end = Some end }

-- At most n instructions, until no ticks are left or one stops the program. `next k s` is the state that the k-th of them, from 0 on, leaves
-- of the state s. No memory instruction has more than 256 elements, so none is cut.
unfoldable pub run_by : (ℕ → HartState → HartState) → ℕ → ℕ → HartState → Run
run_by next zero left s = stays s
run_by next (suc n) zero s = stays s
run_by next (suc n) (suc left) s =
    let one = step 256 s in
    begins s (is_none (stop_of one.end)) one.end (taken (next 0 s)) (run_by (λ k. next (suc k)) n (suc left - one.ticks) (taken (next 0 s)))

-- a run of a number of ticks; the last instruction may take more
abbrev pub ran_by : (ℕ → HartState → HartState) → ℕ → HartState → Run
ran_by next ticks s = run_by next ticks ticks s

-- the state after any instruction: that of its step
abbrev pub stepped : ℕ → HartState → HartState
stepped k s = (step 256 s).state

-- the same runs without choices: each instruction leaves the state of its step
abbrev pub run : ℕ → ℕ → HartState → Run
run n left s = run_by stepped n left s

abbrev pub ran : ℕ → HartState → Run
ran ticks s = ran_by stepped ticks s

-- the output of the instruction executed from a state
abbrev pub output_of : HartState → List ℕ
output_of s = (step 256 s).state.output

-- The sink took the first of these bytes, and no others.
pub record TakesFirst {K : Type 0} (Took : K → List ℕ → K → Type 0) (old : K) (bytes : List ℕ) (new : K) : Type 0 where
  pub first : List ℕ
  pub rest : List ℕ
  pub are_first : first ++ rest ≡ bytes
  pub took : Took old first new

-- ---- the counts of an instruction

-- the counts of one execution: its ticks, the active elements of its body, the other elements of its body, and the elements of its tail
abbrev pub execution_counts : ℕ → Body → ℕ → Sums
execution_counts ticks b end =
    record {
      times = 1;
      ticks = ticks;
      active = active_count b;
      masked = b.end - b.start - active_count b;
      tail = end - b.end;
    }

-- whether an instruction with this end is counted: it retired, or it is the exit call
abbrev pub is_counted : StepEnd → Bool
is_counted Ran = true
is_counted (Exit status) = true
is_counted _ = false

-- the second key of an instruction, in addition to its word. Instructions with elements have the vector type and length before them,
-- and jumps have their address and target
abbrev pub second_key : Class → Configuration → ℕ → ℕ → Option Key
second_key class.Plain c pc target = None
second_key class.Link c pc target = Some (Jump pc target)
second_key k c pc target = Some (Length (vtype_number c.vtype) c.vl)

-- a count of 1 for a key, if there is one
abbrev pub once_more : Option Key → (Sums → ℕ) → (Key → Bool) → ℕ
once_more None number asked = 0
once_more (Some key) number asked = more_of key once number asked

-- an instruction with this end is counted for its word, and once for its second key
abbrev pub counted : StepEnd → Key → Sums → Option Key → (Sums → ℕ) → (Key → Bool) → ℕ
counted end key sums beside number asked =
    if is_counted end then more_of key sums number asked + once_more beside number asked else 0

-- the word at a state's program counter
abbrev pub word_of : HartState → ℕ
word_of s = word_at s.memory s.scalar.pc

-- the counts of the instruction executed from a state
abbrev pub share : HartState → (Sums → ℕ) → (Key → Bool) → ℕ
share s =
    let one = step 256 s in
    let k = class_of (scan table (word_of s)) in
    let c = one.state.vector.conf in
    counted one.end (Word s.scalar.pc (word_of s)) (execution_counts one.ticks (body k (register_of s.vector.file 0) s.vector.vstart c) (tail_end k s.vector.vstart c))
    (second_key k s.vector.conf s.scalar.pc one.state.scalar.pc)

-- the sum of counts over the instructions executed from these states
abbrev pub all_of : (HartState → (Sums → ℕ) → (Key → Bool) → ℕ) → List HartState → (Sums → ℕ) → (Key → Bool) → ℕ
all_of counts states number asked = sum_by (λ s. counts s number asked) states

-- the counts of all instructions executed from these states
abbrev pub shares : List HartState → (Sums → ℕ) → (Key → Bool) → ℕ
shares states = all_of share states
