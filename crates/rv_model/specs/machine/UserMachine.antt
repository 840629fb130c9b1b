-- One user's machine, the outcome of a command or a slice, and runs of its instructions.
use Rattle.std.specs.Prelude.{ℕ, ◌==◌, Bool, false, List, [], ◌∷◌, Option, Some, zero, suc, ◌+◌, ◌-◌, ◌&&◌, not, true, ◌++◌, length, drop, None, is_none, if◌then◌else◌}
use Rattle.std.specs.FinMap.{empty}
use Rattle.std.specs.List.{list_any}
use Rattle.rv_model.specs.declared.commands.refusal.Refusal.{Refusal}
use Rattle.rv_model.specs.declared.vector.policy.Policy.TheVariants.{Keep}
use Rattle.rv_model.specs.commands.Printing.{refused}
use Rattle.rv_model.specs.scalar.Registers.{initial_scalar}
use Rattle.rv_model.specs.step.Hart.{HartState}
use Rattle.rv_model.specs.vector.State.{initial_vector}
use Rattle.rv_model.specs.declared.step.step_end.StepEnd.{StepEnd}
use Rattle.rv_model.specs.declared.step.step_end.StepEnd.TheVariants.{Ran, Exit, Ebreak, Fault, OutputFull, Cut}
use Rattle.rv_model.specs.declared.step.step_end.Stop.{Stop}
use Rattle.rv_model.specs.declared.step.step_end.Stop.TheVariants as stop
use Rattle.rv_model.specs.step.Step.{step}

-- the machine of a user who has entered: the hart's state, the breakpoints, the addresses of the last instructions, whether the program
-- is running, and whether it skips the breakpoint once
pub record Present : Type 0 where
  pub hart : HartState
  pub breakpoints : List ℕ
  pub trace : List ℕ
  pub running : Bool
  pub fresh : Bool

-- whether there is a breakpoint at an address
abbrev pub has_breakpoint : Present → ℕ → Bool
has_breakpoint p addr = list_any (λ a. a == addr) p.breakpoints

-- a user's machine; none if the user is absent
abbrev pub Private : Type 0
Private = Option Present

-- no memory, all registers 0, no breakpoints, no output, an empty trace, stopped
abbrev pub initial : Present
initial =
    let h : HartState = record { scalar = initial_scalar; vector = initial_vector; memory = empty; output = []; policy = Keep } in
    record { hart = h; breakpoints = []; trace = []; running = false; fresh = false }

-- a use of the vector unit. `Tries`: the machine tries an instruction in this state, with this number of ticks left. `Writes`: a command
-- writes a vector register. `Drops`: the user's vector state is discarded.
pub data Use : Type 0 where
  Tries : ℕ → HartState → Use
  Writes : Use
  Drops : Use

-- the outcome of an event: the machine after it, the lines that it prints, and its uses of the vector unit, in order
pub record Outcome : Type 0 where
  pub next : Private
  pub lines : List (List ℕ)
  pub uses : List Use

-- the outcome with this machine and one printed line
abbrev pub replies : Present → List ℕ → Outcome
replies p line = record { next = Some p; lines = line ∷ []; uses = [] }

-- the outcome of a refusal: nothing changes, and the reason is printed
abbrev pub refuses : Private → Refusal → Outcome
refuses p reason = record { next = p; lines = refused reason ∷ []; uses = [] }

-- why the program stops after an instruction that ends like this, if it does. After `Ran`, the next instruction follows; after `Cut`, the
-- rest of this one follows in a later slice.
abbrev pub stop_of : StepEnd → Option Stop
stop_of (Exit status) = Some (stop.Exit status)
stop_of Ebreak = Some stop.Ebreak
stop_of (Fault cause pc value) = Some (stop.Fault cause value)
stop_of OutputFull = Some stop.OutputFull
stop_of _ = None

abbrev pub at_breakpoint : Present → Bool
at_breakpoint p = has_breakpoint p p.hart.scalar.pc

-- the trace with one more address at its end, cut to the last 16 addresses
unfoldable pub recorded : List ℕ → ℕ → List ℕ
recorded trace addr = drop (length trace + 1 - 16) (trace ++ addr ∷ [])

-- the machine after it tried the instruction at the program counter, with this end and this state of the hart. Only an instruction that
-- ran to its end is traced. After a cut, the program skips the breakpoint once.
abbrev pub after : StepEnd → HartState → Present → Present
after Ran hart p = record p { hart = hart; trace = recorded p.trace p.hart.scalar.pc; fresh = false }
after Cut hart p = record p { hart = hart; fresh = true }
after _ hart p = record p { hart = hart; fresh = false }

-- the result of a run of instructions: the machine, why it stopped, if it did, and the instructions that it tried, in order
pub record Halted : Type 0 where
  pub state : Present
  pub stop : Option Stop
  pub uses : List Use

-- the result of a run that tries no instruction
abbrev pub halted : Present → Option Stop → Halted
halted p reason = record { state = p; stop = reason; uses = [] }

-- one instruction in the ticks that are left, and then the others in the ticks that remain. A breakpoint stops the program before the
-- instruction, unless it is exempt.
abbrev pub runs_on : Bool → ℕ → Present → (ℕ → Present → Halted) → Halted
runs_on skip_once left p others =
    let one = step left p.hart in
    let next = after one.end one.state p in
    let rest : Halted = if is_none (stop_of one.end) then others (left - one.ticks) next else halted next (stop_of one.end) in
    if not skip_once && at_breakpoint p then halted p (Some stop.Breakpoint)
    else record rest { uses = Tries left p.hart ∷ rest.uses }

-- at most n instructions. A breakpoint stops the program before each, except before an exempt first one. No memory instruction has more
-- than 256 elements, so none is cut.
abbrev pub steps : ℕ → Bool → Present → Halted
steps zero skip_once p = halted p None
steps (suc n) skip_once p = runs_on skip_once 256 p (λ left next. steps n false next)

-- at most n instructions in the ticks that are left. A breakpoint stops the program before each, except before the first one if the
-- program skips the breakpoint once. An instruction takes at least one tick, and one that is cut takes all that are left.
abbrev pub slice_steps : ℕ → ℕ → Present → Halted
slice_steps zero left p = halted p None
slice_steps (suc n) zero p = halted p None
slice_steps (suc n) (suc left) p = runs_on p.fresh (suc left) p (λ later next. slice_steps n later next)

-- a run of `quantum` ticks
abbrev pub ticked : ℕ → Present → Halted
ticked quantum p = slice_steps quantum quantum p
