-- The outcome of any command. A refused command leaves the user's machine and the vector unit unchanged; any other prints lines that
-- aren't refusals. Only `leave` makes a user absent, and each command leaves a vector length that the vector type allows.
use Rattle.std.proofs.Common.{◌≡◌, ◌⊎◌, inl, inr, ℕ, zero, suc, ◌+◌, ◌*◌, List, [], ◌∷◌, Bool, true, ◌&&◌, Option, Some, None, Result, refl, subst, sym, ap, arith}
use Rattle.std.specs.Prelude.{⊤, map}
use Rattle.std.proofs.lemmas.Bool.{and_from}
use Rattle.std.proofs.lemmas.Bool.Decides.{nat_tests}
use Rattle.rv_model.specs.declared.commands.breakpoints.BreakpointCommand.{BreakpointCommand}
use Rattle.rv_model.specs.declared.commands.command.Cmd.{Cmd}
use Rattle.rv_model.specs.declared.commands.command.Cmd.TheVariants.{Entering, Memory, Registers, Programs, Breakpoints, Running}
use Rattle.rv_model.specs.declared.commands.entering.EnteringCommand.TheVariants.{Leave}
use Rattle.rv_model.specs.declared.commands.memory.MemoryCommand.{MemoryCommand}
use Rattle.rv_model.specs.declared.commands.memory.MemoryCommand.TheVariants.{Map, Poke, Peek}
use Rattle.rv_model.specs.declared.commands.programs.ProgramCommand.{ProgramCommand}
use Rattle.rv_model.specs.declared.commands.programs.ProgramCommand.TheVariants.{Load, Asm, Dis}
use Rattle.rv_model.specs.declared.commands.refusal.Refusal.{Refusal}
use Rattle.rv_model.specs.declared.commands.refusal.Refusal.TheVariants as refusal
use Rattle.rv_model.specs.declared.commands.registers.RegisterCommand.{RegisterCommand}
use Rattle.rv_model.specs.declared.commands.registers.RegisterCommand.TheVariants.{Regs, Vreg, Vcsr}
use Rattle.rv_model.specs.declared.commands.running.RunningCommand.{RunningCommand}
use Rattle.rv_model.specs.declared.images.ElfFault.{ElfFault}
use Rattle.rv_model.specs.declared.step.step_end.Stop.{Stop}
use Rattle.rv_model.specs.commands.Breakpoints.{breakpoint_command, breaks_line}
use Rattle.rv_model.specs.commands.Commands.{Parsed, needs_stopped, of_absent, of_present, command_outcome, commanded}
use Rattle.rv_model.specs.commands.Entering.{entering_absent, entering}
use Rattle.rv_model.specs.commands.Memory.{peek_line, memory_command}
use Rattle.rv_model.specs.commands.Printing.{refused}
use Rattle.rv_model.specs.commands.Programs.{loaded_line, loading, assembling, dis_line, word_in, dis_lines, program_command}
use Rattle.rv_model.specs.commands.Registers.{register_text, register_line, register_lines, regs_lines, vreg_line, vcsr_line, register_command}
use Rattle.rv_model.specs.commands.Running.{step_line, running_line, stopped_line, state_line, trace_line, out_line, running_command}
use Rattle.rv_model.specs.machine.UserMachine.{Present, Private, Outcome, refuses}
use Rattle.rv_model.specs.machine.Setup.{Image}
use Rattle.rv_model.specs.declared.scalar.Scalar.{Scalar}
use Rattle.rv_model.proofs.Choices.{of_either}
use Rattle.rv_model.proofs.machine_lemmas.Configurations.{StaysAs, steps_stay}
use Rattle.rv_model.proofs.text_lemmas.Newlines.{IsLine, AreLines}
use Rattle.rv_model.specs.vector.State.{initial_vector}
use Rattle.rv_model.proofs.command_lemmas.Breakpoints.{no_newline_in_breaks_line}
use Rattle.rv_model.proofs.command_lemmas.Memory.{no_newline_in_peek_line}
use Rattle.rv_model.proofs.command_lemmas.Printing.{PrintsLines, one_line, refusal_prints}
use Rattle.rv_model.proofs.command_lemmas.Programs.{dis_lines_are_lines, no_newline_in_asm_line, no_newline_in_loaded_line}
use Rattle.rv_model.proofs.command_lemmas.Refusals.{are_plain, asm_plain, dis_plain, is_plain, plain_line, stop_line_plain}
use Rattle.rv_model.proofs.command_lemmas.Registers.{no_newline_in_vcsr_line, no_newline_in_vreg_line, regs_lines_are_lines}
use Rattle.rv_model.proofs.command_lemmas.Running.{no_newline_in_out_line, no_newline_in_running_line, no_newline_in_state_line, no_newline_in_step_line, no_newline_in_stopped_line, no_newline_in_trace_line}

-- ---- the outcome of a command

abbrev pub Printed : List (List ℕ) → Type 0
Printed lines = AreLines lines × (are_plain lines ≡ true)

-- one line
pub prints : (line : List ℕ) → IsLine line → is_plain line ≡ true → Printed (line ∷ [])
prints line h plain = (one_line line h, plain_line line plain)

-- a refusal; or lines, and a fact about the machine after the command
abbrev Answers : (Private → Type 0) → Private → Outcome → Type 0
Answers Left p o = ((reason : Refusal) × (o ≡ refuses p reason)) ⊎ (Printed o.lines × Left o.next)

abbrev Answered : Private → Outcome → Type 0
Answered p o = Answers (λ next. ⊤) p o

answered : (Left : Private → Type 0) (p : Private) (o : Outcome) → Answers Left p o → Answered p o
answered Left p o h = search (arith, nat_tests)

-- ---- each group of commands, for a user who has entered

-- the machine stays, except after `leave`
abbrev Stays : Present → Cmd → Private → Type 0
Stays p (Entering Leave) next = ⊤
Stays p _ next = StaysAs p next

module _ (images : List Image) (p : Present) where
  abbrev CommandAnswers : Cmd → Type 0
  CommandAnswers c = Answers (Stays p c) (Some p) (of_present images c p)

  -- the outcome of commands that don't make the user absent
  abbrev Here : Outcome → Type 0
  Here o = Answers (StaysAs p) (Some p) o

  refuses_now : (reason : Refusal) → Here (refuses (Some p) reason)
  refuses_now reason = inl (reason, refl)

  memory_answers : (c : MemoryCommand) → CommandAnswers (Memory c)
  unfolding of_present memory_command peek_line
  memory_answers (Map pages allowed) = search (arith, nat_tests, refuses_now)
  memory_answers (Poke addr bytes) = search (arith, nat_tests, of_either, refuses_now)
  memory_answers (Peek addr count) = search (arith, nat_tests, no_newline_in_peek_line, of_either, prints, refuses_now)

  register_lines_plain : (n i : ℕ) (s : Scalar) → are_plain (register_lines n i s) ≡ true
  unfolding register_line register_text
  register_lines_plain zero i s = refl
  register_lines_plain (suc n) i s = register_lines_plain n (i + 4) s

  registers_answer : (c : RegisterCommand) → CommandAnswers (Registers c)
  unfolding of_present register_command regs_lines vreg_line vcsr_line
  registers_answer Regs = inr ((regs_lines_are_lines p.hart.scalar, register_lines_plain 8 0 p.hart.scalar), λ is. is)
  registers_answer (Vreg register width) = search (arith, nat_tests, no_newline_in_vreg_line, prints)
  registers_answer Vcsr = inr (prints (vcsr_line p.hart.vector) (no_newline_in_vcsr_line p.hart.vector) refl, λ is. is)
  registers_answer _ = inr ((refl, refl), λ is. is)

  loading_answers : (image : List ℕ) (fault : Option ElfFault) → Here (loading image fault p)
  unfolding loaded_line initial_vector
  loading_answers image fault = search (arith, nat_tests, no_newline_in_loaded_line, of_either, prints, refuses_now)

  assembling_answers : (addr : ℕ) (word : Result ℕ ℕ) → Here (assembling addr word p)
  assembling_answers addr word = search (arith, nat_tests, asm_plain, no_newline_in_asm_line, prints, refuses_now)

  dis_lines_plain : (addr : ℕ) (shown is : List ℕ) → are_plain (map (λ i. dis_line (addr + 4 * i) (word_in shown i)) is) ≡ true
  dis_lines_plain addr shown [] = refl
  dis_lines_plain addr shown (i ∷ is) = and_from _ _ (dis_plain (addr + 4 * i) (word_in shown i)) (dis_lines_plain addr shown is)

  programs_answer : (c : ProgramCommand) → CommandAnswers (Programs c)
  unfolding of_present program_command dis_lines
  programs_answer (Load name) = search (arith, nat_tests, loading_answers, refuses_now)
  programs_answer (Asm addr text) = search (arith, nat_tests, assembling_answers, of_either, refuses_now)
  programs_answer (Dis addr count) = search (arith, nat_tests, dis_lines_are_lines, dis_lines_plain, of_either, refuses_now)

  breakpoints_answer : (c : BreakpointCommand) → CommandAnswers (Breakpoints c)
  unfolding of_present breakpoint_command breaks_line
  breakpoints_answer c = search (arith, nat_tests, no_newline_in_breaks_line, of_either, prints, refuses_now)

  step_line_plain : (n pc : ℕ) (reason : Option Stop) → is_plain (step_line n pc reason) ≡ true
  unfolding step_line
  step_line_plain n pc reason = search (arith, nat_tests, stop_line_plain)

  state_line_plain : (running : Bool) (pc : ℕ) → is_plain (state_line running pc) ≡ true
  unfolding state_line
  state_line_plain running pc = search (arith, nat_tests)

  running_answers : (c : RunningCommand) → CommandAnswers (Running c)
  unfolding of_present running_command running_line stopped_line trace_line out_line
  running_answers c =
      search (arith, nat_tests, no_newline_in_out_line, no_newline_in_running_line, no_newline_in_state_line, no_newline_in_step_line, no_newline_in_stopped_line, no_newline_in_trace_line, of_either, prints, refuses_now, state_line_plain, step_line_plain, steps_stay)

  present_answers : (c : Cmd) → CommandAnswers c
  unfolding of_present entering
  present_answers c = search (arith, nat_tests, breakpoints_answer, memory_answers, programs_answer, refuses_now, registers_answer, running_answers)

  still_there : (o : Outcome) → Here o → StaysAs p o.next
  still_there o h = search (arith, nat_tests)

  pub stays_there : (c : Cmd) → Stays p c (of_present images c p).next
  stays_there (Entering Leave) = tt
  stays_there c = still_there (of_present images c p) (present_answers c)

-- ---- any user

absent_answers : (c : Cmd) → Answered None (of_absent c)
unfolding of_absent entering_absent
absent_answers c = search (arith, nat_tests)

command_outcome_answers : (images : List Image) (c : Cmd) (p : Private) → Answered p (command_outcome images c p)
unfolding command_outcome
command_outcome_answers images c None = absent_answers c
command_outcome_answers images c (Some p) =
    of_either (λ (o : Outcome). Answered (Some p) o) (p.running && needs_stopped c) (refuses (Some p) refusal.Running) (of_present images c p)
    (inl (refusal.Running, refl)) (answered (Stays p c) (Some p) (of_present images c p) (present_answers images p c))

commanded_answers : (images : List Image) (p : Private) (r : Parsed) → Answered p (commanded images p r)
commanded_answers images p r = search (arith, nat_tests, command_outcome_answers)

-- the machine is unchanged and the vector unit isn't used, or none of the lines is a refusal
abbrev pub Settles : Private → Outcome → Type 0
Settles p o = ((o.next ≡ p) × (o.uses ≡ [])) ⊎ (are_plain o.lines ≡ true)

pub commanded_settles : (images : List Image) (p : Private) (r : Parsed) → Settles p (commanded images p r)
commanded_settles images p r = elim (commanded_answers images p r) [
  | inl refused ↦ inl (ap (λ (o : Outcome). o.next) refused.1, ap (λ (o : Outcome). o.uses) refused.1)
  | inr lines ↦ inr lines.0.1
]

pub commanded_prints : (images : List Image) (p : Private) (r : Parsed) → PrintsLines (commanded images p r)
commanded_prints images p r = elim (commanded_answers images p r) [
  | inl refused ↦ subst PrintsLines (sym refused.1) (refusal_prints p refused.0)
  | inr lines ↦ lines.0.0
]
