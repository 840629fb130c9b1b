-- The log of a run: the lines of the instructions that completed and whose number is in a window, in order. An instruction completes if it
-- retires or exits.
use Rattle.std.specs.Prelude.{ℕ, ◌≡◌, ◌+◌, ◌%◌, ◌^◌, ◌&&◌, nat_le, Bool, true, List, [], ◌∷◌, ◌++◌, if◌then◌else◌}
use Rattle.std.specs.Option.{option_map_or}
use Rattle.rv_model.specs.declared.memory.Access.TheVariants.{Fetch}
use Rattle.rv_model.specs.instructions.Table.{scan, table}
use Rattle.rv_model.specs.memory.Memory.{can_access}
use Rattle.rv_model.specs.step.Hart.{HartState, Stepped}
use Rattle.rv_model.specs.step.Step.{step}
use Rattle.recording.specs.Runs.{is_counted, word_of}
use Rattle.commit_log.specs.declared.log.Log.{Log}
use Rattle.commit_log.specs.declared.log.Window.{Window}
use Rattle.commit_log.specs.Finds.{Finds}
use Rattle.commit_log.specs.LineTexts.{line_text}
use Rattle.commit_log.specs.Lines.{instruction_line}

-- the line of the instruction that starts in state `s` and has the result `one`; none if its word isn't an instruction
abbrev pub line_by : HartState → Stepped → List ℕ
line_by s one = option_map_or (λ i. line_text (instruction_line i (word_of s) s one.state.scalar one.state.vector)) (scan table (word_of s)) []

-- the line of the instruction that starts in a state, by the definitions' step; none if it faults or stops before it completes
abbrev pub logged : HartState → List ℕ
logged s = if is_counted (step 256 s).end then line_by s (step 256 s) else []

-- whether a number is in a window
abbrev pub is_within : Window → ℕ → Bool
is_within w number = nat_le w.from number && nat_le number w.to

abbrev pub one_more : ℕ → ℕ
one_more number = (number + 1) % 2 ^ 64

-- the lines of instructions that follow `number` instructions
unfoldable pub logged_from : Window → ℕ → List HartState → List ℕ
logged_from w number [] = []
logged_from w number (s ∷ states) = (if is_within w (one_more number) then logged s else []) ++ logged_from w (one_more number) states

-- the number of the last instruction after more instructions
unfoldable pub number_after : ℕ → List HartState → ℕ
number_after number [] = number
number_after number (s ∷ states) = number_after (one_more number) states

-- ---- a log

-- Bytes were added between two states of a sink and of the text that is buffered before it is written. The sink took a part of them, after
-- the bytes buffered before, and the buffer holds the rest.
pub record Gathered {K : Type 0} (Took : K → List ℕ → K → Type 0) (sink : K) (text bytes : List ℕ) (sink_after : K) (text_after : List ℕ) : Type 0 where
  pub written : List ℕ
  pub took : Took sink written sink_after
  pub all : written ++ text_after ≡ text ++ bytes

-- The instructions that start in these states were logged between two states of a log.
pub record IsLogged {K : Type 0} (Took : K → List ℕ → K → Type 0) (old : Log K) (states : List HartState) (new : Log K) : Type 0 where
  pub window_is : new.window ≡ old.window
  pub number_is : new.number ≡ number_after old.number states
  pub lines : Gathered Took old.sink old.text (logged_from old.window old.number states) new.sink new.text

-- The log saved the state before the next instruction, if this instruction is in the window and may be fetched.
pub record IsNoted {K : Type 0} (old : Log K) (s : HartState) (new : Log K) : Type 0 where
  pub sink_is : new.sink ≡ old.sink
  pub text_is : new.text ≡ old.text
  pub window_is : new.window ≡ old.window
  pub number_is : new.number ≡ one_more old.number
  pub finds : is_within new.window new.number ≡ true → can_access Fetch s.memory s.scalar.pc 4 ≡ true
      → Finds (word_of s) (scan table (word_of s)) s.scalar s.vector new.found
