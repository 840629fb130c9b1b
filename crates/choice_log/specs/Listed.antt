-- The state that a list of choices saves before an instruction, and the lines that it writes after it.
use Rattle.std.specs.Prelude.{ℕ, ◌≡◌, List, [], ◌∷◌}
use Rattle.rv_model.specs.step.Hart.{HartState}
use Rattle.rv_model.specs.vector.Groups.{Configuration}
use Rattle.open_choices.specs.declared.seeds.Seed.{Seed}
use Rattle.recording.specs.declared.open_chooser.Open.{Open}
use Rattle.recording.specs.OpenRuns.{IsOpenAt, asked_of_open, fill_of_open, first_of_open}
use Rattle.choice_log.specs.ChoiceLines.{choices_from, lines_by, one_more}
use Rattle.choice_log.specs.declared.choice_log.ChoiceLog.{ChoiceLog}

-- the lines of an instruction that ran and leaves this open, and this configuration
abbrev pub lines_of_open : Seed → ℕ → Open → Configuration → List ℕ
lines_of_open c number o new = lines_by c number (fill_of_open o) (asked_of_open o) (first_of_open o) new

-- the number of the last instruction after more instructions
unfoldable pub number_after : ℕ → List HartState → ℕ
number_after number [] = number
number_after number (s ∷ states) = number_after (one_more number) states

-- The instructions that start in these states were listed between two states of a list of choices: the sink took their lines.
pub record IsListed {K : Type 0} (Took : K → List ℕ → K → Type 0) (old : ChoiceLog K) (states : List HartState) (new : ChoiceLog K) : Type 0 where
  pub seed_is : new.seed ≡ old.seed
  pub number_is : new.number ≡ number_after old.number states
  pub lines : Took old.sink (choices_from old.seed old.number states) new.sink

-- What the next instruction leaves open was saved, and the instruction was counted.
pub record IsReady {K : Type 0} (old : ChoiceLog K) (s : HartState) (new : ChoiceLog K) : Type 0 where
  pub sink_is : new.sink ≡ old.sink
  pub seed_is : new.seed ≡ old.seed
  pub number_is : new.number ≡ one_more old.number
  pub open_is : IsOpenAt s new.left
