-- The state that a recorder of changes saves before an instruction, and the lines that it writes after it.
use Rattle.std.specs.Prelude.{ℕ, ◌≡◌, List, [], ◌∷◌, flat_map}
use Rattle.rv_model.specs.step.Hart.{HartState}
use Rattle.memory_changes.specs.Changes.{changes_from, held, one_more, ticks_more}
use Rattle.memory_changes.specs.declared.changes.Changes.{Changes}

-- the number of the last instruction after more instructions
unfoldable pub number_after : ℕ → List HartState → ℕ
number_after number [] = number
number_after number (s ∷ states) = number_after (one_more number) states

-- the ticks after more instructions
unfoldable pub ticks_after : ℕ → List HartState → ℕ
ticks_after ticks [] = ticks
ticks_after ticks (s ∷ states) = ticks_after (ticks_more ticks s) states

-- The instructions that start in these states were recorded: the sink took the lines of their changes.
pub record IsRecorded {K A : Type 0} (took : K → List ℕ → K → Type 0) (old : Changes K A) (states : List HartState) (new : Changes K A) : Type 0 where
  pub places : new.places ≡ old.places
  pub number : new.number ≡ number_after old.number states
  pub ticks : new.ticks ≡ ticks_after old.ticks states
  pub lines : took old.sink (changes_from old.places.items old.number old.ticks states) new.sink

-- The recorder saved the bytes of the places and the program counter of a state.
pub record IsNoted {K A : Type 0} (old : Changes K A) (s : HartState) (new : Changes K A) : Type 0 where
  pub places : new.places ≡ old.places
  pub number : new.number ≡ old.number
  pub ticks : new.ticks ≡ old.ticks
  pub sink : new.sink ≡ old.sink
  pub pc : new.pc ≡ s.scalar.pc
  pub bytes : new.before.items ≡ flat_map (held s.memory) new.places.items
