-- Bounds of the work of a slice and of a line: the instructions that they try, and the ticks that these take. `* slices N` grants at most N
-- slices, so it takes at most N times the ticks of a slice. That is at most 1,000,000.
use Rattle.std.specs.Prelude.{ℕ, ◌+◌, ◌*◌, ◌≡◌, ◌≤◌, ◌<◌, true, List, [], ◌∷◌, length, Some, None, Ok}
use Rattle.rv_model.specs.declared.commands.operator.OperatorCommand.TheVariants.{Slices}
use Rattle.rv_model.specs.commands.Operator.{operator_parse}
use Rattle.rv_model.specs.machine.Grants.{granted, grants_of, next_running}
use Rattle.rv_model.specs.machine.Script.{events_of, kind_of}
use Rattle.rv_model.specs.machine.Setup.{Setup}
use Rattle.rv_model.specs.machine.UserMachine.{Present, Private, Tries, Use}
use Rattle.rv_model.specs.machine.World.{World, UserEvent, after_events, after_one, outcome_of, sliced}
use Rattle.rv_model.specs.step.Step.{step}

-- number of instructions that are tried
abbrev pub tries_of : List Use → ℕ
tries_of [] = 0
tries_of (Tries left hart ∷ uses) = 1 + tries_of uses
tries_of (_ ∷ uses) = tries_of uses

-- the ticks that they take
abbrev pub ticks_of : List Use → ℕ
ticks_of [] = 0
ticks_of (Tries left hart ∷ uses) = (step left hart).ticks + ticks_of uses
ticks_of (_ ∷ uses) = ticks_of uses

-- the ticks that several events take
abbrev pub ticks_of_events : Setup → World → List UserEvent → ℕ
ticks_of_events setup w [] = 0
ticks_of_events setup w (h ∷ hs) = ticks_of (outcome_of setup w h).uses + ticks_of_events setup (after_one setup w h) hs

-- number of instructions that several events try
abbrev pub tries_of_events : Setup → World → List UserEvent → ℕ
tries_of_events setup w [] = 0
tries_of_events setup w (h ∷ hs) = tries_of (outcome_of setup w h).uses + tries_of_events setup (after_one setup w h) hs

-- ---- laws

-- A slice takes at most its ticks, and each instruction that it tries takes at least one.
abbrev pub SlicesTakeTheirTicks : Type 0
SlicesTakeTheirTicks = (quantum : ℕ) (p : Private)
    → (tries_of (sliced quantum p).uses ≤ ticks_of (sliced quantum p).uses) × (ticks_of (sliced quantum p).uses ≤ quantum)

-- A slice of a running program that prints nothing, so that the program runs on, takes all its ticks.
abbrev pub OnlyStopsEndSlices : Type 0
OnlyStopsEndSlices = (quantum : ℕ) (p : Present) → p.running ≡ true → (sliced quantum (Some p)).lines ≡ []
    → ticks_of (sliced quantum (Some p)).uses ≡ quantum

-- The slices that `slices N` grants: at most N, fewer only if no program is running after them. They take at most N times the ticks of a
-- slice, and each instruction at least one.
pub record AreAtMost (n : ℕ) (setup : Setup) (w : World) (hs : List UserEvent) : Type 0 where
  pub count : length hs ≤ n
  pub fewer : length hs < n → next_running (after_events setup w hs) ≡ None
  pub tries : tries_of_events setup w hs ≤ ticks_of_events setup w hs
  pub ticks : ticks_of_events setup w hs ≤ n * setup.quantum

abbrev pub GrantsAreBounded : Type 0
GrantsAreBounded = (setup : Setup) (n : ℕ) (w : World) → AreAtMost n setup w (granted setup n w)

-- `slices N` is a command only for N from 1 to 1,000.
abbrev pub SlicesAreAThousand : Type 0
SlicesAreAThousand = (line : List ℕ) (n : ℕ) → operator_parse line ≡ Ok (Slices n) → (1 ≤ n) × (n ≤ 1000)

-- So the slices of any command of the operator take at most 1,000,000 ticks, if each has at most 1,000.
abbrev pub OperatorLinesAreBounded : Type 0
OperatorLinesAreBounded = (setup : Setup) (w : World) (line : List ℕ) → setup.quantum ≤ 1000
    → ticks_of_events setup w (grants_of setup w (operator_parse line)) ≤ 1000000

-- Then no line of a script tries more than 1,000,000 instructions, whether it is the operator's or a user's.
abbrev pub LinesAreBounded : Type 0
LinesAreBounded = (setup : Setup) (w : World) (line : List ℕ) → setup.quantum ≤ 1000
    → tries_of_events setup w (events_of setup w (kind_of line)) ≤ 1000000
