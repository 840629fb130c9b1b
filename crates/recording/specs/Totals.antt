-- Totals of a run: sums of a number of each instruction.
use Rattle.std.specs.Prelude.{ℕ, ◌≡◌, ◌+◌, ◌%◌, ◌^◌, ◌&&◌, nat_lt, Bool, List, length, if◌then◌else◌}
use Rattle.std.specs.List.{sum_by}
use Rattle.rv_model.specs.scalar.Registers.{read_register}
use Rattle.rv_model.specs.step.Hart.{HartState}
use Rattle.rv_model.specs.step.Step.{step}
use Rattle.recording.specs.Runs.{is_counted}

-- `new` is `old` plus the sum of a number over the instructions executed from these states, modulo 2 ^ 64
abbrev pub AddsUp : (HartState → ℕ) → ℕ → List HartState → ℕ → Type 0
AddsUp number old states new = new % 2 ^ 64 ≡ (old + sum_by number states) % 2 ^ 64

-- whether a call wrote some bytes to the output buffer, but fewer than x12 requests; the call leaves x12 unchanged
abbrev pub has_written_less : HartState → Bool
has_written_less s = nat_lt 0 (length s.output) && nat_lt (length s.output) (read_register s.scalar 12)

-- 1 for each such call
abbrev pub short_of : HartState → ℕ
short_of s = if has_written_less (step 256 s).state then 1 else 0

-- 1 for each counted instruction, and its ticks
abbrev pub times_of : HartState → ℕ
times_of s = if is_counted (step 256 s).end then 1 else 0

abbrev pub counted_ticks : HartState → ℕ
counted_ticks s = if is_counted (step 256 s).end then (step 256 s).ticks else 0
