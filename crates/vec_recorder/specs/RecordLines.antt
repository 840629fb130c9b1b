-- The lines of a counts file (docs/RECORDER.md). Addresses and words are hexadecimal, counts are decimal.
use Rattle.std.specs.Prelude.{ℕ, ◌==◌, ◌&&◌, Bool, List, [], ◌++◌, decimal, Option, None, Some, if◌then◌else◌, codes}
use Rattle.std.specs.Option.{option_and_then}
use Rattle.recording.specs.declared.key.Key.{Key}
use Rattle.recording.specs.declared.row.Row.{Row}
use Rattle.recording.specs.declared.sums.Sums.{Sums}
use Rattle.recording.specs.declared.key.Key.TheVariants.{Word, Length, Jump}
use Rattle.rv_model.specs.commands.Printing.{hex8, hex16, stop_line}
use Rattle.rv_model.specs.commands.Running.{running_line}
use Rattle.rv_model.specs.declared.step.step_end.StepEnd.{StepEnd}
use Rattle.rv_model.specs.declared.step.step_end.Stop.{Stop}
use Rattle.rv_model.specs.machine.UserMachine.{stop_of}

-- a space and a decimal number
unfoldable pub spaced : ℕ → List ℕ
spaced n = codes " " ++ decimal n

-- `at PC WORD TIMES TICKS ACTIVE MASKED TAIL`
unfoldable pub word_line : ℕ → ℕ → Sums → List ℕ
word_line pc word sums =
    codes "at " ++ hex16 pc ++ codes " " ++ hex8 word ++ spaced sums.times ++ spaced sums.ticks ++ spaced sums.active ++ spaced sums.masked
    ++ spaced sums.tail ++ codes "\n"

-- `vl VTYPE VL TIMES`
unfoldable pub length_line : ℕ → ℕ → Sums → List ℕ
length_line vtype vl sums = codes "vl " ++ hex16 vtype ++ spaced vl ++ spaced sums.times ++ codes "\n"

-- `call PC TARGET TIMES`
unfoldable pub jump_line : ℕ → ℕ → Sums → List ℕ
jump_line pc target sums = codes "call " ++ hex16 pc ++ codes " " ++ hex16 target ++ spaced sums.times ++ codes "\n"

-- the line of a key
abbrev pub key_line : Key → Sums → List ℕ
key_line (Word pc word) sums = word_line pc word sums
key_line (Length vtype vl) sums = length_line vtype vl sums
key_line (Jump pc target) sums = jump_line pc target sums

-- whether all counts are zero
abbrev pub has_no_counts : Sums → Bool
has_no_counts sums = sums.times == 0 && sums.ticks == 0 && sums.active == 0 && sums.masked == 0 && sums.tail == 0

-- the line of a row; a row without counts has none
unfoldable pub row_line : Row → List ℕ
row_line row = if has_no_counts row.sums then [] else key_line row.key row.sums

-- the reason for a program's stop, and the program counter; without a stop the program is still running because its
-- ticks were used up
abbrev pub end_line : ℕ → Option Stop → List ℕ
end_line pc None = running_line pc
end_line pc (Some stop) = stop_line pc stop

-- the last line, with the numbers of executed instructions and of ticks
unfoldable pub last_line : ℕ → Option StepEnd → ℕ → ℕ → List ℕ
last_line pc end times ticks = end_line pc (option_and_then stop_of end) ++ spaced times ++ spaced ticks ++ codes "\n"
