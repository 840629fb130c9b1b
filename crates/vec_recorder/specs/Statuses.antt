-- The exit statuses of the program (docs/RECORDER.md)
use Rattle.std.specs.Prelude.{◌≡◌, ◌⊎◌, ℕ}
use Rattle.devices.specs.Device.{Rose}
use Rattle.recording.specs.declared.fault.RecordFault.{RecordFault}
use Rattle.recording.specs.declared.fault.RecordFault.TheVariants as stopped
use Rattle.vec_recorder.specs.declared.program_fault.ProgramFault.{ProgramFault}
use Rattle.vec_recorder.specs.declared.program_fault.ProgramFault.TheVariants.{NoText, Usage, Policy, Ticks, MemoryArgument, WatchArgument, WatchAlone, From, To, FromAboveTo, LogAlone, LogEnd, Open, Kinds, OpenFrom, OpenTo, OpenFromAboveTo, OpenElements, OpenAlone, OpenWith, SameOutput, OutputIsInput, LostPlace, RepeatedRow, Write, TableFull, NoMemory}

-- invalid arguments have exit status 2, faults of the initial machine 4, faults of records and output 5, and lack of memory 6
abbrev pub program_status : ProgramFault → ℕ
program_status NoText = 2
program_status (Usage e) = 2
program_status Policy = 2
program_status Ticks = 2
program_status (MemoryArgument word) = 2
program_status (WatchArgument word) = 2
program_status WatchAlone = 2
program_status From = 2
program_status To = 2
program_status FromAboveTo = 2
program_status LogAlone = 2
program_status LogEnd = 2
program_status Open = 2
program_status Kinds = 2
program_status OpenFrom = 2
program_status OpenTo = 2
program_status OpenFromAboveTo = 2
program_status OpenElements = 2
program_status (OpenAlone option) = 2
program_status (OpenWith option) = 2
program_status (SameOutput first second) = 2
program_status (OutputIsInput output input) = 2
program_status LostPlace = 5
program_status RepeatedRow = 5
program_status (Write name) = 5
program_status TableFull = 5
program_status NoMemory = 6
program_status _ = 4

-- the program's fault for a recording that stopped before the run's end
abbrev pub record_fault : RecordFault → ProgramFault
record_fault stopped.TableFull = TableFull
record_fault stopped.Unmapped = LostPlace
record_fault (stopped.Write name) = Write name

-- a fault of the initial machine, or lack of memory
abbrev pub IsInitialFault : ProgramFault → Type 0
IsInitialFault fault = (program_status fault ≡ 4) ⊎ (program_status fault ≡ 6)

-- The reason for exit status 5: a write to the output failed, a file couldn't be created, a write to a file failed, or `Other`. The numbers count the
-- failures of the output, of creating files, and of writes to closed files, before and after.
abbrev pub HasCause : Type 0 → ℕ → ℕ → ℕ → ℕ → ℕ → ℕ → Type 0
HasCause Other output_before output_now files_before files_now writes_before writes_now =
    Rose output_before output_now ⊎ (Rose files_before files_now ⊎ (Rose writes_before writes_now ⊎ Other))
