-- The exit statuses of the program (docs/PROGRAM.md)
use Rattle.std.specs.Prelude.{◌≡◌, ◌≢◌, ◌<◌, ◌⊎◌, ⊤, ℕ, List, [], length, Option, IfSome, Result, Err}
use Rattle.std.specs.List.{Any}
use Rattle.clap.specs.Words.{IsAmong, Text}
use Rattle.devices.specs.Device.{Rose}
use Rattle.clap.specs.declared.error.kind.ErrorKind.{ErrorKind}
use Rattle.clap.specs.declared.error.kind.ErrorKind.TheVariants.{DisplayHelp}
use Rattle.monitor_machine.specs.MachineState.{MachineState}
use Rattle.monitor_machine.specs.declared.new_fault.NewFault.{NewFault}
use Rattle.monitor_machine.specs.declared.new_fault.NewFault.TheVariants as new_fault
use Rattle.monitor_script.specs.declared.script.RunFault.{RunFault}
use Rattle.monitor_script.specs.declared.script.RunFault.TheVariants.{Read, TooLong, Write}
use Rattle.vec_monitor.specs.CommandLine.{image_arguments, arguments_fault}
use Rattle.vec_monitor.specs.ImageArguments.{LacksEqualsSign}
use Rattle.vec_monitor.specs.declared.program_fault.ProgramFault.{ProgramFault}
use Rattle.vec_monitor.specs.declared.program_fault.ProgramFault.TheVariants.{ImageRead, ImageList, Run, NoMemory}

-- faults of the script have exit status 3, and faults of the output have 5
abbrev pub run_status : RunFault → ℕ
run_status Read = 3
run_status TooLong = 3
run_status Write = 5

-- faults of images have exit status 4, lack of memory has 6, and invalid arguments have 2
abbrev pub program_status : ProgramFault → ℕ
program_status (ImageRead name) = 4
program_status ImageList = 4
program_status (Run fault) = run_status fault
program_status NoMemory = 6
program_status _ = 2

-- the program's fault if no machine can be created: lack of memory, or a fault of the images, because the quantum is always valid
abbrev pub machine_fault : NewFault → ProgramFault
machine_fault new_fault.NoMemory = NoMemory
machine_fault _ = ImageList

-- a script, if its bytes are known, has more than 16,777,216 bytes
abbrev pub IsTooLong : Option (List ℕ) → Type 0
IsTooLong known = IfSome known (λ script. 16777216 < length script)

-- A run stopped with this fault, in which the failure count of the script's reader has these values before and after. If the script couldn't be
-- read, the count has risen; if it was too long, the script is.
abbrev pub IsUnread : ℕ → ℕ → Option (List ℕ) → RunFault → Type 0
IsUnread before now known Read = Rose before now
IsUnread before now known TooLong = IsTooLong known
IsUnread before now known Write = ⊤

-- the program's fault if a machine wasn't created, and then the output is as before, or if its script failed, and then by
-- a failed write if the fault says so, and otherwise as `Unread` says
abbrev pub IsRunFault : Result MachineState NewFault → Type 0 → Type 0 → (RunFault → Type 0) → ProgramFault → Type 0
IsRunFault created Unused Failed Unread fault =
    ((refused : NewFault) × (created ≡ Err refused) × ((fault ≡ machine_fault refused) × Unused))
    ⊎ ((stopped : RunFault) × (fault ≡ Run stopped) × ((stopped ≡ Write → Failed) × Unread stopped))

-- clap may return an error other than help for the arguments, or clap accepts them and an image argument has no equals
-- sign
abbrev pub MayBeRefused : List Text → Type 0
MayBeRefused arguments = ((kind : ErrorKind) × IsAmong kind (arguments_fault arguments) × (kind ≢ DisplayHelp))
    ⊎ ((arguments_fault arguments ≡ []) × Any LacksEqualsSign (image_arguments arguments))

-- clap rejects the arguments and help is none of the possible errors, or clap accepts them and an image argument has no
-- equals sign
abbrev pub AreRefused : List Text → Type 0
AreRefused arguments = ((arguments_fault arguments ≢ []) × (IsAmong DisplayHelp (arguments_fault arguments) → ⊥))
    ⊎ ((arguments_fault arguments ≡ []) × Any LacksEqualsSign (image_arguments arguments))
