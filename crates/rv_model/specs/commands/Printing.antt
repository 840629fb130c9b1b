-- Text that several commands print: 64-bit values as 16 lower-case hexadecimal digits, refusals, and the cause of a stop.
use Rattle.std.specs.Prelude.{ℕ, List, ◌++◌, decimal, codes}
use Rattle.std.specs.Int.{to_be_bytes, w32, w64}
use Rattle.hex.specs.Hex.{encode_lower}
use Rattle.rv_model.specs.declared.commands.refusal.Refusal.{Refusal}
use Rattle.rv_model.specs.declared.commands.refusal.Refusal.TheVariants.{UnknownCommand, Argument, NotEntered, AlreadyEntered, Running, ImageName, ElfFault, Quota, NotMapped, BreakpointLimit, Breakpoint, NotRunning, Assembler, AlreadyMapped}
use Rattle.rv_model.specs.declared.step.step_end.Stop.{Stop}
use Rattle.rv_model.specs.declared.step.step_end.Stop.TheVariants as stop
use Rattle.rv_model.specs.images.Faults.{fault_name}
use Rattle.rv_model.specs.step.Hart.{cause_number}

-- 16 hexadecimal digits, the most significant first
unfoldable pub hex16 : ℕ → List ℕ
hex16 n = encode_lower (to_be_bytes w64 n)

-- 8 hexadecimal digits, the most significant first
unfoldable pub hex8 : ℕ → List ℕ
hex8 n = encode_lower (to_be_bytes w32 n)

-- an address in a list, after a space
unfoldable pub listed : ℕ → List ℕ
listed addr = codes " " ++ hex16 addr

unfoldable pub refused : Refusal → List ℕ
refused UnknownCommand = codes "E03"
refused Argument = codes "E04"
refused NotEntered = codes "E05"
refused AlreadyEntered = codes "E06"
refused Running = codes "E07"
refused ImageName = codes "E08"
refused (ElfFault fault) = codes "E09 " ++ fault_name fault
refused Quota = codes "E10"
refused NotMapped = codes "E11"
refused BreakpointLimit = codes "E12"
refused Breakpoint = codes "E13"
refused NotRunning = codes "E14"
refused (Assembler column) = codes "E15 " ++ decimal column
refused AlreadyMapped = codes "E16"

-- the cause of a stop, and the program counter
unfoldable pub stop_line : ℕ → Stop → List ℕ
stop_line pc stop.Breakpoint = codes "break pc=" ++ hex16 pc
stop_line pc stop.Ebreak = codes "ebreak pc=" ++ hex16 pc
stop_line pc (stop.Exit status) = codes "exit " ++ decimal status ++ codes " pc=" ++ hex16 pc
stop_line pc (stop.Fault cause value) = codes "fault cause=" ++ decimal (cause_number cause) ++ codes " pc=" ++ hex16 pc ++ codes " value=" ++ hex16 value
stop_line pc stop.OutputFull = codes "outfull pc=" ++ hex16 pc
