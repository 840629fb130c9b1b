-- The paths that a run writes to and reads from, compared byte by byte
use Rattle.std.specs.Prelude.{◌≢◌, ⊤, List, Option, None, Some}
use Rattle.std.specs.List.{All}
use Rattle.clap.specs.Walk.{Text}
use Rattle.vec_recorder.specs.CommandLine.{RunArguments}
use Rattle.vec_recorder.specs.declared.memory_arguments.MemoryPath.{MemoryPath}

-- two paths differ, if both are given
abbrev pub Differ : Option Text → Option Text → Type 0
Differ None other = ⊤
Differ (Some path) None = ⊤
Differ (Some path) (Some other) = path ≢ other

-- an output path, if it is given, isn't the path of this memory file
abbrev pub DiffersFrom : Option Text → MemoryPath → Type 0
DiffersFrom output memory = Differ output (Some memory.path.now)

-- an output path, if it is given, isn't an input: neither the image nor a register or memory file
pub record IsNoInput (arguments : RunArguments) (memories : List MemoryPath) (output : Option Text) : Type 0 where
  pub image : Differ output arguments.image
  pub registers : Differ output arguments.registers
  pub memory : All (DiffersFrom output) memories

-- All output paths differ, and none is an input. A run with a file of choices has neither counts nor changes.
pub record ArePathsApart (arguments : RunArguments) (memories : List MemoryPath) : Type 0 where
  pub counts_and_changes : Differ arguments.counts arguments.changes
  pub counts_and_log : Differ arguments.counts arguments.log
  pub changes_and_log : Differ arguments.changes arguments.log
  pub log_and_chosen : Differ arguments.log arguments.chosen
  pub counts : IsNoInput arguments memories arguments.counts
  pub changes : IsNoInput arguments memories arguments.changes
  pub log : IsNoInput arguments memories arguments.log
  pub chosen : IsNoInput arguments memories arguments.chosen
