-- The effect of the program with its arguments: the machine that it creates, the script that it reads, and its output.
-- The bytes of files and of standard input may be unspecified.
use Rattle.std.specs.Prelude.{◌≡◌, ◌≤◌, ℕ, List, [], Option, None, Result, Ok, length}
use Rattle.std.specs.Io.{StartsWith}
use Rattle.std.specs.List.{AllZip}
use Rattle.std.specs.Option.{option_map_or}
use Rattle.clap.specs.Words.{IsAmong, Text}
use Rattle.clap.specs.declared.error.kind.ErrorKind.TheVariants.{DisplayHelp}
use Rattle.monitor_machine.specs.MachineState.{MachineState}
use Rattle.monitor_machine.specs.NewFaults.{new_fault}
use Rattle.monitor_machine.specs.declared.new_fault.NewFault.{NewFault}
use Rattle.rv_model.specs.machine.World.{solo}
use Rattle.rv_model.specs.machine.Script.{lines, own, whole}
use Rattle.rv_model.specs.machine.Setup.{Image, Setup, user_count}
use Rattle.vec_monitor.specs.CommandLine.{image_arguments, quantum_word, script_word, arguments_fault, IsQuantum}
use Rattle.vec_monitor.specs.ImageArguments.{IsNameAndPath}
use Rattle.devices.specs.KnownBytes.{AreKnownAs}

-- A new machine with this setup read a script to its end and output the script's replies. Each user's lines are the
-- output of a single-user machine that processes only that user's events.
pub record RanScript (took : List ℕ → Type 0) (setup : Setup) (known : Option (List ℕ)) : Type 0 where
  pub script : List ℕ
  pub output : List ℕ
  pub read : AreKnownAs known script
  pub not_too_long : length script ≤ 16777216
  pub taken : took output
  pub all : output ≡ whole setup script
  pub each_user : (u : ℕ) → 1 ≤ u → u ≤ user_count → lines u output ≡ solo setup (own setup u script)

-- However the run of a script ended, a new machine with this setup has output a prefix of the script's output.
abbrev pub OutputPrefix : (List ℕ → Type 0) → Setup → Option (List ℕ) → Type 0
OutputPrefix took setup known =
    (script : List ℕ) × AreKnownAs known script × ((output : List ℕ) × took output × StartsWith (whole setup script) output)

-- the image that an argument names: its name, and the bytes of the file at its path
abbrev pub IsImageOf : (Text → Option (List ℕ)) → Text → Image → Type 0
IsImageOf file_bytes word image =
    (path : Text) × IsNameAndPath word image.name path × AreKnownAs (file_bytes path) image.bytes

-- a machine was created, and `Ran` holds for its setup
abbrev pub HasRun : Result MachineState NewFault → (Setup → Type 0) → Type 0
HasRun created Ran = (machine : MachineState) × (created ≡ Ok machine) × Ran machine.setup

-- A machine with this quantum and the images of these arguments executed the script, and `Ran` describes the run. The
-- machine refuses no image. The script's bytes are those of the file at its path, or those of standard input without a
-- path.
pub record RanOptions (file_bytes : Text → Option (List ℕ)) (input_bytes : Option (List ℕ)) (quantum : ℕ) (script : Option Text) (images : List Text) (Ran : Setup → Option (List ℕ) → Type 0) : Type 0 where
  pub setup : Setup
  pub ticks : setup.quantum ≡ quantum
  pub files : AllZip (IsImageOf file_bytes) images setup.images
  pub faultless : new_fault setup ≡ None
  pub run : Ran setup (option_map_or file_bytes script input_bytes)

-- clap accepted the arguments, and `Ran` describes the run of the script that they name
pub record RanArguments (file_bytes : Text → Option (List ℕ)) (input_bytes : Option (List ℕ)) (arguments : List Text) (Ran : Setup → Option (List ℕ) → Type 0) : Type 0 where
  pub accepted : arguments_fault arguments ≡ []
  pub quantum : ℕ
  pub ticks : IsQuantum (quantum_word arguments) quantum
  pub run : RanOptions file_bytes input_bytes quantum (script_word arguments) (image_arguments arguments) Ran

-- The arguments ask for help, and the output took a text.
pub record IsHelped (arguments : List Text) (took : List ℕ → Type 0) : Type 0 where
  pub asked : IsAmong DisplayHelp (arguments_fault arguments)
  pub text : List ℕ
  pub taken : took text
