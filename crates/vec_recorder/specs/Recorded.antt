-- The effect of the program with its arguments: the initial machine of a run, its output, and its records
use Rattle.std.specs.Prelude.{◌≡◌, ◌≤◌, ◌%◌, ◌^◌, ◌++◌, ℕ, Bool, List, [], Option, None, Some, flat_map}
use Rattle.std.specs.List.{All, AllZip}
use Rattle.clap.specs.Walk.{Text}
use Rattle.clap.specs.Words.{IsAmong}
use Rattle.clap.specs.declared.error.kind.ErrorKind.TheVariants.{DisplayHelp}
use Rattle.choice_log.specs.ChoiceLines.{choices_from}
use Rattle.commit_log.specs.Logged.{logged_from}
use Rattle.commit_log.specs.declared.log.Window.{Window}
use Rattle.memory_changes.specs.Changes.{changes_from}
use Rattle.memory_changes.specs.declared.place.Place.{Place}
use Rattle.open_choices.specs.declared.seeds.Seed.{Seed}
use Rattle.recording.specs.Runs.{TakesFirst, output_of, ran_by, shares}
use Rattle.recording.specs.Sums.{OfEach, is_word, total}
use Rattle.recording.specs.declared.key.Key.{Key}
use Rattle.recording.specs.declared.row.Row.{Row}
use Rattle.rv_model.specs.declared.step.step_end.StepEnd.{StepEnd}
use Rattle.rv_model.specs.declared.vector.policy.Policy.{Policy}
use Rattle.rv_model.specs.step.Hart.{HartState}
use Rattle.vec_recorder.specs.InitialMachine.{StartsFrom}
use Rattle.vec_recorder.specs.KeyOrder.{Ascend, is_key}
use Rattle.vec_recorder.specs.CommandLine.{RunArguments, number_or_default, policy_or_default, run_arguments, arguments_fault}
use Rattle.vec_recorder.specs.MemoryArguments.{IsMemoryOf}
use Rattle.vec_recorder.specs.OpenArguments.{AreChoicesOf, next_of}
use Rattle.vec_recorder.specs.Paths.{ArePathsApart}
use Rattle.vec_recorder.specs.RecordLines.{last_line, row_line}
use Rattle.vec_recorder.specs.Statuses.{program_status}
use Rattle.vec_recorder.specs.WatchArguments.{IsPlaceOf}
use Rattle.vec_recorder.specs.declared.memory_arguments.MemoryPath.{MemoryPath}
use Rattle.vec_recorder.specs.declared.program_fault.ProgramFault.{ProgramFault}

-- These rows contain the counts of all instructions of a run, modulo 2^64, for each set of keys.
abbrev pub AreCountsOf : List HartState → List Row → Type 0
AreCountsOf found rows = (asked : Key → Bool) → OfEach (λ number. total number asked rows % 2 ^ 64 ≡ shares found number asked % 2 ^ 64)

-- A row has the counts of its own key in a run, modulo 2^64.
abbrev pub HasOwnCounts : List HartState → Row → Type 0
HasOwnCounts found row = OfEach (λ number. number row.sums % 2 ^ 64 ≡ shares found number (is_key row.key) % 2 ^ 64)

-- the last line of each record of a run, from the state that each instruction leaves, the maximum number of ticks and the initial state
abbrev pub end_of : (ℕ → HartState → HartState) → ℕ → HartState → List ℕ
end_of next ticks s =
    let run = ran_by next ticks s in
    last_line run.state.scalar.pc run.end (shares run.found (λ sums. sums.times) is_word % 2 ^ 64) (shares run.found (λ sums. sums.ticks) is_word % 2 ^ 64)

-- The counts of a run are the lines of such rows, and the last line. The rows are in the order of their keys, each key has at most one row, and each row
-- the counts of its key.
pub record AreCounted (took : List ℕ → Type 0) (next : ℕ → HartState → HartState) (ticks : ℕ) (s : HartState) : Type 0 where
  pub rows : List Row
  pub ascend : Ascend rows
  pub own : All (HasOwnCounts (ran_by next ticks s).found) rows
  pub counts : AreCountsOf (ran_by next ticks s).found rows
  pub taken : took (flat_map row_line rows ++ end_of next ticks s)

-- The changes of watched ranges in a run are the lines of each instruction, in order, and the last line.
abbrev pub AreChanged : (List ℕ → Type 0) → List Place → (ℕ → HartState → HartState) → ℕ → HartState → Type 0
AreChanged took places next ticks s = took (changes_from places 0 0 (ran_by next ticks s).found ++ end_of next ticks s)

-- The log of a run has a line for each instruction that ran and whose number is in the window, in order, and the last
-- line.
abbrev pub AreLogged : (List ℕ → Type 0) → Window → (ℕ → HartState → HartState) → ℕ → HartState → Type 0
AreLogged took window next ticks s = took (logged_from window 0 (ran_by next ticks s).found ++ end_of next ticks s)

-- The choices of a run, if a seed makes any, are the lines of each instruction, in order.
abbrev pub AreChosen : (List ℕ → Type 0) → Option Seed → ℕ → HartState → Type 0
AreChosen took None ticks s = took []
AreChosen took (Some seed) ticks s = took (choices_from seed 0 (ran_by (next_of (Some seed)) ticks s).found)

-- A run of at most `ticks` ticks was recorded and had the specified output. `ended` has the run's end and the record.
pub record RecordsRun {O K : Type 0} (records : O → List HartState → O → Type 0) (took : K → List ℕ → K → Type 0) (next : ℕ → HartState → HartState) (ticks : ℕ) (s left : HartState) (before after : K)
    (first : O) (ended : Option StepEnd × O) : Type 0 where
  pub recorded : records first (ran_by next ticks s).found ended.1
  pub end : ended.0 ≡ (ran_by next ticks s).end
  pub machine : left ≡ (ran_by next ticks s).state
  pub output : took before (flat_map output_of (ran_by next ticks s).found) after

-- ---- record files. `created`, `took` and `closed` are what the caller's files say of a created file, of the bytes that it accepts, and of a closed file

-- A file was created at a path, other files were written as `Others` says, and the file was closed after it accepted a text that `Says` describes, and nothing else.
pub record IsWritten {O F : Type 0} (created : O → Text → F → O → Type 0) (took : F → List ℕ → F → Type 0) (closed : O → F → O → Type 0) (path : Text) (Says : (List ℕ → Type 0) → Type 0)
    (Others : O → O → Type 0) (old new : O) : Type 0 where
  pub empty : F
  pub full : F
  pub first : O
  pub last : O
  pub made : created old path empty first
  pub others : Others first last
  pub says : Says (λ printed. took empty printed full)
  pub ended : closed last full new

-- a record is in the file at a path, if a path is given; otherwise only other files were written
abbrev pub IsKept : {O F : Type 0} → (O → Text → F → O → Type 0) → (F → List ℕ → F → Type 0) → (O → F → O → Type 0) → Option Text → ((List ℕ → Type 0) → Type 0) → (O → O → Type 0) → O → O → Type 0
IsKept created took closed None Says Others old new = Others old new
IsKept created took closed (Some path) Says Others old new = IsWritten created took closed path Says Others old new

-- no file was created, written or closed
abbrev pub AreUntouched : {O : Type 0} → O → O → Type 0
AreUntouched old new = new ≡ old

-- the log is in the file at a path, if a path is given, and no other file was touched
abbrev pub IsLogKept : {O F : Type 0} → (O → Text → F → O → Type 0) → (F → List ℕ → F → Type 0) → (O → F → O → Type 0) → Option Text → Window → (ℕ → HartState → HartState) → ℕ → HartState → O → O → Type 0
IsLogKept created took closed log window next ticks s = IsKept created took closed log (λ printed. AreLogged printed window next ticks s) AreUntouched

-- the changes and the log are in their files, and no other file was touched
abbrev pub AreChangesKept : {O F : Type 0} → (O → Text → F → O → Type 0) → (F → List ℕ → F → Type 0) → (O → F → O → Type 0) → Option Text → Option Text → List Place → Window → (ℕ → HartState → HartState) → ℕ → HartState → O → O → Type 0
AreChangesKept created took closed changes log places window next ticks s =
    IsKept created took closed changes (λ printed. AreChanged printed places next ticks s) (IsLogKept created took closed log window next ticks s)

-- the counts, the changes and the log are in their files, and no other file was touched
abbrev pub AreRecordsKept : {O F : Type 0} → (O → Text → F → O → Type 0) → (F → List ℕ → F → Type 0) → (O → F → O → Type 0) → Option Text → Option Text → Option Text → List Place → Window → (ℕ → HartState → HartState) → ℕ → HartState → O → O → Type 0
AreRecordsKept created took closed counts changes log places window next ticks s =
    IsKept created took closed counts (λ printed. AreCounted printed next ticks s) (AreChangesKept created took closed changes log places window next ticks s)

-- the choices of a run with the choices of a seed, if there is one, and all its other records are in their files, and no other file was touched
abbrev pub AreFilesKept : {O F : Type 0} → (O → Text → F → O → Type 0) → (F → List ℕ → F → Type 0) → (O → F → O → Type 0) → Option Text → Option Text → Option Text → Option Text → List Place → Window → Option Seed → ℕ → HartState → O → O → Type 0
AreFilesKept created took closed counts changes log chosen places window seed ticks s =
    IsKept created took closed chosen (λ printed. AreChosen printed seed ticks s) (AreRecordsKept created took closed counts changes log places window (next_of seed) ticks s)

-- ---- runs

-- A run of at most `ticks` ticks ended with exit status 5, for the reason `Cause`. The output accepted the first bytes of the run's whole output.
pub record IsStopped {K : Type 0} (took : K → List ℕ → K → Type 0) (next : ℕ → HartState → HartState) (ticks : ℕ) (s : HartState) (before after : K) (Cause : Type 0) (fault : ProgramFault) : Type 0 where
  pub status : program_status fault ≡ 5
  pub first : TakesFirst took before (flat_map output_of (ran_by next ticks s).found) after
  pub cause : Cause

-- Memory ran out before a run: no instruction was executed, the output accepted nothing, and no file was created.
pub record IsUnstarted {K O : Type 0} (took : K → List ℕ → K → Type 0) (before after : K) (old new : O) (fault : ProgramFault) : Type 0 where
  pub status : program_status fault ≡ 6
  pub nothing : took before [] after
  pub files : AreUntouched old new

-- The output of a run is complete, and its records are in the files that the arguments name. No other file was touched.
pub record IsComplete {O F : Type 0} (created : O → Text → F → O → Type 0) (took : F → List ℕ → F → Type 0) (closed : O → F → O → Type 0) (put : List ℕ → Type 0) (arguments : RunArguments) (old new : O)
    (seed : Option Seed) (ticks : ℕ) (places : List Place) (window : Window) (state : HartState) : Type 0 where
  pub output : put (flat_map output_of (ran_by (next_of seed) ticks state).found)
  pub records : AreFilesKept created took closed arguments.counts arguments.changes arguments.log arguments.chosen places window seed ticks state old new

-- A run started from the image, memory and registers of the arguments, and `Ran` describes it.
pub record RunBy (file_bytes : Text → Option (List ℕ)) (arguments : RunArguments) (policy : Policy) (memories : List MemoryPath) (Ran : HartState → Type 0) : Type 0 where
  pub state : HartState
  pub begins : StartsFrom file_bytes policy arguments.image memories arguments.registers state
  pub run : Ran state

-- The values that valid arguments describe.
pub record AreValuesOf (arguments : RunArguments) (policy : Policy) (ticks : ℕ) (memories : List MemoryPath) (places : List Place) (window : Window) (seed : Option Seed) : Type 0 where
  pub policy_is : policy_or_default arguments.policy ≡ Some policy
  pub ticks_are : number_or_default (2 ^ 63) arguments.ticks ≡ Some ticks
  pub memories_are : AllZip IsMemoryOf arguments.memory memories
  pub places_are : AllZip IsPlaceOf arguments.watch places
  pub first_is : number_or_default 1 arguments.from ≡ Some window.from
  pub last_is : number_or_default (2 ^ 63) arguments.to ≡ Some window.to
  pub in_order : window.from ≤ window.to
  pub apart : ArePathsApart arguments memories
  pub choices_are : AreChoicesOf arguments seed

-- The arguments are valid and describe a run, and `Ran` describes it.
pub record RecordedBy (file_bytes : Text → Option (List ℕ)) (arguments : RunArguments) (Ran : Option Seed → ℕ → List Place → Window → HartState → Type 0) : Type 0 where
  pub policy : Policy
  pub ticks : ℕ
  pub memories : List MemoryPath
  pub places : List Place
  pub window : Window
  pub seed : Option Seed
  pub values : AreValuesOf arguments policy ticks memories places window seed
  pub run : RunBy file_bytes arguments policy memories (Ran seed ticks places window)

-- clap accepted the arguments, and `Ran` describes the run that they describe
pub record Recorded (file_bytes : Text → Option (List ℕ)) (arguments : List Text) (Ran : Option Seed → ℕ → List Place → Window → HartState → Type 0) : Type 0 where
  pub accepted : arguments_fault arguments ≡ []
  pub run : RecordedBy file_bytes (run_arguments arguments) Ran

-- The arguments ask for help: the output took a text, and no file was touched.
pub record IsHelped {O : Type 0} (arguments : List Text) (put : List ℕ → Type 0) (old new : O) : Type 0 where
  pub asked : IsAmong DisplayHelp (arguments_fault arguments)
  pub text : List ℕ
  pub taken : put text
  pub files : AreUntouched old new
