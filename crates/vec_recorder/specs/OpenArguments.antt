-- The options of open choices: the seed, the kinds with commas (byte 44) between them, the range of instructions, the range of elements with a
-- hyphen (byte 45) between its ends, and the file of choices
use Rattle.std.specs.Prelude.{◌≡◌, ◌+◌, ◌<◌, ◌≤◌, ◌-◌, ◌^◌, ◌==◌, ◌||◌, Bool, true, ℕ, Option, Some, None, codes, length}
use Rattle.std.specs.List.{after_first, before_first, list_all, list_any, position_or_len, slice_split}
use Rattle.std.specs.Option.{option_and_then}
use Rattle.std.specs.Str.{bytes_eq}
use Rattle.clap.specs.Walk.{Text}
use Rattle.open_choices.specs.declared.seeds.Kinds.{Kinds}
use Rattle.open_choices.specs.declared.seeds.Seed.{Seed}
use Rattle.recording.specs.OpenRuns.{seeded_from}
use Rattle.recording.specs.Runs.{stepped}
use Rattle.rv_model.specs.commands.Arguments.{number_between}
use Rattle.rv_model.specs.declared.vector.sizes.TheConstants.{GROUP_BYTES}
use Rattle.rv_model.specs.step.Hart.{HartState}
use Rattle.vec_recorder.specs.CommandLine.{RunArguments, number_or_default}

-- the state that each instruction of a run leaves: that of its step, or one with the choices of a seed
abbrev pub next_of : Option Seed → ℕ → HartState → HartState
next_of None = stepped
next_of (Some seed) = λ k s. seeded_from seed 0 k s

-- the seed of a value: a number below 2^64
abbrev pub seed_number : Text → Option ℕ
seed_number word = number_between 0 (2 ^ 64 - 1) word

-- ---- kinds

-- whether a value has this name between its commas
abbrev pub names : Text → Text → Bool
names word kind = list_any (λ name. bytes_eq name kind) (slice_split (λ byte. byte == 44) word)

-- whether this is the name of a kind
abbrev pub is_kind : Text → Bool
is_kind name = (bytes_eq name (codes "tail") || bytes_eq name (codes "masked")) || (bytes_eq name (codes "trim") || bytes_eq name (codes "length"))

-- A value names these kinds, and nothing else.
pub record AreKindsIn (word : Text) (kinds : Kinds) : Type 0 where
  pub known : list_all is_kind (slice_split (λ byte. byte == 44) word) ≡ true
  pub tail_is : kinds.tail ≡ names word (codes "tail")
  pub masked_is : kinds.masked ≡ names word (codes "masked")
  pub trim_is : kinds.trim ≡ names word (codes "trim")
  pub length_is : kinds.length ≡ names word (codes "length")

-- the kinds of a run; all without a value
abbrev pub AreKindsOf : Option Text → Kinds → Type 0
AreKindsOf None kinds = kinds ≡ record { tail = true; masked = true; trim = true; length = true }
AreKindsOf (Some word) kinds = AreKindsIn word kinds

-- ---- elements

abbrev pub is_hyphen : ℕ → Bool
is_hyphen byte = byte == 45

-- A value has a hyphen between the first element of a range and its last one, which is below `high`. Both are at most 255.
pub record IsRangeOf (word : Text) (low high : ℕ) : Type 0 where
  pub last : ℕ
  pub divided : position_or_len is_hyphen word < length word
  pub first_is : number_between 0 255 (before_first is_hyphen word) ≡ Some low
  pub last_is : number_between 0 255 (after_first is_hyphen word) ≡ Some last
  pub high_is : high ≡ last + 1
  pub in_order : low ≤ last

-- the elements of a run, excluding `high`; all without a value
abbrev pub AreElementsOf : Option Text → ℕ → ℕ → Type 0
AreElementsOf None low high = (low ≡ 0) × (high ≡ GROUP_BYTES)
AreElementsOf (Some word) low high = IsRangeOf word low high

-- ---- choices

-- The arguments describe the choices of this seed.
pub record IsSeedOf (arguments : RunArguments) (seed : Seed) : Type 0 where
  pub number_is : option_and_then seed_number arguments.seed ≡ Some seed.seed
  pub first_is : number_or_default 1 arguments.open_from ≡ Some seed.first
  pub last_is : number_or_default (2 ^ 63) arguments.open_to ≡ Some seed.last
  pub in_order : seed.first ≤ seed.last
  pub kinds_are : AreKindsOf arguments.kinds seed.kinds
  pub elements_are : AreElementsOf arguments.open_elements seed.low seed.high
  pub no_counts : arguments.counts ≡ None
  pub no_changes : arguments.changes ≡ None
  pub no_policy : arguments.policy ≡ None

-- The choices of a run: none without `--open`, and then no file of choices.
abbrev pub AreChoicesOf : RunArguments → Option Seed → Type 0
AreChoicesOf arguments None = (arguments.seed ≡ None) × (arguments.chosen ≡ None)
AreChoicesOf arguments (Some seed) = IsSeedOf arguments seed
