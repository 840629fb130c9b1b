-- Counts of instructions, and the table of counts, with a row for each key.
use Rattle.std.specs.Prelude.{ℕ, ◌≡◌, ◌<◌, ◌+◌, ◌%◌, ◌^◌, Bool, true, false, List, length, get_or, if◌then◌else◌}
use Rattle.std.specs.Int.{w64}
use Rattle.std.specs.List.{sum_by}
use Rattle.rv_model.specs.scalar.Arithmetic.{sum}
pub use Rattle.recording.specs.declared.key.Key.{Key}
use Rattle.recording.specs.declared.key.Key.TheVariants.{Word}
pub use Rattle.recording.specs.declared.sums.Sums.{Sums}
pub use Rattle.recording.specs.declared.row.Row.{Row}

-- zeros
abbrev pub no_sums : Sums
no_sums = record { times = 0; ticks = 0; active = 0; masked = 0; tail = 0 }

-- one execution
abbrev pub once : Sums
once = record { times = 1; ticks = 0; active = 0; masked = 0; tail = 0 }

-- one execution with these ticks, without elements
abbrev pub plain : ℕ → Sums
plain ticks = record { times = 1; ticks = ticks; active = 0; masked = 0; tail = 0 }

-- the sum of both, modulo 2 ^ 64
abbrev pub added : Sums → Sums → Sums
added a b =
    record {
      times = sum w64 a.times b.times;
      ticks = sum w64 a.ticks b.ticks;
      active = sum w64 a.active b.active;
      masked = sum w64 a.masked b.masked;
      tail = sum w64 a.tail b.tail;
    }

-- a property holds for each counted number
pub record OfEach (Holds : (Sums → ℕ) → Type 0) : Type 0 where
  pub times : Holds (λ s. s.times)
  pub ticks : Holds (λ s. s.ticks)
  pub active : Holds (λ s. s.active)
  pub masked : Holds (λ s. s.masked)
  pub tail : Holds (λ s. s.tail)

-- a number of a row if its key is selected, otherwise 0
abbrev pub part_of : (Sums → ℕ) → (Key → Bool) → Row → ℕ
part_of number asked row = if asked row.key then number row.sums else 0

-- the sum over the rows with a selected key
abbrev pub total : (Sums → ℕ) → (Key → Bool) → List Row → ℕ
total number asked rows = sum_by (part_of number asked) rows

-- The sums of the new rows are those of the old rows plus `more`, for any selection of keys, modulo 2 ^ 64.
abbrev pub HasMore : ((Sums → ℕ) → (Key → Bool) → ℕ) → List Row → List Row → Type 0
HasMore more old new = (asked : Key → Bool) → OfEach (λ number. total number asked new % 2 ^ 64 ≡ (total number asked old + more number asked) % 2 ^ 64)

-- whether a key is that of a word
abbrev pub is_word : Key → Bool
is_word (Word pc word) = true
is_word _ = false

-- no addition to any key
abbrev pub no_more : (Sums → ℕ) → (Key → Bool) → ℕ
no_more number asked = 0

-- an addition of sums to one key
abbrev pub more_of : Key → Sums → (Sums → ℕ) → (Key → Bool) → ℕ
more_of key sums number asked = if asked key then number sums else 0

-- The row with an index has a key.
pub record IsRowOf (key : Key) (index : ℕ) (rows : List Row) : Type 0 where
  pub there : index < length rows
  pub of : (d : Row) → (get_or rows index d).key ≡ key
