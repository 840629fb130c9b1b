-- The memory of the golden vectors, and what a load or a store leaves of it (lab/tests/data/golden_vectors/README.md).
use Rattle.std.specs.Prelude.{ℕ, ◌+◌, ◌-◌, ◌*◌, ◌/◌, ◌%◌, ◌^◌, ◌==◌, ◌≡◌, ◌&&◌, ◌||◌, nat_le, nat_lt, Bool, true, false, List, Option, Some, None, map, if◌then◌else◌}
use Rattle.std.specs.FinMap.{get}
use Rattle.std.specs.List.{range_with_len}
use Rattle.std.specs.Option.{unwrap_or}
use Rattle.rv_model.specs.memory.Memory.{Cell, Memory, bytes_at}
use Rattle.rv_model.specs.step.Hart.{HartState, Stepped}
use Rattle.rv_model.specs.step.Step.{step}
use Rattle.test_definitions.specs.States.{Case, End, code_address, end_of, hart, named, result_of, ticks}

-- ---- before an instruction

-- the byte at an address of the data
abbrev pub start_byte : ℕ → ℕ
start_byte a = (37 * a + 101 * (a / 256) + 11 * (a / 32) + 7) % 256

-- a byte that may be read, and may be written or executed as these flags say
abbrev pub readable : ℕ → Bool → Bool → Cell
readable byte write execute = record { byte = byte; permissions = record { read = true; write = write; execute = execute } }

-- The cell at an address. The word is at the code address. Data may be read and written from 20000 to 21fff and from 24000 to 24fff, and
-- read from 23000 to 23fff.
abbrev pub cell_at : ℕ → ℕ → Option Cell
cell_at word a =
    if nat_le code_address a && nat_lt a (code_address + 4) then Some (readable (word / 256 ^ (a - code_address) % 256) false true)
    else if (a / 0x1000 == 0x20) || ((a / 0x1000 == 0x21) || (a / 0x1000 == 0x24)) then Some (readable (start_byte a) true false)
    else if a / 0x1000 == 0x23 then Some (readable (start_byte a) false false)
    else None

-- the memory with these cells
pub record Holds (m : Memory) (w : ℕ) : Type 0 where
  pub cells : (a : ℕ) → get m a ≡ cell_at w a

-- for each word, there is such a memory
abbrev pub MemoriesExist : Type 0
MemoriesExist = (w : ℕ) → (m : Memory) × Holds m w

-- ---- loads

-- A step of the state before ends so, and leaves the state after, and the memory as it is.
abbrev pub LoadAgrees : Case → Type 0
LoadAgrees c = (m : Memory) → Holds m c.word → result_of (step ticks (hart m c.before)) ≡ (c.end, hart m c.after)

-- ---- stores

-- the bytes after a store: those that it writes, by address, and the ranges that are compared, each by its address and size
pub record Stored : Type 0 where
  pub case : Case
  pub bytes : List (ℕ × ℕ)
  pub ranges : List (ℕ × ℕ)

-- `count` bytes of a number from an address on, the least significant first
abbrev pub run : ℕ → ℕ → ℕ → List (ℕ × ℕ)
run address count number = map (λ k. (address + k, number / 256 ^ k % 256)) (range_with_len 0 count)

-- the bytes of a range after a store
abbrev pub bytes_after : Stored → ℕ × ℕ → List ℕ
bytes_after c range = map (λ a. unwrap_or (named c.bytes a) (start_byte a)) (range_with_len range.0 range.1)

-- how a step ends, and the state that it leaves, except its memory, which is replaced
abbrev pub result_with : Memory → Stepped → End × HartState
result_with m r = (end_of r.end, record r.state { memory = m })

-- A step of the state before ends so, and leaves the state after, and these bytes in the ranges.
pub record StoreAgrees (c : Stored) : Type 0 where
  pub registers : (m : Memory) → Holds m c.case.word → result_with m (step ticks (hart m c.case.before)) ≡ (c.case.end, hart m c.case.after)
  pub memory : (m : Memory) → Holds m c.case.word
      → map (λ r. bytes_at (step ticks (hart m c.case.before)).state.memory r.0 r.1) c.ranges ≡ map (bytes_after c) c.ranges
