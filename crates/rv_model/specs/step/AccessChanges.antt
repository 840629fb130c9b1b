-- The bytes of the vector registers and of memory that a vector load or store may change ("V" Vector Extension 1.0, sections 3.4.3 and 7), and
-- the law that a step changes no others.
use Rattle.std.specs.Prelude.{ℕ, ◌≡◌, ◌+◌, ◌-◌, ◌*◌, ◌/◌, ◌<◌, ◌&&◌, nat_le, Bool, false, Option, Some, None, List, All, ⊤, length, slice_index}
use Rattle.rv_model.specs.declared.instructions.instruction.Instr.TheVariants as instr
use Rattle.rv_model.specs.declared.instructions.operations.Direction.TheVariants as direction
use Rattle.rv_model.specs.declared.vector.sizes.TheConstants.{FILE_BYTES, VLENB}
use Rattle.rv_model.specs.accesses.AccessRuns.{AccessInstr, Direction, VectorAccess, access_of}
use Rattle.rv_model.specs.accesses.Transfers.{Moved, Ones, Transfer, TransferKind, transfers}
use Rattle.rv_model.specs.accesses.VectorAccess.{element_start, plan}
use Rattle.rv_model.specs.memory.Memory.{Memory, is_within, memory_byte}
use Rattle.rv_model.specs.step.Hart.{HartState}
use Rattle.rv_model.specs.step.MemoryStep.{filled_type, load_fills_masked_off, reads_memory}
use Rattle.rv_model.specs.step.Step.{fetched, step}
use Rattle.rv_model.specs.vector.Groups.{GroupType, registers, width_bytes}

-- ---- the transfers

-- the transfers of a load or store from vstart to the end of its body
abbrev pub body_transfers : VectorAccess → HartState → List Transfer
body_transfers a s =
    transfers (plan a (reads_memory a.direction && load_fills_masked_off a s)) a.body.start (a.body.end - a.body.start)

-- whether a transfer covers a byte of the register file, by the element that it moves
abbrev pub covers_register : VectorAccess → ℕ → Transfer → Bool
covers_register a k t = is_within (element_start a t) t.size k

-- whether a transfer covers the byte at an address
abbrev pub covers : ℕ → ℕ → TransferKind → Bool
covers x size (Moved address) = is_within address size x
covers x size Ones = false

abbrev pub covers_memory : ℕ → Transfer → Bool
covers_memory x t = covers x t.size t.kind

-- ---- the tails that a load fills with ones

-- whether a byte of the register file belongs to the tail of a field
abbrev pub is_tail : GroupType → VectorAccess → ℕ → ℕ → Bool
is_tail g a k field =
    let from = VLENB * (a.register + field * registers g.emul) in
    is_within from (VLENB * registers g.emul) k && nat_le a.body.end ((k - from) / width_bytes g.width)

-- A byte belongs to the tail of no field; with None, the load fills no tails.
abbrev pub MissesTails : Option GroupType → VectorAccess → ℕ → Type 0
MissesTails None a k = ⊤
MissesTails (Some g) a k = (field : ℕ) → field < a.fields → is_tail g a k field ≡ false

-- ---- the law

-- The registers `file` and the memory `m` after a load. The load preserves the memory, and each byte of the registers that none of its
-- transfers covers and that belongs to no tail that it fills.
pub record LoadKeeps (i : AccessInstr) (a : VectorAccess) (s : HartState) (file : List ℕ) (m : Memory) : Type 0 where
  pub memory : m ≡ s.memory
  pub size : length file ≡ length s.vector.file
  pub registers : (k : ℕ) → All (λ t. covers_register a k t ≡ false) (body_transfers a s) → MissesTails (filled_type i a s) a k
      → slice_index file k ≡ slice_index s.vector.file k

-- The same after a store. It preserves the vector registers, and each byte of memory that none of its transfers covers.
pub record StoreKeeps (a : VectorAccess) (s : HartState) (file : List ℕ) (m : Memory) : Type 0 where
  pub registers : file ≡ s.vector.file
  pub memory : (x : ℕ) → All (λ t. covers_memory x t ≡ false) (body_transfers a s) → memory_byte m x ≡ memory_byte s.memory x

-- The same after an access that needs a vector type when there is none: it changes nothing.
pub record BothStay (s : HartState) (file : List ℕ) (m : Memory) : Type 0 where
  pub registers : file ≡ s.vector.file
  pub memory : m ≡ s.memory

abbrev pub DirectionKeeps : Direction → AccessInstr → VectorAccess → HartState → List ℕ → Memory → Type 0
DirectionKeeps direction.Load i a s file m = LoadKeeps i a s file m
DirectionKeeps direction.Store i a s file m = StoreKeeps a s file m

abbrev pub AccessKeeps : AccessInstr → Option VectorAccess → HartState → List ℕ → Memory → Type 0
AccessKeeps i None s file m = BothStay s file m
AccessKeeps i (Some a) s file m = DirectionKeeps a.direction i a s file m

-- A step whose instruction is a vector load or store changes no byte of the vector registers or of memory outside its transfers and the
-- tails that it fills. This holds whether it retires, faults, is cut, or is illegal.
abbrev pub AccessesKeepOthers : Type 0
AccessesKeepOthers = (limit : ℕ) (i : AccessInstr) (s : HartState) → length s.vector.file ≡ FILE_BYTES
    → fetched s.memory s.scalar.pc ≡ Some (instr.Access i)
    → AccessKeeps i (access_of i s.vector s.scalar) s (step limit s).state.vector.file (step limit s).state.memory
