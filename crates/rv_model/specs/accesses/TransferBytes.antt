-- Laws about the bytes that lists of transfers write, for the definitions in `Transfers` ("V" Vector Extension 1.0, sections 7.5, 7.6 and
-- 7.8). Each byte is from the last transfer that covers it; a byte that no transfer covers is unchanged.
use Rattle.std.specs.Prelude.{ℕ, ◌≡◌, ◌+◌, ◌-◌, ◌<◌, ◌≤◌, Some, true, false, List, All, length, reverse, slice_index}
use Rattle.std.specs.List.{find}
use Rattle.std.specs.Option.{option_map_or}
use Rattle.rv_model.specs.declared.instructions.instruction.Instr.TheVariants as instr
use Rattle.rv_model.specs.declared.memory.Access.TheVariants.{Monitor}
use Rattle.rv_model.specs.declared.vector.sizes.TheConstants.{FILE_BYTES}
use Rattle.rv_model.specs.accesses.Transfers.{Moved, Transfer, address_of, bytes_loaded, memory_stored, registers_loaded, transfers}
use Rattle.rv_model.specs.accesses.VectorAccess.{AccessInstr, Scalar, VState, VectorAccess, access_of, element_start, plan}
use Rattle.rv_model.specs.legality.Legality.{IsLegal}
use Rattle.rv_model.specs.memory.Memory.{Memory, can_access_byte, is_within, memory_byte}
use Rattle.rv_model.specs.vector.Groups.{IsConfiguration}

-- byte k of the register file after transfers of a load
abbrev pub LoadsByTransfer : Type 0
LoadsByTransfer = (m : Memory) (place : Transfer → ℕ) (file : List ℕ) (ts : List Transfer) (k : ℕ) → k < length file
    → slice_index (registers_loaded m place file ts) k
    ≡ option_map_or (λ t. slice_index (bytes_loaded m t.size t.kind) (k - place t))
    (find (λ t. is_within (place t) t.size k) (reverse ts)) (slice_index file k)

-- the byte at a mapped address after transfers of a store, where each transfer moves an element within the register file
abbrev pub StoresByTransfer : Type 0
StoresByTransfer = (m : Memory) (place : Transfer → ℕ) (file : List ℕ) (ts : List Transfer) (x : ℕ)
    → All (λ t. (t.kind ≡ Moved (address_of t.kind)) × (place t + t.size ≤ length file)) ts → can_access_byte Monitor m x ≡ true
    → memory_byte (memory_stored m place file ts) x
    ≡ option_map_or (λ t. slice_index file (place t + (x - address_of t.kind)))
    (find (λ t. is_within (address_of t.kind) t.size x) (reverse ts)) (memory_byte m x)

-- the transfers of a legal load or store satisfy this condition, for indices before its end and without filled elements
abbrev pub TransfersLieInFile : Type 0
TransfersLieInFile = (i : AccessInstr) (v : VState) (x : Scalar) (a : VectorAccess) (k n : ℕ)
    → IsLegal (instr.Access i) v.conf.vtype v.vstart → IsConfiguration v.conf → access_of i v x ≡ Some a → k + n ≤ a.body.end
    → All (λ t. (t.kind ≡ Moved (address_of t.kind)) × (element_start a t + t.size ≤ FILE_BYTES)) (transfers (plan a false) k n)
