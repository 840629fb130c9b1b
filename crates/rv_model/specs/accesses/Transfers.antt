-- Lists of transfers between vector registers and memory: their effects, and the first transfer that isn't allowed. See "V" Vector
-- Extension 1.0, sections 3.7, 7.7, 7.8 and 17.1.
use Rattle.std.specs.Prelude.{ℕ, zero, suc, ◌+◌, ◌-◌, Bool, true, List, [], ◌∷◌, ◌++◌, replicate, min, nat_le, not, if◌then◌else◌}
use Rattle.std.specs.List.{find, list_all, range_with_len}
use Rattle.std.specs.Option.{unwrap_or}
use Rattle.std.specs.Simd.Lanes.{chunk, put_chunk}
use Rattle.rv_model.specs.declared.memory.Access.{Access}
use Rattle.rv_model.specs.declared.step.memory_end.MemEnd.{MemEnd}
use Rattle.rv_model.specs.declared.step.memory_end.MemEnd.TheVariants.{Done, Fault, Cut}
use Rattle.rv_model.specs.memory.Memory.{Memory, bytes_at, can_access, put_bytes}

-- how an element is transferred: moved between its register and the memory at an address, or set to all ones by a load
pub data TransferKind : Type 0 where
  Moved : ℕ → TransferKind
  Ones : TransferKind

-- the transfer of one element: its index, its field, and its size in bytes
pub record Transfer : Type 0 where
  pub index : ℕ
  pub field : ℕ
  pub size : ℕ
  pub kind : TransferKind

-- the transfers of each index
abbrev pub Plan : Type 0
Plan = ℕ → List Transfer

-- the transfers of n indices from i on, in the order of the indices
unfoldable pub transfers : Plan → ℕ → ℕ → List Transfer
transfers plan i zero = []
transfers plan i (suc n) = plan i ++ transfers plan (i + 1) n

-- ---- permissions

-- a transfer is allowed if the access is allowed for each of its bytes; a transfer of ones is always allowed
abbrev pub can_move : Access → Memory → ℕ → TransferKind → Bool
can_move access m size (Moved address) = can_access access m address size
can_move access m size Ones = true

abbrev pub can_transfer : Access → Memory → Transfer → Bool
can_transfer access m t = can_move access m t.size t.kind

unfoldable pub are_allowed : Access → Memory → List Transfer → Bool
are_allowed access m ts = list_all (can_transfer access m) ts

-- the first address of a transfer; 0 for a transfer of ones, which has no address
abbrev pub address_of : TransferKind → ℕ
address_of (Moved address) = address
address_of Ones = 0

-- the address of the first transfer that isn't allowed; 0 if all are allowed
unfoldable pub bad_address : Access → Memory → List Transfer → ℕ
bad_address access m [] = 0
bad_address access m (t ∷ ts) = if can_transfer access m t then bad_address access m ts else address_of t.kind

-- the index where a run over the indices from `start` up to `count` stops: the least one whose transfers aren't all allowed. If there is
-- none, the run stops at `count`, or at the index `cut` if that is less.
unfoldable pub stop_index : Access → Memory → Plan → ℕ → ℕ → ℕ → ℕ
stop_index access m plan start cut count =
    unwrap_or (find (λ i. not (are_allowed access m (plan i))) (range_with_len start (min count cut - start))) (min count cut)

-- how the run ends at the index `stop`
unfoldable pub end_at : Access → Memory → Plan → ℕ → ℕ → ℕ → MemEnd
end_at access m plan cut count stop =
    if nat_le count stop then Done
    else if nat_le cut stop then Cut stop
    else Fault stop (bad_address access m (plan stop))

-- ---- effects; `place` is the first byte of a transfer's element in the register file

abbrev pub bytes_loaded : Memory → ℕ → TransferKind → List ℕ
bytes_loaded m size (Moved address) = bytes_at m address size
bytes_loaded m size Ones = replicate size 255

-- the register file after these transfers of a load
unfoldable pub registers_loaded : Memory → (Transfer → ℕ) → List ℕ → List Transfer → List ℕ
registers_loaded m place file [] = file
registers_loaded m place file (t ∷ ts) = registers_loaded m place (put_chunk (place t) file (bytes_loaded m t.size t.kind)) ts

-- the memory after a store of an element with these bytes; a store has no transfers of ones
abbrev pub with_element : Memory → List ℕ → TransferKind → Memory
with_element m bytes (Moved address) = put_bytes m address bytes
with_element m bytes Ones = m

-- the memory after these transfers of a store: each address has the byte of the last transfer that covers it
unfoldable pub memory_stored : Memory → (Transfer → ℕ) → List ℕ → List Transfer → Memory
memory_stored m place file [] = m
memory_stored m place file (t ∷ ts) = memory_stored (with_element m (chunk (place t) t.size file) t.kind) place file ts
