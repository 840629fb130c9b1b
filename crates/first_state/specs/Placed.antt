-- Bytes that are placed in a user's memory in sequence. A page that isn't mapped is mapped with zeros first. A byte is written whatever the
-- permissions of its page are.
use Rattle.std.specs.Prelude.{ℕ, ◌+◌, ◌/◌, nat_le, List, [], ◌∷◌, Option, Some, None, Result, Ok, Err, if◌then◌else◌}
use Rattle.rv_model.specs.declared.memory.Access.TheVariants.{Monitor}
use Rattle.rv_model.specs.declared.memory.MapRefusal.{MapRefusal}
use Rattle.rv_model.specs.declared.memory.Permissions.{Permissions}
use Rattle.rv_model.specs.memory.Memory.{Memory, can_access, map_refusal, put_bytes, with_pages}
use Rattle.rv_model.specs.memory.Sizes.{address_end, page_size}
use Rattle.rv_model.specs.step.Hart.{HartState}
use Rattle.first_state.specs.declared.fault.PlaceFault.{PlaceFault}
use Rattle.first_state.specs.declared.fault.PlaceFault.TheVariants.{Range, Quota}

-- the memory with a new page of zeros, unless the monitor's `map` refuses it
abbrev pub with_new_page : Permissions → ℕ → Memory → Option MapRefusal → Result Memory PlaceFault
with_new_page allowed page m None = Ok (with_pages m page 1 allowed)
with_new_page allowed page m (Some reason) = Err Quota

-- the memory in which the page of an address is mapped
abbrev pub with_page_of : Permissions → ℕ → Memory → Result Memory PlaceFault
with_page_of allowed addr m =
    if nat_le address_end addr then Err Range
    else if can_access Monitor m addr 1 then Ok m
    else with_new_page allowed (addr / page_size) m (map_refusal m (addr / page_size) 1)

-- sequential composition: apply `next` to the result, unless it is a fault
abbrev pub and_then : {A B F : Type 0} → (A → Result B F) → Result A F → Result B F
and_then next (Ok a) = next a
and_then next (Err fault) = Err fault

-- the memory with one byte at an address
abbrev pub with_byte : Permissions → ℕ → ℕ → Memory → Result Memory PlaceFault
with_byte allowed addr byte m = and_then (λ paged. Ok (put_bytes paged addr (byte ∷ []))) (with_page_of allowed addr m)

-- the memory with all bytes from an address on
unfoldable pub placed : Permissions → ℕ → List ℕ → Memory → Result Memory PlaceFault
placed allowed addr [] m = Ok m
placed allowed addr (b ∷ bs) m = and_then (placed allowed (addr + 1) bs) (with_byte allowed addr b m)

-- the state with this memory
abbrev pub in_memory : HartState → Memory → HartState
in_memory s m = record s { memory = m }
