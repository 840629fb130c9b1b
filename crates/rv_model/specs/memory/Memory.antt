-- A user's memory: a finite map from addresses to bytes with permissions. Memory is one space of bytes, by address (Unprivileged ISA,
-- section 1.4). It is mapped in pages with permissions to read, write and execute, as in the leaf entries of page tables (Privileged
-- Architecture, section 4.3.1). An access is allowed if each of its bytes allows it.
use Rattle.std.specs.Prelude.{◌≡◌, ◌↔◌, ◌<◌, length, slice_index, ℕ, ◌+◌, ◌*◌, ◌/◌, ◌-◌, Bool, true, false, ◌&&◌, cond, nat_lt, nat_le, List, [], ◌∷◌, zero, suc, map, Option, Some, None}
use Rattle.std.specs.List.{list_all, list_any, range_with_len}
use Rattle.std.specs.Option.{option_map_or}
use Rattle.std.specs.Ordering.{nat_cmp}
use Rattle.std.specs.FinMap.{FinMap, get, insert, len, contains_key}
use Rattle.rv_model.specs.declared.memory.Permissions.{Permissions}
use Rattle.rv_model.specs.declared.memory.Access.{Access}
use Rattle.rv_model.specs.declared.memory.Access.TheVariants.{Fetch, Load, Store, Monitor}
use Rattle.rv_model.specs.declared.memory.MapRefusal.{MapRefusal}
use Rattle.rv_model.specs.declared.memory.MapRefusal.TheVariants.{Quota, AlreadyMapped}
use Rattle.rv_model.specs.memory.Sizes.{page_size, page_quota}

-- the byte at a mapped address, and its permissions
pub record Cell : Type 0 where
  pub byte : ℕ
  pub permissions : Permissions

-- the map; an address without an entry is unmapped
abbrev pub Memory : Type 0
Memory = FinMap nat_cmp Cell

-- whether an access may touch a byte with these permissions
abbrev pub permits : Access → Permissions → Bool
permits Fetch p = p.execute
permits Load p = p.read
permits Store p = p.write
permits Monitor p = true

-- the byte at an address; 0 at an unmapped address
unfoldable pub memory_byte : Memory → ℕ → ℕ
memory_byte m a = option_map_or (λ c. c.byte) (get m a) 0

-- whether the byte at an address may be accessed
unfoldable pub can_access_byte : Access → Memory → ℕ → Bool
can_access_byte access m a = option_map_or (λ c. permits access c.permissions) (get m a) false

-- whether each of the n bytes from address a on may be accessed
unfoldable pub can_access : Access → Memory → ℕ → ℕ → Bool
can_access access m a n = list_all (can_access_byte access m) (range_with_len a n)

-- the n bytes from address a on
unfoldable pub bytes_at : Memory → ℕ → ℕ → List ℕ
bytes_at m a n = map (memory_byte m) (range_with_len a n)

-- the memory after a write of b to a mapped address; a write to an unmapped address changes nothing
unfoldable pub put_byte : Memory → ℕ → ℕ → Memory
put_byte m a b = option_map_or (λ c. insert m a (record { byte = b; permissions = c.permissions })) (get m a) m

-- the memory after a write of these bytes from address a on
unfoldable pub put_bytes : Memory → ℕ → List ℕ → Memory
put_bytes m a [] = m
put_bytes m a (b ∷ bs) = put_bytes (put_byte m a b) (a + 1) bs

-- the memory with n new cells from address a on; f gives the cell at each offset
unfoldable pub add_cells : Memory → ℕ → ℕ → (ℕ → Cell) → Memory
add_cells m a zero f = m
add_cells m a (suc n) f = insert (add_cells m a n f) (a + n) (f n)

-- the memory with `count` new pages of zeros, from page number `page` on
unfoldable pub with_pages : Memory → ℕ → ℕ → Permissions → Memory
with_pages m page count permissions = add_cells m (page_size * page) (page_size * count) (λ _. record { byte = 0; permissions = permissions })

-- number of mapped pages
unfoldable pub page_count : Memory → ℕ
page_count m = len m / page_size

-- whether one of these pages is mapped
unfoldable pub any_page_mapped : Memory → ℕ → ℕ → Bool
any_page_mapped m page count = list_any (λ p. contains_key m (page_size * p)) (range_with_len page count)

-- the reason why these pages can't be mapped, if there is one
unfoldable pub map_refusal : Memory → ℕ → ℕ → Option MapRefusal
map_refusal m page count =
    cond (nat_lt page_quota (page_count m + count)) (Some Quota)
    (cond (any_page_mapped m page count) (Some AlreadyMapped) None)

-- ---- laws of these functions, address by address

-- whether address x is one of the n addresses from a on
abbrev pub is_within : ℕ → ℕ → ℕ → Bool
is_within a n x = nat_le a x && nat_lt x (a + n)

-- each byte after a write: the new byte if its address is written and mapped, otherwise the byte before the write
abbrev pub WritesBytes : Type 0
WritesBytes = (m : Memory) (a : ℕ) (bs : List ℕ) (x : ℕ)
    → memory_byte (put_bytes m a bs) x ≡ cond (is_within a (length bs) x && can_access_byte Monitor m x) (slice_index bs (x - a)) (memory_byte m x)

-- no write maps an address or changes permissions
abbrev pub KeepsPermissions : Type 0
KeepsPermissions = (access : Access) (m : Memory) (a : ℕ) (bs : List ℕ) (x : ℕ) → can_access_byte access (put_bytes m a bs) x ≡ can_access_byte access m x

-- new pages hold zeros, and all other bytes are unchanged
abbrev pub MapsZeros : Type 0
MapsZeros = (m : Memory) (page count : ℕ) (permissions : Permissions) (x : ℕ)
    → memory_byte (with_pages m page count permissions) x ≡ cond (is_within (page_size * page) (page_size * count) x) 0 (memory_byte m x)

-- new pages allow what their permissions permit, and the permissions of all other addresses are unchanged
abbrev pub MapsPermissions : Type 0
MapsPermissions = (access : Access) (m : Memory) (page count : ℕ) (permissions : Permissions) (x : ℕ)
    → can_access_byte access (with_pages m page count permissions) x ≡ cond (is_within (page_size * page) (page_size * count) x) (permits access permissions) (can_access_byte access m x)

-- byte k of a read is the byte at the first address plus k
abbrev pub ReadsBytes : Type 0
ReadsBytes = (m : Memory) (a n k : ℕ) → k < n → slice_index (bytes_at m a n) k ≡ memory_byte m (a + k)

-- an access is allowed exactly if each of its bytes allows it
abbrev pub AllowsEachByte : Type 0
AllowsEachByte = (access : Access) (m : Memory) (a n : ℕ) → (can_access access m a n ≡ true) ↔ ((k : ℕ) → k < n → can_access_byte access m (a + k) ≡ true)
