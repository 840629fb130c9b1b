-- Values of `--memory`: an address, a colon (byte 58), the permissions of the pages, a colon, and the path of the file
-- with the bytes
use Rattle.std.specs.Prelude.{◌≡◌, ◌==◌, ◌&&◌, ℕ, nat_lt, Bool, false, length, Option, Some, None, is_some, if◌then◌else◌}
use Rattle.std.specs.List.{after_first, before_first, position_or_len}
use Rattle.std.specs.Borrow.{Bor}
use Rattle.clap.specs.Walk.{Text}
use Rattle.rv_model.specs.commands.Arguments.{address, permissions}
use Rattle.vec_recorder.specs.declared.memory_arguments.MemoryPath.{MemoryPath}

abbrev pub is_colon : ℕ → Bool
is_colon byte = byte == 58

-- a value divided at its first two colons
pub record Parts : Type 0 where
  pub address : Text
  pub permissions : Text
  pub path : Text

abbrev pub has_colon : Text → Bool
has_colon word = nat_lt (position_or_len is_colon word) (length word)

abbrev pub parts_behind : Text → Text → Option Parts
parts_behind first rest =
    if has_colon rest then Some (record { address = first; permissions = before_first is_colon rest; path = after_first is_colon rest })
    else None

abbrev pub parts_of : Text → Option Parts
parts_of word = if has_colon word then parts_behind (before_first is_colon word) (after_first is_colon word) else None

-- A value describes this memory: its parts are the address, the permissions and the path.
pub record IsMemoryOf (word : Text) (memory : MemoryPath) : Type 0 where
  pub parts : Parts
  pub divided : parts_of word ≡ Some parts
  pub address_is : address parts.address ≡ Some memory.addr
  pub permissions_are : permissions parts.permissions ≡ Some memory.permissions
  pub path_is : parts.path ≡ memory.path.now

abbrev pub IsMemoryAt : Bor Text → MemoryPath → Type 0
IsMemoryAt word memory = IsMemoryOf word.now memory

-- whether the value has both colons, an address and permissions
abbrev pub are_memory : Option Parts → Bool
are_memory None = false
are_memory (Some parts) = is_some (address parts.address) && is_some (permissions parts.permissions)

-- this value is malformed
abbrev pub NamesNone : Text → Type 0
NamesNone word = are_memory (parts_of word) ≡ false
