-- Memory commands: `map`, `poke` and `peek`. `poke` and `peek` require mapped pages, and ignore the permissions of these pages.
use Rattle.std.specs.Prelude.{ℕ, List, [], ◌∷◌, ◌++◌, length, Option, Some, None, if◌then◌else◌, codes}
use Rattle.hex.specs.Hex.{encode_lower}
use Rattle.rv_model.specs.declared.commands.memory.MemoryCommand.{MemoryCommand}
use Rattle.rv_model.specs.declared.commands.memory.MemoryCommand.TheVariants.{Map, Poke, Peek}
use Rattle.rv_model.specs.declared.commands.refusal.Refusal.{Refusal}
use Rattle.rv_model.specs.declared.commands.refusal.Refusal.TheVariants as refusal
use Rattle.rv_model.specs.declared.memory.Access.TheVariants.{Monitor}
use Rattle.rv_model.specs.declared.memory.MapRefusal.{MapRefusal}
use Rattle.rv_model.specs.declared.memory.MapRefusal.TheVariants.{Quota, AlreadyMapped}
use Rattle.rv_model.specs.declared.memory.Permissions.{Permissions}
use Rattle.rv_model.specs.commands.Arguments.{Pages, address, permissions, byte_string, page_range, number_between}
use Rattle.rv_model.specs.commands.Printing.{hex16}
use Rattle.rv_model.specs.commands.Reading.{◌>>=◌, next, done, meaning_in, two_arguments}
use Rattle.rv_model.specs.machine.UserMachine.{Present, Outcome, refuses, replies}
use Rattle.rv_model.specs.memory.Memory.{Memory, bytes_at, can_access, put_bytes, map_refusal, with_pages}
use Rattle.rv_model.specs.memory.Sizes.{page_quota}

-- the machine with its memory replaced
abbrev pub with_memory : Memory → Present → Present
with_memory memory p = record p { hart = record p.hart { memory = memory } }

-- the outcome if the n bytes from `addr` are on mapped pages; otherwise a refusal
abbrev pub if_mapped : ℕ → ℕ → Present → Outcome → Outcome
if_mapped addr n p outcome = if can_access Monitor p.hart.memory addr n then outcome else refuses (Some p) refusal.NotMapped

-- ---- map ADDR PAGES PERM

unfoldable pub map_args : List (List ℕ) → Option MemoryCommand
map_args ws = do
  addr ← next address ws
  count ← next (number_between 1 page_quota) addr.1
  allowed ← next permissions count.1
  pages ← page_range addr.0 count.0
  done (Map pages allowed.0) allowed.1

abbrev pub why_not_mapped : MapRefusal → Refusal
why_not_mapped Quota = refusal.Quota
why_not_mapped AlreadyMapped = refusal.AlreadyMapped

abbrev pub mapping : Option MapRefusal → Pages → Permissions → Present → Outcome
mapping (Some reason) pages allowed p = refuses (Some p) (why_not_mapped reason)
mapping None pages allowed p = replies (with_memory (with_pages p.hart.memory pages.first pages.count allowed) p) (codes "ok")

-- map pages filled with zeros
abbrev pub maps : Pages → Permissions → Present → Outcome
maps pages allowed p = mapping (map_refusal p.hart.memory pages.first pages.count) pages allowed p

-- ---- poke ADDR HEX

-- write bytes
abbrev pub pokes : ℕ → List ℕ → Present → Outcome
pokes addr bytes p = if_mapped addr (length bytes) p (replies (with_memory (put_bytes p.hart.memory addr bytes) p) (codes "ok"))

-- ---- peek ADDR N, where N is 1 to 256 bytes

-- the line that `peek` prints: an address, and the bytes from this address on
unfoldable pub peek_line : ℕ → List ℕ → List ℕ
peek_line addr bytes = codes "peek " ++ hex16 addr ++ codes " " ++ encode_lower bytes

-- print bytes
abbrev pub peeks : ℕ → ℕ → Present → Outcome
peeks addr count p = if_mapped addr count p (replies p (peek_line addr (bytes_at p.hart.memory addr count)))

-- ---- all commands of the group

-- the command with this name and these arguments; `None` if no command of this group has the name
abbrev pub memory_named : List ℕ → List (List ℕ) → Option (Option MemoryCommand)
memory_named name args = meaning_in (
    (codes "map", map_args args)
    ∷ (codes "poke", two_arguments Poke address byte_string args)
    ∷ (codes "peek", two_arguments Peek address (number_between 1 256) args) ∷ []) name

-- the outcome of a command for a user who has entered
unfoldable pub memory_command : MemoryCommand → Present → Outcome
memory_command (Map pages allowed) p = maps pages allowed p
memory_command (Poke addr bytes) p = pokes addr bytes p
memory_command (Peek addr count) p = peeks addr count p
