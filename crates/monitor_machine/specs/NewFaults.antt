-- Reasons to refuse a new machine, in the order of the tests: its quantum, the number of its images, a name, a size.
use Rattle.std.specs.Prelude.{ℕ, ◌==◌, ◌&&◌, ◌||◌, not, nat_lt, nat_le, Bool, true, List, [], ◌∷◌, length, Option, Some, None, if◌then◌else◌}
use Rattle.std.specs.List.{list_all, list_any}
use Rattle.std.specs.Str.{bytes_eq}
use Rattle.rv_model.specs.machine.Setup.{Setup, Image}
use Rattle.monitor_machine.specs.declared.new_fault.NewFault.{NewFault}
use Rattle.monitor_machine.specs.declared.new_fault.NewFault.TheVariants as fault

-- a letter, a digit, `.`, `_` or `-`
abbrev pub is_name_byte : ℕ → Bool
is_name_byte b =
    (nat_le 97 b && nat_le b 122) || (nat_le 65 b && nat_le b 90) || (nat_le 48 b && nat_le b 57)
    || b == 46 || b == 95 || b == 45

-- 1 to 32 such bytes
unfoldable pub is_name : List ℕ → Bool
is_name name = nat_le 1 (length name) && nat_le (length name) 32 && list_all is_name_byte name

-- no two images have the same name
unfoldable pub are_distinct : List Image → Bool
are_distinct [] = true
are_distinct (image ∷ images) = not (list_any (λ other. bytes_eq other.name image.name) images) && are_distinct images

-- the first fault that applies, if any; an image may have at most 4,194,304 bytes
unfoldable pub new_fault : Setup → Option NewFault
new_fault setup =
    if nat_lt setup.quantum 1 || nat_lt 1000 setup.quantum then Some fault.Quantum
    else if nat_lt 16 (length setup.images) then Some fault.ImageCount
    else if not (list_all (λ image. is_name image.name) setup.images && are_distinct setup.images) then Some fault.ImageName
    else if not (list_all (λ image. nat_le (length image.bytes) 4194304) setup.images) then Some fault.ImageSize
    else None
