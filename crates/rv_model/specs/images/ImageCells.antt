-- A law of the memory that an image describes, address by address.
use Rattle.std.specs.Prelude.{◌≡◌, ℕ, List, None, nat_lt, if◌then◌else◌}
use Rattle.std.specs.FinMap.{get}
use Rattle.rv_model.specs.images.Image.{cell_of, memory_of_image}
use Rattle.rv_model.specs.memory.Sizes.{address_end}

-- below the end of addresses, the memory has the cells that the image describes and no others; past it, the memory has none
abbrev pub HoldsCellsBelowEnd : Type 0
HoldsCellsBelowEnd = (image : List ℕ) (x : ℕ) → get (memory_of_image image) x ≡ (if nat_lt x address_end then cell_of image x else None)
