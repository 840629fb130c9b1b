-- The memory of an image during loading: first its pages filled with zeros, then the bytes of one segment after another
use Rattle.std.specs.Prelude.{ℕ, ◌*◌, ◌/◌, ◌&&◌, nat_lt, List, Option, Some, None, if◌then◌else◌}
use Rattle.rv_model.specs.memory.Memory.{Cell, Memory}
use Rattle.rv_model.specs.images.Image.{placed_headers, is_touched, permissions_of, memory_below, all_pages, image_byte}
use Rattle.rv_model.specs.memory.Sizes.{page_size}
use Rattle.elf_load.specs.Pages.{first_placed}

-- the cells of an image's pages below page `end`, with the byte of each address from a function
unfoldable pub cells_with : List ℕ → (ℕ → ℕ) → ℕ → ℕ → Option Cell
cells_with image bytes end x =
    if nat_lt (x / page_size) end && is_touched (placed_headers image) (x / page_size)
    then Some (record { byte = bytes x; permissions = permissions_of (placed_headers image) (x / page_size) })
    else None

-- the memory with these cells
unfoldable pub memory_with : List ℕ → (ℕ → ℕ) → ℕ → Memory
memory_with image bytes end = memory_below (cells_with image bytes end) (page_size * all_pages)

-- the image's pages below page `end`, filled with zeros
abbrev pub blank_memory : List ℕ → ℕ → Memory
blank_memory image end = memory_with image (λ _. 0) end

-- the memory after loading the stack and the first `number` segments
unfoldable pub memory_after : List ℕ → ℕ → Memory
memory_after image number = memory_with image (image_byte image (first_placed image number)) all_pages
