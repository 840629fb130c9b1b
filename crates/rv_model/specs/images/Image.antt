-- The memory that an ELF-64 image describes (ELF-64 Object File Format, "Program header table"). Each byte comes from the last loadable
-- segment that covers it, and is zero past the segment's part of the file. A page has the permissions of all segments that touch it. The
-- stack is placed as a segment before all others.
use Rattle.std.specs.Prelude.{ℕ, zero, suc, ◌+◌, ◌-◌, ◌*◌, ◌/◌, ◌==◌, ◌&&◌, not, nat_lt, nat_le, min, max, bit_and, Bool, List, ◌∷◌, reverse, find, slice_index, Option, Some, None, if◌then◌else◌}
use Rattle.std.specs.List.{list_any}
use Rattle.std.specs.Option.{option_map_or}
use Rattle.std.specs.FinMap.{empty, insert}
use Rattle.rv_model.specs.declared.images.ProgramHeader.{ProgramHeader}
use Rattle.rv_model.specs.declared.memory.Permissions.{Permissions}
use Rattle.rv_model.specs.images.Faults.{is_loadable}
use Rattle.rv_model.specs.images.Fields.{program_headers}
use Rattle.rv_model.specs.memory.Memory.{Cell, Memory}
use Rattle.rv_model.specs.memory.Sizes.{page_size, page_limit}

-- four pages of zeros with permission to read and write, which end at 7FFFF000
unfoldable pub stack : ProgramHeader
stack = record { kind = 1; flags = 6; offset = 0; address = 0x7fffb000; file_size = 0; memory_size = 4 * page_size }

-- the segments in the order in which they are placed: a later segment's bytes hide those of an earlier one
abbrev pub placed_headers : List ℕ → List ProgramHeader
placed_headers image = stack ∷ program_headers image

-- whether a segment covers an address
unfoldable pub covers : ℕ → ProgramHeader → Bool
covers x header = is_loadable header && (nat_le header.address x && nat_lt x (header.address + header.memory_size))

-- whether a segment covers an address of a page
unfoldable pub touches_page : ℕ → ProgramHeader → Bool
touches_page page header =
    is_loadable header && nat_lt (max header.address (page_size * page)) (min (header.address + header.memory_size) (page_size * page + page_size))

-- a segment's byte at one of its addresses
unfoldable pub byte_in : List ℕ → ℕ → ProgramHeader → ℕ
byte_in image x header =
    if nat_lt (x - header.address) header.file_size then slice_index image (header.offset + (x - header.address)) else 0

-- the byte at an address, from the last of these segments that covers it
unfoldable pub image_byte : List ℕ → List ProgramHeader → ℕ → ℕ
image_byte image headers x = option_map_or (byte_in image x) (find (covers x) (reverse headers)) 0

-- whether one of the segments that touch a page has a flag
unfoldable pub is_allowed_by : ℕ → List ProgramHeader → ℕ → Bool
is_allowed_by flag headers page = list_any (λ header. touches_page page header && not (bit_and header.flags flag == 0)) headers

-- the permissions of a page: PF_R is 4, PF_W is 2, PF_X is 1
abbrev pub permissions_of : List ProgramHeader → ℕ → Permissions
permissions_of headers page = record { read = is_allowed_by 4 headers page; write = is_allowed_by 2 headers page; execute = is_allowed_by 1 headers page }

-- whether one of these segments touches a page
unfoldable pub is_touched : List ProgramHeader → ℕ → Bool
is_touched headers page = list_any (touches_page page) headers

-- the byte and the permissions at an address, if a segment touches its page
unfoldable pub cell_of : List ℕ → ℕ → Option Cell
cell_of image x =
    if is_touched (placed_headers image) (x / page_size)
    then Some (record { byte = image_byte image (placed_headers image) x; permissions = permissions_of (placed_headers image) (x / page_size) })
    else None

-- the memory with this cell at an address, if there is one
abbrev pub with_cell : Memory → ℕ → Option Cell → Memory
with_cell m x cell = option_map_or (insert m x) cell m

-- the memory with exactly these cells below an address
unfoldable pub memory_below : (ℕ → Option Cell) → ℕ → Memory
memory_below cells zero = empty
memory_below cells (suc x) = with_cell (memory_below cells x) x (cells x)

-- number of pages below the end of addresses. Memories are built by recursion up to there, so this number is only unfolded on request.
unfoldable pub all_pages : ℕ
all_pages = page_limit

-- the memory that an image describes
unfoldable pub memory_of_image : List ℕ → Memory
memory_of_image image = memory_below (cell_of image) (page_size * all_pages)
