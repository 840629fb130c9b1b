-- The fields of an ELF-64 image that a loader reads, each by its offset and size in bytes (ELF-64 Object File Format, "File
-- header" and "Program header table"). Numbers are little-endian.
use Rattle.std.specs.Prelude.{ℕ, ◌+◌, ◌*◌, List, drop, map}
use Rattle.std.specs.List.{range_with_len}
use Rattle.byteorder.specs.Endian.{little_number}
use Rattle.rv_model.specs.declared.images.ProgramHeader.{ProgramHeader}

-- the number in `size` bytes at an offset
unfoldable pub number_in_file : ℕ → ℕ → List ℕ → ℕ
number_in_file offset size image = little_number size (drop offset image)

-- e_entry
abbrev pub entry_of : List ℕ → ℕ
entry_of image = number_in_file 24 8 image

-- e_phoff
abbrev pub table_offset : List ℕ → ℕ
table_offset image = number_in_file 32 8 image

-- e_phnum
abbrev pub header_count : List ℕ → ℕ
header_count image = number_in_file 56 2 image

-- the program header at an offset
unfoldable pub header_at : ℕ → List ℕ → ProgramHeader
header_at offset image = record {
  kind = number_in_file offset 4 image;
  flags = number_in_file (offset + 4) 4 image;
  offset = number_in_file (offset + 8) 8 image;
  address = number_in_file (offset + 16) 8 image;
  file_size = number_in_file (offset + 32) 8 image;
  memory_size = number_in_file (offset + 40) 8 image;
}

-- the program header with this index, from 0
unfoldable pub program_header : List ℕ → ℕ → ProgramHeader
program_header image number = header_at (table_offset image + 56 * number) image

-- all program headers, in order
unfoldable pub program_headers : List ℕ → List ProgramHeader
program_headers image = map (program_header image) (range_with_len 0 (header_count image))
