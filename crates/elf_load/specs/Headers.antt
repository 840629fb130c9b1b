-- The position of an image's headers, and the first program headers
use Rattle.std.specs.Prelude.{ℕ, ◌+◌, ◌*◌, ◌<◌, ◌≤◌, List, length, map}
use Rattle.std.specs.List.{range_with_len}
use Rattle.rv_model.specs.declared.images.ProgramHeader.{ProgramHeader}
use Rattle.rv_model.specs.images.Fields.{table_offset, header_count, program_header}

-- the file header and all program headers are within the file
pub record HasHeaders (image : List ℕ) : Type 0 where
  pub file : 64 ≤ length image
  pub table : (number : ℕ) → number < header_count image → table_offset image + 56 * (number + 1) ≤ length image

-- the first `number` program headers
unfoldable pub first_headers : List ℕ → ℕ → List ProgramHeader
first_headers image number = map (program_header image) (range_with_len 0 number)
