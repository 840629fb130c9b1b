-- The faults of an image by part, in order, and the faults of a single program header
use Rattle.std.specs.Prelude.{ℕ, ◌+◌, ◌==◌, ◌&&◌, not, nat_lt, Bool, false, List, [], ◌∷◌, length}
use Rattle.std.specs.List.{list_any}
use Rattle.rv_model.specs.declared.images.ElfFault.{ElfFault}
use Rattle.rv_model.specs.declared.images.ProgramHeader.{ProgramHeader}
use Rattle.rv_model.specs.images.Faults.{is_loadable}
use Rattle.rv_model.specs.images.Fields.{program_headers}
use Rattle.rv_model.specs.memory.Sizes.{address_end}
use Rattle.rv_model.specs.declared.images.ElfFault.TheVariants.{BadShort, BadMagic, BadClass, BadData, BadType, BadMachine, BadHeaderSize, BadHeaderTable, BadInterp, BadFileSize, BadOutside, BadAddress}

-- the faults of the file header
abbrev pub file_faults : List ElfFault
file_faults = BadShort ∷ BadMagic ∷ BadClass ∷ BadData ∷ BadType ∷ BadMachine ∷ []

-- the faults of the program header table
abbrev pub table_faults : List ElfFault
table_faults = BadHeaderSize ∷ BadHeaderTable ∷ []

-- the faults of the table's entries
abbrev pub segment_faults : List ElfFault
segment_faults = BadInterp ∷ BadFileSize ∷ BadOutside ∷ BadAddress ∷ []

-- whether a program header on its own has a fault, in a file of `size` bytes
unfoldable pub header_has : ℕ → ElfFault → ProgramHeader → Bool
header_has size BadInterp header = header.kind == 3
header_has size BadFileSize header = is_loadable header && nat_lt header.memory_size header.file_size
header_has size BadOutside header = is_loadable header && (not (header.file_size == 0) && nat_lt size (header.offset + header.file_size))
header_has size BadAddress header = is_loadable header && nat_lt address_end (header.address + header.memory_size)
header_has size _ header = false

-- whether some program header has the fault
abbrev pub any_header_has : List ℕ → ElfFault → Bool
any_header_has image fault = list_any (header_has (length image) fault) (program_headers image)
