-- The faults of an ELF-64 image, in the order in which they are reported, and their names. Sums are natural numbers, which don't wrap.
-- The file format is that of ELF-64 Object File Format; 243 is the machine RISC-V (RISC-V ELF psABI, "File header").
use Rattle.std.specs.Prelude.{ℕ, ◌+◌, ◌*◌, ◌%◌, ◌==◌, ◌&&◌, not, nat_eq, nat_lt, Bool, List, [], ◌∷◌, length, slice_index, find, Option, codes}
use Rattle.std.specs.List.{list_any, starts_with}
use Rattle.rv_model.specs.declared.images.ElfFault.{ElfFault}
use Rattle.rv_model.specs.declared.images.ElfFault.TheVariants.{BadShort, BadMagic, BadClass, BadData, BadType, BadMachine, BadHeaderSize, BadHeaderTable, BadInterp, BadFileSize, BadOutside, BadAddress, BadEntry}
use Rattle.rv_model.specs.declared.images.ProgramHeader.{ProgramHeader}
use Rattle.rv_model.specs.images.Fields.{number_in_file, entry_of, table_offset, header_count, program_headers}
use Rattle.rv_model.specs.memory.Sizes.{address_end}

-- PT_LOAD: a segment that is loaded into memory
abbrev pub is_loadable : ProgramHeader → Bool
is_loadable header = header.kind == 1

-- whether some loadable segment passes a test
abbrev pub some_segment : List ℕ → (ProgramHeader → Bool) → Bool
some_segment image test = list_any (λ header. is_loadable header && test header) (program_headers image)

-- whether an image has a fault, if it has none of the earlier faults
unfoldable pub has_fault : List ℕ → ElfFault → Bool
has_fault image BadShort = nat_lt (length image) 64
has_fault image BadMagic = not (starts_with nat_eq image (127 ∷ 69 ∷ 76 ∷ 70 ∷ []))
has_fault image BadClass = not (slice_index image 4 == 2)  -- e_ident[EI_CLASS]
has_fault image BadData = not (slice_index image 5 == 1)  -- e_ident[EI_DATA]
has_fault image BadType = not (number_in_file 16 2 image == 2)  -- e_type
has_fault image BadMachine = not (number_in_file 18 2 image == 243)  -- e_machine
has_fault image BadHeaderSize = not (header_count image == 0) && not (number_in_file 54 2 image == 56)  -- e_phentsize
has_fault image BadHeaderTable = not (header_count image == 0) && nat_lt (length image) (table_offset image + 56 * header_count image)
has_fault image BadInterp = list_any (λ header. header.kind == 3) (program_headers image)  -- PT_INTERP
has_fault image BadFileSize = some_segment image (λ header. nat_lt header.memory_size header.file_size)
has_fault image BadOutside =
    some_segment image (λ header. not (header.file_size == 0) && nat_lt (length image) (header.offset + header.file_size))
has_fault image BadAddress = some_segment image (λ header. nat_lt address_end (header.address + header.memory_size))
has_fault image BadEntry = not (entry_of image % 4 == 0)

-- all faults in order: of the file header, of the program header table, of its entries, of the entry point
abbrev pub all_faults : List ElfFault
all_faults =
    BadShort ∷ BadMagic ∷ BadClass ∷ BadData ∷ BadType ∷ BadMachine ∷ BadHeaderSize ∷ BadHeaderTable ∷
    BadInterp ∷ BadFileSize ∷ BadOutside ∷ BadAddress ∷ BadEntry ∷ []

-- the first fault of an image, if any
unfoldable pub first_fault : List ℕ → Option ElfFault
first_fault image = find (has_fault image) all_faults

-- the name of a fault
abbrev pub fault_name : ElfFault → List ℕ
fault_name BadShort = codes "Short"
fault_name BadMagic = codes "Magic"
fault_name BadClass = codes "Class"
fault_name BadData = codes "Data"
fault_name BadType = codes "Type"
fault_name BadMachine = codes "Machine"
fault_name BadHeaderSize = codes "HeaderSize"
fault_name BadHeaderTable = codes "HeaderTable"
fault_name BadInterp = codes "Interp"
fault_name BadFileSize = codes "FileSize"
fault_name BadOutside = codes "Outside"
fault_name BadAddress = codes "Address"
fault_name BadEntry = codes "Entry"
