-- Program commands: `load`, `asm` and `dis`. `asm` and `dis` require mapped pages, and ignore the permissions of these pages.
use Rattle.std.specs.Prelude.{ℕ, ◌+◌, ◌*◌, nat_lt, map, find, List, [], ◌∷◌, ◌++◌, decimal, length, slice_range, Option, Some, None, Result, Ok, Err, if◌then◌else◌, codes}
use Rattle.std.specs.Int.{from_le_bytes, to_le_bytes, w32}
use Rattle.std.specs.List.{range_with_len}
use Rattle.std.specs.Option.{option_map}
use Rattle.std.specs.Str.{bytes_eq}
use Rattle.rv_model.specs.declared.commands.programs.ProgramCommand.{ProgramCommand}
use Rattle.rv_model.specs.declared.commands.programs.ProgramCommand.TheVariants.{Load, Asm, Dis}
use Rattle.rv_model.specs.declared.commands.refusal.Refusal.TheVariants as refusal
use Rattle.rv_model.specs.declared.images.ElfFault.{ElfFault}
use Rattle.rv_model.specs.declared.scalar.Scalar.{Scalar}
use Rattle.rv_model.specs.assembler.Table.{canonical, spelled}
use Rattle.rv_model.specs.commands.Arguments.{instruction_address, number_between}
use Rattle.rv_model.specs.commands.Memory.{if_mapped, with_memory}
use Rattle.rv_model.specs.commands.Printing.{hex8, hex16}
use Rattle.rv_model.specs.commands.Reading.{◌>>=◌, next, meaning_in, one_argument, two_arguments}
use Rattle.rv_model.specs.images.Faults.{first_fault}
use Rattle.rv_model.specs.images.Fields.{entry_of}
use Rattle.rv_model.specs.images.Image.{memory_of_image}
use Rattle.rv_model.specs.machine.Setup.{Image}
use Rattle.rv_model.specs.machine.UserMachine.{Present, Outcome, Drops, refuses, initial, replies}
use Rattle.rv_model.specs.memory.Memory.{bytes_at, put_bytes, page_count}
use Rattle.rv_model.specs.memory.Sizes.{page_quota}
use Rattle.rv_model.specs.scalar.Registers.{initial_scalar, with_register}

-- ---- load NAME

-- the bytes of the image with this name, if there is one
unfoldable pub image_named : List Image → List ℕ → Option (List ℕ)
image_named images name = option_map (λ (image : Image). image.bytes) (find (λ image. bytes_eq image.name name) images)

-- a new machine with an image's memory and entry address; x2 is the stack pointer
abbrev pub with_image : List ℕ → Present
with_image image =
    let scalar : Scalar = with_register 2 0x7fffefc0 (record initial_scalar { pc = entry_of image }) in
    record initial { hart = record initial.hart { scalar = scalar; memory = memory_of_image image } }

-- the line that `load` prints: the program counter, and the number of the user's pages
unfoldable pub loaded_line : ℕ → ℕ → List ℕ
loaded_line pc pages = codes "loaded pc=" ++ hex16 pc ++ codes " pages=" ++ decimal pages

-- the outcome of `load` for an image and its first fault, if any; `load` drops the user's previous vector state
abbrev pub loading : List ℕ → Option ElfFault → Present → Outcome
loading image (Some fault) p = refuses (Some p) (refusal.ElfFault fault)
loading image None p =
    if nat_lt page_quota (page_count (memory_of_image image)) then refuses (Some p) refusal.Quota
    else record (replies (with_image image) (loaded_line (entry_of image) (page_count (memory_of_image image)))) { uses = Drops ∷ [] }

-- the same for an image that may be missing
abbrev pub loading_named : Option (List ℕ) → Present → Outcome
loading_named None p = refuses (Some p) refusal.ImageName
loading_named (Some image) p = loading image (first_fault image) p

-- replace the user's machine by a new one with an image's memory
abbrev pub loads : List Image → List ℕ → Present → Outcome
loads images name p = loading_named (image_named images name) p

-- ---- asm ADDR TEXT, where TEXT is the rest of the line, at least one byte

unfoldable pub asm_args : List (List ℕ) → List ℕ → Option ProgramCommand
asm_args ws text = do
  addr ← next instruction_address ws
  if nat_lt 0 (length text) then Some (Asm addr.0 text) else None

-- an address and the 32-bit word at this address
unfoldable pub asm_line : ℕ → ℕ → List ℕ
asm_line addr word = hex16 addr ++ codes " " ++ hex8 word

-- the outcome of `asm` for the assembled word, or for the column of an error in its text
abbrev pub assembling : ℕ → Result ℕ ℕ → Present → Outcome
assembling addr (Err column) p = refuses (Some p) (refusal.Assembler column)
assembling addr (Ok word) p = replies (with_memory (put_bytes p.hart.memory addr (to_le_bytes w32 word)) p) (asm_line addr word)

-- assemble an instruction and write its word
abbrev pub assembles : ℕ → List ℕ → Present → Outcome
assembles addr text p = if_mapped addr 4 p (assembling addr (spelled text) p)

-- ---- dis ADDR N, where N is 1 to 16 words

-- a line that `dis` prints: an address, the word at this address, and the text of its instruction
unfoldable pub dis_line : ℕ → ℕ → List ℕ
dis_line addr word = asm_line addr word ++ codes " " ++ canonical word

-- word i of these bytes, its least significant byte first
abbrev pub word_in : List ℕ → ℕ → ℕ
word_in bytes i = from_le_bytes w32 (slice_range bytes (4 * i) (4 * i + 4))

-- the lines for `count` words from an address on; `bytes` are the bytes of these words
unfoldable pub dis_lines : ℕ → ℕ → List ℕ → List (List ℕ)
dis_lines addr count bytes = map (λ i. dis_line (addr + 4 * i) (word_in bytes i)) (range_with_len 0 count)

-- disassemble and print instructions
abbrev pub shows_instructions : ℕ → ℕ → Present → Outcome
shows_instructions addr n p =
    if_mapped addr (4 * n) p (record { next = Some p; lines = dis_lines addr n (bytes_at p.hart.memory addr (4 * n)); uses = [] })

-- ---- all commands of the group

-- the command with this name and these arguments; `None` if no command of this group has the name. `text` is the verbatim text of the line
-- after its first argument.
abbrev pub programs_named : List ℕ → List (List ℕ) → List ℕ → Option (Option ProgramCommand)
programs_named name args text = meaning_in (
    (codes "load", one_argument Load Some args)
    ∷ (codes "asm", asm_args args text)
    ∷ (codes "dis", two_arguments Dis instruction_address (number_between 1 16) args) ∷ []) name

-- the outcome of a command for a user who has entered
unfoldable pub program_command : List Image → ProgramCommand → Present → Outcome
program_command images (Load name) p = loads images name p
program_command images (Asm addr text) p = assembles addr text p
program_command images (Dis addr count) p = shows_instructions addr count p
