-- Texts of words. The text of an instruction is its name and its operands, and spells the instruction's word. The text of any word without
-- a name is `.word` and its digits (this project's choice).
use Rattle.std.specs.Prelude.{ℕ, ◌+◌, Bool, true, false, List, [], ◌∷◌, ◌++◌, length, map, flat_map, find, Result, Ok, Err, nat_eq, bit_and, codes, if◌then◌else◌}
use Rattle.std.specs.Option.{option_map_or}
use Rattle.std.specs.Str.{bytes_eq}
use Rattle.rv_model.specs.instructions.Types.{VectorOp}
use Rattle.rv_model.specs.instructions.Variants.{Instr, Fence, Arith, UnitStride, Strided, Indexed}
use Rattle.rv_model.specs.declared.instructions.operations.VectorOp.TheVariants as vector_op
use Rattle.rv_model.specs.declared.instructions.instruction.Instr.TheVariants as instr
use Rattle.rv_model.specs.declared.assembler.forms.Slot.{Slot}
use Rattle.rv_model.specs.declared.assembler.forms.Slot.TheVariants.{Word}
use Rattle.rv_model.specs.instructions.FixedBits.{coded}
use Rattle.rv_model.specs.instructions.Table.{word_of, scan, table}
use Rattle.rv_model.specs.assembler.Tokens.{Token, tokens}
use Rattle.rv_model.specs.assembler.Slots.{◌>>=◌, read, printed}
use Rattle.rv_model.specs.assembler.Fields.{placed, value_of}
use Rattle.rv_model.specs.assembler.InstructionTexts.{slots, mnemonic}

-- the values of bit 25 that the name distinguishes: both for vmadc and vmsbc
abbrev pub flags_named : VectorOp → List Bool
flags_named (vector_op.CarryOut op) = false ∷ true ∷ []
flags_named op = false ∷ []

-- the values of nf that a name distinguishes: the number of fields less 1
abbrev pub fields_named : List ℕ
fields_named = 0 ∷ 1 ∷ 2 ∷ 3 ∷ 4 ∷ 5 ∷ 6 ∷ 7 ∷ []

-- the instructions of one row of the instruction table that have different names; of the fences, only that of all memory and devices
abbrev pub names_of : Instr → List Instr
names_of (instr.Scalar (Fence rd rs1 ordering)) = instr.Scalar (Fence 0 0 0x0ff) ∷ []
names_of (instr.Vector (Arith arith vd vs2 vm)) = map (λ (b : Bool). instr.Vector (Arith arith vd vs2 b)) (flags_named arith.0)
names_of (instr.Access (UnitStride op width nf vd rs1 vm)) = map (λ (n : ℕ). instr.Access (UnitStride op width n vd rs1 vm)) fields_named
names_of (instr.Access (Strided op width nf vd rs1 rs2 vm)) = map (λ (n : ℕ). instr.Access (Strided op width n vd rs1 rs2 vm)) fields_named
names_of (instr.Access (Indexed op order width nf vd rs1 vs2 vm)) = map (λ (n : ℕ). instr.Access (Indexed op order width n vd rs1 vs2 vm)) fields_named
names_of i = i ∷ []

-- a name with its slots, and the bits of the word whose operands are all zeros
pub record Spelling : Type 0 where
  pub name : List ℕ
  pub slots : List Slot
  pub bits : ℕ

abbrev pub spelling_of : Instr → Spelling
spelling_of i = record { name = mnemonic i; slots = slots i; bits = word_of i }

-- `.word` and a number, which spells any word
abbrev pub directive : Spelling
directive = record { name = codes ".word"; slots = Word ∷ []; bits = 0 }

-- every name
unfoldable pub spellings : List Spelling
spellings = flat_map (λ r. map spelling_of (names_of (r.instr 0))) table ++ directive ∷ []

-- the word that the tokens spell, from these bits and the operand of each slot; or the column of the first token that doesn't fit. No token
-- may remain.
unfoldable pub read_operands : ℕ → ℕ → List Slot → List Token → Result ℕ ℕ
read_operands end bits [] [] = Ok bits
read_operands end bits [] (t ∷ ts) = Err t.column
read_operands end bits (s ∷ ss) ts = read end s ts >>= λ x. (read_operands end bits ss x.1 >>= λ w. Ok (placed s x.0 + w))

-- the word spelled by a text whose first token is a name; the other tokens are its operands
abbrev pub spelled_by : ℕ → List Token → Result ℕ ℕ
spelled_by end [] = Err end
spelled_by end (t ∷ ts) =
    option_map_or (λ s. read_operands end s.bits s.slots ts) (find (λ s. bytes_eq s.name t.text) spellings) (Err t.column)

-- the word that a text spells, or the column of the first token that doesn't fit; if tokens are missing, the column past the end of the
-- text
unfoldable pub spelled : List ℕ → Result ℕ ℕ
spelled text = spelled_by (length text + 1) (tokens 1 text)

-- the operands of a word, one after another
unfoldable pub printed_operands : List Slot → ℕ → List ℕ
printed_operands ss w = flat_map (λ slot. printed slot (value_of slot w)) ss

-- a space and the operands, if there are any
abbrev pub operands_text : List Slot → ℕ → List ℕ
operands_text [] w = []
operands_text (s ∷ ss) w = 32 ∷ printed_operands (s ∷ ss) w

-- the text of a word under a name
abbrev pub text_by : Spelling → ℕ → List ℕ
text_by s w = s.name ++ operands_text s.slots w

-- whether a word has a name. Every instruction has one, except fences (by opcode and funct3) that order less than all memory and devices.
abbrev pub has_name : ℕ → Bool
has_name w = if nat_eq (bit_and w 0x707f) (coded 0x0f 0) then nat_eq w 0x0ff0000f else true

-- the name and the slots of a word: those of its instruction if it has a name, otherwise `.word`
abbrev pub spelling : ℕ → Spelling
spelling w = if has_name w then option_map_or spelling_of (scan table w) directive else directive

-- the canonical text of a word
unfoldable pub canonical : ℕ → List ℕ
canonical w = text_by (spelling w) w
