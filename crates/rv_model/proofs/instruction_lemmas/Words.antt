-- The operands of each instruction, in its word
use Rattle.std.proofs.Common.{◌≡◌, refl, ℕ, ◌+◌, ◌-◌, ◌*◌, ◌/◌, ◌%◌, ◌^◌, ◌<◌, List, Bool, true, nat_eq, arith}
use Rattle.std.proofs.lemmas.Nat.{mod_below}
use Rattle.std.proofs.lemmas.Bool.Decides.{nat_tests}
use Rattle.rv_model.specs.declared.instructions.source.Source.{Source}
use Rattle.rv_model.specs.declared.instructions.operations.Form.{Form}
use Rattle.rv_model.specs.declared.instructions.instruction.Instr.{Instr}
use Rattle.rv_model.specs.declared.instructions.instruction.Instr.TheVariants as instr
use Rattle.rv_model.specs.declared.instructions.scalar.ScalarInstr.TheVariants.{Upper}
use Rattle.rv_model.specs.declared.instructions.csr.CsrInstr.TheVariants.{Register}
use Rattle.rv_model.specs.declared.instructions.vector.VectorInstr.TheVariants.{SetVli}
use Rattle.rv_model.specs.declared.instructions.access.AccessInstr.TheVariants.{UnitStride}
use Rattle.rv_model.specs.instructions.FixedBits.{field, flag, flag_bit, Part, mask_of, fixed}
use Rattle.rv_model.specs.instructions.Immediates.{store_immediate}
use Rattle.rv_model.specs.instructions.Operations.{form_of, source_of, source_number}
use Rattle.rv_model.specs.instructions.Table.{parts, bits}
use Rattle.rv_model.specs.lending.Families.{filled}
use Rattle.rv_model.proofs.instruction_lemmas.Parts.{share_none, clear, Reads, of_word}

flag_back : (word : ℕ) → flag_bit (flag word) ≡ field 25 1 word
flag_back word = search arith

bit_pair : (b : Bool) → nat_eq (flag_bit b) 1 ≡ b
bit_pair b = search (arith, nat_tests)

source_again : (s : Source) → source_of (form_of s) (source_number s) ≡ s
source_again s = search (arith, nat_tests)

number-source_of : (f : Form) (n : ℕ) → source_number (source_of f n) ≡ n
number-source_of f n = search (arith, nat_tests)

pub form_source_of : (f : Form) (n : ℕ) → form_of (source_of f n) ≡ f
form_source_of f n = search (arith, nat_tests)

pub low_again : (a b : ℕ) → a < 2 ^ 5 → (a + b * 2 ^ 5) % 2 ^ 5 ≡ a
low_again a b h = omega arith

store-join : (n : ℕ) → n % 2 ^ 5 + n / 2 ^ 5 * 2 ^ 5 ≡ n
store-join n = omega arith

field_below : (low len w : ℕ) → 0 < 2 ^ len → field low len w < 2 ^ len
field_below low len w h = mod_below (w / 2 ^ low) (2 ^ len) h

store-high : (w : ℕ) → store_immediate w / 2 ^ 5 ≡ field 25 7 w
store-high w = omega arith

store-low : (w : ℕ) → store_immediate w % 2 ^ 5 ≡ field 7 5 w
store-low w = low_again (field 7 5 w) (field 25 7 w) (field_below 7 5 w (omega arith))

-- pieces of 4, 6, 1 and 1 bits
record BranchPieces (a b c d : ℕ) : Type 0 where
  bit12 : (a + b * 2 ^ 4 + c * 2 ^ 10 + d * 2 ^ 11) / 2 ^ 11 ≡ d
  bits10_5 : (a + b * 2 ^ 4 + c * 2 ^ 10 + d * 2 ^ 11) / 2 ^ 4 % 2 ^ 6 ≡ b
  bits4_1 : (a + b * 2 ^ 4 + c * 2 ^ 10 + d * 2 ^ 11) % 2 ^ 4 ≡ a
  bit11 : (a + b * 2 ^ 4 + c * 2 ^ 10 + d * 2 ^ 11) / 2 ^ 10 % 2 ^ 1 ≡ c

branch_pieces : (a b c d : ℕ) → a < 2 ^ 4 → b < 2 ^ 6 → c < 2 ^ 1 → d < 2 ^ 1 → BranchPieces a b c d
branch_pieces a b c d ha hb hc hd =
    record { bit12 = omega arith; bits10_5 = omega arith; bits4_1 = omega arith; bit11 = omega arith }

branch_of : (w : ℕ) → BranchPieces (field 8 4 w) (field 25 6 w) (field 7 1 w) (field 31 1 w)
branch_of w = search (arith, branch_pieces, field_below)

branch-join : (n : ℕ) → n % 2 ^ 4 + n / 2 ^ 4 % 2 ^ 6 * 2 ^ 4 + n / 2 ^ 10 % 2 ^ 1 * 2 ^ 10 + n / 2 ^ 11 * 2 ^ 11 ≡ n
branch-join n = omega arith

-- pieces of 10, 1, 8 and 1 bits
record JumpPieces (a b c d : ℕ) : Type 0 where
  bit20 : (a + b * 2 ^ 10 + c * 2 ^ 11 + d * 2 ^ 19) / 2 ^ 19 ≡ d
  bits10_1 : (a + b * 2 ^ 10 + c * 2 ^ 11 + d * 2 ^ 19) % 2 ^ 10 ≡ a
  bit11 : (a + b * 2 ^ 10 + c * 2 ^ 11 + d * 2 ^ 19) / 2 ^ 10 % 2 ^ 1 ≡ b
  bits19_12 : (a + b * 2 ^ 10 + c * 2 ^ 11 + d * 2 ^ 19) / 2 ^ 11 % 2 ^ 8 ≡ c

jump_pieces : (a b c d : ℕ) → a < 2 ^ 10 → b < 2 ^ 1 → c < 2 ^ 8 → d < 2 ^ 1 → JumpPieces a b c d
jump_pieces a b c d ha hb hc hd =
    record { bit20 = omega arith; bits10_1 = omega arith; bit11 = omega arith; bits19_12 = omega arith }

jump_of : (w : ℕ) → JumpPieces (field 21 10 w) (field 20 1 w) (field 12 8 w) (field 31 1 w)
jump_of w = search (arith, field_below, jump_pieces)

jump-join : (n : ℕ) → n % 2 ^ 10 + n / 2 ^ 10 % 2 ^ 1 * 2 ^ 10 + n / 2 ^ 11 % 2 ^ 8 * 2 ^ 11 + n / 2 ^ 19 * 2 ^ 19 ≡ n
jump-join n = omega arith

-- the parts of the instruction that a word decodes to
pub filled_parts : (t : Instr) (w : ℕ) → parts (filled t w) ≡ of_word w (parts t)
filled_parts t w = search (arith, branch_of, flag_back, jump_of, number-source_of, store-high, store-low)

-- the other bits of that instruction
pub filled_bits : (t : Instr) (w : ℕ) → bits (filled t w) ≡ bits t
filled_bits t w = search (arith, form_source_of)

-- a word with the parts of an instruction decodes to this instruction
pub refilled : (i : Instr) (w : ℕ) → Reads w (parts i) → filled i w ≡ i
refilled i w r = search (arith, bit_pair, branch-join, jump-join, source_again, store-join)

-- the parts and the fixed bits fill a word
pub record Laid (ps : List Part) : Type 0 where
  pub apart : share_none (fixed ps) ps ≡ true
  pub clear : clear (fixed ps) ps ≡ true
  pub whole : mask_of (fixed ps) ps ≡ 2 ^ 32 - 1

-- the same for each instruction
pub laid : (i : Instr) → Laid (parts i)
laid (instr.Scalar (Upper op rd imm)) = record { apart = refl; clear = refl; whole = refl }
laid (instr.Csr (Register op rd rs1 csr)) = record { apart = refl; clear = refl; whole = refl }
laid (instr.Vector (SetVli rd rs1 vtype)) = record { apart = refl; clear = refl; whole = refl }
laid (instr.Access (UnitStride op width nf vd rs1 vm)) = record { apart = refl; clear = refl; whole = refl }
laid _ = record { apart = refl; clear = refl; whole = refl }
