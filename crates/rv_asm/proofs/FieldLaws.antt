-- The operands of a word, encoded in their fields again
use Rattle.std.proofs.Common.{◌≡◌, ℕ, ◌+◌, ◌*◌, ◌/◌, ◌%◌, ◌^◌, ◌<◌, List, [], ◌∷◌, ◌++◌, refl, sym, ap, ap₂, ◌∙◌, arith}
use Rattle.std.proofs.Math.Nat.{mod-eq_of_lt}
use Rattle.rv_model.specs.instructions.FixedBits.{field, Part, part, sum_of}
use Rattle.rv_model.specs.instructions.Immediates.{branch_offset, jump_offset}
use Rattle.rv_model.specs.declared.assembler.forms.Slot.{Slot}
use Rattle.rv_model.specs.declared.assembler.forms.Slot.TheVariants.{Scalar, Vector, Unsigned, Signed, Csr, VectorType, ShortVectorType, Mask, Word}
use Rattle.rv_model.specs.declared.assembler.forms.UnsignedField.TheVariants as unsigned
use Rattle.rv_model.specs.declared.assembler.forms.SignedField.TheVariants as signed
use Rattle.rv_model.specs.assembler.Fields.{lowest, parts_of, value_of}
use Rattle.rv_model.proofs.instruction_lemmas.Parts.{of_word}
use Rattle.rv_model.proofs.instruction_lemmas.Words.{low_again}
use Rattle.rv_model.proofs.assembler_lemmas.Operands.{field_below}

-- all operands of a word in their fields
abbrev pub operand_parts : List Slot → ℕ → List Part
operand_parts [] w = []
operand_parts (s ∷ ss) w = parts_of s (value_of s w) ++ operand_parts ss w

-- the value of a field is below 2 ^ len, so its remainder is the same
same_part : (low len w : ℕ) → part low len (field low len w % 2 ^ len) ≡ part low len (field low len w)
same_part low len w = ap (part low len) (mod-eq_of_lt (field_below low len w))

two_same_parts : {a b c d : Part} → a ≡ b → c ≡ d → a ∷ c ∷ [] ≡ b ∷ d ∷ []
two_same_parts h k = ap₂ (λ (x y : Part). x ∷ y ∷ []) h k

four_same_parts : {a b c d e f g h : Part} → a ≡ b → c ≡ d → e ≡ f → g ≡ h → a ∷ c ∷ e ∷ g ∷ [] ≡ b ∷ d ∷ f ∷ h ∷ []
four_same_parts {b = b} {c = c} {d = d} {e = e} {f = f} {g = g} h k l m = ap₂ (λ (x y : Part). x ∷ y ∷ e ∷ g ∷ []) h k ∙ ap₂ (λ (x y : Part). b ∷ d ∷ x ∷ y ∷ []) l m

high_piece_of_store_offset : (a b : ℕ) → a < 2 ^ 5 → b < 2 ^ 7 → (a + b * 2 ^ 5) / 2 ^ 5 % 2 ^ 7 ≡ b
high_piece_of_store_offset a b h k = omega arith

parts_of_branch_offset : (a b c d : ℕ) → a < 2 ^ 4 → b < 2 ^ 6 → c < 2 ^ 1 → d < 2 ^ 1
    → ((a + b * 2 ^ 4 + c * 2 ^ 10 + d * 2 ^ 11) / 2 ^ 11 % 2 ^ 1 ≡ d) × ((a + b * 2 ^ 4 + c * 2 ^ 10 + d * 2 ^ 11) / 2 ^ 4 % 2 ^ 6 ≡ b)
    × ((a + b * 2 ^ 4 + c * 2 ^ 10 + d * 2 ^ 11) % 2 ^ 4 ≡ a) × ((a + b * 2 ^ 4 + c * 2 ^ 10 + d * 2 ^ 11) / 2 ^ 10 % 2 ^ 1 ≡ c)
parts_of_branch_offset a b c d ha hb hc hd = (omega arith, omega arith, omega arith, omega arith)

parts_of_jump_offset : (a b c d : ℕ) → a < 2 ^ 10 → b < 2 ^ 1 → c < 2 ^ 8 → d < 2 ^ 1
    → ((a + b * 2 ^ 10 + c * 2 ^ 11 + d * 2 ^ 19) / 2 ^ 19 % 2 ^ 1 ≡ d) × ((a + b * 2 ^ 10 + c * 2 ^ 11 + d * 2 ^ 19) % 2 ^ 10 ≡ a)
    × ((a + b * 2 ^ 10 + c * 2 ^ 11 + d * 2 ^ 19) / 2 ^ 10 % 2 ^ 1 ≡ b) × ((a + b * 2 ^ 10 + c * 2 ^ 11 + d * 2 ^ 19) / 2 ^ 11 % 2 ^ 8 ≡ c)
parts_of_jump_offset a b c d ha hb hc hd = (omega arith, omega arith, omega arith, omega arith)

branch_parts : (w : ℕ) → parts_of (Signed signed.Branch) (branch_offset w) ≡ part 31 1 (field 31 1 w) ∷ part 25 6 (field 25 6 w) ∷ part 8 4 (field 8 4 w) ∷ part 7 1 (field 7 1 w) ∷ []
branch_parts w =
    let p = parts_of_branch_offset (field 8 4 w) (field 25 6 w) (field 7 1 w) (field 31 1 w) (field_below 8 4 w) (field_below 25 6 w) (field_below 7 1 w) (field_below 31 1 w) in
    four_same_parts (ap (part 31 1) p.0) (ap (part 25 6) p.1) (ap (part 8 4) p.2) (ap (part 7 1) p.3)

jump_parts : (w : ℕ) → parts_of (Signed signed.Jump) (jump_offset w) ≡ part 31 1 (field 31 1 w) ∷ part 21 10 (field 21 10 w) ∷ part 20 1 (field 20 1 w) ∷ part 12 8 (field 12 8 w) ∷ []
jump_parts w =
    let p = parts_of_jump_offset (field 21 10 w) (field 20 1 w) (field 12 8 w) (field 31 1 w) (field_below 21 10 w) (field_below 20 1 w) (field_below 12 8 w) (field_below 31 1 w) in
    four_same_parts (ap (part 31 1) p.0) (ap (part 21 10) p.1) (ap (part 20 1) p.2) (ap (part 12 8) p.3)

one_same_part : {a b : Part} → a ≡ b → a ∷ [] ≡ b ∷ []
one_same_part h = ap (λ (x : Part). x ∷ []) h

parts_again : (s : Slot) (w : ℕ) → parts_of s (value_of s w) ≡ of_word w (parts_of s (value_of s 0))
parts_again (Scalar p) w = one_same_part (same_part (lowest p) 5 w)
parts_again (Vector p) w = one_same_part (same_part (lowest p) 5 w)
parts_again (Unsigned unsigned.Immediate) w = one_same_part (same_part 15 5 w)
parts_again (Unsigned unsigned.Shift) w = one_same_part (same_part 20 6 w)
parts_again (Unsigned unsigned.ShiftWord) w = one_same_part (same_part 20 5 w)
parts_again (Unsigned unsigned.Upper) w = one_same_part (same_part 12 20 w)
parts_again (Signed signed.Vector) w = one_same_part (same_part 15 5 w)
parts_again (Signed signed.Immediate) w = one_same_part (same_part 20 12 w)
parts_again (Signed signed.Store) w = two_same_parts (ap (part 25 7) (high_piece_of_store_offset (field 7 5 w) (field 25 7 w) (field_below 7 5 w) (field_below 25 7 w))) (ap (part 7 5) (low_again (field 7 5 w) (field 25 7 w) (field_below 7 5 w)))
parts_again (Signed signed.Branch) w = branch_parts w
parts_again (Signed signed.Jump) w = jump_parts w
parts_again Csr w = one_same_part (same_part 20 12 w)
parts_again VectorType w = one_same_part (same_part 20 11 w)
parts_again ShortVectorType w = one_same_part (same_part 20 10 w)
parts_again Mask w = one_same_part (same_part 25 1 w)
parts_again Word w = one_same_part (same_part 0 32 w)
parts_again _ w = refl

of_word-append : (w : ℕ) (ps qs : List Part) → of_word w (ps ++ qs) ≡ of_word w ps ++ of_word w qs
of_word-append w [] qs = refl
of_word-append w (p ∷ ps) qs = ap (λ (rs : List Part). part p.low p.len (w / 2 ^ p.low % 2 ^ p.len) ∷ rs) (of_word-append w ps qs)

-- the operands of a word, in their fields, are the bits of the word there
pub operand_parts_of_word : (ss : List Slot) (w : ℕ) → operand_parts ss w ≡ of_word w (operand_parts ss 0)
operand_parts_of_word [] w = refl
operand_parts_of_word (s ∷ ss) w = ap₂ (λ (ps qs : List Part). ps ++ qs) (parts_again s w) (operand_parts_of_word ss w) ∙ sym (of_word-append w (parts_of s (value_of s 0)) (operand_parts ss 0))

pub sum_of-append : (code : ℕ) (ps qs : List Part) → sum_of code (ps ++ qs) ≡ sum_of 0 ps + sum_of code qs
sum_of-append code [] qs = let e : sum_of code qs ≡ 0 + sum_of code qs = omega arith in e
sum_of-append code (p ∷ ps) qs =
    let h = sum_of-append code ps qs in
    let a = sum_of 0 ps in
    let b = sum_of code qs in
    let x = p.value * 2 ^ p.low in
    let e : (a + b) + x ≡ (a + x) + b = omega arith in
    ap (λ (n : ℕ). n + x) h ∙ e
