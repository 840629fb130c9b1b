-- Encoding and decoding are inverse to each other
use Rattle.std.proofs.Common.{◌≡◌, ap, ◌∙◌, sym, subst, ℕ, ◌+◌, ◌-◌, ◌^◌, ◌<◌, ◌≤◌, List, [], ◌∷◌, ◌++◌, map, Option, Some, true, inl, inr, ◌⊎◌, arith, add-zero}
use Rattle.std.specs.Prelude.{IfSome, flat_map}
use Rattle.std.specs.Int.Bits.{bit_and, and_le_r}
use Rattle.std.proofs.lemmas.Bool.Decides.{nat_tests}
use Rattle.rv_model.specs.declared.instructions.instruction.Instr.{Instr}
use Rattle.rv_model.specs.instructions.FixedBits.{Part, sum_of, mask_of, fixed}
use Rattle.rv_model.specs.lending.ListedBits.{AllFit, Allowed}
use Rattle.rv_model.specs.instructions.Table.{parts, bits, word_of, Row, table, Matches, scan}
use Rattle.rv_model.specs.lending.Families.{filled, row_of}
use Rattle.rv_model.proofs.instruction_lemmas.Parts.{share_none, inside_mask, fixed_bits, reads, rebuilt}
use Rattle.rv_model.proofs.instruction_lemmas.Scans.{In, found, table_apart, some_row}
use Rattle.rv_model.proofs.instruction_lemmas.Words.{Laid, laid, filled_parts, filled_bits, refilled}
use Rattle.rv_model.proofs.instruction_lemmas.Rows.{groups, table_groups, listed, inside}

sum_small : (code m : ℕ) → bit_and code m ≡ code → (ps : List Part) → share_none m ps ≡ true
    → mask_of m ps ≡ 2 ^ 32 - 1 → AllFit ps → sum_of code ps < 2 ^ 32
sum_small code m within ps h all fit =
    let e : bit_and (sum_of code ps) (2 ^ 32 - 1) ≡ sum_of code ps = subst (λ x. bit_and (sum_of code ps) x ≡ sum_of code ps) all (inside_mask code m within ps h fit) in
    let b : bit_and (sum_of code ps) (2 ^ 32 - 1) ≤ 2 ^ 32 - 1 = and_le_r (sum_of code ps) (2 ^ 32 - 1) in
    omega arith

-- the word of an instruction decodes to this instruction
pub back : (i : Instr) → AllFit (parts i) → Allowed i → scan table (word_of i) ≡ Some i
back i fit ok =
    found table table_apart (row_of i) (listed i ok) (word_of i) (fixed_bits (bits i) (fixed (parts i)) (inside i ok) (parts i) (laid i).apart fit)
    ∙ ap Some (refilled i (word_of i) (reads (bits i) (fixed (parts i)) (inside i ok) (parts i) (laid i).apart (laid i).clear fit))

sum-split : (code : ℕ) (ps : List Part) → sum_of code ps ≡ code + sum_of 0 ps
sum-split code [] = sym (add-zero code)
sum-split code (p ∷ ps) = search (arith, nat_tests, sum-split code ps)

-- the word of an instruction is the sum of its fixed bits and operands
pub word_sum : (i : Instr) → word_of i ≡ bits i + sum_of 0 (parts i)
word_sum i = sum-split (bits i) (parts i)

-- a word has 32 bits
pub small : (i : Instr) → AllFit (parts i) → Allowed i → word_of i < 2 ^ 32
small i fit ok =
    let l : Laid (parts i) = laid i in sum_small (bits i) (fixed (parts i)) (inside i ok) (parts i) l.apart l.whole fit

word_again : (t : Instr) (w : ℕ) → w < 2 ^ 32 → bit_and w (fixed (parts t)) ≡ bits t → word_of (filled t w) ≡ w
word_again t w small is = search (arith, nat_tests, filled_bits, filled_parts, fixed, laid, rebuilt)

template_in : (ts : List Instr) (r : Row) → In r (map row_of ts) → (t : Instr) × (row_of t ≡ r)
template_in [] r h = absurd h
template_in (t ∷ ts) r (inl e) = (t, e)
template_in (t ∷ ts) r (inr h) = template_in ts r h

split_in : (xs ys : List Row) (r : Row) → In r (xs ++ ys) → In r xs ⊎ In r ys
split_in [] ys r h = inr h
split_in (x ∷ xs) ys r (inl e) = inl (inl e)
split_in (x ∷ xs) ys r (inr h) = elim (split_in xs ys r h) [ inl a ↦ inl (inr a) | inr b ↦ inr b ]

template_joined : (gs : List (List Instr)) (r : Row) → In r (flat_map (map row_of) gs) → (t : Instr) × (row_of t ≡ r)
template_joined [] r h = absurd h
template_joined (g ∷ gs) r h = elim (split_in (map row_of g) (flat_map (map row_of) gs) r h) [ inl a ↦ template_in g r a | inr b ↦ template_joined gs r b ]

-- each row of the table is the row of some instruction
pub template_of : (r : Row) → In r table → (t : Instr) × (row_of t ≡ r)
template_of r h = template_joined groups r (subst (In r) table_groups h)

row_word : (r : Row) (w : ℕ) → w < 2 ^ 32 → In r table → Matches r w → word_of (r.instr w) ≡ w
row_word r w small h is = search (arith, nat_tests, template_of, word_again)

-- the instruction that a word decodes to has this word
pub decoded : (w : ℕ) (o : Option Instr) → o ≡ scan table w → w < 2 ^ 32 → IfSome o (λ i. word_of i ≡ w)
decoded w o is small = search (arith, nat_tests, row_word, some_row)
