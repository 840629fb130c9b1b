-- Names and rows of the instruction table: each name belongs to one row, and each row except that of fences has names for all its words
use Rattle.std.proofs.Common.{◌≡◌, ◌⊎◌, ℕ, zero, suc, ◌+◌, ◌-◌, ◌*◌, ◌/◌, ◌%◌, ◌^◌, ◌<◌, Bool, true, false, not, nat_eq, ◌&&◌, ◌||◌, List, [], ◌∷◌, map, take, length, get_or, refl, sym, ap, subst, ◌∙◌, arith, inl, inr, add-zero}
use Rattle.std.specs.List.{list_any, list_all}
use Rattle.std.specs.Int.Bits.{bit_and, and_comm}
use Rattle.std.proofs.Math.Nat.{mod-eq_of_lt}
use Rattle.std.proofs.lemmas.Nat.{and_assoc, and_mask}
use Rattle.std.proofs.lemmas.Nat.Bits.{and_high}
use Rattle.std.proofs.lemmas.Bool.{cases_Bool, and_parts, eqb-true}
use Rattle.std.proofs.lemmas.List.{get_or-map, get_or-take}
use Rattle.std.proofs.lemmas.Bool.Decides.{nat_tests}
use Rattle.rv_model.specs.declared.assembler.forms.Form.TheVariants as form
use Rattle.rv_model.specs.declared.assembler.mnemonics.Mnemonic.{Mnemonic}
use Rattle.rv_model.specs.declared.assembler.mnemonics.TheConstants.{MNEMONICS, NAME_COUNT}
use Rattle.rv_model.specs.instructions.Table.{Row, Matches, table}
use Rattle.rv_model.proofs.instruction_lemmas.Parts.{and_sum}
use Rattle.rv_model.proofs.instruction_lemmas.Scans.{In, all_in}
use Rattle.rv_model.specs.lending.NameTable.{fixed_mask, slots_of, row_at, slots_at, bits_at, HasBitsOf}
use Rattle.rv_model.proofs.assembler_lemmas.ListedTexts.{IsFence}

-- a mask, and the values of the bits in the mask
abbrev pub Pattern : Type 0
Pattern = ℕ × ℕ

abbrev pub pattern_of : Mnemonic → Pattern
pattern_of m = (fixed_mask (slots_of m.1), m.2)

abbrev pub pattern_of_row : Row → Pattern
pattern_of_row r = (r.mask, r.bits)

-- each word with the bits of q also has the bits of p, which fixes a subset of them
abbrev pub covers : Pattern → Pattern → Bool
covers p q = nat_eq (bit_and p.0 q.0) p.0 && nat_eq (bit_and q.1 p.0) p.1

unfoldable pub names : List Pattern
names = map pattern_of (take NAME_COUNT MNEMONICS)

pub named_count : length names ≡ NAME_COUNT
unfolding names
named_count = refl

pub in_names : (row : ℕ) → row < NAME_COUNT → row < length names
in_names row lt = let P : ℕ → Type 0 = λ k. row < k in subst P (sym named_count) lt

-- the row for an index past the end of the table of names
abbrev pub none : Mnemonic
none = record { 0 = []; 1 = form.Plain; 2 = 0 }

-- a name of the list is a row of the table of names
pub name_at_row : (n : ℕ) → n < NAME_COUNT → get_or names n (0, 0) ≡ pattern_of (get_or MNEMONICS n none)
unfolding names
name_at_row n lt = get_or-map pattern_of (take NAME_COUNT MNEMONICS) n none (0, 0) lt ∙ ap pattern_of (get_or-take NAME_COUNT MNEMONICS n none lt)

-- a word with the bits of a row of the table of names matches the row's pattern
pub bits_of_name : (row w : ℕ) → row < NAME_COUNT → HasBitsOf row w → bit_and w (get_or names row (0, 0)).0 ≡ (get_or names row (0, 0)).1
unfolding slots_at bits_at row_at
bits_of_name row w lt is = let P : Pattern → Type 0 = λ p. bit_and w p.0 ≡ p.1 in subst P (sym (name_at_row row lt)) is

abbrev of_row : Pattern → Row → Bool
of_row name r = covers (pattern_of_row r) name

-- each name belongs to a row of the table
each_has_row : list_all (λ name. list_any (of_row name) table) names ≡ true
unfolding names table fixed_mask
each_has_row = refl

-- no fence except the one with a name has the bits of a name
abbrev excludes_fences : Pattern → Bool
excludes_fences name = (nat_eq name.0 (2 ^ 32 - 1) && nat_eq name.1 0x0ff0000f) || not (nat_eq (bit_and name.1 0x707f) (bit_and 0x0f name.0))

each_spares_fences : list_all excludes_fences names ≡ true
unfolding names fixed_mask
each_spares_fences = refl

-- a name covers the pattern, or names cover both values of an open bit
abbrev covered : List Pattern → List ℕ → Pattern → Bool
covered ns [] q = list_any (λ name. covers name q) ns
covered ns (b ∷ bs) q =
    list_any (λ name. covers name q) ns
    || (nat_eq (bit_and q.0 b) 0 && (covered ns bs (q.0 + b, q.1) && covered ns bs (q.0 + b, q.1 + b)))

abbrev is_fence : Pattern → Bool
is_fence p = nat_eq p.0 0x707f && nat_eq p.1 0x0f

-- open bits of rows that names fix: the mask bit of vmadc and vmsbc, and the number of fields
abbrev splits : Bool → Bool → List ℕ
splits true fields = 2 ^ 25 ∷ []
splits false true = 2 ^ 29 ∷ 2 ^ 30 ∷ 2 ^ 31 ∷ []
splits false false = []

abbrev has_mask : Pattern → Bool
has_mask q = nat_eq (bit_and q.1 0x7f) 0x57

abbrev has_fields : Pattern → Bool
has_fields q = nat_eq (bit_and q.1 0x5f) 0x07 && nat_eq (bit_and q.0 (2 ^ 29)) 0

abbrev row_covered : Row → Bool
row_covered r = is_fence (pattern_of_row r) || covered names (splits (has_mask (pattern_of_row r)) (has_fields (pattern_of_row r))) (pattern_of_row r)

each_is_covered : list_all row_covered table ≡ true
unfolding names table fixed_mask
each_is_covered = refl

-- ---- consequences of these tests

other_of_or : (a b : Bool) → (a || b) ≡ true → a ≡ false → b ≡ true
other_of_or a b h k = search

pub any_at : {X : Type 0} (p : X → Bool) (xs : List X) (d : X) → list_any p xs ≡ true → (n : ℕ) × (n < length xs) × (p (get_or xs n d) ≡ true)
any_at p [] d h = absurd cc
any_at p (x ∷ xs) d h =
    elim (cases_Bool (p x)) [
      | inl y ↦ (0, omega arith, y)
      | inr n ↦ let r = any_at p xs d (other_of_or (p x) (list_any p xs) h n) in (suc r.0, omega (arith, r.1), r.2)
    ]

pub all_at : {X : Type 0} (p : X → Bool) (xs : List X) (n : ℕ) (d : X) → list_all p xs ≡ true → n < length xs → p (get_or xs n d) ≡ true
all_at p [] n d h lt = absurd (omega arith)
all_at p (x ∷ xs) zero d h lt = (and_parts (p x) (list_all p xs) h).0
all_at p (x ∷ xs) (suc n) d h lt = all_at p xs n d (and_parts (p x) (list_all p xs) h).1 (omega arith)

any_in : (p : Row → Bool) (t : List Row) → list_any p t ≡ true → (r : Row) × In r t × (p r ≡ true)
any_in p [] h = absurd cc
any_in p (s ∷ ss) h =
    elim (cases_Bool (p s)) [
      | inl y ↦ (s, inl refl, y)
      | inr n ↦ let r = any_in p ss (other_of_or (p s) (list_any p ss) h n) in (r.0, inr r.1, r.2)
    ]

pub covers_all : (p q : Pattern) (w : ℕ) → covers p q ≡ true → bit_and w q.0 ≡ q.1 → bit_and w p.0 ≡ p.1
covers_all p q w h is =
    let k = and_parts (nat_eq (bit_and p.0 q.0) p.0) (nat_eq (bit_and q.1 p.0) p.1) h in
    ap (bit_and w) (sym (eqb-true (bit_and p.0 q.0) p.0 k.0) ∙ and_comm p.0 q.0)
    ∙ sym (and_assoc p.0 w q.0)
    ∙ ap (λ x. bit_and x p.0) is
    ∙ eqb-true (bit_and q.1 p.0) p.1 k.1

-- a bit is set or clear
abbrev IsBit : ℕ → Type 0
IsBit b = (w : ℕ) → (bit_and w b ≡ 0) ⊎ (bit_and w b ≡ b)

abbrev AreBits : List ℕ → Type 0
AreBits [] = Unit {0}
AreBits (b ∷ bs) = IsBit b × AreBits bs

one_bit : (n b x : ℕ) → x < 2 → n ≡ x * b → (n ≡ 0) ⊎ (n ≡ b)
one_bit n b zero lt e = inl (omega (arith, e))
one_bit n b (suc zero) lt e = inr (omega (arith, e))
one_bit n b (suc (suc x)) lt e = absurd (omega arith)

bit_25 : IsBit (2 ^ 25)
bit_25 w = one_bit (bit_and w (2 ^ 25)) (2 ^ 25) (w / 2 ^ 25 % 2) (omega arith) (and_high w 1 25)

bit_29 : IsBit (2 ^ 29)
bit_29 w = one_bit (bit_and w (2 ^ 29)) (2 ^ 29) (w / 2 ^ 29 % 2) (omega arith) (and_high w 1 29)

bit_30 : IsBit (2 ^ 30)
bit_30 w = one_bit (bit_and w (2 ^ 30)) (2 ^ 30) (w / 2 ^ 30 % 2) (omega arith) (and_high w 1 30)

bit_31 : IsBit (2 ^ 31)
bit_31 w = one_bit (bit_and w (2 ^ 31)) (2 ^ 31) (w / 2 ^ 31 % 2) (omega arith) (and_high w 1 31)

are_bits : (a b : Bool) → AreBits (splits a b)
are_bits a b = search (arith, nat_tests, bit_25, bit_29, bit_30, bit_31)

-- the word has the bits of a name of the list
abbrev pub HasNameOf : List Pattern → ℕ → Type 0
HasNameOf ns w = (n : ℕ) × (n < length ns) × (bit_and w (get_or ns n (0, 0)).0 ≡ (get_or ns n (0, 0)).1)

covered_by_name : (ns : List Pattern) (q : Pattern) (w : ℕ) → list_any (λ name. covers name q) ns ≡ true → bit_and w q.0 ≡ q.1 → HasNameOf ns w
covered_by_name ns q w h is =
    let r = any_at (λ name. covers name q) ns (0, 0) h in
    (r.0, r.1, covers_all (get_or ns r.0 (0, 0)) q w r.2 is)

with_bit : (w m b x : ℕ) → bit_and m b ≡ 0 → bit_and w b ≡ x → bit_and w (m + b) ≡ bit_and w m + x
with_bit w m b x apart is = and_sum w m b apart ∙ ap (λ (n : ℕ). bit_and w m + n) is

covered_all : (ns : List Pattern) (bs : List ℕ) (q : Pattern) (w : ℕ) → AreBits bs → covered ns bs q ≡ true → bit_and w q.0 ≡ q.1 → HasNameOf ns w
covered_all ns [] q w bits h is = covered_by_name ns q w h is
covered_all ns (b ∷ bs) q w bits h is =
    let here = list_any (λ name. covers name q) ns in
    let off = covered ns bs (q.0 + b, q.1) in
    let on = covered ns bs (q.0 + b, q.1 + b) in
    elim (cases_Bool here) [
      | inl y ↦ covered_by_name ns q w y is
      | inr n ↦
          let k = and_parts (nat_eq (bit_and q.0 b) 0) (off && on) (other_of_or here (nat_eq (bit_and q.0 b) 0 && (off && on)) h n) in
          let apart = eqb-true (bit_and q.0 b) 0 k.0 in
          elim (bits.0 w) [
            | inl clear ↦ covered_all ns bs (q.0 + b, q.1) w bits.1 (and_parts off on k.1).0 (with_bit w q.0 b 0 apart clear ∙ add-zero (bit_and w q.0) ∙ is)
            | inr set ↦ covered_all ns bs (q.0 + b, q.1 + b) w bits.1 (and_parts off on k.1).1 (with_bit w q.0 b b apart set ∙ ap (λ (x : ℕ). x + b) is)
          ]
    ]

-- a word that matches a row other than that of fences has the bits of a name
pub word_of_row_has_name : (r : Row) (w : ℕ) → In r table → Matches r w → (IsFence w → ⊥) → HasNameOf names w
word_of_row_has_name r w here is no_fence =
    search (arith, nat_tests, all_in, and_parts, are_bits, cases_Bool, covered_all, each_is_covered, eqb-true, other_of_or)

-- each name belongs to a row
pub row_of_name : (n : ℕ) → n < length names → (r : Row) × In r table × (covers (pattern_of_row r) (get_or names n (0, 0)) ≡ true)
row_of_name n lt = any_in (of_row (get_or names n (0, 0))) table (all_at (λ name. list_any (of_row name) table) names n (0, 0) each_has_row lt)

-- a word with the bits of a name matches a row
pub name_of_row : (n w : ℕ) → n < length names → bit_and w (get_or names n (0, 0)).0 ≡ (get_or names n (0, 0)).1 → (r : Row) × In r table × Matches r w
name_of_row n w lt is =
    ((row_of_name n lt).0, (row_of_name n lt).1, covers_all (pattern_of_row (row_of_name n lt).0) (get_or names n (0, 0)) w (row_of_name n lt).2 is)

-- a fence with the bits of a name is the one with a name
pub fence_named : (n w : ℕ) → w < 2 ^ 32 → n < length names → bit_and w (get_or names n (0, 0)).0 ≡ (get_or names n (0, 0)).1 → IsFence w → w ≡ 0x0ff0000f
fence_named n w small lt is fence =
    let name = get_or names n (0, 0) in
    let exact = nat_eq name.0 (2 ^ 32 - 1) && nat_eq name.1 0x0ff0000f in
    let same = nat_eq (bit_and name.1 0x707f) (bit_and 0x0f name.0) in
    let h = all_at excludes_fences names n (0, 0) each_spares_fences lt in
    elim (cases_Bool exact) [
      | inl y ↦
          let k = and_parts (nat_eq name.0 (2 ^ 32 - 1)) (nat_eq name.1 0x0ff0000f) y in
          sym (and_mask w 32 ∙ mod-eq_of_lt small) ∙ ap (bit_and w) (sym (eqb-true name.0 (2 ^ 32 - 1) k.0)) ∙ is ∙ eqb-true name.1 0x0ff0000f k.1
      | inr other ↦
          let e : bit_and name.1 0x707f ≡ bit_and 0x0f name.0 =
          ap (λ x. bit_and x 0x707f) (sym is) ∙ and_assoc 0x707f w name.0 ∙ ap (bit_and w) (and_comm name.0 0x707f) ∙ sym (and_assoc name.0 w 0x707f) ∙ ap (λ x. bit_and x name.0) fence in
          absurd (search (arith, nat_tests))
    ]
