-- Reading a printed name returns its number
use Rattle.std.proofs.Common.{◌≡◌, ℕ, ◌<◌, Bool, true, false, eqb, leb, ◌&&◌, List, [], ◌∷◌, length, Option, Some, None, refl, ap, subst, ◌∙◌, arith, lit<}
use Rattle.std.specs.Option.{option_map_or, option_or}
use Rattle.std.specs.Prelude.{find, codes, option_map}
use Rattle.std.specs.Fmt.{decimal}
use Rattle.std.specs.List.{list_all}
use Rattle.std.specs.Str.{bytes_eq}
use Rattle.std.proofs.lemmas.Bool.{and_parts, eqb-true, cond-true, cond-false, le-leb, leb-true}
use Rattle.rv_model.specs.declared.vector.control_register.ControlRegister.{ControlRegister}
use Rattle.rv_model.specs.declared.vector.types.Sew.{Sew}
use Rattle.rv_model.specs.declared.vector.types.Sew.TheVariants.{E8, E16, E32, E64}
use Rattle.rv_model.specs.declared.vector.types.Lmul.{Lmul}
use Rattle.rv_model.specs.declared.vector.types.Lmul.TheVariants.{Mf8, Mf4, Mf2, M1, M2, M4, M8}
use Rattle.rv_model.specs.instructions.FixedBits.{flag_bit}
use Rattle.rv_model.specs.vector.ControlRegisters.{control_register, control_registers, register_name, register_number}
use Rattle.rv_model.specs.vector.TypeNames.{lmul_name, mask_name, sew_name, tail_name}
use Rattle.rv_model.specs.vector.TypeRules.{lmul_number, lmul_with_number, sew_number, sew_with_number}
use Rattle.rv_model.specs.assembler.Numbers.{at_most, csr, number}
use Rattle.rv_model.proofs.assembler_lemmas.Found.{found_is, found_passes}
use Rattle.rv_asm.specs.TypeParts.{vsew, vlmul, vta, vma}
use Rattle.rv_asm.proofs.Tokens.{all_run}
use Rattle.rv_asm.proofs.NumberLaws.{Decimal, is_decimal, number_again, all_run_dec, not_letter}

-- the first byte is above the digits, as letters are
abbrev begins_with_letter : List ℕ → Bool
begins_with_letter [] = false
begins_with_letter (c ∷ cs) = leb 58 c

letter_first : (name : List ℕ) → begins_with_letter name ≡ true → 0 < length name
letter_first [] h = absurd cc
letter_first (c ∷ cs) h = omega arith

-- a name that begins with a letter isn't a decimal number
letters_apart : (name : List ℕ) (n : ℕ) (ds : List ℕ) → begins_with_letter name ≡ true → Decimal n ds → bytes_eq name ds ≡ false
letters_apart [] n ds h d = absurd cc
letters_apart (c ∷ cs) n ds h d = not_letter c n cs ds (leb-true 58 c h) d

abbrev is_number : ℕ → Option ℕ → Bool
is_number n None = false
is_number n (Some k) = eqb k n

number_is : (n : ℕ) (found : Option ℕ) → is_number n found ≡ true → found ≡ Some n
number_is n None h = absurd cc
number_is n (Some k) h = ap (λ (x : ℕ). Some x) (eqb-true k n h)

-- a text of one token with the value v
pub record Means (meaning : List ℕ → Option ℕ) (text : List ℕ) (v : ℕ) : Type 0 where
  pub run : all_run text ≡ true
  pub some : 0 < length text
  pub value : meaning text ≡ Some v

-- ---- control registers

-- the name of a register is one token, begins with a letter and reads as the register's number
names_itself : ControlRegister → Bool
names_itself register =
    all_run (register_name register) && (begins_with_letter (register_name register) && is_number (register_number register) (csr (register_name register)))

each_names_itself : list_all names_itself control_registers ≡ true
unfolding names_itself csr
each_names_itself = refl

csr_name_again : (register : ControlRegister) → names_itself register ≡ true → Means csr (register_name register) (register_number register)
unfolding names_itself
csr_name_again register h =
    let a = and_parts (all_run (register_name register)) _ h in
    let b = and_parts (begins_with_letter (register_name register)) _ a.1 in
    record { run = a.0; some = letter_first (register_name register) b.0; value = number_is (register_number register) (csr (register_name register)) b.1 }

-- the number of the register with this name, or the number that the text's digits give
abbrev csr_from : List ℕ → Option ControlRegister → Option ℕ
csr_from text register = option_or (option_map register_number register) (at_most 4095 (number text))

-- the name of a register, or its number in digits
abbrev csr_text_of : ℕ → Option ControlRegister → List ℕ
csr_text_of n register = option_map_or register_name register (decimal n)

-- none of these registers has digits as its name
digits_name_no_register : (registers : List ControlRegister) → list_all names_itself registers ≡ true → (v : ℕ) (ds : List ℕ) → Decimal v ds → find (λ r. bytes_eq (register_name r) ds) registers ≡ None
unfolding names_itself
digits_name_no_register [] h v ds d = refl
digits_name_no_register (r ∷ rs) h v ds d =
    let each = and_parts (names_itself r) (list_all names_itself rs) h in
    let letter = and_parts (begins_with_letter (register_name r)) _ (and_parts (all_run (register_name r)) _ each.0).1 in
    cond-false (bytes_eq (register_name r) ds) (Some r) _ (letters_apart (register_name r) v ds letter.0 d) ∙ digits_name_no_register rs each.1 v ds d

csr_text_again : (v : ℕ) (register : Option ControlRegister) → v < 4096 → control_register v ≡ register → Means csr (csr_text_of v register) v
unfolding csr
csr_text_again v None lt h =
    let d = is_decimal v (omega arith) in
    record {
      run = all_run_dec (decimal v) d.digits;
      some = d.some;
      value = ap (csr_from (decimal v)) (digits_name_no_register control_registers each_names_itself v (decimal v) d)
          ∙ ap (at_most 4095) (number_again v (decimal v) d) ∙ cond-true _ (Some v) None (le-leb v 4095 (omega arith));
    }
csr_text_again v (Some register) lt h =
    let is : register_number register ≡ v = eqb-true (register_number register) v (found_is (λ r. eqb (register_number r) v) control_registers register h) in
    subst (λ (n : ℕ). Means csr (register_name register) n) is
    (csr_name_again register (found_passes (λ r. eqb (register_number r) v) names_itself control_registers register each_names_itself h))

pub csr_again : (v : ℕ) → v < 4096 → Means csr (csr_text_of v (control_register v)) v
csr_again v lt = csr_text_again v (control_register v) lt refl

-- ---- the fields of vtype

pub vsew_again : (sew : Sew) → Means vsew (sew_name sew) (sew_number sew)
vsew_again E8 = record { run = refl; some = lit< tt; value = refl }
vsew_again _ = record { run = refl; some = lit< tt; value = refl }

pub vlmul_again : (lmul : Lmul) → Means vlmul (lmul_name lmul) (lmul_number lmul)
vlmul_again M1 = record { run = refl; some = lit< tt; value = refl }
vlmul_again _ = record { run = refl; some = lit< tt; value = refl }

pub vta_again : (agnostic : Bool) → Means vta (tail_name agnostic) (flag_bit agnostic)
vta_again true = record { run = refl; some = lit< tt; value = refl }
vta_again false = record { run = refl; some = lit< tt; value = refl }

pub vma_again : (agnostic : Bool) → Means vma (mask_name agnostic) (flag_bit agnostic)
vma_again true = record { run = refl; some = lit< tt; value = refl }
vma_again false = record { run = refl; some = lit< tt; value = refl }

-- a field's value found by a number has that number
pub sew_number_again : (n : ℕ) (sew : Sew) → sew_with_number n ≡ Some sew → n ≡ sew_number sew
sew_number_again n sew h = eqb-true n (sew_number sew) (found_is (λ s. eqb n (sew_number s)) (E8 ∷ E16 ∷ E32 ∷ E64 ∷ []) sew h)

pub lmul_number_again : (n : ℕ) (lmul : Lmul) → lmul_with_number n ≡ Some lmul → n ≡ lmul_number lmul
lmul_number_again n lmul h = eqb-true n (lmul_number lmul) (found_is (λ l. eqb n (lmul_number l)) (Mf8 ∷ Mf4 ∷ Mf2 ∷ M1 ∷ M2 ∷ M4 ∷ M8 ∷ []) lmul h)

-- a number is not the name of an element width
pub vsew_digits : (n : ℕ) (ds : List ℕ) → Decimal n ds → vsew ds ≡ None
vsew_digits n ds d =
    let not = λ (name : List ℕ) (l : begins_with_letter name ≡ true). letters_apart name n ds l d in
    rw (not (codes "e8") refl, not (codes "e16") refl, not (codes "e32") refl, not (codes "e64") refl) refl
