-- The number of a supported vector type decodes to that type.
use Rattle.std.proofs.Common.{◌≡◌, ℕ, ◌+◌, ◌*◌, ◌<◌, ◌≤◌, Bool, true, false, cond, refl, arith, ap, ◌∙◌, Option, Some, None}
use Rattle.std.specs.Prelude.{◌==◌, nat_lt, nat_le, IfSome}
use Rattle.std.proofs.lemmas.Bool.Decides.{nat_tests}
use Rattle.rv_model.specs.declared.vector.types.Sew.{Sew}
use Rattle.rv_model.specs.declared.vector.types.Sew.TheVariants.{E8}
use Rattle.rv_model.specs.declared.vector.types.Lmul.{Lmul}
use Rattle.rv_model.specs.declared.vector.types.Lmul.TheVariants.{M1}
use Rattle.rv_model.specs.declared.vector.types.VType.{VType}
use Rattle.rv_model.specs.instructions.FixedBits.{field, flag_bit}
use Rattle.rv_model.specs.vector.Groups.{IsSupported, lmul_eighths, sew_bits}
use Rattle.rv_model.specs.vector.TypeRules.{vtype_number, vector_type, sew_number, sew_with_number, lmul_number, lmul_with_number, supported_type}

sew_again : (sew : Sew) → sew_with_number (sew_number sew) ≡ Some sew
sew_again E8 = refl
sew_again _ = refl

lmul_again : (lmul : Lmul) → lmul_with_number (lmul_number lmul) ≡ Some lmul
lmul_again M1 = refl
lmul_again _ = refl

sew_small : (sew : Sew) → sew_number sew < 8
sew_small E8 = omega arith
sew_small _ = omega arith

lmul_small : (lmul : Lmul) → lmul_number lmul < 8
lmul_small M1 = omega arith
lmul_small _ = omega arith

flag_again : (b : Bool) → (flag_bit b == 1) ≡ b
flag_again true = refl
flag_again false = refl

flag_small : (b : Bool) → flag_bit b < 2
flag_small true = omega arith
flag_small false = omega arith

-- the fields of a number that is the sum of these shifted fields
parts_again : (l s a b : ℕ) → l < 8 → s < 8 → a < 2 → b < 2
    → (l + s * 8 + a * 64 + b * 128 < 256) × (field 3 3 (l + s * 8 + a * 64 + b * 128) ≡ s) × (field 0 3 (l + s * 8 + a * 64 + b * 128) ≡ l)
    × (field 6 1 (l + s * 8 + a * 64 + b * 128) ≡ a) × (field 7 1 (l + s * 8 + a * 64 + b * 128) ≡ b)
parts_again l s a b hl hs ha hb = (omega arith, omega arith, omega arith, omega arith, omega arith)

-- the vector type that is built from these fields
built : (small : Bool) (s : Option Sew) (l : Option Lmul) (a b : Bool) (t : VType) → small ≡ true → s ≡ Some t.sew → l ≡ Some t.lmul
    → a ≡ t.tail_agnostic → b ≡ t.mask_agnostic → nat_le (sew_bits t.sew) (lmul_eighths t.lmul * 8) ≡ true
    → cond small (supported_type s l a b) None ≡ Some t
built small s l a b t e es el ea eb supported = rw (e, es, el, ea, eb, supported)

less : (m n : ℕ) → m < n → nat_lt m n ≡ true
less m n h = grind (arith, nat_tests)

at_most : (m n : ℕ) → m ≤ n → nat_le m n ≡ true
at_most m n h = grind (arith, nat_tests)

-- a number that is equal to a supported type's number decodes to that type
pub number_again : (vtype : Option VType) (n : ℕ) → n ≡ vtype_number vtype → IfSome vtype (λ t. IsSupported t → vector_type n ≡ Some t)
number_again None n e = tt
number_again (Some t) n e = λ supported.
    let parts = parts_again (lmul_number t.lmul) (sew_number t.sew) (flag_bit t.tail_agnostic) (flag_bit t.mask_agnostic)
    (lmul_small t.lmul) (sew_small t.sew) (flag_small t.tail_agnostic) (flag_small t.mask_agnostic) in
    let again = built _ _ _ _ _ t
    (less _ 256 parts.0)
    (ap sew_with_number parts.1 ∙ sew_again t.sew)
    (ap lmul_with_number parts.2 ∙ lmul_again t.lmul)
    (ap (λ x. x == 1) parts.3 ∙ flag_again t.tail_agnostic)
    (ap (λ x. x == 1) parts.4 ∙ flag_again t.mask_agnostic)
    (at_most _ _ supported) in
    ap vector_type e ∙ again
