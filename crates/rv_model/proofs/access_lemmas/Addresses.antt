-- Addresses modulo 2 ^ 64.
use Rattle.std.proofs.Common.{◌≡◌, ℕ, zero, suc, ◌+◌, ◌-◌, ◌*◌, ◌<◌, ◌%◌, ◌^◌, pos, negsuc, neg_ℤ, ◌+ℤ◌, refl, sym, ◌∙◌, ap, arith}
use Rattle.std.specs.Prelude.{◌*ℤ◌, nat_lt, Bool, true, false}
use lib.IntN.{+ℤ_comm}
use Rattle.std.specs.Int.{cast_signed, w64}
use Rattle.std.proofs.Math.Nat.{add-mul-mod_self_right, mul-add, mul_comm}
use mir.Val.{hbits, sel}
use Rattle.rv_model.specs.elements.Formulas.{wrap}
use Rattle.rv_model.proofs.element_lemmas.Numbers.{left_of, mod_sum, wrap-add}

-- a product with a negative number equals, modulo 2 ^ 64, the product with the natural number that differs from it by 2 ^ 64
negative_product : (i n m : ℕ) → n + suc m ≡ 2 ^ 64 → wrap w64 (neg_ℤ (pos (i * suc m))) ≡ (i * n) % 2 ^ 64
negative_product i n m e = named (i * suc m) (sym (ap (λ x. i * x) e) ∙ mul-add i n (suc m))
  where
    named : (p : ℕ) → i * 2 ^ 64 ≡ i * n + p → wrap w64 (neg_ℤ (pos p)) ≡ (i * n) % 2 ^ 64
    named zero h =
        sym (add-mul-mod_self_right 0 i (2 ^ 64)) ∙ ap (λ x. x % 2 ^ 64) (omega (arith, h))
    named (suc p) h = left_of w64 p i (i * n) (sym h)

-- adding a multiple of a signed stride modulo 2 ^ 64 is adding that multiple of the natural number with the same bits
stride_address : (base i n : ℕ) → n < 2 ^ 64 → (base + i * n) % 2 ^ 64 ≡ wrap w64 (pos base +ℤ pos i *ℤ cast_signed w64 n)
stride_address base i n h = named (nat_lt n (2 ^ hbits w64)) refl
  where
    named : (b : Bool) → nat_lt n (2 ^ hbits w64) ≡ b → (base + i * n) % 2 ^ 64 ≡ wrap w64 (pos base +ℤ pos i *ℤ cast_signed w64 n)
    named true e = let positive : cast_signed w64 n ≡ pos n = ap (λ t. sel t (pos n) (negsuc (2 ^ 64 - suc n))) e in rw positive refl
    named false e =
        rw (ap (λ t. sel t (pos n) (negsuc (2 ^ 64 - suc n))) e)
        (let turned : base + i * n ≡ i * n + base = omega arith in
        ap (λ x. x % 2 ^ 64) turned ∙ sym (mod_sum (i * n) base (2 ^ 64)) ∙ ap (λ x. (x + base) % 2 ^ 64) (sym (negative_product i n (2 ^ 64 - suc n) (omega (arith, h))))
        ∙ wrap-add w64 (neg_ℤ (pos (i * suc (2 ^ 64 - suc n)))) base ∙ ap (wrap w64) (+ℤ_comm (neg_ℤ (pos (i * suc (2 ^ 64 - suc n)))) (pos base)))

-- the same if the product is reduced modulo 2 ^ 64
pub stride_sum : (base i n : ℕ) → n < 2 ^ 64 → (base + (n * i) % 2 ^ 64) % 2 ^ 64 ≡ wrap w64 (pos base +ℤ pos i *ℤ cast_signed w64 n)
stride_sum base i n h =
    ap (λ x. x % 2 ^ 64) (omega arith) ∙ mod_sum (n * i) base (2 ^ 64)
    ∙ ap (λ x. x % 2 ^ 64) (omega (arith, mul_comm n i)) ∙ stride_address base i n h
