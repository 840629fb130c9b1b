-- Segments at a constant distance.
use Rattle.std.proofs.Common.{◌≡◌, ℕ, ◌+◌, ◌*◌, ◌<◌, ◌%◌, ◌^◌, pos, ◌+ℤ◌, sym, ◌∙◌, ap, arith}
use Rattle.std.specs.Int.{cast_signed, w64}
use Rattle.std.specs.Prelude.{◌*ℤ◌}
use Rattle.std.proofs.Math.Nat.{add-mul, mul_comm}
use Rattle.std.proofs.Math.Path.{fun_ext}
use Rattle.rv_model.specs.elements.Formulas.{wrap}
use Rattle.rv_model.proofs.access_lemmas.Addresses.{stride_sum}
use Rattle.rv_model.proofs.element_lemmas.Numbers.{mod_sum}

-- the address of the segment k indices after i
pub steps : (base size i k : ℕ) → (base + (i + k) * size) % 2 ^ 64 ≡ ((base + i * size) % 2 ^ 64 + k * size) % 2 ^ 64
steps base size i k =
    let parts : base + (i + k) * size ≡ (base + i * size) + k * size = omega (arith, add-mul i k size) in
    ap (λ x. x % 2 ^ 64) parts ∙ sym (mod_sum (base + i * size) (k * size) (2 ^ 64))

-- a signed stride gives the same address as the unsigned number with the same bits
pub stride : (base n i : ℕ) → n < 2 ^ 64 → (base + i * n) % 2 ^ 64 ≡ wrap w64 (pos base +ℤ pos i *ℤ cast_signed w64 n)
stride base n i h =
    let straight : base + i * n ≡ n * i + base = omega (arith, mul_comm n i) in
    let turned : (n * i) % 2 ^ 64 + base ≡ base + (n * i) % 2 ^ 64 = omega arith in
    ap (λ x. x % 2 ^ 64) straight ∙ sym (mod_sum (n * i) base (2 ^ 64)) ∙ ap (λ x. x % 2 ^ 64) turned ∙ stride_sum base i n h

pub strides : (base n : ℕ) → n < 2 ^ 64
    → ◌≡◌ {A = ℕ → ℕ} (λ i. (base + i * n) % 2 ^ 64) (λ i. wrap w64 (pos base +ℤ pos i *ℤ cast_signed w64 n))
strides base n h = fun_ext (λ i. stride base n i h)
