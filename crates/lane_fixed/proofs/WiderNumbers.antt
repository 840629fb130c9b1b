-- Integers that need one bit more than a width: sums and differences, their halves, and saturation.
use Rattle.std.proofs.Common.{◌≡◌, ℕ, ◌+◌, ◌/◌, ◌%◌, ◌^◌, ◌<◌, ◌≤◌, ℤ, ◌+ℤ◌, ◌-ℤ◌, ◌*ℤ◌, lit<, ap, arith, true, not, eqb, nat_le, w8, w64}
use Rattle.std.proofs.Math.Nat.{zero-div}
use Rattle.std.proofs.lemmas.Bool.Decides.{nat_tests}
use Rattle.std.proofs.lemmas.Int.{fits_signed_mul, ints}
use Rattle.std.specs.Int.RustNames.{FitsSigned, unsigned_abs}
use Rattle.std.specs.Int.{Width, cast_signed, w128}
use Rattle.std.specs.Int.Signed.{mag}
use Rattle.std.specs.Ordering.{int_eq}
use mir.Val.{bits, hbits}
use Rattle.rv_model.specs.elements.Formulas.{wrap}
use Rattle.rv_model.specs.elements.FixedPoint.{has_bit}

-- ---- sums of signed numbers

-- the low bits of the sum
pub signed_sum_low : (w : Width) (a b : ℕ) → a < 2 ^ bits w → b < 2 ^ bits w → (a + b) % 2 ^ bits w ≡ wrap w (cast_signed w a +ℤ cast_signed w b)
signed_sum_low w8 a b h k = grind (arith, ints)
signed_sum_low _ a b h k = grind (arith, ints)

-- the bit above the low bits
pub signed_sum_above : (w : Width) (a b : ℕ) → a < 2 ^ bits w → b < 2 ^ bits w
    → nat_le ((a + 2 ^ hbits w) % 2 ^ bits w) ((a + b) % 2 ^ bits w) ≡ has_bit (bits w) (cast_signed w a +ℤ cast_signed w b)
signed_sum_above w8 a b h k = grind (arith, ints, nat_tests)
signed_sum_above _ a b h k = grind (arith, ints, nat_tests)

-- ---- saturation

-- sums and differences of signed numbers need at most one bit more than the width
pub small_signed_sum : (w : Width) (a b : ℕ) → a < 2 ^ bits w → b < 2 ^ bits w → mag (cast_signed w a +ℤ cast_signed w b) < 2 ^ bits w
small_signed_sum w8 a b h k = grind (arith, ints)
small_signed_sum _ a b h k = grind (arith, ints)

pub small_signed_difference : (w : Width) (a b : ℕ) → a < 2 ^ bits w → b < 2 ^ bits w → mag (cast_signed w a -ℤ cast_signed w b) < 2 ^ bits w
small_signed_difference w8 a b h k = grind (arith, ints)
small_signed_difference _ a b h k = grind (arith, ints)

-- a number equals itself
pub is_itself : (v : ℤ) → true ≡ not (not (int_eq v v))
is_itself v = grind (arith, ints)

-- no bit of 0 is set
pub clear_bit : (i : ℕ) → eqb (0 / 2 ^ i % 2) 0 ≡ true
clear_bit i = ap (λ x. eqb (x % 2) 0) (zero-div (2 ^ i))

-- ---- products

signed_below : (w : Width) → bits w < 64 → (a : ℕ) → a < 2 ^ bits w → unsigned_abs (cast_signed w a) ≤ 2 ^ 31
signed_below w64 narrow a h = absurd (omega (arith, narrow))
signed_below w128 narrow a h = absurd (omega (arith, narrow))
signed_below _ narrow a h = grind (arith, ints)

-- a product of numbers of at most 32 bits needs at most 64 bits
pub product_fits : (w : Width) → bits w < 64 → (a b : ℕ) → a < 2 ^ bits w → b < 2 ^ bits w → FitsSigned w64 (cast_signed w a *ℤ cast_signed w b)
product_fits w narrow a b h k =
    fits_signed_mul w64 (cast_signed w a) (cast_signed w b) (2 ^ 31) (2 ^ 31) (signed_below w narrow a h) (signed_below w narrow b k) (lit< tt)
