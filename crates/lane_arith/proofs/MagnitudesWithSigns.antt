-- Signed numbers as signs and magnitudes: quotients, remainders and their low bits.
use Rattle.std.proofs.Common.{ℕ, zero, suc, ◌+◌, ◌-◌, ◌/◌, ◌%◌, ◌^◌, ◌<◌, ◌≤◌, ◌≡◌, ℤ, pos, negsuc, neg_ℤ, false, not, refl, sym, ap, ◌∙◌, arith, w64}
use Rattle.std.proofs.Math.Facts.{sfits_to_z}
use Rattle.std.proofs.Math.Nat.{div-le_self}
use Rattle.std.proofs.lemmas.Int.{ints}
use Rattle.std.specs.Int.{Width, cast_signed, cast_unsigned}
use Rattle.std.specs.Int.RustNames.{int_div, int_lt, int_rem, unsigned_abs}
use Rattle.std.specs.Int.Signed.{mag, mag_rem}
use Rattle.std.specs.Prelude.{if◌then◌else◌}
use mathlib.Core.Bool.{beq}
use mir.Val.{bits, hbits}
use Rattle.rv_model.specs.elements.Formulas.{wrap}
use Rattle.rv_model.proofs.element_lemmas.Numbers.{half, half_positive, low_bits_of}

-- the low bits of a negative number: a 64-bit number n whose sum with the magnitude m is 0 modulo 2^64 has the low bits of -m
pub left_of_negated : (w : Width) → bits w ≤ 64 → (n m : ℕ) → n < 2 ^ 64 → m < 2 ^ 64 → (n + m) % 2 ^ 64 ≡ 0 → n % 2 ^ bits w ≡ wrap w (neg_ℤ (pos m))
left_of_negated w narrow n zero h k e = let is : n ≡ 0 = omega (arith, e, h) in ap (λ x. x % 2 ^ bits w) is
left_of_negated w narrow n (suc m) h k e =
    let is : n ≡ 2 ^ 64 - suc m = omega (arith, e, h, k) in
    ap (λ x. x % 2 ^ bits w) is ∙ low_bits_of w64 w narrow (negsuc m) (omega (arith, k))

not_negative : (a : ℕ) → int_lt (pos a) (pos 0) ≡ false
not_negative a = grind (arith, ints)

quotient_by_sign : (x y : ℤ) → (if not (beq (int_lt x (pos 0)) (int_lt y (pos 0))) then neg_ℤ (pos (unsigned_abs x / unsigned_abs y)) else pos (unsigned_abs x / unsigned_abs y)) ≡ int_div x y
quotient_by_sign (pos a) (pos b) = rw (not_negative a, not_negative b) refl
quotient_by_sign (pos a) (negsuc b) = rw (not_negative a) refl
quotient_by_sign (negsuc a) (pos b) = rw (not_negative b) refl
quotient_by_sign (negsuc a) (negsuc b) = refl

remainder_by_sign : (x y : ℤ) → (if int_lt x (pos 0) then neg_ℤ (pos (unsigned_abs x % unsigned_abs y)) else pos (unsigned_abs x % unsigned_abs y)) ≡ int_rem x y
remainder_by_sign (pos a) y = rw (not_negative a) refl
remainder_by_sign (negsuc a) y = refl

read_below : (w : Width) (n : ℕ) → n < 2 ^ bits w → mag (cast_signed w n) < 2 ^ hbits w
read_below w n h = (sfits_to_z {w = w} {n = n} (record { fits = h })).sfits

negated : (r c : ℕ) → r ≤ suc c → mag (neg_ℤ (pos r)) ≤ c
negated zero c h = omega arith
negated (suc r) c h = omega (arith, h)

-- the magnitude of a quotient is at most that of the dividend
quotient_below : (a d : ℤ) → mag (int_div a d) ≤ suc (mag a)
quotient_below (pos a) (pos b) = omega (arith, div-le_self a b)
quotient_below (pos a) (negsuc b) = negated (a / suc b) (suc a) (omega (arith, div-le_self a (suc b)))
quotient_below (negsuc a) (pos b) = negated (suc a / b) (suc a) (omega (arith, div-le_self (suc a) b))
quotient_below (negsuc a) (negsuc b) = div-le_self (suc a) (suc b)

-- the quotient and the remainder of numbers of width w
module _ (w : Width) (a b : ℕ) (h : a < 2 ^ bits w) where
  pub left_quotient : wrap w (if not (beq (int_lt (cast_signed w a) (pos 0)) (int_lt (cast_signed w b) (pos 0)))
      then neg_ℤ (pos (unsigned_abs (cast_signed w a) / unsigned_abs (cast_signed w b))) else pos (unsigned_abs (cast_signed w a) / unsigned_abs (cast_signed w b)))
      ≡ cast_unsigned w (int_div (cast_signed w a) (cast_signed w b)) % 2 ^ bits w
  left_quotient =
      ap (wrap w) (quotient_by_sign (cast_signed w a) (cast_signed w b)) ∙ sym (low_bits_of w w (omega arith) (int_div (cast_signed w a) (cast_signed w b))
      (omega (arith, quotient_below (cast_signed w a) (cast_signed w b), read_below w a h, half w, half_positive w)))

  pub left_remainder : wrap w (if int_lt (cast_signed w a) (pos 0)
      then neg_ℤ (pos (unsigned_abs (cast_signed w a) % unsigned_abs (cast_signed w b))) else pos (unsigned_abs (cast_signed w a) % unsigned_abs (cast_signed w b)))
      ≡ cast_unsigned w (int_rem (cast_signed w a) (cast_signed w b)) % 2 ^ bits w
  left_remainder =
      ap (wrap w) (remainder_by_sign (cast_signed w a) (cast_signed w b)) ∙ sym (low_bits_of w w (omega arith) (int_rem (cast_signed w a) (cast_signed w b))
      (omega (arith, mag_rem (cast_signed w a) (cast_signed w b), read_below w a h, half w, half_positive w)))
