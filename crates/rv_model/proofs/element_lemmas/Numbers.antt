-- Integers modulo a power of 2, computed in a wider type.
use Rattle.std.proofs.Common.{ℕ, suc, ◌+◌, ◌-◌, ◌*◌, ◌/◌, ◌%◌, ◌^◌, ◌<◌, ◌≤◌, ◌≡◌, ℤ, pos, negsuc, ◌+ℤ◌, refl, sym, ap, ◌∙◌, arith, mod-eq_of_lt, Bool, cond}
use Rattle.std.specs.Int.{Width, cast_signed, cast_unsigned, w8, w64, w128}
use Rattle.std.specs.Int.Signed.{mag}
use Rattle.std.proofs.Math.Nat.{add-mod, add-mul-mod_self_right, div-add-mod, div-lt_iff_lt-mul, mod-lt, mod-mod, mul-add, mul-add-mod_self_left, mul_comm, mul-le-mul_left, mul-suc}
use Rattle.std.proofs.lemmas.Nat.{pow-add}
use Rattle.std.proofs.lemmas.Int.{ints}
use Rattle.std.proofs.lemmas.Bool.{cases_lt}
use mir.Val.{bits, hbits}
use Rattle.rv_model.specs.declared.vector.types.Sew.{Sew}
use Rattle.rv_model.specs.elements.Formulas.{wrap}
use Rattle.rv_model.specs.instructions.Immediates.{sign_extended}
use Rattle.rv_model.specs.vector.Groups.{sew_bits, sew_width}
use Rattle.rv_model.proofs.element_lemmas.Widths.{power_positive}

-- the remainder of a number counted down from a multiple
pub below_multiple : (m q n : ℕ) → 0 < m → n < m * q → (m * q - suc n) % m ≡ m - suc (n % m)
below_multiple m q n p h =
    let less : (n / m) < q = (div-lt_iff_lt-mul p).1 (rw (mul_comm q m) h) in
    let up : m * q ≡ m * suc (n / m) + m * (q - suc (n / m)) = ap (λ x. m * x) (omega (arith, less)) ∙ mul-add m (suc (n / m)) (q - suc (n / m)) in
    let split : m * q - suc n ≡ m * (q - suc (n / m)) + (m - suc (n % m)) = omega (arith, up, mul-suc m (n / m), div-add-mod n m, mod-lt n p) in
    ap (λ x. x % m) split ∙ mul-add-mod_self_left m (q - suc (n / m)) (m - suc (n % m)) ∙ mod-eq_of_lt (omega (arith, mod-lt n p))

-- the low bits of a signed number in a wider type are its remainder modulo the power of 2
pub low_bits_of : (v w : Width) → bits w ≤ bits v → (z : ℤ) → mag z < 2 ^ bits v → cast_unsigned v z % 2 ^ bits w ≡ wrap w z
low_bits_of v w narrow z h = search (arith, below_multiple, pow-add, power_positive)

-- ---- a signed number in 64 bits

-- a number below `whole`, read as unsigned or in two's complement
extended : (n whole : ℕ) → n < whole → whole ≤ 2 ^ 64 → (b : Bool) → wrap w64 (cond b (pos n) (negsuc (whole - suc n))) ≡ cond b n (n + (2 ^ 64 - whole))
extended n whole h most b = search arith

-- the value of an element, sign-extended to the 64 bits of a scalar register
pub extends_sign : (s : Sew) (n : ℕ) → n < 2 ^ sew_bits s → wrap w64 (cast_signed (sew_width s) n) ≡ sign_extended (sew_bits s) n
extends_sign s n h = search (arith, extended)

-- ---- the two halves of the numbers of a width

-- the number of values is twice the number of nonnegative values
pub half : (w : Width) → 2 ^ hbits w + 2 ^ hbits w ≡ 2 ^ bits w
half w8 = refl
half _ = refl

pub half_positive : (w : Width) → 0 < 2 ^ hbits w
half_positive w = omega (arith, half w, power_positive w)

-- ---- numbers of 128 bits

narrowed : (w : Width) → bits w ≤ 64 → (x : ℕ) → x % 2 ^ 64 % 2 ^ bits w ≡ x % 2 ^ bits w
narrowed w128 h x = absurd (omega (arith, h))
narrowed _ h x = omega arith

-- the low bits of the low half of a signed number are its remainder modulo the power of 2
pub low_bits_of_half : (w : Width) → bits w ≤ 64 → (z : ℤ) → mag z < 2 ^ 127 → cast_unsigned w128 z % 2 ^ 64 % 2 ^ bits w ≡ wrap w z
low_bits_of_half w narrow z h = search (arith, low_bits_of)

-- ---- sums with a remainder

-- a negative number has the same remainder as any natural number that differs from it by a multiple of the modulus
pub left_of : (w : Width) (n k m : ℕ) → m + suc n ≡ k * 2 ^ bits w → wrap w (negsuc n) ≡ m % 2 ^ bits w
left_of w n k m e = search (arith, below_multiple, mul_comm, power_positive)

pub mod_sum : (n d p : ℕ) → (n % p + d) % p ≡ (n + d) % p
mod_sum n d p = add-mod (n % p) d p ∙ ap (λ x. (x + d % p) % p) (mod-mod n p) ∙ sym (add-mod n d p)

-- the sum of a remainder and a natural number
pub wrap-add : (w : Width) (z : ℤ) (d : ℕ) → (wrap w z + d) % 2 ^ bits w ≡ wrap w (z +ℤ pos d)
wrap-add w z d = search (arith, add-mul-mod_self_right, cases_lt, ints, left_of, mod_sum, mul-le-mul_left, power_positive)
