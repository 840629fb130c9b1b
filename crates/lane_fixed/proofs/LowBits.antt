-- The bits of an integer, computed from its low 64 bits, and the increment of rounding.
use Rattle.std.proofs.Common.{◌≡◌, ℕ, zero, suc, ◌+◌, ◌-◌, ◌*◌, ◌/◌, ◌%◌, ◌^◌, ◌<◌, ◌≤◌, ℤ, pos, negsuc, ◌+ℤ◌, Bool, true, false, ◌&&◌, ◌||◌, not, eqb, nat_lt, refl, sym, subst, ap, ◌∙◌, arith, lit<, mod-eq_of_lt, w8, w64}
use Rattle.std.proofs.Math.Nat.{div-div-eq-div-mul, div-le_self, mod-lt, pow-suc, pow-succ'}
use Rattle.std.proofs.Math.Pow.{field, mod-mod-pow, mod-pow-add}
use Rattle.std.proofs.lemmas.Bool.Decides.{nat_tests}
use Rattle.std.proofs.lemmas.Int.{ints, to_z-of_z}
use Rattle.std.proofs.lemmas.Nat.{div-mul-add, pow-add, pow_pos}
use Rattle.std.specs.Int.{Width, cast_signed, cast_unsigned, from_bool, int_shr}
use Rattle.std.specs.Int.RustNames.{FitsSigned}
use Rattle.std.specs.Int.Signed.{mag}
use lib.Signed.{mag_shr}
use mir.Val.{hbits}
use Rattle.rv_model.specs.elements.FixedPoint.{has_bit, rounded, rounds_up}
use Rattle.rv_model.specs.elements.Formulas.{low_bits}
use Rattle.rv_model.specs.declared.vector.state.RoundingMode.{RoundingMode}
use Rattle.rv_model.specs.declared.vector.state.RoundingMode.TheVariants.{NearestUp, NearestEven, Down, Odd}
use Rattle.rv_model.proofs.element_lemmas.Numbers.{below_multiple}
use Rattle.lane_arith.proofs.MaskBits.{low_bit}

-- the top bit of the low bits of a negative number
top_left : (p b s : ℕ) → s < p → b < 2 → (2 * p - suc (b * p + s)) / p ≡ 2 - suc b
top_left p zero s h k =
    let e : 2 * p - suc (0 * p + s) ≡ 1 * p + (p - suc s) = omega (arith, h) in
    ap (λ x. x / p) e ∙ div-mul-add 1 p (p - suc s) (omega (arith, h))
top_left p (suc zero) s h k =
    let e : 2 * p - suc (1 * p + s) ≡ 0 * p + (p - suc s) = omega (arith, h) in
    ap (λ x. x / p) e ∙ div-mul-add 0 p (p - suc s) (omega (arith, h))
top_left p (suc (suc b)) s h k = absurd (omega (arith, k))

-- bit i is the top bit of the low 1 + i bits
bit_of : (i : ℕ) (v : ℤ) → low_bits 1 (int_shr v i) ≡ low_bits (1 + i) v / 2 ^ i
bit_of i (pos m) = sym (field m 1 i)
bit_of i (negsuc m) =
    sym (ap (λ x. (x - suc (m % 2 ^ (1 + i))) / 2 ^ i) (pow-add 2 1 i) ∙ ap (λ x. (2 * 2 ^ i - suc x) / 2 ^ i) (mod-pow-add m 1 i)
    ∙ top_left (2 ^ i) (m / 2 ^ i % 2) (m % 2 ^ i) (mod-lt m (pow_pos i)) (omega arith))

-- the low k bits of the low j + k bits
low_of_low : (j k : ℕ) (v : ℤ) → low_bits k (pos (low_bits (j + k) v)) ≡ low_bits k v
low_of_low j k (pos m) = mod-mod-pow m j k
low_of_low j k (negsuc m) =
    let swap : j + k ≡ k + j = omega arith in
    let whole : 2 ^ (j + k) ≡ 2 ^ k * 2 ^ j = ap (λ x. 2 ^ x) swap ∙ pow-add 2 k j in
    ap (λ x. (x - suc (m % 2 ^ (j + k))) % 2 ^ k) whole
    ∙ below_multiple (2 ^ k) (2 ^ j) (m % 2 ^ (j + k)) (pow_pos k) (rw (sym whole) (mod-lt m (pow_pos (j + k))))
    ∙ ap (λ x. 2 ^ k - suc x) (mod-mod-pow m j k)

low_same : (k : ℕ) (v : ℤ) → k ≤ 64 → low_bits k (pos (low_bits 64 v)) ≡ low_bits k v
low_same k v h =
    let parts : 64 ≡ 64 - k + k = omega (arith, h) in
    ap (λ x. low_bits k (pos (low_bits x v))) parts ∙ low_of_low (64 - k) k v

bit_same : (i : ℕ) (v : ℤ) → i < 64 → low_bits 1 (int_shr (pos (low_bits 64 v)) i) ≡ low_bits 1 (int_shr v i)
bit_same i v h = bit_of i (pos (low_bits 64 v)) ∙ ap (λ x. x / 2 ^ i) (low_same (1 + i) v (omega (arith, h))) ∙ sym (bit_of i v)

-- the increment of rounding depends on the low 64 bits only
rounds_same : (mode : RoundingMode) (d : ℕ) (v : ℤ) → d < 64 → rounds_up mode d (pos (low_bits 64 v)) ≡ rounds_up mode d v
rounds_same NearestUp d v h = ap (λ x. eqb x 1) (bit_same (d - 1) v (omega (arith, h)))
rounds_same NearestEven d v h =
    rw (bit_same (d - 1) v (omega (arith, h)), low_same (d - 1) v (omega (arith, h)), bit_same d v h) refl
rounds_same Down d v h = refl
rounds_same Odd d v h = rw (bit_same d v h, low_same d v (omega (arith, h))) refl

-- ---- numbers of 64 bits

some_bits : (e : ℕ) → nat_lt 0 (suc e) ≡ true
some_bits e = grind (arith, nat_tests)

not_none : (e : ℕ) → eqb (suc e) 0 ≡ false
not_none e = grind (arith, nat_tests)

one_less : (e : ℕ) → suc e - 1 ≡ e
one_less e = omega arith

-- the highest dropped bit
half : (e n : ℕ) → suc e < 64 → n * 2 % 2 ^ 64 / 2 ^ suc e % 2 ≡ n / 2 ^ e % 2
half e n h =
    let halved : n * 2 / 2 ≡ n = omega arith in
    low_bit (n * 2) 64 (suc e) h ∙ ap (λ x. n * 2 / x % 2) (pow-succ' 2 e)
    ∙ ap (λ x. x % 2) (sym (div-div-eq-div-mul (n * 2) 2 (2 ^ e))) ∙ ap (λ x. x / 2 ^ e % 2) halved

none_dropped : (n : ℕ) → n * 2 % 2 ^ 64 / 2 ^ 0 % 2 ≡ 0
none_dropped n = omega arith

pub half_bit : (d n : ℕ) → d < 64 → eqb (n * 2 % 2 ^ 64 / 2 ^ d % 2) 1 ≡ (nat_lt 0 d && has_bit (d - 1) (pos n))
half_bit zero n h = ap (λ x. eqb x 1) (none_dropped n)
half_bit (suc e) n h = rw (half e n h, some_bits e, one_less e) refl

-- whether any of the dropped bits below it is set
rest_bits : (e n : ℕ) → e < 63 → eqb (n * 2 % 2 ^ 64 % 2 ^ suc e) 0 ≡ eqb (n % 2 ^ e) 0
rest_bits e n h =
    let parts : 64 ≡ 63 - e + suc e = omega (arith, h) in
    let more : suc e ≡ e + 1 = omega arith in
    let halved : n * 2 / 2 ^ 1 ≡ n = omega arith in
    let even : n * 2 % 2 ^ 1 ≡ 0 = omega arith in
    ap (λ x. eqb x 0) (ap (λ x. n * 2 % 2 ^ x % 2 ^ suc e) parts ∙ mod-mod-pow (n * 2) (63 - e) (suc e) ∙ ap (λ x. n * 2 % 2 ^ x) more
    ∙ mod-pow-add (n * 2) e 1 ∙ ap (λ x. x % 2 ^ e * 2 ^ 1 + n * 2 % 2 ^ 1) halved ∙ ap (λ x. n % 2 ^ e * 2 ^ 1 + x) even) ∙ twice_is_zero (n % 2 ^ e)
  where
    twice_is_zero : (x : ℕ) → eqb (x * 2 ^ 1 + 0) 0 ≡ eqb x 0
    twice_is_zero x = grind (arith, nat_tests)

-- rounding to the nearest number, and to the even one if two are equally near
pub even_bits : (d n : ℕ) → d < 64
    → (eqb (n * 2 % 2 ^ 64 / 2 ^ d % 2) 1 && (not (eqb (n * 2 % 2 ^ 64 % 2 ^ d) 0) || eqb (n / 2 ^ d % 2) 1)) ≡ (nat_lt 0 d && rounds_up NearestEven d (pos n))
even_bits zero n h = ap (λ x. eqb x 1 && (not (eqb (n * 2 % 2 ^ 64 % 2 ^ 0) 0) || eqb (n / 2 ^ 0 % 2) 1)) (none_dropped n)
even_bits (suc e) n h = rw (half e n h, rest_bits e n (omega (arith, h)), some_bits e, one_less e) refl

-- ---- rounded results

above_one : (w : Width) → 1 < 2 ^ hbits w
above_one w8 = lit< tt
above_one _ = lit< tt

one_at_most : (b : Bool) → from_bool b ≤ 1
one_at_most true = omega arith
one_at_most false = omega arith

-- a number without at least one of its low bits is at most half of it
shifted_half : (k a : ℕ) → a / 2 ^ suc k ≤ a / 2
shifted_half k a =
    let e : a / 2 ^ suc k ≡ a / 2 ^ k / 2 = ap (λ x. a / x) (pow-suc 2 k) ∙ sym (div-div-eq-div-mul a (2 ^ k) 2) in
    omega (arith, e, div-le_self a (2 ^ k))

-- rounding adds nothing if no bit is dropped
nothing_added : (z : ℤ) (b : Bool) → int_shr z 0 +ℤ pos (from_bool (nat_lt 0 0 && b)) ≡ z
nothing_added (pos n) b = omega (arith, ints)
nothing_added (negsuc n) b = omega (arith, ints)

raised : (m x n : ℕ) → n ≤ 1 → x < m → mag (negsuc x +ℤ pos n) < m
raised m x zero one h = let e : negsuc x +ℤ pos 0 ≡ negsuc x = omega (arith, ints) in subst (λ z. mag z < m) (sym e) h
raised m zero (suc zero) one h = h
raised m (suc x) (suc zero) one h =
    let e : negsuc (suc x) +ℤ pos 1 ≡ negsuc x = omega (arith, ints) in
    let less : x < m = omega (arith, h) in
    subst (λ z. mag z < m) (sym e) less
raised m x (suc (suc n)) one h = absurd (omega (arith, one))

-- a rounded number fits in the width
sum_fits : (w : Width) (k : ℕ) (z : ℤ) (b : Bool) → FitsSigned w z → FitsSigned w (int_shr z k +ℤ pos (from_bool (nat_lt 0 k && b)))
sum_fits w zero z b fits = rw (nothing_added z b) fits
sum_fits w (suc k) (pos a) b fits = record { sfits = omega (arith, shifted_half k a, one_at_most (nat_lt 0 (suc k) && b), fits.sfits, above_one w) }
sum_fits w (suc k) (negsuc a) b fits =
    record {
      sfits = raised (2 ^ hbits w) (a / 2 ^ suc k) (from_bool (nat_lt 0 (suc k) && b)) (one_at_most (nat_lt 0 (suc k) && b))
          (omega (arith, div-le_self a (2 ^ suc k), fits.sfits));
    }

pub natural_sum_fits : (k n : ℕ) (b : Bool) → n < 2 ^ 64 → n / 2 ^ k + from_bool (nat_lt 0 k && b) < 2 ^ 64
natural_sum_fits zero n b h = omega (arith, h)
natural_sum_fits (suc k) n b h = omega (arith, h, shifted_half k n, one_at_most (nat_lt 0 (suc k) && b))

-- conversions to unsigned numbers and back preserve a number of the width
shown : (w : Width) (k : ℕ) (z : ℤ) (b : Bool) → FitsSigned w z
    → cast_signed w (cast_unsigned w (int_shr (cast_signed w (cast_unsigned w z)) k)) +ℤ cast_signed w (cast_unsigned w (pos (from_bool b)))
    ≡ int_shr z k +ℤ pos (from_bool b)
shown w k z b fits =
    let shifted : FitsSigned w (int_shr z k) = record { sfits = omega (arith, mag_shr z (2 ^ k), fits.sfits) } in
    let one : FitsSigned w (pos (from_bool b)) = record { sfits = omega (arith, one_at_most b, above_one w) } in
    rw (to_z-of_z w z fits, to_z-of_z w (int_shr z k) shifted, to_z-of_z w (pos (from_bool b)) one) refl

pub shown_sum_fits : (w : Width) (k : ℕ) (z : ℤ) (b : Bool) → FitsSigned w z
    → FitsSigned w (cast_signed w (cast_unsigned w (int_shr (cast_signed w (cast_unsigned w z)) k))
    +ℤ cast_signed w (cast_unsigned w (pos (from_bool (nat_lt 0 k && b)))))
shown_sum_fits w k z b fits = rw (shown w k z (nat_lt 0 k && b) fits) (sum_fits w k z b fits)

sum_is_rounded : (mode : RoundingMode) (d : ℕ) (v : ℤ) → int_shr v d +ℤ pos (from_bool (nat_lt 0 d && rounds_up mode d v)) ≡ rounded mode d v
sum_is_rounded mode zero v = nothing_added v (rounds_up mode 0 v)
sum_is_rounded mode (suc e) v = rw (some_bits e, not_none e) refl

pub natural_sum_is_rounded : (mode : RoundingMode) (d n : ℕ) → pos (n / 2 ^ d + from_bool (nat_lt 0 d && rounds_up mode d (pos n))) ≡ rounded mode d (pos n)
natural_sum_is_rounded mode d n = sum_is_rounded mode d (pos n)

pub shown_sum_is_rounded : (w : Width) (mode : RoundingMode) (d : ℕ) (v : ℤ) → d < 64 → FitsSigned w v
    → cast_signed w (cast_unsigned w (cast_signed w (cast_unsigned w (int_shr (cast_signed w (cast_unsigned w v)) d))
    +ℤ cast_signed w (cast_unsigned w (pos (from_bool (nat_lt 0 d && rounds_up mode d (pos (low_bits 64 v)))))))) ≡ rounded mode d v
shown_sum_is_rounded w mode d v few fits =
    rw (
      rounds_same mode d v few,
      shown w d v (nat_lt 0 d && rounds_up mode d v) fits,
      to_z-of_z w (int_shr v d +ℤ pos (from_bool (nat_lt 0 d && rounds_up mode d v))) (sum_fits w d v (rounds_up mode d v) fits),
    )
    (sum_is_rounded mode d v)

-- the low 64 bits of a signed number
pub all_bits : (z : ℤ) → mag z < 2 ^ 64 → cast_unsigned w64 z ≡ low_bits 64 z
all_bits (pos n) h = sym (mod-eq_of_lt h)
all_bits (negsuc n) h = ap (λ x. 2 ^ 64 - suc x) (sym (mod-eq_of_lt h))
