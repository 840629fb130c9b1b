-- Sign extension by two shifts: left until the sign is the top bit, then right with copies of that bit.
use Rattle.std.proofs.Common.{◌≡◌, ℕ, suc, ◌+◌, ◌-◌, ◌*◌, ◌/◌, ◌%◌, ◌^◌, ◌<◌, ◌≤◌, pos, negsuc, sym, ap, ◌∙◌, arith, inl, inr, mod-eq_of_lt, le-ltb, lt-ltb, w64}
use Rattle.std.proofs.lemmas.Bool.{cases_lt}
use Rattle.std.proofs.lemmas.Int.{ints}
use Rattle.std.proofs.lemmas.Nat.{div-mul-add, pow-add, pow_pos}
use Rattle.std.proofs.Math.Nat.{div-le_self, mul-add, mul-suc, mul-div_cancel, mul_comm, mul-lt-mul_of_pos_right}
use Rattle.std.specs.Int.{cast_signed, cast_unsigned}
use Rattle.std.specs.Int.Signed.{shr_z}
use Rattle.rv_model.specs.instructions.Immediates.{sign_extended}

positive : (x : ℕ) → x < 2 ^ 63 → cast_signed w64 x ≡ pos x
positive x h = grind (arith, ints)

negative : (x : ℕ) → x < 2 ^ 63 → cast_signed w64 (2 ^ 63 + x) ≡ negsuc (2 ^ 63 - suc x)
negative x h = grind (arith, ints)

-- the arithmetic right shift of a 64-bit word that divides its signed value by q, a power of two
abbrev pub down : ℕ → ℕ → ℕ
down q x = cast_unsigned w64 (shr_z (cast_signed w64 x) q)

-- the quotient of t * q - (x * q + 1) by q: t - (x + 1)
divided_down : (q t x : ℕ) → 0 < q → x < t → (t * q - suc (x * q)) / q ≡ t - suc x
divided_down q t x some h =
    let k : ℕ = t - suc x in
    let parts : t ≡ suc x + k = omega (arith, h) in
    let times : q * t ≡ q * suc x + q * k = ap (λ y. q * y) parts ∙ mul-add q (suc x) k in
    let split : t * q - suc (x * q) ≡ k * q + (q - 1) = omega (arith, times, mul-suc q x, mul_comm t q, mul_comm x q, mul_comm k q, some) in
    ap (λ y. y / q) split ∙ div-mul-add k q (q - 1) (omega (arith, some))

module _ (q t v : ℕ) (some : 0 < q) (whole : t * q ≡ 2 ^ 63) where
  low : v < t → down q (v * q % 2 ^ 64) ≡ v
  low below =
      let small : v * q < 2 ^ 63 = omega (arith, mul-lt-mul_of_pos_right below some, whole) in
      let kept : v * q % 2 ^ 64 ≡ v * q = mod-eq_of_lt (omega (arith, small)) in
      ap (λ z. cast_unsigned w64 (shr_z z q)) (ap (cast_signed w64) kept ∙ positive (v * q) small) ∙ mul-div_cancel v some

  high : t ≤ v → v < 2 * t → down q (v * q % 2 ^ 64) ≡ v + (2 ^ 64 - 2 * t)
  high above fits =
      let x : ℕ = v - t in
      let under : x < t = omega (arith, above, fits) in
      let sum : q * v ≡ q * t + q * x = ap (λ y. q * y) (omega (arith, above)) ∙ mul-add q t x in
      let small : x * q < 2 ^ 63 = omega (arith, mul-lt-mul_of_pos_right under some, whole) in
      let up : v * q ≡ 2 ^ 63 + x * q = omega (arith, sum, whole, mul_comm v q, mul_comm t q, mul_comm x q) in
      let kept : v * q % 2 ^ 64 ≡ v * q = mod-eq_of_lt (omega (arith, small, up)) in
      let signed : cast_signed w64 (v * q % 2 ^ 64) ≡ negsuc (t * q - suc (x * q)) =
      ap (cast_signed w64) (kept ∙ up) ∙ negative (x * q) small ∙ ap (λ y. negsuc (y - suc (x * q))) (sym whole) in
      ap (λ z. cast_unsigned w64 (shr_z z q)) signed ∙ ap (λ y. cast_unsigned w64 (negsuc y)) (divided_down q t x some under) ∙ omega (arith, above, fits, whole, div-le_self (t * q) q, mul-div_cancel t some)

pub by_shifts : (b v : ℕ) → 1 ≤ b → b ≤ 63 → v < 2 ^ b → down (2 ^ (64 - b)) (v * 2 ^ (64 - b) % 2 ^ 64) ≡ sign_extended b v
by_shifts b v least most fits =
    let some : 0 < 2 ^ (64 - b) = pow_pos (64 - b) in
    let whole : 2 ^ (b - 1) * 2 ^ (64 - b) ≡ 2 ^ 63 = sym (pow-add 2 (b - 1) (64 - b)) ∙ ap (λ k. 2 ^ k) {x = b - 1 + (64 - b)} {y = 63} (omega (arith, least, most)) in
    let double : 2 ^ b ≡ 2 * 2 ^ (b - 1) = ap (λ k. 2 ^ k) {x = b} {y = 1 + (b - 1)} (omega (arith, least)) ∙ pow-add 2 1 (b - 1) in
    elim (cases_lt v (2 ^ (b - 1))) [
      | inl below ↦ rw (lt-ltb v (2 ^ (b - 1)) below) (low (2 ^ (64 - b)) (2 ^ (b - 1)) v some whole below)
      | inr above ↦ rw (le-ltb v (2 ^ (b - 1)) above) (high (2 ^ (64 - b)) (2 ^ (b - 1)) v some whole above (omega (arith, fits, double)) ∙ ap (λ y. v + (2 ^ 64 - y)) (sym double))
    ]
