-- Operations on signed numbers as operations on unsigned numbers whose top bit is inverted.
use Rattle.std.proofs.Common.{◌≡◌, ℕ, suc, ◌+◌, ◌-◌, ◌*◌, ◌/◌, ◌%◌, ◌^◌, ◌<◌, pos, negsuc, ◌-ℤ◌, refl, sym, ap, ◌∙◌, arith, inl, inr, mod-eq_of_lt, w8}
use Rattle.std.proofs.lemmas.Bool.{cases_lt}
use Rattle.std.proofs.lemmas.Int.{ints}
use Rattle.std.proofs.lemmas.Nat.{div-mul-add, pow-add, pow_pos}
use Rattle.std.proofs.Math.Nat.{add-mod_right, add-mul-div_left, div-add-mod, div-lt_iff_lt-mul, mod-lt, mul-add, mul-div_cancel_left, mul-suc, mul_comm}
use Rattle.std.specs.Int.{Width, cast_signed, int_shr}
use mir.Val.{bits, hbits}
use Rattle.rv_model.specs.elements.Formulas.{wrap}

double : (w : Width) → 2 ^ bits w ≡ 2 ^ hbits w + 2 ^ hbits w
double w8 = refl
double _ = refl

one_more : (w : Width) → bits w ≡ suc (hbits w)
one_more w8 = refl
one_more _ = refl

positive : (w : Width) (x : ℕ) → x < 2 ^ hbits w → cast_signed w x ≡ pos x
positive w8 x h = grind (arith, ints)
positive _ x h = grind (arith, ints)

negative : (w : Width) (x : ℕ) → x < 2 ^ hbits w → cast_signed w (2 ^ hbits w + x) ≡ negsuc (2 ^ hbits w - suc x)
negative w8 x h = grind (arith, ints)
negative _ x h = grind (arith, ints)

-- the quotient of a multiple of q less a smaller number
divided_down : (q m x : ℕ) → 0 < q → x < q * m → (q * m - suc x) / q ≡ m - suc (x / q)
divided_down q m x some h =
    let u : ℕ = x / q in
    let r : ℕ = x % q in
    let small : r < q = mod-lt x some in
    let less : u < m = (div-lt_iff_lt-mul some).1 (rw (mul_comm m q) h) in
    let k : ℕ = m - suc u in
    let parts : m ≡ suc u + k = omega (arith, less) in
    let up : q * m ≡ q * suc u + q * k = ap (λ y. q * y) parts ∙ mul-add q (suc u) k in
    let split : q * m - suc x ≡ k * q + (q - suc r) = omega (arith, up, mul-suc q u, div-add-mod x q, small, mul_comm k q) in
    ap (λ y. y / q) split ∙ div-mul-add k q (q - suc r) (omega (arith, small))

-- an arithmetic right shift is a shift of the number with its top bit inverted, less the shifted top bit
pub shifted_with_sign : (w : Width) (a b : ℕ) → a < 2 ^ bits w
    → wrap w (pos ((a + 2 ^ hbits w) % 2 ^ bits w / 2 ^ (b % bits w)) -ℤ pos (2 ^ hbits w / 2 ^ (b % bits w))) ≡ wrap w (int_shr (cast_signed w a) (b % bits w))
shifted_with_sign w a b h =
    let s : ℕ = b % bits w in
    let fits : s < bits w = mod-lt b (omega (arith, one_more w)) in
    let q : ℕ = 2 ^ s in
    let m : ℕ = 2 ^ (hbits w - s) in
    let some : 0 < q = pow_pos s in
    let t : ℕ = 2 ^ hbits w in
    let parts : hbits w ≡ s + (hbits w - s) = omega (arith, fits, one_more w) in
    let whole : t ≡ q * m = ap (λ x. 2 ^ x) parts ∙ pow-add 2 s (hbits w - s) in
    let bit : t / q ≡ m = ap (λ x. x / q) whole ∙ mul-div_cancel_left m some in
    elim (cases_lt a t) [
      | inl low ↦
          let sum : (a + t) % 2 ^ bits w ≡ a + t = mod-eq_of_lt (omega (arith, double w, low)) in
          let up : (a + t) / q ≡ a / q + m = ap (λ x. (a + x) / q) whole ∙ add-mul-div_left a m some in
          let gone : pos (a / q + m) -ℤ pos m ≡ pos (a / q) = omega (arith, ints) in
          rw (sum, up, bit, gone, positive w a low) refl
      | inr high ↦
          let x : ℕ = a - t in
          let is : a ≡ t + x = omega (arith, high) in
          let small : x < t = omega (arith, double w, high, h) in
          let sum : (a + t) % 2 ^ bits w ≡ x =
          ap (λ y. y % 2 ^ bits w) (let e : a + t ≡ x + 2 ^ bits w = omega (arith, double w, high) in e) ∙ add-mod_right x (2 ^ bits w) ∙ mod-eq_of_lt (omega (arith, double w, small)) in
          let less : x / q < m = (div-lt_iff_lt-mul some).1 (rw (mul_comm m q) (rw (sym whole) small)) in
          let gone : pos (x / q) -ℤ pos m ≡ negsuc (m - suc (x / q)) = omega (arith, ints, less) in
          let down : (t - suc x) / q ≡ m - suc (x / q) = ap (λ y. (y - suc x) / q) whole ∙ divided_down q m x some (rw (sym whole) small) in
          let value : cast_signed w a ≡ negsuc (t - suc x) = ap (cast_signed w) is ∙ negative w x small in
          rw (sum, bit, gone, value, down) refl
    ]
