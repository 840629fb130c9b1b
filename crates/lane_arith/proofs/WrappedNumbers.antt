-- Sums and differences with numbers that are known modulo 2 to a width.
use Rattle.std.proofs.Common.{◌≡◌, ℕ, suc, ◌+◌, ◌-◌, ◌*◌, ◌/◌, ◌%◌, ◌^◌, ◌<◌, ◌≤◌, pos, negsuc, ◌-ℤ◌, sym, ap, ◌∙◌, arith, inl, inr}
use Rattle.std.proofs.lemmas.Bool.{cases_lt}
use Rattle.std.proofs.lemmas.Int.{ints}
use Rattle.std.proofs.lemmas.Nat.{div-add-mod'}
use Rattle.std.proofs.Math.Nat.{add-mul-mod_self_right, mod-lt, suc-mul}
use Rattle.std.specs.Int.{Width}
use mir.Val.{bits}
use Rattle.rv_model.specs.elements.Formulas.{wrap}
use Rattle.rv_model.proofs.element_lemmas.Numbers.{left_of}
use Rattle.rv_model.proofs.element_lemmas.Widths.{power_positive}

-- a difference to which k multiples of 2 to the width are added, so that it is a natural number
wrapped_difference : (w : Width) (a x k : ℕ) → x ≤ a + k * 2 ^ bits w → wrap w (pos a -ℤ pos x) ≡ (a + k * 2 ^ bits w - x) % 2 ^ bits w
wrapped_difference w a x k h =
    let p : ℕ = 2 ^ bits w in
    elim (cases_lt a x) [
      | inl less ↦
          let is : pos a -ℤ pos x ≡ negsuc (x - suc a) = omega (arith, ints, less) in
          ap (wrap w) is ∙ left_of w (x - suc a) k (a + k * p - x) (omega (arith, less, h))
      | inr more ↦
          let is : pos a -ℤ pos x ≡ pos (a - x) = omega (arith, ints, more) in
          let parts : a + k * p - x ≡ a - x + k * p = omega (arith, more) in
          ap (wrap w) is ∙ sym (ap (λ y. y % p) parts ∙ add-mul-mod_self_right (a - x) k p)
    ]

-- the subtrahend may be reduced modulo 2 to the width
pub wrap-sub : (w : Width) (a n : ℕ) → wrap w (pos a -ℤ pos (n % 2 ^ bits w)) ≡ wrap w (pos a -ℤ pos n)
wrap-sub w a n =
    let p : ℕ = 2 ^ bits w in
    let q : ℕ = n / p in
    let small : n % p < p = mod-lt n (power_positive w) in
    let whole : q * p + n % p ≡ n = div-add-mod' n p in
    let one : 1 * p ≡ p = omega arith in
    let more : suc q * p ≡ q * p + p = omega (arith, suc-mul q p) in
    wrapped_difference w a (n % p) 1 (omega (arith, small, one))
    ∙ ap (λ y. y % p) (let e : a + 1 * p - n % p ≡ a + suc q * p - n = omega (arith, small, whole, one, more) in e)
    ∙ sym (wrapped_difference w a n (suc q) (omega (arith, small, whole, more)))
