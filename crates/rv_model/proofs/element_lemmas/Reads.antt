-- Elements of copies of groups, and of lists that repeat one number.
use Rattle.std.proofs.Common.{ℕ, zero, suc, ◌+◌, ◌-◌, ◌*◌, ◌%◌, ◌^◌, ◌≤◌, ◌≡◌, List, take, drop, refl, sym, ap, ◌∙◌, arith}
use Rattle.std.proofs.lemmas.List.{drop-take, take-take}
use Rattle.std.proofs.Math.Nat.{mod-lt, pow-suc}
use Rattle.std.proofs.lemmas.Nat.{pow-add}
use lib.Lanes.{number_l}
use Rattle.std.specs.Int.{Width}
use Rattle.std.proofs.lemmas.Bool.Decides.{nat_tests}
use mir.Val.{bits}
use Rattle.rv_model.specs.elements.Elements.{element}
use Rattle.rv_model.specs.vector.Groups.{width_bytes}
use Rattle.rv_model.proofs.element_lemmas.Widths.{whole_bytes}
use Rattle.rv_model.proofs.element_lemmas.Writes.{positive_power}

-- an element in the first n bytes
pub element-take : (k n i : ℕ) (xs : List ℕ) → k * i + k ≤ n → element k (take n xs) i ≡ element k xs i
element-take k n i xs h =
    let cut : drop (k * i) (take n xs) ≡ take (n - k * i) (drop (k * i) xs) = ap (λ m. drop (k * i) (take m xs)) (omega arith) ∙ drop-take (k * i) (n - k * i) xs in
    ap (λ ys. number_l 256 (take k ys)) cut ∙ ap (number_l 256) (take-take k (n - k * i) (drop (k * i) xs) (omega arith))

-- the number of values of k bytes
pub bytes_power : (k : ℕ) → 2 ^ (8 * k) ≡ 256 ^ k
bytes_power zero = refl
bytes_power (suc k) =
    ap (λ n. 2 ^ n) (omega arith) ∙ pow-add 2 (8 * k) 8 ∙ ap (λ x. x * 256) (bytes_power k) ∙ sym (pow-suc 256 k)

-- a number with the bits of a width fits in the bytes of the width
pub low_bits_fit : (x : ℕ) (w : Width) → x % 2 ^ bits w % 256 ^ width_bytes w ≡ x % 2 ^ bits w
low_bits_fit x w = search (arith, nat_tests, bytes_power, mod-lt, positive_power, whole_bytes)
