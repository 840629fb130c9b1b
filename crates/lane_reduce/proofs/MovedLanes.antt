-- Elements of a vector, read from its bytes.
use Rattle.std.proofs.Common.{ℕ, zero, suc, ◌+◌, ◌*◌, ◌/◌, ◌%◌, ◌^◌, ◌<◌, ◌≤◌, ◌≡◌, List, [], ◌∷◌, length, drop, get_or, refl, sym, ap, ◌∙◌, arith}
use Rattle.std.proofs.Math.Nat.{div-div-eq-div-mul, div-one, mul-div_cancel, pow-suc, pow-succ', mul-le-mul_left, mul-add, mul-suc, pow-le-pow_right}
use Rattle.std.proofs.lemmas.List.{length-take}
use Rattle.std.proofs.lemmas.Nat.{pow_pos}
use Rattle.std.proofs.lemmas.Simd.{below_from_Fits, chunk-fits, get_or-chunk, get_or-put_chunk_at, length-chunk, length-put_chunk}
use Rattle.std.specs.Int.{Width, byte_at, w8, w16, w32, w64, w128}
use lib.Lanes.{Each1, number_l, chunk, put_chunk}
use mir.Val.{Fits, bits}
use Rattle.rv_model.specs.elements.Elements.{element}
use Rattle.rv_model.specs.vector.Groups.{width_bytes}
use Rattle.rv_model.proofs.element_lemmas.Reads.{bytes_power}
use Rattle.rv_model.proofs.element_lemmas.Widths.{whole_bytes}
use Rattle.rv_model.proofs.element_lemmas.Writes.{byte_at-is}
use Rattle.lane_arith.proofs.ChunkWrites.{chunk_of_chunk}
use Rattle.lane_arith.proofs.MaskBits.{count_positive}

-- 2 to a width is 256 to its number of bytes
pub bytes_of_width : (w : Width) → 2 ^ bits w ≡ 256 ^ width_bytes w
bytes_of_width w = ap (λ n. 2 ^ n) (whole_bytes w) ∙ bytes_power (width_bytes w)

number_below : (ys : List ℕ) → Each1 (λ y. y < 256) ys → number_l 256 ys < 256 ^ length ys
number_below [] few = let one : 256 ^ 0 ≡ 1 = refl in omega (arith, one)
number_below (y ∷ ys) few =
    let low : y < 256 = few.0 in
    let up : 256 * suc (number_l 256 ys) ≤ 256 * 256 ^ length ys = mul-le-mul_left 256 (number_below ys few.1) in
    omega (arith, low, up, pow-succ' 256 (length ys))

-- an element of a list of bytes is below 2 to the width
pub element_below : (w : Width) (xs : List ℕ) (i : ℕ) → ((j : ℕ) → Fits w8 (get_or xs j 0)) → element (width_bytes w) xs i < 2 ^ bits w
element_below w xs i fits =
    let k : ℕ = width_bytes w in
    let ys : List ℕ = chunk (k * i) k xs in
    let below : number_l 256 ys < 256 ^ length ys = number_below ys (below_from_Fits w8 ys (chunk-fits w8 (k * i) k xs fits)) in
    let short : length ys ≤ k = omega (arith, length-take k (drop (k * i) xs)) in
    let most : 256 ^ length ys ≤ 256 ^ k = pow-le-pow_right (omega arith) short in
    rw (bytes_of_width w) (omega (arith, below, most))

-- the number that a list of bytes represents
number_is : (ys : List ℕ) (v : ℕ) → v < 256 ^ length ys → ((m : ℕ) → m < length ys → get_or ys m 0 ≡ byte_at m v) → number_l 256 ys ≡ v
number_is [] v small bytes = let one : 256 ^ 0 ≡ 1 = refl in omega (arith, one, small)
number_is (y ∷ ys) v small bytes =
    let low : y ≡ v % 256 = bytes 0 (omega arith) ∙ byte_at-is 0 v ∙ ap (λ x. x % 256) (div-one v) in
    let rest : number_l 256 ys ≡ v / 256 = number_is ys (v / 256) (omega (arith, small, pow-succ' 256 (length ys))) (λ m h.
    bytes (suc m) (omega (arith, h)) ∙ byte_at-is (suc m) v
    ∙ ap (λ x. x % 256) (ap (λ d. v / d) (pow-succ' 256 m) ∙ sym (div-div-eq-div-mul v 256 (256 ^ m))) ∙ sym (byte_at-is m (v / 256))) in
    rw (low, rest) (omega arith)

module _ (w : Width) (n : ℕ) (lane : ℕ → ℕ) (room bytes : List ℕ) (long : length bytes ≡ 32) (wide : 32 ≤ length room) (fills : width_bytes w * n ≡ 32)
    (stored : (i m : ℕ) → i < n → m < width_bytes w → get_or bytes (width_bytes w * i + m) 0 ≡ byte_at m (lane i)) where
  k : ℕ
  k = width_bytes w

  ends : (j : ℕ) → j < n → k * j + k ≤ 32
  unfolding k
  ends j h =
      let up : width_bytes w * suc j ≤ width_bytes w * n = mul-le-mul_left (width_bytes w) h in
      omega (arith, up, fills, mul-suc (width_bytes w) j)

  -- an element of a vector whose bytes are the first in a list
  pub stored_element : (j : ℕ) → j < n → lane j < 2 ^ bits w → element (width_bytes w) (put_chunk 0 room bytes) j ≡ lane j
  unfolding k
  stored_element j h small =
      let all : List ℕ = put_chunk 0 room bytes in
      let ys : List ℕ = chunk (k * j) k all in
      let end : k * j + k ≤ 32 = ends j h in
      let ly : length ys ≡ k = length-chunk (k * j) k all (omega (arith, end, length-put_chunk 0 room bytes, wide)) in
      number_is ys (lane j) (rw (ly, sym (bytes_of_width w)) small) (λ m l.
      let inside : m < k = omega (arith, l, ly) in
      let place : 0 + (k * j + m) ≡ k * j + m = omega arith in
      get_or-chunk (k * j) k all m 0 inside
      ∙ ap (λ s. get_or all s 0) (sym place) ∙ get_or-put_chunk_at 0 room bytes (k * j + m) 0 (omega (arith, end, inside, long)) (omega (arith, end, inside, long, wide))
      ∙ stored j m h inside)

  -- the elements starting at an index
  pub moved_element : (by i : ℕ) → by + i < n → lane (by + i) < 2 ^ bits w → element (width_bytes w) (chunk (width_bytes w * by) 32 (put_chunk 0 room bytes)) i ≡ lane (by + i)
  unfolding k
  moved_element by i h small =
      let all : List ℕ = put_chunk 0 room bytes in
      let at : k * by + k * i ≡ k * (by + i) = sym (mul-add k by i) in
      let within : k * i + k ≤ 32 = omega (arith, ends (by + i) h, at) in
      ap (number_l 256) (chunk_of_chunk (k * by) 32 (k * i) k all within ∙ ap (λ s. chunk s k all) at) ∙ stored_element (by + i) h small

-- the number of elements in a chunk is a power of two
pub count_power : (w : Width) (n : ℕ) → width_bytes w * n ≡ 32 → (j : ℕ) × (n ≡ 2 ^ j)
count_power w8 n e = (5, omega (arith, e))
count_power w16 n e = (4, omega (arith, e))
count_power w32 n e = (3, omega (arith, e))
count_power w64 n e = (2, omega (arith, e))
count_power w128 n e = (1, omega (arith, e))

-- half of a power of two above 1 is a power of two
pub half_power : (n : ℕ) → 1 < n → (j : ℕ) × (n ≡ 2 ^ j) → ((j : ℕ) × (n / 2 ≡ 2 ^ j)) × (n ≡ n / 2 + n / 2)
half_power n h (zero, e) = absurd (let one : 2 ^ 0 ≡ 1 = refl in omega (arith, e, one, h))
half_power n h (suc j, e) = ((j, omega (arith, e, pow-suc 2 j)), omega (arith, e, pow-suc 2 j))

-- the number of bytes of an element in a chunk of n elements
pub bytes_in_chunk : (k n : ℕ) → k * n ≡ 32 → 32 / n ≡ k
bytes_in_chunk k n e = ap (λ x. x / n) (sym e) ∙ mul-div_cancel k (count_positive k n e)

-- a power of two that is at most 1 is 1
pub one_left : (n : ℕ) → n ≤ 1 → (j : ℕ) × (n ≡ 2 ^ j) → n ≡ 1
one_left n h (j, e) = omega (arith, h, e, pow_pos j)
