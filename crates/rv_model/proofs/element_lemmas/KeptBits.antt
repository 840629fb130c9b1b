-- Bits of the register file that a write of elements, or of bits, doesn't change.
use Rattle.std.proofs.Common.{◌≡◌, ◌∙◌, ◌⊎◌, ap, refl, sym, ℕ, ◌+◌, ◌-◌, ◌*◌, ◌/◌, ◌%◌, ◌^◌, ◌==◌, ◌<◌, ◌≤◌, Bool, false, cond, List, length, get_or, drop, arith, length-drop, zero-add}
use Rattle.std.specs.Int.{from_bool}
use Rattle.std.proofs.lemmas.Bool.{cases_lt}
use Rattle.std.proofs.lemmas.List.{length-take}
use Rattle.std.proofs.lemmas.List.FromFn.{get_or-map-range_with_len, length-map-range_with_len}
use Rattle.std.proofs.lemmas.Simd.{get_or-chunk, get_or-put_chunk_above, get_or-put_chunk_at, get_or-put_chunk_below}
use Rattle.std.proofs.Math.Nat.{div-add-mod, div-div-eq-div-mul, mod-lt}
use mir.Val.{bits}
use Rattle.std.proofs.lemmas.Bool.Decides.{nat_tests}
use Rattle.rv_model.specs.elements.Elements.{bit_or, byte_of_bits, byte_or, byte_with_bits, mask_bit, written, written_bits}
use Rattle.rv_model.specs.lending.Writes.{Writes}
use Rattle.rv_model.specs.vector.Groups.{GroupType, group_of, registers, width_bytes, with_group}
use Rattle.rv_model.proofs.element_lemmas.Bits.{mask_bit_in}
use Rattle.rv_model.proofs.element_lemmas.Widths.{bytes_positive, whole_bytes}
use Rattle.rv_model.proofs.element_lemmas.Writes.{written_are}

-- the bits of one byte
same_bit : (xs ys : List ℕ) (n : ℕ) → get_or xs (n / 8) 0 ≡ get_or ys (n / 8) 0 → mask_bit xs n ≡ mask_bit ys n
same_bit xs ys n e = ap (λ (b : ℕ). b / 2 ^ (n % 8) % 2 == 1) e

-- ---- the bytes of a written group

pub group_length : (file : List ℕ) (vd emul : ℕ) → length file ≡ 1024 → (length (group_of file vd emul) ≤ 32 * registers emul) × (length (group_of file vd emul) ≤ 1024 - 32 * vd)
group_length file vd emul long =
    let whole = length-take (32 * registers emul) (drop (32 * vd) file) in
    (omega (arith, whole), omega (arith, whole, length-drop (32 * vd) file ∙ ap (λ (m : ℕ). m - 32 * vd) long))

module _ (file bytes : List ℕ) (vd emul : ℕ) (long : length file ≡ 1024) (size : length bytes ≡ length (group_of file vd emul)) where
  -- a property of the byte at an index holds after the write if it holds before and the write preserves it in the group
  by_place : (P : ℕ → Type 0) (byte : ℕ) → P (get_or file byte 0)
      → (32 * vd ≤ byte → byte - 32 * vd < length (group_of file vd emul) → P (get_or (group_of file vd emul) (byte - 32 * vd) 0) → P (get_or bytes (byte - 32 * vd) 0))
      → P (get_or (with_group file vd bytes) byte 0)
  by_place P byte old kept =
      search (arith, cases_lt, get_or-chunk, get_or-put_chunk_above, get_or-put_chunk_at, get_or-put_chunk_below, group_length, registers)

  pub beside : (count : ℕ) → registers emul ≤ count → (k : ℕ) → (k < 32 * vd) ⊎ (32 * (vd + count) ≤ k) → get_or (with_group file vd bytes) k 0 ≡ get_or file k 0
  beside count fits k out = search (arith, get_or-put_chunk_above, get_or-put_chunk_below, group_length)

-- ---- elements

-- a bit of the group belongs to an element that doesn't change
abbrev pub Unchanged : ℕ → ℕ → ℕ → (ℕ → Bool) → ℕ → Type 0
Unchanged vd count eew changed n = 256 * vd ≤ n → n < 256 * (vd + count) → changed ((n - 256 * vd) / eew) ≡ false

element_of_byte : (k n vd b : ℕ) → b ≡ 8 * k → 32 * vd ≤ n / 8 → (n - 256 * vd) / b ≡ (n / 8 - 32 * vd) / k
element_of_byte k n vd b is from =
    ap (λ (m : ℕ). (n - 256 * vd) / m) is ∙ sym (div-div-eq-div-mul (n - 256 * vd) 8 k) ∙ ap (λ (m : ℕ). m / k) (omega (arith, from))

-- the bytes of such elements
pub bytes_kept : (file : List ℕ) (g : GroupType) (vd : ℕ) (changed : ℕ → Bool) (number : ℕ → ℕ) (byte : ℕ) → length file ≡ 1024
    → (32 * vd ≤ byte → byte - 32 * vd < length (group_of file vd g.emul) → changed ((byte - 32 * vd) / width_bytes g.width) ≡ false)
    → get_or (with_group file vd (written (width_bytes g.width) changed number (group_of file vd g.emul))) byte 0 ≡ get_or file byte 0
bytes_kept file g vd changed number byte long unchanged =
    let k : ℕ = width_bytes g.width in
    let group : List ℕ = group_of file vd g.emul in
    let w : Writes k changed number group (written k changed number group) = written_are k changed number group (bytes_positive g.width) in
    by_place file (written k changed number group) vd g.emul long w.same_length (λ (b : ℕ). b ≡ get_or file byte 0) byte refl (λ from inside old.
    let j : ℕ = byte - 32 * vd in
    let e : k * (j / k) + j % k ≡ j = div-add-mod j k in
    sym (ap (λ (m : ℕ). get_or (written k changed number group) m 0) e) ∙ w.bytes (j / k) (j % k) (mod-lt j (bytes_positive g.width)) (omega (arith, e, inside))
    ∙ (ap (λ (b : Bool). byte_or (λ (x : ℕ). b) number group k (j / k) (j % k)) (unchanged from inside) ∙ ap (λ (m : ℕ). get_or group m 0) e) ∙ old)

pub elements_kept : (file : List ℕ) (g : GroupType) (vd count : ℕ) (changed : ℕ → Bool) (number : ℕ → ℕ) (n : ℕ) → length file ≡ 1024 → registers g.emul ≤ count
    → Unchanged vd count (bits g.width) changed n
    → mask_bit (with_group file vd (written (width_bytes g.width) changed number (group_of file vd g.emul))) n ≡ mask_bit file n
elements_kept file g vd count changed number n long fits unchanged = search (arith, bytes_kept, element_of_byte, group_length, same_bit, whole_bytes)

-- ---- bits

one : (b : Bool) → from_bool b ≤ 1
one b = search arith

is_one : (b : Bool) → (from_bool b == 1) ≡ b
is_one b = search (arith, nat_tests)

-- bit r of the byte with these bits
module _ (f : ℕ → Bool) where
  bit_by : from_bool (f 0) ≤ 1 → from_bool (f 1) ≤ 1 → from_bool (f 2) ≤ 1 → from_bool (f 3) ≤ 1 → from_bool (f 4) ≤ 1 → from_bool (f 5) ≤ 1
      → from_bool (f 6) ≤ 1 → from_bool (f 7) ≤ 1 → (r : ℕ) → r < 8 → byte_of_bits f / 2 ^ r % 2 ≡ from_bool (f r)
  bit_by h0 h1 h2 h3 h4 h5 h6 h7 r h = search arith

  bit_is : (r : ℕ) → r < 8 → (byte_of_bits f / 2 ^ r % 2 == 1) ≡ f r
  bit_is r h = search (bit_by, is_one, one)

pub bits_kept : (file : List ℕ) (vd count : ℕ) (changed bit : ℕ → Bool) (n : ℕ) → length file ≡ 1024 → 1 ≤ count → Unchanged vd count 1 changed n
    → mask_bit (with_group file vd (written_bits changed bit (group_of file vd 8))) n ≡ mask_bit file n
unfolding written_bits
bits_kept file vd count changed bit n long fits unchanged =
    let new : List ℕ = written_bits changed bit (group_of file vd 8) in
    let f : ℕ → ℕ = byte_with_bits changed bit (group_of file vd 8) in
    let size : length new ≡ length (group_of file vd 8) = length-map-range_with_len f 0 (length (group_of file vd 8)) in
    by_place file new vd 8 long size (λ (b : ℕ). (b / 2 ^ (n % 8) % 2 == 1) ≡ mask_bit file n) (n / 8) refl (λ from inside old.
    let j : ℕ = (n / 8) - 32 * vd in
    let low : (n % 8) < 8 = omega arith in
    let here : changed (8 * j + (n % 8)) ≡ false =
    sym (ap changed (omega (arith, from))) ∙ unchanged (omega (arith, from)) (omega (arith, from, inside, (group_length file vd 8 long).0, fits)) in
    let put : get_or new j 0 ≡ f j = get_or-map-range_with_len f 0 (length (group_of file vd 8)) j j 0 inside (zero-add j) in
    ap (λ (b : ℕ). b / 2 ^ (n % 8) % 2 == 1) put ∙ bit_is (λ i. bit_or changed bit (group_of file vd 8) (8 * j + i)) (n % 8) low
    ∙ ap (λ (b : Bool). cond b (bit (8 * j + (n % 8))) (mask_bit (group_of file vd 8) (8 * j + (n % 8)))) here ∙ mask_bit_in (group_of file vd 8) j (n % 8) low ∙ old)
