-- Elements and mask bits of vector registers, the sets of elements that an instruction changes, and lists of bytes with some elements or
-- bits replaced. See "V" Vector Extension 1.0, sections 3.4.3, 4.1, 4.5, 5.3 and 5.4. In a list of bytes element 0 is first, and each
-- element has its least significant byte first.
use Rattle.std.specs.Prelude.{ℕ, ◌+◌, ◌*◌, ◌/◌, ◌%◌, ◌^◌, ◌==◌, ◌&&◌, ◌||◌, nat_le, nat_lt, not, Bool, List, slice_index, if◌then◌else◌, length, map}
use Rattle.std.specs.Int.{from_bool, byte_at}
use Rattle.std.specs.List.{list_any, range_with_len}
use Rattle.std.specs.Simd.Lanes.{chunk}
use lib.Lanes.{number_l}

-- element i, of k bytes: the number in the k bytes from k * i on
abbrev pub element : ℕ → List ℕ → ℕ → ℕ
element k bytes i = number_l 256 (chunk (k * i) k bytes)

-- bit i of a list of bytes, the least significant bit of each byte first
abbrev pub mask_bit : List ℕ → ℕ → Bool
mask_bit bytes i = slice_index bytes (i / 8) / 2 ^ (i % 8) % 2 == 1

-- the byte with these bits, the least significant first
abbrev pub byte_of_bits : (ℕ → Bool) → ℕ
byte_of_bits bit =
    from_bool (bit 0) + 2 * from_bool (bit 1) + 4 * from_bool (bit 2) + 8 * from_bool (bit 3)
    + 16 * from_bool (bit 4) + 32 * from_bool (bit 5) + 64 * from_bool (bit 6) + 128 * from_bool (bit 7)

-- whether i is at least `start` and less than `end`
abbrev pub in_range : ℕ → ℕ → ℕ → Bool
in_range start end i = nat_le start i && nat_lt i end

-- The body of an instruction: the elements from vstart up to vl. Its active elements are those that the mask enables, or all if the
-- instruction isn't masked.
pub record Body : Type 0 where
  pub unmasked : Bool
  pub mask : List ℕ
  pub start : ℕ
  pub end : ℕ

-- whether element i is in the body
abbrev pub in_body : Body → ℕ → Bool
in_body body i = in_range body.start body.end i

-- whether the mask enables element i; always, if the instruction isn't masked
abbrev pub is_enabled : Body → ℕ → Bool
is_enabled body i = body.unmasked || mask_bit body.mask i

-- whether element i is active
abbrev pub is_active : Body → ℕ → Bool
is_active body i = in_body body i && is_enabled body i

-- whether a test holds for some active element
abbrev pub some_active : Body → (ℕ → Bool) → Bool
some_active body test = list_any (λ i. is_active body i && test i) (range_with_len 0 body.end)

-- Whether element i of a destination changes. Active elements do. Two flags select whether masked-off elements of the body, and tail
-- elements past the body, change to all ones. All other elements are undisturbed.
abbrev pub is_changed : Body → Bool → Bool → ℕ → Bool
is_changed body fill_masked_off fill_tail i =
    is_active body i
    || ((fill_masked_off && (in_body body i && not (is_enabled body i))) || (fill_tail && nat_le body.end i))

-- the new value of an element that changes: the result if it is active, otherwise all ones
abbrev pub result_or_ones : Body → (ℕ → ℕ) → ℕ → ℕ → ℕ
result_or_ones body result ones i = if is_active body i then result i else ones

-- byte m of element e, where the elements have k bytes: from `number` if the element changes, otherwise unchanged
abbrev pub byte_or : (ℕ → Bool) → (ℕ → ℕ) → List ℕ → ℕ → ℕ → ℕ → ℕ
byte_or changed number old k e m = if changed e then byte_at m (number e) else slice_index old (k * e + m)

-- the bytes with the elements that change, of k bytes each, replaced by these numbers modulo 2 ^ (8 * k)
unfoldable pub written : ℕ → (ℕ → Bool) → (ℕ → ℕ) → List ℕ → List ℕ
written k changed number old = map (λ at. byte_or changed number old k (at / k) (at % k)) (range_with_len 0 (length old))

-- bit i: the new bit if it changes, otherwise unchanged
abbrev pub bit_or : (ℕ → Bool) → (ℕ → Bool) → List ℕ → ℕ → Bool
bit_or changed bit old i = if changed i then bit i else mask_bit old i

-- byte q with the bits that change replaced
abbrev pub byte_with_bits : (ℕ → Bool) → (ℕ → Bool) → List ℕ → ℕ → ℕ
byte_with_bits changed bit old q = byte_of_bits (λ j. bit_or changed bit old (8 * q + j))

-- the bytes with the bits that change replaced
unfoldable pub written_bits : (ℕ → Bool) → (ℕ → Bool) → List ℕ → List ℕ
written_bits changed bit old = map (byte_with_bits changed bit old) (range_with_len 0 (length old))
