-- Laws about replacing some bits in a list of bytes, one byte after another.
use Rattle.std.proofs.Common.{ℕ, ◌+◌, ◌*◌, ◌/◌, ◌%◌, ◌^◌, ◌<◌, ◌≤◌, ◌≡◌, List, length, get_or, set, Bool, true, cond, ◌==◌, nat_lt, refl, sym, ap, ◌∙◌, arith, inl, inr, lt-ltb, le-ltb, get_or-set_other, length-set, zero-add}
use Rattle.std.specs.Int.{from_bool}
use Rattle.std.proofs.lemmas.Bool.{cases_order}
use Rattle.std.proofs.lemmas.Grind.{same_number_lists}
use Rattle.std.proofs.lemmas.List.{get_or-set_same}
use Rattle.std.proofs.lemmas.List.FromFn.{get_or-map-range_with_len, length-map-range_with_len}
use Rattle.rv_model.specs.elements.Elements.{mask_bit, byte_of_bits, bit_or, byte_with_bits, written_bits}
use Rattle.rv_model.specs.lending.Writes.{WritesBits}
use Rattle.rv_model.proofs.Choices.{of_bool}

-- ---- the bits of a byte

one_bit : (n : ℕ) → from_bool (n % 2 == 1) ≡ n % 2
one_bit n = search arith

-- the byte with the bits of a byte is that byte
byte_of_own : (x : ℕ) → x < 256 → byte_of_bits (λ j. x / 2 ^ j % 2 == 1) ≡ x
byte_of_own x h = search (arith, one_bit)

pub mask_bit_in : (bytes : List ℕ) (q j : ℕ) → j < 8 → mask_bit bytes (8 * q + j) ≡ (get_or bytes q 0 / 2 ^ j % 2 == 1)
mask_bit_in bytes q j h = search arith

pub same_byte : (f g : ℕ → Bool) → ((j : ℕ) → j < 8 → f j ≡ g j) → byte_of_bits f ≡ byte_of_bits g
same_byte f g same = search arith

-- ---- one byte after another

module _ (changed bit : ℕ → Bool) where
  -- the bytes before the index q are replaced, and all others are unchanged
  pub record RebuiltTo (q : ℕ) (old new : List ℕ) : Type 0 where
    pub same_length : length new ≡ length old
    pub bytes : (x : ℕ) → x < length old → get_or new x 0 ≡ cond (nat_lt x q) (byte_with_bits changed bit old x) (get_or old x 0)

  -- a byte that isn't replaced yet has the same new bits
  byte_same : (q : ℕ) (old mid : List ℕ) → q < length old → RebuiltTo q old mid → byte_with_bits changed bit mid q ≡ byte_with_bits changed bit old q
  byte_same q old mid h was =
      let here : get_or mid q 0 ≡ get_or old q 0 = was.bytes q h ∙ ap (λ t. cond t (byte_with_bits changed bit old q) (get_or old q 0)) (le-ltb q q (omega arith)) in
      same_byte (λ j. bit_or changed bit mid (8 * q + j)) (λ j. bit_or changed bit old (8 * q + j))
      (λ j l. ap (cond (changed (8 * q + j)) (bit (8 * q + j))) (mask_bit_in mid q j l ∙ ap (λ x. x / 2 ^ j % 2 == 1) here ∙ sym (mask_bit_in old q j l)))

  pub rebuild_step : (q : ℕ) (old mid new : List ℕ) → q < length old → RebuiltTo q old mid → new ≡ set mid q (byte_with_bits changed bit mid q) → RebuiltTo (q + 1) old new
  rebuild_step q old mid new h was e = record {
    same_length = rw e (length-set mid q _) ∙ was.same_length;
    bytes = λ x l. elim (cases_order x q) [
      | inl is ↦ rw (e, is, get_or-set_same mid q _ 0 (omega (arith, h, was.same_length)), lt-ltb q (q + 1) (omega arith)) (byte_same q old mid h was)
      | inr (inl low) ↦
          rw (e, get_or-set_other mid q x _ 0 (λ z. omega (arith, low, z)), lt-ltb x (q + 1) (omega (arith, low)))
          (was.bytes x l ∙ ap (λ t. cond t (byte_with_bits changed bit old x) (get_or old x 0)) (lt-ltb x q low))
      | inr (inr high) ↦
          rw (e, get_or-set_other mid q x _ 0 (λ z. omega (arith, high, z)), le-ltb x (q + 1) (omega (arith, high)))
          (was.bytes x l ∙ ap (λ t. cond t (byte_with_bits changed bit old x) (get_or old x 0)) (le-ltb x q (omega (arith, high))))
    ];
  }

  -- the replacement of a byte past the last changed bit is the byte itself
  pub byte_kept : (q end : ℕ) (old : List ℕ) → get_or old q 0 < 256 → ((i : ℕ) → changed i ≡ true → i < end) → end ≤ 8 * q
      → get_or old q 0 ≡ byte_with_bits changed bit old q
  byte_kept q end old byte past h = search (arith, byte_of_own, mask_bit_in, of_bool, same_byte)

  -- ---- the resulting bytes

  pub writes_bits_are : (old new : List ℕ) → WritesBits changed bit old new → new ≡ written_bits changed bit old
  unfolding written_bits
  writes_bits_are old new w =
      let f : ℕ → ℕ = byte_with_bits changed bit old in
      same_number_lists new (written_bits changed bit old) (w.same_length ∙ sym (length-map-range_with_len f 0 (length old)))
      (λ j h.
      let l : j < length old = omega (arith, w.same_length, h) in
      w.bytes j l ∙ sym (get_or-map-range_with_len f 0 (length old) j j 0 l (zero-add j)))

-- two functions that agree on the changed bits write the same bits
pub same_bits : (changed computed bit : ℕ → Bool) (old new : List ℕ) → ((i : ℕ) → changed i ≡ true → computed i ≡ bit i) → WritesBits changed computed old new → WritesBits changed bit old new
same_bits changed computed bit old new same was = record {
  same_length = was.same_length;
  bytes = λ q h. was.bytes q h ∙ same_byte (λ j. bit_or changed computed old (8 * q + j)) (λ j. bit_or changed bit old (8 * q + j)) (λ j l.
      of_bool (changed (8 * q + j)) (λ c. cond c (computed (8 * q + j)) (mask_bit old (8 * q + j)) ≡ cond c (bit (8 * q + j)) (mask_bit old (8 * q + j)))
      (same (8 * q + j)) (λ e. refl));
}
