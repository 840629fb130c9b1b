-- Replacement of a mask's bits, four bytes at a time.
use Rattle.std.proofs.Common.{ℕ, ◌+◌, ◌-◌, ◌*◌, ◌/◌, ◌%◌, ◌^◌, ◌<◌, ◌≤◌, ◌≡◌, ◌==◌, List, [], ◌∷◌, length, get_or, Bool, true, false, cond, not, refl, sym, ap, ◌∙◌, arith, inl, inr, lit<, lt-ltb, le-ltb, zero-add}
use Rattle.std.proofs.lemmas.Bool.{cases_lt}
use Rattle.std.proofs.lemmas.Bool.Decides.{nat_tests}
use Rattle.std.proofs.lemmas.Nat.{pow-add}
use Rattle.std.proofs.lemmas.Simd.{length-put_chunk, get_or-put_chunk_at, get_or-put_chunk_below, get_or-put_chunk_above}
use Rattle.std.proofs.Math.Nat.{div-div-eq-div-mul, div-one, mod-lt}
use Rattle.std.specs.Int.{byte_at, bytes_low_first}
use lib.Lanes.{put_chunk}
use Rattle.rv_model.specs.elements.Elements.{element, mask_bit, byte_of_bits, bit_or, byte_with_bits}
use Rattle.rv_model.specs.lending.Writes.{WritesBits}
use Rattle.rv_model.proofs.element_lemmas.Bits.{RebuiltTo, byte_kept, same_byte}
use Rattle.rv_model.proofs.element_lemmas.Reads.{bytes_power}
use Rattle.rv_model.proofs.element_lemmas.Writes.{byte_at-is, get_or-bytes, length-bytes}
use Rattle.lane_arith.proofs.MaskBits.{low_bit, word_bit}

-- a byte is the number that its bits represent
pub byte_of_own : (y : ℕ) → y < 256 → y ≡ byte_of_bits (λ j. y / 2 ^ j % 2 == 1)
byte_of_own y h = byte_kept (λ i. false) (λ i. false) 0 0 (y ∷ []) h (λ i e. absurd (cc)) (omega arith)

-- bit j of byte m of a 32-bit word
bit_of_byte : (word m j : ℕ) → j < 8 → byte_at m word / 2 ^ j % 2 ≡ word / 2 ^ (8 * m + j) % 2
bit_of_byte word m j h =
    let split : 256 ^ m * 2 ^ j ≡ 2 ^ (8 * m + j) = ap (λ x. x * 2 ^ j) (sym (bytes_power m)) ∙ sym (pow-add 2 (8 * m) j) in
    ap (λ y. y / 2 ^ j % 2) (byte_at-is m word) ∙ low_bit (word / 256 ^ m) 8 j h
    ∙ ap (λ y. y % 2) (div-div-eq-div-mul word (256 ^ m) (2 ^ j) ∙ ap (λ y. word / y) split)

module _ (changed bit : ℕ → Bool) (w word : ℕ) (old mid : List ℕ) (room : 4 * w + 4 ≤ length old) (was : RebuiltTo changed bit (4 * w) old mid) where
  -- byte m of the word is the byte with its active bits replaced
  wanted : (m : ℕ) → m < 4 → ((i : ℕ) → i < 32 → (word / 2 ^ i % 2 == 1) ≡ bit_or changed bit old (32 * w + i))
      → byte_at m word ≡ byte_with_bits changed bit old (4 * w + m)
  wanted m h known =
      let y : ℕ = byte_at m word in
      let small : y < 256 = rw (byte_at-is m word) (mod-lt (word / 256 ^ m) (lit< tt)) in
      byte_of_own y small
      ∙ same_byte (λ j. y / 2 ^ j % 2 == 1) (λ j. bit_or changed bit old (8 * (4 * w + m) + j))
      (λ j l.
      let at : 32 * w + (8 * m + j) ≡ 8 * (4 * w + m) + j = omega arith in
      ap (λ x. x == 1) (bit_of_byte word m j l) ∙ known (8 * m + j) (omega (arith, h, l)) ∙ ap (bit_or changed bit old) at)

  -- one more word of four bytes
  pub rebuild_word : (new : List ℕ) → new ≡ put_chunk (4 * w) mid (bytes_low_first 0 4 word)
      → ((i : ℕ) → i < 32 → (word / 2 ^ i % 2 == 1) ≡ bit_or changed bit old (32 * w + i)) → RebuiltTo changed bit (4 * (w + 1)) old new
  rebuild_word new is known =
      let ys : List ℕ = bytes_low_first 0 4 word in
      let long : length ys ≡ 4 = length-bytes 0 4 word in
      let same : length mid ≡ length old = was.same_length in
      record {
        same_length = ap length is ∙ length-put_chunk (4 * w) mid ys ∙ same;
        bytes = λ x l. elim (cases_lt x (4 * w)) [
          | inl low ↦
              rw (is, get_or-put_chunk_below (4 * w) mid ys x 0 low, lt-ltb x (4 * (w + 1)) (omega (arith, low)))
              (was.bytes x l ∙ ap (λ t. cond t (byte_with_bits changed bit old x) (get_or old x 0)) (lt-ltb x (4 * w) low))
          | inr high ↦ elim (cases_lt x (4 * w + 4)) [
            | inl within ↦
                let m : ℕ = x - 4 * w in
                let at : x ≡ 4 * w + m = omega (arith, high) in
                let few : m < 4 = omega (arith, high, within) in
                rw (is, lt-ltb x (4 * (w + 1)) (omega (arith, within)), at, get_or-put_chunk_at (4 * w) mid ys m 0 (omega (arith, few, long)) (omega (arith, room, same, long)))
                (get_or-bytes 0 4 word m few ∙ ap (λ n. byte_at n word) (zero-add m) ∙ wanted m few known)
            | inr past ↦
                rw (is, get_or-put_chunk_above (4 * w) mid ys x 0 (omega (arith, past, long)), le-ltb x (4 * (w + 1)) (omega (arith, past)))
                (was.bytes x l ∙ ap (λ t. cond t (byte_with_bits changed bit old x) (get_or old x 0)) (le-ltb x (4 * w) high))
          ]
        ];
      }

  -- each bit of the next word is unchanged
  pub old_bit : (i : ℕ) → i < 32 → mask_bit mid (32 * w + i) ≡ mask_bit old (32 * w + i)
  old_bit i h =
      let at : ℕ = (32 * w + i) / 8 in
      let from : 4 * w ≤ at = omega arith in
      let inside : at < length old = omega (arith, h, room) in
      let here : get_or mid at 0 ≡ get_or old at 0 =
      was.bytes at inside ∙ ap (λ t. cond t (byte_with_bits changed bit old at) (get_or old at 0)) (le-ltb at (4 * w) from) in
      ap (λ y. y / 2 ^ ((32 * w + i) % 8) % 2 == 1) here

-- bit i of a mask's 32-bit word w
pub bit_of_word : (mask : List ℕ) (w i : ℕ) → 4 * w + 4 ≤ length mask → ((j : ℕ) → get_or mask j 0 < 256) → i < 32
    → (element 4 mask w / 2 ^ i % 2 == 1) ≡ mask_bit mask (32 * w + i)
bit_of_word mask w i room fits h =
    let q : 32 * w / 32 ≡ w = omega arith in
    let r : 32 * w % 32 ≡ 0 = omega arith in
    let known = word_bit mask (32 * w) 32 i (rw q room) fits (omega (arith, r)) h in
    let plain = rw (q, r) at known in
    flip (element 4 mask w / 2 ^ i) (mask_bit mask (32 * w + i)) (ap (λ x. x / 2 ^ i % 2 == 0) (sym (div-one (element 4 mask w))) ∙ plain)
  where
    flip : (x : ℕ) (b : Bool) → (x % 2 == 0) ≡ not b → (x % 2 == 1) ≡ b
    flip x true e = grind (arith, nat_tests)
    flip x false e = grind (arith, nat_tests)

-- the bit of a word with its active bits replaced
pub picked : (c b o : Bool) (a n : Bool) {x y : Bool} → x ≡ cond a y (not n) → a ≡ not c → (c ≡ true → n ≡ not b) → y ≡ o → x ≡ cond c b o
picked true true o a n e f g h = rw (e, f, g refl) refl
picked true false o a n e f g h = rw (e, f, g refl) refl
picked false b o a n e f g h = rw (e, f, h) refl

-- the bytes below q are replaced, and replacement doesn't change those from q on
pub rebuild_rest : (changed bit : ℕ → Bool) (q : ℕ) (old new : List ℕ)
    → ((x : ℕ) → x < length old → q ≤ x → get_or old x 0 ≡ byte_with_bits changed bit old x) → RebuiltTo changed bit q old new
    → WritesBits changed bit old new
rebuild_rest changed bit q old new rest was = record {
  same_length = was.same_length;
  bytes = λ x h. elim (cases_lt x q) [
    | inl low ↦ was.bytes x h ∙ ap (λ t. cond t (byte_with_bits changed bit old x) (get_or old x 0)) (lt-ltb x q low)
    | inr high ↦
        was.bytes x h ∙ ap (λ t. cond t (byte_with_bits changed bit old x) (get_or old x 0)) (le-ltb x q high) ∙ rest x h high
  ];
}
