-- Consecutive elements, copied as one block of bytes.
use Rattle.std.proofs.Common.{ℕ, suc, ◌+◌, ◌-◌, ◌*◌, ◌<◌, ◌≤◌, ◌≡◌, true, false, cond, ◌&&◌, ◌||◌, nat_le, List, length, get_or, refl, sym, ap, ◌∙◌, arith, inl, inr, le-leb, le-ltb, lt-ltb, w8}
use Rattle.std.proofs.Math.Bool.{and-false, or-false}
use Rattle.std.proofs.Math.Nat.{mul-add, mul-le-mul_left, mul-suc}
use Rattle.std.proofs.lemmas.Bool.{cases_lt, lt-leb}
use Rattle.std.proofs.lemmas.Simd.{below_from_Fits, chunk-fits, get_or-chunk, get_or-put_chunk_above, get_or-put_chunk_at, get_or-put_chunk_below, length-chunk, length-put_chunk, put_chunk_is}
use Rattle.std.specs.Int.{byte_at}
use borrow.Rule.Slice.PartMut.{put_mid}
use lib.Lanes.{chunk}
use Rattle.rv_model.specs.elements.Elements.{element, in_range}
use Rattle.rv_model.specs.lending.Writes.{Writes}
use Rattle.rv_model.proofs.element_lemmas.Writes.{byte_at-is, writes_same, writes_then}
use Rattle.lane_arith.proofs.MaskBits.{byte_of_number}

-- a byte of an element
element_byte : (k i m : ℕ) (xs : List ℕ) → ((j : ℕ) → get_or xs j 0 < 256) → k * i + k ≤ length xs → m < k
    → byte_at m (element k xs i) ≡ get_or xs (k * i + m) 0
element_byte k i m xs fits room h =
    let ys : List ℕ = chunk (k * i) k xs in
    let long : length ys ≡ k = length-chunk (k * i) k xs room in
    byte_at-is m (element k xs i)
    ∙ byte_of_number ys m (below_from_Fits w8 ys (chunk-fits w8 (k * i) k xs (λ j. record { fits = fits j }))) (omega (arith, long, h))
    ∙ get_or-chunk (k * i) k xs m 0 h

-- the elements of a list starting at `from`, written to the elements of another list from `start` up to `end`
pub block_moved : (k from start end : ℕ) (a old ys : List ℕ) → ((j : ℕ) → get_or a j 0 < 256) → start < end
    → k * (from + (end - start)) ≤ length a → k * end ≤ length old → ys ≡ chunk (k * from) (k * (end - start)) a
    → Writes k (in_range start end) (λ i. element k a (from + (i - start))) old (put_mid (k * start) (k * end - k * start) old ys)
block_moved k from start end a old ys fits some has room is =
    let count : ℕ = end - start in
    let reach : k * from + k * count ≤ length a = omega (arith, mul-add k from count, has) in
    let long : length ys ≡ k * count = ap length is ∙ length-chunk (k * from) (k * count) a reach in
    let split : start + count ≡ end = omega (arith, some) in
    let whole : k * start + k * count ≡ k * end = sym (mul-add k start count) ∙ ap (λ x. k * x) split in
    let size : k * end - k * start ≡ length ys = omega (arith, whole, long) in
    let inside : k * start + length ys ≤ length old = omega (arith, whole, long, room) in
    rw (size, ← put_chunk_is (k * start) old ys inside) (record {
      same_length = length-put_chunk (k * start) old ys;
      bytes = λ e m h l. elim (cases_lt e start) [
        | inl low ↦
            let up : k * suc e ≤ k * start = mul-le-mul_left k low in
            rw (lt-leb start e low) (get_or-put_chunk_below (k * start) old ys (k * e + m) 0 (omega (arith, mul-suc k e, up, h)))
        | inr past ↦ elim (cases_lt e end) [
          | inl inner ↦
              let i : ℕ = e - start in
              let there : start + i ≡ e = omega (arith, past) in
              let place : k * start + (k * i + m) ≡ k * e + m = omega (arith, mul-add k start i, ap (λ x. k * x) there) in
              let more : k * suc i ≤ k * count = mul-le-mul_left k (omega (arith, inner, past)) in
              let short : k * i + m < k * count = omega (arith, mul-suc k i, more, h) in
              let within : k * (from + i) + k ≤ length a = omega (arith, mul-add k from i, mul-suc k i, more, reach) in
              let source : k * from + (k * i + m) ≡ k * (from + i) + m = omega (arith, mul-add k from i) in
              rw (le-leb start e past, lt-ltb e end inner, ← place)
              (get_or-put_chunk_at (k * start) old ys (k * i + m) 0 (omega (arith, long, short)) inside
              ∙ ap (λ zs. get_or zs (k * i + m) 0) is ∙ get_or-chunk (k * from) (k * count) a (k * i + m) 0 short
              ∙ ap (λ x. get_or a x 0) source ∙ sym (element_byte k (from + i) m a fits within h))
          | inr high ↦
              let up : k * end ≤ k * e = mul-le-mul_left k high in
              rw (le-leb start e past, le-ltb e end high)
              (get_or-put_chunk_above (k * start) old ys (k * e + m) 0 (omega (arith, whole, long, up)))
        ]
      ];
    })

-- moved elements, followed by elements filled with one number
pub then_filled : (k start to end v : ℕ) (moved number : ℕ → ℕ) (old mid new : List ℕ) → to ≤ end → ((i : ℕ) → to ≤ i → i < end → start ≤ i)
    → ((i : ℕ) → start ≤ i → i < to → number i ≡ moved i) → ((i : ℕ) → to ≤ i → i < end → number i ≡ v)
    → Writes k (in_range start to) moved old mid → Writes k (in_range to end) (λ i. v) mid new → Writes k (in_range start end) number old new
then_filled k start to end v moved number old mid new within from first rest one two =
    writes_same k (λ e. in_range start to e || in_range to end e) (in_range start end) (λ e. cond (in_range to end e) v (moved e)) number old new
    (writes_then k (in_range start to) (in_range to end) moved (λ i. v) old mid new one two) (λ e l. cover e) (λ e h. numbers e h)
  where
    cover : (e : ℕ) → in_range start end e ≡ (in_range start to e || in_range to end e)
    cover e = elim (cases_lt e to) [
      | inl low ↦ rw (lt-leb to e low, lt-ltb e to low, lt-ltb e end (omega (arith, low, within))) (sym (or-false (nat_le start e && true)))
      | inr high ↦ elim (cases_lt e end) [
        | inl inner ↦ rw (le-ltb e to high, le-leb to e high, lt-ltb e end inner, le-leb start e (from e high inner)) refl
        | inr past ↦ rw (le-ltb e to high, le-leb to e high, le-ltb e end past) (sym (or-false (nat_le start e && false)))
      ]
    ]

    numbers : (e : ℕ) → (in_range start to e || in_range to end e) ≡ true → number e ≡ cond (in_range to end e) v (moved e)
    numbers e h = elim (cases_lt e to) [
      | inl low ↦ elim (cases_lt e start) [
        | inl before ↦ (let no = rw (lt-leb to e low, lt-leb start e before) at h in absurd (cc))
        | inr behind ↦ rw (lt-leb to e low) (first e behind low)
      ]
      | inr high ↦ elim (cases_lt e end) [
        | inl inner ↦ rw (le-leb to e high, lt-ltb e end inner) (rest e high inner)
        | inr past ↦ (let no = sym (or-false (nat_le start e && false) ∙ and-false (nat_le start e)) ∙ (rw (le-ltb e to high, le-leb to e high, le-ltb e end past) at h) in absurd (cc))
      ]
    ]
